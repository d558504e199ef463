-- The lines that the master's step puts on the link with a backend, and what they are to one name.
use Rattle.std.specs.Prelude.{◌≡◌, ℕ, true, nat_eq, not, if◌then◌else◌, List, [], ◌∷◌, Option, None, Some}
use Rattle.std.specs.Cmp.Lexicographic.{pointwise}
use Rattle.std.specs.List.{flat_map, list_all, AllByRecursion}
use Rattle.std.specs.Ordering.{nat_cmp}
use Rattle.std.specs.Cmp.Lexicographic.{slice_cmp}
use Rattle.mur_base.specs.Map.{IsInOrder}
use Rattle.text_parts.specs.Locations.{bang}
use Rattle.link_msg.specs.declared.message.LinkMsg.{LinkMsg}
use Rattle.link_msg.specs.declared.message.LinkMsg.TheVariants.{Line}
use Rattle.link_msg.specs.declared.out.Out.{Out}
use Rattle.link_msg.specs.declared.out.Out.TheVariants.{Link}
use Rattle.mupdate_codec.specs.declared.command.MCommand.{MCommand}
use Rattle.mupdate_codec.specs.declared.command.MResponse.{MResponse}
use Rattle.mupdate_codec.specs.declared.tag.Tag.{Tag}
use Rattle.mupdate_codec.specs.Responses.{IsSpelledResponse}
use Rattle.node_record.specs.Table.{MailboxTable}
use Rattle.master_core.specs.declared.sender.Sender.TheVariants.{Backend}
use Rattle.mupdate_codec.specs.Whole.{response_in}
use Rattle.master_core.specs.Replies.{reply_to}
use Rattle.home_law.specs.Items.{Server, Item, refused}
use Rattle.home_law.specs.LinkOk.{EachItem}
use Rattle.home_law.specs.ManyNames.{BackMessage}
use Rattle.name_flows.specs.OneName.{told_by}

abbrev pub told_if : Option (Tag × MResponse) → List BackMessage
told_if None = []
told_if (Some it) = told_by it.1

-- a line on the link, as ManyNames knows it
unfoldable pub told_in : List ℕ → List BackMessage
told_in bytes = told_if (response_in bytes)

-- the lines that outputs put on the link with a node

abbrev pub line_of_message : LinkMsg → List (List ℕ)
line_of_message (Line line) = line ∷ []
line_of_message message = []

abbrev pub line_to : List ℕ → Out → List (List ℕ)
line_to node (Link to message) = if pointwise nat_eq to node then line_of_message message else []
line_to node out = []

abbrev pub lines_to : List ℕ → List Out → List (List ℕ)
lines_to node outs = flat_map (line_to node) outs

-- the server's name has no `!`, so that it can be told from the partition
abbrev pub HasNoBang : List ℕ → Type 0
HasNoBang server = list_all (λ c. not (nat_eq c bang)) server ≡ true

-- a table in the order of its names, whose locations can be taken apart
pub record IsTable (table : MailboxTable) : Type 0 where
  pub order : IsInOrder (slice_cmp nat_cmp) table.records
  pub servers : AllByRecursion (λ entry. HasNoBang ((entry.1).place).server) table.records

-- some line is each answer
abbrev pub AreSpelled : Tag → List MResponse → Type 0
AreSpelled tag answers = AllByRecursion (λ it. IsSpelledResponse tag it) answers

abbrev pub told_all : List MResponse → List BackMessage
told_all responses = flat_map told_by responses

-- the answers to a backend's line
abbrev pub answers_to : MailboxTable → Server → MCommand → List MResponse
answers_to table b it = (reply_to table (Backend b) it).answers

-- nothing that the protocol of one name never refuses is refused
abbrev pub NoneRefused : List Item → Type 0
NoneRefused says = EachItem (λ x. x ≡ refused → ⊥) says
