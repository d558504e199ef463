-- What holds of a link: `home_law`'s invariant of each name, and that the responses answer the backend's lines in their order.
use Rattle.std.specs.Prelude.{◌≡◌, ◌≢◌, ℕ, ◌<◌, ◌^◌, Bool, true, false, is_some, List, [], ◌∷◌, map, Some}
use Rattle.std.specs.List.{AllByRecursion}
use Rattle.std.specs.Ordering.{nat_cmp}
use Rattle.std.specs.Cmp.Lexicographic.{slice_cmp}
use Rattle.mur_base.specs.Map.{IsInOrder}
use Rattle.mur_base.specs.declared.home.Location.{Location}
use Rattle.mupdate_codec.specs.declared.command.MCommand.{MCommand}
use Rattle.mupdate_codec.specs.declared.command.MResponse.{MResponse}
use Rattle.mupdate_codec.specs.declared.command.MResponse.TheVariants as response
use Rattle.mupdate_codec.specs.declared.tag.Tag.{Tag}
use Rattle.node_record.specs.declared.backend.BackendRecord.{BackendRecord}
use Rattle.home_law.specs.Items.{Server}
use Rattle.home_law.specs.Link.{see}
use Rattle.home_law.specs.LinkOk.{LinkOk}
use Rattle.home_law.specs.ManyNames.{Mailbox, SentLine as OpenLine, sent_reserve, with_line}
use Rattle.home_law.specs.Rows.{mine_of}
use Rattle.name_flows.specs.declared.ask.NameAsk.{NameAsk}
use Rattle.name_flows.specs.declared.flows.Flows.{Flows}
use Rattle.name_flows.specs.declared.sent.Sent.{Sent}
use Rattle.name_flows.specs.declared.sent.Sent.TheVariants.{List as List_line, Reserve, Make, Again, Deactivate, Delete, Wipe, Find}
use Rattle.name_flows.specs.declared.sent.SentLine.{SentLine}
use Rattle.name_flows.specs.Creates.{serial_in}
use Rattle.name_flows.specs.Heard.{is_same_tag}
use Rattle.name_flows.specs.Link.{waiting_in}
use Rattle.name_flows.specs.OneName.{open_line}
use Rattle.name_links.specs.Known.{known}
use Rattle.name_links.specs.Lines.{is_asked, backend_line}
use Rattle.name_links.specs.Answers.{HasNoBang, IsTable}
use Rattle.name_links.specs.OneLink.{OneLink, server_of, back_of, first_link, asks, hears, takes, takes_other, IsMessageStep, serves}

-- the lines whose last answer hasn't come, with their tags

abbrev pub tagged_line : Bool → SentLine → Tag × OpenLine
tagged_line found line = (line.tag, open_line found line.what)

abbrev pub tagged_by : Bool → List SentLine → List (Tag × OpenLine)
tagged_by found [] = []
tagged_by found (line ∷ lines) = tagged_line found line ∷ map (tagged_line false) lines

abbrev pub tagged_lines : Flows → List (Tag × OpenLine)
tagged_lines flows = tagged_by flows.found flows.sent

-- RESERVE's OK tells a UIDVALIDITY
abbrev pub IsAnswerTo : OpenLine → MResponse → Type 0
IsAnswerTo (sent_reserve m) (response.Ok text) = is_some (serial_in text) ≡ true
IsAnswerTo line it = Unit {0}

-- the lines after a response to the first: OK, NO and BAD are its last answer
abbrev pub lines_after : Tag × OpenLine → List (Tag × OpenLine) → MResponse → List (Tag × OpenLine)
lines_after line lines (response.Mailbox name place acl) = (line.0, with_line line.1) ∷ lines
lines_after line lines (response.Reserve name place) = (line.0, with_line line.1) ∷ lines
lines_after line lines (response.Delete name) = line ∷ lines
lines_after line lines (response.Ok text) = lines
lines_after line lines (response.No text) = lines
lines_after line lines (response.Bad text) = lines

-- the responses answer the lines in their order, each under its line's tag, and these lines are left then
unfoldable pub AreAnswers : List (Tag × OpenLine) → List (Tag × MResponse) → List (Tag × OpenLine) → Type 0
AreAnswers lines [] left = lines ≡ left
AreAnswers [] (it ∷ more) left = ⊥
AreAnswers (line ∷ lines) (it ∷ more) left = (is_same_tag line.0 it.0 ≡ true) × IsAnswerTo line.1 it.1 × AreAnswers (lines_after line lines it.1) more left

-- these lines are on their way to the master
unfoldable pub AreSent : Server → List (Tag × OpenLine) → List (Tag × MCommand) → Type 0
AreSent b [] [] = Unit {0}
AreSent b (line ∷ lines) (it ∷ more) = (line.0 ≡ it.0) × (backend_line b it.0 it.1 ≡ Some line.1) × AreSent b lines more
AreSent b lines more = ⊥

-- a client's command waits for the answer to a line exactly if the tag tells it
abbrev pub is_tagged_as : Bool → Sent → Type 0
is_tagged_as t List_line = Unit {0}
is_tagged_as t (Reserve m) = t ≡ true
is_tagged_as t (Make m) = t ≡ true
is_tagged_as t (Again m) = t ≡ false
is_tagged_as t (Deactivate m) = t ≡ true
is_tagged_as t (Delete m) = t ≡ true
is_tagged_as t (Wipe m) = t ≡ false
is_tagged_as t (Find m) = Unit {0}

abbrev pub IsTagged : SentLine → Type 0
IsTagged line = is_tagged_as (is_asked line.tag) line.what

pub record IsTied (link : OneLink) : Type 0 where
  pub left : List (Tag × OpenLine)
  pub answers : AreAnswers (tagged_lines link.flows) link.downs left
  pub sent : AreSent (server_of link) left link.ups
  pub tagged : AllByRecursion IsTagged link.flows.sent

-- THE INVARIANT OF A LINK
pub record LinkIs (link : OneLink) : Type 0 where
  pub named : (n : Mailbox) → LinkOk (mine_of (see (known link.table n) (server_of link))) (back_of link n)
  pub tied : IsTied link

-- commands whose numbers a tag tells
abbrev pub AreNumbered : List NameAsk → Type 0
AreNumbered asks = AllByRecursion (λ ask. (ask.id.conn < 2 ^ 64) × (ask.id.command < 2 ^ 64)) asks

-- what else holds of the master and of the backend
pub record IsReady (link : OneLink) : Type 0 where
  pub table : IsTable link.table
  pub serial : link.table.serial < 2 ^ 32
  pub name : HasNoBang (server_of link)
  pub running : IsInOrder (slice_cmp nat_cmp) link.flows.running
  pub held : IsInOrder (slice_cmp nat_cmp) link.held
  pub waiting : AreNumbered (waiting_in link.flows.resync)

-- all of it
pub record LinkHolds (link : OneLink) : Type 0 where
  pub ready : IsReady link
  pub is : LinkIs link

-- ---- it holds when the link comes up first, and each event keeps it

abbrev pub HoldsFirst : Type 0
HoldsFirst = (me : Location) (master : List ℕ) → HasNoBang me.server → LinkHolds (first_link me master)

abbrev pub AsksKeepIt : Type 0
AsksKeepIt = (link : OneLink) (ask : NameAsk) → LinkHolds link → ask.id.conn < 2 ^ 64 → ask.id.command < 2 ^ 64 → LinkHolds (asks link ask)

abbrev pub HearsKeepsIt : Type 0
HearsKeepsIt = (link : OneLink) (it : Tag × MResponse) (downs : List (Tag × MResponse)) → LinkHolds link → link.downs ≡ it ∷ downs → LinkHolds (hears link it downs)

abbrev pub TakesKeepsIt : Type 0
TakesKeepsIt = (link : OneLink) (it : Tag × MCommand) (ups : List (Tag × MCommand)) → LinkHolds link → link.ups ≡ it ∷ ups → LinkHolds (takes link it ups)

-- a line that another backend sent
abbrev pub OthersKeepIt : Type 0
OthersKeepIt = (link : OneLink) (q : Server) (tag : Tag) (it : MCommand) (line : OpenLine) → LinkHolds link → HasNoBang q → q ≢ server_of link
    → backend_line q tag it ≡ Some line → LinkHolds (takes_other link q it)

abbrev pub ServesKeepsIt : Type 0
ServesKeepsIt = (link : OneLink) (it : BackendRecord) → LinkHolds link → IsMessageStep link.held it → LinkHolds (serves link it)
