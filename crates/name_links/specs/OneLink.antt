-- One link while it is whole: the master's table, a backend, and the messages between them that are on their way; what it is to each name, and what
-- each of its events does.
use Rattle.std.specs.Prelude.{ℕ, List, [], ◌++◌, map, true, Option, None, Some}
use Rattle.std.specs.List.{flat_map}
use Rattle.mur_base.specs.declared.home.Location.{Location}
use Rattle.mupdate_codec.specs.declared.command.MCommand.{MCommand}
use Rattle.mupdate_codec.specs.declared.command.MResponse.{MResponse}
use Rattle.mupdate_codec.specs.declared.tag.Tag.{Tag}
use Rattle.node_record.specs.declared.backend.BackendRecord.{BackendRecord}
use Rattle.node_record.specs.declared.backend.BackendRecord.TheVariants as entry
use Rattle.node_record.specs.Held.{Names, IsWritableHome, held_after}
use Rattle.node_record.specs.Table.{MailboxTable, empty_table}
use Rattle.master_core.specs.declared.sender.Sender.TheVariants.{Backend}
use Rattle.master_core.specs.Replies.{reply_to}
use Rattle.master_core.specs.Step.{table_with}
use Rattle.home_law.specs.Items.{Server, Item}
use Rattle.home_law.specs.Link.{Back}
use Rattle.home_law.specs.ManyNames.{Mailbox, SentLine as OpenLine, BackMessage, downs_of}
use Rattle.name_flows.specs.declared.ask.NameAsk.{NameAsk}
use Rattle.name_flows.specs.declared.flows.Flows.{Flows}
use Rattle.name_flows.specs.declared.sent.SentLine.{SentLine}
use Rattle.name_flows.specs.Asked.{asked_step}
use Rattle.name_flows.specs.Heard.{heard_step}
use Rattle.name_flows.specs.Lines.{command_of}
use Rattle.name_flows.specs.Listing.{up_step}
use Rattle.name_flows.specs.Running.{new_flows}
use Rattle.name_flows.specs.OneName.{ctl_of, open_lines, told_by}
use Rattle.name_flows.specs.Steps.{FlowStep, held_with, handed}
use Rattle.name_links.specs.Lines.{backend_line, items_of}
use Rattle.name_links.specs.Answers.{answers_to}

-- Of each queue the first message is taken next.
pub record OneLink : Type 0 where
  pub table : MailboxTable
  -- the backend: its talk with the master, and its mailboxes
  pub flows : Flows
  pub held : Names
  -- the lines to the master, and the responses to the backend
  pub ups : List (Tag × MCommand)
  pub downs : List (Tag × MResponse)

abbrev pub server_of : OneLink → Server
server_of link = (link.flows.me).server

-- ---- to one name

abbrev pub items_if : Mailbox → Option OpenLine → List Item
items_if n None = []
items_if n (Some line) = items_of n line

abbrev pub up_items : Server → Mailbox → Tag × MCommand → List Item
up_items b n it = items_if n (backend_line b it.0 it.1)

abbrev pub told_pair : Tag × MResponse → List BackMessage
told_pair it = told_by it.1

abbrev pub told_of : List (Tag × MResponse) → List BackMessage
told_of downs = flat_map told_pair downs

-- the backend and its link, as `home_law` sees them
unfoldable pub back_of : OneLink → Mailbox → Back
back_of link n = record {
  ctl = ctl_of true link.held link.flows n;
  down = downs_of n (open_lines link.flows) (told_of link.downs);
  up = flat_map (up_items (server_of link) n) link.ups;
}

-- ---- its events

-- a line of the backend
abbrev pub message_of : Location → Names → SentLine → Tag × MCommand
message_of me held line = (line.tag, command_of me held line.what)

-- the backend does a step, and these responses are left
abbrev pub does : OneLink → List (Tag × MResponse) → FlowStep → OneLink
does link downs it = record link {
  flows = (handed link.held it).flows;
  held = held_with link.held it.entry;
  ups = link.ups ++ map (message_of it.flows.me link.held) it.sends;
  downs = downs;
}

-- the link comes up first: no name has a record, no mailbox is here, and the backend sends LIST
abbrev pub empty_link : Location → List ℕ → OneLink
empty_link me master = record { table = empty_table; flows = new_flows me master; held = []; ups = []; downs = [] }

abbrev pub first_link : Location → List ℕ → OneLink
first_link me master = does (empty_link me master) [] (up_step (new_flows me master))

-- a frontend's ask comes to the backend
abbrev pub asks : OneLink → NameAsk → OneLink
asks link ask = does link link.downs (asked_step link.flows link.held ask)

-- the backend takes this response
abbrev pub hears : OneLink → Tag × MResponse → List (Tag × MResponse) → OneLink
hears link it downs = does link downs (heard_step link.flows link.held it.0 it.1)

abbrev pub under : Tag → MResponse → Tag × MResponse
under tag it = (tag, it)

-- the table after a line of a backend
abbrev pub table_by : MailboxTable → Server → MCommand → MailboxTable
table_by table b it = table_with table (reply_to table (Backend b) it).entry

-- the master takes this line of the backend
abbrev pub takes : OneLink → Tag × MCommand → List (Tag × MCommand) → OneLink
takes link it ups = record link {
  table = table_by link.table (server_of link) it.1;
  ups = ups;
  downs = link.downs ++ map (under it.0) (answers_to link.table (server_of link) it.1);
}

-- the master takes a line of another backend
abbrev pub takes_other : OneLink → Server → MCommand → OneLink
takes_other link q it = record link { table = table_by link.table q it }

-- the backend changes the messages of a mailbox that is open there (RFC 9051, 6.4)
abbrev pub IsMessageStep : Names → BackendRecord → Type 0
IsMessageStep held (entry.Added name messages) = IsWritableHome held name
IsMessageStep held (entry.Flagged name rows) = IsWritableHome held name
IsMessageStep held (entry.Gone name uids) = IsWritableHome held name
IsMessageStep held it = ⊥

abbrev pub serves : OneLink → BackendRecord → OneLink
serves link it = record link { held = held_after link.held it }
