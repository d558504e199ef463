-- What a mailbox is by the record of its name: the backend has it with the access list that the master knows, and with the UIDVALIDITY under which
-- its name was reserved (RFC 3656, 4.1 and 4.9). Of a name without a record nothing is served: that is `home_law`'s.
use Rattle.std.specs.Prelude.{◌≡◌, ◌≢◌, ℕ, ◌<◌, ◌^◌, Bool, true, false, if◌then◌else◌, List, [], ◌∷◌, Option, None, Some}
use Rattle.std.specs.List.{AllByRecursion}
use Rattle.mail_message.specs.Boxes.{Content, empty_box}
use Rattle.mail_message.specs.FirstAcl.{first_acl}
use Rattle.mur_base.specs.declared.home.Location.{Location}
use Rattle.mur_base.specs.declared.home.Phase.TheVariants.{Creating}
use Rattle.mupdate_codec.specs.declared.command.MCommand.{MCommand}
use Rattle.mupdate_codec.specs.declared.command.MCommand.TheVariants as command
use Rattle.mupdate_codec.specs.declared.command.MResponse.{MResponse}
use Rattle.mupdate_codec.specs.declared.command.MResponse.TheVariants as response
use Rattle.mupdate_codec.specs.declared.tag.Tag.{Tag}
use Rattle.node_record.specs.declared.backend.BackendRecord.{BackendRecord}
use Rattle.node_record.specs.declared.held.Held.{Held}
use Rattle.node_record.specs.declared.table.State.{State}
use Rattle.node_record.specs.declared.table.State.TheVariants.{Bare, Kept, Active}
use Rattle.node_record.specs.declared.table.Record.{Record}
use Rattle.node_record.specs.Held.{Names, held_at, has_content}
use Rattle.node_record.specs.Table.{MailboxTable, record_at}
use Rattle.home_law.specs.Items.{Server, is_same_server}
use Rattle.home_law.specs.ManyNames.{Mailbox, SentLine as OpenLine, sent_reserve}
use Rattle.name_flows.specs.declared.ask.NameAsk.{NameAsk}
use Rattle.name_flows.specs.declared.flow.Stage.TheVariants.{Making}
use Rattle.name_flows.specs.Creates.{serial_in}
use Rattle.name_flows.specs.Running.{is_at}
use Rattle.name_links.specs.Lines.{is_asked, backend_line}
use Rattle.name_links.specs.OneLink.{OneLink, server_of, first_link, asks, hears, takes, takes_other, IsMessageStep, serves}
use Rattle.name_links.specs.LinkIs.{tagged_lines, lines_after, LinkHolds}

-- ---- the record of a name, if it names this server

abbrev pub state_by : Server → Option Record → Option State
state_by b None = None
state_by b (Some it) = if is_same_server (it.place).server b then Some it.state else None

abbrev pub state_at : MailboxTable → Server → Mailbox → Option State
state_at table b n = state_by b (record_at table n)

-- the access list of a mailbox: its name is active, or it is reserved and was active
abbrev pub acl_in : Option State → Option (List ℕ)
acl_in None = None
acl_in (Some (Bare serial)) = None
acl_in (Some (Kept acl)) = Some acl
acl_in (Some (Active acl)) = Some acl

-- ---- mailboxes

-- the mailbox is here, with this access list
abbrev pub HasAcl : Option Held → List ℕ → Type 0
HasAcl None acl = ⊥
HasAcl (Some it) acl = (has_content it.phase ≡ true) × (it.content.acl ≡ acl)

-- a new mailbox: it is empty, and isn't open yet
abbrev pub new_box : Mailbox → ℕ → Held
new_box n serial = record { phase = Creating; giver = None; content = empty_box serial (first_acl n) }

-- ---- lines

-- ACTIVATE of a CREATE on its way to the master: the name is reserved, and the mailbox new; they have one serial, and the line has the mailbox's
-- access list
pub record IsNew (table : MailboxTable) (b : Server) (held : Names) (n : Mailbox) (acl : List ℕ) : Type 0 where
  pub serial : ℕ
  pub reserved : state_at table b n ≡ Some (Bare serial)
  pub made : held_at held n ≡ Some (new_box n serial)
  pub first : acl ≡ first_acl n

-- ACTIVATE (RFC 3656, 4.1): of a CREATE, or of a resync, which has the access list of the mailbox that is here
abbrev pub Activates : MailboxTable → Server → Names → Bool → Mailbox → List ℕ → Type 0
Activates table b held true n acl = IsNew table b held n acl
Activates table b held false n acl = HasAcl (held_at held n) acl

abbrev pub command_fits : MailboxTable → Server → Names → Bool → MCommand → Type 0
command_fits table b held asked (command.Activate n place acl) = Activates table b held asked n acl
command_fits table b held asked it = Unit {0}

abbrev pub LineFits : MailboxTable → Server → Names → Tag × MCommand → Type 0
LineFits table b held it = command_fits table b held (is_asked it.0) it.1

-- RESERVE's OK on its way to the backend tells the serial under which the name is reserved (RFC 3656, 4.9)
pub record TellsSerial (table : MailboxTable) (b : Server) (n : Mailbox) (text : List ℕ) : Type 0 where
  pub serial : ℕ
  pub told : serial_in text ≡ Some serial
  pub reserved : state_at table b n ≡ Some (Bare serial)

abbrev pub answer_fits : MailboxTable → Server → OpenLine → MResponse → Type 0
answer_fits table b (sent_reserve n) (response.Ok text) = TellsSerial table b n text
answer_fits table b line it = Unit {0}

-- each response, with the line that it answers
unfoldable pub EachAnswer : (OpenLine → MResponse → Type 0) → List (Tag × OpenLine) → List (Tag × MResponse) → Type 0
EachAnswer P lines [] = Unit {0}
EachAnswer P [] (it ∷ more) = Unit {0}
EachAnswer P (line ∷ lines) (it ∷ more) = P line.1 it.1 × EachAnswer P (lines_after line lines it.1) more

-- ---- THE INVARIANT OF A LINK'S CONTENTS

pub record ContentHolds (link : OneLink) : Type 0 where
  -- a mailbox is at the server of its record, with the access list of the record, whether it is open, made or closed there
  pub mailboxes : (n : Mailbox) (acl : List ℕ) → acl_in (state_at link.table (server_of link) n) ≡ Some acl → HasAcl (held_at link.held n) acl
  -- a name is reserved without an access list, and its CREATE made the mailbox and waits for ACTIVATE's answer: the mailbox is new, with that serial.
  -- Without that CREATE, after a crash, the name may have a mailbox of an earlier one until DELETE's OK.
  pub making : (n : Mailbox) (serial : ℕ) → state_at link.table (server_of link) n ≡ Some (Bare serial) → is_at link.flows n Making ≡ true
      → held_at link.held n ≡ Some (new_box n serial)
  -- each ACTIVATE on its way to the master, and each RESERVE's OK on its way to the backend
  pub lines : AllByRecursion (LineFits link.table (server_of link) link.held) link.ups
  pub answers : EachAnswer (answer_fits link.table (server_of link)) (tagged_lines link.flows) link.downs

-- ---- it holds when the link comes up first, and each event keeps it

abbrev pub ContentsFirst : Type 0
ContentsFirst = (me : Location) (master : List ℕ) → ContentHolds (first_link me master)

abbrev pub AsksKeepContents : Type 0
AsksKeepContents = (link : OneLink) (ask : NameAsk) → LinkHolds link → ContentHolds link → ask.id.conn < 2 ^ 64 → ask.id.command < 2 ^ 64 → ContentHolds (asks link ask)

abbrev pub HearsKeepsContents : Type 0
HearsKeepsContents = (link : OneLink) (it : Tag × MResponse) (downs : List (Tag × MResponse)) → LinkHolds link → ContentHolds link → link.downs ≡ it ∷ downs
    → ContentHolds (hears link it downs)

abbrev pub TakesKeepsContents : Type 0
TakesKeepsContents = (link : OneLink) (it : Tag × MCommand) (ups : List (Tag × MCommand)) → LinkHolds link → ContentHolds link → link.ups ≡ it ∷ ups
    → ContentHolds (takes link it ups)

-- a line that another backend sent
abbrev pub OthersKeepContents : Type 0
OthersKeepContents = (link : OneLink) (q : Server) (tag : Tag) (it : MCommand) (line : OpenLine) → LinkHolds link → ContentHolds link → q ≢ server_of link
    → backend_line q tag it ≡ Some line → ContentHolds (takes_other link q it)

-- a message step of the backend
abbrev pub ServesKeepsContents : Type 0
ServesKeepsContents = (link : OneLink) (it : BackendRecord) → ContentHolds link → IsMessageStep link.held it → ContentHolds (serves link it)

-- ---- what a mailbox contains changes by message steps alone: no other step of its backend changes it

-- what is here of a name
abbrev pub content_in : Option Held → Option Content
content_in None = None
content_in (Some it) = if has_content it.phase then Some it.content else None

abbrev pub AsksLeaveContents : Type 0
AsksLeaveContents = (link : OneLink) (ask : NameAsk) → (asks link ask).held ≡ link.held

abbrev pub HearsLeavesContents : Type 0
HearsLeavesContents = (link : OneLink) (it : Tag × MResponse) (downs : List (Tag × MResponse)) → LinkHolds link → ContentHolds link → link.downs ≡ it ∷ downs
    → (n : Mailbox) (acl : List ℕ) → acl_in (state_at link.table (server_of link) n) ≡ Some acl
    → content_in (held_at (hears link it downs).held n) ≡ content_in (held_at link.held n)
