-- UIDVALIDITY (RFC 9051, 2.3.1.1): RESERVE reserves a name under the master's next serial (RFC 3656, 4.9), and the ACTIVATE that makes it a mailbox
-- gives it that serial. None is given twice, and each that a name gets is above those that it had. Not each serial is given: where ACTIVATE is
-- refused, or a reserved name deleted, its serial is wasted, and comes to no name any more.
use Rattle.std.specs.Prelude.{◌≡◌, ◌≢◌, ◌⊎◌, ℕ, ◌<◌, ◌≤◌, true, if◌then◌else◌, List, [], ◌∷◌, ◌++◌, Option, None, Some}
use Rattle.std.specs.List.{AllByRecursion}
use Rattle.mur_base.specs.declared.home.Location.{Location}
use Rattle.mupdate_codec.specs.declared.command.MCommand.{MCommand}
use Rattle.mupdate_codec.specs.declared.command.MResponse.{MResponse}
use Rattle.mupdate_codec.specs.declared.tag.Tag.{Tag}
use Rattle.node_record.specs.declared.backend.BackendRecord.{BackendRecord}
use Rattle.node_record.specs.declared.held.Held.{Held}
use Rattle.node_record.specs.declared.master.MasterRecord.{MasterRecord}
use Rattle.node_record.specs.declared.master.MasterRecord.TheVariants as entry
use Rattle.node_record.specs.declared.table.State.{State}
use Rattle.node_record.specs.declared.table.State.TheVariants.{Bare, Kept, Active}
use Rattle.node_record.specs.declared.table.Record.{Record}
use Rattle.node_record.specs.Held.{held_at, has_content}
use Rattle.node_record.specs.Table.{MailboxTable, empty_table, record_at}
use Rattle.mail_message.specs.FirstAcl.{first_acl}
use Rattle.master_core.specs.declared.sender.Sender.TheVariants.{Backend}
use Rattle.master_core.specs.Replies.{reply_to}
use Rattle.home_law.specs.Items.{Server}
use Rattle.home_law.specs.ManyNames.{Mailbox, SentLine as OpenLine}
use Rattle.name_flows.specs.declared.ask.NameAsk.{NameAsk}
use Rattle.name_links.specs.Answers.{IsTable}
use Rattle.name_links.specs.Contents.{state_at, acl_in, new_box, ContentHolds}
use Rattle.name_links.specs.Lines.{is_asked, backend_line}
use Rattle.name_links.specs.LinkIs.{LinkHolds}
use Rattle.name_links.specs.OneLink.{OneLink, server_of, first_link, asks, hears, table_by, takes, takes_other, IsMessageStep, serves}

-- ---- serials

abbrev pub serial_of : State → Option ℕ
serial_of (Bare serial) = Some serial
serial_of (Kept acl) = None
serial_of (Active acl) = None

abbrev pub serial_in : Option Record → Option ℕ
serial_in None = None
serial_in (Some it) = serial_of it.state

-- the serial under which a name is reserved, whatever server its record names
abbrev pub serial_at : MailboxTable → Mailbox → Option ℕ
serial_at table n = serial_in (record_at table n)

-- the UIDVALIDITY of a mailbox that is here
abbrev pub uid_validity : Option Held → Option ℕ
uid_validity None = None
uid_validity (Some it) = if has_content it.phase then Some it.content.serial else None

-- ---- UIDVALIDITYs that were given, each with its mailbox's name

abbrev pub Given : Type 0
Given = List (Mailbox × ℕ)

abbrev pub given_at : Mailbox → Option ℕ → Given
given_at n None = []
given_at n (Some serial) = (n, serial) ∷ []

abbrev pub given_by : MailboxTable → Option MasterRecord → Given
given_by table (Some (entry.Active n place acl)) = given_at n (serial_at table n)
given_by table made = []

-- what a line of a backend gives: an ACTIVATE that isn't refused, of a name that was no mailbox yet
abbrev pub gives : MailboxTable → Server → MCommand → Given
gives table b it = given_by table (reply_to table (Backend b) it).entry

-- the mailbox was given it
abbrev pub IsGiven : Mailbox → ℕ → Given → Type 0
IsGiven n serial [] = ⊥
IsGiven n serial (g ∷ given) = ((g.0 ≡ n) × (g.1 ≡ serial)) ⊎ IsGiven n serial given

-- a mailbox of this name may get it: no mailbox had it, and it is above those that this name had
abbrev pub IsNewFor : Mailbox → ℕ → Given → Type 0
IsNewFor n serial given = AllByRecursion (λ g. (g.1 ≢ serial) × (g.0 ≡ n → g.1 < serial)) given

-- none was given twice
abbrev pub AreApart : Given → Type 0
AreApart [] = Unit {0}
AreApart (g ∷ given) = AllByRecursion (λ h. h.1 ≢ g.1) given × AreApart given

-- ---- THE INVARIANT OF THE SERIALS

-- of the master's table. RESERVE's OK on its way tells a serial under which its name is reserved, so the table's serial isn't below that either.
pub record SerialsHold (table : MailboxTable) (given : Given) : Type 0 where
  pub positive : (n : Mailbox) (serial : ℕ) → serial_at table n ≡ Some serial → 0 < serial
  pub low : (n : Mailbox) (serial : ℕ) → serial_at table n ≡ Some serial → serial ≤ table.serial
  -- two names aren't reserved under one
  pub once : (m n : Mailbox) (serial : ℕ) → serial_at table m ≡ Some serial → serial_at table n ≡ Some serial → m ≡ n
  pub unused : (n : Mailbox) (serial : ℕ) → serial_at table n ≡ Some serial → IsNewFor n serial given
  pub given_low : AllByRecursion (λ g. g.1 ≤ table.serial) given
  pub apart : AreApart given

-- of a link
pub record BoxesHold (link : OneLink) (given : Given) : Type 0 where
  pub low : (n : Mailbox) (serial : ℕ) → uid_validity (held_at link.held n) ≡ Some serial → serial ≤ link.table.serial
  -- what is here under one name, no other name is reserved under, and no other mailbox here has
  pub reserved : (m n : Mailbox) (serial : ℕ) → serial_at link.table m ≡ Some serial → uid_validity (held_at link.held n) ≡ Some serial → m ≡ n
  pub once : (m n : Mailbox) (serial : ℕ) → uid_validity (held_at link.held m) ≡ Some serial → uid_validity (held_at link.held n) ≡ Some serial → m ≡ n
  -- a mailbox whose record names this server has one that its name was given
  pub given_here : (n : Mailbox) (acl : List ℕ) (serial : ℕ) → acl_in (state_at link.table (server_of link) n) ≡ Some acl
      → uid_validity (held_at link.held n) ≡ Some serial → IsGiven n serial given

-- ---- they hold first, and each event keeps them

abbrev pub SerialsFirst : Type 0
SerialsFirst = SerialsHold empty_table []

-- whatever backend's line the master takes
abbrev pub LinesKeepSerials : Type 0
LinesKeepSerials = (table : MailboxTable) (given : Given) (b : Server) (tag : Tag) (it : MCommand) (line : OpenLine) → IsTable table → SerialsHold table given
    → backend_line b tag it ≡ Some line → SerialsHold (table_by table b it) (given ++ gives table b it)

abbrev pub BoxesFirst : Type 0
BoxesFirst = (me : Location) (master : List ℕ) → BoxesHold (first_link me master) []

abbrev pub AsksKeepBoxes : Type 0
AsksKeepBoxes = (link : OneLink) (given : Given) (ask : NameAsk) → BoxesHold link given → BoxesHold (asks link ask) given

abbrev pub HearsKeepsBoxes : Type 0
HearsKeepsBoxes = (link : OneLink) (given : Given) (it : Tag × MResponse) (downs : List (Tag × MResponse)) → LinkHolds link → ContentHolds link
    → SerialsHold link.table given → BoxesHold link given → link.downs ≡ it ∷ downs → BoxesHold (hears link it downs) given

abbrev pub TakesKeepsBoxes : Type 0
TakesKeepsBoxes = (link : OneLink) (given : Given) (it : Tag × MCommand) (ups : List (Tag × MCommand)) → LinkHolds link → ContentHolds link
    → BoxesHold link given → link.ups ≡ it ∷ ups → BoxesHold (takes link it ups) (given ++ gives link.table (server_of link) it.1)

abbrev pub OthersKeepBoxes : Type 0
OthersKeepBoxes = (link : OneLink) (given : Given) (q : Server) (tag : Tag) (it : MCommand) (line : OpenLine) → LinkHolds link → BoxesHold link given
    → q ≢ server_of link → backend_line q tag it ≡ Some line → BoxesHold (takes_other link q it) (given ++ gives link.table q it)

abbrev pub ServesKeepsBoxes : Type 0
ServesKeepsBoxes = (link : OneLink) (given : Given) (it : BackendRecord) → BoxesHold link given → IsMessageStep link.held it → BoxesHold (serves link it) given

-- mailboxes of two names, at one backend or at two, have two UIDVALIDITYs
abbrev pub MailboxesDiffer : Type 0
MailboxesDiffer = (link other : OneLink) (given : Given) → SerialsHold link.table given → BoxesHold link given → BoxesHold other given
    → (m n : Mailbox) (one two : List ℕ) (serial : ℕ)
    → acl_in (state_at link.table (server_of link) m) ≡ Some one → acl_in (state_at other.table (server_of other) n) ≡ Some two
    → uid_validity (held_at link.held m) ≡ Some serial → uid_validity (held_at other.held n) ≡ Some serial → m ≡ n

-- ---- the mailbox that a CREATE makes: the master takes its ACTIVATE, and doesn't refuse it

pub record IsMade (link : OneLink) (given : Given) (it : MCommand) (n : Mailbox) (acl : List ℕ) : Type 0 where
  pub serial : ℕ
  -- the backend has the mailbox, empty and with the first access list
  pub made : held_at link.held n ≡ Some (new_box n serial)
  pub first : acl ≡ first_acl n
  -- it is given a UIDVALIDITY that it may get
  pub gives_it : gives link.table (server_of link) it ≡ (n, serial) ∷ []
  pub positive : 0 < serial
  pub new : IsNewFor n serial given

abbrev pub CreateMakesOne : Type 0
CreateMakesOne = (link : OneLink) (given : Given) (it : Tag × MCommand) (ups : List (Tag × MCommand)) (n : Mailbox) (place : Location) (acl : List ℕ) → LinkHolds link
    → ContentHolds link → SerialsHold link.table given → link.ups ≡ it ∷ ups → is_asked it.0 ≡ true
    → (reply_to link.table (Backend (server_of link)) it.1).entry ≡ Some (entry.Active n place acl) → IsMade link given it.1 n acl
