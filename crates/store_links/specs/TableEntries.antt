-- What the entries of the master's disk are to the one store. A CREATE is done where the master takes ACTIVATE of a name that never was active, a DELETE
-- where it takes DELETE of a mailbox (RFC 3656, 4.1 and 4.4); no other entry makes or removes one.
use Rattle.std.specs.Prelude.{◌≡◌, ◌≢◌, ℕ, false, List, ◌++◌, Option, None, Some}
use Rattle.mail_message.specs.Boxes.{Content, empty_box}
use Rattle.mail_message.specs.FirstAcl.{first_acl}
use Rattle.mur_base.specs.declared.home.Location.{Location}
use Rattle.mur_model.specs.declared.store.Store.{Store}
use Rattle.mur_model.specs.Store.{box_at, with_new_box, IsFree, without_box}
use Rattle.mupdate_codec.specs.declared.command.MCommand.{MCommand}
use Rattle.mupdate_codec.specs.declared.tag.Tag.{Tag}
use Rattle.node_record.specs.declared.master.MasterRecord.{MasterRecord}
use Rattle.node_record.specs.declared.master.MasterRecord.TheVariants as entry
use Rattle.node_record.specs.Held.{held_at}
use Rattle.node_record.specs.Table.{MailboxTable, IsMailbox, is_mailbox_if, record_at, table_after}
use Rattle.master_core.specs.declared.sender.Sender.TheVariants.{Backend}
use Rattle.master_core.specs.Replies.{reply_to}
use Rattle.home_law.specs.Items.{Server}
use Rattle.home_law.specs.ManyNames.{Mailbox, SentLine as OpenLine}
use Rattle.name_links.specs.Contents.{state_at, acl_in, HasAcl}
use Rattle.name_links.specs.Lines.{backend_line}
use Rattle.name_links.specs.OneLink.{OneLink, server_of, table_by}
use Rattle.name_links.specs.Serials.{Given, gives, IsMade}
use Rattle.store_links.specs.Given.{HasGiven}
use Rattle.store_links.specs.Shown.{Homes, Shows}

-- every other name has in the store what it had
abbrev pub OthersStay : Store → Store → Mailbox → Type 0
OthersStay store later n = (m : Mailbox) → m ≢ n → box_at later m ≡ box_at store m

-- ---- CREATE

-- the store after it, which has the mailbox with this UIDVALIDITY
abbrev pub store_with : Store → Mailbox → ℕ → Store
store_with store n serial = with_new_box store n (empty_box serial (first_acl n))

pub record IsCreated (table : MailboxTable) (homes : Homes) (store : Store) (given : Given) (b : Server) (it : MCommand) (n : Mailbox) (serial : ℕ)
    : Type 0 where
  -- there was none of the name, and the UIDVALIDITY is one that it may get
  pub none : box_at store n ≡ None
  pub free : IsFree store n serial
  pub shows : Shows (table_by table b it) homes (store_with store n serial)
  pub gave : HasGiven (store_with store n serial) (given ++ gives table b it)
  pub others : OthersStay store (store_with store n serial) n

abbrev pub CreateIsOne : Type 0
CreateIsOne = (link : OneLink) (homes : Homes) (store : Store) (given : Given) (tag : Tag) (it : MCommand) (line : OpenLine) (n : Mailbox) (place : Location)
    (acl : List ℕ)
    → homes (server_of link) ≡ link.held → Shows link.table homes store → HasGiven store given
    → backend_line (server_of link) tag it ≡ Some line → (reply_to link.table (Backend (server_of link)) it).entry ≡ Some (entry.Active n place acl)
    → (made : IsMade link given it n acl) → IsCreated link.table homes store given (server_of link) it n made.serial

-- ---- entries that make no mailbox and remove none

-- the access list of a mailbox whose record names this server
abbrev pub acl_at : MailboxTable → Server → Mailbox → Option (List ℕ)
acl_at table b n = acl_in (state_at table b n)

abbrev pub IsMailboxAt : MailboxTable → Server → Mailbox → Type 0
IsMailboxAt table b n = (acl : List ℕ) × (acl_at table b n ≡ Some acl)

abbrev pub IsNoMailbox : MailboxTable → Mailbox → Type 0
IsNoMailbox table n = is_mailbox_if (record_at table n) ≡ false

-- RESERVE and DELETE of a name that is no mailbox; of one DEACTIVATE, and ACTIVATE with the access list that it has, each at its server
abbrev pub MakesNone : MailboxTable → Homes → MasterRecord → Type 0
MakesNone table homes (entry.Reserved n place serial) = IsNoMailbox table n
MakesNone table homes (entry.Active n place acl) = IsMailboxAt table place.server n × HasAcl (held_at (homes place.server) n) acl
MakesNone table homes (entry.Inactive n place) = IsMailboxAt table place.server n
MakesNone table homes (entry.Deleted n) = IsNoMailbox table n

abbrev pub OthersMakeNone : Type 0
OthersMakeNone = (table : MailboxTable) (homes : Homes) (store : Store) (it : MasterRecord) → Shows table homes store → MakesNone table homes it
    → Shows (table_after table it) homes store

-- ---- DELETE

pub record IsRemoved (table : MailboxTable) (homes : Homes) (store : Store) (n : Mailbox) : Type 0 where
  pub box : Content
  pub was : box_at store n ≡ Some box
  pub gone : box_at (without_box store n) n ≡ None
  pub shows : Shows (table_after table (entry.Deleted n)) homes (without_box store n)
  pub others : OthersStay store (without_box store n) n

abbrev pub DeleteIsOne : Type 0
DeleteIsOne = (table : MailboxTable) (homes : Homes) (store : Store) (n : Mailbox) → Shows table homes store → IsMailbox table n → IsRemoved table homes store n
