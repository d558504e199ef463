-- Which values an entry may have. A value of the types of the code keeps all of it, but for the lengths of its texts and lists and the
-- bytes of a partition.
use Rattle.std.specs.Prelude.{◌≡◌, ℕ, ◌<◌, ◌≤◌, ◌^◌, true, List, length, None}
use Rattle.std.specs.List.{AllByRecursion}
use Rattle.mur_base.specs.Names.{mail_name_fault, short_name_fault}
use Rattle.mur_base.specs.declared.home.Location.{Location}
use Rattle.mail_message.specs.declared.message.Message.{Message}
use Rattle.mail_message.specs.declared.message.Row.{Row}
use Rattle.mail_message.specs.declared.change.Change.{Change}
use Rattle.mail_message.specs.declared.change.Change.TheVariants.{Put, SetFlags, Gone, NextUid}
use Rattle.mail_message.specs.Date.{is_date}
use Rattle.mail_message.specs.FlagSets.{Flags}
use Rattle.mail_message.specs.Keywords.{keyword_fault, AreSortedKeywords}
use Rattle.node_record.specs.declared.master.MasterRecord.{MasterRecord}
use Rattle.node_record.specs.declared.master.MasterRecord.TheVariants as master
use Rattle.node_record.specs.declared.backend.BackendRecord.{BackendRecord}
use Rattle.node_record.specs.declared.backend.BackendRecord.TheVariants as backend

abbrev pub IsNumber : ℕ → Type 0
IsNumber n = n < 2 ^ 32

abbrev pub IsText : List ℕ → Type 0
IsText text = length text < 2 ^ 32

abbrev pub IsName : List ℕ → Type 0
IsName text = mail_name_fault text ≡ None

abbrev pub IsNode : List ℕ → Type 0
IsNode text = short_name_fault text ≡ None

-- both names of a location have 1 to 64 letters, digits, `-` and `_`
pub record IsPlace (it : Location) : Type 0 where
  pub server : IsNode it.server
  pub partition : IsNode it.partition

abbrev pub IsDate : List ℕ → Type 0
IsDate text = is_date text ≡ true

-- at most 16 keywords, in strictly rising byte order
pub record IsFlags (flags : Flags) : Type 0 where
  pub few : length flags.keywords ≤ 16
  pub keywords : AllByRecursion (λ keyword. keyword_fault keyword ≡ None) flags.keywords
  pub rising : AreSortedKeywords flags.keywords

pub record IsMessage (it : Message) : Type 0 where
  pub uid : IsNumber it.uid
  pub flags : IsFlags it.flags
  pub date : IsDate it.date
  pub body : IsText it.body

pub record IsRow (it : Row) : Type 0 where
  pub uid : IsNumber it.uid
  pub flags : IsFlags it.flags

abbrev pub IsChange : Change → Type 0
IsChange (Put it) = IsMessage it
IsChange (SetFlags uid flags) = IsNumber uid × IsFlags flags
IsChange (Gone uid) = IsNumber uid
IsChange (NextUid uid) = IsNumber uid

abbrev pub IsList : {A : Type 0} → (A → Type 0) → List A → Type 0
IsList Is list = (length list < 2 ^ 32) × AllByRecursion Is list

abbrev pub IsMasterRecord : MasterRecord → Type 0
IsMasterRecord (master.Reserved mailbox at serial) = IsName mailbox × (IsPlace at × IsNumber serial)
IsMasterRecord (master.Active mailbox at acl) = IsName mailbox × (IsPlace at × IsText acl)
IsMasterRecord (master.Inactive mailbox at) = IsName mailbox × IsPlace at
IsMasterRecord (master.Deleted mailbox) = IsName mailbox

abbrev pub IsBackendRecord : BackendRecord → Type 0
IsBackendRecord (backend.Make mailbox serial acl) = IsName mailbox × (IsNumber serial × IsText acl)
IsBackendRecord (backend.Opened mailbox) = IsName mailbox
IsBackendRecord (backend.Added mailbox messages) = IsName mailbox × IsList IsMessage messages
IsBackendRecord (backend.Flagged mailbox rows) = IsName mailbox × IsList IsRow rows
IsBackendRecord (backend.Gone mailbox uids) = IsName mailbox × IsList IsNumber uids
IsBackendRecord (backend.Closing mailbox) = IsName mailbox
IsBackendRecord (backend.Begun mailbox giver serial acl) = IsName mailbox × (IsNode giver × (IsNumber serial × IsText acl))
IsBackendRecord (backend.Took mailbox changes) = IsName mailbox × IsList IsChange changes
IsBackendRecord (backend.Ready mailbox next) = IsName mailbox × IsNumber next
IsBackendRecord (backend.Pointer mailbox server) = IsName mailbox × IsNode server
IsBackendRecord (backend.Forget mailboxes) = IsList IsName mailboxes
