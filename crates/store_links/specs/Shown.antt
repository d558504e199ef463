-- What the master's table and the backends' mailboxes are to the one store: a mailbox is what the server of its record has (RFC 3656, 1), with the
-- record's access list. A name that has no record, or was never active, is none, whatever is at a backend.
use Rattle.std.specs.Prelude.{◌≡◌, ℕ, List, [], Option, None, Some}
use Rattle.std.specs.Ordering.{nat_cmp}
use Rattle.std.specs.Cmp.Lexicographic.{slice_cmp}
use Rattle.mail_message.specs.Boxes.{Content}
use Rattle.mur_base.specs.Map.{IsInOrder}
use Rattle.mur_model.specs.declared.store.Store.{Store}
use Rattle.mur_model.specs.Store.{empty_store, box_at}
use Rattle.node_record.specs.declared.table.State.{State}
use Rattle.node_record.specs.declared.table.State.TheVariants.{Bare, Kept, Active}
use Rattle.node_record.specs.declared.table.Record.{Record}
use Rattle.node_record.specs.Held.{Names, held_at}
use Rattle.node_record.specs.Table.{MailboxTable, empty_table, record_at}
use Rattle.home_law.specs.Items.{Server}
use Rattle.home_law.specs.ManyNames.{Mailbox}
use Rattle.name_links.specs.Contents.{content_in}

-- what each server has of its names
abbrev pub Homes : Type 0
Homes = Server → Names

abbrev pub empty_homes : Homes
empty_homes b = []

-- the content that a server has of a name, whether it is made, open or closed there
abbrev pub content_at : Homes → Server → Mailbox → Option Content
content_at homes b n = content_in (held_at (homes b) n)

-- a mailbox: its server has this content, the store has the same, and the record tells its access list
pub record IsMailboxOf (here there : Option Content) (acl : List ℕ) : Type 0 where
  pub content : Content
  pub at_home : here ≡ Some content
  pub in_store : there ≡ Some content
  pub has_acl : content.acl ≡ acl

-- by the state of the record
abbrev pub StateShows : Option Content → Option Content → State → Type 0
StateShows here there (Bare serial) = there ≡ None
StateShows here there (Kept acl) = IsMailboxOf here there acl
StateShows here there (Active acl) = IsMailboxOf here there acl

-- by the record
abbrev pub RecordShows : Homes → Mailbox → Option Content → Option Record → Type 0
RecordShows homes n there None = there ≡ None
RecordShows homes n there (Some it) = StateShows (content_at homes (it.place).server n) there it.state

abbrev pub NameShows : MailboxTable → Homes → Store → Mailbox → Type 0
NameShows table homes store n = RecordShows homes n (box_at store n) (record_at table n)

-- THE STORE OF A TABLE AND ITS BACKENDS
pub record Shows (table : MailboxTable) (homes : Homes) (store : Store) : Type 0 where
  pub names : (n : Mailbox) → NameShows table homes store n
  -- both stand in the order of their names
  pub records_in_order : IsInOrder (slice_cmp nat_cmp) table.records
  pub boxes_in_order : IsInOrder (slice_cmp nat_cmp) store.boxes

abbrev pub ShowsFirst : Type 0
ShowsFirst = Shows empty_table empty_homes empty_store
