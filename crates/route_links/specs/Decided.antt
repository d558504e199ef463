-- What a frontend decides behind the OK of a barrier, by the master's table of the step in which the master took the NOOP.
use Rattle.std.specs.Prelude.{◌≡◌, ℕ, List, Option, None, Some}
use Rattle.ask_routes.specs.declared.ask_for.AskFor.{AskFor}
use Rattle.ask_routes.specs.declared.ask_for.AskFor.TheVariants as about
use Rattle.ask_routes.specs.declared.next.Next.{Next}
use Rattle.ask_routes.specs.declared.next.Next.TheVariants as next
use Rattle.ask_routes.specs.declared.next.Why.{Why}
use Rattle.ask_routes.specs.Ways.{behind_ok, behind_reserved}
use Rattle.feed_core.specs.Listing.{mailbox_names}
use Rattle.feed_core.specs.Routes.{home_for}
use Rattle.feed_links.specs.Replicas.{recs_of, replica_of}
use Rattle.node_record.specs.declared.table.Record.{Record}
use Rattle.node_record.specs.declared.table.State.{State}
use Rattle.node_record.specs.declared.table.State.TheVariants.{Bare, Kept, Active}
use Rattle.node_record.specs.Table.{MailboxTable, record_at}
use Rattle.store_links.specs.Boxes.{mailbox_names as names_of}

-- a name is reserved, whether it ever was active or not, or is active
abbrev pub by_state : Why → List ℕ → State → Next
by_state it server (Bare serial) = behind_reserved server it
by_state it server (Kept acl) = behind_reserved server it
by_state it server (Active acl) = next.Ask server

abbrev pub by_record : Why → Record → Next
by_record it found = by_state it (found.place).server found.state

-- a name without a record is missing
abbrev pub mailbox_by : Why → Option Record → Next
mailbox_by it None = next.Missing
mailbox_by it (Some found) = by_record it found

-- for CREATE that of the nearest name above is asked, or the first one
abbrev pub create_by : MailboxTable → List ℕ → List ℕ → Why → Option Record → Next
create_by table first name it None = next.Ask (home_for (recs_of table) first name)
create_by table first name it (Some found) = by_record it found

abbrev pub by_table : MailboxTable → List ℕ → AskFor → Why → Next
by_table table first (about.Mailbox name) it = mailbox_by it (record_at table name)
by_table table first (about.Create name) it = create_by table first name it (record_at table name)

-- by the replica of a table a frontend decides so
abbrev pub ByItsTable : Type 0
ByItsTable = (table : MailboxTable) (first : List ℕ) (what : AskFor) (it : Why)
    → behind_ok (replica_of table).records first what it ≡ by_table table first what it

-- and lists the mailboxes of the table
abbrev pub NamesOfItsTable : Type 0
NamesOfItsTable = (table : MailboxTable) → mailbox_names (replica_of table).records ≡ names_of table.records
