-- By the replica of a table a frontend decides as the table says.
use Rattle.std.proofs.Common.{◌≡◌, ℕ, Bool, true, false, cond, List, [], ◌∷◌, map, filter, Option, None, Some, refl, ap, ◌∙◌}
use Rattle.ask_routes.specs.declared.ask_for.AskFor.TheVariants as about
use Rattle.ask_routes.specs.declared.next.Why.{Why}
use Rattle.ask_routes.specs.Ways.{behind_record, create_behind, mailbox_behind}
use Rattle.feed_core.specs.declared.rec.Rec.{Rec}
use Rattle.feed_core.specs.Feed.{Recs, is_mailbox, rec_at}
use Rattle.feed_core.specs.Listing.{is_mailbox_in, mailbox_names, name_in}
use Rattle.feed_links.proofs.Entries.{none_there, one_there}
use Rattle.feed_links.specs.Replicas.{rec_by, rec_of, rec_entry, recs_of}
use Rattle.mur_base.specs.declared.home.Location.{Location}
use Rattle.node_record.specs.declared.table.Record.{Record}
use Rattle.node_record.specs.declared.table.State.{State}
use Rattle.node_record.specs.declared.table.State.TheVariants.{Bare, Kept, Active}
use Rattle.node_record.specs.Table.{MailboxTable, Records, has_acl, is_mailbox as is_mailbox_record, record_at}
use Rattle.store_links.specs.Boxes.{mailbox_names as names_of}
use Rattle.route_links.specs.Decided.{by_state, mailbox_by, create_by, ByItsTable, NamesOfItsTable}

-- ---- one name

state_same : (it : Why) (place : Location) (found : State) → behind_record it (rec_by place found) ≡ by_state it place.server found
state_same it place (Bare serial) = refl
state_same it place (Kept acl) = refl
state_same it place (Active acl) = refl

mailbox_same : (table : MailboxTable) (name : List ℕ) (it : Why) (found : Option Record) → record_at table name ≡ found
    → mailbox_behind it (rec_at (recs_of table) name) ≡ mailbox_by it found
mailbox_same table name it None is = ap (mailbox_behind it) (none_there table.records name is)
mailbox_same table name it (Some found) is = ap (mailbox_behind it) (one_there table.records name found is) ∙ state_same it found.place found.state

create_same : (table : MailboxTable) (first name : List ℕ) (it : Why) (found : Option Record) → record_at table name ≡ found
    → create_behind (recs_of table) first name it (rec_at (recs_of table) name) ≡ create_by table first name it found
create_same table first name it None is = ap (create_behind (recs_of table) first name it) (none_there table.records name is)
create_same table first name it (Some found) is =
    ap (create_behind (recs_of table) first name it) (one_there table.records name found is) ∙ state_same it found.place found.state

pub by_its_table : ByItsTable
by_its_table table first (about.Mailbox name) it = mailbox_same table name it (record_at table name) refl
by_its_table table first (about.Create name) it = create_same table first name it (record_at table name) refl

-- ---- all names

-- what a frontend has of a record is a mailbox if the record is
alike : (place : Location) (state : State) → is_mailbox (rec_by place state) ≡ has_acl state
alike place (Bare serial) = refl
alike place (Kept acl) = refl
alike place (Active acl) = refl

-- so the names are alike where one record more is kept or not
names_by : (name : List ℕ) (it : Rec) (kept : Recs) (names : List (List ℕ)) (one other : Bool) → one ≡ other → map name_in kept ≡ names
    → map name_in (cond one ((name, it) ∷ kept) kept) ≡ cond other (name ∷ names) names
names_by name it kept names true true e same = ap (λ (ns : List (List ℕ)). name ∷ ns) same
names_by name it kept names false false e same = same
names_by name it kept names true false e same = cc
names_by name it kept names false true e same = cc

names_alike : (records : Records) → mailbox_names (map rec_entry records) ≡ names_of records
names_alike [] = refl
names_alike (it ∷ records) =
    names_by it.0 (rec_of it.1) (filter is_mailbox_in (map rec_entry records)) (names_of records) (is_mailbox (rec_of it.1)) (is_mailbox_record it.1)
    (alike (it.1).place (it.1).state) (names_alike records)

pub names_of_its_table : NamesOfItsTable
names_of_its_table table = names_alike table.records
