-- The entries of the master: those that make no mailbox and remove none, and DELETE of one.
use Rattle.std.proofs.Common.{◌≡◌, ◌≢◌, ◌⊎◌, inl, inr, Bool, true, false, cond, ℕ, List, Option, None, Some, refl, sym, ap, subst, ◌∙◌}
use Rattle.std.specs.Ordering.{nat_cmp}
use Rattle.std.specs.Cmp.Lexicographic.{slice_cmp}
use Rattle.std.proofs.lemmas.Cmp.{nat_list_cmp_total}
use Rattle.mail_message.specs.Boxes.{Content}
use Rattle.mur_base.specs.Map.{IsInOrder}
use Rattle.mur_base.specs.declared.home.Location.{Location}
use Rattle.mur_base.proofs.MapLaws.{names_apart, same_or_other}
use Rattle.mur_base.proofs.MapOrder.{with_entry-in_order, with_value-in_order}
use Rattle.mur_model.specs.declared.store.Store.{Store}
use Rattle.mur_model.specs.Store.{box_at, without_box}
use Rattle.mur_model.proofs.BoxGone.{box_gone, others_there, without_box-in_order}
use Rattle.node_record.specs.declared.held.Held.{Held}
use Rattle.node_record.specs.declared.master.MasterRecord.{MasterRecord}
use Rattle.node_record.specs.declared.master.MasterRecord.TheVariants as entry
use Rattle.node_record.specs.declared.table.State.{State}
use Rattle.node_record.specs.declared.table.State.TheVariants.{Bare, Kept, Active}
use Rattle.node_record.specs.declared.table.Record.{Record}
use Rattle.node_record.specs.Held.{held_at}
use Rattle.node_record.specs.Table.{Records, MailboxTable, is_mailbox_if, record_at, kept_state, moved, reserved_again, table_after}
use Rattle.master_core.specs.Servers.{name_of}
use Rattle.home_law.specs.ManyNames.{Mailbox}
use Rattle.name_links.specs.Contents.{acl_in, HasAcl, content_in}
use Rattle.name_links.proofs.LinesByName.{order_kept}
use Rattle.name_links.proofs.StateTurn.{own_reserved, own_active, own_kept, own_deleted, record_other}
use Rattle.store_links.specs.Shown.{Homes, content_at, IsMailboxOf, StateShows, RecordShows, NameShows, Shows}
use Rattle.store_links.specs.TableEntries.{OthersStay, MakesNone, OthersMakeNone, IsRemoved, DeleteIsOne}
use Rattle.store_links.proofs.ShownLaw.{none_by, shows_as, record_of, mailbox_by, name_stays}

-- ---- the table stays in order

again_order : (records : Records) (n : Mailbox) (place : Location) (found : Option Record) → IsInOrder (slice_cmp nat_cmp) records
    → IsInOrder (slice_cmp nat_cmp) (reserved_again records n place found)
again_order records n place None order = order
again_order records n place (Some it) order = with_value-in_order (slice_cmp nat_cmp) records n (moved place it) order

pub table_order : (table : MailboxTable) (e : MasterRecord) → IsInOrder (slice_cmp nat_cmp) table.records
    → IsInOrder (slice_cmp nat_cmp) (table_after table e).records
table_order table (entry.Reserved n place serial) order = with_entry-in_order (slice_cmp nat_cmp) nat_list_cmp_total table.records n _ order
table_order table (entry.Active n place acl) order = with_entry-in_order (slice_cmp nat_cmp) nat_list_cmp_total table.records n _ order
table_order table (entry.Inactive n place) order = again_order table.records n place (record_at table n) order
table_order table (entry.Deleted n) order = order_kept n table.records order

-- ---- one name's entry

module _ (table : MailboxTable) (homes : Homes) (store later : Store) (shown : Shows table homes store) where
  -- what it shows of its own name, and the store of every other what it had
  pub by_name : (e : MasterRecord) → NameShows (table_after table e) homes later (name_of e) → OthersStay store later (name_of e)
      → IsInOrder (slice_cmp nat_cmp) later.boxes
      → Shows (table_after table e) homes later
  by_name e own others order = record {
    names = λ n. by_case n (same_or_other (slice_cmp nat_cmp) names_apart n (name_of e));
    records_in_order = table_order table e shown.records_in_order;
    boxes_in_order = order;
  }
    where
      by_case : (n : Mailbox) → (n ≡ name_of e) ⊎ (n ≢ name_of e) → NameShows (table_after table e) homes later n
      by_case n (inl same) = subst (λ (m : Mailbox). NameShows (table_after table e) homes later m) (sym same) own
      by_case n (inr ne) =
          name_stays table (table_after table e) homes store later n (record_other table e n ne shown.records_in_order) (others n ne) (shown.names n)

-- ---- entries that make no mailbox and remove none

kept_acl : (z : State) → acl_in (Some (kept_state z)) ≡ acl_in (Some z)
kept_acl (Bare serial) = refl
kept_acl (Kept acl) = refl
kept_acl (Active acl) = refl

-- the access list of what is here is the mailbox's
same_acl : (found : Option Held) (there : Option Content) (old acl : List ℕ) → HasAcl found acl → IsMailboxOf (content_in found) there old
    → IsMailboxOf (content_in found) there acl
same_acl None there old acl a s = absurd a
same_acl (Some it) there old acl a s =
    let here : Some it.content ≡ Some s.content = sym (ap (λ (t : Bool). cond t (Some it.content) None) a.0) ∙ s.at_home in
    let is : it.content ≡ s.content = cc in
    record { content = s.content; at_home = s.at_home; in_store = s.in_store; has_acl = sym (ap (λ (c : Content). c.acl) is) ∙ a.1 }

module _ (table : MailboxTable) (homes : Homes) (store : Store) (shown : Shows table homes store) where
  own_shows : (e : MasterRecord) → MakesNone table homes e → NameShows (table_after table e) homes store (name_of e)
  own_shows (entry.Reserved n place serial) none =
      subst (λ (r : Option Record). RecordShows homes n (box_at store n) r) (sym (own_reserved table n place serial))
      (none_by homes n (box_at store n) (record_at table n) none (shown.names n))
  own_shows (entry.Active n place acl) is =
      subst (λ (r : Option Record). RecordShows homes n (box_at store n) r) (sym (own_active table n place acl))
      (same_acl (held_at (homes place.server) n) (box_at store n) is.0.0 acl is.1 (mailbox_by table homes store place.server n is.0.0 is.0.1 (shown.names n)))
  own_shows (entry.Inactive n place) is =
      let r = record_of place.server (record_at table n) is.0 is.1 in
      subst (λ (f : Option Record). RecordShows homes n (box_at store n) f) (sym (own_kept table n place r.it r.is))
      (shows_as (content_at homes place.server n) (box_at store n) (kept_state r.it.state) is.0 (kept_acl r.it.state ∙ r.list)
      (mailbox_by table homes store place.server n is.0 is.1 (shown.names n)))
  own_shows (entry.Deleted n) none =
      subst (λ (r : Option Record). RecordShows homes n (box_at store n) r) (sym (own_deleted table n shown.records_in_order))
      (none_by homes n (box_at store n) (record_at table n) none (shown.names n))

pub others_make_none : OthersMakeNone
others_make_none table homes store e shown none = by_name table homes store store shown e (own_shows table homes store shown e none)
    (λ m ne. refl) shown.boxes_in_order

-- ---- DELETE

module _ (table : MailboxTable) (homes : Homes) (store : Store) (n : Mailbox) (shown : Shows table homes store) where
  pub others_left : OthersStay store (without_box store n) n
  others_left m ne = others_there store n m ne

  removed_shows : Shows (table_after table (entry.Deleted n)) homes (without_box store n)
  removed_shows =
      by_name table homes store (without_box store n) shown (entry.Deleted n)
      (subst (λ (r : Option Record). RecordShows homes n (box_at (without_box store n) n) r) (sym (own_deleted table n shown.records_in_order)) (box_gone store n))
      others_left (without_box-in_order store n shown.boxes_in_order)

  removed : (r : Option Record) → is_mailbox_if r ≡ true → RecordShows homes n (box_at store n) r → IsRemoved table homes store n
  removed None e s = cc
  removed (Some it) e s = by_state it.state refl s
    where
      by_acl : (acl : List ℕ) → IsMailboxOf (content_at homes (it.place).server n) (box_at store n) acl → IsRemoved table homes store n
      by_acl acl is = record { box = is.content; was = is.in_store; gone = box_gone store n; shows = removed_shows; others = others_left }

      by_state : (z : State) → it.state ≡ z → StateShows (content_at homes (it.place).server n) (box_at store n) z → IsRemoved table homes store n
      by_state (Bare serial) f s = let no : is_mailbox_if (Some it) ≡ false = rw f refl in cc
      by_state (Kept acl) f s = by_acl acl s
      by_state (Active acl) f s = by_acl acl s

pub delete_is_one : DeleteIsOne
delete_is_one table homes store n shown is = removed table homes store n shown (record_at table n) is (shown.names n)
