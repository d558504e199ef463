-- The table stays in order, the names of its servers have no `!`, and its serial stays one.
use Rattle.std.proofs.Common.{◌≡◌, ℕ, ◌+◌, ◌<◌, ◌^◌, max, Bool, true, false, cond, List, [], ◌∷◌, Option, None, Some, refl, sym, subst, arith}
use Rattle.std.specs.declared.cmp.Ordering.{Ordering}
use Rattle.std.specs.declared.cmp.Ordering.TheVariants.{Less, Equal, Greater}
use Rattle.std.specs.List.{AllByRecursion}
use Rattle.std.specs.Ordering.{is_eq, nat_cmp, match_ordering}
use Rattle.std.specs.Cmp.Lexicographic.{slice_cmp}
use Rattle.std.proofs.lemmas.Cmp.{nat_list_cmp_total}
use Rattle.mur_base.specs.Map.{with_entry, with_value, without_key, IsInOrder}
use Rattle.mur_base.proofs.MapOrder.{with_entry-in_order, with_value-in_order}
use Rattle.mur_base.specs.declared.home.Location.{Location}
use Rattle.mupdate_codec.specs.declared.command.MCommand.{MCommand}
use Rattle.mupdate_codec.specs.declared.command.MCommand.TheVariants as command
use Rattle.mupdate_codec.specs.declared.tag.Tag.{Tag}
use Rattle.node_record.specs.declared.master.MasterRecord.{MasterRecord}
use Rattle.node_record.specs.declared.master.MasterRecord.TheVariants as entry
use Rattle.node_record.specs.declared.table.Record.{Record}
use Rattle.node_record.specs.Table.{Records, MailboxTable, record_at, reserved_again, moved, table_after}
use Rattle.master_core.specs.declared.refusal.Refusal.{Refusal}
use Rattle.master_core.specs.declared.sender.Sender.TheVariants.{Backend}
use Rattle.master_core.specs.Refusals.{reserve_refusal, activate_refusal, deactivate_refusal, delete_refusal}
use Rattle.master_core.specs.Replies.{reserve_by, activate_by, deactivate_by, delete_by, reserve_reply, activate_reply, deactivate_reply, delete_reply, find_reply, list_reply, reply_to}
use Rattle.master_core.specs.Step.{table_with}
use Rattle.home_law.specs.Items.{Server, is_same_server}
use Rattle.home_law.specs.ManyNames.{SentLine as OpenLine, sent_reserve, sent_make, sent_again, sent_deactivate}
use Rattle.home_law.proofs.SameName.{is_the_same}
use Rattle.name_links.specs.Lines.{is_asked, backend_line}
use Rattle.name_links.specs.Answers.{HasNoBang, IsTable}
use Rattle.name_links.specs.OneLink.{table_by}
use Rattle.name_links.proofs.EachCommand.{if_so}
use Rattle.name_links.proofs.LineAnswers.{serial_left, next_serial}
use Rattle.name_links.proofs.LinesByName.{order_kept}

abbrev IsPlaced : List ℕ × Record → Type 0
IsPlaced e = HasNoBang ((e.1).place).server

abbrev ArePlaced : Records → Type 0
ArePlaced records = AllByRecursion IsPlaced records

-- ---- changes of the records

put_by : (k : List ℕ) (it : Record) (e : List ℕ × Record) (es : Records) → HasNoBang it.place.server → ArePlaced (e ∷ es) → ArePlaced (with_entry (slice_cmp nat_cmp) es k it)
    → (o : Ordering) → ArePlaced (match_ordering o ((k, it) ∷ e ∷ es) ((e.0, it) ∷ es) (e ∷ with_entry (slice_cmp nat_cmp) es k it))
put_by k it e es p all more Less = (p, all)
put_by k it e es p all more Equal = (p, all.1)
put_by k it e es p all more Greater = (all.0, more)

put_placed : (k : List ℕ) (it : Record) (es : Records) → HasNoBang it.place.server → ArePlaced es → ArePlaced (with_entry (slice_cmp nat_cmp) es k it)
put_placed k it [] p all = (p, tt)
put_placed k it (e ∷ es) p all = put_by k it e es p all (put_placed k it es p all.1) (slice_cmp nat_cmp k e.0)

value_by : (it : Record) (e : List ℕ × Record) (es rest : Records) (t : Bool) → HasNoBang it.place.server → ArePlaced (e ∷ es) → ArePlaced rest
    → ArePlaced (cond t ((e.0, it) ∷ es) (e ∷ rest))
value_by it e es rest true p all more = (p, all.1)
value_by it e es rest false p all more = (all.0, more)

value_placed : (k : List ℕ) (it : Record) (es : Records) → HasNoBang it.place.server → ArePlaced es → ArePlaced (with_value (slice_cmp nat_cmp) es k it)
value_placed k it [] p all = tt
value_placed k it (e ∷ es) p all = value_by it e es (with_value (slice_cmp nat_cmp) es k it) (is_eq (slice_cmp nat_cmp k e.0)) p all (value_placed k it es p all.1)

drop_by : (e : List ℕ × Record) (es rest : Records) (t : Bool) → ArePlaced (e ∷ es) → ArePlaced rest → ArePlaced (cond t es (e ∷ rest))
drop_by e es rest true all more = all.1
drop_by e es rest false all more = (all.0, more)

drop_placed : (k : List ℕ) (es : Records) → ArePlaced es → ArePlaced (without_key (slice_cmp nat_cmp) es k)
drop_placed k [] all = tt
drop_placed k (e ∷ es) all = drop_by e es (without_key (slice_cmp nat_cmp) es k) (is_eq (slice_cmp nat_cmp k e.0)) all (drop_placed k es all.1)

again_order : (records : Records) (name : List ℕ) (place : Location) (found : Option Record) → IsInOrder (slice_cmp nat_cmp) records
    → IsInOrder (slice_cmp nat_cmp) (reserved_again records name place found)
again_order records name place None order = order
again_order records name place (Some it) order = with_value-in_order (slice_cmp nat_cmp) records name (moved place it) order

again_placed : (records : Records) (name : List ℕ) (place : Location) (found : Option Record) → HasNoBang place.server → ArePlaced records
    → ArePlaced (reserved_again records name place found)
again_placed records name place None p all = all
again_placed records name place (Some it) p all = value_placed name (moved place it) records p all

-- ---- entries

-- the place that an entry tells
abbrev EntryPlaced : MasterRecord → Type 0
EntryPlaced (entry.Reserved name place serial) = HasNoBang place.server
EntryPlaced (entry.Active name place acl) = HasNoBang place.server
EntryPlaced (entry.Inactive name place) = HasNoBang place.server
EntryPlaced (entry.Deleted name) = Unit {0}

entry_table : (table : MailboxTable) (e : MasterRecord) → IsTable table → EntryPlaced e → IsTable (table_after table e)
entry_table table (entry.Reserved name place serial) is p = record {
  order = with_entry-in_order (slice_cmp nat_cmp) nat_list_cmp_total table.records name _ is.order;
  servers = put_placed name _ table.records p is.servers;
}
entry_table table (entry.Active name place acl) is p = record {
  order = with_entry-in_order (slice_cmp nat_cmp) nat_list_cmp_total table.records name _ is.order;
  servers = put_placed name _ table.records p is.servers;
}
entry_table table (entry.Inactive name place) is p = record {
  order = again_order table.records name place (record_at table name) is.order;
  servers = again_placed table.records name place (record_at table name) p is.servers;
}
entry_table table (entry.Deleted name) is p = record { order = order_kept name table.records is.order; servers = drop_placed name table.records is.servers }

-- a table, and its serial
pub record IsSound (table : MailboxTable) : Type 0 where
  pub table_is : IsTable table
  pub serial_is : table.serial < 2 ^ 32

below_both : (a b n : ℕ) → a < n → b < n → max a b < n
below_both a b n h k = omega arith

module _ (table : MailboxTable) (is : IsSound table) (b : Server) (no_bang : HasNoBang b) where
  placed : (place : Location) → is_same_server place.server b ≡ true → HasNoBang place.server
  placed place e = subst (λ (s : List ℕ). HasNoBang s) (sym (is_the_same place.server b e)) no_bang

  reserve_sound : (m : List ℕ) (place : Location) → is_same_server place.server b ≡ true → IsSound (table_by table b (command.Reserve m place))
  unfolding reply_to reserve_reply
  reserve_sound m place e = by_refusal (reserve_refusal table (Backend b) (record_at table m) place) refl
    where
      by_refusal : (r : Option Refusal) → reserve_refusal table (Backend b) (record_at table m) place ≡ r → IsSound (table_with table (reserve_by table m place r).entry)
      by_refusal (Some why) f = is
      by_refusal None f = record {
        table_is = entry_table table (entry.Reserved m place (table.serial + 1)) is.table_is (placed place e);
        serial_is = below_both table.serial (table.serial + 1) (2 ^ 32) is.serial_is (next_serial table.serial is.serial_is (serial_left table b (record_at table m) place f));
      }

  activate_sound : (m acl : List ℕ) (place : Location) → is_same_server place.server b ≡ true → IsSound (table_by table b (command.Activate m place acl))
  unfolding reply_to activate_reply
  activate_sound m acl place e = by_refusal (activate_refusal table (Backend b) (record_at table m) place)
    where
      by_refusal : (r : Option Refusal) → IsSound (table_with table (activate_by (Backend b) m place acl r).entry)
      by_refusal (Some why) = is
      by_refusal None = record { table_is = entry_table table (entry.Active m place acl) is.table_is (placed place e); serial_is = is.serial_is }

  deactivate_sound : (m : List ℕ) (place : Location) → is_same_server place.server b ≡ true → IsSound (table_by table b (command.Deactivate m place))
  unfolding reply_to deactivate_reply
  deactivate_sound m place e = by_refusal (deactivate_refusal (Backend b) (record_at table m) place)
    where
      by_refusal : (r : Option Refusal) → IsSound (table_with table (deactivate_by m place r).entry)
      by_refusal (Some why) = is
      by_refusal None = record { table_is = entry_table table (entry.Inactive m place) is.table_is (placed place e); serial_is = is.serial_is }

  delete_sound : (m : List ℕ) → IsSound (table_by table b (command.Delete m))
  unfolding reply_to delete_reply
  delete_sound m = by_refusal (delete_refusal (Backend b) (record_at table m))
    where
      by_refusal : (r : Option Refusal) → IsSound (table_with table (delete_by m r).entry)
      by_refusal (Some why) = is
      by_refusal None = record { table_is = entry_table table (entry.Deleted m) is.table_is tt; serial_is = is.serial_is }

  -- the table after a line of a backend
  pub table_sound : (tag : Tag) (it : MCommand) (line : OpenLine) → backend_line b tag it ≡ Some line → IsSound (table_by table b it)
  unfolding backend_line reply_to find_reply list_reply
  table_sound tag (command.Reserve m place) line e = reserve_sound m place (if_so (is_same_server place.server b) (sent_reserve m) line e).0
  table_sound tag (command.Activate m place acl) line e = activate_sound m acl place (if_so (is_same_server place.server b) (cond (is_asked tag) (sent_make m) (sent_again m)) line e).0
  table_sound tag (command.Deactivate m place) line e = deactivate_sound m place (if_so (is_same_server place.server b) (sent_deactivate m) line e).0
  table_sound tag (command.Delete m) line e = delete_sound m
  table_sound tag (command.Find m) line e = is
  table_sound tag (command.List prefix) line e = is
  table_sound tag command.Update line e = cc
  table_sound tag command.Noop line e = cc
  table_sound tag command.Logout line e = cc
