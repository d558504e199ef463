-- How many names are mailboxes after a change of one.
use Rattle.std.proofs.Common.{◌≡◌, ℕ, suc, ◌+◌, ◌-◌, ◌≤◌, Bool, true, false, cond, List, [], ◌∷◌, length, Option, None, Some, refl, sym, ap, ◌∙◌, arith}
use Rattle.std.proofs.lemmas.Cmp.{nat_list_cmp_total}
use Rattle.std.proofs.lemmas.List.Sums.{count_by-le-length}
use Rattle.std.proofs.lemmas.Map.Entries.{sum_by-insert_entry, sum_by-remove_entry, sum_by-set_value}
use Rattle.std.specs.Map.{values_of, lookup}
use Rattle.std.specs.BTreeMap.{is_at}
use Rattle.std.specs.Option.{option_map}
use Rattle.std.specs.Prelude.{unwrap_or}
use Rattle.std.specs.Ordering.{nat_cmp}
use Rattle.std.specs.Cmp.Lexicographic.{slice_cmp}
use Rattle.mur_base.specs.Map.{value_at, with_value, without_key, IsInOrder}
use Rattle.mur_base.specs.declared.home.Location.{Location}
use Rattle.node_record.specs.declared.table.State.{State}
use Rattle.node_record.specs.declared.table.State.TheVariants.{Bare, Kept, Active}
use Rattle.node_record.specs.declared.table.Record.{Record}
use Rattle.node_record.specs.Table.{Records, is_mailbox, is_mailbox_if, has_acl, kept_state, mailboxes_in, with_record, reserved_again, moved}

abbrev pub one_if : Bool → ℕ
one_if b = cond b 1 0

found_is : (found : Option Record) → unwrap_or (option_map (λ (it : Record). one_if (is_mailbox it)) found) 0 ≡ one_if (is_mailbox_if found)
found_is None = refl
found_is (Some it) = refl

pub count_put : (records : Records) (name : List ℕ) (it : Record) → IsInOrder (slice_cmp nat_cmp) records
    → mailboxes_in (with_record records name it) + one_if (is_mailbox_if (value_at (slice_cmp nat_cmp) records name)) ≡ mailboxes_in records + one_if (is_mailbox it)
count_put records name it sorted =
    ap (λ (n : ℕ). mailboxes_in (with_record records name it) + n) (sym (found_is (value_at (slice_cmp nat_cmp) records name)))
    ∙ sum_by-insert_entry (λ (it : Record). one_if (is_mailbox it)) nat_list_cmp_total records name it sorted

pub count_removed : (records : Records) (name : List ℕ)
    → mailboxes_in (without_key (slice_cmp nat_cmp) records name) + one_if (is_mailbox_if (value_at (slice_cmp nat_cmp) records name)) ≡ mailboxes_in records
count_removed records name =
    ap (λ (n : ℕ). mailboxes_in (without_key (slice_cmp nat_cmp) records name) + n) (sym (found_is (value_at (slice_cmp nat_cmp) records name)))
    ∙ sum_by-remove_entry (λ (it : Record). one_if (is_mailbox it)) (is_at (slice_cmp nat_cmp name)) records

pub count_within : (records : Records) → mailboxes_in records ≤ length records
count_within records = omega (arith, count_by-le-length is_mailbox (values_of records), length-values records)
  where
    length-values : (records : Records) → length (values_of records) ≡ length records
    length-values [] = refl
    length-values (e ∷ records) = ap suc (length-values records)

-- a name that is reserved again is a mailbox if it was one
same_acl : (place : Location) (it : Record) → is_mailbox (moved place it) ≡ is_mailbox it
same_acl place it = by_state it.state
  where
    by_state : (s : State) → has_acl (kept_state s) ≡ has_acl s
    by_state (Bare serial) = refl
    by_state (Kept acl) = refl
    by_state (Active acl) = refl

pub count_moved : (records : Records) (name : List ℕ) (place : Location) (it : Record) → value_at (slice_cmp nat_cmp) records name ≡ Some it
    → mailboxes_in (with_value (slice_cmp nat_cmp) records name (moved place it)) ≡ mailboxes_in records
count_moved records name place it there =
    let sum = sum_by-set_value (λ (it : Record). one_if (is_mailbox it)) (is_at (slice_cmp nat_cmp name)) records it (moved place it) there in
    let same : one_if (is_mailbox (moved place it)) ≡ one_if (is_mailbox it) = ap one_if (same_acl place it) in
    omega (arith, sum, same)

-- a name that is reserved again leaves the count as it was
pub count_again : (records : Records) (name : List ℕ) (place : Location) (found : Option Record) → value_at (slice_cmp nat_cmp) records name ≡ found
    → mailboxes_in (reserved_again records name place found) ≡ mailboxes_in records
count_again records name place None there = refl
count_again records name place (Some it) there = count_moved records name place it there
