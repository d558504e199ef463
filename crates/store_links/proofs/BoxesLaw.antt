-- The mailboxes of the table are the boxes of the store.
use Rattle.std.proofs.Common.{◌≡◌, suc, Bool, true, false, ◌||◌, cond, is_some, nat_le, filter, List, [], ◌∷◌, length, Option, None, Some, refl, sym, ap, subst, ◌∙◌}
use Rattle.std.specs.BTreeMap.{is_at}
use Rattle.std.specs.List.Sorted.{IsStrictlySortedBy}
use Rattle.std.specs.Map.{keys_of, values_of}
use Rattle.std.specs.Ordering.{is_eq, nat_cmp}
use Rattle.std.specs.Cmp.Lexicographic.{slice_cmp}
use Rattle.std.proofs.lemmas.List.Sums.{length-filter}
use Rattle.std.proofs.lemmas.Map.Made.{is_some-lookup}
use Rattle.mail_message.specs.Boxes.{Content}
use Rattle.mur_base.specs.declared.limits.TheConstants.{MAILBOX_LIMIT}
use Rattle.mur_base.specs.Map.{value_at, IsInOrder}
use Rattle.mur_base.proofs.MapLaws.{names_apart}
use Rattle.mur_model.specs.Store.{box_at, is_full}
use Rattle.node_record.specs.declared.table.State.{State}
use Rattle.node_record.specs.declared.table.State.TheVariants.{Bare, Kept, Active}
use Rattle.node_record.specs.declared.table.Record.{Record}
use Rattle.node_record.specs.Table.{Records, is_mailbox, is_mailbox_if, record_at, mailboxes_in}
use Rattle.home_law.specs.ManyNames.{Mailbox}
use Rattle.store_links.specs.Boxes.{BoxIsThere, EachIsABox, mailbox_names, SameNames, AsMany, FullAlike}
use Rattle.store_links.specs.Shown.{Homes, content_at, StateShows, RecordShows}
use Rattle.store_links.proofs.ShownLaw.{mailbox_by}
use Rattle.store_links.proofs.SameKeys.{compared, is_one_of, IsBefore, before_none, same_keys}

-- ---- each name

pub box_is_there : BoxIsThere
box_is_there table homes store b n acl shown at =
    let was = mailbox_by table homes store b n acl at (shown.names n) in (was.content, was.at_home, was.in_store, was.has_acl)

box_by : (homes : Homes) (n : Mailbox) (there : Option Content) (r : Option Record) → RecordShows homes n there r → is_mailbox_if r ≡ is_some there
box_by homes n there None s = sym (ap is_some s)
box_by homes n there (Some it) s = by_state it.state refl s
  where
    by_state : (z : State) → it.state ≡ z → StateShows (content_at homes (it.place).server n) there z → is_mailbox_if (Some it) ≡ is_some there
    by_state (Bare serial) f s = rw f (sym (ap is_some s))
    by_state (Kept acl) f s = rw f (sym (ap is_some s.in_store))
    by_state (Active acl) f s = rw f (sym (ap is_some s.in_store))

pub each_is_a_box : EachIsABox
each_is_a_box table homes store shown n = box_by homes n (box_at store n) (record_at table n) (shown.names n)

-- ---- the names of the mailboxes

before_names : (n : Mailbox) (records : Records) → IsBefore n (keys_of records) → IsBefore n (mailbox_names records)
before_names n [] all = tt
before_names n (it ∷ records) all = by_test (is_mailbox it.1) (before_names n records all.1)
  where
    by_test : (t : Bool) → IsBefore n (mailbox_names records) → IsBefore n (cond t (it.0 ∷ mailbox_names records) (mailbox_names records))
    by_test true rest = (all.0, rest)
    by_test false rest = rest

names_in_order : (records : Records) → IsInOrder (slice_cmp nat_cmp) records → IsStrictlySortedBy (slice_cmp nat_cmp) (mailbox_names records)
unfolding IsStrictlySortedBy
names_in_order [] order = tt
names_in_order (it ∷ records) order = by_test (is_mailbox it.1) (names_in_order records order.1)
  where
    by_test : (t : Bool) → IsStrictlySortedBy (slice_cmp nat_cmp) (mailbox_names records)
        → IsStrictlySortedBy (slice_cmp nat_cmp) (cond t (it.0 ∷ mailbox_names records) (mailbox_names records))
    by_test true rest = (before_names it.0 records order.0, rest)
    by_test false rest = rest

names_found : (n : Mailbox) (records : Records) → IsInOrder (slice_cmp nat_cmp) records
    → is_one_of n (mailbox_names records) ≡ is_mailbox_if (value_at (slice_cmp nat_cmp) records n)
unfolding IsStrictlySortedBy
names_found n [] order = refl
names_found n (it ∷ records) order = by_test (is_mailbox it.1) refl (is_eq (compared n it.0)) refl (names_found n records order.1)
  where
    by_test : (m : Bool) → is_mailbox it.1 ≡ m → (t : Bool) → is_eq (compared n it.0) ≡ t
        → is_one_of n (mailbox_names records) ≡ is_mailbox_if (value_at (slice_cmp nat_cmp) records n)
        → is_one_of n (cond m (it.0 ∷ mailbox_names records) (mailbox_names records))
        ≡ is_mailbox_if (cond t (Some it.1) (value_at (slice_cmp nat_cmp) records n))
    by_test true e true f rest = ap (λ (b : Bool). b || is_one_of n (mailbox_names records)) f ∙ sym e
    by_test true e false f rest = ap (λ (b : Bool). b || is_one_of n (mailbox_names records)) f ∙ rest
    by_test false e true f rest =
        subst (λ (k : Mailbox). is_one_of k (mailbox_names records) ≡ false) (sym (names_apart.exact n it.0 f))
        (before_none it.0 (mailbox_names records) (before_names it.0 records order.0)) ∙ sym e
    by_test false e false f rest = rest

pub same_names : SameNames
same_names table homes store shown =
    same_keys (mailbox_names table.records) (keys_of store.boxes) (names_in_order table.records shown.records_in_order) shown.boxes_in_order
    (λ n. names_found n table.records shown.records_in_order ∙ each_is_a_box table homes store shown n ∙ is_some-lookup (is_at (compared n)) store.boxes)

-- ---- how many

names_kept : (records : Records) → length (mailbox_names records) ≡ length (filter is_mailbox (values_of records))
names_kept [] = refl
names_kept (it ∷ records) = by_test (is_mailbox it.1) (names_kept records)
  where
    by_test : (t : Bool) → length (mailbox_names records) ≡ length (filter is_mailbox (values_of records))
        → length (cond t (it.0 ∷ mailbox_names records) (mailbox_names records))
        ≡ length (cond t (it.1 ∷ filter is_mailbox (values_of records)) (filter is_mailbox (values_of records)))
    by_test true rest = ap suc rest
    by_test false rest = rest

names_counted : (records : Records) → length (mailbox_names records) ≡ mailboxes_in records
names_counted records = names_kept records ∙ length-filter is_mailbox (values_of records)

length_keys : {X : Type 0} (entries : List (Mailbox × X)) → length (keys_of entries) ≡ length entries
length_keys [] = refl
length_keys (it ∷ entries) = ap suc (length_keys entries)

pub as_many : AsMany
as_many table homes store shown counted =
    counted ∙ sym (names_counted table.records) ∙ ap (λ (names : List Mailbox). length names) (same_names table homes store shown) ∙ length_keys store.boxes

pub full_alike : FullAlike
unfolding is_full
full_alike table homes store shown counted = ap (nat_le MAILBOX_LIMIT) (sym (as_many table homes store shown counted))
