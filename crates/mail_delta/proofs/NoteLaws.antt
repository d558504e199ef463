-- What notes say of a UID after other notes were put beside them or in their place.
use Rattle.std.proofs.Common.{◌≡◌, ◌≢◌, ℕ, ◌≤◌, Bool, true, false, cond, List, [], ◌∷◌, Option, Some, None, refl, sym, ◌∙◌, ap, subst, arith}
use Rattle.std.specs.List.{AllByRecursion}
use Rattle.std.specs.List.Sorted.{IsStrictlySortedBy}
use Rattle.std.specs.Option.{is_some}
use Rattle.std.specs.Map.{keys_of}
use Rattle.std.specs.Ordering.{is_eq, nat_cmp}
use Rattle.std.specs.declared.cmp.Ordering.TheVariants.{Less}
use Rattle.mur_base.specs.Map.{value_at, with_entry, IsInOrder}
use Rattle.mur_base.proofs.MapLaws.{numbers_apart, value_at-with_entry, value_at-with_entry-other}
use Rattle.mail_message.specs.declared.message.Row.{Row}
use Rattle.mail_delta.specs.Notes.{Notes, noted_or, row_before, with_note, with_later, with_earlier}
use Rattle.mail_delta.proofs.Keyed.{less, below}

pub same_key : (k j : ℕ) → is_eq (nat_cmp k j) ≡ true → k ≡ j
same_key k j h = numbers_apart.exact k j h

pub other_key : (k j : ℕ) → is_eq (nat_cmp k j) ≡ false → k ≢ j
other_key k j h e =
    let yes : is_eq (nat_cmp k k) ≡ true = numbers_apart.itself k in
    let no : is_eq (nat_cmp k k) ≡ false = subst (λ x. is_eq (nat_cmp k x) ≡ false) (sym e) h in cc

-- ---- a note

here_by : (notes : Notes) (uid : ℕ) (was : Option Row) (found : Option (Option Row)) → value_at nat_cmp notes uid ≡ found
    → value_at nat_cmp (cond (is_some found) notes (with_entry nat_cmp notes uid was)) uid ≡ Some (noted_or found was)
here_by notes uid was None h = value_at-with_entry nat_cmp numbers_apart notes uid was
here_by notes uid was (Some row) h = h

pub value_at-with_note : (notes : Notes) (uid : ℕ) (was : Option Row) → value_at nat_cmp (with_note notes uid was) uid ≡ Some (row_before notes uid was)
value_at-with_note notes uid was = here_by notes uid was (value_at nat_cmp notes uid) refl

other_by : (notes : Notes) (uid k : ℕ) (was : Option Row) → k ≢ uid → (b : Bool)
    → value_at nat_cmp (cond b notes (with_entry nat_cmp notes uid was)) k ≡ value_at nat_cmp notes k
other_by notes uid k was ne true = refl
other_by notes uid k was ne false = value_at-with_entry-other nat_cmp numbers_apart notes uid k was ne

pub value_at-with_note-other : (notes : Notes) (uid k : ℕ) (was : Option Row) → k ≢ uid
    → value_at nat_cmp (with_note notes uid was) k ≡ value_at nat_cmp notes k
value_at-with_note-other notes uid k was ne = other_by notes uid k was ne (is_some (value_at nat_cmp notes uid))

noted_by : (notes : Notes) (now : ℕ → Option Row) (uid k : ℕ) → (b : Bool) → is_eq (nat_cmp k uid) ≡ b
    → row_before (with_note notes uid (now uid)) k (now k) ≡ row_before notes k (now k)
noted_by notes now uid k true h =
    let P : ℕ → Type 0 = λ n. row_before (with_note notes uid (now uid)) n (now n) ≡ row_before notes n (now n) in
    subst P (sym (same_key k uid h)) (ap (λ found. noted_or found (now uid)) (value_at-with_note notes uid (now uid)))
noted_by notes now uid k false h = ap (λ found. noted_or found (now k)) (value_at-with_note-other notes uid k (now uid) (other_key k uid h))

-- a note of the row as it is now tells nothing new
pub row_before-noted : (notes : Notes) (now : ℕ → Option Row) (uid k : ℕ)
    → row_before (with_note notes uid (now uid)) k (now k) ≡ row_before notes k (now k)
row_before-noted notes now uid k = noted_by notes now uid k (is_eq (nat_cmp k uid)) refl

stays_by : (notes : Notes) (uid k : ℕ) (was : Option Row) → is_some (value_at nat_cmp notes k) ≡ true → (b : Bool) → is_eq (nat_cmp k uid) ≡ b
    → is_some (value_at nat_cmp (with_note notes uid was) k) ≡ true
stays_by notes uid k was there true h =
    subst (λ n. is_some (value_at nat_cmp (with_note notes uid was) n) ≡ true) (sym (same_key k uid h)) (ap is_some (value_at-with_note notes uid was))
stays_by notes uid k was there false h = ap is_some (value_at-with_note-other notes uid k was (other_key k uid h)) ∙ there

-- what was noted stays so
pub stays-noted : (notes : Notes) (uid k : ℕ) (was : Option Row) → is_some (value_at nat_cmp notes k) ≡ true
    → is_some (value_at nat_cmp (with_note notes uid was) k) ≡ true
stays-noted notes uid k was there = stays_by notes uid k was there (is_eq (nat_cmp k uid)) refl

-- ---- later notes

later_by : (notes later : Notes) (note : ℕ × Option Row) (k : ℕ) (now : Option Row)
    → row_before (with_later (with_note notes note.0 note.1) later) k now ≡ row_before (with_note notes note.0 note.1) k (row_before later k now)
    → (b : Bool) → is_eq (nat_cmp k note.0) ≡ b
    → row_before (with_later (with_note notes note.0 note.1) later) k now
    ≡ row_before notes k (noted_or (cond b (Some note.1) (value_at nat_cmp later k)) now)
later_by notes later note k now ih true h =
    let P : ℕ → Type 0 = λ n. row_before (with_note notes note.0 note.1) n (row_before later k now) ≡ row_before notes n note.1 in
    ih ∙ subst P (sym (same_key k note.0 h)) (ap (λ found. noted_or found (row_before later k now)) (value_at-with_note notes note.0 note.1))
later_by notes later note k now ih false h =
    ih ∙ ap (λ found. noted_or found (row_before later k now)) (value_at-with_note-other notes note.0 k note.1 (other_key k note.0 h))

-- notes go before later ones
pub row_before-later : (notes later : Notes) (k : ℕ) (now : Option Row)
    → row_before (with_later notes later) k now ≡ row_before notes k (row_before later k now)
row_before-later notes [] k now = refl
row_before-later notes (note ∷ later) k now =
    later_by notes later note k now (row_before-later (with_note notes note.0 note.1) later k now) (is_eq (nat_cmp k note.0)) refl

-- ---- earlier notes

-- a key that is lower than all isn't there
pub absent : {X : Type 0} (k j : ℕ) (es : List (ℕ × X)) → AllByRecursion (λ q. nat_cmp j q ≡ Less) (keys_of es) → k ≤ j → value_at nat_cmp es k ≡ None
absent k j [] all le = refl
absent k j (e ∷ es) all le =
    let more = below j e.0 all.0 in
    let lt : nat_cmp k e.0 ≡ Less = less k e.0 (omega (arith, le, more)) in rw lt (absent k j es all.1 le)

earlier_by : (notes earlier : Notes) (note : ℕ × Option Row) (k : ℕ) (now : Option Row) → AllByRecursion (λ q. nat_cmp note.0 q ≡ Less) (keys_of earlier)
    → row_before (with_earlier (with_entry nat_cmp notes note.0 note.1) earlier) k now
    ≡ row_before earlier k (row_before (with_entry nat_cmp notes note.0 note.1) k now)
    → (b : Bool) → is_eq (nat_cmp k note.0) ≡ b
    → row_before (with_earlier (with_entry nat_cmp notes note.0 note.1) earlier) k now
    ≡ noted_or (cond b (Some note.1) (value_at nat_cmp earlier k)) (row_before notes k now)
earlier_by notes earlier note k now all ih true h =
    let same = same_key k note.0 h in
    let none : value_at nat_cmp earlier k ≡ None = absent k note.0 earlier all (omega (arith, same)) in
    let here : value_at nat_cmp (with_entry nat_cmp notes note.0 note.1) k ≡ Some note.1 =
    subst (λ n. value_at nat_cmp (with_entry nat_cmp notes note.0 note.1) n ≡ Some note.1) (sym same)
    (value_at-with_entry nat_cmp numbers_apart notes note.0 note.1) in
    ih ∙ ap (λ found. noted_or found (row_before (with_entry nat_cmp notes note.0 note.1) k now)) none ∙ ap (λ found. noted_or found now) here
earlier_by notes earlier note k now all ih false h =
    ih ∙ ap (λ found. row_before earlier k (noted_or found now))
    (value_at-with_entry-other nat_cmp numbers_apart notes note.0 k note.1 (other_key k note.0 h))

-- earlier notes go before these
pub row_before-earlier : (notes earlier : Notes) (k : ℕ) (now : Option Row) → IsInOrder nat_cmp earlier
    → row_before (with_earlier notes earlier) k now ≡ row_before earlier k (row_before notes k now)
unfolding IsStrictlySortedBy
row_before-earlier notes [] k now order = refl
row_before-earlier notes (note ∷ earlier) k now order =
    earlier_by notes earlier note k now order.0 (row_before-earlier (with_entry nat_cmp notes note.0 note.1) earlier k now order.1)
    (is_eq (nat_cmp k note.0)) refl
