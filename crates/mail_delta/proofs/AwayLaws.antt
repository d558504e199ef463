-- Rows without those whose UIDs are in a set.
use Rattle.std.proofs.Common.{◌≡◌, ◌≢◌, ℕ, Bool, true, false, not, ◌==◌, ◌||◌, List, [], ◌∷◌, length, refl, sym, ap, subst, arith}
use Rattle.std.specs.List.{filter}
use Rattle.std.specs.Option.{is_some}
use Rattle.std.specs.Ordering.{nat_cmp}
use Rattle.std.proofs.lemmas.List.Elements.{filter_agree}
use Rattle.mur_base.specs.Map.{value_at, with_entry}
use Rattle.mur_base.proofs.MapLaws.{numbers_apart, value_at-with_entry, value_at-with_entry-other}
use Rattle.mail_message.specs.declared.message.Row.{Row}
use Rattle.mail_message.specs.RowOrder.{AreRising}
use Rattle.mail_delta.specs.Deltas.{is_among, without_rows, is_left}
use Rattle.mail_delta.proofs.Keyed.{same_number, other_number, rise-filter}
use Rattle.mail_delta.proofs.RowPuts.{uid_of}

abbrev pub UidSet : Type 0
UidSet = List (ℕ × Unit {0})

or_true : (b : Bool) → true ≡ b || true
or_true true = refl
or_true false = refl

step_by : (set : UidSet) (uid k : ℕ) (rest : List ℕ) → (b : Bool) → (uid == k) ≡ b
    → (is_some (value_at nat_cmp (with_entry nat_cmp set uid tt) k) || is_among rest k) ≡ (is_some (value_at nat_cmp set k) || is_among (uid ∷ rest) k)
step_by set uid k rest true h =
    let same = same_number uid k h in
    let here : is_some (value_at nat_cmp (with_entry nat_cmp set uid tt) k) ≡ true =
    subst (λ n. is_some (value_at nat_cmp (with_entry nat_cmp set uid tt) n) ≡ true) same
    (ap is_some (value_at-with_entry nat_cmp numbers_apart set uid tt)) in
    rw (here, h) (or_true (is_some (value_at nat_cmp set k)))
step_by set uid k rest false h =
    let apart : k ≢ uid = λ e. other_number uid k h (sym e) in
    let other = ap is_some (value_at-with_entry-other nat_cmp numbers_apart set uid k tt apart) in
    rw h (ap (λ b. b || is_among rest k) other)

-- one UID more in the set is one less that is still to come
pub set-step : (set : UidSet) (uid k : ℕ) (rest : List ℕ)
    → (is_some (value_at nat_cmp (with_entry nat_cmp set uid tt) k) || is_among rest k) ≡ (is_some (value_at nat_cmp set k) || is_among (uid ∷ rest) k)
set-step set uid k rest = step_by set uid k rest (uid == k) refl

pub none-away : (rows : List Row) (gone : List ℕ) → length gone ≡ 0 → without_rows rows gone ≡ rows
none-away [] gone none = refl
none-away (row ∷ rows) [] none = ap (λ rest. row ∷ rest) (none-away rows [] none)
none-away (row ∷ rows) (uid ∷ gone) none = absurd (omega (arith, none))

pub away-set : (rows : List Row) (gone : List ℕ) (set : UidSet) → ((uid : ℕ) → is_some (value_at nat_cmp set uid) ≡ is_among gone uid)
    → filter (is_left set) rows ≡ without_rows rows gone
away-set rows gone set is = filter_agree (is_left set) (λ row. not (is_among gone row.uid)) (λ row. ap not (is row.uid)) rows

pub rising-away : (rows : List Row) (gone : List ℕ) → AreRising rows → AreRising (without_rows rows gone)
rising-away rows gone rising = rise-filter uid_of (λ row. not (is_among gone row.uid)) rows rising
