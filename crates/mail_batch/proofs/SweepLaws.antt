-- The marks of UIDs, and the UIDs left, after a note and after a change is sent.
use Rattle.std.proofs.Common.{◌≡◌, ◌≢◌, ◌⊎◌, inl, inr, ℕ, Bool, true, false, cond, List, [], ◌∷◌, Option, Some, None, refl, sym, ◌∙◌, ap, subst}
use Rattle.std.specs.Prelude.{Result, Ok, Err, OnErr}
use Rattle.std.specs.Option.{is_some}
use Rattle.std.specs.Ordering.{is_eq, nat_cmp}
use Rattle.mur_base.specs.Map.{value_at, with_entry, with_value, without_key}
use Rattle.mur_base.proofs.MapLaws.{numbers_apart, same_or_other, not_equal, value_at-with_entry, value_at-with_entry-other}
use Rattle.mail_batch.specs.Sweeps.{SweepState, SentMarks, or_false, with_place}
use Rattle.mail_batch.specs.Sweeps.{IsSameSweep}

pub none_of : {X : Type 0} (found : Option X) → is_some found ≡ false → found ≡ None
none_of None h = refl
none_of (Some x) h = cc

pub either : (q k : ℕ) → (q ≡ k) ⊎ (q ≢ k)
either q k = same_or_other nat_cmp numbers_apart q k

-- ---- a value at a key that isn't there

absent_by : {X : Type 0} (e : ℕ × X) (es : List (ℕ × X)) (k : ℕ) (v : X) → (value_at nat_cmp es k ≡ None → with_value nat_cmp es k v ≡ es)
    → (b : Bool) → is_eq (nat_cmp k e.0) ≡ b → value_at nat_cmp (e ∷ es) k ≡ None → with_value nat_cmp (e ∷ es) k v ≡ e ∷ es
absent_by e es k v ih true h none = let no = rw h at none in cc
absent_by e es k v ih false h none = rw h (ap (λ rest. e ∷ rest) (ih (rw h at none)))

pub with_value-absent : {X : Type 0} (es : List (ℕ × X)) (k : ℕ) (v : X) → value_at nat_cmp es k ≡ None → with_value nat_cmp es k v ≡ es
with_value-absent [] k v none = refl
with_value-absent (e ∷ es) k v none = absent_by e es k v (with_value-absent es k v) (is_eq (nat_cmp k e.0)) refl none

-- ---- an entry less

less_by : {X : Type 0} (e : ℕ × X) (es : List (ℕ × X)) (k q : ℕ) → q ≢ k → value_at nat_cmp (without_key nat_cmp es k) q ≡ value_at nat_cmp es q
    → (b : Bool) → is_eq (nat_cmp k e.0) ≡ b → value_at nat_cmp (without_key nat_cmp (e ∷ es) k) q ≡ value_at nat_cmp (e ∷ es) q
less_by e es k q ne ih true h =
    let gone : is_eq (nat_cmp q e.0) ≡ false = subst (λ x. is_eq (nat_cmp q x) ≡ false) (numbers_apart.exact k e.0 h)
    (not_equal nat_cmp numbers_apart q k ne) in
    rw h (rw gone refl)
less_by e es k q ne ih false h = rw h (ap (λ found. cond (is_eq (nat_cmp q e.0)) (Some e.1) found) ih)

-- another key finds what it found
pub value_at-without_key : {X : Type 0} (es : List (ℕ × X)) (k q : ℕ) → q ≢ k → value_at nat_cmp (without_key nat_cmp es k) q ≡ value_at nat_cmp es q
value_at-without_key [] k q ne = refl
value_at-without_key (e ∷ es) k q ne = less_by e es k q ne (value_at-without_key es k q ne) (is_eq (nat_cmp k e.0)) refl

-- ---- a place for a mark

sent_by : (known : SentMarks) (uid q : ℕ) (b : Bool) → is_some (value_at nat_cmp known uid) ≡ b → (q ≡ uid) ⊎ (q ≢ uid)
    → or_false (value_at nat_cmp (cond b known (with_entry nat_cmp known uid false)) q) ≡ or_false (value_at nat_cmp known q)
sent_by known uid q true h which = refl
sent_by known uid q false h (inl same) =
    rw same (ap or_false (value_at-with_entry nat_cmp numbers_apart known uid false ∙ ap Some refl) ∙ sym (ap or_false (none_of _ h)))
sent_by known uid q false h (inr ne) = ap or_false (value_at-with_entry-other nat_cmp numbers_apart known uid q false ne)

-- a new place says that nothing was sent
pub sent-with_place : (known : SentMarks) (uid q : ℕ) → or_false (value_at nat_cmp (with_place known uid) q) ≡ or_false (value_at nat_cmp known q)
sent-with_place known uid q = sent_by known uid q (is_some (value_at nat_cmp known uid)) refl (either q uid)

place_by : (known : SentMarks) (uid : ℕ) (b : Bool) → is_some (value_at nat_cmp known uid) ≡ b
    → is_some (value_at nat_cmp (cond b known (with_entry nat_cmp known uid false)) uid) ≡ true
place_by known uid true h = h
place_by known uid false h = ap is_some (value_at-with_entry nat_cmp numbers_apart known uid false)

pub place-made : (known : SentMarks) (uid : ℕ) → is_some (value_at nat_cmp (with_place known uid) uid) ≡ true
place-made known uid = place_by known uid (is_some (value_at nat_cmp known uid)) refl

others_by : (known : SentMarks) (uid q : ℕ) → q ≢ uid → (b : Bool)
    → value_at nat_cmp (cond b known (with_entry nat_cmp known uid false)) q ≡ value_at nat_cmp known q
others_by known uid q ne true = refl
others_by known uid q ne false = value_at-with_entry-other nat_cmp numbers_apart known uid q false ne

pub place-others : (known : SentMarks) (uid q : ℕ) → q ≢ uid → value_at nat_cmp (with_place known uid) q ≡ value_at nat_cmp known q
place-others known uid q ne = others_by known uid q ne (is_some (value_at nat_cmp known uid))

-- a note for which there was no memory
pub same-noted : {A E : Type 0} (result : Result A E) (sweep : SweepState) (left : List (ℕ × Unit {0})) (known : SentMarks) (uid : ℕ)
    → known ≡ with_place sweep.known uid → OnErr result (left ≡ sweep.left) → OnErr result (IsSameSweep sweep (record { left = left; known = known }))
same-noted (Ok done) sweep left known uid is err = tt
same-noted (Err fault) sweep left known uid is err =
    record { left = err; sent = λ q. ap (λ k. or_false (value_at nat_cmp k q)) is ∙ sent-with_place sweep.known uid q }
