-- What is left of a list at a step of a loop over it.
use Rattle.std.proofs.Common.{◌≡◌, ℕ, ◌+◌, ◌<◌, ◌≤◌, Bool, cond, ◌==◌, List, ◌∷◌, ◌++◌, length, drop, get_or, Option, Some, refl, sym, ◌∙◌, ap}
use Rattle.std.proofs.Common.{subst, add-one}
use Rattle.std.specs.List.{filter, position_from}
use Rattle.std.proofs.Math.Seq.{drop-cons}
use Rattle.std.proofs.lemmas.List.{append-nil, drop_all}
use Rattle.mail_message.specs.declared.message.Row.{Row}
use Rattle.mail_delta.specs.declared.span.Span.{Span}
use Rattle.std.specs.Ordering.{nat_cmp}
use Rattle.mur_base.specs.Map.{IsInOrder}
use Rattle.mail_delta.specs.Notes.{Notes, row_before, with_earlier}
use Rattle.mail_delta.specs.Spans.{was_at}
use Rattle.mail_delta.specs.Handing.{begins_at}
use Rattle.mail_delta.proofs.NoteLaws.{row_before-earlier}

pub filtered-all : (made : List Row) (p : Row → Bool) (rows : List Row) (i : ℕ) → length rows ≤ i → made ++ filter p (drop i rows) ≡ filter p rows
    → made ≡ filter p rows
filtered-all made p rows i le h =
    sym (append-nil made) ∙ ap (λ rest. made ++ filter p rest) (sym (drop_all i rows le)) ∙ h

pub next_is : {X : Type 0} (xs : List X) (i : ℕ) (d : X) → i < length xs → drop i xs ≡ get_or xs i d ∷ drop (i + 1) xs
next_is xs i d lt = rw (add-one, drop-cons xs i d) refl

-- the mark at a place is looked at
pub position-step : (mark : ℕ) (spans : List Span) (i : ℕ) (d : Span) (b : Bool) → i < length spans → ((get_or spans i d).mark == mark) ≡ b
    → position_from (begins_at mark) i (drop i spans) ≡ cond b (Some i) (position_from (begins_at mark) (i + 1) (drop (i + 1) spans))
position-step mark spans i d b lt is =
    ap (position_from (begins_at mark) i) (next_is spans i d lt)
    ∙ ap (λ t. cond t (Some i) (position_from (begins_at mark) (i + 1) (drop (i + 1) spans))) is

pub was_at-step : (mark : ℕ) (spans : List Span) (i : ℕ) (d : Span) (b : Bool) (uid : ℕ) (now : Option Row) → i < length spans
    → ((get_or spans i d).mark == mark) ≡ b
    → was_at mark (drop i spans) uid now
    ≡ cond b (Some (row_before (get_or spans i d).before uid now)) (was_at mark (drop (i + 1) spans) uid (row_before (get_or spans i d).before uid now))
was_at-step mark spans i d b uid now lt is =
    let was = row_before (get_or spans i d).before uid now in
    ap (λ rest. was_at mark rest uid now) (next_is spans i d lt)
    ∙ ap (λ t. cond t (Some was) (was_at mark (drop (i + 1) spans) uid was)) is

-- the notes of the mark at a place are put before those of later marks
pub since-step : (mark : ℕ) (spans : List Span) (i : ℕ) (span : Span) (before after : Notes) (b : Bool) → i < length spans → span ≡ get_or spans i span
    → (span.mark == mark) ≡ b → after ≡ with_earlier before span.before → IsInOrder nat_cmp span.before → (uid : ℕ) (now : Option Row)
    → was_at mark (drop i spans) uid (row_before before uid now)
    ≡ cond b (Some (row_before after uid now)) (was_at mark (drop (i + 1) spans) uid (row_before after uid now))
since-step mark spans i span before after b lt at is e order uid now =
    let x : Option Row = row_before before uid now in
    let test : ((get_or spans i span).mark == mark) ≡ b = subst (λ (s : Span). (s.mark == mark) ≡ b) at is in
    let P : Span → Option (Option Row) = λ s. cond b (Some (row_before s.before uid x)) (was_at mark (drop (i + 1) spans) uid (row_before s.before uid x)) in
    let Q : Option Row → Option (Option Row) = λ was. cond b (Some was) (was_at mark (drop (i + 1) spans) uid was) in
    let w : row_before after uid now ≡ row_before span.before uid x =
    ap (λ (n : Notes). row_before n uid now) e ∙ row_before-earlier before span.before uid now order in
    was_at-step mark spans i span b uid x lt test ∙ ap P (sym at) ∙ ap Q (sym w)
