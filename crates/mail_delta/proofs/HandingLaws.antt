-- A span that is taken out at its place, and its notes, which go over to the next one.
use Rattle.std.proofs.Common.{◌≡◌, ℕ, zero, suc, ◌+◌, ◌<◌, ◌≤◌, Bool, true, false, cond, ◌==◌, List, [], ◌∷◌, length, get_or}
use Rattle.std.proofs.Common.{Some, None, Result, Ok, Err, OnOk, refl, sym, ◌∙◌, ap, arith}
use Rattle.std.specs.List.{position_from, remove, slice_set}
use Rattle.mail_delta.specs.declared.span.Span.{Span}
use Rattle.mail_delta.specs.Notes.{Notes, with_later}
use Rattle.mail_delta.specs.declared.mark.Mark.{Mark}
use Rattle.mail_delta.specs.Spans.{LogState, handed_on, spans_without, forgotten, marks_of, AreFalling}
use Rattle.mail_delta.specs.Handing.{begins_at, handed_at, notes_at, taken_out}
use Rattle.mail_delta.proofs.Keyed.{some_is}

least_by : (mark from n : ℕ) (span : Span) (older : List Span) → (position_from (begins_at mark) (from + 1) older ≡ Some n → from + 1 ≤ n)
    → (b : Bool) → cond b (Some from) (position_from (begins_at mark) (from + 1) older) ≡ Some n → from ≤ n
least_by mark from n span older ih true at = let same : from ≡ n = some_is from n at in omega (arith, same)
least_by mark from n span older ih false at = let more = ih at in omega (arith, more)

position-least : (mark from n : ℕ) (spans : List Span) → position_from (begins_at mark) from spans ≡ Some n → from ≤ n
position-least mark from n [] at = cc
position-least mark from n (span ∷ older) at =
    least_by mark from n span older (λ later. position-least mark (from + 1) n older later) (span.mark == mark) at

first_handed : (notes : Notes) (older : List Span) → handed_at notes older zero ≡ handed_on notes older
first_handed notes [] = refl
first_handed notes (span ∷ older) = refl

without_by : (mark from n place : ℕ) (span : Span) (older : List Span) → n ≡ from + place
    → ((p : ℕ) → place ≡ suc p → position_from (begins_at mark) (from + 1) older ≡ Some n
    → taken_out older p ≡ spans_without mark older)
    → (b : Bool) → (span.mark == mark) ≡ b → cond b (Some from) (position_from (begins_at mark) (from + 1) older) ≡ Some n
    → taken_out (span ∷ older) place
    ≡ cond b (handed_on span.before older) (span ∷ spans_without mark older)
without_by mark from n zero span older is ih true h at = first_handed span.before older
without_by mark from n (suc place) span older is ih true h at =
    let same : from ≡ n = some_is from n at in absurd (omega (arith, same, is))
without_by mark from n zero span older is ih false h at =
    let more = position-least mark (from + 1) n older at in absurd (omega (arith, more, is))
without_by mark from n (suc place) span older is ih false h at = ap (λ rest. span ∷ rest) (ih place refl at)

-- the span of a mark is taken out at its place, and its notes go over
pub taken_out-is : (mark from n place : ℕ) (spans : List Span) → n ≡ from + place → position_from (begins_at mark) from spans ≡ Some n
    → taken_out spans place ≡ spans_without mark spans
taken_out-is mark from n place [] is at = cc
taken_out-is mark from n place (span ∷ older) is at =
    without_by mark from n place span older is
    (λ p e later. taken_out-is mark (from + 1) n p older (omega (arith, is, e)) later) (span.mark == mark) refl at

-- no span has the mark
none_by : (mark from : ℕ) (span : Span) (older : List Span) → (position_from (begins_at mark) (from + 1) older ≡ None → spans_without mark older ≡ older)
    → (b : Bool) → cond b (Some from) (position_from (begins_at mark) (from + 1) older) ≡ None
    → cond b (handed_on span.before older) (span ∷ spans_without mark older) ≡ span ∷ older
none_by mark from span older ih true at = cc
none_by mark from span older ih false at = ap (λ rest. span ∷ rest) (ih at)

pub without-none : (mark from : ℕ) (spans : List Span) → position_from (begins_at mark) from spans ≡ None → spans_without mark spans ≡ spans
without-none mark from [] at = refl
without-none mark from (span ∷ older) at =
    none_by mark from span older (λ later. without-none mark (from + 1) older later) (span.mark == mark) at

-- ---- notes that go over to the span at a place

pub set-handed : (notes : Notes) (spans : List Span) (place : ℕ) (d : Span) → place < length spans
    → slice_set spans place (record (get_or spans place d) { before = with_later (get_or spans place d).before notes }) ≡ handed_at notes spans place
set-handed notes [] place d lt = absurd (omega (arith, lt))
set-handed notes (span ∷ older) zero d lt = refl
set-handed notes (span ∷ older) (suc place) d lt = ap (λ rest. span ∷ rest) (set-handed notes older place d (omega (arith, lt)))

pub handed-past : (notes : Notes) (spans : List Span) (place : ℕ) → length spans ≤ place → handed_at notes spans place ≡ spans
handed-past notes [] place le = refl
handed-past notes (span ∷ older) zero le = absurd (omega (arith, le))
handed-past notes (span ∷ older) (suc place) le = ap (λ rest. span ∷ rest) (handed-past notes older place (omega (arith, le)))

pub marks-set : (spans : List Span) (place : ℕ) (d it : Span) → place < length spans → it.mark ≡ (get_or spans place d).mark
    → marks_of (slice_set spans place it) ≡ marks_of spans
marks-set [] place d it lt is = absurd (omega (arith, lt))
marks-set (span ∷ older) zero d it lt is = ap (λ n. n ∷ marks_of older) is
marks-set (span ∷ older) (suc place) d it lt is = ap (λ rest. span.mark ∷ rest) (marks-set older place d it (omega (arith, lt)) is)

-- ---- marks fall still

falling-higher : (low high : ℕ) (numbers : List ℕ) → low < high → AreFalling low numbers → AreFalling high numbers
falling-higher low high [] lt falling = tt
falling-higher low high (number ∷ numbers) lt falling = (let first = falling.0 in omega (arith, first, lt), falling.1)

pub falling-removed : (bound place : ℕ) (spans : List Span) → AreFalling bound (marks_of spans) → AreFalling bound (marks_of (remove spans place))
falling-removed bound zero [] falling = tt
falling-removed bound (suc place) [] falling = tt
falling-removed bound zero (span ∷ older) falling = falling-higher span.mark bound (marks_of older) falling.0 falling.1
falling-removed bound (suc place) (span ∷ older) falling = (falling.0, falling-removed span.mark place older falling.1)

-- ---- the same with what a call answers

pub handed-some : {A E : Type 0} (result : Result A E) (notes after : Notes) (spans : List Span) (place : ℕ) (span : Span) → place < length spans
    → span ≡ get_or spans place span → OnOk result (after ≡ with_later span.before notes)
    → OnOk result (slice_set spans place (record span { before = after }) ≡ handed_at notes spans place)
handed-some (Err fault) notes after spans place span lt at ok = tt
handed-some (Ok done) notes after spans place span lt at ok =
    let P : Span → List Span = λ s. slice_set spans place (record s { before = with_later s.before notes }) in
    ap (λ (n : Notes). slice_set spans place (record span { before = n })) ok ∙ ap P at ∙ set-handed notes spans place span lt

pub notes-at : (spans : List Span) (place : ℕ) (span : Span) → place < length spans → span ≡ get_or spans place span
    → notes_at spans place ≡ span.before
notes-at [] place span lt at = absurd (omega (arith, lt))
notes-at (first ∷ older) zero span lt at = ap (λ (s : Span). s.before) (sym at)
notes-at (first ∷ older) (suc place) span lt at = notes-at older place span (omega (arith, lt)) at

pub taken-some : {A E : Type 0} (result : Result A E) (spans after : List Span) (place : ℕ) (span : Span) → place < length spans
    → span ≡ get_or spans place span → OnOk result (after ≡ handed_at span.before (remove spans place) place)
    → OnOk result (after ≡ taken_out spans place)
taken-some (Err fault) spans after place span lt at ok = tt
taken-some (Ok done) spans after place span lt at ok =
    ok ∙ ap (λ (n : Notes). handed_at n (remove spans place) place) (sym (notes-at spans place span lt at))

pub removed-past : (spans : List Span) (place : ℕ) → length spans ≤ place → remove spans place ≡ spans
removed-past [] zero le = refl
removed-past [] (suc place) le = refl
removed-past (span ∷ older) zero le = absurd (omega (arith, le))
removed-past (span ∷ older) (suc place) le = ap (λ rest. span ∷ rest) (removed-past older place (omega (arith, le)))

pub taken-past : (spans : List Span) (place : ℕ) → length spans ≤ place → taken_out spans place ≡ spans
taken-past spans place le =
    let same = removed-past spans place le in
    ap (λ rest. handed_at (notes_at spans place) rest place) same ∙ handed-past (notes_at spans place) spans place le

-- ---- a mark that is forgotten

pub forgotten-some : {A E : Type 0} (result : Result A E) (log : LogState) (mark : Mark) (place : ℕ) (after : List Span)
    → Some place ≡ position_from (begins_at mark.0) 0 log.spans → OnOk result (after ≡ taken_out log.spans place)
    → OnOk result (record log { spans = after } ≡ forgotten log mark)
forgotten-some (Err fault) log mark place after at ok = tt
forgotten-some (Ok done) log mark place after at ok =
    ap (λ (spans : List Span). record log { spans = spans }) (ok ∙ taken_out-is mark.0 0 place place log.spans (omega arith) (sym at))

pub forgotten-none : (log : LogState) (mark : Mark) → None ≡ position_from (begins_at mark.0) 0 log.spans → log ≡ forgotten log mark
forgotten-none log mark at = ap (λ (spans : List Span). record log { spans = spans }) (sym (without-none mark.0 0 log.spans (sym at)))
