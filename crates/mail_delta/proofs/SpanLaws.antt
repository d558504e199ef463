-- What a log remembers of a mark, after a note, a change, a new mark and a mark that is forgotten.
use Rattle.std.proofs.Common.{◌≡◌, ◌≢◌, ◌⊎◌, inl, inr, ℕ, ◌+◌, ◌<◌, ◌≤◌, Bool, true, false, cond, ◌==◌, ◌||◌, List, [], ◌∷◌, Option, Some, None}
use Rattle.std.proofs.Common.{refl, sym, ◌∙◌, ap, subst, arith}
use Rattle.std.specs.Option.{is_some}
use Rattle.std.specs.Ordering.{nat_cmp}
use Rattle.std.proofs.lemmas.Bool.Decides.{nat_tests}
use Rattle.mur_base.specs.Map.{value_at}
use Rattle.mail_message.specs.declared.message.Row.{Row}
use Rattle.mail_message.specs.Boxes.{Content}
use Rattle.mail_message.specs.RowOrder.{row_at}
use Rattle.mail_delta.specs.declared.span.Span.{Span}
use Rattle.mail_delta.specs.declared.mark.Mark.{Mark}
use Rattle.mail_delta.specs.Deltas.{rows_of}
use Rattle.mail_delta.specs.Notes.{Notes, noted_or, row_in, row_before}
use Rattle.mail_delta.specs.Spans.{LogState, was_at, is_kept, Remembers, is_noted, spans_noted, noted, ChangesOnlyNoted, has_given_all, next_mark, marked}
use Rattle.mail_delta.specs.Spans.{handed_on, spans_without, forgotten, marks_of, AreFalling, AreGiven}
use Rattle.mail_delta.proofs.Keyed.{same_number, some_is}
use Rattle.mail_delta.proofs.DeltaLaw.{row_at-rows}
use Rattle.mail_delta.proofs.NoteLaws.{value_at-with_note, row_before-noted, stays-noted, row_before-later}

-- ---- notes

was_at-noted : (mark : ℕ) (spans : List Span) (now : ℕ → Option Row) (uid k : ℕ) → was_at mark (spans_noted spans uid (now uid)) k (now k) ≡ was_at mark spans k (now k)
was_at-noted mark [] now uid k = refl
was_at-noted mark (span ∷ older) now uid k =
    ap (λ was. cond (span.mark == mark) (Some was) (was_at mark older k was)) (row_before-noted span.before now uid k)

pub remembers-noted : (log : LogState) (box : Content) (uid : ℕ) (mark : Mark) (rows : List Row) → Remembers log mark box rows
    → Remembers (noted log box uid) mark box rows
remembers-noted log box uid mark rows had k = was_at-noted mark.0 log.spans (row_in box) uid k ∙ had k

is_noted-spans : (spans : List Span) (uid : ℕ) (was : Option Row) → is_noted (spans_noted spans uid was) uid ≡ true
is_noted-spans [] uid was = refl
is_noted-spans (span ∷ older) uid was = ap is_some (value_at-with_note span.before uid was)

pub is_noted-noted : (log : LogState) (box : Content) (uid : ℕ) → is_noted (noted log box uid).spans uid ≡ true
is_noted-noted log box uid = is_noted-spans log.spans uid (row_in box uid)

stays_noted : (spans : List Span) (uid k : ℕ) (was : Option Row) → is_noted spans k ≡ true → is_noted (spans_noted spans uid was) k ≡ true
stays_noted [] uid k was there = refl
stays_noted (span ∷ older) uid k was there = stays-noted span.before uid k was there

pub is_noted-stays : (log : LogState) (box : Content) (uid other : ℕ) → is_noted log.spans other ≡ true
    → is_noted (noted log box uid).spans other ≡ true
is_noted-stays log box uid other there = stays_noted log.spans uid other (row_in box uid) there

-- ---- changes

any_now : (found : Option (Option Row)) (old new : Option Row) → is_some found ≡ true → noted_or found new ≡ noted_or found old
any_now None old new h = cc
any_now (Some was) old new h = refl

was_at-changed : (mark : ℕ) (spans : List Span) (k : ℕ) (old new : Option Row) → (new ≡ old) ⊎ (is_noted spans k ≡ true)
    → was_at mark spans k new ≡ was_at mark spans k old
was_at-changed mark [] k old new which = refl
was_at-changed mark (span ∷ older) k old new (inl same) = ap (was_at mark (span ∷ older) k) same
was_at-changed mark (span ∷ older) k old new (inr there) =
    ap (λ was. cond (span.mark == mark) (Some was) (was_at mark older k was)) (any_now (value_at nat_cmp span.before k) old new there)

pub remembers-changed : (log : LogState) (old new : Content) (mark : Mark) (rows : List Row) → ChangesOnlyNoted log old new
    → Remembers log mark old rows → Remembers log mark new rows
remembers-changed log old new mark rows changes had k = was_at-changed mark.0 log.spans k (row_in old k) (row_in new k) (changes k) ∙ had k

-- ---- marks

new_by : (log : LogState) (box : Content) (mark : Mark) (k : ℕ) → (b : Bool) → has_given_all log ≡ b
    → cond b None (Some (record { 0 = log.given + 1 })) ≡ Some mark
    → was_at mark.0 (cond b log (record { given = log.given + 1; spans = record { mark = log.given + 1; before = [] } ∷ log.spans })).spans k (row_in box k)
    ≡ Some (row_at (rows_of box) k)
new_by log box mark k true h is = cc
new_by log box mark k false h is =
    let number : log.given + 1 ≡ mark.0 = ap (λ (m : Mark). m.0) (some_is (record { 0 = log.given + 1 }) mark is) in
    let here : (log.given + 1 == mark.0) ≡ true = grind (arith, nat_tests, number) in
    rw here (ap Some (sym (row_at-rows box k)))

pub remembers-new : (log : LogState) (box : Content) (mark : Mark) → next_mark log ≡ Some mark → Remembers (marked log) mark box (rows_of box)
remembers-new log box mark is k = new_by log box mark k (has_given_all log) refl is

below_by : (bound mark : ℕ) (span : Span) (older : List Span) → span.mark < bound → (is_kept mark older ≡ true → mark < span.mark)
    → is_kept mark (span ∷ older) ≡ true → (b : Bool) → (span.mark == mark) ≡ b → mark < bound
below_by bound mark span older lt ih kept true h = let same = same_number span.mark mark h in omega (arith, same, lt)
below_by bound mark span older lt ih kept false h = let later = ih (rw h at kept) in omega (arith, later, lt)

-- a mark that is kept is below the bound
pub kept-below : (bound mark : ℕ) (spans : List Span) → AreFalling bound (marks_of spans) → is_kept mark spans ≡ true → mark < bound
kept-below bound mark [] falling kept = cc
kept-below bound mark (span ∷ older) falling kept =
    below_by bound mark span older falling.0 (kept-below span.mark mark older falling.1) kept (span.mark == mark) refl

not_kept : (b : Bool) → (b ≡ true → ⊥) → b ≡ false
not_kept true h = absurd (h refl)
not_kept false h = refl

-- a mark from the bound on isn't kept
pub kept-none : (bound mark : ℕ) (spans : List Span) → AreFalling bound (marks_of spans) → bound ≤ mark → is_kept mark spans ≡ false
kept-none bound mark spans falling le =
    not_kept (is_kept mark spans) (λ kept. let lt = kept-below bound mark spans falling kept in omega (arith, lt, le))

others_by : (log : LogState) (box : Content) (mark : Mark) (k : ℕ) (had : Option (Option Row)) → mark.0 < log.given + 1
    → was_at mark.0 log.spans k (row_in box k) ≡ had → (b : Bool)
    → was_at mark.0 (cond b log (record { given = log.given + 1; spans = record { mark = log.given + 1; before = [] } ∷ log.spans })).spans k (row_in box k)
    ≡ had
others_by log box mark k had lt is true = is
others_by log box mark k had lt is false =
    let apart : (log.given + 1 == mark.0) ≡ false = grind (arith, nat_tests, lt) in rw apart is

pub remembers-others : (log : LogState) (box : Content) (mark : Mark) (rows : List Row) → is_kept mark.0 log.spans ≡ true
    → AreGiven log.given log.spans → Remembers log mark box rows → Remembers (marked log) mark box rows
remembers-others log box mark rows kept given had k =
    others_by log box mark k (Some (row_at rows k)) (kept-below (log.given + 1) mark.0 log.spans given kept) (had k) (has_given_all log)

-- ---- a mark that is forgotten

was_at-handed_on : (mark : ℕ) (notes : Notes) (older : List Span) (k : ℕ) (now : Option Row)
    → was_at mark (handed_on notes older) k now ≡ was_at mark older k (row_before notes k now)
was_at-handed_on mark notes [] k now = refl
was_at-handed_on mark notes (span ∷ older) k now =
    ap (λ was. cond (span.mark == mark) (Some was) (was_at mark older k was)) (row_before-later span.before notes k now)

left_by : (mark other : ℕ) (span : Span) (older : List Span) (k : ℕ) (now : Option Row) → (mark == other) ≡ false
    → ((later : Option Row) → was_at other (spans_without mark older) k later ≡ was_at other older k later)
    → (b : Bool) → (span.mark == mark) ≡ b
    → was_at other (cond b (handed_on span.before older) (span ∷ spans_without mark older)) k now ≡ was_at other (span ∷ older) k now
left_by mark other span older k now ne ih true h =
    let apart : (span.mark == other) ≡ false = subst (λ n. (n == other) ≡ false) (sym (same_number span.mark mark h)) ne in
    was_at-handed_on other span.before older k now ∙ sym (rw apart refl)
left_by mark other span older k now ne ih false h =
    ap (λ rest. cond (span.mark == other) (Some (row_before span.before k now)) rest) (ih (row_before span.before k now))

was_at-without : (mark other : ℕ) (spans : List Span) (k : ℕ) (now : Option Row) → (mark == other) ≡ false
    → was_at other (spans_without mark spans) k now ≡ was_at other spans k now
was_at-without mark other [] k now ne = refl
was_at-without mark other (span ∷ older) k now ne =
    left_by mark other span older k now ne (λ later. was_at-without mark other older k later ne) (span.mark == mark) refl

apart_by : (mark other : Mark) → other ≢ mark → (b : Bool) → (mark.0 == other.0) ≡ b → b ≡ false
apart_by mark other ne true h =
    let same : other.0 ≡ mark.0 = sym (same_number mark.0 other.0 h) in absurd (ne (λ i. record { 0 = same i }))
apart_by mark other ne false h = refl

pub remembers-forgotten : (log : LogState) (box : Content) (mark other : Mark) (rows : List Row) → other ≢ mark
    → Remembers log other box rows → Remembers (forgotten log mark) other box rows
remembers-forgotten log box mark other rows ne had k =
    was_at-without mark.0 other.0 log.spans k (row_in box k) (apart_by mark other ne (mark.0 == other.0) refl) ∙ had k

pub marks-handed_on : (notes : Notes) (older : List Span) → marks_of (handed_on notes older) ≡ marks_of older
marks-handed_on notes [] = refl
marks-handed_on notes (span ∷ older) = refl

is_kept-handed_on : (mark : ℕ) (notes : Notes) (older : List Span) → is_kept mark (handed_on notes older) ≡ is_kept mark older
is_kept-handed_on mark notes [] = refl
is_kept-handed_on mark notes (span ∷ older) = refl

gone_by : (mark : ℕ) (span : Span) (older : List Span) → AreFalling span.mark (marks_of older) → is_kept mark (spans_without mark older) ≡ false
    → (b : Bool) → (span.mark == mark) ≡ b → is_kept mark (cond b (handed_on span.before older) (span ∷ spans_without mark older)) ≡ false
gone_by mark span older falling ih true h =
    let same = same_number span.mark mark h in
    is_kept-handed_on mark span.before older ∙ kept-none span.mark mark older falling (omega (arith, same))
gone_by mark span older falling ih false h = rw h ih

gone-without : (bound mark : ℕ) (spans : List Span) → AreFalling bound (marks_of spans) → is_kept mark (spans_without mark spans) ≡ false
gone-without bound mark [] falling = refl
gone-without bound mark (span ∷ older) falling =
    gone_by mark span older falling.1 (gone-without span.mark mark older falling.1) (span.mark == mark) refl

pub gone-forgotten : (log : LogState) (mark : Mark) → AreGiven log.given log.spans → is_kept mark.0 (forgotten log mark).spans ≡ false
gone-forgotten log mark given = gone-without (log.given + 1) mark.0 log.spans given

-- ---- marks that are kept

kept_by : (mark k : ℕ) (span : Span) (older : List Span) (was : Option Row) → is_some (was_at mark older k was) ≡ is_kept mark older → (b : Bool)
    → is_some (cond b (Some was) (was_at mark older k was)) ≡ b || is_kept mark older
kept_by mark k span older was ih true = refl
kept_by mark k span older was ih false = ih

-- a mark is kept if it has a row for some UID
pub is_some-was_at : (mark : ℕ) (spans : List Span) (k : ℕ) (now : Option Row) → is_some (was_at mark spans k now) ≡ is_kept mark spans
is_some-was_at mark [] k now = refl
is_some-was_at mark (span ∷ older) k now =
    kept_by mark k span older (row_before span.before k now) (is_some-was_at mark older k (row_before span.before k now)) (span.mark == mark)
