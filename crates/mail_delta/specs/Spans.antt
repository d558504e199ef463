-- The log of a mailbox: marks, and what changed from each to the next.
use Rattle.std.specs.Prelude.{◌≡◌, ◌⊎◌, ℕ, ◌+◌, ◌-◌, ◌^◌, ◌<◌, Bool, true, ◌==◌, if◌then◌else◌, List, [], ◌∷◌, map, Option, None, Some, is_some}
use Rattle.std.specs.List.{list_any}
use Rattle.std.specs.Ordering.{nat_cmp}
use Rattle.mur_base.specs.Map.{value_at}
use Rattle.mail_message.specs.declared.message.Row.{Row}
use Rattle.mail_message.specs.Boxes.{Content}
use Rattle.mail_message.specs.RowOrder.{row_at}
use Rattle.mail_delta.specs.declared.span.Span.{Span}
use Rattle.mail_delta.specs.declared.mark.Mark.{Mark}
use Rattle.mail_delta.specs.Notes.{Notes, row_in, row_before, with_note, with_later}

pub record LogState : Type 0 where
  -- how many marks were given
  pub given : ℕ
  -- from each mark that is kept to the next, the notes; the newest mark first
  pub spans : List Span

-- The row of a UID at a mark, by the row now: as it was first noted since the mark, or as it is now if it wasn't. None if the mark isn't kept.
abbrev pub was_at : ℕ → List Span → ℕ → Option Row → Option (Option Row)
was_at mark [] uid now = None
was_at mark (span ∷ older) uid now =
    if span.mark == mark then Some (row_before span.before uid now) else was_at mark older uid (row_before span.before uid now)

abbrev pub is_kept : ℕ → List Span → Bool
is_kept mark spans = list_any (λ span. span.mark == mark) spans

-- at the mark the mailbox that has this content now had these rows
abbrev pub Remembers : LogState → Mark → Content → List Row → Type 0
Remembers log mark box rows = (uid : ℕ) → was_at mark.0 log.spans uid (row_in box uid) ≡ Some (row_at rows uid)

-- ---- notes

-- the row of a UID was noted since the newest mark, so the message may change; without a mark nothing is noted
abbrev pub is_noted : List Span → ℕ → Bool
is_noted [] uid = true
is_noted (span ∷ older) uid = is_some (value_at nat_cmp span.before uid)

-- the newest span with a note
abbrev pub spans_noted : List Span → ℕ → Option Row → List Span
spans_noted [] uid was = []
spans_noted (span ∷ older) uid was = record span { before = with_note span.before uid was } ∷ older

-- the log before a change of the message with a UID
abbrev pub noted : LogState → Content → ℕ → LogState
noted log box uid = record log { spans = spans_noted log.spans uid (row_in box uid) }

-- each message of a mailbox is as it was, or was noted before it changed
abbrev pub ChangesOnlyNoted : LogState → Content → Content → Type 0
ChangesOnlyNoted log old new = (uid : ℕ) → (row_in new uid ≡ row_in old uid) ⊎ (is_noted log.spans uid ≡ true)

-- ---- marks

abbrev pub has_given_all : LogState → Bool
has_given_all log = log.given == 2 ^ 64 - 1

-- the next mark, while there is one
abbrev pub next_mark : LogState → Option Mark
next_mark log = if has_given_all log then None else Some (record { 0 = log.given + 1 })

-- the log with the next mark, while there is one
abbrev pub marked : LogState → LogState
marked log = if has_given_all log then log else record {
  given = log.given + 1;
  spans = record { mark = log.given + 1; before = [] } ∷ log.spans;
}

-- notes go over to the span before
abbrev pub handed_on : Notes → List Span → List Span
handed_on notes [] = []
handed_on notes (span ∷ older) = record span { before = with_later span.before notes } ∷ older

abbrev pub spans_without : ℕ → List Span → List Span
spans_without mark [] = []
spans_without mark (span ∷ older) = if span.mark == mark then handed_on span.before older else span ∷ spans_without mark older

-- the log without a mark: what only that mark needed is gone
abbrev pub forgotten : LogState → Mark → LogState
forgotten log mark = record log { spans = spans_without mark.0 log.spans }

abbrev pub marks_of : List Span → List ℕ
marks_of spans = map (λ span. span.mark) spans

-- numbers fall from a bound
abbrev pub AreFalling : ℕ → List ℕ → Type 0
AreFalling bound [] = Unit {0}
AreFalling bound (number ∷ numbers) = (number < bound) × AreFalling number numbers

-- no mark is kept twice, and none that wasn't given
abbrev pub AreGiven : ℕ → List Span → Type 0
AreGiven given spans = AreFalling (given + 1) (marks_of spans)
