-- A span that is forgotten, by its place.
use Rattle.std.specs.Prelude.{ℕ, zero, suc, Bool, ◌==◌, List, [], ◌∷◌}
use Rattle.std.specs.List.{remove}
use Rattle.mail_delta.specs.declared.span.Span.{Span}
use Rattle.mail_delta.specs.Notes.{Notes}
use Rattle.mail_delta.specs.Spans.{handed_on}

abbrev pub begins_at : ℕ → Span → Bool
begins_at mark span = span.mark == mark

-- the spans after notes went over to the one at a place
abbrev pub handed_at : Notes → List Span → ℕ → List Span
handed_at notes [] place = []
handed_at notes (span ∷ older) zero = handed_on notes (span ∷ older)
handed_at notes (span ∷ older) (suc place) = span ∷ handed_at notes older place

-- the notes of the span at a place
abbrev pub notes_at : List Span → ℕ → Notes
notes_at [] place = []
notes_at (span ∷ older) zero = span.before
notes_at (span ∷ older) (suc place) = notes_at older place

-- the spans without the one at a place, whose notes went over to the next one
abbrev pub taken_out : List Span → ℕ → List Span
taken_out spans place = handed_at (notes_at spans place) (remove spans place) place
