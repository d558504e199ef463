-- A set brought into order: its spans by their first numbers, each reaching as far as any span up to it.
use Rattle.std.specs.Prelude.{◌≡◌, ℕ, zero, suc, ◌+◌, ◌<◌, ◌≤◌, Bool, false, ◌&&◌, nat_lt, nat_le, max, List, [], ◌∷◌, ◌++◌, length, Option, Some, None}
use Rattle.std.specs.Prelude.{slice_get}
use Rattle.std.specs.List.Sorted.{IsNonDecreasingBy, IsPartitionPoint}
use Rattle.mail_message.specs.declared.set.SetPart.{SetPart}
use Rattle.mail_message.specs.Sets.{part_bounds, set_holds}
use Rattle.mail_search.specs.declared.spans.Span.{Span}

-- the span between bounds, if there are any
abbrev pub span_between : Option (ℕ × ℕ) → List Span
span_between None = []
span_between (Some bounds) = record { first = bounds.0; end = bounds.1 + 1 } ∷ []

-- the spans of the parts of a set, as they were written
abbrev pub spans_of : List SetPart → List Span
spans_of [] = []
spans_of (part ∷ parts) = span_between (part_bounds part) ++ spans_of parts

abbrev pub in_span : ℕ → Span → Bool
in_span number span = nat_le span.first number && nat_lt number span.end

-- spans that reach as far as any before them, and as a first end
abbrev pub reaching : ℕ → List Span → List Span
reaching end [] = []
reaching end (span ∷ spans) =
    let reach = max end span.end in record { first = span.first; end = reach } ∷ reaching reach spans

-- the spans stand by their first numbers
abbrev pub AreRisingSpans : List Span → Type 0
AreRisingSpans spans = IsNonDecreasingBy (λ (span : Span). span.first) spans

-- so many spans begin at a number or before it, and the others behind it
abbrev pub IsSpanPlace : List Span → ℕ → ℕ → Type 0
IsSpanPlace spans number place = IsPartitionPoint (λ span. span.first ≤ number) (λ span. number < span.first) spans place

-- a span reaches behind a number, if there is one
abbrev pub reaches : ℕ → Option Span → Bool
reaches number None = false
reaches number (Some span) = nat_lt number span.end

-- the last of so many spans reaches behind a number
abbrev pub is_reached : List Span → ℕ → ℕ → Bool
is_reached spans zero number = false
is_reached spans (suc place) number = reaches number (slice_get spans place)

-- the spans are a set in order: the last one that begins at a number or before it tells whether the set holds the number
pub record AreSpansOf (set : List SetPart) (spans : List Span) : Type 0 where
  pub rising : AreRisingSpans spans
  pub tells : (number place : ℕ) → place ≤ length spans → IsSpanPlace spans number place → is_reached spans place number ≡ set_holds set number
