-- Spans in order tell what the set holds of which they are.
use Rattle.std.proofs.Common.{◌≡◌, ◌≤◌, ◌<◌, ℕ, zero, suc, ◌+◌, Bool, false, ◌||◌, nat_lt, nat_le, max, refl, sym, ap, ◌∙◌, arith}
use Rattle.std.proofs.Common.{List, [], ◌∷◌, ◌++◌, length, Option, Some, None, slice_index_or, slice_get}
use Rattle.std.specs.List.{list_any, AllWithin}
use Rattle.std.specs.List.Sorted.{IsPermutation}
use Rattle.std.proofs.lemmas.Bool.Decides.{nat_tests}
use Rattle.std.proofs.lemmas.List.Sorted.{list_any-IsPermutation}
use Rattle.mail_message.specs.declared.set.SetPart.{SetPart}
use Rattle.mail_message.specs.Sets.{part_bounds, is_in_range, set_holds}
use Rattle.mail_search.specs.declared.spans.Span.{Span}
use Rattle.mail_search.specs.Spans.{span_between, spans_of, in_span, reaching, reaches, is_reached, AreRisingSpans, IsSpanPlace, AreSpansOf}

-- ---- the spans of a set, as they were written, hold what the set holds

next_behind : (n m : ℕ) → nat_lt n (m + 1) ≡ nat_le n m
next_behind n m = grind (arith, nat_tests)

held_by : (bounds : Option (ℕ × ℕ)) (spans : List Span) (n : ℕ) (rest : Bool) → list_any (in_span n) spans ≡ rest
    → list_any (in_span n) (span_between bounds ++ spans) ≡ (is_in_range n bounds || rest)
held_by None spans n rest same = same
held_by (Some bounds) spans n rest same = rw (next_behind n bounds.1, same) refl

held : (set : List SetPart) (n : ℕ) → list_any (in_span n) (spans_of set) ≡ set_holds set n
held [] n = refl
held (part ∷ parts) n = held_by (part_bounds part) (spans_of parts) n (set_holds parts n) (held parts n)

-- ---- the last span that begins in time

length-reaching : (end : ℕ) (spans : List Span) → length (reaching end spans) ≡ length spans
length-reaching end [] = refl
length-reaching end (span ∷ spans) = ap suc (length-reaching (max end span.end) spans)

first-reaching : (end : ℕ) (spans : List Span) (k : ℕ) (d : Span) → (slice_index_or (reaching end spans) k d).first ≡ (slice_index_or spans k d).first
first-reaching end [] k d = refl
first-reaching end (span ∷ spans) zero d = refl
first-reaching end (span ∷ spans) (suc k) d = first-reaching (max end span.end) spans k d

pub rising-reaching : (end : ℕ) (spans : List Span) → AreRisingSpans spans → AreRisingSpans (reaching end spans)
rising-reaching end spans rising i j d le lt =
    rw (first-reaching end spans i d, first-reaching end spans j d) (rising i j d le (rw length-reaching at lt))

behind_by : (n : ℕ) (span : Span) (rest : Bool) → n < span.first → rest ≡ false → (in_span n span || rest) ≡ false
behind_by n span rest lt none = grind (arith, nat_tests, lt, none)

none_behind : (end n : ℕ) (spans : List Span) → AllWithin (λ span. n < span.first) (reaching end spans) 0 (length (reaching end spans))
    → list_any (in_span n) spans ≡ false
none_behind end n [] behind = refl
none_behind end n (span ∷ spans) behind =
    behind_by n span (list_any (in_span n) spans) (behind 0 span (omega arith) (omega arith))
    (none_behind (max end span.end) n spans (λ k d ge lt. behind (suc k) d (omega arith) (omega (arith, lt))))

first_by : (n end : ℕ) (span : Span) (rest : Bool) → span.first ≤ n → rest ≡ false
    → nat_lt n (max end span.end) ≡ (nat_lt n end || (in_span n span || rest))
first_by n end span rest le none = grind (arith, nat_tests, le, none)

later_by : (n end : ℕ) (span : Span) (rest : Bool) → span.first ≤ n
    → (nat_lt n (max end span.end) || rest) ≡ (nat_lt n end || (in_span n span || rest))
later_by n end span rest le = grind (arith, nat_tests, le)

reached_from : (end n : ℕ) (spans : List Span) (place : ℕ) → suc place ≤ length (reaching end spans)
    → AllWithin (λ span. span.first ≤ n) (reaching end spans) 0 (suc place)
    → AllWithin (λ span. n < span.first) (reaching end spans) (suc place) (length (reaching end spans))
    → reaches n (slice_get (reaching end spans) place) ≡ (nat_lt n end || list_any (in_span n) spans)
reached_from end n [] place le until behind = absurd (omega (arith, le))
reached_from end n (span ∷ spans) zero le until behind =
    first_by n end span (list_any (in_span n) spans) (until 0 span (omega arith) (omega arith))
    (none_behind (max end span.end) n spans (λ k d ge lt. behind (suc k) d (omega arith) (omega (arith, lt))))
reached_from end n (span ∷ spans) (suc place) le until behind =
    reached_from (max end span.end) n spans place (omega (arith, le))
    (λ k d ge lt. until (suc k) d (omega arith) (omega (arith, lt)))
    (λ k d ge lt. behind (suc k) d (omega (arith, ge)) (omega (arith, lt)))
    ∙ later_by n end span (list_any (in_span n) spans) (until 0 span (omega arith) (omega arith))

none_below : (n : ℕ) → nat_lt n 0 ≡ false
none_below n = grind (arith, nat_tests)

reached : (n : ℕ) (spans : List Span) (place : ℕ) → place ≤ length (reaching 0 spans) → IsSpanPlace (reaching 0 spans) n place
    → is_reached (reaching 0 spans) place n ≡ list_any (in_span n) spans
reached n spans zero le at = sym (none_behind 0 n spans at.1)
reached n spans (suc place) le at =
    reached_from 0 n spans place le at.0 at.1 ∙ ap (λ before. before || list_any (in_span n) spans) (none_below n)

pub in_order : (set : List SetPart) (spans : List Span) → IsPermutation (spans_of set) spans → AreRisingSpans spans → AreSpansOf set (reaching 0 spans)
in_order set spans same rising = record {
  rising = rising-reaching 0 spans rising;
  tells = λ n place le at. reached n spans place le at ∙ sym (list_any-IsPermutation (in_span n) (spans_of set) spans same) ∙ held set n;
}
