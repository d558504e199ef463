-- Characters of two to four bytes are exact parts.
use Rattle.std.proofs.Common.{◌≡◌, ℕ, ◌++◌, List, Bool, true, refl, lit<, lit≤}
use Rattle.grammar.specs.Part.{exactly, between}
use Rattle.grammar.specs.Exact.{any}
use Rattle.grammar.proofs.SequenceLaw.{good_then, good_map}
use Rattle.grammar.proofs.RepetitionLaw.{good_exactly, begins_any}
use Rattle.grammar.proofs.StartLaw.{starts_then, starts_exactly}
use Rattle.grammar.proofs.RangeLaw.{Ranged, ranged_choose}
use Rattle.imap_text.specs.Characters.{is_utf8_tail}
use Rattle.imap_text.specs.Utf8.{led, utf8_2, utf8_3, utf8_4, utf8_char}

module _ {V : Type 0} (after : ℕ → Bool) (so_far : List ℕ) where
  -- a first byte in a range, a second in a range, and tails
  ranged_led : (low high second_low second_high tails : ℕ) → between low high low ≡ true → between second_low second_high second_low ≡ true →
      Ranged V after low high (led low high second_low second_high tails so_far)
  unfolding led is_utf8_tail
  ranged_led low high second_low second_high tails one two = record {
    good = good_then (exactly (between low high) 1) _ (good_exactly (between low high) any low one 1)
        (λ first. good_then (exactly (between second_low second_high) 1) _ (good_exactly (between second_low second_high) any second_low two 1)
        (λ second. good_map (λ rest. so_far ++ first ++ second ++ rest) (exactly is_utf8_tail tails) (good_exactly is_utf8_tail after 128 refl tails))
        (λ second. begins_any after _))
        (λ first. begins_any after _);
    starts = starts_then (exactly (between low high) 1) _ (starts_exactly (between low high) 0);
  }

  ranged_2 : Ranged V after 194 223 (utf8_2 so_far)
  unfolding utf8_2
  ranged_2 = ranged_led 194 223 128 191 0 refl refl

  ranged_3 : Ranged V after 224 239 (utf8_3 so_far)
  unfolding utf8_3
  ranged_3 =
      ranged_choose _ _ (lit≤ tt) (lit< tt) (lit≤ tt) (ranged_led 224 224 160 191 1 refl refl)
      (ranged_choose _ _ (lit≤ tt) (lit< tt) (lit≤ tt) (ranged_led 225 236 128 191 1 refl refl)
      (ranged_choose _ _ (lit≤ tt) (lit< tt) (lit≤ tt) (ranged_led 237 237 128 159 1 refl refl) (ranged_led 238 239 128 191 1 refl refl)))

  ranged_4 : Ranged V after 240 244 (utf8_4 so_far)
  unfolding utf8_4
  ranged_4 =
      ranged_choose _ _ (lit≤ tt) (lit< tt) (lit≤ tt) (ranged_led 240 240 144 191 2 refl refl)
      (ranged_choose _ _ (lit≤ tt) (lit< tt) (lit≤ tt) (ranged_led 241 243 128 191 2 refl refl) (ranged_led 244 244 128 143 2 refl refl))

  pub ranged_utf8 : Ranged V after 194 244 (utf8_char so_far)
  unfolding utf8_char
  ranged_utf8 = ranged_choose _ _ (lit≤ tt) (lit< tt) (lit≤ tt) ranged_2 (ranged_choose _ _ (lit≤ tt) (lit< tt) (lit≤ tt) ranged_3 ranged_4)
