-- The characters so far of a quoted string.
use Rattle.std.proofs.Common.{◌≡◌, ℕ, suc, ◌-◌, ◌<◌, List, [], ◌∷◌, ◌++◌, true, false, Ok, Err, refl, ap, sym, ◌∙◌, arith}
use Rattle.grammar.specs.Part.{◌>>=◌, exactly, turns, starts}
use Rattle.grammar.proofs.QuotedRuns.{plain_is_no_backslash}
use Rattle.grammar.proofs.TurnSteps.{turns_none, turns_more}
use Rattle.grammar.specs.Quoted.{is_quoted_plain, is_no_quote}
use Rattle.mupdate_codec.specs.Strings.{mupdate_quoted_char}

-- a character that stands for itself
pub puts_plain : (so_far : List ℕ) (c : ℕ) (rest : List ℕ) → is_quoted_plain c ≡ true
    → (mupdate_quoted_char so_far).at (c ∷ rest) ≡ Ok (so_far ++ c ∷ [], rest)
unfolding mupdate_quoted_char exactly
puts_plain so_far c rest h = rw (plain_is_no_backslash c h, h) refl

-- the characters so far: as many of them may follow from the beginning as from this text with what is left
module _ (most left : ℕ) (text bytes rest : List ℕ)
    (so_far : (turns is_no_quote mupdate_quoted_char left text).at rest ≡ (turns is_no_quote mupdate_quoted_char most []).at bytes) where
  pub chars_end : left ≡ 0 → (turns is_no_quote mupdate_quoted_char most []).at bytes ≡ Ok (text, rest)
  unfolding turns
  chars_end none = sym so_far ∙ ap (λ n. (turns is_no_quote mupdate_quoted_char n text).at rest) none

  pub chars_none : starts is_no_quote rest ≡ false → (turns is_no_quote mupdate_quoted_char most []).at bytes ≡ Ok (text, rest)
  chars_none e = sym so_far ∙ turns_none is_no_quote mupdate_quoted_char text rest left e

  pub chars_stop : 0 < left → starts is_no_quote rest ≡ true → (stop : ℕ) → (mupdate_quoted_char text).at rest ≡ Err stop
      → (turns is_no_quote mupdate_quoted_char most []).at bytes ≡ Err stop
  chars_stop some e stop r =
      let one : left ≡ suc (left - 1) = omega arith in
      sym so_far ∙ ap (λ n. (turns is_no_quote mupdate_quoted_char n text).at rest) one ∙ turns_more is_no_quote mupdate_quoted_char text rest (left - 1) e
      ∙ ap (λ r. r >>= (λ t. (turns is_no_quote mupdate_quoted_char (left - 1) t).at)) r
