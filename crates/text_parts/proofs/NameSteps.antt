-- How far a name has come with more bytes.
use Rattle.std.proofs.Common.{◌≡◌, ℕ, ◌+◌, ◌<◌, List, [], ◌∷◌, ◌++◌, length, take, drop, get_or, Bool, Option, None, Some, true, false, refl, ap, sym, ◌∙◌}
use Rattle.std.proofs.Common.{add-one, take-suc}
use Rattle.std.specs.Option.{is_some}
use Rattle.grammar.specs.Words.{scan, halt}
use Rattle.grammar.proofs.ScanSteps.{scan_more, scan_halts}
use Rattle.text_parts.specs.declared.names.Level.{Level}
use Rattle.text_parts.specs.Names.{level_after_byte, reached, names_from}

pub reached_none : (text : List ℕ) → reached None text ≡ None
reached_none [] = refl
reached_none (b ∷ text) = refl

pub reached_append : (from : Option Level) (s t : List ℕ) → reached from (s ++ t) ≡ reached (reached from s) t
reached_append None s t = reached_none (s ++ t) ∙ sym (reached_none t) ∙ ap (λ r. reached r t) (sym (reached_none s))
reached_append (Some level) [] t = refl
reached_append (Some level) (b ∷ s) t = reached_append (level_after_byte level b) s t

-- one byte more
pub reached_one : (level : Level) (b : ℕ) → reached (Some level) (b ∷ []) ≡ level_after_byte level b
reached_one level b = by_next (level_after_byte level b)
  where
    by_next : (next : Option Level) → reached next [] ≡ next
    by_next None = refl
    by_next (Some level) = refl

pub reached_push : (start level : Level) (s : List ℕ) (b : ℕ) → reached (Some start) s ≡ Some level → reached (Some start) (s ++ b ∷ []) ≡ level_after_byte level b
reached_push start level s b e = reached_append (Some start) s (b ∷ []) ∙ ap (λ r. reached r (b ∷ [])) e ∙ reached_one level b

-- the scan at a place of the bytes
module _ (is_sized : Bool) (start level : Level) (bytes : List ℕ) (i : ℕ) (within : i < length bytes) (at : reached (Some start) (take i bytes) ≡ Some level)
    (scanned : scan (names_from is_sized start) (take i bytes) (drop i bytes) ≡ scan (names_from is_sized start) [] bytes) where
  place_is : reached (Some start) (take (i + 1) bytes) ≡ level_after_byte level (get_or bytes i 0)
  place_is = ap (reached (Some start)) (ap (λ n. take n bytes) (add-one i) ∙ take-suc bytes i 0 within)
      ∙ reached_push start level (take i bytes) (get_or bytes i 0) at

  pub names_halt : level_after_byte level (get_or bytes i 0) ≡ None → scan (names_from is_sized start) [] bytes
      ≡ halt ((names_from is_sized start).whole (take i bytes)) (take i bytes) (drop i bytes)
  names_halt e = scan_halts (names_from is_sized start) bytes i within scanned (ap is_some (place_is ∙ e))

  pub names_more : (next : Level) → level_after_byte level (get_or bytes i 0) ≡ Some next →
      record {
        at : reached (Some start) (take (i + 1) bytes) ≡ Some next;
        scanned : scan (names_from is_sized start) (take (i + 1) bytes) (drop (i + 1) bytes) ≡ scan (names_from is_sized start) [] bytes;
      }
  names_more next e = record {
    at = place_is ∙ e;
    scanned = scan_more (names_from is_sized start) bytes i within scanned (ap is_some (place_is ∙ e));
  }
