-- The nearest name above, found.
use Rattle.std.proofs.Common.{◌≡◌, ℕ, suc, ◌+◌, ◌<◌, List, ◌∷◌, ◌++◌, length, take, drop, get_or, Some, sym, ap, ◌∙◌, subst, arith, drop-cons}
use Rattle.std.proofs.lemmas.List.{take-append-drop, length-take-le}
use Rattle.feed_core.specs.declared.rec.Rec.{Rec}
use Rattle.feed_core.specs.Feed.{Recs}
use Rattle.feed_core.specs.Above.{rec_of_text, NoneAbove, HasAbove}

-- a separator, and the name before it has a record
pub found_above : (recs : Recs) (name : List ℕ) (i at : ℕ) (it : Rec) → i < length name → at ≡ i + 1 → NoneAbove recs name at → get_or name i 0 ≡ 46
    → rec_of_text recs (take i name) ≡ Some it → HasAbove recs name it
found_above recs name i at it within next none dot has = record {
  above = take i name;
  is_above = (
    drop (suc i) name,
    sym (take-append-drop i name) ∙ ap (λ r. take i name ++ r) (drop-cons name i 0 within ∙ ap (λ b. b ∷ drop (suc i) name) dot),
  );
  has = has;
  nearest = subst (λ n. NoneAbove recs name n) (next ∙ ap (λ n. n + 1) (sym (length-take-le i name (omega arith)))) none;
}
