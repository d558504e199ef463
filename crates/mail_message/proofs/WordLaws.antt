-- A test that is true exactly for equal texts.
use Rattle.std.proofs.Common.{◌≡◌, ◌↔◌, ℕ, Bool, true, false, List, refl, sym, IsTrue}
use Rattle.std.specs.Str.{bytes_eq}
use Rattle.std.proofs.lemmas.Slice.Eq.{bytes_eq-Decides}
use Rattle.std.proofs.lemmas.Bool.{false_from_ne_true}

pub decided : (xs ys : List ℕ) (r : Bool) → (IsTrue r ↔ (xs ≡ ys)) → r ≡ bytes_eq xs ys
decided xs ys true h = sym ((bytes_eq-Decides xs ys).1 (h.0 refl))
decided xs ys false h = sym (false_from_ne_true _ (λ e. let no : false ≡ true = h.1 ((bytes_eq-Decides xs ys).0 e) in cc))
