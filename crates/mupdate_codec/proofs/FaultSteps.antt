-- What the fault that is made of a stop says of the stop.
use Rattle.std.proofs.Common.{◌≡◌, ℕ, ◌<◌, Bool, true, false, cond, nat_eq, Result, Err, refl, ap, ◌∙◌, arith, eqb-true}
use Rattle.std.proofs.lemmas.Bool.Decides.{nat_tests}
use Rattle.mupdate_codec.specs.declared.fault.LineFault.{LineFault}
use Rattle.mupdate_codec.specs.declared.fault.LineFault.TheVariants.{More, Bad}

module _ {T : Type 0} (left n : ℕ) (r : LineFault) (made : r ≡ cond (nat_eq left 0) More (Bad n)) where
  pub more_is : (let x : Result T LineFault = Err r in x ≡ Err More) → left ≡ 0
  more_is e = by_test (nat_eq left 0) refl made
    where
      by_test : (b : Bool) → nat_eq left 0 ≡ b → r ≡ cond b More (Bad n) → left ≡ 0
      by_test true is m = eqb-true left 0 is
      by_test false is m = cc

  pub bad_is : (at : ℕ) → (let x : Result T LineFault = Err r in x ≡ Err (Bad at)) → (0 < left) × (n ≡ at)
  bad_is at e = by_test (nat_eq left 0) refl made
    where
      by_test : (b : Bool) → nat_eq left 0 ≡ b → r ≡ cond b More (Bad n) → (0 < left) × (n ≡ at)
      by_test true is m = cc
      by_test false is m = (grind (arith, nat_tests), cc)

  pub waits_is : left ≡ 0 → (let x : Result T LineFault = Err r in x ≡ Err More)
  waits_is none = ap Err (made ∙ ap (λ m. cond (nat_eq m 0) More (Bad n)) none)
