use Rattle.std.proofs.Common.{◌≡◌, ◌+◌, length, drop, sym, arith}
use Rattle.std.proofs.lemmas.Bool.{ltb-false}
use Rattle.mur_model.specs.Beside.{same_until}
use Rattle.mur_model.proofs.BesideLaw.{none_same}
use Rattle.mur_model.proofs.beside.same_until.Goals as goal

pub returns-in_default-clause-is : goal.returns-in_default-clause-is
returns-in_default-clause-is c =
    let at = c.loop-at.at in
    let rows = c.args.rows.now in
    let now = c.args.now.now in
    let none = none_same rows now at (ltb-false at (length now) (sym c.in_default.ensures.lookup.0)) in
    let all : at + same_until (drop at rows) (drop at now) ≡ same_until rows now = c.loop-at.invariant in
    omega (arith, none, all)
