use Rattle.std.proofs.Common.{◌≡◌, ◌+◌, take, drop, refl, sym, ap, ◌∙◌, arith}
use Rattle.std.specs.List.{fold}
use Rattle.std.proofs.lemmas.Bool.Decides.{nat_tests}
use Rattle.std.proofs.lemmas.List.{drop_all}
use Rattle.name_listing.specs.Found.{with_level, with_levels, levels_from}
use Rattle.name_listing.proofs.Above.{level_more, level_same}
use Rattle.name_listing.proofs.found.put_levels_of.Goals.{then-name-i-eq46+in_ok-put_level, else-name-i-eq46}
use Rattle.name_listing.proofs.found.put_levels_of.Goals as goal

pub loop-i-init : goal.loop-i-init
unfolding with_levels
loop-i-init c = refl

pub loop-i-preserved : goal.loop-i-preserved
loop-i-preserved c =
    let at = c.loop-i in let name = c.args.name.now in let pattern = c.args.pattern.now in
    elim c.if-name-i-eq46.branch [
      | then-name-i-eq46+in_ok-put_level w ↦
          let more = level_more name at.i (omega arith) (grind (arith, nat_tests, w.if-name-i-eq46.true)) in
          let now : fold (with_level pattern) (with_level pattern at.found (take at.i name)) (levels_from (take (at.i + 1) name) (drop (at.i + 1) name))
          ≡ with_levels pattern c.args.found.now name = ap (fold (with_level pattern) at.found) (sym more) ∙ at.invariant in
          grind (arith, now, w.found-is, w.put_level.ensures)
      | else-name-i-eq46 w ↦
          let less = level_same name at.i (omega arith) (grind (arith, nat_tests, w.if-name-i-eq46.false)) in
          grind (arith, less, w.found-is, at.invariant)
    ]

pub returns : goal.returns
unfolding levels_from
returns c =
    let end = drop_all c.loop-i.i c.args.name.now (omega arith) in
    let now = c.loop-i.invariant in rw end at now
