use Rattle.std.proofs.Common.{◌∙◌, sym, refl, arith}
use Rattle.name_listing.proofs.PlainFront.{none_yet, one_more}
use Rattle.name_listing.proofs.pattern.plain_front.Goals as goal

pub loop-i-init : goal.loop-i-init
loop-i-init c = none_yet c.args.bytes.now

pub loop-i-preserved : goal.loop-i-preserved
loop-i-preserved c =
    one_more c.args.bytes.now c.loop-i.i c.loop-i-test.true (sym c.is_wildcard.ensures ∙ c.if-is_wildcard.false) c.loop-i.invariant
