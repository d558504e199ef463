-- One digit more.
use Rattle.std.proofs.Common.{get_or, arith}
use Rattle.std.proofs.lemmas.Int.Digits.{digits_value_more}
use Rattle.imap_wire.proofs.LiteralLaws.{digit_value-digit, size-more}
use Rattle.imap_wire.proofs.literal.size_of.Goals as goal

pub loop-digit-preserved : goal.loop-digit-preserved
loop-digit-preserved c =
    let more = digits_value_more 10 c.args.digits.now c.loop-digit.digit-index (omega arith) in
    let digit = digit_value-digit (get_or c.args.digits.now c.loop-digit.digit-index 0) (c.requires c.loop-digit.digit-index 0 (omega arith)) in
    omega (arith, more, digit.0, digit.1, size-more)
