-- The loop stops before the last byte that is no digit.
use Rattle.std.proofs.Common.{sym, arith}
use Rattle.imap_wire.proofs.LiteralLaws.{last_digits-is, IsDigit-drop}
use Rattle.imap_wire.proofs.literal.digits_at.Goals as goal

pub returns-else-is_ascii_digit-clause-place : goal.returns-else-is_ascii_digit-clause-place
returns-else-is_ascii_digit-clause-place c =
    last_digits-is _ _ c.loop-at.invariant.within c.loop-at.invariant.digits (λ _. sym c.if-is_ascii_digit.ensures.value)

pub returns-else-is_ascii_digit-clause-digits : goal.returns-else-is_ascii_digit-clause-digits
returns-else-is_ascii_digit-clause-digits c = IsDigit-drop _ _ c.loop-at.invariant.digits

pub returns-after-loop-at-clause-place : goal.returns-after-loop-at-clause-place
returns-after-loop-at-clause-place c =
    last_digits-is _ _ c.loop-at.invariant.within c.loop-at.invariant.digits (λ some. absurd (omega arith))

pub returns-after-loop-at-clause-digits : goal.returns-after-loop-at-clause-digits
returns-after-loop-at-clause-digits c = IsDigit-drop _ _ c.loop-at.invariant.digits
