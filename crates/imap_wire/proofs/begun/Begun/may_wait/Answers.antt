-- Each test says what it looks at.
use Rattle.std.proofs.Common.{refl, arith}
use Rattle.imap_wire.proofs.PlainLaws.{plain-none}
use Rattle.imap_wire.proofs.begun.Begun.may_wait.Goals as goal

pub returns : goal.returns
returns c = λ yes. record {
  stands = c.if-not-stands_first.ensures refl;
  room = c.if-not-has_first_room_for.ensures refl;
  plain = plain-none c.args.piece.now c.memchr3.result (rw yes at c.is_none.ensures) c.memchr3.ensures;
  within = omega (arith, c.line_len.ensures, c.saturating_sub.ensures, c.requires.some);
}
