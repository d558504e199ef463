use Rattle.std.proofs.Common.{◌≡◌, take, min}
use Rattle.grammar.specs.Numbers.{value_of}
use Rattle.grammar.proofs.number.number_upto.Given as goal

-- the number is what the digits so far stand for, or `most`
abbrev pub invariant-loop-digit : goal.invariant-loop-digit
invariant-loop-digit l = l.number ≡ min (value_of (take l.digit-index l.digits)) l.most
