use Rattle.std.proofs.Common.{◌≡◌, [], take, drop, true}
use Rattle.grammar.specs.Words.{scan}
use Rattle.grammar.specs.Numbers.{numerals, value_of}
use Rattle.grammar.proofs.number.numeral_scan.Given as goal

-- the digits so far stand for the number, and the scan of the whole is the scan of what is left behind them
abbrev pub invariant-loop-i : goal.invariant-loop-i
invariant-loop-i l = record {
  value : l.number ≡ value_of (take l.i l.bytes);
  begins : (numerals l.zeros l.most).begins (take l.i l.bytes) ≡ true;
  scanned : scan (numerals l.zeros l.most) (take l.i l.bytes) (drop l.i l.bytes) ≡ scan (numerals l.zeros l.most) [] l.bytes;
}
