use Rattle.std.proofs.Common.{◌≡◌, Some, [], take, drop}
use Rattle.grammar.specs.Words.{scan}
use Rattle.text_parts.specs.Names.{reached, names_from}
use Rattle.text_parts.proofs.names.NamesFromKind.scanned_len.Given as goal

-- the bytes so far lead to the state, and the scan of the whole is the scan of what is left behind them
abbrev pub invariant-loop-i : goal.invariant-loop-i
invariant-loop-i l = record {
  at : reached (Some l.self.start) (take l.i l.bytes) ≡ Some l.level;
  scanned : scan (names_from l.self.is_sized l.self.start) (take l.i l.bytes) (drop l.i l.bytes)
      ≡ scan (names_from l.self.is_sized l.self.start) [] l.bytes;
}
