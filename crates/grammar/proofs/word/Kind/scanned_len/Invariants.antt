use Rattle.std.proofs.Common.{◌≡◌, [], take, drop, true}
use Rattle.grammar.specs.Words.{scan}
use Rattle.grammar.proofs.word.Kind.scanned_len.Given as goal

-- the scan of the whole is the scan of what is left behind the text so far, which begins a word
abbrev pub invariant-loop-i : goal.invariant-loop-i
invariant-loop-i g l = record {
  begins : (g.Self.Kind.words l.self).begins (take l.i l.bytes) ≡ true;
  scanned : scan (g.Self.Kind.words l.self) (take l.i l.bytes) (drop l.i l.bytes) ≡ scan (g.Self.Kind.words l.self) [] l.bytes;
}
