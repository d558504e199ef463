use Rattle.std.proofs.Common.{◌≡◌, take, true}
use Rattle.std.specs.List.{list_all}
use Rattle.grammar.proofs.class.Class.passing_len.Given as goal

-- the bytes so far are of the set
abbrev pub invariant-loop-i : goal.invariant-loop-i
invariant-loop-i g l = list_all (g.Self.Class.test l.self) (take l.i l.bytes) ≡ true
