use Rattle.std.proofs.Common.{◌≡◌, drop}
use Rattle.grammar.specs.Members.{begins_with}
use Rattle.grammar.proofs.members.begins_with.Given as goal

-- what is left of the bytes is to be compared with what is left of the text
abbrev pub invariant-loop-i : goal.invariant-loop-i
invariant-loop-i l = begins_with (drop l.i l.text) (drop l.i l.front) ≡ begins_with l.text l.front
