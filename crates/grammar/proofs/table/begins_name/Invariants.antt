use Rattle.std.proofs.Common.{◌≡◌, drop}
use Rattle.grammar.specs.Tables.{starts_name}
use Rattle.grammar.proofs.table.begins_name.Given as goal

-- what is left of the text is to be compared with what is left of the name
abbrev pub invariant-loop-i : goal.invariant-loop-i
invariant-loop-i l = starts_name (drop l.i l.name) (drop l.i l.text) ≡ starts_name l.name l.text
