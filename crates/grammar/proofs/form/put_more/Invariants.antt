use Rattle.std.proofs.Common.{◌≡◌, ◌++◌, drop}
use Rattle.grammar.specs.Forms.{more_text}
use Rattle.grammar.proofs.form.put_more.Given as goal

-- what is printed so far and the values that are left make the whole text
abbrev pub invariant-loop-value : goal.invariant-loop-value
invariant-loop-value g l =
    l.out ++ more_text l.separator (g.P.Production.form l.of).text (drop l.value-index l.list)
    ≡ l.initial.out ++ more_text l.separator (g.P.Production.form l.of).text l.list
