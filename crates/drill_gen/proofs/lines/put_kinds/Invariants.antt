use Rattle.std.proofs.Common.{◌≡◌, ◌++◌, map}
use Rattle.schedule_text.specs.Cuts.{cuts_of, cuts_left}
use Rattle.drill_gen.specs.LineKinds.{kind_of_line}
use Rattle.drill_gen.proofs.lines.put_kinds.Given as goal

abbrev pub invariant-loop-line : goal.invariant-loop-line
invariant-loop-line l = l.kinds ++ map kind_of_line (cuts_left l.line-iterator) ≡ l.initial.kinds ++ map kind_of_line (cuts_of l.given)
