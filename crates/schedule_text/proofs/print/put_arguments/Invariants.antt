use Rattle.std.proofs.Common.{◌≡◌, ◌++◌, map, drop}
use Rattle.schedule_text.specs.Printed.{argument_value, values_text, AreReadBack}
use Rattle.schedule_text.proofs.print.put_arguments.Given as goal

abbrev pub invariant-loop-argument : goal.invariant-loop-argument
invariant-loop-argument l = record {
  written :
      l.out ++ values_text (map argument_value (drop l.argument-index l.arguments))
      ≡ l.initial.out ++ values_text (map argument_value l.arguments);
  read_back : AreReadBack (map argument_value (drop l.argument-index l.arguments)) → AreReadBack (map argument_value l.arguments);
}
