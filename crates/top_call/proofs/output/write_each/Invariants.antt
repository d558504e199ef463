use Rattle.std.proofs.Common.{◌≡◌, drop}
use Rattle.std.specs.List.{flat_map}
use Rattle.top_call.proofs.WritingLaws.{OnWay}
use Rattle.top_call.proofs.output.write_each.Given as goal

abbrev pub invariant-loop-line : goal.invariant-loop-line
invariant-loop-line g l = record {
  way : OnWay g.L.Line.text (g.S.Sink.facts l.initial.sink).taken (g.S.Sink.facts l.sink).taken l.initial.part l.part (drop l.line-index l.lines)
      (flat_map g.L.Line.text l.lines);
  faultless : (g.S.Sink.facts l.sink).faults ≡ (g.S.Sink.facts l.initial.sink).faults;
}
