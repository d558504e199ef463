use Rattle.std.proofs.Common.{◌≡◌}
use Rattle.std.specs.List.{flat_map}
use Rattle.top_call.specs.Output.{record_line}
use Rattle.top_call.proofs.WritingLaws.{OnWay}
use Rattle.top_call.proofs.output.write_records.Given as goal

abbrev pub invariant-loop-name : goal.invariant-loop-name
invariant-loop-name g l = record {
  way : OnWay record_line (g.S.Sink.facts l.initial.sink).taken (g.S.Sink.facts l.sink).taken l.initial.part l.part l.name-iterator
      (flat_map record_line l.records);
  faultless : (g.S.Sink.facts l.sink).faults ≡ (g.S.Sink.facts l.initial.sink).faults;
}
