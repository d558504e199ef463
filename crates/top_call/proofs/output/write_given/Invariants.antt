use Rattle.std.proofs.Common.{◌≡◌}
use Rattle.std.specs.List.{flat_map}
use Rattle.schedule_text.specs.Cuts.{cuts_of, cuts_left}
use Rattle.top_call.specs.Output.{to_line}
use Rattle.top_call.proofs.WritingLaws.{OnWay}
use Rattle.top_call.proofs.output.write_given.Given as goal

abbrev pub invariant-loop-piece : goal.invariant-loop-piece
invariant-loop-piece g l = record {
  way : OnWay (to_line l.conn) (g.S.Sink.facts l.initial.sink).taken (g.S.Sink.facts l.sink).taken l.initial.part l.part (cuts_left l.piece-iterator)
      (flat_map (to_line l.conn) (cuts_of l.given));
  faultless : (g.S.Sink.facts l.sink).faults ≡ (g.S.Sink.facts l.initial.sink).faults;
}
