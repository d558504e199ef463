use Rattle.std.proofs.Common.{◌≡◌}
use Rattle.std.specs.List.{flat_map}
use Rattle.top_call.specs.Output.{client_lines}
use Rattle.top_call.proofs.GivenLaw.{AreFound}
use Rattle.top_call.proofs.WritingLaws.{OnWay}
use Rattle.top_call.proofs.output.write_clients.Given as goal

abbrev pub invariant-loop-conn : goal.invariant-loop-conn
invariant-loop-conn g l = record {
  way : OnWay client_lines (g.S.Sink.facts l.initial.sink).taken (g.S.Sink.facts l.sink).taken l.initial.part l.part l.conn-iterator
      (flat_map client_lines l.cluster.world.clients);
  found : AreFound l.cluster.world l.conn-iterator;
  faultless : (g.S.Sink.facts l.sink).faults ≡ (g.S.Sink.facts l.initial.sink).faults;
}
