use Rattle.std.proofs.Common.{rules}
use Rattle.mur_edge.proofs.Known.{Took-from_place}
use Rattle.mur_edge.proofs.sink.write_all.Goals as goal

pub loop-at-preserved : goal.loop-at-preserved
loop-at-preserved g c = record {
  in_range = search rules;
  took = Took-from_place _ _ _ _ _ _ c.loop-at.invariant.in_range c.loop-at.invariant.took c.in_ok-at.ensures.did.bytes;
  faultless = search rules;
}
