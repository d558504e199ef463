use Rattle.std.proofs.Common.{rules, sym, ◌∙◌}
use Rattle.cluster_core.proofs.Whole.HeadlineLaw.{one_server_by_room}
use Rattle.cluster_core.proofs.Runs.CarryOn.{empty_by_length, shorter}
use Rattle.cluster_core.proofs.Runs.RunRoom.{way_begins, way_goes_on, way_has_room, way_is_few, way_ends}
use Rattle.cluster_core.proofs.cluster.run.Goals as goal

pub loop-event-init : goal.loop-event-init
loop-event-init c = record { can_next = tt; is_finite = tt; count = search rules; way = way_begins _ _ _ _ c.in_ok-cluster.ensures.nodes c.in_ok-cluster.ensures.start (search rules) }

pub step-requires : goal.step-requires
step-requires c = record {
  room = way_has_room c.args.config.now c.args.events _ _ _ _ c.requires c.in-Some.ensures.steps.0 c.loop-event.invariant.way;
  links = way_is_few c.args.config.now c.args.events _ _ c.loop-event.invariant.way;
}

pub loop-event-preserved : goal.loop-event-preserved
loop-event-preserved c = record {
  can_next = tt;
  is_finite = tt;
  count = shorter _ _ _ _ _ c.loop-event.invariant.count c.in-Some.ensures.steps.0 c.in-Some.ensures.steps.1;
  way = way_goes_on _ _ _ _ _ _ _ c.in-Some.ensures.steps.0 c.in_ok-step.ensures.event c.loop-event.invariant.way;
}

pub returns : goal.returns
returns c = record {
  ran = way_ends _ _ _ _ (empty_by_length _ (sym c.loop-event.invariant.count ∙ c.in-None.ensures.steps.0)) c.loop-event.invariant.way;
  one_server = one_server_by_room c.args.config.now c.args.events c.in_ok-cluster.ensures.nodes c.in_ok-cluster.ensures.date c.requires;
}

pub returns-in_err-cluster-clause-one_server : goal.returns-in_err-cluster-clause-one_server
returns-in_err-cluster-clause-one_server c = one_server_by_room c.args.config.now c.args.events c.in_err-cluster.ensures.nodes c.in_err-cluster.ensures.date c.requires

pub returns-in_err-step-clause-one_server : goal.returns-in_err-step-clause-one_server
returns-in_err-step-clause-one_server c = one_server_by_room c.args.config.now c.args.events c.in_ok-cluster.ensures.nodes c.in_ok-cluster.ensures.date c.requires
