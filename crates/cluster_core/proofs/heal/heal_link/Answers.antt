use Rattle.cluster_core.proofs.Runs.HealMade.{join_counts}
use Rattle.cluster_core.proofs.heal.heal_link.Goals as goal

pub returns-then-may_join-clause-steps : goal.returns-then-may_join-clause-steps
returns-then-may_join-clause-steps c = join_counts c.join.result c.args.world.now _ _ _ c.join.ensures
