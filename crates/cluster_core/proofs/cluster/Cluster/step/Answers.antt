use Rattle.cluster_core.specs.Flow.{steps_of_event}
use Rattle.cluster_core.proofs.Runs.OneNodeLaw.{one_node_each}
use Rattle.cluster_core.proofs.Runs.OwnClientsLaw.{serves_its_own_behind}
use Rattle.cluster_core.proofs.Whole.BehindLaw.{nothing_waits, steps_are_its}
use Rattle.cluster_core.proofs.cluster.Cluster.step.Goals as goal

pub returns-clause-one_node : goal.returns-clause-one_node
returns-clause-one_node c = one_node_each c.args.self.now.world (steps_of_event c.args.self.now.layout c.args.self.now.world c.args.event)

pub returns-clause-its_steps : goal.returns-clause-its_steps
returns-clause-its_steps c = steps_are_its c.args.self.now.layout c.args.self.now.world c.args.event

pub returns-clause-own_clients : goal.returns-clause-own_clients
returns-clause-own_clients c = serves_its_own_behind c.args.self.now.layout c.args.self.now.world c.args.event

pub returns-clause-at_rest : goal.returns-clause-at_rest
returns-clause-at_rest c = nothing_waits c.args.self.now.layout c.args.self.now.world c.args.event
