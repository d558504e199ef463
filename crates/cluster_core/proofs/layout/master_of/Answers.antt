use Rattle.std.proofs.Common.{rules, ◌≢◌, ◌∙◌, arith}
use Rattle.std.proofs.lemmas.List.{drop_all}
use Rattle.mur_config.specs.declared.node.Kind.TheVariants.{Master}
use Rattle.cluster_core.proofs.Runs.FlowMade.{item_at}
use Rattle.cluster_core.proofs.Starts.Kinds.{master_behind, some_nodes}
use Rattle.cluster_core.proofs.layout.master_of.Goals as goal

pub loop-node-preserved : goal.loop-node-preserved
loop-node-preserved c =
    let at = item_at c.args.nodes.now c.loop-node.node-index c.node-item.result (omega arith) c.node-item.is in
    let other : c.node-item.result.kind ≢ Master = λ e. first_of (cc, search rules) in
    let behind = master_behind _ _ c.node-item.result at other c.loop-node.invariant.1 in
    (behind.0 ∙ c.loop-node.invariant.0, behind.1)

pub unreachable-requires : goal.unreachable-requires
unreachable-requires c =
    some_nodes _ (drop_all c.loop-node.node-index c.args.nodes.now (omega arith)) c.loop-node.invariant.1
