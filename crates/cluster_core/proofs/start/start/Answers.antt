use Rattle.std.proofs.Common.{sym, subst, ◌<◌, length}
use Rattle.cluster_core.specs.declared.layout.Layout.{Layout}
use Rattle.cluster_core.proofs.Starts.Kinds.{some_backend}
use Rattle.cluster_core.proofs.start.start.Goals as goal

pub add_nodes-requires-clause-backends : goal.add_nodes-requires-clause-backends
add_nodes-requires-clause-backends c =
    subst (λ (l : Layout). 0 < length l.backends) (sym c.requires) (some_backend c.args.config.now.nodes c.as_slice-nodes.ensures.kept)
