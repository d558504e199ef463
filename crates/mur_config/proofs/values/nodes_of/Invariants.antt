use Rattle.std.proofs.Common.{drop}
use Rattle.mur_config.specs.Config.{node_of_draft}
use Rattle.mur_config.specs.Json.{each_of}
use Rattle.mur_config.proofs.EachLaw.{IsSoFar}
use Rattle.mur_config.proofs.values.nodes_of.Given as goal

abbrev pub invariant-loop-draft : goal.invariant-loop-draft
invariant-loop-draft l = IsSoFar node_of_draft l.nodes (drop l.draft-index l.drafts) (each_of node_of_draft l.drafts)
