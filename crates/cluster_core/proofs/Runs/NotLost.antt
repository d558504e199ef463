-- What holds of each output of a node holds of each that isn't lost.
use Rattle.std.proofs.Common.{ℕ, Bool, true, false, if◌then◌else◌, List, [], ◌∷◌}
use Rattle.front_core.proofs.OwnOuts.{AreLetOut, IsLetOut}
use Rattle.link_msg.specs.declared.message.LinkMsg.{LinkMsg}
use Rattle.link_msg.specs.declared.out.Out.{Out}
use Rattle.link_queue.specs.Broken.{Broken}
use Rattle.cluster_core.specs.World.{is_lost, not_lost}

module _ (own : ℕ → Type 0) (may : List ℕ → LinkMsg → Type 0) (marks : Type 0) where
  one_more_let : (broken : Broken) (node : List ℕ) (out : Out) (outs : List Out) (lost : Bool) → IsLetOut own may marks out
      → AreLetOut own may marks (not_lost broken node outs)
      → AreLetOut own may marks (if lost then not_lost broken node outs else out ∷ not_lost broken node outs)
  one_more_let broken node out outs true is rest = rest
  one_more_let broken node out outs false is rest = (is, rest)

  pub let_left : (broken : Broken) (node : List ℕ) (outs : List Out) → AreLetOut own may marks outs → AreLetOut own may marks (not_lost broken node outs)
  unfolding not_lost
  let_left broken node [] are = tt
  let_left broken node (out ∷ outs) are = one_more_let broken node out outs (is_lost broken node out) are.0 (let_left broken node outs are.1)
