-- No other node has the name of a node.
use Rattle.std.proofs.Common.{◌≢◌, suc, List, ◌∷◌, arith}
use Rattle.std.specs.Prelude.{All, AllPairs}
use Rattle.mur_config.specs.declared.node.Node.{Node}

pub head_apart : (node : Node) (nodes : List Node) → AllPairs (λ (one other : Node). one.name ≢ other.name) (node ∷ nodes)
    → All (λ (other : Node). node.name ≢ other.name) nodes
head_apart node nodes pairs = λ k d h. pairs 0 (suc k) d (omega arith) (omega arith)

pub tail_apart : (node : Node) (nodes : List Node) → AllPairs (λ (one other : Node). one.name ≢ other.name) (node ∷ nodes)
    → AllPairs (λ (one other : Node). one.name ≢ other.name) nodes
tail_apart node nodes pairs = λ i j d h k. pairs (suc i) (suc j) d (omega arith) (omega arith)
