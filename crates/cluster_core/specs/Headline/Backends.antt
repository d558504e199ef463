-- The backends of a configuration, by its nodes.
use Rattle.std.specs.Prelude.{◌≡◌, ℕ, List, Some}
use Rattle.mur_config.specs.declared.config.Config.{Config}
use Rattle.mur_config.specs.declared.node.Kind.TheVariants.{Backend}
use Rattle.mur_config.specs.declared.node.Node.{Node}
use Rattle.mur_config.specs.Nodes.{node_named}

-- among these nodes there is a backend of this name
pub record IsBackendOf (nodes : List Node) (name : List ℕ) : Type 0 where
  pub node : Node
  pub at : node_named name nodes ≡ Some node
  pub kind : node.kind ≡ Backend

-- the configuration has one
abbrev pub IsBackend : Config → List ℕ → Type 0
IsBackend config name = IsBackendOf config.nodes name
