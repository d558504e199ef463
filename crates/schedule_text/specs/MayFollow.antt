-- Which events may follow others in a schedule, said of the configuration and of those events alone.
use Rattle.std.specs.Prelude.{◌≡◌, ◌≢◌, ℕ, ◌<◌, ◌^◌, ⊤, true, List, [], ◌∷◌, ◌++◌, Some}
use Rattle.mur_config.specs.Nodes.{node_named, are_linked}
use Rattle.mur_config.specs.declared.config.Config.{Config}
use Rattle.mur_config.specs.declared.node.Node.{Node}
use Rattle.mur_config.specs.declared.node.Kind.TheVariants.{Backend}
use Rattle.schedule_text.specs.declared.event.Event.{Event}
use Rattle.schedule_text.specs.declared.event.Event.TheVariants.{Open, Data, Hang, Deliver, Cut, Join, Flow}

-- a node of the configuration at which connections may be opened: a frontend, or the master
pub record IsClientNode (config : Config) (name : List ℕ) : Type 0 where
  pub node : Node
  pub named : node_named name config.nodes ≡ Some node
  pub takes : node.kind ≢ Backend

-- two nodes of the configuration that a link joins
pub record AreLinkedNodes (config : Config) (from to : List ℕ) : Type 0 where
  pub sender : Node
  pub taker : Node
  pub sender_named : node_named from config.nodes ≡ Some sender
  pub taker_named : node_named to config.nodes ≡ Some taker
  pub linked : are_linked sender taker ≡ true

-- one of the events opens the connection
pub data Opens (conn : ℕ) : List Event → Type 0 where
  opens : (node : List ℕ) (events : List Event) → Opens conn (Open node conn ∷ events)
  opened : (event : Event) (events : List Event) → Opens conn events → Opens conn (event ∷ events)

-- a connection is opened once, and before it has data or is closed
unfoldable pub MayFollow : Config → List Event → Event → Type 0
MayFollow config before (Open node conn) = IsClientNode config node × (Opens conn before → ⊥)
MayFollow config before (Data conn bytes) = Opens conn before
MayFollow config before (Hang conn) = Opens conn before
MayFollow config before (Deliver from to) = AreLinkedNodes config from to
MayFollow config before (Cut one other kept kept_back) = AreLinkedNodes config one other
MayFollow config before (Join one other) = AreLinkedNodes config one other
MayFollow config before (Flow count) = count < 2 ^ 32
MayFollow config before _ = ⊤

-- each of the events may follow those before it
unfoldable pub AllMayFollow : Config → List Event → List Event → Type 0
AllMayFollow config before [] = ⊤
AllMayFollow config before (event ∷ events) = MayFollow config before event × AllMayFollow config (before ++ event ∷ []) events
