-- The nodes that a schedule's line names.
use Rattle.std.specs.Prelude.{ℕ, Bool, true, false, if◌then◌else◌, List, Result, Ok, Err}
use Rattle.std.specs.Option.{ok_or}
use Rattle.mur_config.specs.declared.config.Config.{Config}
use Rattle.mur_config.specs.declared.node.Kind.{Kind}
use Rattle.mur_config.specs.declared.node.Kind.TheVariants.{Backend}
use Rattle.mur_config.specs.declared.node.Link.{Link}
use Rattle.mur_config.specs.declared.node.Node.{Node}
use Rattle.mur_config.specs.Nodes.{node_named, are_linked}
use Rattle.schedule_text.specs.declared.schedule.fault.Rule.{Rule}
use Rattle.schedule_text.specs.declared.schedule.fault.Rule.TheVariants.{UnknownNode}
use Rattle.schedule_text.specs.ScheduleRules.{◌>>=◌}

-- the node of a name in the configuration
unfoldable pub node_in : Config → List ℕ → Result Node Rule
node_in config name = ok_or (node_named name config.nodes) UnknownNode

-- mail clients come to frontends, and clients of the directory to the master
unfoldable pub takes_clients : Kind → Bool
takes_clients Backend = false
takes_clients kind = true

-- the name of a node at which clients open connections
unfoldable pub client_node_in : Config → List ℕ → Result (List ℕ) Rule
client_node_in config name = do
  node ← node_in config name
  if takes_clients node.kind then Ok name else Err UnknownNode

-- the link from one node of the configuration to another
unfoldable pub link_in : Config → List ℕ → List ℕ → Result Link Rule
link_in config from to = do
  sender ← node_in config from
  taker ← node_in config to
  if are_linked sender taker then Ok (record { from = from; to = to }) else Err UnknownNode
