-- A backend as it starts, and its master.
use Rattle.std.specs.Prelude.{ℕ, Bool, nat_eq, List}
use Rattle.std.specs.Cmp.Lexicographic.{pointwise}
use Rattle.mur_base.specs.declared.home.Location.{Location}
use Rattle.backend_core.specs.Plan.{booted}
use Rattle.name_flows.specs.Running.{new_flows}
use Rattle.back_node.specs.declared.node.BackNode.{BackNode}

-- a backend without mailboxes, whose links are down
abbrev pub new_node : Location → List ℕ → BackNode
new_node me master = record { home = booted me; flows = new_flows me master }

abbrev pub is_my_master : BackNode → List ℕ → Bool
is_my_master node from = pointwise nat_eq from node.flows.master
