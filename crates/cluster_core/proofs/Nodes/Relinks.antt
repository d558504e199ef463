-- A link that breaks or comes up changes the links alone.
use Rattle.std.proofs.Common.{◌≡◌, ℕ, Bool, true, false, List, refl}
use Rattle.cluster_core.specs.World.{cuts_if, joins_if}
use Rattle.cluster_core.specs.declared.world.World.{World}

pub record OnlyRelinks (world next : World) : Type 0 where
  pub nodes : next.nodes ≡ world.nodes
  pub disks : next.disks ≡ world.disks
  pub clients : next.clients ≡ world.clients
  pub marks : next.marks ≡ world.marks
  pub steps : next.steps ≡ world.steps

pub cut_relinks : (may : Bool) (world : World) (one other : List ℕ) (kept kept_back : ℕ) → OnlyRelinks world (cuts_if may world one other kept kept_back)
unfolding cuts_if
cut_relinks true world one other kept kept_back = record { nodes = refl; disks = refl; clients = refl; marks = refl; steps = refl }
cut_relinks false world one other kept kept_back = record { nodes = refl; disks = refl; clients = refl; marks = refl; steps = refl }

pub join_relinks : (may : Bool) (world : World) (one other : List ℕ) → OnlyRelinks world (joins_if may world one other)
unfolding joins_if
join_relinks true world one other = record { nodes = refl; disks = refl; clients = refl; marks = refl; steps = refl }
join_relinks false world one other = record { nodes = refl; disks = refl; clients = refl; marks = refl; steps = refl }
