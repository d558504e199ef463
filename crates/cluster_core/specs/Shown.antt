-- What can be read off the cluster.
use Rattle.std.specs.Prelude.{ℕ, List, [], ◌∷◌, ◌++◌, length, Option, None, Some}
use Rattle.std.specs.List.{fold}
use Rattle.std.specs.Map.{keys_of}
use Rattle.std.specs.Ordering.{nat_cmp}
use Rattle.std.specs.Cmp.Lexicographic.{slice_cmp}
use Rattle.std.specs.BTreeSet.{insert_key}
use Rattle.back_node.specs.declared.node.BackNode.{BackNode}
use Rattle.node_record.specs.declared.held.Held.{Held}
use Rattle.mur_base.specs.Map.{value_at}
use Rattle.cluster_core.specs.declared.cluster.HomeRow.{HomeRow}
use Rattle.cluster_core.specs.declared.world.Client.{Client}
use Rattle.cluster_core.specs.declared.layout.Layout.{Layout}
use Rattle.cluster_core.specs.declared.world.World.{World}
use Rattle.cluster_core.specs.World.{client_at, home_at}

abbrev pub given_by : Option Client → List ℕ
given_by None = []
given_by (Some client) = client.given

-- the bytes given to the client of a connection
unfoldable pub given_to : World → ℕ → List ℕ
given_to world conn = given_by (client_at world conn)

abbrev pub held_by : Option BackNode → List (List ℕ × Held)
held_by None = []
held_by (Some node) = node.home.held

-- what a backend has
abbrev pub held_at_node : World → List ℕ → List (List ℕ × Held)
held_at_node world node = held_by (home_at world node)

-- a mailbox at a node that has it
abbrev pub home_row : List ℕ → List ℕ → Held → HomeRow
home_row name node held = record {
  name = name;
  backend = node;
  phase = held.phase;
  serial = held.content.serial;
  next = held.content.next;
  count = length held.content.messages;
}

abbrev pub row_if : List ℕ → List ℕ → Option Held → List HomeRow
row_if name node None = []
row_if name node (Some held) = home_row name node held ∷ []

-- a mailbox at the nodes that have it, in their order
unfoldable pub home_rows_of : World → List ℕ → List (List ℕ) → List HomeRow
home_rows_of world name [] = []
home_rows_of world name (node ∷ nodes) = row_if name node (value_at (slice_cmp nat_cmp) (held_at_node world node) name) ++ home_rows_of world name nodes

unfoldable pub rows_of_all : Layout → World → List (List ℕ) → List HomeRow
rows_of_all layout world [] = []
rows_of_all layout world (name ∷ names) = home_rows_of world name layout.backends ++ rows_of_all layout world names

-- the names that some node has, in byte order, each once
unfoldable pub names_at : World → List (List ℕ) → List (List ℕ) → List (List ℕ)
names_at world names [] = names
names_at world names (node ∷ nodes) = names_at world (fold (insert_key (slice_cmp nat_cmp)) names (keys_of (held_at_node world node))) nodes

-- the mailboxes of all nodes, in byte order of names, and each in the order of its nodes
unfoldable pub home_rows : Layout → World → List HomeRow
home_rows layout world = rows_of_all layout world (names_at world [] layout.backends)
