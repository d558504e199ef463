-- At most one writable home.
use Rattle.std.specs.Prelude.{◌≡◌, ℕ, ◌≤◌, Bool, ◌&&◌, List, ◌++◌, count_by}
use Rattle.std.specs.Str.{bytes_eq}
use Rattle.backend_core.specs.HomeLaws.{is_open}
use Rattle.mur_config.specs.declared.config.Config.{Config}
use Rattle.schedule_text.specs.declared.event.Event.{Event}
use Rattle.cluster_core.specs.World.{layout_of, start}
use Rattle.cluster_core.specs.declared.cluster.HomeRow.{HomeRow}
use Rattle.cluster_core.specs.declared.layout.Layout.{Layout}
use Rattle.cluster_core.specs.declared.world.World.{World}
use Rattle.cluster_core.specs.Flow.{run_steps, steps_of_run}
use Rattle.cluster_core.specs.Headline.OpenAt.{OpensAtOneNode}
use Rattle.cluster_core.specs.Shown.{home_rows}

-- a writable home of a name is a node that has the name Open
abbrev pub is_writable_home : List ℕ → HomeRow → Bool
is_writable_home name row = is_open row.phase && bytes_eq row.name name

abbrev pub HasOneHomeEach : Layout → World → Type 0
HasOneHomeEach layout world = (name : List ℕ) → count_by (is_writable_home name) (home_rows layout world) ≤ 1

-- after every step each name has at most one writable home among those that are shown, and is open at no two nodes, shown or not
abbrev pub KeepsOneHomeEach : Config → List Event → Type 0
KeepsOneHomeEach config events =
    (before later : List Event) → steps_of_run config events ≡ before ++ later
    → HasOneHomeEach (layout_of config) (run_steps (start config) before) × OpensAtOneNode (run_steps (start config) before)
