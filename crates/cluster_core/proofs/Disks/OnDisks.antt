-- What each backend has of mailboxes, and the master's table, is what the entries of its disk make: at the start, and after each step.
use Rattle.std.proofs.Common.{◌≡◌, ◌≢◌, ℕ, Bool, true, false, List, [], ◌∷◌, ◌++◌, Option, None, Some, refl, sym, ◌∙◌, ap, subst}
use Rattle.std.specs.Ordering.{nat_cmp}
use Rattle.std.specs.Cmp.Lexicographic.{slice_cmp}
use Rattle.std.proofs.Math.Logic.{⊎_elim}
use Rattle.std.proofs.lemmas.Option.{same_Some}
use Rattle.link_msg.specs.declared.message.LinkMsg.{LinkMsg}
use Rattle.link_msg.specs.declared.message.LinkMsg.TheVariants.{Up}
use Rattle.link_queue.specs.Links.{on_link}
use Rattle.master_core.specs.declared.master.Master.{Master}
use Rattle.master_core.specs.Boot.{booted}
use Rattle.mur_base.specs.Map.{value_at}
use Rattle.mur_base.proofs.MapLaws.{names_apart, same_or_other, value_at-with_entry, value_at-with_entry-other, value_at-with_value, value_at-with_value-other}
use Rattle.mur_config.specs.declared.config.Config.{Config}
use Rattle.mur_config.specs.declared.node.Kind.{Kind}
use Rattle.mur_config.specs.declared.node.Kind.TheVariants.{Master as master_kind, Frontend, Backend as backend_kind}
use Rattle.mur_config.specs.declared.node.Link.{Link}
use Rattle.mur_config.specs.declared.node.Node.{Node}
use Rattle.mur_config.specs.Nodes.{links_of}
use Rattle.node_step.specs.declared.input.NodeInput.{NodeInput}
use Rattle.node_step.specs.declared.input.NodeInput.TheVariants.{Opened, Piece, Hung, From}
use Rattle.node_step.specs.declared.node.NodeState.{NodeState}
use Rattle.node_step.specs.declared.node.NodeState.TheVariants as state
use Rattle.node_step.specs.NodeStep.{takes as node_takes}
use Rattle.node_step.proofs.NodeKinds.{back_is, master_is}
use Rattle.schedule_text.specs.declared.event.Event.{Event}
use Rattle.schedule_text.specs.declared.event.Event.TheVariants.{Open, Data, Hang, Deliver, Cut, Join}
use Rattle.cluster_core.specs.declared.world.Client.{Client}
use Rattle.cluster_core.specs.declared.world.World.{World}
use Rattle.cluster_core.specs.Flow.{run_steps, steps_of_run}
use Rattle.cluster_core.specs.Headline.Disks.{IsOnDisks, TableStandsOn, StandsOnDisks}
use Rattle.cluster_core.specs.Headline.Outside.{table_by}
use Rattle.cluster_core.specs.World.{Disks, cuts_if, joins_if, may_cut, may_join, acts, client_at, client_does, comes_to, deliver_first, disk_at, first_state, master_at, master_of, no_world, node_at}
use Rattle.cluster_core.specs.World.{not_lost, opens, start, stepped, steps_by, taken_from_link, takes, with_acted, with_client, with_disk, with_node, with_nodes}
use Rattle.cluster_core.specs.World.{told_up, with_ups, written, written_on}
use Rattle.cluster_core.proofs.Disks.NodeWrites.{Disk, StandsOn, disk_with, takes_stands}
use Rattle.cluster_core.proofs.OneServer.EachStep.{EachKeeps, kept_all}
use Rattle.cluster_core.proofs.Runs.OneNodeLaw.{carry_all_sends, others_disks}

-- so it is with each node
abbrev pub StandOnDisks : World → Type 0
StandOnDisks world = (node : List ℕ) (it : NodeState) → node_at world node ≡ Some it → StandsOn it (disk_at world node)

same_disks : (world next : World) → next.nodes ≡ world.nodes → next.disks ≡ world.disks → StandOnDisks world → StandOnDisks next
same_disks world next nodes disks stand node it there =
    subst (StandsOn it) (sym (ap (λ d. value_at (slice_cmp nat_cmp) d node) disks))
    (stand node it (ap (λ n. value_at (slice_cmp nat_cmp) n node) (sym nodes) ∙ there))

-- ---- a step

on_its_disk : (disks : Disks) (node entry : List ℕ) (found : Disk) → value_at (slice_cmp nat_cmp) disks node ≡ found
    → value_at (slice_cmp nat_cmp) (written_on disks node entry found) node ≡ disk_with found (Some entry)
unfolding written_on
on_its_disk disks node entry None at = at
on_its_disk disks node entry (Some entries) at =
    value_at-with_value (slice_cmp nat_cmp) names_apart disks node (entries ++ entry ∷ []) entries at

its_disk : (disks : Disks) (node : List ℕ) (entry : Option (List ℕ))
    → value_at (slice_cmp nat_cmp) (written disks node entry) node ≡ disk_with (value_at (slice_cmp nat_cmp) disks node) entry
unfolding written
its_disk disks node None = refl
its_disk disks node (Some entry) = on_its_disk disks node entry (value_at (slice_cmp nat_cmp) disks node) refl

module _ (world : World) (node : List ℕ) (input : NodeInput) (was : NodeState) (there : node_at world node ≡ Some was) (stand : StandOnDisks world) where
  abbrev put : World
  put = with_acted world node (node_takes was input)

  its_own : (it : NodeState) → node_at put node ≡ Some it → StandsOn it (disk_at put node)
  its_own it at =
      let now : NodeState = (node_takes was input).state in
      let same : now ≡ it = same_Some now it (sym (value_at-with_value (slice_cmp nat_cmp) names_apart world.nodes node now was there) ∙ at) in
      subst (λ i. StandsOn i (disk_at put node)) same
      (subst (StandsOn now) (sym (its_disk world.disks node (node_takes was input).entry)) (takes_stands was input (disk_at world node) (stand node was there)))

  others : (any : List ℕ) (it : NodeState) → any ≢ node → node_at put any ≡ Some it → StandsOn it (disk_at put any)
  others any it ne at =
      subst (StandsOn it) (sym (others_disks world.disks node (node_takes was input).entry any ne))
      (stand any it (sym (value_at-with_value-other (slice_cmp nat_cmp) names_apart world.nodes node any (node_takes was input).state ne) ∙ at))

  all_stand : StandOnDisks put
  all_stand any it at = ⊎_elim
      (λ (e : any ≡ node). subst (λ n. StandsOn it (disk_at put n)) (sym e) (its_own it (ap (node_at put) (sym e) ∙ at)))
      (λ (ne : any ≢ node). others any it ne at)
      (same_or_other (slice_cmp nat_cmp) names_apart any node)

comes_stand : (world : World) (node : List ℕ) (input : NodeInput) (found : Option NodeState) → node_at world node ≡ found → StandOnDisks world
    → StandOnDisks (comes_to world node input found)
unfolding comes_to
comes_stand world node input None there stand = stand
comes_stand world node input (Some it) there stand =
    let sends = carry_all_sends node (with_acted world node (node_takes it input)) (not_lost world.broken node (node_takes it input).outs) in
    same_disks (with_acted world node (node_takes it input)) (acts world node (node_takes it input)) sends.nodes sends.disks
    (all_stand world node input it there stand)

opens_stand : (world : World) (node : List ℕ) (conn : ℕ) (found : Option Client) → StandOnDisks world → StandOnDisks (opens world node conn found)
unfolding opens
opens_stand world node conn (Some there) stand = stand
opens_stand world node conn None stand = comes_stand (with_client world node conn) node (Opened conn) (node_at world node) refl stand

client_stands : (world : World) (input : NodeInput) (found : Option Client) → StandOnDisks world → StandOnDisks (client_does world input found)
unfolding client_does
client_stands world input None stand = stand
client_stands world input (Some client) stand = comes_stand world client.at input (node_at world client.at) refl stand

deliver_stands : (world : World) (from to : List ℕ) (queue : List LinkMsg) → StandOnDisks world → StandOnDisks (deliver_first world from to queue)
unfolding deliver_first
deliver_stands world from to [] stand = stand
deliver_stands world from to (message ∷ rest) stand = comes_stand (taken_from_link world from to) to (From from message) (node_at world to) refl stand

cut_stands : (world : World) (one other : List ℕ) (k l : ℕ) (may : Bool) → StandOnDisks world → StandOnDisks (cuts_if may world one other k l)
unfolding cuts_if
cut_stands world one other k l true stand = stand
cut_stands world one other k l false stand = stand

join_stands : (world : World) (one other : List ℕ) (may : Bool) → StandOnDisks world → StandOnDisks (joins_if may world one other)
unfolding joins_if
join_stands world one other true stand = stand
join_stands world one other false stand = stand

step_stands : (world : World) (event : Event) → StandOnDisks world → StandOnDisks (steps_by world event)
unfolding takes
step_stands world (Open node conn) stand = opens_stand (stepped world) node conn (client_at world conn) stand
step_stands world (Data conn bytes) stand = client_stands (stepped world) (Piece conn bytes) (client_at world conn) stand
step_stands world (Hang conn) stand = client_stands (stepped world) (Hung conn) (client_at world conn) stand
step_stands world (Deliver from to) stand = deliver_stands (stepped world) from to (on_link world.links from to) stand
step_stands world (Cut one other k l) stand = cut_stands (stepped world) one other k l (may_cut (stepped world) one other) stand
step_stands world (Join one other) stand = join_stands (stepped world) one other (may_join (stepped world) one other) stand
step_stands world event stand = stand

-- ---- the start

first_stands : (config : Config) (world : World) (node : Node) (kind : Kind)
    → StandsOn (first_state config node kind) (value_at (slice_cmp nat_cmp) (with_disk world.disks node.name kind) node.name)
unfolding first_state with_disk booted
first_stands config world node master_kind =
    record { records = []; written = value_at-with_entry (slice_cmp nat_cmp) names_apart world.disks node.name []; made = refl }
first_stands config world node Frontend = tt
first_stands config world node backend_kind =
    record { records = []; written = value_at-with_entry (slice_cmp nat_cmp) names_apart world.disks node.name []; made = refl }

first_elsewhere : (disks : Disks) (name other : List ℕ) (kind : Kind) → other ≢ name
    → value_at (slice_cmp nat_cmp) (with_disk disks name kind) other ≡ value_at (slice_cmp nat_cmp) disks other
unfolding with_disk
first_elsewhere disks name other master_kind ne = value_at-with_entry-other (slice_cmp nat_cmp) names_apart disks name other [] ne
first_elsewhere disks name other Frontend ne = refl
first_elsewhere disks name other backend_kind ne = value_at-with_entry-other (slice_cmp nat_cmp) names_apart disks name other [] ne

node_stands : (config : Config) (world : World) (node : Node) → StandOnDisks world → StandOnDisks (with_node config world node)
node_stands config world node stand any it at =
    let next : World = with_node config world node in
    let first : NodeState = first_state config node node.kind in
    ⊎_elim
    (λ (e : any ≡ node.name).
    (let same : first ≡ it = same_Some first it (sym (value_at-with_entry (slice_cmp nat_cmp) names_apart world.nodes node.name first)
    ∙ (ap (node_at next) (sym e) ∙ at)) in
    subst (λ n. StandsOn it (disk_at next n)) (sym e)
    (subst (λ i. StandsOn i (disk_at next node.name)) same (first_stands config world node node.kind))))
    (λ (ne : any ≢ node.name).
    subst (StandsOn it) (sym (first_elsewhere world.disks node.name any node.kind ne))
    (stand any it (sym (value_at-with_entry-other (slice_cmp nat_cmp) names_apart world.nodes node.name any first ne) ∙ at)))
    (same_or_other (slice_cmp nat_cmp) names_apart any node.name)

nodes_stand : (config : Config) (world : World) (nodes : List Node) → StandOnDisks world → StandOnDisks (with_nodes config world nodes)
unfolding with_nodes
nodes_stand config world [] stand = stand
nodes_stand config world (node ∷ nodes) stand = nodes_stand config (with_node config world node) nodes (node_stands config world node stand)

ups_stand : (world : World) (links : List Link) → StandOnDisks world → StandOnDisks (with_ups world links)
unfolding with_ups
ups_stand world [] stand = stand
ups_stand world (link ∷ links) stand =
    ups_stand (told_up world link) links (comes_stand world link.to (From link.from Up) (node_at world link.to) refl stand)

none_stands : StandOnDisks no_world
none_stands node it there = cc

start_stands : (config : Config) → StandOnDisks (start config)
unfolding start
start_stands config =
    ups_stand (with_nodes config no_world config.nodes) (links_of config.nodes) (nodes_stand config no_world config.nodes none_stands)

-- ---- a run

pub run_stands : (world : World) (steps : List Event) → StandOnDisks world → StandOnDisks (run_steps world steps)
unfolding run_steps
run_stands world [] stand = stand
run_stands world (event ∷ steps) stand = run_stands (steps_by world event) steps (step_stands world event stand)

are_on_disks : (config : Config) (world : World) → master_at world (master_of config) ≢ None → StandOnDisks world → IsOnDisks config world
are_on_disks config world some stand = record {
  mailboxes = λ node home at. stand node (state.Back home) (back_is (node_at world node) home at);
  table = by (master_at world (master_of config)) refl;
}
  where
    by : (found : Option Master) → master_at world (master_of config) ≡ found
        → TableStandsOn (disk_at world (master_of config)) (table_by found)
    by None e = absurd (some e)
    by (Some master) e = stand (master_of config) (state.Master master) (master_is (node_at world (master_of config)) master e)

pub stands_on_disks : (config : Config) (events : List Event) → EachKeeps config (steps_of_run config events) → StandsOnDisks config events
stands_on_disks config events each before later parts =
    let law = ((kept_all config (steps_of_run config events) each).at before later parts).law in
    are_on_disks config (run_steps (start config) before) (λ none. (let no : None ≡ Some law.master = sym none ∙ law.nodes.is_there in cc))
    (run_stands (start config) before (start_stands config))
