-- What a client does changes no table.
use Rattle.std.proofs.Common.{◌≡◌, ◌≢◌, ℕ, true, List, Option, None, Some, refl, sym, ◌∙◌, ap}
use Rattle.std.specs.Cmp.Lexicographic.{slice_cmp}
use Rattle.std.specs.Ordering.{nat_cmp}
use Rattle.std.proofs.Math.Logic.{⊎_elim}
use Rattle.cluster_core.specs.Headline.Outside.{is_of_client, table_by, table_at}
use Rattle.cluster_core.specs.declared.world.Client.{Client}
use Rattle.guest_links.specs.Happenings.{change_of, step_of}
use Rattle.guest_links.proofs.ServedLaw.{changes_are_of_the_table}
use Rattle.master_core.specs.declared.master.Master.{Master}
use Rattle.master_core.specs.Step.{table_with}
use Rattle.mur_base.proofs.MapLaws.{names_apart, same_or_other}
use Rattle.node_step.specs.declared.input.NodeInput.{NodeInput}
use Rattle.node_step.specs.declared.input.NodeInput.TheVariants.{Opened, Piece, Hung, From}
use Rattle.node_step.specs.declared.node.NodeState.{NodeState}
use Rattle.node_step.specs.declared.node.NodeState.TheVariants as state
use Rattle.node_step.specs.NodeStep.{as_back, as_front, as_master}
use Rattle.node_step.proofs.NodeKinds.{a_back, a_front}
use Rattle.schedule_text.specs.declared.event.Event.{Event}
use Rattle.schedule_text.specs.declared.event.Event.TheVariants.{Open, Data, Hang}
use Rattle.cluster_core.specs.declared.world.World.{World}
use Rattle.cluster_core.specs.World.{client_at, client_does, comes, front_at, home_at, master_at, node_at, opens, stepped, steps_by, takes, with_client}
use Rattle.cluster_core.proofs.Guests.AtMaster.{comes_so, happening_by}
use Rattle.cluster_core.proofs.Nodes.AllCome.{all_come, front_all_come, home_all_come, none_all_come}
use Rattle.cluster_core.proofs.Nodes.Comes.{IsOfClient, a_master, front_does, front_moved, home_does, home_moved, master_moved, with_master, wrote}
use Rattle.cluster_core.proofs.Nodes.Then.{looks_then}

no_change : (master : Master) (input : NodeInput) → IsOfClient input → change_of master (happening_by input) ≡ None
no_change master (Opened conn) is = refl
no_change master (Piece conn bytes) is = refl
no_change master (Hung conn) is = refl
no_change master (From name message) is = absurd is

master_table : (master : Master) (input : NodeInput) → IsOfClient input → (step_of master (happening_by input)).master.table ≡ master.table
master_table master input is =
    changes_are_of_the_table master (happening_by input) ∙ ap (table_with master.table) (no_change master input is)

comes_by : (world : World) (node : List ℕ) (input : NodeInput) (found : Option NodeState) → node_at world node ≡ found → IsOfClient input
    → (any : List ℕ) → table_at (all_come world node input) any ≡ table_at world any
comes_by world node input None found is any = ap (λ (w : World). table_at w any) (none_all_come world node input found)
comes_by world node input (Some (state.Front front)) found is any =
    let there : front_at world node ≡ Some front = ap as_front found ∙ a_front front in
    ap (λ (w : World). table_at w any) (front_all_come world node input front there)
    ∙ ap table_by ((front_moved world node front (front_does front input) there).masters any)
comes_by world node input (Some (state.Back home)) found is any =
    let there : home_at world node ≡ Some home = ap as_back found ∙ a_back home in
    ap (λ (w : World). table_at w any) (home_all_come world node input home there)
    ∙ ap table_by ((home_moved (wrote world node (state.Back home) input) node home (home_does home input) there).masters any)
comes_by world node input (Some (state.Master master)) found is any =
    let there : master_at world node ≡ Some master = ap as_master found ∙ a_master master in
    let put : World = wrote world node (state.Master master) input in
    let moved = master_moved put node master (step_of master (happening_by input)) there in
    ap (λ (w : World). table_at w any) (comes_so world node input master there)
    ∙ ⊎_elim
    (λ (e : any ≡ node). ap (λ n. table_at (with_master put node (step_of master (happening_by input))) n) e
    ∙ ap table_by moved.own ∙ master_table master input is ∙ sym (ap (λ n. table_at world n) e ∙ ap table_by there))
    (λ (ne : any ≢ node). ap table_by (moved.masters any ne))
    (same_or_other (slice_cmp nat_cmp) names_apart any node)

comes_table : (world : World) (node : List ℕ) (input : NodeInput) → IsOfClient input → (any : List ℕ)
    → table_at (comes world node input) any ≡ table_at world any
comes_table world node input is any =
    looks_then world node input (λ n. table_by (as_master n)) any ∙ comes_by world node input (node_at world node) refl is any

opens_table : (world : World) (node : List ℕ) (conn : ℕ) (found : Option Client) (any : List ℕ)
    → table_at (opens world node conn found) any ≡ table_at world any
unfolding opens
opens_table world node conn (Some client) any = refl
opens_table world node conn None any = comes_table (with_client world node conn) node (Opened conn) tt any

does_table : (world : World) (input : NodeInput) (found : Option Client) → IsOfClient input → (any : List ℕ)
    → table_at (client_does world input found) any ≡ table_at world any
unfolding client_does
does_table world input None is any = refl
does_table world input (Some client) is any = comes_table world client.at input is any

takes_table : (world : World) (event : Event) → is_of_client event ≡ true → (any : List ℕ) → table_at (takes world event) any ≡ table_at world any
unfolding takes
takes_table world (Open node conn) is any = opens_table world node conn (client_at world conn) any
takes_table world (Data conn bytes) is any = does_table world (Piece conn bytes) (client_at world conn) tt any
takes_table world (Hang conn) is any = does_table world (Hung conn) (client_at world conn) tt any
takes_table world event is any = cc

pub step_tables : (world : World) (event : Event) → is_of_client event ≡ true → (any : List ℕ) → table_at (steps_by world event) any ≡ table_at world any
step_tables world event is any = takes_table (stepped world) event is any
