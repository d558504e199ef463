-- What comes to another node than the master leaves the master as it was, and each of its clients; no backend gives a client anything.
use Rattle.std.proofs.Common.{◌≡◌, ◌≢◌, ℕ, List, [], Option, None, Some, refl, sym, ◌∙◌, ap}
use Rattle.std.specs.Option.{option_map}
use Rattle.std.specs.Ordering.{nat_cmp}
use Rattle.std.specs.Cmp.Lexicographic.{slice_cmp}
use Rattle.std.specs.Prelude.{⊤}
use Rattle.std.proofs.Math.Logic.{⊎_elim}
use Rattle.back_node.specs.declared.node.BackNode.{BackNode}
use Rattle.cluster_core.specs.Headline.OneNode.{node_of, node_of as node_there}
use Rattle.cluster_core.specs.World.{master_of, client_at, comes, comes_to, front_at, home_at, master_at, node_at, not_lost, with_acted}
use Rattle.cluster_core.specs.declared.world.Client.{Client}
use Rattle.guest_links.specs.Guests.{Guest}
use Rattle.guest_links.specs.Outputs.{given_by as given_out}
use Rattle.master_core.specs.declared.master.Master.{Master}
use Rattle.mur_base.specs.Map.{value_at}
use Rattle.mur_base.proofs.MapLaws.{names_apart, same_or_other, value_at-with_value-other}
use Rattle.mur_config.specs.declared.config.Config.{Config}
use Rattle.node_step.specs.declared.input.NodeInput.{NodeInput}
use Rattle.node_step.specs.declared.input.NodeInput.TheVariants.{Opened, Piece, Hung, From}
use Rattle.node_step.specs.declared.node.NodeState.{NodeState}
use Rattle.node_step.specs.declared.node.NodeState.TheVariants as state
use Rattle.node_step.specs.NodeStep.{as_back, as_front, as_master, back_takes, takes as node_takes}
use Rattle.node_step.proofs.NodeKinds.{a_back, a_front, no_front}
use Rattle.node_step.proofs.OwnOuts.{ComesFrom, HasOwn, takes_lets}
use Rattle.cluster_core.specs.declared.world.World.{World}
use Rattle.cluster_core.specs.Shown.{given_by, given_to}
use Rattle.cluster_core.proofs.Runs.OneNodeLaw.{carry_all_sends}
use Rattle.cluster_core.proofs.Runs.OwnClientsLaw.{Anyone, HaveOwnClients, IsClientOf, anyone_speaks, comes_same}
use Rattle.cluster_core.proofs.Guests.Given.{gets, gets_none, given_made, none_given}
use Rattle.cluster_core.proofs.Guests.GuestLaw.{GuestIs, IsPlacedSo}
use Rattle.cluster_core.proofs.Nodes.AllCome.{front_all_come, home_all_come}
use Rattle.cluster_core.proofs.Nodes.Comes.{a_master, front_does, front_moved, home_does, none_comes, wrote}
use Rattle.cluster_core.proofs.Nodes.Then.{client_then, looks_then}
use Rattle.cluster_core.proofs.OneServer.SaysOf.{IsSilent}

-- a backend gives nothing to a client

Nobody : ℕ → Type 0
Nobody conn = ⊥

nobody_is : (conn : ℕ) → Nobody conn → ⊥
unfolding Nobody
nobody_is conn is = is

back_gives : (home : BackNode) (own : ℕ → Type 0) (input : NodeInput) (conn : ℕ) → HasOwn own Anyone (state.Back home)
    → given_out conn (home_does home input).outs ≡ []
unfolding node_takes back_takes
back_gives home own (Opened other) conn has = refl
back_gives home own (Piece other bytes) conn has = refl
back_gives home own (Hung other) conn has = refl
back_gives home own (From name message) conn has =
    none_given Nobody Anyone ⊤ nobody_is conn (node_takes (state.Back home) (From name message)).outs
    (takes_lets Nobody Anyone (state.Back home) (From name message) has (anyone_speaks name message) (λ bytes. tt)).outs

-- as both specs say it
pub same_place : (found : Option Client) → node_there found ≡ node_of found
same_place None = refl
same_place (Some client) = refl

others_by : (world : World) (node : List ℕ) (input : NodeInput) (found : Option NodeState) (any : List ℕ) → any ≢ node
    → node_at (comes_to world node input found) any ≡ node_at world any
unfolding comes_to
others_by world node input None any ne = refl
others_by world node input (Some it) any ne =
    ap (λ n. value_at (slice_cmp nat_cmp) n any)
    (carry_all_sends node (with_acted world node (node_takes it input)) (not_lost world.broken node (node_takes it input).outs)).nodes
    ∙ value_at-with_value-other (slice_cmp nat_cmp) names_apart world.nodes node any (node_takes it input).state ne

where_by : (world : World) (node : List ℕ) (input : NodeInput) (found : Option NodeState) (conn : ℕ)
    → node_there (client_at (comes_to world node input found) conn) ≡ node_there (client_at world conn)
unfolding comes_to
where_by world node input None conn = refl
where_by world node input (Some it) conn =
    (carry_all_sends node (with_acted world node (node_takes it input)) (not_lost world.broken node (node_takes it input).outs)).clients conn

module _ (config : Config) (world : World) (node : List ℕ) (input : NodeInput) (apart : node ≢ master_of config)
    (only : (any : List ℕ) (other : Master) → master_at world any ≡ Some other → any ≡ master_of config) (own : HaveOwnClients world)
    (from : ComesFrom (IsClientOf world node) Anyone input) where
  abbrev next : World
  next = comes world node input

  stays_elsewhere : (conn : ℕ) → node_of (client_at world conn) ≢ Some node → client_at next conn ≡ client_at world conn
  stays_elsewhere conn ne =
      comes_same world node input conn (node_at world node) refl own from (λ e. ne (sym (same_place (client_at world conn)) ∙ e))

  stays_where : (conn : ℕ) → node_of (client_at next conn) ≡ node_of (client_at world conn)
  stays_where conn =
      sym (same_place (client_at next conn)) ∙ where_by world node input (node_at world node) conn ∙ same_place (client_at world conn)

  front_else : (any : List ℕ) → any ≢ node → front_at next any ≡ None → front_at world any ≡ None
  front_else any ne none = sym (ap as_front (others_by world node input (node_at world node) any ne)) ∙ none

  -- a client that was given nothing, where no frontend is

  silent_else : (conn : ℕ) (there : List ℕ) → there ≢ node → node_of (client_at world conn) ≡ Some there → front_at next there ≡ None
      → IsSilent world conn → given_to next conn ≡ []
  unfolding given_to
  silent_else conn there ne at none silent =
      ap given_by (stays_elsewhere conn (λ e. ne (let same : Some there ≡ Some node = sym at ∙ e in cc))) ∙ silent there at (front_else there ne none)

  silent_here : (conn : ℕ) (found : Option NodeState) → node_at world node ≡ found → node_of (client_at world conn) ≡ Some node
      → front_at next node ≡ None → IsSilent world conn → given_to next conn ≡ []
  unfolding given_to
  silent_here conn None found at none silent =
      let still : next ≡ world = none_comes world node input found in
      ap (λ (w : World). given_to w conn) still ∙ silent node at (ap (λ (w : World). front_at w node) (sym still) ∙ none)
  silent_here conn (Some (state.Front front)) found at none silent =
      let there : front_at world node ≡ Some front = ap as_front found ∙ a_front front in
      let is : front_at next node ≡ Some (front_does front input).front =
      looks_then world node input as_front node ∙ ap (λ (w : World). front_at w node) (front_all_come world node input front there)
      ∙ (front_moved world node front (front_does front input) there).own in
      absurd (let no : None ≡ Some (front_does front input).front = sym none ∙ is in cc)
  silent_here conn (Some (state.Back home)) found at none silent =
      let there : home_at world node ≡ Some home = ap as_back found ∙ a_back home in
      let nothing : given_out conn (home_does home input).outs ≡ [] = back_gives home (IsClientOf world node) input conn (own node (state.Back home) found) in
      let same : client_at next conn ≡ client_at world conn =
      client_then world node input conn ∙ ap (λ (w : World). client_at w conn) (home_all_come world node input home there)
      ∙ given_made (wrote world node (state.Back home) input) node (state.Back (home_does home input).state) (home_does home input).outs conn
      ∙ ap (λ g. option_map (gets g) (client_at world conn)) nothing ∙ gets_none (client_at world conn) in
      ap given_by same ∙ silent node at (ap as_front found ∙ no_front home)
  silent_here conn (Some (state.Master master)) found at none silent =
      absurd (apart (only node master (ap as_master found ∙ a_master master)))

  silent_next : (conn : ℕ) → IsSilent world conn → IsSilent next conn
  silent_next conn silent = λ there at none.
      let was : node_of (client_at world conn) ≡ Some there = sym (stays_where conn) ∙ at in
      ⊎_elim
      (λ (e : there ≡ node). silent_here conn (node_at world node) refl (was ∙ ap {B = Option (List ℕ)} (λ n. Some n) e)
      (ap (front_at next) (sym e) ∙ none) silent)
      (λ (ne : there ≢ node). silent_else conn there ne was none silent)
      (same_or_other (slice_cmp nat_cmp) names_apart there node)

  placed_next : (conn : ℕ) (seen : Option Guest) → IsPlacedSo config world conn seen → IsPlacedSo config next conn seen
  placed_next conn None placed = record {
    apart = λ e. placed.apart (sym (stays_where conn) ∙ e);
    silent = silent_next conn placed.silent;
  }
  placed_next conn (Some guest) at =
      stays_elsewhere conn (λ e. apart (let same : Some (master_of config) ≡ Some node = sym (ap node_of at) ∙ e in cc)) ∙ at

  pub other_guest : (master : Master) (conn : ℕ) (seen : Option Guest) → GuestIs config world master conn seen → GuestIs config next master conn seen
  other_guest master conn seen is = record { has = is.has; placed = placed_next conn seen is.placed; reads = is.reads }

  -- and the master
  pub other_master : master_at next (master_of config) ≡ master_at world (master_of config)
  other_master = ap as_master (others_by world node input (node_at world node) (master_of config) (λ e. apart (sym e)))
