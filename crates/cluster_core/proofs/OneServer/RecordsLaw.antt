-- Each record of the master's table is at a backend, in its partition: a backend writes records for its own place alone, which no step changes.
use Rattle.std.proofs.Common.{◌≡◌, ◌≢◌, ◌⊎◌, inl, inr, ℕ, ◌+◌, is_some, List, [], ◌∷◌, ◌++◌, Option, None, Some, refl, sym, ◌∙◌, ap, subst}
use Rattle.std.specs.Prelude.{All}
use Rattle.std.specs.List.{AllByRecursion}
use Rattle.std.specs.Ordering.{nat_cmp}
use Rattle.std.specs.Cmp.Lexicographic.{slice_cmp}
use Rattle.std.proofs.Math.Logic.{⊎_elim}
use Rattle.std.proofs.lemmas.List.Elements.{All-cons, All-nil}
use Rattle.back_links.specs.OneTalk.{HasTalk}
use Rattle.back_node.specs.declared.node.BackNode.{BackNode}
use Rattle.back_node.specs.Takes.{node_takes}
use Rattle.feed_links.specs.Spelled.{IsSpelledRecord}
use Rattle.imap_talk.specs.Heard.{Heard}
use Rattle.link_msg.specs.declared.message.LinkMsg.{LinkMsg}
use Rattle.link_queue.specs.Links.{on_link}
use Rattle.many_links.proofs.FrontTable.{front_table}
use Rattle.master_core.specs.declared.master.Master.{Master}
use Rattle.master_core.specs.Linked.{node_says}
use Rattle.mupdate_codec.proofs.StringsPrinted.{only_name}
use Rattle.mur_base.specs.Map.{value_at}
use Rattle.mur_base.proofs.MapLaws.{names_apart, same_or_other}
use Rattle.mur_config.specs.declared.config.Config.{Config}
use Rattle.mur_config.specs.Nodes.{AreNodes}
use Rattle.node_record.specs.declared.table.Record.{Record}
use Rattle.node_record.specs.Table.{MailboxTable, Records}
use Rattle.node_step.specs.declared.input.NodeInput.{NodeInput}
use Rattle.node_step.specs.declared.input.NodeInput.TheVariants.{Opened, Piece, Hung, From}
use Rattle.node_step.specs.declared.node.NodeState.{NodeState}
use Rattle.node_step.specs.declared.node.NodeState.TheVariants as state
use Rattle.node_step.specs.NodeStep.{as_back, as_front, as_master}
use Rattle.node_step.proofs.NodeKinds.{a_back, a_front}
use Rattle.schedule_text.specs.declared.event.Event.{Event}
use Rattle.schedule_text.specs.declared.event.Event.TheVariants.{Open, Data, Hang, Deliver, Cut, Join}
use Rattle.cluster_core.specs.declared.world.Client.{Client}
use Rattle.cluster_core.specs.declared.world.World.{World}
use Rattle.cluster_core.specs.Flow.{run_steps, steps_of_run}
use Rattle.cluster_core.specs.Headline.Outside.{table_at, table_by}
use Rattle.cluster_core.specs.Headline.Records.{IsAtBackend, RecordsStand, RecordsStandAtBackends, StandsAtBackend}
use Rattle.cluster_core.specs.Heard.{heard}
use Rattle.cluster_core.specs.World.{master_of, client_at, client_does, comes, deliver_first, front_at, home_at, master_at, may_cut, may_join, node_at, opens, start, stepped}
use Rattle.cluster_core.specs.World.{steps_by, taken_from_link, takes, with_client}
use Rattle.cluster_core.proofs.Connections.KeepsLaw.{KeepsLaw}
use Rattle.cluster_core.proofs.Feeds.AtMaster.{master_takes_placed, outside_same}
use Rattle.cluster_core.proofs.Feeds.Backends.{ArePlaced}
use Rattle.cluster_core.proofs.Nodes.AllCome.{all_come, front_all_come, home_all_come, master_all_come, none_all_come}
use Rattle.cluster_core.proofs.Nodes.Comes.{IsOfClient, a_master, front_does, front_moved, home_does, home_moved}
use Rattle.cluster_core.proofs.Nodes.Comes.{master_does, master_moved, with_front, with_home, with_master, wrote}
use Rattle.cluster_core.proofs.Nodes.Relinks.{cut_relinks, join_relinks}
use Rattle.cluster_core.proofs.Nodes.Thins.{comes_thinned}
use Rattle.cluster_core.proofs.OneServer.EachStep.{EachKeeps, LawBehind, kept_all, kept_behind}
use Rattle.cluster_core.proofs.Runs.OneNodeLaw.{one_more_step}
use Rattle.cluster_core.proofs.Starts.StartLaw.{home_place, start_table}
use Rattle.cluster_core.proofs.Steps.HomeNamed.{stays_with_master, stays_with_others}

-- the place of each backend is its own by the configuration, and so is that of each record
pub record PlacesHold (config : Config) (world : World) : Type 0 where
  pub homes : (name : List ℕ) (home : BackNode) → home_at world name ≡ Some home → IsAtBackend config home.flows.me
  pub table : ArePlaced (IsAtBackend config) (table_at world (master_of config))

-- so it is whatever else changes than the nodes
places_alike : (config : Config) (world next : World) → next.nodes ≡ world.nodes → PlacesHold config world → PlacesHold config next
places_alike config world next nodes holds = record {
  homes = λ name home at. holds.homes name home (ap (λ n. as_back (value_at (slice_cmp nat_cmp) n name)) (sym nodes) ∙ at);
  table = subst (ArePlaced (IsAtBackend config)) (ap (λ n. table_by (as_master (value_at (slice_cmp nat_cmp) n (master_of config)))) (sym nodes)) holds.table;
}

-- ---- what comes to a node

abbrev AtHome : Config → MailboxTable → Type 0
AtHome config table = ArePlaced (IsAtBackend config) table

module _ (config : Config) (world : World) (holds : PlacesHold config world) (node : List ℕ) (input : NodeInput)
    (me_stays : (home : BackNode) → home_at world node ≡ Some home → (home_does home input).state.flows.me ≡ home.flows.me)
    (placed : (master : Master) → master_at world node ≡ Some master → AtHome config (master_does master input).master.table) where
  abbrev Holds : World → Type 0
  Holds next = PlacesHold config next

  -- what no step of a backend or of the master changes
  still : (next : World) → ((any : List ℕ) → home_at next any ≡ home_at world any) → ((any : List ℕ) → master_at next any ≡ master_at world any) → Holds next
  still next homes masters = record {
    homes = λ any home at. holds.homes any home (sym (homes any) ∙ at);
    table = subst (AtHome config) (sym (ap table_by (masters (master_of config)))) holds.table;
  }

  home_step : (home : BackNode) → home_at world node ≡ Some home → Holds (with_home (wrote world node (state.Back home) input) node (home_does home input))
  home_step home there =
      let next = home_does home input in
      let put : World = wrote world node (state.Back home) input in
      let moved = home_moved put node home next there in
      let own : IsAtBackend config next.state.flows.me = subst (IsAtBackend config) (sym (me_stays home there)) (holds.homes node home there) in
      record {
        homes = λ any it at. ⊎_elim
            (λ (e : any ≡ node).
            (let both : Some next.state ≡ Some it = sym moved.own ∙ ap (home_at (with_home put node next)) (sym e) ∙ at in
            let same : next.state ≡ it = cc in
            subst (λ (h : BackNode). IsAtBackend config h.flows.me) same own))
            (λ (ne : any ≢ node). holds.homes any it (sym (moved.homes any ne) ∙ at))
            (same_or_other (slice_cmp nat_cmp) names_apart any node);
        table = subst (AtHome config) (sym (ap table_by (moved.masters (master_of config)))) holds.table;
      }

  master_step : (master : Master) → master_at world node ≡ Some master
      → Holds (with_master (wrote world node (state.Master master) input) node (master_does master input))
  master_step master there =
      let next = master_does master input in
      let put : World = wrote world node (state.Master master) input in
      let moved = master_moved put node master next there in
      record {
        homes = λ any home at. holds.homes any home (sym (moved.homes any) ∙ at);
        table = ⊎_elim
            (λ (e : master_of config ≡ node).
            subst (AtHome config) (sym (ap (table_at (with_master put node next)) e ∙ ap table_by moved.own)) (placed master there))
            (λ (ne : master_of config ≢ node). subst (AtHome config) (sym (ap table_by (moved.masters (master_of config) ne))) holds.table)
            (same_or_other (slice_cmp nat_cmp) names_apart (master_of config) node);
      }

  -- where nothing is lost
  by_node : (found : Option NodeState) → node_at world node ≡ found → Holds (all_come world node input)
  by_node None found = subst Holds (sym (none_all_come world node input found)) holds
  by_node (Some (state.Front front)) found =
      let there : front_at world node ≡ Some front = ap as_front found ∙ a_front front in
      let moved = front_moved world node front (front_does front input) there in
      subst Holds (sym (front_all_come world node input front there)) (still (with_front world node (front_does front input)) moved.homes moved.masters)
  by_node (Some (state.Back home)) found =
      let there : home_at world node ≡ Some home = ap as_back found ∙ a_back home in
      subst Holds (sym (home_all_come world node input home there)) (home_step home there)
  by_node (Some (state.Master master)) found =
      let there : master_at world node ≡ Some master = ap as_master found ∙ a_master master in
      subst Holds (sym (master_all_come world node input master there)) (master_step master there)

  comes_hold : Holds (comes world node input)
  comes_hold = places_alike config (all_come world node input) (comes world node input) (comes_thinned world node input).nodes (by_node (node_at world node) refl)

-- ---- an event

client_leaves : (home : BackNode) (input : NodeInput) → IsOfClient input → (home_does home input).state.flows.me ≡ home.flows.me
client_leaves home (Opened conn) is = refl
client_leaves home (Piece conn bytes) is = refl
client_leaves home (Hung conn) is = refl
client_leaves home (From name message) is = absurd is

module _ (config : Config) (came : ℕ → Heard) (world : World) (law : KeepsLaw config came world) (holds : PlacesHold config world) where
  its_table : AtHome config law.master.table
  its_table = subst (AtHome config) (ap table_by law.nodes.is_there) holds.table

  the_master : (node : List ℕ) (master : Master) → master_at world node ≡ Some master → law.master ≡ master
  the_master node master at =
      (let both : Some law.master ≡ Some master = sym law.nodes.is_there ∙ ap (master_at world) (sym (law.nodes.only node master at)) ∙ at in cc)

  -- the clients are none of this
  client_does_so : (clients : List (ℕ × Client)) (node : List ℕ) (input : NodeInput) → IsOfClient input
      → PlacesHold config (comes (record world { clients = clients; steps = world.steps + 1 }) node input)
  client_does_so clients node input is =
      comes_hold config (record world { clients = clients; steps = world.steps + 1 }) (record { homes = holds.homes; table = holds.table }) node input
      (λ home there. client_leaves home input is)
      (λ master there. subst (λ (m : Master). AtHome config (master_does m input).master.table) (the_master node master there)
      (subst (AtHome config) (sym (outside_same law.master input is).1) its_table))

  module _ (from to : List ℕ) (message : LinkMsg) (rest : List LinkMsg) (first : on_link world.links from to ≡ message ∷ rest) where
    me_stays : (home : BackNode) → home_at world to ≡ Some home → (node_takes home from message).state.flows.me ≡ home.flows.me
    me_stays home there = by (same_or_other (slice_cmp nat_cmp) names_apart from law.master.me)
      where
        talk : HasTalk law.master to home (on_link world.links to law.master.me) (on_link world.links law.master.me to) law.given
        talk = (law.many.each to home there).talk

        by : (from ≡ law.master.me) ⊎ (from ≢ law.master.me) → (node_takes home from message).state.flows.me ≡ home.flows.me
        by (inl e) =
            subst (λ f. (node_takes home f message).state.flows.me ≡ home.flows.me) (sym e)
            (stays_with_master law.master to home (on_link world.links to law.master.me) rest law.given message
            (subst (λ down. HasTalk law.master to home (on_link world.links to law.master.me) down law.given)
            (ap (λ f. on_link world.links f to) (sym e) ∙ first) talk))
        by (inr ne) =
            stays_with_others law.master to home (on_link world.links to law.master.me) (on_link world.links law.master.me to) law.given from message talk ne

    by_sender : to ≡ master_of config → (found : Option BackNode) → home_at world from ≡ found → AtHome config (node_says law.master from message).master.table
    by_sender e (Some home) there =
        master_takes_placed config world law.master law.nodes law.feeds law.given law.story.course.store law.many from home there message rest
        (ap (on_link world.links from) (sym e) ∙ first) (IsAtBackend config) (holds.homes from home there) its_table
    by_sender e None none =
        subst (AtHome config) (sym (front_table law.master from message (sym (law.nodes.homes from) ∙ ap is_some none))) its_table

    delivered : PlacesHold config (comes (taken_from_link (stepped world) from to) to (From from message))
    delivered =
        comes_hold config (taken_from_link (stepped world) from to) (record { homes = holds.homes; table = holds.table }) to (From from message)
        me_stays
        (λ master there. subst (λ (m : Master). AtHome config (node_says m from message).master.table) (the_master to master there)
        (by_sender (law.nodes.only to master there) (home_at world from) refl))

  deliver_holds : (from to : List ℕ) (queue : List LinkMsg) → on_link world.links from to ≡ queue
      → PlacesHold config (deliver_first (stepped world) from to queue)
  unfolding deliver_first
  deliver_holds from to [] first = record { homes = holds.homes; table = holds.table }
  deliver_holds from to (message ∷ rest) first = delivered from to message rest first

  open_holds : (node : List ℕ) (conn : ℕ) (found : Option Client) → PlacesHold config (opens (stepped world) node conn found)
  unfolding opens
  open_holds node conn (Some client) = record { homes = holds.homes; table = holds.table }
  open_holds node conn None = client_does_so (with_client world node conn).clients node (Opened conn) tt

  client_holds : (input : NodeInput) (found : Option Client) → IsOfClient input → PlacesHold config (client_does (stepped world) input found)
  unfolding client_does
  client_holds input None is = record { homes = holds.homes; table = holds.table }
  client_holds input (Some client) is = client_does_so world.clients client.at input is

  step_holds : (event : Event) → PlacesHold config (steps_by world event)
  unfolding takes
  step_holds (Open node conn) = open_holds node conn (client_at world conn)
  step_holds (Data conn bytes) = client_holds (Piece conn bytes) (client_at world conn) tt
  step_holds (Hang conn) = client_holds (Hung conn) (client_at world conn) tt
  step_holds (Deliver from to) = deliver_holds from to (on_link world.links from to) refl
  step_holds (Cut one other kept kept_back) =
      places_alike config world (steps_by world (Cut one other kept kept_back))
      (cut_relinks (may_cut (stepped world) one other) (stepped world) one other kept kept_back).nodes holds
  step_holds (Join one other) =
      places_alike config world (steps_by world (Join one other)) (join_relinks (may_join (stepped world) one other) (stepped world) one other).nodes holds
  step_holds event = record { homes = holds.homes; table = holds.table }

-- ---- a run

abbrev HoldBehind : Config → List Event → Type 0
HoldBehind config steps = PlacesHold config (run_steps (start config) steps)

start_hold : (config : Config) → AreNodes config.nodes → HoldBehind config []
unfolding run_steps
start_hold config are = record { homes = home_place config are; table = subst (AtHome config) (sym (start_table config are)) tt }

hold_next : (config : Config) (before : List Event) (event : Event) → LawBehind config before → HoldBehind config before
    → HoldBehind config (before ++ event ∷ [])
hold_next config before event law holds =
    subst (PlacesHold config) (sym (one_more_step (start config) before event))
    (step_holds config (λ conn. heard config conn before) (run_steps (start config) before) law holds event)

-- ---- what follows for each record

stand : (config : Config) (records : Records) → AllByRecursion IsSpelledRecord records
    → AllByRecursion (λ (entry : List ℕ × Record). IsAtBackend config (entry.1).place) records → All (StandsAtBackend config) records
stand config [] spelled placed = All-nil (StandsAtBackend config)
stand config (entry ∷ records) spelled placed =
    All-cons (StandsAtBackend config) entry records (record { named = only_name spelled.0.name.0 entry.0 spelled.0.name.1; place = placed.0 })
    (stand config records spelled.1 placed.1)

records_stand : (config : Config) (came : ℕ → Heard) (world : World) → KeepsLaw config came world → PlacesHold config world → RecordsStand config world
records_stand config came world law holds =
    subst (λ (table : MailboxTable). All (StandsAtBackend config) table.records) (sym (ap table_by law.nodes.is_there))
    (stand config law.master.table.records law.feeds.spelled.spelled (its_table config came world law holds))

-- so it is where each step keeps the law
abbrev pub RecordsStandWhereKept : Config → List Event → Type 0
RecordsStandWhereKept config events = AreNodes config.nodes → EachKeeps config (steps_of_run config events) → RecordsStandAtBackends config events

pub records_stand_each : (config : Config) (events : List Event) → RecordsStandWhereKept config events
records_stand_each config events are each before later parts =
    records_stand config (λ conn. heard config conn before) (run_steps (start config) before)
    ((kept_all config (steps_of_run config events) each).at before later parts).law
    (kept_behind config (steps_of_run config events) (HoldBehind config) each (start_hold config are) (hold_next config) before later parts)
