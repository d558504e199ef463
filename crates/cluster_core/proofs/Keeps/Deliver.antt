-- A MESSAGE IS DELIVERED, whoever takes it, but to the master over a link that is broken: the law is kept, where the world holds what stands beside the law.
use Rattle.std.proofs.Common.{◌≡◌, ◌≢◌, ℕ, false, List, [], ◌∷◌, Option, None, Some, refl, sym, ◌∙◌, ap, subst}
use Rattle.cluster_core.specs.Headline.Outside.{table_by, table_at}
use Rattle.cluster_core.specs.World.{front_at, master_of, home_at, master_at, node_at, taken_from_link}
use Rattle.front_core.specs.declared.front.Front.{Front}
use Rattle.imap_talk.specs.Heard.{Heard}
use Rattle.link_msg.specs.declared.message.LinkMsg.{LinkMsg}
use Rattle.link_msg.specs.declared.message.LinkMsg.TheVariants.{End}
use Rattle.link_queue.specs.Broken.{is_broken}
use Rattle.link_queue.specs.Links.{on_link}
use Rattle.master_core.specs.declared.master.Master.{Master}
use Rattle.master_core.specs.Linked.{node_says}
use Rattle.mur_config.specs.declared.config.Config.{Config}
use Rattle.node_step.specs.declared.input.NodeInput.TheVariants.{From}
use Rattle.node_step.specs.declared.node.NodeState.{NodeState}
use Rattle.node_step.specs.declared.node.NodeState.TheVariants as state
use Rattle.node_step.specs.NodeStep.{as_back, as_front, as_master}
use Rattle.cluster_core.specs.declared.world.World.{World}
use Rattle.node_step.proofs.NodeKinds.{a_back, a_front}
use Rattle.cluster_core.proofs.Answers.Ends.{OwnsClients}
use Rattle.cluster_core.proofs.Answers.FrontTakes.{MessageNamesBackend}
use Rattle.cluster_core.proofs.Commands.Moving.{MovesBy}
use Rattle.cluster_core.proofs.Connections.KeepsLaw.{KeepsLaw, KeepsOn}
use Rattle.cluster_core.proofs.Links.Stand.{LinksStand}
use Rattle.cluster_core.proofs.Nodes.AllCome.{all_come, master_all_come}
use Rattle.cluster_core.proofs.Nodes.Comes.{master_moved, a_master, wrote}
use Rattle.cluster_core.proofs.Points.Outside.{WatchersAreIts}
use Rattle.cluster_core.proofs.Keeps.ToFront.{to_front_keeps}
use Rattle.cluster_core.proofs.Keeps.ToHome.{to_home_keeps}
use Rattle.cluster_core.proofs.Keeps.ToMaster.{IsOne, to_master_keeps}
use Rattle.cluster_core.proofs.Keeps.ToNobody.{to_nobody_keeps}
use Rattle.cluster_core.specs.Numbers.{NumbersFit}

-- WHAT STANDS BESIDE THE LAW
pub record StandsBeside (config : Config) (world : World) : Type 0 where
  -- whom the master tells of changes are clients connected to it
  pub watchers : (master : Master) → master_at world (master_of config) ≡ Some master → WatchersAreIts config world master
  -- how its links stand, and whom the connections of a frontend are
  pub links : LinksStand config world
  pub owns : (node : List ℕ) (front : Front) → front_at world node ≡ Some front → OwnsClients world node front
  -- a server that an answer names is a backend
  pub names : (from to : List ℕ) (front : Front) → front_at world to ≡ Some front → (message : LinkMsg) (rest : List LinkMsg)
      → on_link world.links from to ≡ message ∷ rest → MessageNamesBackend (home_at world) from message
  -- no link ends before one was cut
  pub ends : (from to : List ℕ) (rest : List LinkMsg) → on_link world.links from to ≡ End ∷ rest → world.broken ≢ []
  -- the master is sent messages by frontends and backends alone
  pub senders : (from : List ℕ) (message : LinkMsg) (rest : List LinkMsg) → on_link world.links from (master_of config) ≡ message ∷ rest → IsOne world from

module _ (config : Config) (heard : ℕ → Heard) (world : World) (law : KeepsLaw config heard world) (beside : StandsBeside config world)
    (fits : NumbersFit heard) (from to : List ℕ) (message : LinkMsg) (rest : List LinkMsg) (first : on_link world.links from to ≡ message ∷ rest)
    (whole : to ≡ master_of config → is_broken world.broken (master_of config) from ≡ false)
    (moves : MovesBy law.story.talk.moving world.steps (table_at (all_come (taken_from_link world from to) to (From from message)) (master_of config))) where
  abbrev Keeps : List ℕ → Type 0
  Keeps node = KeepsOn config law.story law.stops heard (all_come (taken_from_link world from node) node (From from message))

  -- the master's table behind the step
  master_table : master_at world to ≡ Some law.master
      → table_at (all_come (taken_from_link world from to) to (From from message)) to ≡ (node_says law.master from message).master.table
  master_table at =
      let put : World = wrote (taken_from_link world from to) to (state.Master law.master) (From from message) in
      ap (λ (w : World). table_at w to) (master_all_come (taken_from_link world from to) to (From from message) law.master at)
      ∙ ap table_by (master_moved put to law.master (node_says law.master from message) at).own

  keeps_by : (found : Option NodeState) → node_at world to ≡ found → Keeps to
  keeps_by None there = to_nobody_keeps config heard world law from to message rest there first
  keeps_by (Some (state.Front front)) there =
      let at : front_at world to ≡ Some front = ap as_front there ∙ a_front front in
      to_front_keeps config heard world law from to front message rest at first beside.links (beside.owns to front at)
      (λ ended. beside.ends from to rest (first ∙ ap (λ m. m ∷ rest) ended)) (beside.names from to front at message rest first) fits
  keeps_by (Some (state.Back home)) there = to_home_keeps config heard world law from to home message rest (ap as_back there ∙ a_back home) first fits
  keeps_by (Some (state.Master master)) there =
      let its : to ≡ master_of config = law.nodes.only to master (ap as_master there ∙ a_master master) in
      let comes_first : on_link world.links from (master_of config) ≡ message ∷ rest = ap (on_link world.links from) (sym its) ∙ first in
      subst Keeps (sym its)
      (to_master_keeps config heard world law from message rest comes_first fits (beside.watchers law.master law.nodes.is_there)
      (subst (MovesBy law.story.talk.moving world.steps)
      (ap (table_at (all_come (taken_from_link world from to) to (From from message))) (sym its)
      ∙ master_table (ap (master_at world) its ∙ law.nodes.is_there)) moves)
      (beside.senders from message rest comes_first) (whole its))

pub delivered_keeps : (config : Config) (heard : ℕ → Heard) (world : World) (law : KeepsLaw config heard world) → StandsBeside config world
    → NumbersFit heard → (from to : List ℕ) (message : LinkMsg) (rest : List LinkMsg) → on_link world.links from to ≡ message ∷ rest
    → (to ≡ master_of config → is_broken world.broken (master_of config) from ≡ false)
    → MovesBy law.story.talk.moving world.steps (table_at (all_come (taken_from_link world from to) to (From from message)) (master_of config))
    → KeepsOn config law.story law.stops heard (all_come (taken_from_link world from to) to (From from message))
delivered_keeps config heard world law beside fits from to message rest first whole moves =
    keeps_by config heard world law beside fits from to message rest first whole moves (node_at world to) refl
