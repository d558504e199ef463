-- WHAT COMES TO THE MASTER KEEPS THE LAW, where it comes from a frontend or a backend, and whom the master tells of changes is connected to it.
use Rattle.std.proofs.Common.{◌≡◌, inl, inr, ℕ, true, false, List, ◌∷◌, Some, refl, sym, ◌∙◌, ap, subst}
use Rattle.cluster_core.specs.World.{comes, front_at, master_of, taken_from_link}
use Rattle.front_core.specs.declared.front.Front.{Front}
use Rattle.imap_talk.specs.Heard.{Heard}
use Rattle.imap_types.specs.declared.request.Answer.{Answer}
use Rattle.imap_types.specs.declared.request.Request.{Request}
use Rattle.link_msg.specs.declared.message.LinkMsg.{LinkMsg}
use Rattle.link_queue.specs.Broken.{is_broken}
use Rattle.link_queue.specs.Links.{on_link}
use Rattle.master_core.specs.Linked.{node_says}
use Rattle.master_core.specs.Outside.{Stepped}
use Rattle.mur_config.specs.declared.config.Config.{Config}
use Rattle.node_step.specs.declared.input.NodeInput.TheVariants.{From}
use Rattle.node_step.specs.declared.node.NodeState.TheVariants as state
use Rattle.cluster_core.specs.declared.world.World.{World}
use Rattle.cluster_core.proofs.Commands.Moving.{MovesBy}
use Rattle.cluster_core.proofs.Connections.KeepsLaw.{FeedsHold, KeepsLaw, KeepsOn}
use Rattle.cluster_core.proofs.Connections.KeepsStill.{disks_law}
use Rattle.cluster_core.proofs.Feeds.AtMaster.{master_takes_feeds}
use Rattle.cluster_core.proofs.Feeds.FrontAsks.{master_asked_feeds}
use Rattle.cluster_core.proofs.Nodes.AllCome.{all_come, master_all_come}
use Rattle.cluster_core.proofs.Nodes.Comes.{with_master, wrote}
use Rattle.cluster_core.proofs.Nodes.Stay.{master_keeps_nodes, same_nodes}
use Rattle.cluster_core.proofs.Points.LateNoop.{late_step_keeps}
pub use Rattle.cluster_core.proofs.Points.MasterStep.{IsOne}
use Rattle.cluster_core.proofs.Points.MasterStep.{MasterKeeps, master_step_keeps}
use Rattle.cluster_core.proofs.Points.Outside.{WatchersAreIts, master_gives_its_own}
use Rattle.cluster_core.proofs.Keeps.Numbers.{asked_fit}
use Rattle.cluster_core.specs.Numbers.{NumbersFit}

-- in a world in which the entry of the step is written
module _ (config : Config) (heard : ℕ → Heard) (world : World) (law : KeepsLaw config heard world) (from : List ℕ) (message : LinkMsg)
    (rest : List LinkMsg) (first : on_link world.links from (master_of config) ≡ message ∷ rest) (whole : is_broken world.broken (master_of config) from ≡ false)
    (fits : NumbersFit heard)
    (watchers : WatchersAreIts config world law.master)
    (moves : MovesBy law.story.talk.moving world.steps (node_says law.master from message).master.table) where
  abbrev name : List ℕ
  name = master_of config

  abbrev took : World
  took = taken_from_link world from name

  abbrev says : Stepped
  says = node_says law.master from message

  abbrev next : World
  next = with_master took name says

  step : IsOne world from → MasterKeeps config heard world law next says
  step is = master_step_keeps config heard world law from message rest (asked_fit config heard world law fits) moves first whole is
      (λ conn. master_gives_its_own config world law.master from message watchers conn)

  feeds_by : IsOne world from → FeedsHold config next says.master
  feeds_by (inl front) = master_asked_feeds config world law.master law.nodes law.feeds from front.0 front.1 message rest first whole
  feeds_by (inr home) =
      master_takes_feeds config world law.master law.nodes law.feeds law.given law.story.course.store law.many from home.0 home.1 message rest first

  keeps : IsOne world from → KeepsOn config law.story law.stops heard next
  keeps is = let made : MasterKeeps config heard world law next says = step is in record {
    law = record {
      master = says.master;
      nodes = master_keeps_nodes config took law.master (From from message) (same_nodes config world took law.master refl law.nodes);
      story = made.later;
      stops = law.stops;
      given = made.given;
      many = made.many;
      feeds = feeds_by is;
      is_told = made.is_told;
      requests = λ conn. ap (λ (r : ℕ → List Request). r conn) made.requests ∙ law.requests conn;
      connections = made.connections;
    };
    more = made.more;
    grows = made.grows;
    closed = λ conn shut. (ap (λ (t : ℕ → List Answer). t conn) made.told, refl);
  }

-- A MESSAGE IS DELIVERED TO THE MASTER over a link that is whole
abbrev pub ToMasterKeeps : Type 0
ToMasterKeeps = (config : Config) (heard : ℕ → Heard) (world : World) (law : KeepsLaw config heard world) (from : List ℕ) (message : LinkMsg)
    (rest : List LinkMsg) → on_link world.links from (master_of config) ≡ message ∷ rest → NumbersFit heard → WatchersAreIts config world law.master
    → MovesBy law.story.talk.moving world.steps (node_says law.master from message).master.table → IsOne world from
    → is_broken world.broken (master_of config) from ≡ false
    → KeepsOn config law.story law.stops heard (all_come (taken_from_link world from (master_of config)) (master_of config) (From from message))

pub to_master_keeps : ToMasterKeeps
to_master_keeps config heard world law from message rest first fits watchers moves is whole =
    let name : List ℕ = master_of config in
    let put : World = wrote world name (state.Master law.master) (From from message) in
    subst (λ w. KeepsOn config law.story law.stops heard w)
    (sym (master_all_come (taken_from_link world from name) name (From from message) law.master law.nodes.is_there))
    (keeps config heard put (disks_law config heard world put.disks law) from message rest first whole fits watchers moves is)

-- AND ONE OF A FRONTEND OVER A LINK THAT IS BROKEN, in the world in which what the master sends it is lost
abbrev pub LateKeepsOn : Type 0
LateKeepsOn = (config : Config) (heard : ℕ → Heard) (world : World) (law : KeepsLaw config heard world) → NumbersFit heard
    → (from : List ℕ) (front : Front) (message : LinkMsg) (rest : List LinkMsg) → front_at world from ≡ Some front
    → is_broken world.broken (master_of config) from ≡ true → on_link world.links from (master_of config) ≡ message ∷ rest
    → KeepsOn config law.story law.stops heard (comes (taken_from_link world from (master_of config)) (master_of config) (From from message))

pub late_keeps : LateKeepsOn
late_keeps config heard world law fits from front message rest at cut first =
    late_step_keeps config heard world law (asked_fit config heard world law fits) from front message rest at cut first
