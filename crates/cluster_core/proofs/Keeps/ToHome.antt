-- WHAT COMES TO A BACKEND KEEPS THE LAW.
use Rattle.std.proofs.Common.{◌≡◌, ℕ, List, ◌∷◌, Some, refl, sym, ◌∙◌, ap, subst}
use Rattle.back_node.specs.declared.node.BackNode.{BackNode}
use Rattle.back_node.specs.Acted.{BackActed}
use Rattle.back_node.specs.Takes.{node_takes}
use Rattle.imap_talk.specs.Heard.{Heard}
use Rattle.imap_types.specs.declared.request.Answer.{Answer}
use Rattle.imap_types.specs.declared.request.Request.{Request}
use Rattle.link_msg.specs.declared.message.LinkMsg.{LinkMsg}
use Rattle.link_queue.specs.Links.{on_link}
use Rattle.mur_config.specs.declared.config.Config.{Config}
use Rattle.node_step.specs.declared.input.NodeInput.TheVariants.{From}
use Rattle.node_step.specs.declared.node.NodeState.TheVariants as state
use Rattle.cluster_core.specs.declared.world.World.{World}
use Rattle.cluster_core.specs.World.{home_at, taken_from_link}
use Rattle.cluster_core.proofs.Connections.KeepsLaw.{KeepsLaw, KeepsOn}
use Rattle.cluster_core.proofs.Connections.KeepsStill.{disks_law}
use Rattle.cluster_core.proofs.Feeds.Beside.{home_keeps_feeds}
use Rattle.cluster_core.proofs.Nodes.AllCome.{all_come, home_all_come}
use Rattle.cluster_core.proofs.Nodes.Comes.{with_home, wrote}
use Rattle.cluster_core.proofs.Nodes.Stay.{home_keeps_nodes, same_nodes}
use Rattle.cluster_core.proofs.Points.HomeStep.{StepKeeps, home_step_keeps}
use Rattle.cluster_core.proofs.Keeps.Numbers.{asked_fit}
use Rattle.cluster_core.specs.Numbers.{NumbersFit}

-- in a world in which the entry of the step is written
module _ (config : Config) (heard : ℕ → Heard) (world : World) (law : KeepsLaw config heard world) (from to : List ℕ) (node : BackNode)
    (message : LinkMsg) (rest : List LinkMsg) (there : home_at world to ≡ Some node) (first : on_link world.links from to ≡ message ∷ rest)
    (fits : NumbersFit heard) where
  abbrev took : World
  took = taken_from_link world from to

  abbrev acted : BackActed
  acted = node_takes node from message

  abbrev next : World
  next = with_home took to acted

  step : StepKeeps config heard world law next
  step = home_step_keeps config heard world law from to node message rest (asked_fit config heard world law fits) there first

  keeps : KeepsOn config law.story law.stops heard next
  keeps = record {
    law = record {
      master = law.master;
      nodes = home_keeps_nodes config took law.master to node acted (same_nodes config world took law.master refl law.nodes) there;
      story = step.later;
      stops = law.stops;
      given = law.given;
      many = step.many;
      feeds = home_keeps_feeds config world law.master law.nodes law.feeds from to node acted there;
      is_told = step.is_told;
      requests = λ conn. ap (λ (r : ℕ → List Request). r conn) step.requests ∙ law.requests conn;
      connections = step.connections;
    };
    more = step.more;
    grows = step.grows;
    closed = λ conn shut. (ap (λ (t : ℕ → List Answer). t conn) step.told, refl);
  }

-- A MESSAGE IS DELIVERED TO A BACKEND
abbrev pub ToHomeKeeps : Type 0
ToHomeKeeps = (config : Config) (heard : ℕ → Heard) (world : World) (law : KeepsLaw config heard world) (from to : List ℕ) (node : BackNode)
    (message : LinkMsg) (rest : List LinkMsg) → home_at world to ≡ Some node → on_link world.links from to ≡ message ∷ rest → NumbersFit heard
    → KeepsOn config law.story law.stops heard (all_come (taken_from_link world from to) to (From from message))

pub to_home_keeps : ToHomeKeeps
to_home_keeps config heard world law from to node message rest there first fits =
    let put : World = wrote world to (state.Back node) (From from message) in
    subst (λ w. KeepsOn config law.story law.stops heard w) (sym (home_all_come (taken_from_link world from to) to (From from message) node there))
    (keeps config heard put (disks_law config heard world put.disks law) from to node message rest there first fits)
