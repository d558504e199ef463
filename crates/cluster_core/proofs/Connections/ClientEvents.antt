-- WHAT CLIENTS DO KEEPS THE LAW: a connection is opened, bytes come, and it is closed, each as a step of the world.
use Rattle.std.proofs.Common.{◌≡◌, ℕ, List, refl, sym, subst}
use Rattle.cluster_core.specs.Heard.{hears}
use Rattle.imap_talk.specs.Heard.{Heard}
use Rattle.mark_history.specs.Marked.{Tale}
use Rattle.mur_config.specs.declared.config.Config.{Config}
use Rattle.schedule_text.specs.declared.event.Event.{Event}
use Rattle.schedule_text.specs.declared.event.Event.TheVariants.{Open, Data, Hang}
use Rattle.cluster_core.specs.declared.world.World.{World}
use Rattle.cluster_core.specs.World.{client_at, stepped}
use Rattle.cluster_core.proofs.Connections.AtMaster.{master_serves}
use Rattle.cluster_core.proofs.Connections.KeepsData.{data_keeps}
use Rattle.cluster_core.proofs.Connections.KeepsHang.{hang_keeps}
use Rattle.cluster_core.proofs.Connections.KeepsLaw.{KeepsLaw, KeepsOn}
use Rattle.cluster_core.proofs.Connections.KeepsOpen.{open_keeps}
use Rattle.cluster_core.proofs.Connections.KeepsStill.{same_kept, stepped_law}
use Rattle.imap_talk.specs.Transcript.{Stop}
use Rattle.cluster_core.proofs.Links.Stand.{LinksStand}
use Rattle.cluster_core.proofs.Nodes.AllCome.{all_takes}
use Rattle.cluster_core.specs.Numbers.{NumbersFit}

-- what is heard of each client behind an event
abbrev pub heard_then : Config → (ℕ → Heard) → Event → ℕ → Heard
heard_then config heard event conn = hears config conn (heard conn) event

-- a step of this event keeps the law, in the world in which nothing is lost that nodes let out
abbrev pub Keeps : (config : Config) (heard : ℕ → Heard) (world : World) → KeepsLaw config heard world → Event → Type 0
Keeps config heard world law event = KeepsOn config law.story law.stops (heard_then config heard event) (all_takes (stepped world) event)

-- told of the world in which the step has begun
pub begins : (config : Config) (heard : ℕ → Heard) (world : World) (law : KeepsLaw config heard world) (event : Event)
    → ((then : KeepsLaw config heard (stepped world)) → then.story ≡ law.story
    → KeepsOn config then.story then.stops (heard_then config heard event) (all_takes (stepped world) event))
    → Keeps config heard world law event
begins config heard world law event keeps =
    let step = stepped_law config heard world law in
    subst (λ (story : Tale). KeepsOn config story law.stops (heard_then config heard event) (all_takes (stepped world) event)) step.same
    (subst (λ (stops : ℕ → Stop). KeepsOn config step.then.story stops (heard_then config heard event) (all_takes (stepped world) event)) step.same_stops
    (keeps step.then step.same))

-- a link stands as it did, once the step has begun
stands_begun : (config : Config) (world : World) → LinksStand config world → LinksStand config (stepped world)
stands_begun config world links = record {
  from_master = links.from_master;
  to_master = links.to_master;
  both = links.both;
  master_up = links.master_up;
  down = links.down;
  master_down = links.master_down;
  waits_up = links.waits_up;
  all_up = links.all_up;
}

pub opens_keeps : (config : Config) (heard : ℕ → Heard) (world : World) (law : KeepsLaw config heard world) (node : List ℕ) (conn : ℕ)
    → Keeps config heard world law (Open node conn)
unfolding all_takes
opens_keeps config heard world law node conn =
    begins config heard world law (Open node conn)
    (λ then same. open_keeps config heard (stepped world) node conn (client_at (stepped world) conn) refl then (master_serves config))

pub bytes_keep : (config : Config) (heard : ℕ → Heard) (world : World) (law : KeepsLaw config heard world) (conn : ℕ) (bytes : List ℕ)
    → LinksStand config world → NumbersFit (heard_then config heard (Data conn bytes)) → Keeps config heard world law (Data conn bytes)
unfolding all_takes
bytes_keep config heard world law conn bytes links fits =
    begins config heard world law (Data conn bytes) (λ then same.
    data_keeps config heard (stepped world) conn bytes then (stands_begun config world links) fits (master_serves config))

pub hangs_keep : (config : Config) (heard : ℕ → Heard) (world : World) (law : KeepsLaw config heard world) (conn : ℕ)
    → Keeps config heard world law (Hang conn)
unfolding all_takes
hangs_keep config heard world law conn =
    begins config heard world law (Hang conn) (λ then same. hang_keeps config heard (stepped world) conn then (master_serves config))

-- an event that changes nothing, and of which nothing is heard
pub idle_keeps : (config : Config) (heard : ℕ → Heard) (world : World) (law : KeepsLaw config heard world) (event : Event) → all_takes (stepped world) event ≡ stepped world
    → ((conn : ℕ) → heard_then config heard event conn ≡ heard conn) → Keeps config heard world law event
idle_keeps config heard world law event still same =
    begins config heard world law event
    (λ then same_story. subst (λ w. KeepsOn config then.story then.stops (heard_then config heard event) w) (sym still)
    (same_kept config heard (heard_then config heard event) (stepped world) same then))
