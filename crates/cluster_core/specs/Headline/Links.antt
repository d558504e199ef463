-- Which links are broken, and what a frontend makes of it: it has a link as up until it takes the link's End, and a command waits for a server's answer only
-- while its frontend has the link to the server as up.
use Rattle.std.specs.Prelude.{◌≡◌, ℕ, Bool, true, false, List, [], ◌∷◌, ◌++◌, Some}
use Rattle.front_core.specs.declared.front.Front.{Front}
use Rattle.front_core.specs.Ups.{is_up}
use Rattle.link_msg.specs.declared.message.LinkMsg.{LinkMsg}
use Rattle.link_msg.specs.declared.message.LinkMsg.TheVariants.{End}
use Rattle.link_queue.specs.Broken.{is_broken}
use Rattle.link_queue.specs.Links.{on_link}
use Rattle.mur_base.specs.declared.point.AskId.{AskId}
use Rattle.mur_config.specs.declared.config.Config.{Config}
use Rattle.schedule_text.specs.declared.event.Event.{Event}
use Rattle.cluster_core.specs.declared.world.World.{World}
use Rattle.cluster_core.specs.Flow.{run_steps, steps_of_run}
use Rattle.cluster_core.specs.Headline.AsksOnce.{Awaits}
use Rattle.cluster_core.specs.Headline.Backends.{IsBackend}
use Rattle.cluster_core.specs.World.{front_at, master_of, start}

-- of a broken link, by whether the node to which it leads has it as up: its End is on its way, behind all else; or it was taken, and nothing is on its way
pub data IsNoticed (queue : List LinkMsg) (up : Bool) : Type 0 where
  is_coming : (messages : List LinkMsg) → queue ≡ messages ++ End ∷ [] → IsNoticed queue up
  was_taken : queue ≡ [] → up ≡ false → IsNoticed queue up

pub record LinksHold (config : Config) (world : World) : Type 0 where
  -- no link of the master with a backend is broken
  pub from_master : (node : List ℕ) → IsBackend config node → is_broken world.broken (master_of config) node ≡ false
  pub to_master : (node : List ℕ) → IsBackend config node → is_broken world.broken node (master_of config) ≡ false
  -- one that is broken is so in both directions
  pub both : (one other : List ℕ) → is_broken world.broken one other ≡ is_broken world.broken other one
  -- each frontend notices it
  pub noticed : (node server : List ℕ) (front : Front) → front_at world node ≡ Some front → is_broken world.broken server node ≡ true
      → IsNoticed (on_link world.links server node) (is_up front.ups server)
  -- and no command waits for the answer of a server whose link it has as down
  pub waits_up : (node server : List ℕ) (front : Front) (id : AskId) → front_at world node ≡ Some front → Awaits (front_at world node) id server
      → is_up front.ups server ≡ true

-- after each single step of a run
abbrev pub LinksHoldEach : Config → List Event → Type 0
LinksHoldEach config events = (before later : List Event) → steps_of_run config events ≡ before ++ later → LinksHold config (run_steps (start config) before)
