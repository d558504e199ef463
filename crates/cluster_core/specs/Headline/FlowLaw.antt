-- What the steps of each event are: a flow delivers as many messages as it may, and fewer only if none is on its way any more; a heal joins each link that
-- may come up.
use Rattle.std.specs.Prelude.{◌≡◌, ℕ, ◌≤◌, ◌<◌, true, false, List, [], ◌∷◌, ◌++◌, length, Contains}
use Rattle.link_msg.specs.declared.message.LinkMsg.{LinkMsg}
use Rattle.mur_config.specs.declared.config.Config.{Config}
use Rattle.mur_config.specs.declared.node.Link.{Link}
use Rattle.mur_config.specs.Nodes.{AreNodes, links_of}
use Rattle.schedule_text.specs.declared.event.Event.{Event}
use Rattle.schedule_text.specs.declared.event.Event.TheVariants.{Deliver, Join, Flow, Heal}
use Rattle.cluster_core.specs.declared.layout.Layout.{Layout}
use Rattle.cluster_core.specs.declared.world.World.{World}
use Rattle.cluster_core.specs.Flow.{run_steps, steps_of_event}
use Rattle.cluster_core.specs.Numbers.{NumbersFitAll}
use Rattle.link_queue.specs.Links.{on_link}
use Rattle.cluster_core.specs.Headline.OneStore.{AreEmpty}
use Rattle.cluster_core.specs.World.{start, layout_of, may_join}

-- a step that delivers the first message on one of these links
pub record DeliversFirst (links : List Link) (before : World) (step : Event) (after : World) : Type 0 where
  pub link : Link
  pub among : Contains links link
  pub delivers : step ≡ Deliver link.from link.to
  pub message : LinkMsg
  pub is_taken : on_link before.links link.from link.to ≡ message ∷ on_link after.links link.from link.to

-- steps from here that are a flow of at most so many deliveries
pub record IsFlow (links : List Link) (count : ℕ) (world : World) (steps : List Event) : Type 0 where
  pub at_most : length steps ≤ count
  pub each : (before : List Event) (step : Event) (later : List Event) → steps ≡ before ++ step ∷ later
      → DeliversFirst links (run_steps world before) step (run_steps world (before ++ step ∷ []))
  -- fewer only if no message is on its way any more
  pub fewer : length steps < count → AreEmpty (run_steps world steps)

-- a step that joins one of these links, which may come up
pub record JoinsOne (links : List Link) (before : World) (step : Event) : Type 0 where
  pub link : Link
  pub among : Contains links link
  pub joins : step ≡ Join link.from link.to
  pub may : may_join before link.from link.to ≡ true

-- steps from here that join links until none may come up any more
pub record IsHeal (links : List Link) (world : World) (steps : List Event) : Type 0 where
  pub each : (before : List Event) (step : Event) (later : List Event) → steps ≡ before ++ step ∷ later → JoinsOne links (run_steps world before) step
  pub all : (link : Link) → Contains links link → may_join (run_steps world steps) link.from link.to ≡ false

-- what the steps of an event are: every event but a flow and a heal is one
abbrev pub AreStepsOf : List Link → World → Event → List Event → Type 0
AreStepsOf links world (Flow count) steps = IsFlow links count world steps
AreStepsOf links world Heal steps = IsHeal links world steps
AreStepsOf links world event steps = steps ≡ event ∷ []

-- the steps of events one after another
pub data AreStepsOfAll (links : List Link) : World → List Event → List Event → Type 0 where
  no_event : (world : World) → AreStepsOfAll links world [] []
  an_event : (world : World) (event : Event) (events steps more : List Event) → AreStepsOf links world event steps
      → AreStepsOfAll links (run_steps world steps) events more → AreStepsOfAll links world (event ∷ events) (steps ++ more)

-- whatever steps led here, in whatever configuration: as long as the numbers fit, the steps of this event are so
abbrev pub AreItsSteps : Layout → World → Event → Type 0
AreItsSteps layout world event = (config : Config) (steps : List Event) → AreNodes config.nodes → layout ≡ layout_of config
    → world ≡ run_steps (start config) steps → NumbersFitAll config (steps ++ steps_of_event layout world event)
    → AreStepsOf (links_of config.nodes) world event (steps_of_event layout world event)
