-- What events do one after another. A flow is at most so many deliveries, in rounds over the directed pairs of linked nodes; a round
-- takes one message of each queue that isn't empty when its turn comes. A `heal` joins each pair that may come up when its turn comes. Every other event is
-- one step.
use Rattle.std.specs.Prelude.{ℕ, zero, suc, ◌==◌, Bool, true, false, List, [], ◌∷◌, ◌++◌}
use Rattle.link_msg.specs.declared.message.LinkMsg.{LinkMsg}
use Rattle.mur_config.specs.declared.node.Link.{Link}
use Rattle.schedule_text.specs.declared.event.Event.{Event}
use Rattle.schedule_text.specs.declared.event.Event.TheVariants.{Deliver, Join, Flow, Heal}
use Rattle.cluster_core.specs.declared.layout.Layout.{Layout}
use Rattle.cluster_core.specs.declared.world.World.{World}
use Rattle.link_queue.specs.Links.{on_link}
use Rattle.mur_config.specs.declared.config.Config.{Config}
use Rattle.cluster_core.specs.World.{layout_of, may_join, ClusterState, start, steps_by}

-- a world in the middle of a flow, the deliveries that it made, and how many may follow
pub record Flowing : Type 0 where
  pub world : World
  pub made : List Event
  pub left : ℕ

abbrev pub delivered : Flowing → ℕ → Event → Flowing
delivered flowing left event = record { world = steps_by flowing.world event; made = flowing.made ++ event ∷ []; left = left }

-- the turn of one pair, by how many deliveries may follow and by what is on its way
unfoldable pub turn_by : Flowing → Link → ℕ → List LinkMsg → Flowing
turn_by flowing link zero queue = flowing
turn_by flowing link (suc left) [] = flowing
turn_by flowing link (suc left) (message ∷ queue) = delivered flowing left (Deliver link.from link.to)

unfoldable pub turn_of_link : Flowing → Link → Flowing
turn_of_link flowing link = turn_by flowing link flowing.left (on_link flowing.world.links link.from link.to)

unfoldable pub round : Flowing → List Link → Flowing
round flowing [] = flowing
round flowing (link ∷ links) = round (turn_of_link flowing link) links

-- another round, unless one went by without any delivery
unfoldable pub rounds_by : Bool → Flowing → Flowing → Flowing
rounds_by true flowing more = flowing
rounds_by false flowing more = more

-- so many rounds at most
unfoldable pub rounds : ℕ → List Link → Flowing → Flowing
rounds zero links flowing = flowing
rounds (suc count) links flowing =
    let next = round flowing links in
    rounds_by (next.left == flowing.left) next (rounds count links next)

-- each round but the last makes a delivery, so as many rounds as there may be deliveries are enough
unfoldable pub flow : Layout → World → ℕ → Flowing
flow layout world count = rounds count layout.pairs (record { world = world; made = []; left = count })

-- ---- every link that may comes up

-- a world in the middle of that, and the joins that were made
pub record Healing : Type 0 where
  pub world : World
  pub made : List Event

abbrev pub joined : Healing → Event → Healing
joined healing event = record { world = steps_by healing.world event; made = healing.made ++ event ∷ [] }

-- the turn of one pair: the first time that it comes the link is joined, and from then on it isn't broken
unfoldable pub heal_by : Bool → Healing → Link → Healing
heal_by true healing link = joined healing (Join link.from link.to)
heal_by false healing link = healing

unfoldable pub heal_link : Healing → Link → Healing
heal_link healing link = heal_by (may_join healing.world link.from link.to) healing link

unfoldable pub heal_links : Healing → List Link → Healing
heal_links healing [] = healing
heal_links healing (link ∷ links) = heal_links (heal_link healing link) links

unfoldable pub heal : Layout → World → Healing
heal layout world = heal_links (record { world = world; made = [] }) layout.pairs

-- the single steps of an event
unfoldable pub steps_of_event : Layout → World → Event → List Event
steps_of_event layout world (Flow count) = (flow layout world count).made
steps_of_event layout world Heal = (heal layout world).made
steps_of_event layout world event = event ∷ []

unfoldable pub happens : Layout → World → Event → World
happens layout world (Flow count) = (flow layout world count).world
happens layout world Heal = (heal layout world).world
happens layout world event = steps_by world event

-- the events one after another
unfoldable pub run : Layout → World → List Event → World
run layout world [] = world
run layout world (event ∷ events) = run layout (happens layout world event) events

-- the single steps of a run
unfoldable pub unrolled : Layout → World → List Event → List Event
unrolled layout world [] = []
unrolled layout world (event ∷ events) = steps_of_event layout world event ++ unrolled layout (happens layout world event) events

-- a run by single steps
unfoldable pub run_steps : World → List Event → World
run_steps world [] = world
run_steps world (event ∷ events) = run_steps (steps_by world event) events

-- the world and the cluster after the events of a run, and the run's single steps
abbrev pub run_of : Config → List Event → World
run_of config events = run (layout_of config) (start config) events

abbrev pub ran : Config → List Event → ClusterState
ran config events = record { layout = layout_of config; world = run_of config events }

abbrev pub steps_of_run : Config → List Event → List Event
steps_of_run config events = unrolled (layout_of config) (start config) events
