-- Each event of a run has room.
use Rattle.std.proofs.Common.{◌≡◌, ℕ, zero, suc, Bool, true, false, ◌+◌, ◌≤◌, List, [], ◌∷◌, length, refl, sym, ◌∙◌, ap, subst, arith}
use Rattle.link_msg.specs.declared.message.LinkMsg.{LinkMsg}
use Rattle.mur_config.specs.declared.config.Config.{Config}
use Rattle.mur_config.specs.Nodes.{AreNodes, links_of}
use Rattle.mur_config.specs.declared.node.Link.{Link}
use Rattle.schedule_text.specs.ScheduleFits.{HasCountRoom}
use Rattle.schedule_text.specs.declared.event.Event.{Event}
use Rattle.schedule_text.specs.declared.event.Event.TheVariants.{Deliver, Join, Flow, Heal}
use Rattle.schedule_text.specs.Brings.{most_links, steps_of, bytes_brought, steps_of_all, bytes_of_all}
use Rattle.cluster_core.specs.declared.layout.Layout.{Layout}
use Rattle.cluster_core.specs.declared.world.World.{World}
use Rattle.link_queue.specs.Links.{on_link}
use Rattle.cluster_core.specs.World.{ClusterState, begun, may_join, steps_by, layout_of}
use Rattle.cluster_core.specs.Flow.{Flowing, Healing, heal, heal_by, heal_link, heal_links, turn_by, turn_of_link, round, rounds, rounds_by, flow, happens, run, run_of, ran}
use Rattle.cluster_core.specs.Room.{HaveCommands, HasRoom}
use Rattle.cluster_core.proofs.Runs.FewLinks.{links_few}
use Rattle.cluster_core.proofs.Runs.RoomLaw.{more_commands, step_commands, step_steps, one_step, start_commands, start_steps}

-- a flow brings no command, and each delivery is one of those that may follow
pub record IsWithin (most total : ℕ) (flowing : Flowing) : Type 0 where
  pub commands : HaveCommands flowing.world most
  pub steps : flowing.world.steps + flowing.left ≤ total

delivered_within : (world : World) (from to : List ℕ) (most : ℕ) → HaveCommands world most → HaveCommands (steps_by world (Deliver from to)) most
unfolding bytes_brought
delivered_within world from to most have =
    more_commands (steps_by world (Deliver from to)) (most + 0) most (omega arith) (step_commands world (Deliver from to) most have)

turn_within : (most total : ℕ) (flowing : Flowing) (link : Link) (left : ℕ) (queue : List LinkMsg) → flowing.left ≡ left → IsWithin most total flowing
    → IsWithin most total (turn_by flowing link left queue)
unfolding turn_by
turn_within most total flowing link zero queue e within = within
turn_within most total flowing link (suc left) [] e within = within
turn_within most total flowing link (suc left) (message ∷ queue) e within = record {
  commands = delivered_within flowing.world link.from link.to most within.commands;
  steps = omega (arith, within.steps, e, step_steps flowing.world (Deliver link.from link.to));
}

round_within : (most total : ℕ) (flowing : Flowing) (links : List Link) → IsWithin most total flowing → IsWithin most total (round flowing links)
unfolding round turn_of_link
round_within most total flowing [] within = within
round_within most total flowing (link ∷ links) within =
    round_within most total (turn_of_link flowing link) links
    (turn_within most total flowing link flowing.left (on_link flowing.world.links link.from link.to) refl within)

either_within : (most total : ℕ) (b : Bool) (one more : Flowing) → IsWithin most total one → IsWithin most total more
    → IsWithin most total (rounds_by b one more)
unfolding rounds_by
either_within most total true one more a c = a
either_within most total false one more a c = c

rounds_within : (most total n : ℕ) (links : List Link) (flowing : Flowing) → IsWithin most total flowing → IsWithin most total (rounds n links flowing)
unfolding rounds
rounds_within most total zero links flowing within = within
rounds_within most total (suc n) links flowing within =
    let next = round_within most total flowing links within in
    either_within most total _ (round flowing links) (rounds n links (round flowing links)) next
    (rounds_within most total n links (round flowing links) next)

-- a world of so many commands and steps at most
pub record HasCounts (world : World) (most total : ℕ) : Type 0 where
  pub commands : HaveCommands world most
  pub steps : world.steps ≤ total

flow_counts : (layout : Layout) (world : World) (count most total : ℕ) → HasCounts world most total
    → HasCounts (flow layout world count).world most (total + count)
unfolding flow
flow_counts layout world count most total has =
    let within = rounds_within most (total + count) count layout.pairs (record { world = world; made = []; left = count })
    (record { commands = has.commands; steps = omega (arith, has.steps) }) in
    record { commands = within.commands; steps = omega (arith, within.steps) }

-- a heal brings none either, and makes at most one step for each link

joined_counts : (most total : ℕ) (healing : Healing) (link : Link) (may : Bool) → HasCounts healing.world most total
    → HasCounts (heal_by may healing link).world most (total + 1)
unfolding heal_by bytes_brought
joined_counts most total healing link true has = record {
  commands = more_commands (steps_by healing.world (Join link.from link.to)) (most + 0) most (omega arith)
      (step_commands healing.world (Join link.from link.to) most has.commands);
  steps = omega (arith, has.steps, step_steps healing.world (Join link.from link.to));
}
joined_counts most total healing link false has = record { commands = has.commands; steps = omega (arith, has.steps) }

joins_count : (most total : ℕ) (healing : Healing) (links : List Link) → HasCounts healing.world most total
    → HasCounts (heal_links healing links).world most (total + length links)
unfolding heal_links heal_link
joins_count most total healing [] has = record { commands = has.commands; steps = omega (arith, has.steps) }
joins_count most total healing (link ∷ links) has =
    let more = joins_count most (total + 1) (heal_link healing link) links
    (joined_counts most total healing link (may_join healing.world link.from link.to) has) in
    record { commands = more.commands; steps = omega (arith, more.steps) }

heal_counts : (layout : Layout) (world : World) (most total : ℕ) → length layout.pairs ≤ most_links → HasCounts world most total
    → HasCounts (heal layout world).world most (total + most_links)
unfolding heal
heal_counts layout world most total few has =
    let joins = joins_count most total (record { world = world; made = [] }) layout.pairs has in
    record { commands = joins.commands; steps = omega (arith, joins.steps, few) }

step_counts : (world : World) (event : Event) (most total : ℕ) → HasCounts world most total
    → HasCounts (steps_by world event) (most + bytes_brought event) (total + steps_of event)
step_counts world event most total has = record {
  commands = step_commands world event most has.commands;
  steps = omega (arith, has.steps, step_steps world event, one_step event);
}

more_counts : (world : World) (m n s t : ℕ) → m ≤ n → s ≤ t → HasCounts world m s → HasCounts world n t
more_counts world m n s t h k has = record { commands = more_commands world m n h has.commands; steps = omega (arith, has.steps) }

pub happens_counts : (layout : Layout) (world : World) (event : Event) (most total : ℕ) → length layout.pairs ≤ most_links → HasCounts world most total
    → HasCounts (happens layout world event) (most + bytes_brought event) (total + steps_of event)
unfolding happens steps_of bytes_brought
happens_counts layout world (Flow count) most total few has =
    more_counts (flow layout world count).world most (most + 0) (total + count) (total + (1 + count)) (omega arith) (omega arith)
    (flow_counts layout world count most total has)
happens_counts layout world Heal most total few has =
    more_counts (heal layout world).world most (most + 0) (total + most_links) (total + most_links) (omega arith) (omega arith)
    (heal_counts layout world most total few has)
happens_counts layout world event most total few has = step_counts world event most total has

-- what an event makes of the cluster
abbrev happened : ClusterState → Event → ClusterState
happened now event = record now { world = happens now.layout now.world event }

-- the cluster in the middle of a run, and the events that are left
pub record IsOnTheWay (config : Config) (events : List Event) (now : ClusterState) (left : List Event) : Type 0 where
  pub laid : now.layout ≡ layout_of config
  pub few : length (links_of config.nodes) ≤ most_links
  pub taken : ℕ
  pub done : ℕ
  pub bytes : taken + bytes_of_all left ≡ bytes_of_all events
  pub steps : done + steps_of_all left ≡ steps_of_all events
  pub counts : HasCounts now.world taken done
  pub ends : run (layout_of config) now.world left ≡ run_of config events

pub way_begins : (config : Config) (events : List Event) (now : ClusterState) (left : List Event) → AreNodes config.nodes → now ≡ begun config → left ≡ events
    → IsOnTheWay config events now left
way_begins config events now left are w l =
    rw (w, l) (record {
      laid = refl;
      few = links_few config.nodes are;
      taken = 0;
      done = 0;
      bytes = omega arith;
      steps = omega arith;
      ends = refl;
      counts = record { commands = start_commands config; steps = omega (arith, start_steps config) };
    })

-- the nodes have few links
pub way_is_few : (config : Config) (events : List Event) (now : ClusterState) (left : List Event) → IsOnTheWay config events now left
    → length now.layout.pairs ≤ most_links
way_is_few config events now left way = subst (λ (l : Layout). length l.pairs ≤ most_links) (sym way.laid) way.few

goes_on : (config : Config) (events : List Event) (now : ClusterState) (event : Event) (left : List Event)
    → IsOnTheWay config events now (event ∷ left) → IsOnTheWay config events (happened now event) left
unfolding run bytes_of_all steps_of_all
goes_on config events now event left way = record {
  laid = way.laid;
  few = way.few;
  taken = way.taken + bytes_brought event;
  done = way.done + steps_of event;
  bytes = omega (arith, way.bytes);
  steps = omega (arith, way.steps);
  counts = happens_counts now.layout now.world event way.taken way.done
      (way_is_few config events now (event ∷ left) way) way.counts;
  ends = ap (λ l. run (layout_of config) (happens l now.world event) left) way.laid ∙ way.ends;
}

pub way_goes_on : (config : Config) (events : List Event) (now after : ClusterState) (event : Event) (before left : List Event)
    → before ≡ event ∷ left → after ≡ happened now event → IsOnTheWay config events now before → IsOnTheWay config events after left
way_goes_on config events now after event before left b a way =
    rw a (goes_on config events now event left (subst (λ l. IsOnTheWay config events now l) b way))

has_room_at : (config : Config) (events : List Event) (now : ClusterState) (event : Event) (left : List Event)
    → HasCountRoom events → IsOnTheWay config events now (event ∷ left) → HasRoom now.world event
unfolding bytes_of_all steps_of_all
has_room_at config events now event left room way = record {
  most = way.taken;
  commands = way.counts.commands;
  fits = omega (arith, way.bytes, room.bytes);
  steps = omega (arith, way.steps, way.counts.steps, room.steps);
}

pub way_has_room : (config : Config) (events : List Event) (now : ClusterState) (event : Event) (before left : List Event)
    → HasCountRoom events → before ≡ event ∷ left → IsOnTheWay config events now before
    → HasRoom now.world event
way_has_room config events now event before left room b way =
    has_room_at config events now event left room (subst (λ l. IsOnTheWay config events now l) b way)

ends_here : (config : Config) (events : List Event) (now : ClusterState) → IsOnTheWay config events now []
    → now ≡ ran config events
unfolding run
ends_here config events now way = λ i. record { layout = way.laid i; world = way.ends i }

pub way_ends : (config : Config) (events : List Event) (now : ClusterState) (left : List Event) → left ≡ [] → IsOnTheWay config events now left
    → now ≡ ran config events
way_ends config events now left l way = ends_here config events now (subst (λ l. IsOnTheWay config events now l) l way)
