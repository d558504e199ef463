-- A run is that of its single steps.
use Rattle.std.proofs.Common.{◌≡◌, ℕ, zero, suc, Bool, true, false, nat_eq, List, [], ◌∷◌, ◌++◌, refl, sym, ◌∙◌, ap}
use Rattle.link_msg.specs.declared.message.LinkMsg.{LinkMsg}
use Rattle.mur_config.specs.declared.node.Link.{Link}
use Rattle.schedule_text.specs.declared.event.Event.{Event}
use Rattle.schedule_text.specs.declared.event.Event.TheVariants.{Open, Data, Hang, Deliver, Cut, Join, Crash, Arm, Start, Flow, Heal}
use Rattle.cluster_core.specs.declared.layout.Layout.{Layout}
use Rattle.cluster_core.specs.declared.world.World.{World}
use Rattle.cluster_core.specs.Flow.{Flowing, Healing, delivered, heal, heal_by, heal_link, heal_links, turn_by, turn_of_link, round, rounds_by, rounds, flow, steps_of_event, happens, run, unrolled, run_steps}
use Rattle.link_queue.specs.Links.{on_link}
use Rattle.cluster_core.specs.World.{may_join, steps_by}

pub run_steps-append : (world : World) (front back : List Event) → run_steps world (front ++ back) ≡ run_steps (run_steps world front) back
unfolding run_steps
run_steps-append world [] back = refl
run_steps-append world (event ∷ front) back = run_steps-append (steps_by world event) front back

-- a flow so far is the deliveries that it made
abbrev IsMadeOf : World → Flowing → Type 0
IsMadeOf start flowing = flowing.world ≡ run_steps start flowing.made

delivery_made : (start : World) (flowing : Flowing) (left : ℕ) (event : Event) → IsMadeOf start flowing → IsMadeOf start (delivered flowing left event)
unfolding run_steps
delivery_made start flowing left event e = ap (λ w. steps_by w event) e ∙ sym (run_steps-append start flowing.made (event ∷ []))

turn_made : (start : World) (flowing : Flowing) (link : Link) (left : ℕ) (queue : List LinkMsg) → IsMadeOf start flowing
    → IsMadeOf start (turn_by flowing link left queue)
unfolding turn_by
turn_made start flowing link zero queue e = e
turn_made start flowing link (suc left) [] e = e
turn_made start flowing link (suc left) (message ∷ queue) e = delivery_made start flowing left (Deliver link.from link.to) e

round_made : (start : World) (flowing : Flowing) (links : List Link) → IsMadeOf start flowing → IsMadeOf start (round flowing links)
unfolding round turn_of_link
round_made start flowing [] e = e
round_made start flowing (link ∷ links) e =
    round_made start (turn_of_link flowing link) links (turn_made start flowing link flowing.left (on_link flowing.world.links link.from link.to) e)

either_made : (start : World) (ends : Bool) (one two : Flowing) → IsMadeOf start one → IsMadeOf start two → IsMadeOf start (rounds_by ends one two)
unfolding rounds_by
either_made start true one two e f = e
either_made start false one two e f = f

rounds_made : (start : World) (count : ℕ) (links : List Link) (flowing : Flowing) → IsMadeOf start flowing → IsMadeOf start (rounds count links flowing)
unfolding rounds
rounds_made start zero links flowing e = e
rounds_made start (suc count) links flowing e =
    let next = round_made start flowing links e in
    either_made start (nat_eq (round flowing links).left flowing.left) (round flowing links) (rounds count links (round flowing links)) next
    (rounds_made start count links (round flowing links) next)

flow_made : (layout : Layout) (world : World) (count : ℕ) → (flow layout world count).world ≡ run_steps world (flow layout world count).made
unfolding flow run_steps
flow_made layout world count = rounds_made world count layout.pairs (record { world = world; made = []; left = count }) refl

-- so is a heal the joins that it made
pub join_made : (start : World) (healing : Healing) (link : Link) (may : Bool) → healing.world ≡ run_steps start healing.made
    → (heal_by may healing link).world ≡ run_steps start (heal_by may healing link).made
unfolding heal_by run_steps
join_made start healing link true e =
    ap (λ w. steps_by w (Join link.from link.to)) e ∙ sym (run_steps-append start healing.made (Join link.from link.to ∷ []))
join_made start healing link false e = e

joins_made : (start : World) (healing : Healing) (links : List Link) → healing.world ≡ run_steps start healing.made
    → (heal_links healing links).world ≡ run_steps start (heal_links healing links).made
unfolding heal_links heal_link
joins_made start healing [] e = e
joins_made start healing (link ∷ links) e =
    joins_made start (heal_link healing link) links (join_made start healing link (may_join healing.world link.from link.to) e)

pub heal_made : (layout : Layout) (world : World) → (heal layout world).world ≡ run_steps world (heal layout world).made
unfolding heal run_steps
heal_made layout world = joins_made world (record { world = world; made = [] }) layout.pairs refl

pub event_made : (layout : Layout) (world : World) (event : Event) → happens layout world event ≡ run_steps world (steps_of_event layout world event)
unfolding happens steps_of_event run_steps
event_made layout world (Flow count) = flow_made layout world count
event_made layout world (Open node conn) = refl
event_made layout world (Data conn bytes) = refl
event_made layout world (Hang conn) = refl
event_made layout world (Deliver from to) = refl
event_made layout world (Cut from to k l) = refl
event_made layout world (Join from to) = refl
event_made layout world (Crash node c k) = refl
event_made layout world (Arm node a c k) = refl
event_made layout world (Start node) = refl
event_made layout world Heal = heal_made layout world

pub by_steps : (layout : Layout) (world : World) (events : List Event) → run layout world events ≡ run_steps world (unrolled layout world events)
unfolding run unrolled run_steps
by_steps layout world [] = refl
by_steps layout world (event ∷ events) =
    let next = happens layout world event in
    by_steps layout next events ∙ ap (λ w. run_steps w (unrolled layout next events)) (event_made layout world event)
    ∙ sym (run_steps-append world (steps_of_event layout world event) (unrolled layout next events))
