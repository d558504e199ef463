-- A flow delivers as many messages as it may, and fewer only where none is on its way any more.
use Rattle.std.proofs.Common.{append_assoc, ◌≡◌, ◌≢◌, ℕ, zero, suc, ◌+◌, ◌≤◌, ◌==◌, Bool, true, false, cond, List, [], ◌∷◌, ◌++◌, length, drop, None, Some, refl, sym, ◌∙◌, ap, subst, arith, length-append, Option, All, Contains}
use Rattle.std.proofs.lemmas.Bool.{eqb-true, eq-eqb}
use Rattle.std.proofs.lemmas.List.Elements.{All-nil, All-cons, All-contains, Contains-append_right}
use Rattle.node_step.specs.declared.input.NodeInput.{NodeInput}
use Rattle.node_step.specs.declared.input.NodeInput.TheVariants.{From}
use Rattle.link_msg.specs.declared.message.LinkMsg.{LinkMsg}
use Rattle.mur_config.specs.declared.config.Config.{Config}
use Rattle.mur_config.specs.declared.node.Link.{Link}
use Rattle.mur_config.specs.Nodes.{AreNodes, links_of}
use Rattle.node_step.specs.declared.node.NodeState.{NodeState}
use Rattle.node_step.specs.NodeStep.{takes as node_takes}
use Rattle.schedule_text.specs.declared.event.Event.{Event}
use Rattle.schedule_text.specs.declared.event.Event.TheVariants.{Deliver, Flow, Heal}
use Rattle.cluster_core.specs.declared.layout.Layout.{Layout}
use Rattle.cluster_core.specs.declared.world.World.{World}
use Rattle.cluster_core.specs.Flow.{Flowing, delivered, turn_by, turn_of_link, round, rounds_by, rounds, flow, steps_of_event, happens, unrolled, run_steps, steps_of_run}
use Rattle.cluster_core.specs.Headline.FlowLaw.{DeliversFirst, IsFlow, AreStepsOf, AreStepsOfAll, AreItsSteps}
use Rattle.cluster_core.specs.Headline.FlowLaw.AreStepsOfAll.{no_event, an_event}
use Rattle.link_queue.specs.Links.{on_link}
use Rattle.cluster_core.specs.World.{not_lost, node_at, comes_to, taken_from_link, deliver_first, takes, stepped, steps_by, start, layout_of}
use Rattle.cluster_core.proofs.Runs.HealJoins.{is_heal}
use Rattle.cluster_core.proofs.Runs.LinkedNodes.{AreApart, pairs_apart}
use Rattle.cluster_core.proofs.Runs.OneNodeLaw.{carry_all_sends}
use Rattle.cluster_core.specs.Numbers.{NumbersFitAll}
use Rattle.cluster_core.proofs.Runs.OnPairs.{KnowBackendsSoFar, IsIdle, all_empty}
use Rattle.cluster_core.proofs.Runs.Unrolled.{event_made, run_steps-append}
use Rattle.link_queue.proofs.Wires.{same_itself, on_link-taken}

-- a delivery takes the first message of its link, and nothing else changes there

comes_leaves : (world : World) (node : List ℕ) (input : NodeInput) (found : Option NodeState) (from to : List ℕ) → from ≢ node
    → on_link (comes_to world node input found).links from to ≡ on_link world.links from to
unfolding comes_to
comes_leaves world node input None from to ne = refl
comes_leaves world node input (Some it) from to ne = (carry_all_sends node _ (not_lost world.broken node (node_takes it input).outs)).others from to ne

takes_first : (world : World) (from to : List ℕ) (queue : List LinkMsg) → from ≢ to → on_link world.links from to ≡ queue
    → on_link (deliver_first world from to queue).links from to ≡ drop 1 queue
unfolding deliver_first
takes_first world from to [] ne e = e
takes_first world from to (message ∷ rest) ne e =
    comes_leaves (taken_from_link world from to) to (From from message) (node_at world to) from to ne
    ∙ on_link-taken world.links from to from to
    ∙ ap (λ same. cond same (drop 1 (on_link world.links from to)) (on_link world.links from to)) (same_itself from to)
    ∙ ap (λ q. drop 1 q) e

step_takes : (world : World) (from to : List ℕ) → from ≢ to
    → on_link (steps_by world (Deliver from to)).links from to ≡ drop 1 (on_link world.links from to)
unfolding takes
step_takes world from to ne = takes_first (stepped world) from to (on_link world.links from to) ne refl

delivers_first : (links : List Link) (world : World) (link : Link) (message : LinkMsg) (queue : List LinkMsg) → Contains links link → AreApart link
    → on_link world.links link.from link.to ≡ message ∷ queue
    → DeliversFirst links world (Deliver link.from link.to) (steps_by world (Deliver link.from link.to))
delivers_first links world link message queue among apart e = record {
  link = link;
  among = among;
  delivers = refl;
  message = message;
  is_taken = e ∙ ap (λ q. message ∷ q) (sym (step_takes world link.from link.to apart ∙ ap (λ q. drop 1 q) e));
}

-- one delivery behind others

abbrev DeliversEach : List Link → World → List Event → Type 0
DeliversEach links world steps = (before : List Event) (step : Event) (later : List Event) → steps ≡ before ++ step ∷ later
    → DeliversFirst links (run_steps world before) step (run_steps world (before ++ step ∷ []))

not_none : (before : List Event) (step : Event) (later : List Event) → [] ≡ before ++ step ∷ later → ⊥
not_none [] step later e = cc
not_none (first ∷ before) step later e = cc

one_more : (links : List Link) (world : World) (steps : List Event) (last : Event) → DeliversEach links world steps
    → DeliversFirst links (run_steps world steps) last (steps_by (run_steps world steps) last)
    → (before : List Event) (step : Event) (later : List Event) → steps ++ last ∷ [] ≡ before ++ step ∷ later
    → DeliversFirst links (run_steps world before) step (run_steps world (before ++ step ∷ []))
unfolding run_steps
one_more links world [] last each is [] step later e =
    let same : last ≡ step = cc in subst (λ s. DeliversFirst links world s (steps_by world s)) same is
one_more links world [] last each is (first ∷ before) step later e =
    absurd (let none : [] ≡ before ++ step ∷ later = cc in not_none before step later none)
one_more links world (event ∷ steps) last each is [] step later e =
    let same : event ≡ step = cc in subst (λ s. DeliversFirst links world s (steps_by world s)) same (each [] event steps refl)
one_more links world (event ∷ steps) last each is (first ∷ before) step later e =
    let same : event ≡ first = cc in
    let rest : steps ++ last ∷ [] ≡ before ++ step ∷ later = cc in
    subst (λ x. DeliversFirst links (run_steps (steps_by world x) before) step (run_steps (steps_by world x) (before ++ step ∷ []))) same
    (one_more links (steps_by world event) steps last (λ b s l h. each (event ∷ b) s l (ap (λ x. event ∷ x) h)) is before step later rest)

-- a flow that has begun here, so far
record IsFlowing (links : List Link) (world : World) (count : ℕ) (flowing : Flowing) : Type 0 where
  steps : flowing.world ≡ run_steps world flowing.made
  counts : length flowing.made + flowing.left ≡ count
  each : DeliversEach links world flowing.made

delivered_flows : (links : List Link) (world : World) (count : ℕ) (flowing : Flowing) (link : Link) (left : ℕ) (message : LinkMsg) (queue : List LinkMsg)
    → Contains links link → AreApart link → flowing.left ≡ suc left → on_link flowing.world.links link.from link.to ≡ message ∷ queue
    → IsFlowing links world count flowing → IsFlowing links world count (delivered flowing left (Deliver link.from link.to))
unfolding run_steps
delivered_flows links world count flowing link left message queue among apart l e is =
    let event = Deliver link.from link.to in
    let here : DeliversFirst links (run_steps world flowing.made) event (steps_by (run_steps world flowing.made) event) =
    subst (λ w. DeliversFirst links w event (steps_by w event)) is.steps
    (delivers_first links flowing.world link message queue among apart e) in
    record {
      steps = ap (λ w. steps_by w event) is.steps ∙ sym (run_steps-append world flowing.made (event ∷ []));
      counts = omega (arith, length-append flowing.made (event ∷ []), is.counts, l);
      each = one_more links world flowing.made event is.each here;
    }

turn_flows : (links : List Link) (world : World) (count : ℕ) (flowing : Flowing) (link : Link) (left : ℕ) (queue : List LinkMsg)
    → Contains links link → AreApart link → flowing.left ≡ left → on_link flowing.world.links link.from link.to ≡ queue
    → IsFlowing links world count flowing → IsFlowing links world count (turn_by flowing link left queue)
unfolding turn_by
turn_flows links world count flowing link zero queue among apart l e is = is
turn_flows links world count flowing link (suc left) [] among apart l e is = is
turn_flows links world count flowing link (suc left) (message ∷ queue) among apart l e is =
    delivered_flows links world count flowing link left message queue among apart l e is

round_flows : (links : List Link) (world : World) (count : ℕ) → All AreApart links → (flowing : Flowing) (some : List Link)
    → ((link : Link) → Contains some link → Contains links link)
    → IsFlowing links world count flowing → IsFlowing links world count (round flowing some)
unfolding round turn_of_link
round_flows links world count apart flowing [] within is = is
round_flows links world count apart flowing (link ∷ some) within is =
    let among = within link (0, omega arith, refl) in
    round_flows links world count apart (turn_of_link flowing link) some (λ other there. within other (Contains-append_right (link ∷ []) some other there))
    (turn_flows links world count flowing link flowing.left (on_link flowing.world.links link.from link.to) among
    (All-contains AreApart links link apart among) refl refl is)

either_flows : (links : List Link) (world : World) (count : ℕ) (ends : Bool) (one more : Flowing) → IsFlowing links world count one
    → IsFlowing links world count more → IsFlowing links world count (rounds_by ends one more)
unfolding rounds_by
either_flows links world count true one more a b = a
either_flows links world count false one more a b = b

rounds_flow : (links : List Link) (world : World) (count : ℕ) → All AreApart links → (n : ℕ) (flowing : Flowing)
    → IsFlowing links world count flowing → IsFlowing links world count (rounds n links flowing)
unfolding rounds
rounds_flow links world count apart zero flowing is = is
rounds_flow links world count apart (suc n) flowing is =
    let next = round_flows links world count apart flowing links (λ link there. there) is in
    either_flows links world count _ (round flowing links) (rounds n links (round flowing links)) next
    (rounds_flow links world count apart n (round flowing links) next)

-- how many deliveries may follow never grows

turn_falls : (flowing : Flowing) (link : Link) (left : ℕ) (queue : List LinkMsg) → flowing.left ≡ left → (turn_by flowing link left queue).left ≤ flowing.left
unfolding turn_by
turn_falls flowing link zero queue l = omega arith
turn_falls flowing link (suc left) [] l = omega arith
turn_falls flowing link (suc left) (message ∷ queue) l = omega (arith, l)

round_falls : (flowing : Flowing) (links : List Link) → (round flowing links).left ≤ flowing.left
unfolding round turn_of_link
round_falls flowing [] = omega arith
round_falls flowing (link ∷ links) =
    omega (arith, round_falls (turn_of_link flowing link) links, turn_falls flowing link flowing.left (on_link flowing.world.links link.from link.to) refl)

-- a round that might have made a delivery and made none found nothing on its way, and changed nothing
record IsStill (flowing : Flowing) (links : List Link) : Type 0 where
  same : (round flowing links).world ≡ flowing.world
  idle : All (IsIdle flowing.world) links

still_by : (flowing : Flowing) (link : Link) (links : List Link) (left : ℕ) (queue : List LinkMsg) → flowing.left ≡ left
    → on_link flowing.world.links link.from link.to ≡ queue → flowing.left ≢ 0 → (round (turn_by flowing link left queue) links).left ≡ flowing.left
    → ((round flowing links).left ≡ flowing.left → IsStill flowing links)
    → ((round (turn_by flowing link left queue) links).world ≡ flowing.world) × All (IsIdle flowing.world) (link ∷ links)
unfolding turn_by
still_by flowing link links zero queue l e some as_before still = absurd (some l)
still_by flowing link links (suc left) [] l e some as_before still =
    let is = still as_before in (is.same, All-cons (IsIdle flowing.world) link links e is.idle)
still_by flowing link links (suc left) (message ∷ queue) l e some as_before still =
    absurd (omega (arith, l, as_before, round_falls (delivered flowing left (Deliver link.from link.to)) links))

still_round : (flowing : Flowing) (links : List Link) → flowing.left ≢ 0 → (round flowing links).left ≡ flowing.left → IsStill flowing links
unfolding round turn_of_link
still_round flowing [] some as_before = record { same = refl; idle = All-nil (IsIdle flowing.world) }
still_round flowing (link ∷ links) some as_before =
    let is = still_by flowing link links flowing.left (on_link flowing.world.links link.from link.to) refl refl some as_before
    (λ h. still_round flowing links some h) in
    record { same = is.0; idle = is.1 }

-- so many rounds end where nothing is on its way, or with no delivery that may follow

rest_by : (n : ℕ) (links : List Link) (flowing more : Flowing) (ends : Bool) → ((round flowing links).left == flowing.left) ≡ ends → flowing.left ≤ suc n
    → (rounds_by ends (round flowing links) more).left ≢ 0
    → ((round flowing links).left ≤ n → more.left ≢ 0 → All (IsIdle more.world) links)
    → All (IsIdle (rounds_by ends (round flowing links) more).world) links
unfolding rounds_by
rest_by n links flowing more true e h some later =
    let as_before : (round flowing links).left ≡ flowing.left = eqb-true _ _ e in
    let is = still_round flowing links (λ none. some (as_before ∙ none)) as_before in
    subst (λ w. All (IsIdle w) links) (sym is.same) is.idle
rest_by n links flowing more false e h some later =
    let differs : (round flowing links).left ≢ flowing.left = λ same. (let no : true ≡ false = sym (eq-eqb _ _ same) ∙ e in cc) in
    later (omega (arith, h, round_falls flowing links, differs)) some

rounds_rest : (n : ℕ) (links : List Link) (flowing : Flowing) → flowing.left ≤ n → (rounds n links flowing).left ≢ 0
    → All (IsIdle (rounds n links flowing).world) links
unfolding rounds
rounds_rest zero links flowing h some = absurd (some (omega (arith, h)))
rounds_rest (suc n) links flowing h some =
    rest_by n links flowing (rounds n links (round flowing links)) _ refl h some (λ fewer left. rounds_rest n links (round flowing links) fewer left)

flow_flows : (layout : Layout) (world : World) (count : ℕ) → All AreApart layout.pairs → IsFlowing layout.pairs world count (flow layout world count)
unfolding flow run_steps
flow_flows layout world count apart =
    rounds_flow layout.pairs world count apart count (record { world = world; made = []; left = count })
    (record { steps = refl; counts = omega arith; each = λ before step later e. absurd (not_none before step later e) })

flow_rests : (layout : Layout) (world : World) (count : ℕ) → (flow layout world count).left ≢ 0
    → All (IsIdle (flow layout world count).world) layout.pairs
unfolding flow
flow_rests layout world count some = rounds_rest count layout.pairs (record { world = world; made = []; left = count }) (omega arith) some

-- what is known so far of some steps is known of the first of them
known_first : (config : Config) (one two : List Event) → KnowBackendsSoFar config (one ++ two) → KnowBackendsSoFar config one
known_first config one two known = λ before later parts. known before (later ++ two) (ap (λ l. l ++ two) parts ∙ append_assoc before later two)

is_flow : (config : Config) (steps : List Event) (count : ℕ) (world : World) → AreNodes config.nodes
    → KnowBackendsSoFar config (steps ++ (flow (layout_of config) world count).made) → world ≡ run_steps (start config) steps
    → IsFlow (links_of config.nodes) count world (flow (layout_of config) world count).made
is_flow config steps count world are known there =
    let ran = flow (layout_of config) world count in
    let flows = flow_flows (layout_of config) world count (pairs_apart config.nodes) in
    let ends : ran.world ≡ run_steps (start config) (steps ++ ran.made) =
    flows.steps ∙ ap (λ w. run_steps w ran.made) there ∙ sym (run_steps-append (start config) steps ran.made) in
    record {
      at_most = omega (arith, flows.counts);
      each = flows.each;
      fewer = λ fewer from to.
          let some : ran.left ≢ 0 = λ none. omega (arith, flows.counts, fewer, none) in
          ap (λ (w : World). on_link w.links from to) (sym flows.steps ∙ ends)
          ∙ all_empty config (steps ++ ran.made) are known
          (subst (λ w. All (IsIdle w) (links_of config.nodes)) ends (flow_rests (layout_of config) world count some)) from to;
    }

are_steps : (config : Config) (steps : List Event) (world : World) (event : Event) → AreNodes config.nodes
    → KnowBackendsSoFar config (steps ++ steps_of_event (layout_of config) world event)
    → world ≡ run_steps (start config) steps → AreStepsOf (links_of config.nodes) world event (steps_of_event (layout_of config) world event)
unfolding steps_of_event
are_steps config steps world (Flow count) are known there = is_flow config steps count world are known there
are_steps config steps world Heal are known there = is_heal (layout_of config) world
are_steps config steps world event are known there = refl

-- behind whatever steps
pub are_its_steps : (layout : Layout) (world : World) (event : Event)
    → ((config : Config) (steps : List Event) → AreNodes config.nodes → NumbersFitAll config steps → KnowBackendsSoFar config steps)
    → AreItsSteps layout world event
are_its_steps layout world event know = λ config steps are laid there fit.
    subst (λ l. AreStepsOf (links_of config.nodes) world event (steps_of_event l world event)) (sym laid)
    (are_steps config steps world event are
    (subst (λ l. KnowBackendsSoFar config (steps ++ steps_of_event l world event)) laid (know config (steps ++ steps_of_event layout world event) are fit)) there)

all_from : (config : Config) (steps : List Event) (world : World) (events : List Event) → AreNodes config.nodes
    → KnowBackendsSoFar config (steps ++ unrolled (layout_of config) world events) → world ≡ run_steps (start config) steps
    → AreStepsOfAll (links_of config.nodes) world events (unrolled (layout_of config) world events)
unfolding unrolled
all_from config steps world [] are known there = no_event world
all_from config steps world (event ∷ events) are known there =
    let its = steps_of_event (layout_of config) world event in
    let next = happens (layout_of config) world event in
    let rest = unrolled (layout_of config) next events in
    let made = event_made (layout_of config) world event in
    let later : next ≡ run_steps (start config) (steps ++ its) =
    made ∙ ap (λ w. run_steps w its) there ∙ sym (run_steps-append (start config) steps its) in
    let known_on = subst (KnowBackendsSoFar config) (sym (append_assoc steps its rest)) known in
    an_event world event events its rest (are_steps config steps world event are (known_first config (steps ++ its) rest known_on) there)
    (subst (λ w. AreStepsOfAll (links_of config.nodes) w events rest) made (all_from config (steps ++ its) next events are known_on later))

-- the steps of a run are those of its events
pub are_steps_of_all : (config : Config) (events : List Event) → AreNodes config.nodes → KnowBackendsSoFar config (steps_of_run config events)
    → AreStepsOfAll (links_of config.nodes) (start config) events (steps_of_run config events)
unfolding run_steps
are_steps_of_all config events are known = all_from config [] (start config) events are known refl
