-- EVERY EVENT KEEPS THE LAW, where the world holds what stands beside the law.
use Rattle.std.proofs.Common.{◌≡◌, ◌≢◌, ◌⊎◌, inl, inr, ℕ, ◌+◌, Bool, true, false, List, [], ◌∷◌, Some, refl, sym, ◌∙◌, ap, subst}
use Rattle.std.proofs.Math.Logic.{⊎_elim}
use Rattle.std.specs.Cmp.Lexicographic.{slice_cmp}
use Rattle.std.specs.Option.{IsSome}
use Rattle.std.specs.Ordering.{nat_cmp}
use Rattle.back_node.specs.declared.node.BackNode.{BackNode}
use Rattle.cluster_core.specs.Heard.{hears}
use Rattle.cluster_core.specs.World.{comes, deliver_first, front_at, home_at, master_of, node_at, stepped, steps_by, taken_from_link, takes}
use Rattle.front_core.specs.declared.front.Front.{Front}
use Rattle.imap_talk.specs.Heard.{Heard, nobody, elsewhere, client}
use Rattle.imap_talk.specs.Transcript.{Stop}
use Rattle.link_msg.specs.declared.message.LinkMsg.{LinkMsg}
use Rattle.link_queue.specs.Broken.{is_broken}
use Rattle.link_queue.specs.Links.{on_link}
use Rattle.mark_history.specs.Marked.{Tale}
use Rattle.mur_base.proofs.MapLaws.{names_apart, same_or_other}
use Rattle.mur_base.specs.Map.{value_at}
use Rattle.mur_config.specs.declared.config.Config.{Config}
use Rattle.node_step.proofs.NodeKinds.{master_is}
use Rattle.node_step.specs.NodeStep.{as_master}
use Rattle.node_step.specs.declared.input.NodeInput.TheVariants.{From}
use Rattle.schedule_text.specs.declared.event.Event.{Event}
use Rattle.schedule_text.specs.declared.event.Event.TheVariants.{Open, Data, Hang, Deliver, Cut, Join, Crash, Arm, Start, Flow, Heal}
use Rattle.cluster_core.specs.declared.world.World.{World}
use Rattle.cluster_core.specs.Headline.Outside.{table_at, table_by}
use Rattle.cluster_core.proofs.Commands.Moving.{MovesBy}
use Rattle.cluster_core.proofs.Connections.ClientEvents.{Keeps, begins, bytes_keep, hangs_keep, heard_then, idle_keeps, opens_keeps}
use Rattle.cluster_core.proofs.Connections.KeepsBehind.{StepKeeps, step_keeps}
use Rattle.cluster_core.proofs.Connections.KeepsLaw.{KeepsBehind, KeepsLaw, KeepsOn}
use Rattle.cluster_core.proofs.Connections.KeepsStill.{same_kept, stepped_law}
use Rattle.cluster_core.proofs.Keeps.Deliver.{StandsBeside, delivered_keeps}
use Rattle.cluster_core.proofs.Keeps.ToMaster.{late_keeps}
use Rattle.cluster_core.specs.Numbers.{NumbersFit}
use Rattle.cluster_core.proofs.Links.Events.{cut_keeps}
use Rattle.cluster_core.proofs.Links.EventsUp.{join_keeps}
use Rattle.cluster_core.proofs.Links.OksStay.{IsTimely, takes_oks}
use Rattle.cluster_core.proofs.Links.PlacesThin.{apart_before, breaks_apart}
use Rattle.cluster_core.proofs.Links.Stand.{LinksStand}
use Rattle.cluster_core.proofs.Links.ThinnedLaw.{thinned_keeps}
use Rattle.cluster_core.proofs.Nodes.AllCome.{all_first, all_takes}
use Rattle.cluster_core.proofs.Nodes.Thins.{IsNoCut, takes_thinned}

-- no client does it
abbrev IsNoClients : Event → Type 0
IsNoClients (Open node conn) = ⊥
IsNoClients (Data conn bytes) = ⊥
IsNoClients (Hang conn) = ⊥
IsNoClients event = Unit {0}

unheard : (config : Config) (conn : ℕ) (was : Heard) (event : Event) → IsNoClients event → hears config conn was event ≡ was
unfolding hears
unheard config conn was (Open node other) none = absurd none
unheard config conn was (Data other bytes) none = absurd none
unheard config conn was (Hang other) none = absurd none
unheard config conn nobody (Deliver from to) none = refl
unheard config conn elsewhere (Deliver from to) none = refl
unheard config conn (client bytes true) (Deliver from to) none = refl
unheard config conn (client bytes false) (Deliver from to) none = refl
unheard config conn nobody (Cut one other kept left) none = refl
unheard config conn elsewhere (Cut one other kept left) none = refl
unheard config conn (client bytes true) (Cut one other kept left) none = refl
unheard config conn (client bytes false) (Cut one other kept left) none = refl
unheard config conn nobody (Join one other) none = refl
unheard config conn elsewhere (Join one other) none = refl
unheard config conn (client bytes true) (Join one other) none = refl
unheard config conn (client bytes false) (Join one other) none = refl
unheard config conn nobody (Crash node image kept) none = refl
unheard config conn elsewhere (Crash node image kept) none = refl
unheard config conn (client bytes true) (Crash node image kept) none = refl
unheard config conn (client bytes false) (Crash node image kept) none = refl
unheard config conn nobody (Arm node call image kept) none = refl
unheard config conn elsewhere (Arm node call image kept) none = refl
unheard config conn (client bytes true) (Arm node call image kept) none = refl
unheard config conn (client bytes false) (Arm node call image kept) none = refl
unheard config conn nobody (Start node) none = refl
unheard config conn elsewhere (Start node) none = refl
unheard config conn (client bytes true) (Start node) none = refl
unheard config conn (client bytes false) (Start node) none = refl
unheard config conn nobody (Flow n) none = refl
unheard config conn elsewhere (Flow n) none = refl
unheard config conn (client bytes true) (Flow n) none = refl
unheard config conn (client bytes false) (Flow n) none = refl
unheard config conn nobody Heal none = refl
unheard config conn elsewhere Heal none = refl
unheard config conn (client bytes true) Heal none = refl
unheard config conn (client bytes false) Heal none = refl

same_heard : {f g : ℕ → Heard} → ((conn : ℕ) → f conn ≡ g conn) → f ≡ g
same_heard h = λ i conn. h conn i

-- what the tale has of moving behind this event is so by the master's table then
abbrev pub MovesThen : Config → (ℕ → List ℕ → Bool) → World → Event → Type 0
MovesThen config moving world event = MovesBy moving (world.steps + 1) (table_at (steps_by world event) (master_of config))

-- in the world in which nothing is lost that nodes let out
abbrev MovesWhole : Config → (ℕ → List ℕ → Bool) → World → Event → Type 0
MovesWhole config moving world event = MovesBy moving (world.steps + 1) (table_at (all_takes (stepped world) event) (master_of config))

-- a step of this event keeps the law
abbrev pub KeepsThen : (config : Config) (heard : ℕ → Heard) (world : World) → KeepsLaw config heard world → Event → Type 0
KeepsThen config heard world law event = StepKeeps config law.story law.stops (heard_then config heard event) (steps_by world event) event

-- and takes no reply back
abbrev KeepsAll : (config : Config) (heard : ℕ → Heard) (world : World) → KeepsLaw config heard world → Event → Type 0
KeepsAll config heard world law event = KeepsOn config law.story law.stops (heard_then config heard event) (steps_by world event)

-- ---- a message is delivered, if there is one

-- the world in which the step has begun holds it too
stepped_links : (config : Config) (world : World) → LinksStand config world → LinksStand config (stepped world)
stepped_links config world links = record {
  from_master = links.from_master;
  to_master = links.to_master;
  both = links.both;
  down = links.down;
  master_down = links.master_down;
  waits_up = links.waits_up;
  all_up = links.all_up;
  master_up = links.master_up;
}

stepped_beside : (config : Config) (world : World) → StandsBeside config world → StandsBeside config (stepped world)
stepped_beside config world beside = record {
  watchers = beside.watchers;
  links = stepped_links config world beside.links;
  owns = beside.owns;
  names = beside.names;
  ends = beside.ends;
  senders = beside.senders;
}

first_keeps : (config : Config) (heard : ℕ → Heard) (world : World) (law : KeepsLaw config heard world) → StandsBeside config world → NumbersFit heard
    → (from to : List ℕ) (found : List LinkMsg) → on_link world.links from to ≡ found → IsTimely (master_of config) world (Deliver from to)
    → MovesBy law.story.talk.moving world.steps (table_at (all_first world from to found) (master_of config))
    → KeepsOn config law.story law.stops heard (all_first world from to found)
unfolding all_first
first_keeps config heard world law beside fits from to [] first timely moves = same_kept config heard heard world (λ conn. refl) law
first_keeps config heard world law beside fits from to (message ∷ rest) first timely moves =
    delivered_keeps config heard world law beside fits from to message rest first (timely message rest first) moves

deliver_keeps : (config : Config) (heard : ℕ → Heard) (world : World) (law : KeepsLaw config heard world) → StandsBeside config world
    → (from to : List ℕ) → IsTimely (master_of config) (stepped world) (Deliver from to) → NumbersFit (heard_then config heard (Deliver from to)) → MovesWhole config law.story.talk.moving world (Deliver from to)
    → Keeps config heard world law (Deliver from to)
unfolding all_takes
deliver_keeps config heard world law beside from to timely fits moves =
    let same : heard_then config heard (Deliver from to) ≡ heard = same_heard (λ conn. unheard config conn (heard conn) (Deliver from to) tt) in
    begins config heard world law (Deliver from to)
    (λ then same_story. subst (λ (h : ℕ → Heard). KeepsOn config then.story then.stops h (all_takes (stepped world) (Deliver from to))) (sym same)
    (first_keeps config heard (stepped world) then (stepped_beside config world beside) (subst NumbersFit same fits) from to
    (on_link world.links from to) refl timely (subst (λ (s : Tale). MovesWhole config s.talk.moving world (Deliver from to)) (sym same_story) moves)))

-- ---- any event

still_keeps : (config : Config) (heard : ℕ → Heard) (world : World) (law : KeepsLaw config heard world) (event : Event) → IsNoClients event
    → all_takes (stepped world) event ≡ stepped world → Keeps config heard world law event
still_keeps config heard world law event none same =
    idle_keeps config heard world law event same (λ conn. unheard config conn (heard conn) event none)

-- where nothing is lost
abbrev WholeKeeps : Type 0
WholeKeeps = (config : Config) (heard : ℕ → Heard) (world : World) (event : Event) → IsNoCut event → (law : KeepsLaw config heard world) → StandsBeside config world
    → IsTimely (master_of config) (stepped world) event → NumbersFit (heard_then config heard event) → MovesWhole config law.story.talk.moving world event
    → Keeps config heard world law event

whole_keeps : WholeKeeps
unfolding all_takes
whole_keeps config heard world (Open node conn) is law beside timely fits moves = opens_keeps config heard world law node conn
whole_keeps config heard world (Data conn bytes) is law beside timely fits moves = bytes_keep config heard world law conn bytes beside.links fits
whole_keeps config heard world (Hang conn) is law beside timely fits moves = hangs_keep config heard world law conn
whole_keeps config heard world (Deliver from to) is law beside timely fits moves = deliver_keeps config heard world law beside from to timely fits moves
whole_keeps config heard world (Cut one other kept left) is law beside timely fits moves = absurd is
whole_keeps config heard world (Join one other) is law beside timely fits moves = absurd is
whole_keeps config heard world (Crash node image kept) is law beside timely fits moves = still_keeps config heard world law (Crash node image kept) tt refl
whole_keeps config heard world (Arm node call image kept) is law beside timely fits moves = still_keeps config heard world law (Arm node call image kept) tt refl
whole_keeps config heard world (Start node) is law beside timely fits moves = still_keeps config heard world law (Start node) tt refl
whole_keeps config heard world (Flow n) is law beside timely fits moves = still_keeps config heard world law (Flow n) tt refl
whole_keeps config heard world Heal is law beside timely fits moves = still_keeps config heard world law Heal tt refl

-- but for what is lost
lost_keeps : (config : Config) (heard : ℕ → Heard) (world : World) (event : Event) → IsNoCut event → (law : KeepsLaw config heard world) → StandsBeside config world
    → LinksStand config (steps_by world event) → IsTimely (master_of config) (stepped world) event → NumbersFit (heard_then config heard event)
    → MovesThen config law.story.talk.moving world event → KeepsAll config heard world law event
lost_keeps config heard world event is law beside then timely fits moves =
    let me : List ℕ = master_of config in
    let thin = takes_thinned (stepped world) event is in
    thinned_keeps config law.story law.stops (heard_then config heard event) (all_takes (stepped world) event) (steps_by world event)
    (apart_before me (all_takes (stepped world) event) (steps_by world event) thin.nodes thin.broken (breaks_apart config (steps_by world event) then)) thin
    (takes_oks me law.master law.feeds.nobodys (stepped world) event is (master_is (node_at world me) law.master law.nodes.is_there) timely)
    (whole_keeps config heard world event is law beside timely fits
    (subst (MovesBy law.story.talk.moving (world.steps + 1))
    (ap (λ n. table_by (as_master (value_at (slice_cmp nat_cmp) n me))) thin.nodes) moves))

-- what the world in which the step has begun comes to
module _ (config : Config) (heard : ℕ → Heard) (world : World) (event : Event) (law : KeepsLaw config heard world) (none : IsNoClients event) where
  same : heard_then config heard event ≡ heard
  same = same_heard (λ conn. unheard config conn (heard conn) event none)

  step_on : ((then : KeepsLaw config heard (stepped world)) → KeepsOn config then.story then.stops heard (steps_by world event)) → KeepsAll config heard world law event
  step_on keeps =
      let step = stepped_law config heard world law in
      subst (λ (h : ℕ → Heard). KeepsOn config law.story law.stops h (steps_by world event)) (sym same)
      (subst (λ (story : Tale). KeepsOn config story law.stops heard (steps_by world event)) step.same
      (subst (λ (stops : ℕ → Stop). KeepsOn config step.then.story stops heard (steps_by world event)) step.same_stops (keeps step.then)))

  -- a cut may take replies back
  step_behind : ((then : KeepsLaw config heard (stepped world)) → KeepsBehind config then.story then.stops heard (steps_by world event))
      → KeepsBehind config law.story law.stops (heard_then config heard event) (steps_by world event)
  step_behind keeps =
      let step = stepped_law config heard world law in
      subst (λ (h : ℕ → Heard). KeepsBehind config law.story law.stops h (steps_by world event)) (sym same)
      (subst (λ (story : Tale). KeepsBehind config story law.stops heard (steps_by world event)) step.same
      (subst (λ (stops : ℕ → Stop). KeepsBehind config step.then.story stops heard (steps_by world event)) step.same_stops (keeps step.then)))

-- ---- the master takes a message over a link that has broken

record IsLate (config : Config) (world : World) (from to : List ℕ) : Type 0 where
  message : LinkMsg
  rest : List LinkMsg
  first : on_link world.links from to ≡ message ∷ rest
  its : to ≡ master_of config
  cut : is_broken world.broken (master_of config) from ≡ true

late_or_timely : (config : Config) (world : World) (from to : List ℕ) → IsLate config world from to ⊎ IsTimely (master_of config) world (Deliver from to)
late_or_timely config world from to = by_queue (on_link world.links from to) refl
  where
    by_broken : (message : LinkMsg) (rest : List LinkMsg) → on_link world.links from to ≡ message ∷ rest → to ≡ master_of config → (cut : Bool)
        → is_broken world.broken (master_of config) from ≡ cut → IsLate config world from to ⊎ IsTimely (master_of config) world (Deliver from to)
    by_broken message rest first its true e = inl (record { message = message; rest = rest; first = first; its = its; cut = e })
    by_broken message rest first its false e = inr (λ other more is same. e)

    by_queue : (queue : List LinkMsg) → on_link world.links from to ≡ queue → IsLate config world from to ⊎ IsTimely (master_of config) world (Deliver from to)
    by_queue [] none = inr (λ message rest first its. (let no : [] ≡ message ∷ rest = sym none ∙ first in cc))
    by_queue (message ∷ rest) first = ⊎_elim
        (λ (its : to ≡ master_of config). by_broken message rest first its (is_broken world.broken (master_of config) from) refl)
        (λ (ne : to ≢ master_of config). inr (λ other more is its. absurd (ne its)))
        (same_or_other (slice_cmp nat_cmp) names_apart to (master_of config))

late_world : (world : World) (from to me : List ℕ) (message : LinkMsg) (rest : List LinkMsg) → on_link world.links from to ≡ message ∷ rest → to ≡ me
    → steps_by world (Deliver from to) ≡ comes (taken_from_link (stepped world) from me) me (From from message)
unfolding takes deliver_first
late_world world from to me message rest first its =
    ap (deliver_first (stepped world) from to) first ∙ ap (λ t. comes (taken_from_link (stepped world) from t) t (From from message)) its

late_step : (config : Config) (heard : ℕ → Heard) (world : World) (law : KeepsLaw config heard world) → StandsBeside config world
    → NumbersFit heard → (from to : List ℕ) → IsLate config world from to → KeepsAll config heard world law (Deliver from to)
late_step config heard world law beside fits from to late =
    let me : List ℕ = master_of config in
    let first : on_link world.links from me ≡ late.message ∷ late.rest = ap (on_link world.links from) (sym late.its) ∙ late.first in
    step_on config heard world (Deliver from to) law tt (λ begun.
    subst (KeepsOn config begun.story begun.stops heard) (sym (late_world world from to me late.message late.rest late.first late.its))
    (⊎_elim
    (λ (front : (it : Front) × (front_at world from ≡ Some it)).
    late_keeps config heard (stepped world) begun fits from front.0 late.message late.rest front.1 late.cut first)
    (λ (home : (it : BackNode) × (home_at world from ≡ Some it)).
    absurd (let no : true ≡ false = sym late.cut ∙ beside.links.from_master from (subst IsSome (sym home.1) refl) in true_false no))
    (beside.senders from late.message late.rest first)))
  where
    true_false : true ≡ false → ⊥
    true_false k = cc

deliver_step : (config : Config) (heard : ℕ → Heard) (world : World) (from to : List ℕ) (law : KeepsLaw config heard world) → StandsBeside config world
    → LinksStand config (steps_by world (Deliver from to)) → NumbersFit (heard_then config heard (Deliver from to))
    → MovesThen config law.story.talk.moving world (Deliver from to) → KeepsAll config heard world law (Deliver from to)
deliver_step config heard world from to law beside then fits moves = ⊎_elim
    (λ (late : IsLate config world from to).
    late_step config heard world law beside (subst NumbersFit (same_heard (λ conn. unheard config conn (heard conn) (Deliver from to) tt)) fits) from to late)
    (λ (timely : IsTimely (master_of config) world (Deliver from to)).
    lost_keeps config heard world (Deliver from to) tt law beside then timely fits moves)
    (late_or_timely config world from to)

still_behind : (config : Config) (heard : ℕ → Heard) (world : World) (event : Event) → IsNoCut event → (law : KeepsLaw config heard world) → StandsBeside config world
    → LinksStand config (steps_by world event) → IsTimely (master_of config) (stepped world) event → NumbersFit (heard_then config heard event)
    → MovesThen config law.story.talk.moving world event → KeepsThen config heard world law event
still_behind config heard world event is law beside then timely fits moves =
    step_keeps config law.story law.stops (heard_then config heard event) (steps_by world event) event
    (lost_keeps config heard world event is law beside then timely fits moves)

-- EVERY EVENT KEEPS THE LAW: a link joins two nodes
abbrev pub EventKeeps : Type 0
EventKeeps = (config : Config) (heard : ℕ → Heard) (world : World) (event : Event) (law : KeepsLaw config heard world) → StandsBeside config world
    → ((one other : List ℕ) → is_broken world.broken one other ≡ true → one ≢ other)
    → LinksStand config (steps_by world event) → NumbersFit (heard_then config heard event) → MovesThen config law.story.talk.moving world event
    → KeepsThen config heard world law event

pub event_keeps : EventKeeps
unfolding takes
event_keeps config heard world (Cut one other kept left) law beside apart then fits moves = (
  step_behind config heard world (Cut one other kept left) law tt
      (λ begun. cut_keeps config heard (stepped world) begun one other kept left (stepped_links config world beside.links) then),
  λ none. absurd none,
)
event_keeps config heard world (Join one other) law beside apart then fits moves =
    step_keeps config law.story law.stops (heard_then config heard (Join one other)) (steps_by world (Join one other)) (Join one other)
    (step_on config heard world (Join one other) law tt
    (λ begun. join_keeps config heard (stepped world) begun one other (stepped_links config world beside.links) apart))
event_keeps config heard world (Deliver from to) law beside apart then fits moves =
    step_keeps config law.story law.stops (heard_then config heard (Deliver from to)) (steps_by world (Deliver from to)) (Deliver from to)
    (deliver_step config heard world from to law beside then fits moves)
event_keeps config heard world (Open node conn) law beside apart then fits moves =
    still_behind config heard world (Open node conn) tt law beside then tt fits moves
event_keeps config heard world (Data conn bytes) law beside apart then fits moves =
    still_behind config heard world (Data conn bytes) tt law beside then tt fits moves
event_keeps config heard world (Hang conn) law beside apart then fits moves =
    still_behind config heard world (Hang conn) tt law beside then tt fits moves
event_keeps config heard world (Crash node image kept) law beside apart then fits moves =
    still_behind config heard world (Crash node image kept) tt law beside then tt fits moves
event_keeps config heard world (Arm node call image kept) law beside apart then fits moves =
    still_behind config heard world (Arm node call image kept) tt law beside then tt fits moves
event_keeps config heard world (Start node) law beside apart then fits moves =
    still_behind config heard world (Start node) tt law beside then tt fits moves
event_keeps config heard world (Flow n) law beside apart then fits moves =
    still_behind config heard world (Flow n) tt law beside then tt fits moves
event_keeps config heard world Heal law beside apart then fits moves =
    still_behind config heard world Heal tt law beside then tt fits moves
