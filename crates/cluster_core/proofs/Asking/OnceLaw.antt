-- In each step of a run one ask of a command goes out to a server where the command comes to wait for its answer, and else none.
use Rattle.std.proofs.Common.{◌≡◌, ℕ, nat_eq, Bool, true, false, cond, ◌&&◌, List, [], ◌∷◌, ◌++◌, Option, None, Some, refl, sym, ◌∙◌, ap, subst, arith}
use Rattle.std.specs.Prelude.{⊤, count_by}
use Rattle.std.specs.Ordering.{nat_cmp}
use Rattle.std.specs.Cmp.Lexicographic.{pointwise, same_text, slice_cmp}
use Rattle.std.proofs.lemmas.Bool.{and_right}
use Rattle.std.proofs.lemmas.List.{append-nil, append_cancel_left}
use Rattle.feed_links.proofs.Names.{same_name}
use Rattle.front_core.specs.declared.front.Front.{Front}
use Rattle.front_core.specs.Front.{bytes_in, connect, deliver, hang}
use Rattle.front_core.proofs.OwnOuts.{AreLetOut, IsLetOut}
use Rattle.link_msg.specs.declared.answer.AnswerBody.TheVariants.{Moved}
use Rattle.link_msg.specs.declared.message.LinkMsg.{LinkMsg}
use Rattle.link_msg.specs.declared.message.LinkMsg.TheVariants.{Up, End, Line, Ask, Answer}
use Rattle.link_msg.specs.declared.out.Out.{Out}
use Rattle.link_msg.specs.declared.out.Out.TheVariants.{Client, Close, Link, Mark, Told}
use Rattle.link_queue.specs.Broken.{is_broken}
use Rattle.link_queue.specs.Links.{on_link, same_link}
use Rattle.link_queue.proofs.Wires.{same_itself, same_names}
use Rattle.mark_history.proofs.Numbers.{count_cons}
use Rattle.mark_history.proofs.Marks.{count_both}
use Rattle.mur_base.specs.Map.{IsInOrder}
use Rattle.mur_base.specs.declared.point.AskId.{AskId}
use Rattle.mur_config.specs.declared.config.Config.{Config}
use Rattle.mur_config.specs.Nodes.{AreNodes}
use Rattle.node_step.specs.declared.input.NodeInput.{NodeInput}
use Rattle.node_step.specs.declared.input.NodeInput.TheVariants.{Opened, Piece, Hung, From}
use Rattle.node_step.specs.declared.node.NodeState.{NodeState}
use Rattle.node_step.specs.declared.node.NodeState.TheVariants as state
use Rattle.node_step.specs.NodeStep.{as_front, front_takes, takes as node_takes}
use Rattle.node_step.proofs.NodeKinds.{a_front}
use Rattle.schedule_text.specs.declared.event.Event.{Event}
use Rattle.schedule_text.specs.declared.event.Event.TheVariants.{Deliver}
use Rattle.cluster_core.specs.declared.world.World.{World}
use Rattle.cluster_core.specs.Flow.{run_steps}
use Rattle.cluster_core.specs.Headline.Asks.{IsRightlySent, taken_by}
use Rattle.cluster_core.specs.Headline.AsksOnce.{AsksAsItWaits, AsksInTheStep, AsksOnceEach, Awaits, ComesToWait, TakesMoved, is_ask_of}
use Rattle.cluster_core.specs.Headline.OneNode.{leaves_on}
use Rattle.cluster_core.specs.World.{front_at, node_at, start, steps_by}
use Rattle.cluster_core.proofs.Asking.Asked.{asked_in, count_one, is_asking}
use Rattle.cluster_core.proofs.Asking.FrontAsked.{Comes, FrontAsks, IsAskedSo, IsMoved, bytes_ask, connect_asks, hang_asks, message_asks}
use Rattle.cluster_core.proofs.Asking.FrontAsked.IsAskedSo.{is_asked, isnt_asked}
use Rattle.cluster_core.proofs.Asking.NodeAsks.{back_asks, back_other, master_asks, master_other, taken_in}
use Rattle.cluster_core.proofs.Asking.StepSends.{IsBrought, StepSends, all_sent, sent_to, step_sends}
use Rattle.cluster_core.proofs.Asking.StepSends.StepSends.{is_away, rests, sends}
use Rattle.cluster_core.proofs.Links.StandLaw.{ups_in_order}
use Rattle.cluster_core.proofs.Runs.OneNodeLaw.{one_more_step}
use Rattle.cluster_core.proofs.Runs.QuietNodes.{AnyClient}

-- ---- counts

link_count : (node server other : List ℕ) (message : LinkMsg) (id : AskId) (same : Bool) → same_link node server node other ≡ same
    → count_by (is_ask_of id) (cond same (message ∷ []) []) ≡ cond (is_ask_of id message && pointwise nat_eq other server) 1 0
link_count node server other message id true e =
    let names : other ≡ server = sym (same_names node server node other e).1 in
    let itself : pointwise nat_eq other server ≡ true = subst (λ n. pointwise nat_eq other n ≡ true) names (same_name other) in
    count_one (is_ask_of id) message ∙ by (is_ask_of id message) (pointwise nat_eq other server) itself
  where
    by : (ask same : Bool) → same ≡ true → ◌≡◌ {A = ℕ} (cond ask 1 0) (cond (ask && same) 1 0)
    by true same e = ap {B = ℕ} (λ b. cond b 1 0) (sym e)
    by false same e = refl
link_count node server other message id false e =
    sym (ap {B = ℕ} (λ b. cond b 1 0) (and_right (is_ask_of id message) (pointwise nat_eq other server) (apart (pointwise nat_eq other server) refl)))
  where
    apart : (b : Bool) → pointwise nat_eq other server ≡ b → pointwise nat_eq other server ≡ false
    apart true is = absurd (let names = same_text other server (sym is) in
        let same : same_link node server node other ≡ true = subst (λ n. same_link node server node n ≡ true) (sym names) (same_itself node server) in
        let no : true ≡ false = sym same ∙ e in cc)
    apart false is = is

out_count : (node server : List ℕ) (id : AskId) (out : Out) → count_by (is_ask_of id) (sent_to node server out) ≡ cond (is_asking id server out) 1 0
out_count node server id (Link other message) = link_count node server other message id (same_link node server node other) refl
out_count node server id (Client conn bytes) = refl
out_count node server id (Close conn) = refl
out_count node server id (Mark ask counts) = refl
out_count node server id (Told ask how) = refl

sent_count : (node server : List ℕ) (id : AskId) (outs : List Out) → count_by (is_ask_of id) (all_sent node server outs) ≡ asked_in id server outs
sent_count node server id [] = refl
sent_count node server id (out ∷ outs) =
    count_both (is_ask_of id) (sent_to node server out) (all_sent node server outs)
    ∙ omega (arith, out_count node server id out, sent_count node server id outs, count_cons (is_asking id server) out outs)

-- a node that is no frontend asks nobody
none_asked : (id : AskId) (server : List ℕ) (outs : List Out) → AreLetOut AnyClient (IsRightlySent [] None None) ⊤ outs → asked_in id server outs ≡ 0
none_asked id server [] are = refl
none_asked id server (out ∷ outs) are = omega (arith, count_cons (is_asking id server) out outs, by out are.0, none_asked id server outs are.1)
  where
    by : (out : Out) → IsLetOut AnyClient (IsRightlySent [] None None) ⊤ out → ◌≡◌ {A = ℕ} (cond (is_asking id server out) 1 0) 0
    by (Link node (Ask ask)) is = absurd (let no : None ≡ Some is.0 = is.1 in cc)
    by (Link node (Answer answer)) is = refl
    by (Link node (Line line)) is = refl
    by (Link node Up) is = refl
    by (Link node End) is = refl
    by (Client conn bytes) is = refl
    by (Close conn) is = refl
    by (Mark ask counts) is = refl
    by (Told ask how) is = refl

-- ---- a frontend, by what comes to it

record FrontSteps (front : Front) (input : NodeInput) : Type 0 where
  now : Front
  is : as_front (Some (front_takes front input).state) ≡ Some now
  asks : FrontAsks input front (record { front = now; outs = (front_takes front input).outs })

-- of the links that it has as up each stands there once
abbrev HasUps : Front → Type 0
HasUps front = IsInOrder (slice_cmp nat_cmp) front.ups

front_steps : (front : Front) (input : NodeInput) → HasUps front → FrontSteps front input
unfolding front_takes as_front
front_steps front (Opened conn) order = record { now = (connect front conn).front; is = refl; asks = connect_asks front conn }
front_steps front (Piece conn bytes) order = record { now = (bytes_in front conn bytes).front; is = refl; asks = bytes_ask front conn bytes }
front_steps front (Hung conn) order = record { now = hang front conn; is = refl; asks = hang_asks front conn }
front_steps front (From name message) order =
    record { now = (deliver front name message).front; is = refl; asks = message_asks front name message order }

-- ---- a step

no_front_there : as_front None ≡ None
unfolding as_front
no_front_there = refl

-- nobody waits at a node that is no frontend
nobody_waits : (found : Option Front) (id : AskId) (server : List ℕ) → found ≡ None → Awaits found id server → ⊥
nobody_waits found id server none waits = (let no : None ≡ Some waits.front = sym none ∙ waits.is in cc)

module _ (world next : World) (event : Event) (node server : List ℕ) (id : AskId) where
  -- what was taken and is the server's answer
  moved_in : (input : NodeInput) → IsBrought event node input → taken_by event world ≡ taken_in input → TakesMoved event world node server id
      → IsMoved input id server
  moved_in (From name message) brought taken moved =
      let names : name ≡ server = (let same : Deliver name node ≡ Deliver server node = sym brought ∙ moved.event_is in cc) in
      let messages : message ≡ Answer (record { id = id; body = Moved server }) =
      (let same : Some message ≡ Some (Answer (record { id = id; body = Moved server })) = sym taken ∙ moved.taken in cc) in
      ap (λ n. From n message) names ∙ ap (From server) messages
  moved_in (Opened conn) brought taken moved =
      absurd (let no : None ≡ Some (Answer (record { id = id; body = Moved server })) = sym taken ∙ moved.taken in cc)
  moved_in (Piece conn bytes) brought taken moved =
      absurd (let no : None ≡ Some (Answer (record { id = id; body = Moved server })) = sym taken ∙ moved.taken in cc)
  moved_in (Hung conn) brought taken moved =
      absurd (let no : None ≡ Some (Answer (record { id = id; body = Moved server })) = sym taken ∙ moved.taken in cc)

  takes_moved : (input : NodeInput) → IsBrought event node input → taken_by event world ≡ taken_in input → IsMoved input id server
      → TakesMoved event world node server id
  takes_moved input brought taken is = record { event_is = subst (IsBrought event node) is brought; taken = taken ∙ ap taken_in is }

  none_comes : (count : ℕ) → (ComesToWait event world next node server id → ⊥) → count ≡ 0 → AsksAsItWaits event world next node server id count
  none_comes count none zero = record { once = λ comes. absurd (none comes); never = λ no. zero }

  module _ (front now : Front) (input : NodeInput) (was : front_at world node ≡ Some front) (then : front_at next node ≡ Some now)
      (brought : IsBrought event node input) (taken : taken_by event world ≡ taken_in input) where
    comes_there : ComesToWait event world next node server id → Comes input front now id server
    comes_there comes = record {
      waits = subst (λ f. Awaits f id server) then comes.waits;
      is_new = λ waits. moved_in input brought taken (comes.is_new (subst (λ f. Awaits f id server) (sym was) waits));
    }

    comes_here : Comes input front now id server → ComesToWait event world next node server id
    comes_here comes = record {
      waits = subst (λ f. Awaits f id server) (sym then) comes.waits;
      is_new = λ waits. takes_moved input brought taken (comes.is_new (subst (λ f. Awaits f id server) was waits));
    }

    by_front : (outs : List Out) → IsAskedSo input front (record { front = now; outs = outs }) id server
        → AsksAsItWaits event world next node server id (asked_in id server outs)
    by_front outs (is_asked comes one) = record { once = λ c. one; never = λ none. absurd (none (comes_here comes)) }
    by_front outs (isnt_asked none zero) = none_comes (asked_in id server outs) (λ comes. none (comes_there comes)) zero

  abbrev HasUpsIn : NodeState → Type 0
  HasUpsIn (state.Front front) = HasUps front
  HasUpsIn it = ⊤

  by_node : (it : NodeState) (input : NodeInput) → HasUpsIn it → node_at world node ≡ Some it → IsBrought event node input
      → taken_by event world ≡ taken_in input → node_at next node ≡ Some (node_takes it input).state
      → AsksAsItWaits event world next node server id (asked_in id server (node_takes it input).outs)
  unfolding node_takes
  by_node (state.Front front) input order there brought taken then =
      let steps = front_steps front input order in
      by_front front steps.now input (ap as_front there ∙ a_front front) (ap as_front then ∙ steps.is) brought taken _ (steps.asks id server)
  by_node (state.Back home) input order there brought taken then =
      none_comes _ (λ comes. nobody_waits (front_at next node) id server (ap as_front then ∙ back_other home input) comes.waits)
      (none_asked id server _ (back_asks [] None None refl home input))
  by_node (state.Master master) input order there brought taken then =
      none_comes _ (λ comes. nobody_waits (front_at next node) id server (ap as_front then ∙ master_other master input) comes.waits)
      (none_asked id server _ (master_asks [] None None refl master input))

  -- what was sent is this
  module _ (sent : List LinkMsg) (whole : is_broken world.broken node server ≡ false)
      (order : (it : NodeState) → node_at world node ≡ Some it → HasUpsIn it)
      (behind : on_link next.links node server ≡ leaves_on event node server (on_link world.links node server) ++ sent) where
    it_is : (more : List LinkMsg) → on_link next.links node server ≡ leaves_on event node server (on_link world.links node server) ++ more → more ≡ sent
    it_is more is = append_cancel_left (leaves_on event node server (on_link world.links node server)) more sent (sym is ∙ behind)

    none_is : on_link next.links node server ≡ leaves_on event node server (on_link world.links node server) → count_by (is_ask_of id) sent ≡ 0
    none_is is = ap (count_by (is_ask_of id)) (sym (it_is [] (is ∙ sym (append-nil (leaves_on event node server (on_link world.links node server))))))

    by_sends : StepSends world event node next → AsksAsItWaits event world next node server id (count_by (is_ask_of id) sent)
    by_sends (rests none same left) =
        none_comes _
        (λ comes.
        let moved = comes.is_new (subst (λ n. Awaits (as_front n) id server) same comes.waits) in
        (let no : None ≡ Some (Answer (record { id = id; body = Moved server })) = sym none ∙ moved.taken in cc))
        (none_is (left server))
    by_sends (is_away was now left) =
        none_comes _ (λ comes. nobody_waits (front_at next node) id server (ap as_front now ∙ no_front_there) comes.waits) (none_is (left server))
    by_sends (sends it input there brought taken then links lost) =
        subst (AsksAsItWaits event world next node server id)
        (sym (sent_count node server id (node_takes it input).outs)
        ∙ ap (count_by (is_ask_of id)) (it_is (all_sent node server (node_takes it input).outs) (links server whole)))
        (by_node it input (order it there) there brought taken then)

-- each frontend is so
abbrev HaveUps : World → Type 0
HaveUps world = (node : List ℕ) (front : Front) → front_at world node ≡ Some front → HasUps front

step_asks : (world : World) (event : Event) → HaveUps world → AsksInTheStep event world (steps_by world event)
step_asks world event order node server sent id is whole behind =
    by_sends world (steps_by world event) event node server id sent whole each behind (step_sends world event node is)
  where
    each : (it : NodeState) → node_at world node ≡ Some it → HasUpsIn world (steps_by world event) event node server id it
    each (state.Front front) there = order node front (ap as_front there ∙ a_front front)
    each (state.Back home) there = tt
    each (state.Master master) there = tt

pub asks_once : (config : Config) (events : List Event) → AreNodes config.nodes → AsksOnceEach config events
asks_once config events are before event later parts =
    let world = run_steps (start config) before in
    subst (AsksInTheStep event world) (sym (one_more_step (start config) before event)) (step_asks world event (ups_in_order config before are))
