-- What a node lets out in a step: an ask is one of a frontend, to the server to which its records send it, and a line of a frontend goes to the master,
-- rightly.
use Rattle.std.proofs.Common.{◌≡◌, ◌⊎◌, inl, inr, ℕ, nat_eq, Bool, true, false, List, [], ◌∷◌, Option, None, Some, refl, sym, subst, ◌∙◌}
use Rattle.std.specs.Prelude.{⊤}
use Rattle.std.specs.List.{AllByRecursion}
use Rattle.std.specs.Ordering.{nat_cmp}
use Rattle.std.specs.Cmp.Lexicographic.{pointwise, slice_cmp}
use Rattle.std.proofs.Math.Logic.{⊎_elim}
use Rattle.ask_routes.specs.Barrier.{barrier_answered}
use Rattle.back_node.specs.declared.node.BackNode.{BackNode}
use Rattle.feed_core.specs.Above.{IsNearestAbove}
use Rattle.feed_core.specs.Feed.{Recs, rec_at}
use Rattle.feed_core.specs.Routes.{above_at, home_by, home_for, server_by}
use Rattle.feed_core.specs.declared.rec.Rec.{Rec}
use Rattle.feed_core.specs.declared.replica.Replica.{Replica}
use Rattle.feed_core.proofs.RoutesLaw.{found_nearest}
use Rattle.front_core.specs.declared.front.Front.{Front}
use Rattle.front_core.specs.Front.{Stepped, bytes_in, connect, connection_at, deliver, line_by, line_from, up_from, waits_for, ways_of, with_up}
use Rattle.front_core.proofs.OwnOuts.{AreLetOut, IsLetOut, MayAsk, MovesBy, bytes_own, connect_own, message_own}
use Rattle.imap_types.specs.declared.op.Op.TheVariants.{Create}
use Rattle.link_msg.specs.declared.answer.AnswerBody.TheVariants.{Moved}
use Rattle.link_msg.specs.declared.ask.FrontAsk.{FrontAsk}
use Rattle.link_msg.specs.declared.message.LinkMsg.{LinkMsg}
use Rattle.link_msg.specs.declared.message.LinkMsg.TheVariants.{Up, End, Line, Ask, Answer}
use Rattle.link_msg.specs.declared.out.Out.{Out}
use Rattle.link_msg.specs.declared.out.Out.TheVariants.{Client, Close, Link, Mark, Told}
use Rattle.master_core.specs.declared.master.Master.{Master}
use Rattle.mupdate_codec.specs.declared.tag.Tag.{Tag}
use Rattle.mur_base.specs.Map.{IsInOrder}
use Rattle.mur_base.specs.declared.point.AskId.{AskId}
use Rattle.mur_config.specs.declared.node.Node.{Node}
use Rattle.node_step.specs.declared.input.NodeInput.{NodeInput}
use Rattle.node_step.specs.declared.input.NodeInput.TheVariants.{Opened, Piece, Hung, From}
use Rattle.node_step.specs.declared.node.NodeState.{NodeState}
use Rattle.node_step.specs.declared.node.NodeState.TheVariants as state
use Rattle.node_step.specs.NodeStep.{as_front, back_takes, front_takes, master_takes, takes as node_takes}
use Rattle.node_step.proofs.OwnOuts.{ComesFrom, MayMark, takes_lets}
use Rattle.cluster_core.specs.Headline.Asks.{IsFirstBackend, IsRightLine, IsRightlyAsked, IsRightlySent}
use Rattle.cluster_core.specs.Headline.Asks.IsRightlyAsked.{by_record, by_name_above, by_no_name}
use Rattle.cluster_core.proofs.Asking.Noops.{MaySay, bytes_say, connect_says, message_says}
use Rattle.cluster_core.proofs.Nodes.Known.{answer_known, bytes_known, ends_known, ok_known}
use Rattle.cluster_core.proofs.Runs.QuietNodes.{AnyClient, any_connections, any_watchers}

-- ---- by the records of a frontend

asked_by_record : (nodes : List Node) (recs : Recs) (ask : FrontAsk) (server : List ℕ) (found : Option Rec) → rec_at recs ask.name ≡ found
    → server_by found ≡ Some server → IsRightlyAsked nodes recs ask server
asked_by_record nodes recs ask server None e is = cc
asked_by_record nodes recs ask server (Some it) e is = by_record it e (sym cc)

asked_to_make : (nodes : List Node) (recs : Recs) (first : List ℕ) (ask : FrontAsk) (found : Option Rec) → IsFirstBackend nodes first → ask.op ≡ Create
    → IsNearestAbove recs ask.name found → IsRightlyAsked nodes recs ask (home_by first found)
asked_to_make nodes recs first ask None is makes near = by_no_name makes near is
asked_to_make nodes recs first ask (Some it) is makes near = by_name_above makes it near refl

-- what a frontend may send, whatever its lines are
abbrev MaySendBy : List Node → Front → List ℕ → LinkMsg → Type 0
MaySendBy nodes now server (Ask ask) = IsRightlySent nodes None (Some now) server (Ask ask)
MaySendBy nodes now server message = ⊤

-- a frontend whose replica stays asks rightly
may_ask_by : (nodes : List Node) (front now : Front) → IsFirstBackend nodes front.first → now.replica ≡ front.replica
    → MayAsk (MaySendBy nodes now) (ways_of front)
may_ask_by nodes front now is same = record {
  master = λ bytes. tt;
  named = λ ask server at. (
    now,
    refl,
    subst (λ (r : Replica). IsRightlyAsked nodes r.records ask server) (sym same)
        (asked_by_record nodes front.replica.records ask server (rec_at front.replica.records ask.name) refl at),
  );
  made = λ ask makes. (
    now,
    refl,
    subst (λ (r : Replica). IsRightlyAsked nodes r.records ask (home_for front.replica.records front.first ask.name)) (sym same)
        (asked_to_make nodes front.replica.records front.first ask (above_at front.replica.records ask.name) is makes
        (found_nearest front.replica.records ask.name)),
  );
}

-- ---- a frontend

-- a message sends no command on
abbrev pub MovesNobody : NodeInput → Type 0
MovesNobody (From name (Answer answer)) = (server : List ℕ) → answer.body ≡ Moved server → ⊥
MovesNobody input = ⊤

moves_none : (may : List ℕ → LinkMsg → Type 0) (name : List ℕ) (message : LinkMsg) → MovesNobody (From name message) → MovesBy may message
moves_none may name (Answer answer) none = λ server e. absurd (none server e)
moves_none may name Up none = tt
moves_none may name End none = tt
moves_none may name (Line line) none = tt
moves_none may name (Ask ask) none = tt

module _ (nodes : List Node) (front : Front) where
  -- it sends no ask, whatever its replica is then
  abbrev AsksNobody : List Out → Type 0
  AsksNobody outs = (now : Front) → AreLetOut AnyClient (MaySendBy nodes now) ⊥ outs

  -- its replica stays, or it asks nobody
  abbrev StaysOrIsSilent : Stepped → Type 0
  StaysOrIsSilent stepped = (stepped.front.replica ≡ front.replica) ⊎ AsksNobody stepped.outs

  up_silent : (from : List ℕ) (is_master : Bool) → StaysOrIsSilent (up_from is_master (with_up front from))
  unfolding up_from
  up_silent from true = inr (λ now. (tt, tt))
  up_silent from false = inl refl

  line_silent_by : (bytes : List ℕ) (found : Option AskId) → StaysOrIsSilent (line_by front bytes found)
  line_silent_by bytes None = inr (λ now. tt)
  line_silent_by bytes (Some id) = inl (ok_known front id (connection_at front id.conn)).replica

  line_silent : (bytes : List ℕ) (is_master : Bool) → StaysOrIsSilent (line_from is_master front bytes)
  unfolding line_from
  line_silent bytes true = line_silent_by bytes (barrier_answered bytes)
  line_silent bytes false = inl refl

  message_silent : (from : List ℕ) (message : LinkMsg) → StaysOrIsSilent (deliver front from message)
  unfolding deliver
  message_silent from (Answer answer) = inl (answer_known front answer (waits_for (connection_at front (answer.id).conn) from)).replica
  message_silent from Up = up_silent from (pointwise nat_eq from front.master)
  message_silent from End = inl (ends_known front from).replica
  message_silent from (Line line) = line_silent line (pointwise nat_eq from front.master)
  message_silent from (Ask ask) = inl refl

message_asks : (nodes : List Node) (front : Front) (from : List ℕ) (message : LinkMsg) → IsFirstBackend nodes front.first
    → MovesNobody (From from message)
    → AreLetOut AnyClient (MaySendBy nodes (deliver front from message).front) ⊥ (deliver front from message).outs
message_asks nodes front from message is none =
    let now = (deliver front from message).front in
    ⊎_elim
    (λ (same : now.replica ≡ front.replica).
    (message_own AnyClient (MaySendBy nodes now) front (any_connections front) (may_ask_by nodes front now is same) from message
    (moves_none (MaySendBy nodes now) from message none)).outs)
    (λ (silent : AsksNobody nodes front (deliver front from message).outs). silent now)
    (message_silent nodes front from message)

-- the message that an input is
abbrev pub taken_in : NodeInput → Option LinkMsg
taken_in (From name message) = Some message
taken_in input = None

-- an output that may be sent as an ask and as a line
out_joined : (nodes : List Node) (taken : Option LinkMsg) (now : Front) (out : Out) → IsLetOut AnyClient (MaySendBy nodes now) ⊥ out
    → IsLetOut AnyClient (MaySay taken now) ⊤ out → IsLetOut AnyClient (IsRightlySent nodes taken (Some now)) ⊥ out
out_joined nodes taken now (Link node (Ask ask)) asks says = asks
out_joined nodes taken now (Link node (Line bytes)) asks says = λ front is. (let same : now ≡ front = cc in
    subst (λ (f : Front). (node ≡ f.master) × IsRightLine taken f bytes) same says)
out_joined nodes taken now (Link node message) asks says = tt
out_joined nodes taken now (Client conn bytes) asks says = tt
out_joined nodes taken now (Close conn) asks says = tt
out_joined nodes taken now (Mark ask counts) asks says = asks
out_joined nodes taken now (Told ask how) asks says = tt

all_joined : (nodes : List Node) (taken : Option LinkMsg) (now : Front) (outs : List Out) → AreLetOut AnyClient (MaySendBy nodes now) ⊥ outs
    → AreLetOut AnyClient (MaySay taken now) ⊤ outs → AreLetOut AnyClient (IsRightlySent nodes taken (Some now)) ⊥ outs
all_joined nodes taken now [] asks say = tt
all_joined nodes taken now (out ∷ outs) asks say = (out_joined nodes taken now out asks.0 say.0, all_joined nodes taken now outs asks.1 say.1)

front_asks : (nodes : List Node) (front : Front) (input : NodeInput) → IsFirstBackend nodes front.first → IsInOrder (slice_cmp nat_cmp) front.ups
    → MovesNobody input
    → AreLetOut AnyClient (IsRightlySent nodes (taken_in input) (as_front (Some (front_takes front input).state))) ⊥ (front_takes front input).outs
unfolding front_takes as_front
front_asks nodes front (Opened conn) is order none =
    all_joined nodes None _ (connect front conn).outs (connect_own AnyClient (MaySendBy nodes _) front (any_connections front) conn tt).outs
    (connect_says None front conn)
front_asks nodes front (Piece conn bytes) is order none =
    all_joined nodes None _ (bytes_in front conn bytes).outs
    (bytes_own AnyClient (MaySendBy nodes _) front (any_connections front) (may_ask_by nodes front _ is (bytes_known front conn bytes).replica) conn bytes).outs
    (bytes_say None front conn bytes)
front_asks nodes front (Hung conn) is order none = tt
front_asks nodes front (From name message) is order none =
    all_joined nodes (Some message) _ (deliver front name message).outs (message_asks nodes front name message is none) (message_says front name message order)

-- ---- a backend and the master ask nobody

-- a node that is no frontend
module _ (nodes : List Node) (taken : Option LinkMsg) (found : Option Front) (other : found ≡ None) where
  abbrev May : List ℕ → LinkMsg → Type 0
  May = IsRightlySent nodes taken found

  may_say : (server bytes : List ℕ) → May server (Line bytes)
  may_say server bytes = λ front is. (let no : None ≡ Some front = sym other ∙ is in cc)

  comes_from : (input : NodeInput) → ComesFrom AnyClient May input
  comes_from (Opened conn) = tt
  comes_from (Piece conn bytes) = tt
  comes_from (Hung conn) = tt
  comes_from (From name Up) = tt
  comes_from (From name End) = tt
  comes_from (From name (Line line)) = may_say name
  comes_from (From name (Ask ask)) = λ answer. tt
  comes_from (From name (Answer answer)) = tt

  any_streams : (streams : List (List ℕ × Tag)) → AllByRecursion (λ (e : List ℕ × Tag). (bytes : List ℕ) → May e.0 (Line bytes)) streams
  any_streams [] = tt
  any_streams (e ∷ streams) = (may_say e.0, any_streams streams)

  pub back_asks : (home : BackNode) (input : NodeInput) → AreLetOut AnyClient May ⊤ (node_takes (state.Back home) input).outs
  back_asks home input =
      (takes_lets AnyClient May (state.Back home) input (record { running = λ k d h answer. tt; waiting = λ k d h answer. tt }) (comes_from input)
      (may_say _)).outs

  pub master_asks : (master : Master) (input : NodeInput) → AreLetOut AnyClient May ⊤ (node_takes (state.Master master) input).outs
  master_asks master input =
      (takes_lets AnyClient May (state.Master master) input
      (record { watchers = any_watchers master.watchers; streams = any_streams master.streams }) (comes_from input) tt).outs

pub back_other : (home : BackNode) (input : NodeInput) → as_front (Some (back_takes home input).state) ≡ None
unfolding as_front back_takes
back_other home (Opened conn) = refl
back_other home (Piece conn bytes) = refl
back_other home (Hung conn) = refl
back_other home (From name message) = refl

pub master_other : (master : Master) (input : NodeInput) → as_front (Some (master_takes master input).state) ≡ None
unfolding as_front master_takes
master_other master (Opened conn) = refl
master_other master (Piece conn bytes) = refl
master_other master (Hung conn) = refl
master_other master (From name message) = refl

-- ---- whichever node

-- a frontend knows the first backend; and of the links that it has as up each stands there once
abbrev pub KnowsFirst : List Node → NodeState → Type 0
KnowsFirst nodes (state.Front front) = IsFirstBackend nodes front.first × IsInOrder (slice_cmp nat_cmp) front.ups
KnowsFirst nodes it = ⊤

pub node_asks : (nodes : List Node) (it : NodeState) (input : NodeInput) → KnowsFirst nodes it → MovesNobody input
    → AreLetOut AnyClient (IsRightlySent nodes (taken_in input) (as_front (Some (node_takes it input).state))) (MayMark it) (node_takes it input).outs
unfolding node_takes
node_asks nodes (state.Front front) input knows none = front_asks nodes front input knows.0 knows.1 none
node_asks nodes (state.Back home) input knows none = back_asks nodes (taken_in input) _ (back_other home input) home input
node_asks nodes (state.Master it) input knows none = master_asks nodes (taken_in input) _ (master_other it input) it input
