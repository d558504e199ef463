-- What a node marks for what comes to it: a backend the command whose ask for messages it takes, the master that whose line it takes, and a frontend what it
-- tells its clients.
use Rattle.std.proofs.Common.{◌≡◌, ℕ, Bool, true, false, List, [], ◌∷◌, Option, None, Some, refl, sym, subst}
use Rattle.std.specs.Prelude.{⊤, All}
use Rattle.std.specs.List.{AllByRecursion}
use Rattle.std.proofs.lemmas.List.Elements.{All-cons, All-nil}
use Rattle.back_node.specs.declared.node.BackNode.{BackNode}
use Rattle.back_node.specs.Takes.{name_kind, node_takes}
use Rattle.back_node.proofs.AtHome.{ask_is_at_home}
use Rattle.backend_core.specs.declared.op_plan.OpPlan.{OpPlan}
use Rattle.backend_core.specs.declared.backend.Backend.{Backend}
use Rattle.backend_core.specs.AskPlan.{ask_plan}
use Rattle.backend_core.specs.OpPlan.{home_after}
use Rattle.backend_core.specs.Plan.{answer_outs, owed_outs, owes, plan_of}
use Rattle.front_core.specs.declared.front.Front.{Front}
use Rattle.link_msg.specs.declared.answer.AnswerBody.{AnswerBody}
use Rattle.link_msg.specs.declared.ask.FrontAsk.{FrontAsk}
use Rattle.link_msg.specs.declared.counts.Counts.{Counts}
use Rattle.link_msg.specs.declared.how.How.{How}
use Rattle.link_msg.specs.declared.how.How.TheVariants.{Here, Behind, Reserved, Unreached}
use Rattle.link_msg.specs.declared.message.LinkMsg.{LinkMsg}
use Rattle.link_msg.specs.declared.message.LinkMsg.TheVariants.{Up, End, Line, Ask, Answer}
use Rattle.link_msg.specs.declared.out.Out.{Out}
use Rattle.link_msg.specs.declared.out.Out.TheVariants.{Client, Close, Link, Mark as mark, Told as tell}
use Rattle.mark_history.specs.declared.mark.Mark.{Mark}
use Rattle.mark_history.specs.declared.mark.MarkKind.TheVariants.{Home, Told}
use Rattle.master_core.specs.declared.master.Master.{Master}
use Rattle.master_core.specs.Linked.{node_says, sender_of}
use Rattle.master_core.specs.Step.{line_step}
use Rattle.master_core.proofs.OutsideAlone.{AreItsOwn, bytes_alone, connects_alone}
use Rattle.mupdate_codec.specs.Asks.{line_ask}
use Rattle.mur_base.specs.declared.point.AskId.{AskId}
use Rattle.node_step.specs.declared.input.NodeInput.{NodeInput}
use Rattle.node_step.specs.declared.input.NodeInput.TheVariants.{Opened, Piece, Hung, From}
use Rattle.node_step.specs.declared.node.NodeState.{NodeState}
use Rattle.node_step.specs.declared.node.NodeState.TheVariants as state
use Rattle.node_step.specs.NodeStep.{back_takes, front_takes, master_takes, takes}
use Rattle.name_flows.specs.declared.ask.AskKind.{AskKind}
use Rattle.cluster_core.proofs.Nodes.Carried.{marks_made}
use Rattle.cluster_core.proofs.Points.Marks.{asks_messages, asks_messages_by, backend_marks_none}
use Rattle.cluster_core.proofs.Routing.MasterMarks.{TellsStep, line_marks, marks_of_it}
use Rattle.cluster_core.proofs.Routing.FrontTells.{AnswersAlone, FrontTells, HasBegun, HasItsConnection, bytes_in_go, connect_goes, hang_goes, message_goes}

-- which mark a node makes
pub data MarkIs (it : NodeState) (input : NodeInput) (made : Mark) : Type 0 where
  by_home : (home : BackNode) (name : List ℕ) (ask : FrontAsk) (counts : Counts) → it ≡ state.Back home → input ≡ From name (Ask ask)
      → name_kind ask.op ≡ None → made.ask ≡ ask.id → made.kind ≡ Home counts → MarkIs it input made
  by_master : (master : Master) (name line : List ℕ) (counts : Counts) → it ≡ state.Master master → input ≡ From name (Line line)
      → line_ask line ≡ Some made.ask → made.kind ≡ Home counts → MarkIs it input made
  by_front : (front : Front) (how : How) → it ≡ state.Front front → made.kind ≡ Told how → (how ≡ Here → AnswersAlone front made.ask)
      → ((node : List ℕ) → how ≡ Unreached node → HasItsConnection front made.ask) → MarkIs it input made

-- no output marks or tells
abbrev IsMute : Out → Type 0
IsMute (mark ask counts) = ⊥
IsMute (tell ask how) = ⊥
IsMute out = ⊤

-- what holds of the outputs as marks holds of the marks
module _ (now : ℕ) (P : Mark → Type 0) where
  abbrev pub MarkHas : Out → Type 0
  MarkHas (mark ask counts) = P (record { step = now; ask = ask; kind = Home counts })
  MarkHas (tell ask how) = P (record { step = now; ask = ask; kind = Told how })
  MarkHas out = ⊤

  pub marks_have : (outs : List Out) → AllByRecursion MarkHas outs → All P (marks_made now outs)
  marks_have [] are = All-nil P
  marks_have (mark ask counts ∷ outs) are = All-cons P _ (marks_made now outs) are.0 (marks_have outs are.1)
  marks_have (tell ask how ∷ outs) are = All-cons P _ (marks_made now outs) are.0 (marks_have outs are.1)
  marks_have (Client conn bytes ∷ outs) are = marks_have outs are.1
  marks_have (Close conn ∷ outs) are = marks_have outs are.1
  marks_have (Link node message ∷ outs) are = marks_have outs are.1

  none_have : (outs : List Out) → AllByRecursion IsMute outs → All P (marks_made now outs)
  none_have [] are = All-nil P
  none_have (mark ask counts ∷ outs) are = absurd are.0
  none_have (tell ask how ∷ outs) are = absurd are.0
  none_have (Client conn bytes ∷ outs) are = none_have outs are.1
  none_have (Close conn ∷ outs) are = none_have outs are.1
  none_have (Link node message ∷ outs) are = none_have outs are.1

  no_marks : (outs : List Out) → marks_made now outs ≡ [] → All P (marks_made now outs)
  no_marks outs none = subst (λ (m : List Mark). All P m) (sym none) (All-nil P)

pub marks_now : (now : ℕ) (outs : List Out) → All (λ (m : Mark). m.step ≡ now) (marks_made now outs)
marks_now now [] = All-nil (λ (m : Mark). m.step ≡ now)
marks_now now (mark ask counts ∷ outs) = All-cons (λ (m : Mark). m.step ≡ now) _ (marks_made now outs) refl (marks_now now outs)
marks_now now (tell ask how ∷ outs) = All-cons (λ (m : Mark). m.step ≡ now) _ (marks_made now outs) refl (marks_now now outs)
marks_now now (Client conn bytes ∷ outs) = marks_now now outs
marks_now now (Close conn ∷ outs) = marks_now now outs
marks_now now (Link node message ∷ outs) = marks_now now outs

-- ---- a frontend

module _ (now : ℕ) (front : Front) (input : NodeInput) where
  abbrev FrontIs : Mark → Type 0
  FrontIs made = MarkIs (state.Front front) input made

  told_is : (ask : AskId) (how : How) → FrontTells front (tell ask how) → FrontIs (record { step = now; ask = ask; kind = Told how })
  told_is ask Here is = by_front front Here refl refl (λ e. is) (λ other e. cc)
  told_is ask Behind is = by_front front Behind refl refl (λ e. (let no : Behind ≡ Here = e in cc)) (λ other e. cc)
  told_is ask Reserved is = by_front front Reserved refl refl (λ e. (let no : Reserved ≡ Here = e in cc)) (λ other e. cc)
  told_is ask (Unreached node) is = by_front front (Unreached node) refl refl (λ e. (let no : Unreached node ≡ Here = e in cc)) (λ other e. is)

  outs_have : (outs : List Out) → AllByRecursion (FrontTells front) outs → AllByRecursion (MarkHas now FrontIs) outs
  outs_have [] are = tt
  outs_have (mark ask counts ∷ outs) are = absurd are.0
  outs_have (tell ask how ∷ outs) are = (told_is ask how are.0, outs_have outs are.1)
  outs_have (Client conn bytes ∷ outs) are = (tt, outs_have outs are.1)
  outs_have (Close conn ∷ outs) are = (tt, outs_have outs are.1)
  outs_have (Link node message ∷ outs) are = (tt, outs_have outs are.1)

  front_marks : (outs : List Out) → AllByRecursion (FrontTells front) outs → All FrontIs (marks_made now outs)
  front_marks outs are = marks_have now FrontIs outs (outs_have outs are)

-- ---- a backend

no_name : (kind : Option AskKind) → asks_messages_by kind ≡ true → kind ≡ None
no_name None e = refl
no_name (Some kind) e = cc

module _ (now : ℕ) (home : BackNode) (name : List ℕ) where
  abbrev BackIs : LinkMsg → Mark → Type 0
  BackIs message made = MarkIs (state.Back home) (From name message) made

  answered_is : (ask : FrontAsk) (counts : Counts) (body : Option AnswerBody) → name_kind ask.op ≡ None
      → All (BackIs (Ask ask)) (marks_made now (answer_outs name ask.id counts body))
  unfolding answer_outs
  answered_is ask counts None none = All-nil (BackIs (Ask ask))
  answered_is ask counts (Some body) none =
      All-cons (BackIs (Ask ask)) _ [] (by_home home name ask counts refl refl none refl refl) (All-nil (BackIs (Ask ask)))

  owed_is : (ask : FrontAsk) (then : Backend) (plan : Option OpPlan) → name_kind ask.op ≡ None
      → All (BackIs (Ask ask)) (marks_made now (owed_outs then (owes name ask.id plan).owed))
  owed_is ask then None none = All-nil (BackIs (Ask ask))
  owed_is ask then (Some plan) none = answered_is ask _ (Some _) none

  ask_marks : (ask : FrontAsk) → name_kind ask.op ≡ None → All (BackIs (Ask ask)) (marks_made now (node_takes home name (Ask ask)).outs)
  unfolding plan_of
  ask_marks ask none =
      subst (λ (outs : List Out). All (BackIs (Ask ask)) (marks_made now outs)) (sym (ask_is_at_home home name ask none).outs)
      (owed_is ask (home_after home.home (owes name ask.id (ask_plan home.home ask)).entries) (ask_plan home.home ask) none)

  home_by : (ask : FrontAsk) (messages : Bool) → asks_messages (Ask ask) ≡ messages
      → All (BackIs (Ask ask)) (marks_made now (node_takes home name (Ask ask)).outs)
  home_by ask false e = no_marks now (BackIs (Ask ask)) (node_takes home name (Ask ask)).outs (backend_marks_none now home name (Ask ask) e)
  home_by ask true e = ask_marks ask (no_name (name_kind ask.op) e)

  home_marks : (message : LinkMsg) → All (BackIs message) (marks_made now (node_takes home name message).outs)
  home_marks (Ask ask) = home_by ask (asks_messages (Ask ask)) refl
  home_marks Up = no_marks now (BackIs Up) (node_takes home name Up).outs (backend_marks_none now home name Up refl)
  home_marks End = no_marks now (BackIs End) (node_takes home name End).outs (backend_marks_none now home name End refl)
  home_marks (Line line) = no_marks now (BackIs (Line line)) (node_takes home name (Line line)).outs (backend_marks_none now home name (Line line) refl)
  home_marks (Answer answer) =
      no_marks now (BackIs (Answer answer)) (node_takes home name (Answer answer)).outs (backend_marks_none now home name (Answer answer) refl)

-- ---- the master

module _ (now : ℕ) (master : Master) where
  abbrev MasterIs : NodeInput → Mark → Type 0
  MasterIs input made = MarkIs (state.Master master) input made

  says_marks : (name : List ℕ) (message : LinkMsg) → All (MasterIs (From name message)) (marks_made now (node_says master name message).outs)
  unfolding node_says
  says_marks name (Line line) =
      marks_of_it now (MasterIs (From name (Line line))) (line_ask line) (TellsStep master (sender_of master name) line)
      (λ ask counts its so. by_master master name line counts refl refl its refl) (line_step master (sender_of master name) line).outs
      (line_marks master (sender_of master name) line)
  says_marks name Up = All-nil (MasterIs (From name Up))
  says_marks name End = All-nil (MasterIs (From name End))
  says_marks name (Ask ask) = All-nil (MasterIs (From name (Ask ask)))
  says_marks name (Answer answer) = All-nil (MasterIs (From name (Answer answer)))

  -- what a client does there marks nothing
  own_mute : (conn : ℕ) (outs : List Out) → AreItsOwn conn outs → AllByRecursion IsMute outs
  unfolding AreItsOwn
  own_mute conn [] are = tt
  own_mute conn (Client other bytes ∷ outs) are = (tt, own_mute conn outs are.1)
  own_mute conn (Close other ∷ outs) are = (tt, own_mute conn outs are.1)
  own_mute conn (mark ask counts ∷ outs) are = absurd are.0
  own_mute conn (tell ask how ∷ outs) are = absurd are.0
  own_mute conn (Link node message ∷ outs) are = absurd are.0

-- ---- whichever node

pub marks_are : (now : ℕ) (it : NodeState) (input : NodeInput) → All (MarkIs it input) (marks_made now (takes it input).outs)
unfolding takes front_takes back_takes master_takes
marks_are now (state.Front front) (Opened conn) = front_marks now front (Opened conn) _ (connect_goes front conn).outs
marks_are now (state.Front front) (Piece conn bytes) = front_marks now front (Piece conn bytes) _ (bytes_in_go front conn bytes).outs
marks_are now (state.Front front) (Hung conn) = All-nil (MarkIs (state.Front front) (Hung conn))
marks_are now (state.Front front) (From name message) = front_marks now front (From name message) _ (message_goes front name message).outs
marks_are now (state.Back home) (Opened conn) = All-nil (MarkIs (state.Back home) (Opened conn))
marks_are now (state.Back home) (Piece conn bytes) = All-nil (MarkIs (state.Back home) (Piece conn bytes))
marks_are now (state.Back home) (Hung conn) = All-nil (MarkIs (state.Back home) (Hung conn))
marks_are now (state.Back home) (From name message) = home_marks now home name message
marks_are now (state.Master master) (Opened conn) =
    none_have now (MarkIs (state.Master master) (Opened conn)) _ (own_mute now master conn _ (connects_alone master conn).own)
marks_are now (state.Master master) (Piece conn bytes) =
    none_have now (MarkIs (state.Master master) (Piece conn bytes)) _ (own_mute now master conn _ (bytes_alone master conn bytes).own)
marks_are now (state.Master master) (Hung conn) = All-nil (MarkIs (state.Master master) (Hung conn))
marks_are now (state.Master master) (From name message) = says_marks now master name message

-- how many commands of a connection have begun at a node
abbrev pub HasBegunAt : NodeState → ℕ → ℕ → Type 0
HasBegunAt (state.Front front) conn number = HasBegun front conn number
HasBegunAt it conn number = ⊥

-- no fewer do behind whatever comes
pub more_begin : (it : NodeState) (input : NodeInput) (conn number : ℕ) → HasBegunAt it conn number → HasBegunAt (takes it input).state conn number
unfolding takes front_takes back_takes master_takes
more_begin (state.Front front) (Opened other) conn number has = (connect_goes front other).more conn number has
more_begin (state.Front front) (Piece other bytes) conn number has = (bytes_in_go front other bytes).more conn number has
more_begin (state.Front front) (Hung other) conn number has = (hang_goes front other).more conn number has
more_begin (state.Front front) (From name message) conn number has = (message_goes front name message).more conn number has
more_begin (state.Back home) input conn number has = absurd has
more_begin (state.Master master) input conn number has = absurd has
