-- What a backend says of the command of a connection in a step: nothing where its ask waits behind the step; and where it sends a line that begins something,
-- that line alone, for the ask that it takes in the step or that waited before.
use Rattle.std.proofs.Common.{◌≡◌, ◌≢◌, ℕ, Bool, true, false, cond, nat_eq, List, [], ◌∷◌, ◌++◌, filter, Option, None, Some, refl, sym, ap, subst, ◌∙◌}
use Rattle.std.specs.List.{AllByRecursion}
use Rattle.std.specs.Cmp.Lexicographic.{pointwise, same_text}
use Rattle.std.proofs.lemmas.List.Elements.{filter-append}
use Rattle.back_links.specs.Spelled.{HasCommandTexts, HasLineTexts, HaveTexts}
use Rattle.back_links.proofs.Mailboxes.{acl_there}
use Rattle.back_links.proofs.Texts.{command_read, line_texts}
use Rattle.back_node.specs.declared.node.BackNode.{BackNode}
use Rattle.back_node.specs.Acted.{BackActed}
use Rattle.back_node.specs.Takes.{name_ask, name_kind, node_takes}
use Rattle.back_node.proofs.AtHome.{message_step}
use Rattle.backend_core.specs.declared.backend.Backend.{Backend}
use Rattle.backend_core.specs.declared.plan.Owed.{Owed}
use Rattle.backend_core.specs.Plan.{answer_outs, back_plan, owed_outs}
use Rattle.feed_links.specs.Lines.{messages_to}
use Rattle.feed_links.proofs.Names.{other_name}
use Rattle.imap_types.specs.declared.op.Op.{Op}
use Rattle.imap_types.specs.declared.op.Op.TheVariants as op
use Rattle.link_msg.specs.declared.answer.AnswerBody.{AnswerBody}
use Rattle.link_msg.specs.declared.answer.BackAnswer.{BackAnswer}
use Rattle.link_msg.specs.declared.ask.FrontAsk.{FrontAsk}
use Rattle.link_msg.specs.declared.message.LinkMsg.{LinkMsg}
use Rattle.link_msg.specs.declared.message.LinkMsg.TheVariants.{Line, Ask, Answer}
use Rattle.link_msg.specs.declared.out.Out.{Out}
use Rattle.link_msg.specs.declared.out.Out.TheVariants.{Link}
use Rattle.mupdate_codec.specs.declared.command.MCommand.{MCommand}
use Rattle.mupdate_codec.specs.declared.command.MResponse.{MResponse}
use Rattle.mupdate_codec.specs.declared.tag.Tag.{Tag}
use Rattle.mupdate_codec.specs.Arguments.{exact}
use Rattle.mupdate_codec.specs.Asks.{line_ask, tag_of}
use Rattle.mupdate_codec.specs.Commands.{command_line}
use Rattle.mupdate_codec.specs.Whole.{command_in}
use Rattle.mupdate_codec.proofs.AsksLaw.{ask_again}
use Rattle.mupdate_codec.proofs.LineAsks.{own_command}
use Rattle.mur_base.specs.declared.home.Location.{Location}
use Rattle.mur_base.specs.declared.point.AskId.{AskId}
use Rattle.name_commands.specs.Moves.{Move, asked_move_by, heard_move, outs_of, place_after, tested_move, Move as move}
use Rattle.name_commands.specs.Places.{asks_at, flow_line, flow_message, stage_command}
use Rattle.name_commands.specs.Whose.{Whose, is_of_connection, is_own_ask, is_own_line, is_own_message, is_own_out}
use Rattle.name_commands.proofs.Marks.{sent_of_outs}
use Rattle.name_commands.proofs.Own.{kept, of_one}
use Rattle.name_commands.proofs.Sends.{stage_same}
use Rattle.name_flows.specs.declared.ask.AskKind.{AskKind}
use Rattle.name_flows.specs.declared.ask.AskKind.TheVariants.{Create, Delete}
use Rattle.name_flows.specs.declared.ask.NameAsk.{NameAsk}
use Rattle.name_flows.specs.declared.flow.Flow.{Flow}
use Rattle.name_flows.specs.declared.flow.Stage.{Stage}
use Rattle.name_flows.specs.declared.flow.Stage.TheVariants.{Reserving, Making, Deactivating, Deleting}
use Rattle.name_flows.specs.declared.flows.Flows.{Flows}
use Rattle.name_flows.specs.declared.resync.Resync.{Resync}
use Rattle.name_flows.specs.Asked.{first_stage, flow_for, refusal}
use Rattle.name_flows.specs.Link.{waiting_in}
use Rattle.name_links.specs.Spelled.{IsPlaceText}
use Rattle.node_record.specs.Held.{Names}
use Rattle.cluster_core.specs.Headline.Lines.{begun_by}
use Rattle.cluster_core.proofs.Steps.HomeOwn.{heard_is}
use Rattle.cluster_core.proofs.Lines.Steps.{Goes, IsDone, is_asked, is_heard, is_left, is_served, is_tested}

-- what an ask is for
abbrev pub op_of : AskKind → Op
op_of Create = op.Create
op_of Delete = op.Delete

pub kind_is : (it : Op) (kind : AskKind) → name_kind it ≡ Some kind → it ≡ op_of kind
kind_is op.Create kind e = (let same : Create ≡ kind = cc in ap op_of same)
kind_is op.Delete kind e = (let same : Delete ≡ kind = cc in ap op_of same)
kind_is it kind e = cc

-- ---- moves

-- what the line of a stage begins
abbrev begun_at : Stage → Option Op
begun_at Reserving = Some op.Create
begun_at Making = None
begun_at Deactivating = Some op.Delete
begun_at Deleting = None

first_begins : (kind : AskKind) → begun_at (first_stage kind) ≡ Some (op_of kind)
first_begins Create = refl
first_begins Delete = refl

stage_begins : (me : Location) (name : List ℕ) (tag : Tag) (stage : Stage) → begun_by (Some (tag, stage_command me name stage)) ≡ begun_at stage
stage_begins me name tag Reserving = refl
stage_begins me name tag Making = refl
stage_begins me name tag Deactivating = refl
stage_begins me name tag Deleting = refl

-- it keeps no ask, and begins nothing
abbrev GoesOn : Move → Type 0
GoesOn (move.is_answered front id body) = Unit {0}
GoesOn (move.is_kept ask) = ⊥
GoesOn (move.is_sent name flow) = begun_at flow.stage ≡ None

heard_goes : (name : List ℕ) (flow : Flow) (it : MResponse) (to : Move) → heard_move name flow it ≡ Some to → GoesOn to
heard_goes name flow it to e = heard_is name flow GoesOn (λ body. tt) refl refl it to e

-- the move that keeps an ask
keeps : (it : Move) (ask : NameAsk) → asks_at (place_after it) ≡ ask ∷ [] → it ≡ move.is_kept ask
keeps (move.is_answered front id body) ask e = cc
keeps (move.is_kept kept) ask e = (let same : kept ≡ ask = cc in ap move.is_kept same)
keeps (move.is_sent name flow) ask e = cc

tested_keeps : (it : NameAsk) (body : Option AnswerBody) (ask : NameAsk) → tested_move it body ≡ move.is_kept ask → ⊥
tested_keeps it (Some body) ask e = cc
tested_keeps it None ask e = cc

asked_keeps : (flows : Flows) (held : Names) (it : NameAsk) (resync : Option Resync) (ask : NameAsk)
    → asked_move_by flows held it resync ≡ move.is_kept ask → ask ≡ it
asked_keeps flows held it None ask e = absurd (tested_keeps it (refusal flows held it.name it.kind) ask e)
asked_keeps flows held it (Some waiting) ask e = cc

-- ---- one element of a list

record IsOne {X : Type 0} (xs ys : List X) (y z : X) (here : Bool) : Type 0 where
  there : here ≡ true
  same : y ≡ z
  ahead : xs ≡ []
  behind : ys ≡ []

pub not_empty : {X : Type 0} (xs ys : List X) (y : X) → xs ++ y ∷ ys ≡ [] → ⊥
not_empty [] ys y e = cc
not_empty (x ∷ xs) ys y e = cc

is_one : {X : Type 0} (xs ys : List X) (y z : X) (here : Bool) → xs ++ y ∷ ys ≡ cond here (z ∷ []) [] ++ [] → IsOne xs ys y z here
is_one xs ys y z false e = absurd (not_empty xs ys y e)
is_one [] ys y z true e = record { there = refl; same = cc; ahead = refl; behind = cc }
is_one (x ∷ xs) ys y z true e = absurd (not_empty xs ys y (let none : xs ++ y ∷ ys ≡ [] = cc in none))

no_line : (bytes : List ℕ) (answer : BackAnswer) → Line bytes ≡ Answer answer → ⊥
no_line bytes answer e = cc

module _ (conn : ℕ) (master : List ℕ) (node : BackNode) (from : List ℕ) (message : LinkMsg) where
  abbrev whose : Whose
  whose = is_of_connection conn

  abbrev next : BackActed
  next = node_takes node from message

  -- ---- an ask that waits behind the step

  -- it waited before, or is taken in this step
  pub data WaitsThen (ask : NameAsk) : Type 0 where
    waited : filter (is_own_ask whose) (waiting_in node.flows.resync) ≡ ask ∷ [] → WaitsThen ask
    comes : (it : FrontAsk) (kind : AskKind) → message ≡ Ask it → name_kind it.op ≡ Some kind → ask ≡ name_ask from it kind → WaitsThen ask

  -- and nothing goes out about its connection
  pub record IsSilent (ask : NameAsk) : Type 0 where
    pub outs : filter (is_own_out whose) next.outs ≡ []
    pub waits : WaitsThen ask

  pub waits_silently : IsDone whose master node from message → (ask : NameAsk)
      → filter (is_own_ask whose) (waiting_in next.state.flows.resync) ≡ ask ∷ [] → IsSilent ask
  waits_silently (is_left at before after outs) ask e = record { outs = outs; waits = waited (before.waiting ∙ sym after.waiting ∙ e) }
  waits_silently (is_asked it kind is named goes) ask e =
      let kept = keeps _ ask (sym goes.at.waiting ∙ e) in
      record {
        outs = goes.outs ∙ ap (λ (m : Move). outs_of master node.flows.me m) kept;
        waits = comes it kind is named (asked_keeps node.flows node.home.held (name_ask from it kind) node.flows.resync ask kept);
      }
  waits_silently (is_served it is none after) ask e = absurd (let no : ask ∷ [] ≡ [] = sym e ∙ after.waiting in cc)
  waits_silently (is_heard name flow it to heard goes) ask e =
      absurd (subst GoesOn (keeps to ask (sym goes.at.waiting ∙ e)) (heard_goes name flow it to heard))
  waits_silently (is_tested it body before goes) ask e = absurd (tested_keeps it body ask (keeps _ ask (sym goes.at.waiting ∙ e)))

  -- ---- a line that begins something

  -- it is for the ask that the backend takes in this step, or for one that waited
  pub data IsForAsk (for_this : Op) (id : AskId) : Type 0 where
    for_new : (it : FrontAsk) → message ≡ Ask it → it.id ≡ id → it.op ≡ for_this → IsForAsk for_this id
    for_waiting : (ask : NameAsk) → filter (is_own_ask whose) (waiting_in node.flows.resync) ≡ ask ∷ [] → ask.id ≡ id → op_of ask.kind ≡ for_this
        → IsForAsk for_this id

  -- and is all that goes out about the connection
  pub record IsAlone (to : List ℕ) (ahead : List LinkMsg) (bytes : List ℕ) (behind : List LinkMsg) (for_this : Op) : Type 0 where
    pub id : AskId
    pub tag : line_ask bytes ≡ Some id
    pub asked : IsForAsk for_this id
    pub none_ahead : filter (is_own_message whose) ahead ≡ []
    pub none_behind : filter (is_own_message whose) behind ≡ []
    pub elsewhere : (other : List ℕ) → other ≢ to → filter (is_own_message whose) (messages_to other next.outs) ≡ []

  module _ (place : IsPlaceText node.flows.me) (texts : HaveTexts node.home.held) (lines : AllByRecursion HasLineTexts next.state.flows.sent)
      (to : List ℕ) (ahead : List LinkMsg) (bytes : List ℕ) (behind : List LinkMsg) (sent : messages_to to next.outs ≡ ahead ++ Line bytes ∷ behind)
      (own : is_own_message whose (Line bytes) ≡ true) (for_this : Op) (begins : begun_by (command_in bytes) ≡ Some for_this) where
    abbrev me : Location
    me = node.flows.me

    abbrev Alone : Type 0
    Alone = IsAlone to ahead bytes behind for_this

    own_sent : filter (is_own_message whose) ahead ++ Line bytes ∷ filter (is_own_message whose) behind ≡ messages_to to (filter (is_own_out whose) next.outs)
    own_sent =
        sym (filter-append (is_own_message whose) ahead (Line bytes ∷ behind)
        ∙ ap (λ (l : List LinkMsg). filter (is_own_message whose) ahead ++ l) (kept (is_own_message whose) (Line bytes) behind own))
        ∙ ap (λ (l : List LinkMsg). filter (is_own_message whose) l) (sym sent) ∙ sent_of_outs whose to next.outs

    own_by : (outs : List Out) → filter (is_own_out whose) next.outs ≡ outs
        → filter (is_own_message whose) ahead ++ Line bytes ∷ filter (is_own_message whose) behind ≡ messages_to to outs
    own_by outs e = own_sent ∙ ap (λ (l : List Out). messages_to to l) e

    nothing_goes : filter (is_own_out whose) next.outs ≡ [] → ⊥
    nothing_goes none = not_empty _ _ (Line bytes) (own_by [] none)

    answer_goes : (front : List ℕ) (answer : BackAnswer) → filter (is_own_out whose) next.outs ≡ Link front (Answer answer) ∷ [] → ⊥
    answer_goes front answer e = no_line bytes answer (is_one _ _ (Line bytes) (Answer answer) (pointwise nat_eq front to) (own_by _ e)).same

    -- the line of a flow is the line
    module _ (name : List ℕ) (flow : Flow) (line_goes : Goes whose master node next (move.is_sent name flow)) where
      one : IsOne (filter (is_own_message whose) ahead) (filter (is_own_message whose) behind) (Line bytes) (flow_message me name flow)
          (pointwise nat_eq master to)
      one = is_one _ _ (Line bytes) (flow_message me name flow) (pointwise nat_eq master to) (own_by _ line_goes.outs)

      abbrev command : Tag × MCommand
      command = (tag_of flow.ask, stage_command me name flow.stage)

      bytes_are : bytes ≡ (command_line exact).text command
      bytes_are = (let same : Line bytes ≡ Line ((command_line exact).text command) = one.same in cc)

      spelled : HasCommandTexts command
      spelled =
          subst (λ (c : MCommand). HasCommandTexts (tag_of flow.ask, c)) (stage_same whose me node.home.held flow.stage name)
          (line_texts me node.home.held (flow_line name flow) place (acl_there node.home.held texts)
          (of_one (is_own_line whose) HasLineTexts next.state.flows.sent (flow_line name flow) lines line_goes.at.sent))

      stage_is : begun_at flow.stage ≡ Some for_this
      stage_is =
          sym (stage_begins me name (tag_of flow.ask) flow.stage) ∙ ap begun_by (sym (command_read command spelled) ∙ ap command_in (sym bytes_are)) ∙ begins

      tells : line_ask bytes ≡ Some flow.ask
      tells =
          ap line_ask bytes_are ∙ own_command flow.ask (stage_command me name flow.stage)
          ∙ ask_again flow.ask line_goes.at.numbered.0 line_goes.at.numbered.1

      to_master : master ≡ to
      to_master = same_text master to (sym one.there)

      alone : IsForAsk for_this flow.ask → Alone
      alone asked = record {
        id = flow.ask;
        tag = tells;
        asked = asked;
        none_ahead = one.ahead;
        none_behind = one.behind;
        elsewhere = λ other ne.
            sent_of_outs whose other next.outs ∙ ap (λ (l : List Out). messages_to other l) line_goes.outs
            ∙ ap (λ (b : Bool). cond b (flow_message me name flow ∷ []) [] ++ []) (other_name master other (λ e. ne (sym e ∙ to_master)));
      }

    -- the flow of an ask begins, or it is answered
    module _ (ask : NameAsk) (asked : op_of ask.kind ≡ for_this → IsForAsk for_this ask.id) where
      kind_begins : begun_at (first_stage ask.kind) ≡ Some for_this → op_of ask.kind ≡ for_this
      kind_begins e = (let same : Some (op_of ask.kind) ≡ Some for_this = sym (first_begins ask.kind) ∙ e in cc)

      tested_alone : (body : Option AnswerBody) → Goes whose master node next (tested_move ask body) → Alone
      tested_alone (Some body) goes = absurd (answer_goes ask.front (record { id = ask.id; body = body }) goes.outs)
      tested_alone None goes = alone ask.name (flow_for ask) goes (asked (kind_begins (stage_is ask.name (flow_for ask) goes)))

      asked_alone : (resync : Option Resync) → Goes whose master node next (asked_move_by node.flows node.home.held ask resync) → Alone
      asked_alone None goes = tested_alone (refusal node.flows node.home.held ask.name ask.kind) goes
      asked_alone (Some waiting) goes = absurd (nothing_goes goes.outs)

    -- an answer alone goes out for messages
    owed_sends : (home : Backend) (owed : Option Owed) → messages_to to (owed_outs home owed) ≡ ahead ++ Line bytes ∷ behind → ⊥
    unfolding answer_outs
    owed_sends home None e = not_empty ahead behind (Line bytes) (sym e)
    owed_sends home (Some owed) e = no_line bytes _ (is_one ahead behind (Line bytes) (Answer _) (pointwise nat_eq owed.to to) (sym e)).same

    heard_alone : (it : Move) → GoesOn it → Goes whose master node next it → Alone
    heard_alone (move.is_answered front id body) on goes = absurd (answer_goes front (record { id = id; body = body }) goes.outs)
    heard_alone (move.is_kept ask) on goes = absurd on
    heard_alone (move.is_sent name flow) on goes = absurd (let no : None ≡ Some for_this = sym on ∙ stage_is name flow goes in cc)

    pub line_alone : IsDone whose master node from message → Alone
    line_alone (is_left at before after outs) = absurd (nothing_goes outs)
    line_alone (is_asked it kind is named goes) =
        asked_alone (name_ask from it kind) (λ e. for_new it is refl (kind_is it.op kind named ∙ e)) node.flows.resync goes
    line_alone (is_served it is none after) =
        absurd (owed_sends _ (back_plan node.home from it).owed
        (ap (λ (acted : BackActed). messages_to to acted.outs)
        (sym (ap (λ (m : LinkMsg). node_takes node from m) is ∙ message_step node from it none)) ∙ sent))
    line_alone (is_heard name flow it to heard goes) = heard_alone to (heard_goes name flow it to heard) goes
    line_alone (is_tested it body before goes) = tested_alone it (λ e. for_waiting it before.waiting refl e) body goes
