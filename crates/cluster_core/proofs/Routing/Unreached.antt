-- A frontend tells a client that a node isn't reached only where it has the link to the node as down; where it takes the link's End, behind that.
use Rattle.std.proofs.Common.{◌≡◌, ◌≢◌, ℕ, ◌+◌, ◌==◌, nat_eq, Bool, true, false, List, [], ◌∷◌, Option, None, Some, refl, sym, ◌∙◌, ap, subst}
use Rattle.std.specs.Prelude.{⊤, All}
use Rattle.std.specs.List.{AllByRecursion}
use Rattle.std.specs.Map.{keys_of}
use Rattle.std.specs.Ordering.{nat_cmp}
use Rattle.std.specs.Cmp.Lexicographic.{pointwise, same_text, slice_cmp}
use Rattle.ask_routes.specs.Barrier.{barrier_answered}
use Rattle.ask_routes.specs.Ways.{ask_for, behind_ok}
use Rattle.ask_routes.specs.declared.next.Next.{Next}
use Rattle.ask_routes.specs.declared.next.Next.TheVariants as next
use Rattle.asking_core.specs.Answered.{answered, goes_on, needs_by}
use Rattle.asking_core.specs.Begins.{Begun}
use Rattle.asking_core.specs.Cleared.{cleared}
use Rattle.asking_core.specs.declared.then.Then.{Then}
use Rattle.asking_core.specs.declared.then.Then.TheVariants as then
use Rattle.asking_core.specs.declared.waiting.At.{At}
use Rattle.asking_core.specs.declared.waiting.At.TheVariants.{Home, Barrier}
use Rattle.asking_core.specs.declared.waiting.Sent.{Sent}
use Rattle.asking_core.specs.declared.waiting.Waiting.{Waiting}
use Rattle.feed_links.proofs.FeedLaw.{both}
use Rattle.front_core.specs.Reading.{inputs_of_more}
use Rattle.front_core.specs.declared.connection.Connection.{Connection}
use Rattle.front_core.specs.declared.connection.Stage.{Stage}
use Rattle.front_core.specs.declared.connection.Stage.TheVariants.{Reading, Waits, Lists, Ended}
use Rattle.front_core.specs.declared.front.Front.{Front}
use Rattle.front_core.specs.Answered.{answer_by, answer_comes, by_then, clears_at, end_by, ends_at, how_for, need_behind, ok_by, ok_comes, reading_again, reads_on, refused_behind, sends_if, waiting_come}
use Rattle.front_core.specs.Front.{Stepped, all_end, answer_at, answer_from, awaited, bytes_by, bytes_in, connect, connect_at, connection_at, deliver, end_at, end_from, end_if, front_bytes_at}
use Rattle.front_core.specs.Front.{having_read, line_by, line_from, ok_at, one_ends, up_from, waits_for, ways_of, with_up, without_up}
use Rattle.front_core.specs.Stages.{awaits, waits_at}
use Rattle.front_core.specs.Taken.{Turned, Ways, answers_last, asks, begins_if, comes_at, input_comes, input_in, inputs_come, list_refused, lists, lists_if, next_of, request_in, told_now, turned_by_need}
use Rattle.front_core.specs.Ups.{Ups, going_down, is_up}
use Rattle.front_core.proofs.AskOrder.{outs_all}
use Rattle.front_core.proofs.OwnOuts.{one_ways}
use Rattle.front_core.proofs.UpsLaws.{down_goes}
use Rattle.imap_talk.specs.declared.inputs.Input.{Input}
use Rattle.imap_talk.specs.declared.inputs.Input.TheVariants.{GoesOn, Asks, Faults}
use Rattle.imap_reply.specs.ReplyText.{reply_text}
use Rattle.imap_types.specs.declared.command.Tag.{Tag}
use Rattle.imap_types.specs.declared.request.Request.{Request}
use Rattle.imap_types.specs.declared.request.Request.TheVariants.{Command as a_command, Unknown as unknown, TooBig as too_big}
use Rattle.link_msg.specs.declared.answer.AnswerBody.{AnswerBody}
use Rattle.link_msg.specs.declared.answer.AnswerBody.TheVariants as answer_body
use Rattle.link_msg.specs.declared.answer.BackAnswer.{BackAnswer}
use Rattle.link_msg.specs.declared.how.How.{How}
use Rattle.link_msg.specs.declared.how.How.TheVariants.{Here, Behind, Reserved, Unreached}
use Rattle.link_msg.specs.declared.message.LinkMsg.{LinkMsg}
use Rattle.link_msg.specs.declared.message.LinkMsg.TheVariants.{Up, End, Line, Ask, Answer}
use Rattle.link_msg.specs.declared.out.Out.{Out}
use Rattle.link_msg.specs.declared.out.Out.TheVariants.{Client, Close, Link, Mark as mark, Told as tell}
use Rattle.mark_history.specs.declared.mark.Mark.{Mark}
use Rattle.mark_history.specs.declared.mark.MarkKind.TheVariants.{Told as told}
use Rattle.mur_base.specs.Map.{IsInOrder}
use Rattle.mur_base.specs.declared.point.AskId.{AskId}
use Rattle.mur_base.specs.declared.point.What.{What}
use Rattle.mur_base.specs.declared.point.What.TheVariants.{Unreached as unreached}
use Rattle.feed_core.specs.Listing.{mailbox_names}
use Rattle.mur_model.specs.Listing.{list_reply}
use Rattle.mur_model.specs.declared.commands.list.Listing.{Listing}
use Rattle.mur_model.specs.declared.need.Need.{Need}
use Rattle.mur_model.specs.declared.need.Need.TheVariants as needs
use Rattle.mur_model.specs.declared.session.Sess.{Sess}
use Rattle.mur_model.specs.declared.setting.Setting.{Setting}
use Rattle.node_step.specs.declared.input.NodeInput.{NodeInput}
use Rattle.node_step.specs.declared.input.NodeInput.TheVariants.{Opened, Piece, Hung, From}
use Rattle.node_step.specs.declared.node.NodeState.{NodeState}
use Rattle.node_step.specs.declared.node.NodeState.TheVariants as state
use Rattle.node_step.specs.NodeStep.{front_takes, takes}
use Rattle.session_core.specs.Begin.{begin}
use Rattle.session_core.specs.Relocated.{Refused, relocated}
use Rattle.cluster_core.proofs.Nodes.Carried.{marks_made}
use Rattle.cluster_core.proofs.Routing.NodeMarks.{MarkHas, marks_have}

-- ---- outputs

abbrev pub TellsDown : Ups → Out → Type 0
TellsDown ups (tell ask (Unreached node)) = is_up ups node ≡ false
TellsDown ups out = ⊤

abbrev pub AllDown : Ups → List Out → Type 0
AllDown ups outs = AllByRecursion (TellsDown ups) outs

-- what is told so
abbrev HowDown : Ups → How → Type 0
HowDown ups (Unreached node) = is_up ups node ≡ false
HowDown ups how = ⊤

tell_down : (ups : Ups) (ask : AskId) (how : How) → HowDown ups how → TellsDown ups (tell ask how)
tell_down ups ask Here is = tt
tell_down ups ask Behind is = tt
tell_down ups ask Reserved is = tt
tell_down ups ask (Unreached node) is = is

-- a refusal is for no node that isn't reached
abbrev IsPlainThen : Then → Type 0
IsPlainThen (then.Refused cause reply) = (node : List ℕ) → cause ≢ unreached node
IsPlainThen what = ⊤

-- ---- one connection

module _ (setting : Setting) (ways : Ways) (conn : ℕ) where
  abbrev Down : List Out → Type 0
  Down outs = AllDown ways.ups outs

  begins_down : (up : Bool) (c : Connection) (tag : Tag) (begun : Begun) → is_up ways.ups begun.sent.to ≡ up → Down (begins_if up conn c tag begun).outs
  unfolding told_now
  begins_down true c tag begun e = (tt, tt)
  begins_down false c tag begun e = (tt, (e, tt))

  begin_lists_down : (up : Bool) (c : Connection) (tag : Tag) (it : Listing) → is_up ways.ups ways.master ≡ up
      → Down (lists_if up ways.master conn c tag it).outs
  unfolding told_now
  begin_lists_down true c tag it e = (tt, tt)
  begin_lists_down false c tag it e = (tt, (e, tt))

  need_down : (c : Connection) (tag : Tag) (need : Need) → Down (turned_by_need ways conn c tag need).outs
  unfolding turned_by_need told_now answers_last
  need_down c tag (needs.Reply reply) = (tt, (tt, tt))
  need_down c tag (needs.Leave reply) = (tt, (tt, (tt, tt)))
  need_down c tag (needs.Home name asking) = begins_down (is_up ways.ups _) c tag _ refl
  need_down c tag (needs.Names it) = begin_lists_down (is_up ways.ups ways.master) c tag it refl

  request_down : (c : Connection) (request : Request) → Down (request_in setting ways conn c request).outs
  unfolding request_in told_now
  request_down c (a_command tag it) =
      need_down (record c { session = (begin setting c.session it).session }) tag (begin setting c.session it).need
  request_down c (unknown tag) = (tt, (tt, tt))
  request_down c (too_big tag) = (tt, (tt, tt))

  input_down : (c : Connection) (input : Input) → Down (input_in setting ways conn c input).outs
  unfolding input_in
  input_down c (Asks request) = request_down c request
  input_down c (GoesOn why) = (tt, tt)
  input_down c (Faults fault) = (tt, (tt, tt))

  comes_down : (c : Connection) (input : Input) (stage : Stage) → Down (comes_at setting ways conn c input stage).outs
  unfolding comes_at
  comes_down c input Reading = input_down c input
  comes_down c input (Waits tag it) = tt
  comes_down c input (Lists tag it) = tt
  comes_down c input Ended = tt

  inputs_down : (c : Connection) (inputs : List Input) → Down (inputs_come setting ways conn c inputs).outs
  unfolding inputs_come input_comes
  inputs_down c [] = tt
  inputs_down c (input ∷ inputs) =
      let turned : Turned = comes_at setting ways conn c input c.stage in
      both (TellsDown ways.ups) turned.outs (inputs_come setting ways conn turned.connection inputs).outs (comes_down c input c.stage)
      (inputs_down turned.connection inputs)

  reads_down : (c : Connection) (how : How) (text : List ℕ) → HowDown ways.ups how → Down (reads_on setting ways conn c how text).outs
  reads_down c how text is = (tt, (tell_down ways.ups (next_of conn c) how is, inputs_down (reading_again c) c.waiting))

  -- the inputs that waited come
  come_down : (turned : Turned) → Down turned.outs → Down (waiting_come setting ways conn turned).outs
  come_down turned is =
      let free : Connection = record turned.connection { waiting = [] } in
      both (TellsDown ways.ups) turned.outs (inputs_come setting ways conn free turned.connection.waiting).outs is (inputs_down free turned.connection.waiting)

  behind_down : (c : Connection) (tag : Tag) (how : How) (need : Need) → HowDown ways.ups how → Down (need_behind setting ways conn c tag how need).outs
  behind_down c tag how (needs.Reply reply) is = reads_down c how (reply_text tag reply) is
  behind_down c tag how (needs.Leave reply) is = (tt, (tell_down ways.ups (next_of conn c) how is, (tt, tt)))
  behind_down c tag how (needs.Home name asking) is =
      let reads : Connection = record c { stage = Reading } in
      come_down (asks ways conn reads tag name asking) (begins_down (is_up ways.ups _) reads tag _ refl)
  behind_down c tag how (needs.Names it) is =
      let reads : Connection = record c { stage = Reading } in
      come_down (lists ways conn reads tag it) (begin_lists_down (is_up ways.ups ways.master) reads tag it refl)

  refusal_down : (c : Connection) (tag : Tag) (refused : Refused) (node : List ℕ) → is_up ways.ups node ≡ false
      → Down (refused_behind setting ways conn c tag refused node).outs
  refusal_down c tag refused node is = reads_down (record c { session = refused.session }) (Unreached node) (reply_text tag refused.reply) is

  sends_down : (up : Bool) (c : Connection) (tag : Tag) (it : Waiting) (sent : Sent) → is_up ways.ups sent.to ≡ up
      → Down (sends_if up setting ways conn c tag it sent).outs
  sends_down true c tag it sent e = (tt, tt)
  sends_down false c tag it sent e = refusal_down c tag (relocated c.session it.asking.awaited (unreached sent.to)) sent.to e

  cause_down : (cause : What) → ((node : List ℕ) → cause ≢ unreached node) → HowDown ways.ups (how_for cause)
  cause_down (unreached node) plain = absurd (plain node refl)
  cause_down cause plain = tt

  then_down : (c : Connection) (tag : Tag) (it : Waiting) (what : Then) → IsPlainThen what → Down (by_then setting ways conn c tag it what).outs
  then_down c tag it (then.Sends sent) plain = sends_down (is_up ways.ups sent.to) c tag it sent refl
  then_down c tag it (then.Needs need) plain = behind_down c tag Behind need tt
  then_down c tag it (then.Refused cause reply) plain = reads_down c (how_for cause) (reply_text tag reply) (cause_down cause plain)
  then_down c tag it then.Lost plain = (tt, (tt, tt))
  then_down c tag it then.Stays plain = tt

  needs_plain : (found : Option Need) → IsPlainThen (needs_by found)
  needs_plain None = tt
  needs_plain (Some need) = tt

  goes_plain : (id : AskId) (session : Sess) (it : Waiting) (found : Next) → IsPlainThen (goes_on ways.master id session it found).then
  goes_plain id session it (next.Ask server) = tt
  goes_plain id session it (next.Barrier why) = tt
  goes_plain id session it next.Missing = needs_plain _
  goes_plain id session it next.Refused = λ node e. cc

  answered_plain : (id : AskId) (session : Sess) (it : Waiting) (body : AnswerBody) → ((node : List ℕ) → body ≢ answer_body.Unreached node)
      → IsPlainThen (answered ways.master id session it body).then
  unfolding answered
  answered_plain id session it answer_body.NotNow plain = tt
  answered_plain id session it (answer_body.Moved server) plain = tt
  answered_plain id session it (answer_body.Done outcome seen) plain = needs_plain _
  answered_plain id session it (answer_body.Unreached node) plain = absurd (plain node refl)
  answered_plain id session it answer_body.Lost plain = tt

  answer_down_by : (c : Connection) (answer : BackAnswer) (fits : Bool) (stage : Stage) → ((node : List ℕ) → answer.body ≢ answer_body.Unreached node)
      → Down (answer_by setting ways conn c answer fits stage).outs
  unfolding answer_by
  answer_down_by c answer true (Waits tag it) plain =
      let went = answered ways.master (record { conn = conn; command = c.answered + 1 }) c.session it answer.body in
      then_down (record c { session = went.session }) tag went.waiting went.then
      (answered_plain (record { conn = conn; command = c.answered + 1 }) c.session it answer.body plain)
  answer_down_by c answer true Reading plain = tt
  answer_down_by c answer true (Lists tag it) plain = tt
  answer_down_by c answer true Ended plain = tt
  answer_down_by c answer false stage plain = tt

  answer_down : (c : Connection) (answer : BackAnswer) → ((node : List ℕ) → answer.body ≢ answer_body.Unreached node)
      → Down (answer_comes setting ways conn c answer).outs
  unfolding answer_comes
  answer_down c answer plain = answer_down_by c answer (answer.id.command == c.answered + 1) c.stage plain

  clears_down : (c : Connection) (tag : Tag) (it : Waiting) (at : At) → Down (clears_at setting ways conn c tag it at).outs
  unfolding cleared
  clears_down c tag it (Home server) = tt
  clears_down c tag it (Barrier why) =
      let id : AskId = record { conn = conn; command = c.answered + 1 } in
      let went = cleared ways.recs ways.master ways.first id c.session it why in
      then_down (record c { session = went.session }) tag went.waiting went.then
      (goes_plain id c.session it (behind_ok ways.recs ways.first (ask_for it.name it.asking.op) why))

  ok_down_by : (c : Connection) (fits : Bool) (stage : Stage) → Down (ok_by setting ways conn c fits stage).outs
  unfolding ok_by
  ok_down_by c true (Waits tag it) = clears_down c tag it it.at
  ok_down_by c true (Lists tag it) = reads_down c Behind (reply_text tag (list_reply it (mailbox_names ways.recs))) tt
  ok_down_by c true Reading = tt
  ok_down_by c true Ended = tt
  ok_down_by c false stage = tt

  ok_down : (c : Connection) (id : AskId) → Down (ok_comes setting ways conn c id).outs
  unfolding ok_comes
  ok_down c id = ok_down_by c (id.command == c.answered + 1) c.stage

  -- the link to a node ends, which is down then
  module _ (node : List ℕ) (down : is_up ways.ups node ≡ false) where
    its_down : pointwise nat_eq ways.master node ≡ true → is_up ways.ups ways.master ≡ false
    its_down e = ap (is_up ways.ups) (same_text ways.master node (sym e)) ∙ down

    ends_at_down : (c : Connection) (tag : Tag) (it : Waiting) (at : At) → waits_at ways.master at node ≡ true → Down (ends_at setting ways conn c tag it at).outs
    ends_at_down c tag it (Home server) waits = (tt, (tt, tt))
    ends_at_down c tag it (Barrier why) waits = refusal_down c tag (relocated c.session it.asking.awaited (unreached ways.master)) ways.master (its_down waits)

    end_down : (c : Connection) (stage : Stage) → awaits ways.master stage node ≡ true → Down (end_by setting ways conn c stage).outs
    unfolding awaits end_by
    end_down c Reading waits = tt
    end_down c (Waits tag it) waits = ends_at_down c tag it it.at waits
    end_down c (Lists tag it) waits = refusal_down c tag (list_refused c.session) ways.master (its_down waits)
    end_down c Ended waits = tt

-- ---- a frontend

-- what comes doesn't tell it so of another node; and of its links that are up each stands there once
abbrev pub IsPlainAt : Front → NodeInput → Type 0
IsPlainAt front (From name (Answer answer)) = (node : List ℕ) → answer.body ≢ answer_body.Unreached node
IsPlainAt front (From name End) = IsInOrder (slice_cmp nat_cmp) front.ups
IsPlainAt front input = ⊤

-- the links that are up in the step: where one ends, behind that
abbrev pub ups_in : Front → NodeInput → Ups
ups_in front (From name End) = going_down front.ups name
ups_in front input = front.ups

-- ---- one connection after another

module _ (node : List ℕ) where
  found_down : (front : Front) (conn : ℕ) (found : Option Connection) → is_up front.ups node ≡ false → awaited front.master found node ≡ true
      → AllDown front.ups (end_at front conn found).outs
  unfolding end_at awaited
  found_down front conn None down waits = tt
  found_down front conn (Some c) down waits = end_down front.setting (ways_of front) conn node down c c.stage waits

  if_down : (front : Front) (conn : ℕ) (waits : Bool) → is_up front.ups node ≡ false → awaited front.master (connection_at front conn) node ≡ waits
      → AllDown front.ups (end_if waits front conn).outs
  if_down front conn true down e = found_down front conn (connection_at front conn) down e
  if_down front conn false down e = tt

  all_down : (front : Front) (conns : List ℕ) → is_up front.ups node ≡ false → AllDown front.ups (all_end front node conns).outs
  unfolding all_end
  all_down front [] down = tt
  all_down front (conn ∷ conns) down =
      let one : Stepped = one_ends front node conn in
      let same : one.front.ups ≡ front.ups = ap (λ (w : Ways). w.ups) (one_ways front node conn) in
      both (TellsDown front.ups) one.outs (all_end one.front node conns).outs
      (if_down front conn (awaited front.master (connection_at front conn) node) down refl)
      (subst (λ u. AllDown u (all_end one.front node conns).outs) same (all_down one.front conns (ap (λ u. is_up u node) same ∙ down)))

-- a link ends
ends_down : (front : Front) (node : List ℕ) → IsInOrder (slice_cmp nat_cmp) front.ups → AllDown (going_down front.ups node) (end_from (without_up front node) node).outs
ends_down front node order =
    outs_all (TellsDown (going_down front.ups node)) (all_end (without_up front node) node (keys_of front.connections)).outs
    (all_down node (without_up front node) (keys_of front.connections) (down_goes front.ups node order))

module _ (front : Front) where
  abbrev FrontDown : List Out → Type 0
  FrontDown outs = AllDown front.ups outs

  connect_down : (conn : ℕ) (found : Option Connection) → FrontDown (connect_at front conn found).outs
  unfolding connect_at
  connect_down conn None = (tt, tt)
  connect_down conn (Some there) = tt

  read_down : (conn : ℕ) (bytes : List ℕ) (c : Connection)
      → FrontDown (inputs_come front.setting (ways_of front) conn (having_read front.setting c bytes) (inputs_of_more front.setting c.reader bytes)).outs
  read_down conn bytes c =
      inputs_down front.setting (ways_of front) conn (having_read front.setting c bytes) (inputs_of_more front.setting c.reader bytes)

  bytes_by_down : (conn : ℕ) (bytes : List ℕ) (c : Connection) (stage : Stage) → FrontDown (bytes_by front conn bytes c stage).outs
  unfolding bytes_by
  bytes_by_down conn bytes c Ended = tt
  bytes_by_down conn bytes c Reading = read_down conn bytes c
  bytes_by_down conn bytes c (Waits tag it) = read_down conn bytes c
  bytes_by_down conn bytes c (Lists tag it) = read_down conn bytes c

  bytes_at_down : (conn : ℕ) (bytes : List ℕ) (found : Option Connection) → FrontDown (front_bytes_at front conn bytes found).outs
  unfolding front_bytes_at
  bytes_at_down conn bytes None = tt
  bytes_at_down conn bytes (Some c) = bytes_by_down conn bytes c c.stage

  answer_at_down : (answer : BackAnswer) (found : Option Connection) → ((node : List ℕ) → answer.body ≢ answer_body.Unreached node)
      → FrontDown (answer_at front answer found).outs
  unfolding answer_at
  answer_at_down answer None plain = tt
  answer_at_down answer (Some c) plain = answer_down front.setting (ways_of front) (answer.id).conn c answer plain

  answer_from_down : (answer : BackAnswer) (is_its : Bool) → ((node : List ℕ) → answer.body ≢ answer_body.Unreached node)
      → FrontDown (answer_from is_its front answer).outs
  unfolding answer_from
  answer_from_down answer true plain = answer_at_down answer (connection_at front (answer.id).conn) plain
  answer_from_down answer false plain = tt

  up_down : (from : List ℕ) (is_master : Bool) → FrontDown (up_from is_master (with_up front from)).outs
  unfolding up_from
  up_down from true = (tt, tt)
  up_down from false = tt

  ok_at_down : (id : AskId) (found : Option Connection) → FrontDown (ok_at front id found).outs
  unfolding ok_at
  ok_at_down id None = tt
  ok_at_down id (Some c) = ok_down front.setting (ways_of front) id.conn c id

  line_by_down : (bytes : List ℕ) (found : Option AskId) → FrontDown (line_by front bytes found).outs
  line_by_down bytes None = tt
  line_by_down bytes (Some id) = ok_at_down id (connection_at front id.conn)

  line_down : (bytes : List ℕ) (is_master : Bool) → FrontDown (line_from is_master front bytes).outs
  unfolding line_from
  line_down bytes true = line_by_down bytes (barrier_answered bytes)
  line_down bytes false = tt

  message_down : (from : List ℕ) (message : LinkMsg) → IsPlainAt front (From from message)
      → AllDown (ups_in front (From from message)) (deliver front from message).outs
  unfolding deliver
  message_down from (Answer answer) plain = answer_from_down answer (waits_for (connection_at front (answer.id).conn) from) plain
  message_down from Up plain = up_down from (pointwise nat_eq from front.master)
  message_down from End plain = ends_down front from plain
  message_down from (Line line) plain = line_down line (pointwise nat_eq from front.master)
  message_down from (Ask ask) plain = tt

  front_down : (input : NodeInput) → IsPlainAt front input → AllDown (ups_in front input) (front_takes front input).outs
  unfolding front_takes connect bytes_in
  front_down (Opened conn) plain = connect_down conn (connection_at front conn)
  front_down (Piece conn bytes) plain = bytes_at_down conn bytes (connection_at front conn)
  front_down (Hung conn) plain = tt
  front_down (From name message) plain = message_down name message plain

-- ---- marks

-- a mark that tells so of a node is of a frontend that has the link to it as down
abbrev pub IsDownMark : NodeState → NodeInput → Mark → Type 0
IsDownMark (state.Front front) input made = (node : List ℕ) → made.kind ≡ told (Unreached node) → is_up (ups_in front input) node ≡ false
IsDownMark it input made = ⊤

abbrev pub IsPlainFor : NodeState → NodeInput → Type 0
IsPlainFor (state.Front front) input = IsPlainAt front input
IsPlainFor it input = ⊤

-- by which links are up
abbrev IsDownBy : Ups → Mark → Type 0
IsDownBy ups made = (node : List ℕ) → made.kind ≡ told (Unreached node) → is_up ups node ≡ false

out_marks : (now : ℕ) (ups : Ups) (out : Out) → TellsDown ups out → MarkHas now (IsDownBy ups) out
out_marks now ups (mark ask counts) is = λ node e. cc
out_marks now ups (tell ask Here) is = λ node e. cc
out_marks now ups (tell ask Behind) is = λ node e. cc
out_marks now ups (tell ask Reserved) is = λ node e. cc
out_marks now ups (tell ask (Unreached other)) is = λ node e. (let same : other ≡ node = cc in subst (λ n. is_up ups n ≡ false) same is)
out_marks now ups (Client conn bytes) is = tt
out_marks now ups (Close conn) is = tt
out_marks now ups (Link node message) is = tt

outs_marks : (now : ℕ) (ups : Ups) (outs : List Out) → AllDown ups outs → AllByRecursion (MarkHas now (IsDownBy ups)) outs
outs_marks now ups [] are = tt
outs_marks now ups (out ∷ outs) are = (out_marks now ups out are.0, outs_marks now ups outs are.1)

pub down_marks : (now : ℕ) (it : NodeState) (input : NodeInput) → IsPlainFor it input → All (IsDownMark it input) (marks_made now (takes it input).outs)
unfolding takes
down_marks now (state.Front front) input plain =
    marks_have now (IsDownBy (ups_in front input)) (front_takes front input).outs
    (outs_marks now (ups_in front input) (front_takes front input).outs (front_down front input plain))
down_marks now (state.Back home) input plain = λ k d h. tt
down_marks now (state.Master master) input plain = λ k d h. tt

-- ---- which links are up behind the step

all_ups : (front : Front) (node : List ℕ) (conns : List ℕ) → (all_end front node conns).front.ups ≡ front.ups
unfolding all_end
all_ups front node [] = refl
all_ups front node (conn ∷ conns) =
    all_ups (one_ends front node conn).front node conns ∙ ap (λ (w : Ways). w.ups) (one_ways front node conn)

-- where a link ends, those are up that were in the step
pub ends_ups : (front : Front) (node : List ℕ) → (deliver front node End).front.ups ≡ going_down front.ups node
unfolding deliver
ends_ups front node = all_ups (without_up front node) node (keys_of front.connections)
