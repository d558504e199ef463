-- A frontend sends a message only to a node to which it has its link as up, so nothing to the master while it has that link as down.
use Rattle.std.proofs.Common.{◌≡◌, ◌≢◌, ℕ, ◌+◌, ◌==◌, nat_eq, Bool, true, false, if◌then◌else◌, List, [], ◌∷◌, ◌++◌, Option, None, Some, refl, sym, ap, ◌∙◌, subst}
use Rattle.std.specs.List.{AllByRecursion}
use Rattle.std.specs.Map.{keys_of}
use Rattle.std.specs.Cmp.Lexicographic.{pointwise}
use Rattle.ask_routes.specs.Barrier.{barrier_answered}
use Rattle.asking_core.specs.Answered.{WentOn, answered}
use Rattle.asking_core.specs.Begins.{Begun, first_sent}
use Rattle.asking_core.specs.Cleared.{cleared}
use Rattle.asking_core.specs.declared.then.Then.{Then}
use Rattle.asking_core.specs.declared.then.Then.TheVariants as then
use Rattle.asking_core.specs.declared.waiting.At.{At}
use Rattle.asking_core.specs.declared.waiting.At.TheVariants.{Home, Barrier}
use Rattle.asking_core.specs.declared.waiting.Sent.{Sent}
use Rattle.asking_core.specs.declared.waiting.Waiting.{Waiting}
use Rattle.feed_links.specs.Lines.{messages_to}
use Rattle.feed_links.proofs.FeedLaw.{both}
use Rattle.feed_links.proofs.Names.{other_name}
use Rattle.front_core.specs.Answered.{answer_by, answer_comes, by_then, clears_at, end_by, ends_at, goes_on_by, need_behind, ok_by, ok_comes, reading_again}
use Rattle.front_core.specs.Answered.{refused_behind, sends_if, waiting_come}
use Rattle.front_core.proofs.AskOrder.{outs_all}
use Rattle.front_core.specs.Front.{Stepped, all_end, answer_at, answer_from, awaited, bytes_by, bytes_in, connect, connect_at, connection_at, deliver, end_at, end_from, end_if}
use Rattle.front_core.specs.Front.{front_bytes_at, front_hang_at, hang, having_read, line_by, line_from, ok_at, one_ends, still, up_from, waits_for, with_asks_in_order, ways_of, with_up, without_up}
use Rattle.front_core.specs.Reading.{inputs_of_more}
use Rattle.front_core.specs.Taken.{Turned, Ways, answers_last, asks, begins_if, comes_at, input_comes, input_in, inputs_come, list_refused, lists_if, next_of, request_in}
use Rattle.front_core.specs.Taken.{to_begin, told_now, turned_by_need}
use Rattle.front_core.specs.Ups.{Ups, coming_up, going_down, is_up}
use Rattle.front_core.specs.declared.connection.Connection.{Connection}
use Rattle.front_core.specs.declared.connection.Stage.{Stage}
use Rattle.front_core.specs.declared.connection.Stage.TheVariants.{Reading, Waits, Lists, Ended}
use Rattle.front_core.specs.declared.front.Front.{Front}
use Rattle.front_core.proofs.UpsLaws.{others_coming, others_going}
use Rattle.imap_talk.specs.declared.inputs.Input.{Input}
use Rattle.imap_talk.specs.declared.inputs.Input.TheVariants.{GoesOn, Asks, Faults}
use Rattle.imap_types.specs.declared.command.Tag.{Tag}
use Rattle.imap_types.specs.declared.request.Request.{Request}
use Rattle.imap_types.specs.declared.request.Request.TheVariants.{Command as a_command, Unknown as unknown, TooBig as too_big}
use Rattle.link_msg.specs.declared.answer.BackAnswer.{BackAnswer}
use Rattle.link_msg.specs.declared.how.How.{How}
use Rattle.link_msg.specs.declared.how.How.TheVariants.{Behind}
use Rattle.link_msg.specs.declared.message.LinkMsg.{LinkMsg}
use Rattle.link_msg.specs.declared.message.LinkMsg.TheVariants.{Up, End, Line, Ask, Answer}
use Rattle.link_msg.specs.declared.out.Out.{Out}
use Rattle.link_msg.specs.declared.out.Out.TheVariants.{Client as to_client, Close, Link as to_node, Mark as mark, Told as tell}
use Rattle.mur_base.specs.declared.point.AskId.{AskId}
use Rattle.mur_base.specs.declared.point.What.TheVariants.{Unreached as unreached}
use Rattle.mur_model.specs.declared.commands.list.Listing.{Listing}
use Rattle.mur_model.specs.declared.need.Asking.{Asking}
use Rattle.mur_model.specs.declared.need.Need.{Need}
use Rattle.mur_model.specs.declared.need.Need.TheVariants as needs
use Rattle.mur_model.specs.declared.setting.Setting.{Setting}
use Rattle.node_step.specs.declared.input.NodeInput.{NodeInput}
use Rattle.node_step.specs.declared.input.NodeInput.TheVariants.{Opened, Piece, Hung, From}
use Rattle.session_core.specs.Begin.{begin}
use Rattle.session_core.specs.Relocated.{Refused, relocated}
use Rattle.cluster_core.proofs.Nodes.Comes.{IsOfClient, front_does}

abbrev IsSentUp : Ups → Out → Type 0
IsSentUp ups (to_node to message) = is_up ups to ≡ true
IsSentUp ups out = Unit {0}

abbrev AreSentUp : Ups → List Out → Type 0
AreSentUp ups outs = AllByRecursion (IsSentUp ups) outs

module _ (setting : Setting) (ways : Ways) (conn : ℕ) where
  abbrev AreUp : Turned → Type 0
  AreUp turned = AreSentUp ways.ups turned.outs

  -- ---- an input

  begins_up : (up : Bool) (connection : Connection) (tag : Tag) (begun : Begun) → is_up ways.ups begun.sent.to ≡ up
      → AreUp (begins_if up conn connection tag begun)
  unfolding told_now
  begins_up true connection tag begun e = (e, tt)
  begins_up false connection tag begun e = (tt, (tt, tt))

  lists_up : (up : Bool) (connection : Connection) (tag : Tag) (it : Listing) → is_up ways.ups ways.master ≡ up
      → AreUp (lists_if up ways.master conn connection tag it)
  unfolding told_now
  lists_up true connection tag it e = (e, tt)
  lists_up false connection tag it e = (tt, (tt, tt))

  asks_up : (connection : Connection) (tag : Tag) (name : List ℕ) (asking : Asking) → AreUp (asks ways conn connection tag name asking)
  asks_up connection tag name asking =
      let begun : Begun = first_sent ways.recs ways.master ways.first (next_of conn connection) connection.session (to_begin name asking) in
      begins_up (is_up ways.ups begun.sent.to) connection tag begun refl

  need_up : (connection : Connection) (tag : Tag) (need : Need) → AreUp (turned_by_need ways conn connection tag need)
  unfolding turned_by_need told_now answers_last
  need_up connection tag (needs.Reply reply) = (tt, (tt, tt))
  need_up connection tag (needs.Leave reply) = (tt, (tt, (tt, tt)))
  need_up connection tag (needs.Home name asking) = asks_up connection tag name asking
  need_up connection tag (needs.Names it) = lists_up (is_up ways.ups ways.master) connection tag it refl

  request_up : (connection : Connection) (request : Request) → AreUp (request_in setting ways conn connection request)
  unfolding request_in told_now
  request_up connection (a_command tag it) =
      let behind = begin setting connection.session it in need_up (record connection { session = behind.session }) tag behind.need
  request_up connection (unknown tag) = (tt, (tt, tt))
  request_up connection (too_big tag) = (tt, (tt, tt))

  input_up : (connection : Connection) (input : Input) → AreUp (input_in setting ways conn connection input)
  unfolding input_in
  input_up connection (Asks request) = request_up connection request
  input_up connection (GoesOn why) = (tt, tt)
  input_up connection (Faults fault) = (tt, (tt, tt))

  stage_up : (connection : Connection) (input : Input) (stage : Stage) → AreUp (comes_at setting ways conn connection input stage)
  unfolding comes_at
  stage_up connection input Reading = input_up connection input
  stage_up connection input (Waits tag it) = tt
  stage_up connection input (Lists tag it) = tt
  stage_up connection input Ended = tt

  inputs_up : (connection : Connection) (inputs : List Input) → AreUp (inputs_come setting ways conn connection inputs)
  unfolding inputs_come input_comes
  inputs_up connection [] = tt
  inputs_up connection (input ∷ inputs) =
      let turned : Turned = comes_at setting ways conn connection input connection.stage in
      both (IsSentUp ways.ups) turned.outs (inputs_come setting ways conn turned.connection inputs).outs (stage_up connection input connection.stage)
      (inputs_up turned.connection inputs)

  -- ---- an answer, an OK, or an end

  follow_up : (turned : Turned) → AreUp turned → AreUp (waiting_come setting ways conn turned)
  follow_up turned up =
      let free : Connection = record turned.connection { waiting = [] } in
      both (IsSentUp ways.ups) turned.outs (inputs_come setting ways conn free turned.connection.waiting).outs up (inputs_up free turned.connection.waiting)

  behind_up : (connection : Connection) (tag : Tag) (how : How) (need : Need) → AreUp (need_behind setting ways conn connection tag how need)
  behind_up connection tag how (needs.Reply reply) = (tt, (tt, inputs_up (reading_again connection) connection.waiting))
  behind_up connection tag how (needs.Leave reply) = (tt, (tt, (tt, tt)))
  behind_up connection tag how (needs.Home name asking) =
      let reads : Connection = record connection { stage = Reading } in
      follow_up (asks ways conn reads tag name asking) (asks_up reads tag name asking)
  behind_up connection tag how (needs.Names it) =
      let reads : Connection = record connection { stage = Reading } in
      let up : Bool = is_up ways.ups ways.master in
      follow_up (lists_if up ways.master conn reads tag it) (lists_up up reads tag it refl)

  refused_up : (connection : Connection) (tag : Tag) (refused : Refused) (node : List ℕ) → AreUp (refused_behind setting ways conn connection tag refused node)
  refused_up connection tag refused node =
      (tt, (tt, inputs_up (reading_again (record connection { session = refused.session })) connection.waiting))

  sends_up : (up : Bool) (connection : Connection) (tag : Tag) (it : Waiting) (sent : Sent) → is_up ways.ups sent.to ≡ up
      → AreUp (sends_if up setting ways conn connection tag it sent)
  sends_up true connection tag it sent e = (e, tt)
  sends_up false connection tag it sent e = refused_up connection tag (relocated connection.session it.asking.awaited (unreached sent.to)) sent.to

  then_up : (connection : Connection) (tag : Tag) (it : Waiting) (what : Then) → AreUp (by_then setting ways conn connection tag it what)
  then_up connection tag it (then.Sends sent) = sends_up (is_up ways.ups sent.to) connection tag it sent refl
  then_up connection tag it (then.Needs need) = behind_up connection tag Behind need
  then_up connection tag it (then.Refused cause reply) = (tt, (tt, inputs_up (reading_again connection) connection.waiting))
  then_up connection tag it then.Lost = (tt, (tt, tt))
  then_up connection tag it then.Stays = tt

  went_up : (connection : Connection) (tag : Tag) (went : WentOn) → AreUp (goes_on_by setting ways conn connection tag went)
  went_up connection tag went = then_up (record connection { session = went.session }) tag went.waiting went.then

  answered_up : (connection : Connection) (it : BackAnswer) (same : Bool) (stage : Stage) → AreUp (answer_by setting ways conn connection it same stage)
  unfolding answer_by
  answered_up connection it true (Waits tag waiting) =
      went_up connection tag (answered ways.master (next_of conn connection) connection.session waiting it.body)
  answered_up connection it true (Lists tag listing) = tt
  answered_up connection it true Reading = tt
  answered_up connection it true Ended = tt
  answered_up connection it false stage = tt

  answer_up : (connection : Connection) (it : BackAnswer) → AreUp (answer_comes setting ways conn connection it)
  unfolding answer_comes
  answer_up connection it = answered_up connection it ((it.id).command == connection.answered + 1) connection.stage

  clears_up : (connection : Connection) (tag : Tag) (it : Waiting) (at : At) → AreUp (clears_at setting ways conn connection tag it at)
  clears_up connection tag it (Home server) = tt
  clears_up connection tag it (Barrier cause) =
      went_up connection tag (cleared ways.recs ways.master ways.first (next_of conn connection) connection.session it cause)

  cleared_up : (connection : Connection) (same : Bool) (stage : Stage) → AreUp (ok_by setting ways conn connection same stage)
  unfolding ok_by
  cleared_up connection true (Waits tag it) = clears_up connection tag it it.at
  cleared_up connection true (Lists tag it) = (tt, (tt, inputs_up (reading_again connection) connection.waiting))
  cleared_up connection true Reading = tt
  cleared_up connection true Ended = tt
  cleared_up connection false stage = tt

  ok_up : (connection : Connection) (id : AskId) → AreUp (ok_comes setting ways conn connection id)
  unfolding ok_comes
  ok_up connection id = cleared_up connection (id.command == connection.answered + 1) connection.stage

  ends_up : (connection : Connection) (tag : Tag) (it : Waiting) (at : At) → AreUp (ends_at setting ways conn connection tag it at)
  ends_up connection tag it (Home server) = (tt, (tt, tt))
  ends_up connection tag it (Barrier cause) =
      refused_up connection tag (relocated connection.session it.asking.awaited (unreached ways.master)) ways.master

  end_up_by : (connection : Connection) (stage : Stage) → AreUp (end_by setting ways conn connection stage)
  unfolding end_by
  end_up_by connection (Waits tag it) = ends_up connection tag it it.at
  end_up_by connection (Lists tag it) = refused_up connection tag (list_refused connection.session) ways.master
  end_up_by connection Reading = tt
  end_up_by connection Ended = tt

-- ---- a frontend, with these links up before and behind

record SendsUp (ups : Ups) (next : Stepped) : Type 0 where
  same : next.front.ups ≡ ups
  sent : AreSentUp ups next.outs

module _ (front : Front) where
  stays_up : SendsUp front.ups (still front)
  stays_up = record { same = refl; sent = tt }

  connects_up : (conn : ℕ) (found : Option Connection) → SendsUp front.ups (connect_at front conn found)
  unfolding connect_at
  connects_up conn None = record { same = refl; sent = (tt, tt) }
  connects_up conn (Some there) = stays_up

  bytes_by_up : (conn : ℕ) (bytes : List ℕ) (connection : Connection) (stage : Stage) → SendsUp front.ups (bytes_by front conn bytes connection stage)
  unfolding bytes_by
  bytes_by_up conn bytes connection Ended = stays_up
  bytes_by_up conn bytes connection Reading = record {
    same = refl;
    sent = inputs_up front.setting (ways_of front) conn (having_read front.setting connection bytes) (inputs_of_more front.setting connection.reader bytes);
  }
  bytes_by_up conn bytes connection (Waits tag it) = record {
    same = refl;
    sent = inputs_up front.setting (ways_of front) conn (having_read front.setting connection bytes) (inputs_of_more front.setting connection.reader bytes);
  }
  bytes_by_up conn bytes connection (Lists tag it) = record {
    same = refl;
    sent = inputs_up front.setting (ways_of front) conn (having_read front.setting connection bytes) (inputs_of_more front.setting connection.reader bytes);
  }

  bytes_at_up : (conn : ℕ) (bytes : List ℕ) (found : Option Connection) → SendsUp front.ups (front_bytes_at front conn bytes found)
  unfolding front_bytes_at
  bytes_at_up conn bytes None = stays_up
  bytes_at_up conn bytes (Some connection) = bytes_by_up conn bytes connection connection.stage

  hang_up : (conn : ℕ) (found : Option Connection) → (front_hang_at front conn found).ups ≡ front.ups
  unfolding front_hang_at
  hang_up conn None = refl
  hang_up conn (Some connection) = refl

  client_up : (input : NodeInput) → IsOfClient input → SendsUp front.ups (front_does front input)
  unfolding connect bytes_in hang
  client_up (Opened conn) is = connects_up conn (connection_at front conn)
  client_up (Piece conn bytes) is = bytes_at_up conn bytes (connection_at front conn)
  client_up (Hung conn) is = record { same = hang_up conn (connection_at front conn); sent = tt }
  client_up (From from message) is = absurd is

  answer_at_up : (it : BackAnswer) (found : Option Connection) → SendsUp front.ups (answer_at front it found)
  unfolding answer_at
  answer_at_up it None = stays_up
  answer_at_up it (Some connection) = record { same = refl; sent = answer_up front.setting (ways_of front) (it.id).conn connection it }

  answer_from_up : (it : BackAnswer) (asked : Bool) → SendsUp front.ups (answer_from asked front it)
  unfolding answer_from
  answer_from_up it true = answer_at_up it (connection_at front (it.id).conn)
  answer_from_up it false = stays_up

  ok_at_up : (id : AskId) (found : Option Connection) → SendsUp front.ups (ok_at front id found)
  unfolding ok_at
  ok_at_up id None = stays_up
  ok_at_up id (Some connection) = record { same = refl; sent = ok_up front.setting (ways_of front) id.conn connection id }

  line_by_up : (bytes : List ℕ) (found : Option AskId) → SendsUp front.ups (line_by front bytes found)
  line_by_up bytes None = record { same = refl; sent = tt }
  line_by_up bytes (Some id) = ok_at_up id (connection_at front id.conn)

  line_from_up : (bytes : List ℕ) (same : Bool) → SendsUp front.ups (line_from same front bytes)
  unfolding line_from
  line_from_up bytes true = line_by_up bytes (barrier_answered bytes)
  line_from_up bytes false = stays_up

  end_at_up : (conn : ℕ) (found : Option Connection) → SendsUp front.ups (end_at front conn found)
  unfolding end_at
  end_at_up conn None = stays_up
  end_at_up conn (Some connection) = record { same = refl; sent = end_up_by front.setting (ways_of front) conn connection connection.stage }

  end_if_up : (conn : ℕ) (waits : Bool) → SendsUp front.ups (end_if waits front conn)
  end_if_up conn true = end_at_up conn (connection_at front conn)
  end_if_up conn false = stays_up

then_sends : (ups : Ups) (one two : Stepped) → SendsUp ups one → SendsUp one.front.ups two → SendsUp ups (record two { outs = one.outs ++ two.outs })
then_sends ups one two first second = record {
  same = second.same ∙ first.same;
  sent = both (IsSentUp ups) one.outs two.outs first.sent (subst (λ u. AreSentUp u two.outs) first.same second.sent);
}

all_end_up : (front : Front) (node : List ℕ) (conns : List ℕ) → SendsUp front.ups (all_end front node conns)
unfolding all_end
all_end_up front node [] = stays_up front
all_end_up front node (conn ∷ conns) =
    let one : Stepped = one_ends front node conn in
    then_sends front.ups one (all_end one.front node conns) (end_if_up front conn (awaited front.master (connection_at front conn) node))
    (all_end_up one.front node conns)

-- ---- what comes to the master

nothing_up : (ups : Ups) (master : List ℕ) (outs : List Out) → is_up ups master ≡ false → AreSentUp ups outs → messages_to master outs ≡ []
nothing_up ups master [] down are = refl
nothing_up ups master (to_node to message ∷ outs) down are =
    ap (λ b. (if b then message ∷ [] else []) ++ messages_to master outs)
    (other_name to master (λ e. (let no : true ≡ false = sym are.0 ∙ ap (is_up ups) e ∙ down in cc))) ∙ nothing_up ups master outs down are.1
nothing_up ups master (to_client conn bytes ∷ outs) down are = nothing_up ups master outs down are.1
nothing_up ups master (Close conn ∷ outs) down are = nothing_up ups master outs down are.1
nothing_up ups master (mark ask counts ∷ outs) down are = nothing_up ups master outs down are.1
nothing_up ups master (tell ask how ∷ outs) down are = nothing_up ups master outs down are.1

-- the frontend's link to the master stands as it did, and while it is down nothing is sent there
pub record KeepsLink (master : List ℕ) (was : Front) (next : Stepped) : Type 0 where
  pub reached : is_up next.front.ups master ≡ is_up was.ups master
  pub nothing : is_up was.ups master ≡ false → messages_to master next.outs ≡ []

keeps_link : (master : List ℕ) (was : Front) (ups : Ups) (next : Stepped) → is_up ups master ≡ is_up was.ups master → SendsUp ups next → KeepsLink master was next
keeps_link master was ups next same sends = record {
  reached = ap (λ u. is_up u master) sends.same ∙ same;
  nothing = λ down. nothing_up ups master next.outs (same ∙ down) sends.sent;
}

-- what a client does
pub client_keeps_link : (master : List ℕ) (front : Front) (input : NodeInput) → IsOfClient input → KeepsLink master front (front_does front input)
client_keeps_link master front input is = keeps_link master front front.ups (front_does front input) refl (client_up front input is)

-- a line, of whomever
pub line_keeps_link : (master : List ℕ) (front : Front) (from bytes : List ℕ) → KeepsLink master front (deliver front from (Line bytes))
unfolding deliver
line_keeps_link master front from bytes =
    keeps_link master front front.ups (line_from (pointwise nat_eq from front.master) front bytes) refl (line_from_up front bytes (pointwise nat_eq from front.master))

up_by : (front : Front) (from : List ℕ) (same : Bool) → from ≢ front.master → same ≡ false → KeepsLink front.master front (up_from same (with_up front from))
unfolding up_from
up_by front from false ne e =
    keeps_link front.master front (coming_up front.ups from) (still (with_up front from)) (others_coming front.ups from front.master (λ s. ne (sym s)))
    (stays_up (with_up front from))
up_by front from true ne e = cc

-- with its asks in their order
ordered_up : (ups : Ups) (next : Stepped) → SendsUp ups next → SendsUp ups (with_asks_in_order next)
ordered_up ups next sends = record { same = sends.same; sent = outs_all (IsSentUp ups) next.outs sends.sent }

-- a message of another node
pub others_keep_link : (front : Front) (from : List ℕ) (message : LinkMsg) → from ≢ front.master → KeepsLink front.master front (deliver front from message)
unfolding deliver
others_keep_link front from (Answer it) ne =
    keeps_link front.master front front.ups (answer_from (waits_for (connection_at front (it.id).conn) from) front it) refl
    (answer_from_up front it (waits_for (connection_at front (it.id).conn) from))
others_keep_link front from (Line bytes) ne = line_keeps_link front.master front from bytes
others_keep_link front from Up ne = up_by front from (pointwise nat_eq from front.master) ne (other_name from front.master ne)
others_keep_link front from End ne =
    keeps_link front.master front (going_down front.ups from) (end_from (without_up front from) from) (others_going front.ups from front.master (λ s. ne (sym s)))
    (ordered_up (going_down front.ups from) (all_end (without_up front from) from (keys_of front.connections))
    (all_end_up (without_up front from) from (keys_of front.connections)))
others_keep_link front from (Ask ask) ne = keeps_link front.master front front.ups (still front) refl (stays_up front)
