-- What a frontend lets out for what comes to it: bytes for the clients of its own connections, messages for nodes that it may ask; it marks no command
-- as a home or the master does.
use Rattle.std.proofs.Common.{◌≡◌, ◌≢◌, ℕ, nat_eq, Bool, true, false, List, [], ◌∷◌, ◌++◌, Option, None, Some, refl, sym, ap, ◌∙◌, subst}
use Rattle.std.specs.Prelude.{⊤}
use Rattle.std.specs.Map.{keys_of}
use Rattle.std.specs.List.{AllByRecursion}
use Rattle.std.specs.Ordering.{nat_cmp}
use Rattle.std.specs.Cmp.Lexicographic.{pointwise}
use Rattle.std.proofs.Math.Logic.{⊎_elim}
use Rattle.ask_routes.specs.Barrier.{barrier_answered, noop_line}
use Rattle.ask_routes.specs.Ways.{ask_for, behind_answer, behind_ok}
use Rattle.ask_routes.specs.WayLaws.{AsksBehind, AsksFirst, CreateAsks, IsAbout, IsAnswered, IsBehind, IsFirst, RecordAsks}
use Rattle.ask_routes.specs.declared.ask_for.AskFor.{AskFor}
use Rattle.ask_routes.specs.declared.ask_for.AskFor.TheVariants as about
use Rattle.ask_routes.specs.declared.next.Next.{Next}
use Rattle.ask_routes.specs.declared.next.Next.TheVariants as next
use Rattle.ask_routes.specs.declared.next.Why.{Why}
use Rattle.ask_routes.proofs.WayLaw.{each_about, each_answered, each_behind, each_first}
use Rattle.asking_core.specs.Answered.{answered, answered_by, goes_on, needs_by, told_by}
use Rattle.asking_core.specs.Begins.{Begun, ask_of, first_by, first_sent}
use Rattle.asking_core.specs.Cleared.{cleared}
use Rattle.asking_core.specs.declared.then.Then.{Then}
use Rattle.asking_core.specs.declared.then.Then.TheVariants as then
use Rattle.asking_core.specs.declared.waiting.At.{At}
use Rattle.asking_core.specs.declared.waiting.At.TheVariants.{Home, Barrier}
use Rattle.asking_core.specs.declared.waiting.Sent.{Sent}
use Rattle.asking_core.specs.declared.waiting.Waiting.{Waiting}
use Rattle.feed_core.specs.Feed.{rec_at}
use Rattle.feed_core.specs.Routes.{home_for, server_at, server_by}
use Rattle.feed_core.specs.Stream.{update_line}
use Rattle.feed_core.specs.declared.rec.Rec.{Rec}
use Rattle.feed_core.specs.declared.rec.Rec.TheVariants.{Active, Reserved}
use Rattle.front_core.specs.Reading.{inputs_of_more}
use Rattle.imap_talk.specs.declared.inputs.Input.{Input}
use Rattle.imap_talk.specs.declared.inputs.Input.TheVariants.{GoesOn, Asks, Faults}
use Rattle.imap_reply.specs.ReplyText.{reply_text}
use Rattle.imap_types.specs.declared.command.Tag.{Tag}
use Rattle.imap_types.specs.declared.op.Op.TheVariants as op
use Rattle.imap_types.specs.declared.reply.Reply.{Reply}
use Rattle.imap_types.specs.declared.request.Request.{Request}
use Rattle.imap_types.specs.declared.request.Request.TheVariants.{Command as a_command, Unknown as unknown, TooBig as too_big}
use Rattle.link_msg.specs.declared.answer.AnswerBody.{AnswerBody}
use Rattle.link_msg.specs.declared.answer.AnswerBody.TheVariants as answer_body
use Rattle.link_msg.specs.declared.answer.BackAnswer.{BackAnswer}
use Rattle.link_msg.specs.declared.ask.FrontAsk.{FrontAsk}
use Rattle.link_msg.specs.declared.how.How.{How}
use Rattle.link_msg.specs.declared.how.How.TheVariants.{Behind, Unreached}
use Rattle.link_msg.specs.declared.message.LinkMsg.{LinkMsg}
use Rattle.link_msg.specs.declared.message.LinkMsg.TheVariants.{Up, End, Line, Ask, Answer}
use Rattle.link_msg.specs.declared.out.Out.{Out}
use Rattle.link_msg.specs.declared.out.Out.TheVariants.{Client, Close, Link, Mark, Told}
use Rattle.mur_base.specs.Map.{with_entry, with_value}
use Rattle.mur_base.specs.declared.point.AskId.{AskId}
use Rattle.mur_base.specs.declared.point.What.TheVariants.{Unreached as unreached}
use Rattle.mur_base.proofs.MapLaws.{numbers_apart, same_or_other, value_at-with_entry-other, value_at-with_value-other}
use Rattle.mur_model.specs.declared.commands.list.Listing.{Listing}
use Rattle.mur_model.specs.declared.need.Asking.{Asking}
use Rattle.mur_model.specs.declared.need.Need.{Need}
use Rattle.mur_model.specs.declared.need.Need.TheVariants as needs
use Rattle.mur_model.specs.declared.session.Sess.{Sess}
use Rattle.mur_model.specs.declared.setting.Setting.{Setting}
use Rattle.session_core.specs.Begin.{begin}
use Rattle.session_core.specs.Relocated.{Refused, relocated}
use Rattle.front_core.specs.declared.connection.Connection.{Connection}
use Rattle.front_core.specs.declared.connection.Stage.{Stage}
use Rattle.front_core.specs.declared.connection.Stage.TheVariants.{Reading, Waits, Lists, Ended}
use Rattle.front_core.specs.declared.front.Front.{Front}
use Rattle.front_core.specs.Answered.{answer_by, answer_comes, by_then, clears_at, end_by, end_comes, ends_at, need_behind, ok_by, ok_comes, reading_again}
use Rattle.front_core.specs.Answered.{how_for, reads_on, refused_behind, sends_if, waiting_come}
use Rattle.front_core.specs.Ended.{released}
use Rattle.front_core.specs.Front.{Stepped, answer_at, answer_from, bytes_by, bytes_in, connect, connect_at, connection_at, deliver, front_bytes_at}
use Rattle.front_core.specs.Front.{all_end, awaited, end_at, end_from, end_if, front_hang_at, hang, having_read, hung_up, line_by, line_from, ok_at, one_ends}
use Rattle.front_core.specs.Front.{up_from, waits_for, ways_of, with_asks_in_order, with_up, without_up}
use Rattle.front_core.specs.Slots.{new_connection}
use Rattle.front_core.specs.Taken.{Turned, Ways, answers_last, asks, begins_if, comes_at, input_comes, input_in, inputs_come, lists, lists_if, next_of, request_in}
use Rattle.front_core.specs.Taken.{list_refused, to_begin, told_now, turned_by_need}
use Rattle.front_core.specs.Ups.{Ups, is_up}
use Rattle.front_core.proofs.AskOrder.{outs_all}

-- bytes for these clients alone, messages for these nodes alone, and marks where they may be
abbrev pub IsLetOut : (ℕ → Type 0) → (List ℕ → LinkMsg → Type 0) → Type 0 → Out → Type 0
IsLetOut own may marks (Client conn bytes) = own conn
IsLetOut own may marks (Close conn) = ⊤
IsLetOut own may marks (Link node message) = may node message
IsLetOut own may marks (Mark ask counts) = marks
IsLetOut own may marks (Told ask how) = ⊤

abbrev pub AreLetOut : (ℕ → Type 0) → (List ℕ → LinkMsg → Type 0) → Type 0 → List Out → Type 0
AreLetOut own may marks outs = AllByRecursion (IsLetOut own may marks) outs

pub both_let : (own : ℕ → Type 0) (may : List ℕ → LinkMsg → Type 0) (marks : Type 0) (one two : List Out) → AreLetOut own may marks one
    → AreLetOut own may marks two
    → AreLetOut own may marks (one ++ two)
both_let own may marks [] two first second = second
both_let own may marks (out ∷ one) two first second = (first.0, both_let own may marks one two first.1 second)

-- whom a frontend may ask: the master, for a mailbox the server of its record, and for a new one that of the nearest name above or the first backend
pub record MayAsk (may : List ℕ → LinkMsg → Type 0) (ways : Ways) : Type 0 where
  pub master : (bytes : List ℕ) → may ways.master (Line bytes)
  pub named : (ask : FrontAsk) (server : List ℕ) → server_at ways.recs ask.name ≡ Some server → may server (Ask ask)
  pub made : (ask : FrontAsk) → ask.op ≡ op.Create → may (home_for ways.recs ways.first ask.name) (Ask ask)

-- ---- who is asked

module _ (may : List ℕ → LinkMsg → Type 0) where
  abbrev pub MayBeAsked : List ℕ → Type 0
  MayBeAsked server = (ask : FrontAsk) → may server (Ask ask)

  asks_first_may : (ways : Ways) (ask : FrontAsk) (what : AskFor) (server : List ℕ) → MayAsk may ways → IsAbout ask.name ask.op what
      → AsksFirst ways.recs ways.first what server → may server (Ask ask)
  asks_first_may ways ask (about.Mailbox name) server may_ask its is = may_ask.named ask server (ap (server_at ways.recs) (sym its.0) ∙ is)
  asks_first_may ways ask (about.Create name) server may_ask its is =
      subst (λ at. may at (Ask ask)) (sym (is ∙ ap (home_for ways.recs ways.first) its.0)) (may_ask.made ask its.1)

  abbrev MaySend : Sent → Type 0
  MaySend sent = may sent.to sent.message

  first_may : (ways : Ways) (id : AskId) (session : Sess) (it : Waiting) (what : AskFor) (is_next : Next) → MayAsk may ways
      → IsAbout it.name it.asking.op what → IsFirst ways.recs ways.first what is_next → MaySend (first_by ways.master id session it is_next).sent
  first_may ways id session it what (next.Ask server) may_ask its is = asks_first_may ways (ask_of id session it) what server may_ask its is
  first_may ways id session it what (next.Barrier why) may_ask its is = may_ask.master (noop_line id)
  first_may ways id session it what next.Missing may_ask its is = may_ask.master (noop_line id)
  first_may ways id session it what next.Refused may_ask its is = may_ask.master (noop_line id)

  begun_may : (ways : Ways) (id : AskId) (session : Sess) (it : Waiting) → MayAsk may ways
      → MaySend (first_sent ways.recs ways.master ways.first id session it).sent
  unfolding first_sent
  begun_may ways id session it may_ask =
      first_may ways id session it (ask_for it.name it.asking.op) _ may_ask (each_about it.name it.asking.op)
      (each_first ways.recs ways.first (ask_for it.name it.asking.op))

  -- what comes of an answer or of the master's OK is sent there
  abbrev GoesThere : Then → Type 0
  GoesThere (then.Sends sent) = MaySend sent
  GoesThere what = ⊤

  needs_go : (found : Option Need) → GoesThere (needs_by found)
  needs_go None = tt
  needs_go (Some need) = tt

  abbrev IsAskedThere : FrontAsk → Next → Type 0
  IsAskedThere ask (next.Ask server) = may server (Ask ask)
  IsAskedThere ask it = ⊤

  goes_on_there : (ways : Ways) (id : AskId) (session : Sess) (it : Waiting) (is_next : Next) → MayAsk may ways
      → IsAskedThere (ask_of id session it) is_next → GoesThere (goes_on ways.master id session it is_next).then
  goes_on_there ways id session it (next.Ask server) may_ask there = there
  goes_on_there ways id session it (next.Barrier why) may_ask there = may_ask.master (noop_line id)
  goes_on_there ways id session it next.Missing may_ask there = needs_go _
  goes_on_there ways id session it next.Refused may_ask there = tt

  told_there : (session : Sess) (it : Waiting) (body : AnswerBody) → GoesThere (told_by session it body).then
  told_there session it (answer_body.Done outcome seen) = needs_go _
  told_there session it (answer_body.Unreached node) = tt
  told_there session it answer_body.Lost = tt
  told_there session it answer_body.NotNow = tt
  told_there session it (answer_body.Moved server) = tt

  -- where an answer sends a command on
  abbrev pub MovesThere : AnswerBody → Type 0
  MovesThere body = (server : List ℕ) → body ≡ answer_body.Moved server → MayBeAsked server

  abbrev pub MovesBy : LinkMsg → Type 0
  MovesBy (Answer answer) = MovesThere answer.body
  MovesBy message = ⊤

  answered_there : (ways : Ways) (id : AskId) (session : Sess) (it : Waiting) (body : AnswerBody) (found : Option Next) → MayAsk may ways
      → MovesThere body → IsAnswered body found → GoesThere (answered_by ways.master id session it body found).then
  answered_there ways id session it body None may_ask moves is = told_there session it body
  answered_there ways id session it body (Some (next.Ask server)) may_ask moves is =
      goes_on_there ways id session it (next.Ask server) may_ask (moves server is (ask_of id session it))
  answered_there ways id session it body (Some (next.Barrier why)) may_ask moves is = may_ask.master (noop_line id)
  answered_there ways id session it body (Some next.Missing) may_ask moves is = absurd is
  answered_there ways id session it body (Some next.Refused) may_ask moves is = absurd is

  answer_there : (ways : Ways) (id : AskId) (session : Sess) (it : Waiting) (body : AnswerBody) → MayAsk may ways → MovesThere body
      → GoesThere (answered ways.master id session it body).then
  unfolding answered
  answer_there ways id session it body may_ask moves = answered_there ways id session it body (behind_answer body) may_ask moves (each_answered body)

  record_there : (ways : Ways) (ask : FrontAsk) (why : Why) (found : Option Rec) (server : List ℕ) → MayAsk may ways
      → rec_at ways.recs ask.name ≡ found → RecordAsks why found server → may server (Ask ask)
  record_there ways ask why None server may_ask e is = absurd is
  record_there ways ask why (Some (Active place acl)) server may_ask e is = may_ask.named ask server (ap server_by e ∙ ap (λ s. Some s) (sym is))
  record_there ways ask why (Some (Reserved place acl)) server may_ask e is = may_ask.named ask server (ap server_by e ∙ ap (λ s. Some s) (sym is.0))

  create_there : (ways : Ways) (ask : FrontAsk) (why : Why) (found : Option Rec) (server : List ℕ) → MayAsk may ways → ask.op ≡ op.Create
      → rec_at ways.recs ask.name ≡ found → CreateAsks (home_for ways.recs ways.first ask.name) why found server → may server (Ask ask)
  create_there ways ask why None server may_ask creates e is = subst (λ at. may at (Ask ask)) (sym is) (may_ask.made ask creates)
  create_there ways ask why (Some it) server may_ask creates e is = record_there ways ask why (Some it) server may_ask e is

  behind_there : (ways : Ways) (ask : FrontAsk) (what : AskFor) (why : Why) (server : List ℕ) → MayAsk may ways → IsAbout ask.name ask.op what
      → AsksBehind ways.recs ways.first what why server → may server (Ask ask)
  behind_there ways ask (about.Mailbox name) why server may_ask its is =
      record_there ways ask why (rec_at ways.recs ask.name) server may_ask refl
      (subst (λ n. RecordAsks why (rec_at ways.recs n) server) its.0 is)
  behind_there ways ask (about.Create name) why server may_ask its is =
      create_there ways ask why (rec_at ways.recs ask.name) server may_ask its.1 refl
      (subst (λ n. CreateAsks (home_for ways.recs ways.first n) why (rec_at ways.recs n) server) its.0 is)

  ok_asks_there : (ways : Ways) (ask : FrontAsk) (what : AskFor) (why : Why) (is_next : Next) → MayAsk may ways → IsAbout ask.name ask.op what
      → IsBehind ways.recs ways.first what why is_next → IsAskedThere ask is_next
  ok_asks_there ways ask what why (next.Ask server) may_ask its is = behind_there ways ask what why server may_ask its is
  ok_asks_there ways ask what why (next.Barrier again) may_ask its is = tt
  ok_asks_there ways ask what why next.Missing may_ask its is = tt
  ok_asks_there ways ask what why next.Refused may_ask its is = tt

  cleared_there : (ways : Ways) (id : AskId) (session : Sess) (it : Waiting) (why : Why) → MayAsk may ways
      → GoesThere (cleared ways.recs ways.master ways.first id session it why).then
  unfolding cleared
  cleared_there ways id session it why may_ask =
      goes_on_there ways id session it (behind_ok ways.recs ways.first (ask_for it.name it.asking.op) why) may_ask
      (ok_asks_there ways (ask_of id session it) (ask_for it.name it.asking.op) why _ may_ask (each_about it.name it.asking.op)
      (each_behind ways.recs ways.first (ask_for it.name it.asking.op) why))

-- ---- what one connection lets out

module _ (own : ℕ → Type 0) (may : List ℕ → LinkMsg → Type 0) (ways : Ways) (conn : ℕ) (it_is : own conn) (may_ask : MayAsk may ways) where
  -- no command is marked
  abbrev AreLet : List Out → Type 0
  AreLet outs = AreLetOut own may ⊥ outs

  now_let : (how : How) (connection : Connection) (session : Sess) (tag : Tag) (reply : Reply) → AreLet (told_now how conn connection session tag reply).outs
  unfolding told_now
  now_let how connection session tag reply = (it_is, (tt, tt))

  begins_let : (up : Bool) (connection : Connection) (tag : Tag) (begun : Begun) → may (begun.sent).to (begun.sent).message
      → AreLet (begins_if up conn connection tag begun).outs
  begins_let true connection tag begun there = (there, tt)
  begins_let false connection tag begun there = now_let _ connection _ tag _

  asks_let : (connection : Connection) (tag : Tag) (name : List ℕ) (asking : Asking) → AreLet (asks ways conn connection tag name asking).outs
  asks_let connection tag name asking =
      let begun = first_sent ways.recs ways.master ways.first (next_of conn connection) connection.session (to_begin name asking) in
      begins_let (is_up ways.ups (begun.sent).to) connection tag begun
      (begun_may may ways (next_of conn connection) connection.session (to_begin name asking) may_ask)

  lists_let_if : (up : Bool) (connection : Connection) (tag : Tag) (it : Listing) → AreLet (lists_if up ways.master conn connection tag it).outs
  lists_let_if true connection tag it = (may_ask.master (noop_line (next_of conn connection)), tt)
  lists_let_if false connection tag it = now_let _ connection _ tag _

  -- the NOOP of a LIST
  lists_let : (connection : Connection) (tag : Tag) (it : Listing) → AreLet (lists ways conn connection tag it).outs
  lists_let connection tag it = lists_let_if (is_up ways.ups ways.master) connection tag it

  last_let : (connection : Connection) (tag : Tag) (reply : Reply) → AreLet (answers_last conn connection tag reply).outs
  unfolding answers_last
  last_let connection tag reply = (it_is, (tt, (tt, tt)))

  need_let : (connection : Connection) (tag : Tag) (need : Need) → AreLet (turned_by_need ways conn connection tag need).outs
  unfolding turned_by_need
  need_let connection tag (needs.Reply reply) = now_let _ connection connection.session tag reply
  need_let connection tag (needs.Leave reply) = last_let connection tag reply
  need_let connection tag (needs.Home name asking) = asks_let connection tag name asking
  need_let connection tag (needs.Names it) = lists_let connection tag it

  request_let : (setting : Setting) (connection : Connection) (request : Request) → AreLet (request_in setting ways conn connection request).outs
  unfolding request_in
  request_let setting connection (a_command tag it) =
      need_let (record connection { session = (begin setting connection.session it).session }) tag (begin setting connection.session it).need
  request_let setting connection (unknown tag) = now_let _ connection connection.session tag _
  request_let setting connection (too_big tag) = now_let _ connection connection.session tag _

  input_let : (setting : Setting) (connection : Connection) (input : Input) → AreLet (input_in setting ways conn connection input).outs
  unfolding input_in
  input_let setting connection (Asks request) = request_let setting connection request
  input_let setting connection (GoesOn why) = (it_is, tt)
  input_let setting connection (Faults fault) = (it_is, (tt, tt))

  comes_let : (setting : Setting) (connection : Connection) (input : Input) (stage : Stage) → AreLet (comes_at setting ways conn connection input stage).outs
  unfolding comes_at
  comes_let setting connection input Reading = input_let setting connection input
  comes_let setting connection input (Waits tag it) = tt
  comes_let setting connection input (Lists tag it) = tt
  comes_let setting connection input Ended = tt

  pub inputs_let : (setting : Setting) (connection : Connection) (inputs : List Input) → AreLet (inputs_come setting ways conn connection inputs).outs
  unfolding inputs_come input_comes
  inputs_let setting connection [] = tt
  inputs_let setting connection (input ∷ inputs) =
      let turned = comes_at setting ways conn connection input connection.stage in
      both_let own may ⊥ turned.outs (inputs_come setting ways conn turned.connection inputs).outs
      (comes_let setting connection input connection.stage) (inputs_let setting turned.connection inputs)

  -- a client is given a reply, and the inputs that waited come
  read_let : (setting : Setting) (connection : Connection) (session : Sess) (how : How) (text : List ℕ)
      → AreLet (reads_on setting ways conn (record connection { session = session }) how text).outs
  read_let setting connection session how text =
      (it_is, (tt, inputs_let setting (reading_again (record connection { session = session })) connection.waiting))

  refused_let : (setting : Setting) (connection : Connection) (tag : Tag) (refused : Refused) (node : List ℕ)
      → AreLet (refused_behind setting ways conn connection tag refused node).outs
  refused_let setting connection tag refused node = read_let setting connection refused.session (Unreached node) (reply_text tag refused.reply)

  waiting_let : (setting : Setting) (turned : Turned) → AreLet turned.outs → AreLet (waiting_come setting ways conn turned).outs
  waiting_let setting turned let_out =
      both_let own may ⊥ turned.outs (inputs_come setting ways conn (record turned.connection { waiting = [] }) (turned.connection).waiting).outs let_out
      (inputs_let setting (record turned.connection { waiting = [] }) (turned.connection).waiting)

  behind_let : (setting : Setting) (connection : Connection) (tag : Tag) (how : How) (need : Need)
      → AreLet (need_behind setting ways conn connection tag how need).outs
  behind_let setting connection tag how (needs.Reply reply) = read_let setting connection connection.session how (reply_text tag reply)
  behind_let setting connection tag how (needs.Leave reply) = (it_is, (tt, (tt, tt)))
  behind_let setting connection tag how (needs.Home name asking) =
      waiting_let setting (asks ways conn (record connection { stage = Reading }) tag name asking)
      (asks_let (record connection { stage = Reading }) tag name asking)
  behind_let setting connection tag how (needs.Names it) =
      waiting_let setting (lists ways conn (record connection { stage = Reading }) tag it) (lists_let (record connection { stage = Reading }) tag it)

  sends_let : (setting : Setting) (up : Bool) (connection : Connection) (tag : Tag) (it : Waiting) (sent : Sent) → may sent.to sent.message
      → AreLet (sends_if up setting ways conn connection tag it sent).outs
  sends_let setting true connection tag it sent there = (there, tt)
  sends_let setting false connection tag it sent there =
      refused_let setting connection tag (relocated connection.session it.asking.awaited (unreached sent.to)) sent.to

  then_let : (setting : Setting) (connection : Connection) (tag : Tag) (it : Waiting) (what : Then) → GoesThere may what
      → AreLet (by_then setting ways conn connection tag it what).outs
  then_let setting connection tag it (then.Sends sent) there = sends_let setting (is_up ways.ups sent.to) connection tag it sent there
  then_let setting connection tag it (then.Needs need) there = behind_let setting connection tag Behind need
  then_let setting connection tag it (then.Refused cause reply) there =
      read_let setting connection connection.session (how_for cause) (reply_text tag reply)
  then_let setting connection tag it then.Lost there = (it_is, (tt, tt))
  then_let setting connection tag it then.Stays there = tt

  answer_by_let : (setting : Setting) (connection : Connection) (answer : BackAnswer) (fits : Bool) (stage : Stage) → MovesThere may answer.body
      → AreLet (answer_by setting ways conn connection answer fits stage).outs
  unfolding answer_by
  answer_by_let setting connection answer true (Waits tag it) moves =
      let went = answered ways.master (next_of conn connection) connection.session it answer.body in
      then_let setting (record connection { session = went.session }) tag went.waiting went.then
      (answer_there may ways (next_of conn connection) connection.session it answer.body may_ask moves)
  answer_by_let setting connection answer fits stage moves = tt

  pub answer_let : (setting : Setting) (connection : Connection) (answer : BackAnswer) → MovesThere may answer.body
      → AreLet (answer_comes setting ways conn connection answer).outs
  unfolding answer_comes
  answer_let setting connection answer moves = answer_by_let setting connection answer _ connection.stage moves

  clears_let : (setting : Setting) (connection : Connection) (tag : Tag) (it : Waiting) (at : At)
      → AreLet (clears_at setting ways conn connection tag it at).outs
  clears_let setting connection tag it (Home server) = tt
  clears_let setting connection tag it (Barrier why) =
      let went = cleared ways.recs ways.master ways.first (next_of conn connection) connection.session it why in
      then_let setting (record connection { session = went.session }) tag went.waiting went.then
      (cleared_there may ways (next_of conn connection) connection.session it why may_ask)

  ok_by_let : (setting : Setting) (connection : Connection) (fits : Bool) (stage : Stage) → AreLet (ok_by setting ways conn connection fits stage).outs
  unfolding ok_by
  ok_by_let setting connection true (Waits tag it) = clears_let setting connection tag it it.at
  ok_by_let setting connection true (Lists tag it) = (it_is, (tt, inputs_let setting (reading_again connection) connection.waiting))
  ok_by_let setting connection fits stage = tt

  pub ok_let : (setting : Setting) (connection : Connection) (id : AskId) → AreLet (ok_comes setting ways conn connection id).outs
  unfolding ok_comes
  ok_let setting connection id = ok_by_let setting connection _ connection.stage

  ends_let : (setting : Setting) (connection : Connection) (tag : Tag) (it : Waiting) (at : At)
      → AreLet (ends_at setting ways conn connection tag it at).outs
  ends_let setting connection tag it (Home server) = (it_is, (tt, tt))
  ends_let setting connection tag it (Barrier why) =
      refused_let setting connection tag (relocated connection.session it.asking.awaited (unreached ways.master)) ways.master

  end_by_let : (setting : Setting) (connection : Connection) (stage : Stage) → AreLet (end_by setting ways conn connection stage).outs
  unfolding end_by
  end_by_let setting connection (Waits tag it) = ends_let setting connection tag it it.at
  end_by_let setting connection (Lists tag it) = refused_let setting connection tag (list_refused connection.session) ways.master
  end_by_let setting connection Reading = tt
  end_by_let setting connection Ended = tt

  pub end_let : (setting : Setting) (connection : Connection) → AreLet (end_comes setting ways conn connection).outs
  end_let setting connection = end_by_let setting connection connection.stage

-- ---- what a frontend lets out

-- all its connections are so
abbrev pub HasConnections : (ℕ → Type 0) → Front → Type 0
HasConnections own front = (conn : ℕ) (connection : Connection) → connection_at front conn ≡ Some connection → own conn

-- it lets out what it may, and has no other connections behind; its master and the first backend stay
pub record LetsItsOwn (own : ℕ → Type 0) (may : List ℕ → LinkMsg → Type 0) (was : Front) (stepped : Stepped) : Type 0 where
  pub outs : AreLetOut own may ⊥ stepped.outs
  pub has : HasConnections own stepped.front
  pub master : stepped.front.master ≡ was.master
  pub first : stepped.front.first ≡ was.first

changed_has : (own : ℕ → Type 0) (front : Front) (conn : ℕ) (now : Connection) → own conn → HasConnections own front
    → HasConnections own (record front { connections = with_value nat_cmp front.connections conn now })
changed_has own front conn now here has other connection at = ⊎_elim
    (λ (e : other ≡ conn). subst own (sym e) here)
    (λ (ne : other ≢ conn). has other connection (sym (value_at-with_value-other nat_cmp numbers_apart front.connections conn other now ne) ∙ at))
    (same_or_other nat_cmp numbers_apart other conn)

entered_has : (own : ℕ → Type 0) (front : Front) (conn : ℕ) (now : Connection) → own conn → HasConnections own front
    → HasConnections own (record front { connections = with_entry nat_cmp front.connections conn now })
entered_has own front conn now here has other connection at = ⊎_elim
    (λ (e : other ≡ conn). subst own (sym e) here)
    (λ (ne : other ≢ conn). has other connection (sym (value_at-with_entry-other nat_cmp numbers_apart front.connections conn other now ne) ∙ at))
    (same_or_other nat_cmp numbers_apart other conn)

module _ (own : ℕ → Type 0) (may : List ℕ → LinkMsg → Type 0) (front : Front) (has : HasConnections own front) where
  nothing_own : LetsItsOwn own may front (record { front = front; outs = [] })
  nothing_own = record { outs = tt; has = has; master = refl; first = refl }

  connect_by : (conn : ℕ) (found : Option Connection) → own conn → LetsItsOwn own may front (connect_at front conn found)
  unfolding connect_at
  connect_by conn (Some there) here = nothing_own
  connect_by conn None here = record {
    outs = (here, tt);
    has = entered_has own front conn new_connection here has;
    master = refl;
    first = refl;
  }

  -- a client that connects
  pub connect_own : (conn : ℕ) → own conn → LetsItsOwn own may front (connect front conn)
  unfolding connect
  connect_own conn here = connect_by conn (connection_at front conn) here

  hang_by : (conn : ℕ) (found : Option Connection) → connection_at front conn ≡ found
      → LetsItsOwn own may front (record { front = front_hang_at front conn found; outs = [] })
  unfolding front_hang_at
  hang_by conn None at = nothing_own
  hang_by conn (Some connection) at =
      record { outs = tt; has = changed_has own front conn (hung_up connection) (has conn connection at) has; master = refl; first = refl }

  -- one that closes its connection
  pub hang_own : (conn : ℕ) → LetsItsOwn own may front (record { front = hang front conn; outs = [] })
  unfolding hang
  hang_own conn = hang_by conn (connection_at front conn) refl

  module _ (may_ask : MayAsk may (ways_of front)) where
    read_own : (conn : ℕ) (bytes : List ℕ) (connection : Connection) → own conn → LetsItsOwn own may front (record {
      front = record front {
        connections = with_value nat_cmp front.connections conn
            (released (inputs_come front.setting (ways_of front) conn (having_read front.setting connection bytes)
            (inputs_of_more front.setting connection.reader bytes)).connection);
      };
      outs =
          (inputs_come front.setting (ways_of front) conn (having_read front.setting connection bytes)
          (inputs_of_more front.setting connection.reader bytes)).outs;
    })
    read_own conn bytes connection here = record {
      outs = inputs_let own may (ways_of front) conn here may_ask front.setting (having_read front.setting connection bytes)
          (inputs_of_more front.setting connection.reader bytes);
      has = changed_has own front conn _ here has;
      master = refl;
      first = refl;
    }

    bytes_own_by : (conn : ℕ) (bytes : List ℕ) (connection : Connection) (stage : Stage) → own conn
        → LetsItsOwn own may front (bytes_by front conn bytes connection stage)
    unfolding bytes_by
    bytes_own_by conn bytes connection Ended here = nothing_own
    bytes_own_by conn bytes connection Reading here = read_own conn bytes connection here
    bytes_own_by conn bytes connection (Waits tag it) here = read_own conn bytes connection here
    bytes_own_by conn bytes connection (Lists tag it) here = read_own conn bytes connection here

    bytes_own_at : (conn : ℕ) (bytes : List ℕ) (found : Option Connection) → connection_at front conn ≡ found
        → LetsItsOwn own may front (front_bytes_at front conn bytes found)
    unfolding front_bytes_at
    bytes_own_at conn bytes None at = nothing_own
    bytes_own_at conn bytes (Some connection) at = bytes_own_by conn bytes connection connection.stage (has conn connection at)

    -- bytes that come from a client
    pub bytes_own : (conn : ℕ) (bytes : List ℕ) → LetsItsOwn own may front (bytes_in front conn bytes)
    unfolding bytes_in
    bytes_own conn bytes = bytes_own_at conn bytes (connection_at front conn) refl

    answered_own : (answer : BackAnswer) (found : Option Connection) → connection_at front (answer.id).conn ≡ found → MovesThere may answer.body
        → LetsItsOwn own may front (answer_at front answer found)
    unfolding answer_at
    answered_own answer None at moves = nothing_own
    answered_own answer (Some connection) at moves =
        let here = has (answer.id).conn connection at in
        record {
          outs = answer_let own may (ways_of front) (answer.id).conn here may_ask front.setting connection answer moves;
          has = changed_has own front (answer.id).conn _ here has;
          master = refl;
          first = refl;
        }

    answer_own : (answer : BackAnswer) (is_asked : Bool) → MovesThere may answer.body → LetsItsOwn own may front (answer_from is_asked front answer)
    unfolding answer_from
    answer_own answer true moves = answered_own answer (connection_at front (answer.id).conn) refl moves
    answer_own answer false moves = nothing_own

    up_own : (is_master : Bool) → LetsItsOwn own may front (up_from is_master front)
    unfolding up_from
    up_own true = record { outs = (may_ask.master update_line, tt); has = has; master = refl; first = refl }
    up_own false = nothing_own

    ok_own : (id : AskId) (found : Option Connection) → connection_at front id.conn ≡ found → LetsItsOwn own may front (ok_at front id found)
    unfolding ok_at
    ok_own id None at = nothing_own
    ok_own id (Some connection) at =
        let here = has id.conn connection at in
        record {
          outs = ok_let own may (ways_of front) id.conn here may_ask front.setting connection id;
          has = changed_has own front id.conn _ here has;
          master = refl;
          first = refl;
        }

    line_own_by : (bytes : List ℕ) (found : Option AskId) → LetsItsOwn own may front (line_by front bytes found)
    line_own_by bytes None = record { outs = tt; has = has; master = refl; first = refl }
    line_own_by bytes (Some id) = ok_own id (connection_at front id.conn) refl

    line_own : (bytes : List ℕ) (is_master : Bool) → LetsItsOwn own may front (line_from is_master front bytes)
    unfolding line_from
    line_own bytes true = line_own_by bytes (barrier_answered bytes)
    line_own bytes false = nothing_own

    end_own : (conn : ℕ) (found : Option Connection) → connection_at front conn ≡ found → LetsItsOwn own may front (end_at front conn found)
    unfolding end_at
    end_own conn None at = nothing_own
    end_own conn (Some connection) at =
        let here = has conn connection at in
        record {
          outs = end_let own may (ways_of front) conn here may_ask front.setting connection;
          has = changed_has own front conn _ here has;
          master = refl;
          first = refl;
        }

    end_own_if : (conn : ℕ) (waits : Bool) → LetsItsOwn own may front (end_if waits front conn)
    end_own_if conn true = end_own conn (connection_at front conn) refl
    end_own_if conn false = nothing_own

    pub one_own : (node : List ℕ) (conn : ℕ) → LetsItsOwn own may front (one_ends front node conn)
    one_own node conn = end_own_if conn (awaited front.master (connection_at front conn) node)

-- ---- a message that comes

one_ways_by : (front : Front) (conn : ℕ) (found : Option Connection) → ways_of (end_at front conn found).front ≡ ways_of front
unfolding end_at
one_ways_by front conn None = refl
one_ways_by front conn (Some connection) = refl

one_ways_if : (front : Front) (conn : ℕ) (waits : Bool) → ways_of (end_if waits front conn).front ≡ ways_of front
one_ways_if front conn true = one_ways_by front conn (connection_at front conn)
one_ways_if front conn false = refl

pub one_ways : (front : Front) (node : List ℕ) (conn : ℕ) → ways_of (one_ends front node conn).front ≡ ways_of front
one_ways front node conn = one_ways_if front conn (awaited front.master (connection_at front conn) node)

module _ (own : ℕ → Type 0) (may : List ℕ → LinkMsg → Type 0) where
  -- a link ends
  pub all_own : (front : Front) → HasConnections own front → MayAsk may (ways_of front) → (node : List ℕ) (conns : List ℕ)
      → LetsItsOwn own may front (all_end front node conns)
  unfolding all_end
  all_own front has may_ask node [] = nothing_own own may front has
  all_own front has may_ask node (conn ∷ conns) =
      let stepped = one_ends front node conn in
      let one = one_own own may front has may_ask node conn in
      let rest = all_own stepped.front one.has (subst (MayAsk may) (sym (one_ways front node conn)) may_ask) node conns in
      record {
        outs = both_let own may ⊥ stepped.outs (all_end stepped.front node conns).outs one.outs rest.outs;
        has = rest.has;
        master = rest.master ∙ one.master;
        first = rest.first ∙ one.first;
      }

  -- whichever links are up, the same may be asked
  asks_still : (ways : Ways) (ups : Ups) → MayAsk may ways → MayAsk may (record ways { ups = ups })
  asks_still ways ups may_ask = record { master = may_ask.master; named = may_ask.named; made = may_ask.made }

  own_still : (front : Front) (ups : Ups) (stepped : Stepped) → LetsItsOwn own may (record front { ups = ups }) stepped → LetsItsOwn own may front stepped
  own_still front ups stepped its = record { outs = its.outs; has = its.has; master = its.master; first = its.first }

  -- in whatever order the asks go
  ordered_own : (front : Front) (stepped : Stepped) → LetsItsOwn own may front stepped → LetsItsOwn own may front (with_asks_in_order stepped)
  ordered_own front stepped its =
      record { outs = outs_all (IsLetOut own may ⊥) stepped.outs its.outs; has = its.has; master = its.master; first = its.first }

  pub message_own : (front : Front) (has : HasConnections own front) (may_ask : MayAsk may (ways_of front)) (from : List ℕ) (message : LinkMsg)
      → MovesBy may message → LetsItsOwn own may front (deliver front from message)
  unfolding deliver
  message_own front has may_ask from (Answer answer) moves =
      answer_own own may front has may_ask answer (waits_for (connection_at front (answer.id).conn) from) moves
  message_own front has may_ask from Up moves =
      own_still front _ (up_from (pointwise nat_eq from front.master) (with_up front from))
      (up_own own may (with_up front from) has (asks_still (ways_of front) _ may_ask) (pointwise nat_eq from front.master))
  message_own front has may_ask from End moves =
      own_still front _ (end_from (without_up front from) from)
      (ordered_own (without_up front from) (all_end (without_up front from) from (keys_of front.connections))
      (all_own (without_up front from) has (asks_still (ways_of front) _ may_ask) from (keys_of front.connections)))
  message_own front has may_ask from (Line line) moves = line_own own may front has may_ask line (pointwise nat_eq from front.master)
  message_own front has may_ask from (Ask ask) moves = nothing_own own may front has
