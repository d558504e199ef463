-- A command waits for a server's answer, or for the master's OK, only while the link to that node is up: nothing is asked where the link isn't, and behind its end nothing waits for it.
use Rattle.std.proofs.Common.{◌≡◌, ◌≢◌, ◌⊎◌, inl, inr, ℕ, nat_eq, Bool, true, false, cond, List, [], ◌∷◌, Option, None, Some, refl, sym, ◌∙◌, ap, subst}
use Rattle.std.specs.Map.{keys_of}
use Rattle.std.specs.Ordering.{nat_cmp, is_eq}
use Rattle.std.specs.Cmp.Lexicographic.{pointwise, same_text, slice_cmp}
use Rattle.std.proofs.Math.Logic.{⊎_elim}
use Rattle.ask_routes.specs.Barrier.{barrier_answered}
use Rattle.ask_routes.specs.Ways.{ask_for, behind_answer, behind_ok, first_step}
use Rattle.ask_routes.specs.declared.next.Next.{Next}
use Rattle.ask_routes.specs.declared.next.Next.TheVariants as next
use Rattle.ask_routes.specs.declared.next.Why.{Why}
use Rattle.asking_core.specs.Answered.{WentOn, answered, answered_by, goes_on, needs_by, told_by}
use Rattle.asking_core.specs.Begins.{Begun, first_by, first_sent}
use Rattle.asking_core.specs.Cleared.{cleared}
use Rattle.asking_core.specs.declared.then.Then.{Then}
use Rattle.asking_core.specs.declared.then.Then.TheVariants as then
use Rattle.asking_core.specs.declared.waiting.At.{At}
use Rattle.asking_core.specs.declared.waiting.At.TheVariants.{Home, Barrier}
use Rattle.asking_core.specs.declared.waiting.Sent.{Sent}
use Rattle.asking_core.specs.declared.waiting.Waiting.{Waiting}
use Rattle.front_core.specs.Reading.{inputs_of_more}
use Rattle.imap_talk.specs.declared.inputs.Input.{Input}
use Rattle.imap_talk.specs.declared.inputs.Input.TheVariants.{GoesOn, Asks, Faults}
use Rattle.imap_reply.specs.ReplyText.{reply_text}
use Rattle.imap_types.specs.declared.command.Tag.{Tag}
use Rattle.imap_types.specs.declared.reply.Reply.{Reply}
use Rattle.imap_types.specs.declared.request.Request.{Request}
use Rattle.imap_types.specs.declared.request.Request.TheVariants.{Command as a_command, Unknown as unknown, TooBig as too_big}
use Rattle.link_msg.specs.declared.answer.AnswerBody.{AnswerBody}
use Rattle.link_msg.specs.declared.answer.AnswerBody.TheVariants as answer_body
use Rattle.link_msg.specs.declared.answer.BackAnswer.{BackAnswer}
use Rattle.link_msg.specs.declared.how.How.{How}
use Rattle.link_msg.specs.declared.how.How.TheVariants.{Behind, Unreached}
use Rattle.link_msg.specs.declared.message.LinkMsg.{LinkMsg}
use Rattle.link_msg.specs.declared.message.LinkMsg.TheVariants.{Up, End, Line, Ask, Answer}
use Rattle.mur_base.specs.Map.{value_at, with_entry, with_value}
use Rattle.mur_base.specs.declared.point.AskId.{AskId}
use Rattle.mur_base.specs.declared.point.What.TheVariants.{Unreached as unreached}
use Rattle.mur_base.proofs.MapLaws.{names_apart, numbers_apart, same_or_other, value_at-with_entry, value_at-with_entry-other, value_at-with_value, value_at-with_value-other}
use Rattle.feed_core.specs.Listing.{mailbox_names}
use Rattle.mur_model.specs.Listing.{list_reply}
use Rattle.mur_model.specs.declared.commands.list.Listing.{Listing}
use Rattle.mur_model.specs.declared.need.Asking.{Asking}
use Rattle.mur_model.specs.declared.need.Need.{Need}
use Rattle.mur_model.specs.declared.need.Need.TheVariants as needs
use Rattle.mur_model.specs.declared.session.Sess.{Sess}
use Rattle.mur_model.specs.declared.setting.Setting.{Setting}
use Rattle.session_core.specs.Begin.{begin}
use Rattle.session_core.specs.Relocated.{Refused, relocated}
use Rattle.front_core.specs.declared.connection.Connection.{Connection}
use Rattle.front_core.specs.declared.connection.Stage.{Stage}
use Rattle.front_core.specs.declared.connection.Stage.TheVariants.{Reading, Waits, Lists, Ended}
use Rattle.front_core.specs.declared.front.Front.{Front}
use Rattle.front_core.specs.Answered.{answer_by, answer_comes, by_then, clears_at, end_by, end_comes, ends_at, goes_on_by, need_behind, ok_by, ok_comes, reading_again}
use Rattle.front_core.specs.Answered.{how_for, reads_on, refused_behind, sends_if, waiting_come}
use Rattle.front_core.specs.Ended.{released, released_at}
use Rattle.front_core.specs.Front.{answer_at, answer_from, bytes_by, bytes_in, connect, connect_at, connection_at, deliver, front_bytes_at}
use Rattle.front_core.specs.Front.{all_end, awaited, end_at, end_if, front_hang_at, hang, having_read, hung_up, line_by, line_from, ok_at, one_ends}
use Rattle.front_core.specs.Front.{noting, up_from, waits_for, ways_of, with_up, without_up}
use Rattle.front_core.specs.Slots.{new_connection}
use Rattle.front_core.specs.Stages.{awaits, waits_at}
use Rattle.front_core.specs.Taken.{Turned, Ways, answers_last, asks, begins_if, comes_at, input_comes, input_in, inputs_come, lists, lists_if, next_of, request_in}
use Rattle.front_core.specs.Taken.{list_refused, to_begin, told_now, turned_by_need}
use Rattle.front_core.specs.Ups.{Ups, is_up}
use Rattle.front_core.proofs.OwnOuts.{one_ways}
use Rattle.front_core.proofs.UpsLaws.{coming_keeps, others_going}

-- what waits at this stage for a server, or for the master, has its link up
abbrev pub IsUpAt : List ℕ → Ups → Stage → Type 0
IsUpAt master ups stage = (node : List ℕ) → awaits master stage node ≡ true → is_up ups node ≡ true

-- a stage that waits for nobody
reads_up : (master : List ℕ) (ups : Ups) → IsUpAt master ups Reading
unfolding awaits
reads_up master ups node asked = cc

ended_up : (master : List ℕ) (ups : Ups) → IsUpAt master ups Ended
unfolding awaits
ended_up master ups node asked = cc

-- a LIST waits for the master
lists_up : (master : List ℕ) (ups : Ups) (tag : Tag) (it : Listing) → is_up ups master ≡ true → IsUpAt master ups (Lists tag it)
unfolding awaits
lists_up master ups tag it up node asked = subst (λ n. is_up ups n ≡ true) (same_text master node (sym asked)) up

-- ---- the node that is asked is the one that is waited for

AsksThere : List ℕ → At → Sent → Type 0
AsksThere master at sent = (node : List ℕ) → waits_at master at node ≡ true → node ≡ sent.to

at_server_there : (master server : List ℕ) (sent : Sent) → sent.to ≡ server → AsksThere master (Home server) sent
unfolding AsksThere
at_server_there master server sent is node asked = sym (is ∙ same_text server node (sym asked))

at_master_there : (master : List ℕ) (why : Why) (sent : Sent) → sent.to ≡ master → AsksThere master (Barrier why) sent
unfolding AsksThere
at_master_there master why sent is node asked = sym (is ∙ same_text master node (sym asked))

begun_there : (master : List ℕ) (id : AskId) (session : Sess) (it : Waiting) (is_next : Next)
    → AsksThere master (first_by master id session it is_next).waiting.at (first_by master id session it is_next).sent
begun_there master id session it (next.Ask server) = at_server_there master server _ refl
begun_there master id session it (next.Barrier why) = at_master_there master why _ refl
begun_there master id session it next.Missing = at_master_there master _ _ refl
begun_there master id session it next.Refused = at_master_there master _ _ refl

GoesThere : List ℕ → At → Then → Type 0
GoesThere master at (then.Sends sent) = AsksThere master at sent
GoesThere master at what = Unit {0}

needs_there : (master : List ℕ) (at : At) (found : Option Need) → GoesThere master at (needs_by found)
unfolding GoesThere
needs_there master at None = tt
needs_there master at (Some need) = tt

goes_there : (master : List ℕ) (id : AskId) (session : Sess) (it : Waiting) (is_next : Next)
    → GoesThere master (goes_on master id session it is_next).waiting.at (goes_on master id session it is_next).then
unfolding GoesThere
goes_there master id session it (next.Ask server) = at_server_there master server _ refl
goes_there master id session it (next.Barrier why) = at_master_there master why _ refl
goes_there master id session it next.Missing = needs_there master _ _
goes_there master id session it next.Refused = tt

told_there : (master : List ℕ) (session : Sess) (it : Waiting) (body : AnswerBody)
    → GoesThere master (told_by session it body).waiting.at (told_by session it body).then
unfolding GoesThere
told_there master session it (answer_body.Done outcome seen) = needs_there master _ _
told_there master session it (answer_body.Unreached node) = tt
told_there master session it answer_body.Lost = tt
told_there master session it answer_body.NotNow = tt
told_there master session it (answer_body.Moved server) = tt

answered_there_by : (master : List ℕ) (id : AskId) (session : Sess) (it : Waiting) (body : AnswerBody) (found : Option Next)
    → GoesThere master (answered_by master id session it body found).waiting.at (answered_by master id session it body found).then
answered_there_by master id session it body None = told_there master session it body
answered_there_by master id session it body (Some is_next) = goes_there master id session it is_next

answered_there : (master : List ℕ) (id : AskId) (session : Sess) (it : Waiting) (body : AnswerBody)
    → GoesThere master (answered master id session it body).waiting.at (answered master id session it body).then
unfolding answered
answered_there master id session it body = answered_there_by master id session it body (behind_answer body)

first_there : (ways : Ways) (id : AskId) (session : Sess) (it : Waiting)
    → AsksThere ways.master (first_sent ways.recs ways.master ways.first id session it).waiting.at (first_sent ways.recs ways.master ways.first id session it).sent
unfolding first_sent
first_there ways id session it = begun_there ways.master id session it (first_step ways.recs ways.first (ask_for it.name it.asking.op))

cleared_there : (ways : Ways) (id : AskId) (session : Sess) (it : Waiting) (why : Why)
    → GoesThere ways.master (cleared ways.recs ways.master ways.first id session it why).waiting.at
    (cleared ways.recs ways.master ways.first id session it why).then
unfolding cleared
cleared_there ways id session it why =
    goes_there ways.master id session it (behind_ok ways.recs ways.first (ask_for it.name it.asking.op) why)

-- ---- one connection

module _ (setting : Setting) (ways : Ways) (conn : ℕ) where
  abbrev pub IsUp : Connection → Type 0
  IsUp connection = IsUpAt ways.master ways.ups connection.stage

  waits_up : (tag : Tag) (it : Waiting) (sent : Sent) → AsksThere ways.master it.at sent → is_up ways.ups sent.to ≡ true → IsUpAt ways.master ways.ups (Waits tag it)
  unfolding awaits AsksThere
  waits_up tag it sent there up node asked = subst (λ n. is_up ways.ups n ≡ true) (sym (there node asked)) up

  now_up : (how : How) (connection : Connection) (session : Sess) (tag : Tag) (reply : Reply) → IsUp connection
      → IsUp (told_now how conn connection session tag reply).connection
  unfolding told_now
  now_up how connection session tag reply was = was

  begins_up : (up : Bool) (connection : Connection) (tag : Tag) (begun : Begun) → is_up ways.ups begun.sent.to ≡ up → AsksThere ways.master begun.waiting.at begun.sent
      → IsUp connection → IsUp (begins_if up conn connection tag begun).connection
  begins_up true connection tag begun up there was = waits_up tag begun.waiting begun.sent there up
  begins_up false connection tag begun up there was = now_up _ connection _ tag _ was

  asks_up : (connection : Connection) (tag : Tag) (name : List ℕ) (asking : Asking) → IsUp connection
      → IsUp (asks ways conn connection tag name asking).connection
  asks_up connection tag name asking was =
      let begun = first_sent ways.recs ways.master ways.first (next_of conn connection) connection.session (to_begin name asking) in
      begins_up (is_up ways.ups (begun.sent).to) connection tag begun refl
      (first_there ways (next_of conn connection) connection.session (to_begin name asking)) was

  lists_if_up : (up : Bool) (connection : Connection) (tag : Tag) (it : Listing) → is_up ways.ups ways.master ≡ up → IsUp connection
      → IsUp (lists_if up ways.master conn connection tag it).connection
  lists_if_up true connection tag it up was = lists_up ways.master ways.ups tag it up
  lists_if_up false connection tag it up was = now_up _ connection _ tag _ was

  last_up : (connection : Connection) (tag : Tag) (reply : Reply) → IsUp (answers_last conn connection tag reply).connection
  unfolding answers_last
  last_up connection tag reply = ended_up ways.master ways.ups

  need_up : (connection : Connection) (tag : Tag) (need : Need) → IsUp connection → IsUp (turned_by_need ways conn connection tag need).connection
  unfolding turned_by_need
  need_up connection tag (needs.Reply reply) was = now_up _ connection connection.session tag reply was
  need_up connection tag (needs.Leave reply) was = last_up connection tag reply
  need_up connection tag (needs.Home name asking) was = asks_up connection tag name asking was
  need_up connection tag (needs.Names it) was = lists_if_up (is_up ways.ups ways.master) connection tag it refl was

  request_up : (connection : Connection) (request : Request) → IsUp connection → IsUp (request_in setting ways conn connection request).connection
  unfolding request_in
  request_up connection (a_command tag it) was =
      need_up (record connection { session = (begin setting connection.session it).session }) tag (begin setting connection.session it).need was
  request_up connection (unknown tag) was = now_up _ connection connection.session tag _ was
  request_up connection (too_big tag) was = now_up _ connection connection.session tag _ was

  input_up : (connection : Connection) (input : Input) → IsUp connection → IsUp (input_in setting ways conn connection input).connection
  unfolding input_in
  input_up connection (Asks request) was = request_up connection request was
  input_up connection (GoesOn why) was = was
  input_up connection (Faults fault) was = ended_up ways.master ways.ups

  comes_up : (connection : Connection) (input : Input) (stage : Stage) → IsUp connection → IsUp (comes_at setting ways conn connection input stage).connection
  unfolding comes_at
  comes_up connection input Reading was = input_up connection input was
  comes_up connection input (Waits tag it) was = was
  comes_up connection input (Lists tag it) was = was
  comes_up connection input Ended was = was

  pub inputs_up : (connection : Connection) (inputs : List Input) → IsUp connection → IsUp (inputs_come setting ways conn connection inputs).connection
  unfolding inputs_come input_comes
  inputs_up connection [] was = was
  inputs_up connection (input ∷ inputs) was =
      inputs_up (comes_at setting ways conn connection input connection.stage).connection inputs (comes_up connection input connection.stage was)

  -- a client is given a reply, and the inputs that waited come
  read_up : (connection : Connection) (how : How) (text : List ℕ) → IsUp (reads_on setting ways conn connection how text).connection
  read_up connection how text = inputs_up (reading_again connection) connection.waiting (reads_up ways.master ways.ups)

  refused_up : (connection : Connection) (tag : Tag) (refused : Refused) (node : List ℕ)
      → IsUp (refused_behind setting ways conn connection tag refused node).connection
  refused_up connection tag refused node =
      read_up (record connection { session = refused.session }) (Unreached node) (reply_text tag refused.reply)

  waiting_up : (turned : Turned) → IsUp turned.connection → IsUp (waiting_come setting ways conn turned).connection
  waiting_up turned was = inputs_up (record turned.connection { waiting = [] }) turned.connection.waiting was

  behind_up : (connection : Connection) (tag : Tag) (how : How) (need : Need) → IsUp (need_behind setting ways conn connection tag how need).connection
  behind_up connection tag how (needs.Reply reply) = read_up connection how (reply_text tag reply)
  behind_up connection tag how (needs.Leave reply) = ended_up ways.master ways.ups
  behind_up connection tag how (needs.Home name asking) =
      waiting_up (asks ways conn (record connection { stage = Reading }) tag name asking)
      (asks_up (record connection { stage = Reading }) tag name asking (reads_up ways.master ways.ups))
  behind_up connection tag how (needs.Names it) =
      waiting_up (lists ways conn (record connection { stage = Reading }) tag it)
      (lists_if_up (is_up ways.ups ways.master) (record connection { stage = Reading }) tag it refl (reads_up ways.master ways.ups))

  sends_up : (up : Bool) (connection : Connection) (tag : Tag) (it : Waiting) (sent : Sent) → is_up ways.ups sent.to ≡ up → AsksThere ways.master it.at sent
      → IsUp (sends_if up setting ways conn connection tag it sent).connection
  sends_up true connection tag it sent up there = waits_up tag it sent there up
  sends_up false connection tag it sent up there =
      refused_up connection tag (relocated connection.session it.asking.awaited (unreached sent.to)) sent.to

  then_up : (connection : Connection) (tag : Tag) (it : Waiting) (what : Then) → GoesThere ways.master it.at what → IsUp connection
      → IsUp (by_then setting ways conn connection tag it what).connection
  unfolding GoesThere
  then_up connection tag it (then.Sends sent) there was = sends_up (is_up ways.ups sent.to) connection tag it sent refl there
  then_up connection tag it (then.Needs need) there was = behind_up connection tag Behind need
  then_up connection tag it (then.Refused cause reply) there was = read_up connection (how_for cause) (reply_text tag reply)
  then_up connection tag it then.Lost there was = ended_up ways.master ways.ups
  then_up connection tag it then.Stays there was = was

  went_up : (connection : Connection) (tag : Tag) (went : WentOn) → GoesThere ways.master went.waiting.at went.then → IsUp connection
      → IsUp (goes_on_by setting ways conn connection tag went).connection
  went_up connection tag went there was = then_up (record connection { session = went.session }) tag went.waiting went.then there was

  answer_up_by : (connection : Connection) (answer : BackAnswer) (fits : Bool) (stage : Stage) → IsUp connection
      → IsUp (answer_by setting ways conn connection answer fits stage).connection
  unfolding answer_by
  answer_up_by connection answer true (Waits tag it) was =
      went_up connection tag _ (answered_there ways.master (next_of conn connection) connection.session it answer.body) was
  answer_up_by connection answer fits stage was = was

  pub answer_up : (connection : Connection) (answer : BackAnswer) → IsUp connection → IsUp (answer_comes setting ways conn connection answer).connection
  unfolding answer_comes
  answer_up connection answer was = answer_up_by connection answer _ connection.stage was

  clears_up : (connection : Connection) (tag : Tag) (it : Waiting) (at : At) → IsUp connection
      → IsUp (clears_at setting ways conn connection tag it at).connection
  clears_up connection tag it (Home server) was = was
  clears_up connection tag it (Barrier why) was =
      went_up connection tag _ (cleared_there ways (next_of conn connection) connection.session it why) was

  ok_up_by : (connection : Connection) (fits : Bool) (stage : Stage) → IsUp connection → IsUp (ok_by setting ways conn connection fits stage).connection
  unfolding ok_by
  ok_up_by connection true (Waits tag it) was = clears_up connection tag it it.at was
  ok_up_by connection true (Lists tag it) was = read_up connection Behind (reply_text tag (list_reply it (mailbox_names ways.recs)))
  ok_up_by connection fits stage was = was

  pub ok_up : (connection : Connection) (id : AskId) → IsUp connection → IsUp (ok_comes setting ways conn connection id).connection
  unfolding ok_comes
  ok_up connection id was = ok_up_by connection _ connection.stage was

  ends_up : (connection : Connection) (tag : Tag) (it : Waiting) (at : At) → IsUp (ends_at setting ways conn connection tag it at).connection
  ends_up connection tag it (Home server) = ended_up ways.master ways.ups
  ends_up connection tag it (Barrier why) =
      refused_up connection tag (relocated connection.session it.asking.awaited (unreached ways.master)) ways.master

  end_up_by : (connection : Connection) (stage : Stage) → connection.stage ≡ stage → IsUp (end_by setting ways conn connection stage).connection
  unfolding end_by
  end_up_by connection (Waits tag it) e = ends_up connection tag it it.at
  end_up_by connection (Lists tag it) e = refused_up connection tag (list_refused connection.session) ways.master
  end_up_by connection Reading e = subst (IsUpAt ways.master ways.ups) (sym e) (reads_up ways.master ways.ups)
  end_up_by connection Ended e = subst (IsUpAt ways.master ways.ups) (sym e) (ended_up ways.master ways.ups)

  -- one whose link ends waits for nobody on that link
  pub end_up : (connection : Connection) → IsUp (end_comes setting ways conn connection).connection
  end_up connection = end_up_by connection connection.stage refl

-- what is kept of a connection waits where it did
released_up : (master : List ℕ) (ups : Ups) (connection : Connection) (stage : Stage) → connection.stage ≡ stage → IsUpAt master ups connection.stage
    → IsUpAt master ups (released_at connection stage).stage
unfolding released_at
released_up master ups connection Reading e was = was
released_up master ups connection (Waits tag it) e was = was
released_up master ups connection (Lists tag it) e was = was
released_up master ups connection Ended e was = ended_up master ups

-- ---- a frontend

-- each of its connections waits only where a link is up
abbrev pub WaitUp : Front → Type 0
WaitUp front = (conn : ℕ) (connection : Connection) → connection_at front conn ≡ Some connection → IsUpAt front.master front.ups connection.stage

-- so it does, with the same links up as that one
pub record StaysUp (was now : Front) : Type 0 where
  pub ups : now.ups ≡ was.ups
  pub wait : WaitUp now

changed_up : (front : Front) (conn : ℕ) (old now : Connection) → connection_at front conn ≡ Some old → IsUpAt front.master front.ups now.stage → WaitUp front
    → WaitUp (record front { connections = with_value nat_cmp front.connections conn now })
changed_up front conn old now there is wait other connection at = ⊎_elim
    (λ (e : other ≡ conn). (let same : Some now ≡ Some connection =
    sym (value_at-with_value nat_cmp numbers_apart front.connections conn now old there)
    ∙ subst (λ n. value_at nat_cmp (with_value nat_cmp front.connections conn now) n ≡ Some connection) e at in
    let it : now ≡ connection = cc in subst (λ (c : Connection). IsUpAt front.master front.ups c.stage) it is))
    (λ (ne : other ≢ conn). wait other connection (sym (value_at-with_value-other nat_cmp numbers_apart front.connections conn other now ne) ∙ at))
    (same_or_other nat_cmp numbers_apart other conn)

entered_up : (front : Front) (conn : ℕ) (now : Connection) → IsUpAt front.master front.ups now.stage → WaitUp front
    → WaitUp (record front { connections = with_entry nat_cmp front.connections conn now })
entered_up front conn now is wait other connection at = ⊎_elim
    (λ (e : other ≡ conn). (let same : Some now ≡ Some connection =
    sym (value_at-with_entry nat_cmp numbers_apart front.connections conn now)
    ∙ subst (λ n. value_at nat_cmp (with_entry nat_cmp front.connections conn now) n ≡ Some connection) e at in
    let it : now ≡ connection = cc in subst (λ (c : Connection). IsUpAt front.master front.ups c.stage) it is))
    (λ (ne : other ≢ conn). wait other connection (sym (value_at-with_entry-other nat_cmp numbers_apart front.connections conn other now ne) ∙ at))
    (same_or_other nat_cmp numbers_apart other conn)

module _ (front : Front) (wait : WaitUp front) where
  abbrev Stays : Front → Type 0
  Stays now = StaysUp front now

  still_so : Stays front
  still_so = record { ups = refl; wait = wait }

  turned_so : (conn : ℕ) (old : Connection) (turned : Turned) → connection_at front conn ≡ Some old → IsUpAt front.master front.ups turned.connection.stage
      → Stays (record front { connections = with_value nat_cmp front.connections conn (released turned.connection) })
  turned_so conn old turned there is = record {
    ups = refl;
    wait = changed_up front conn old (released turned.connection) there
        (released_up front.master front.ups turned.connection turned.connection.stage refl is) wait;
  }

  -- a client that connects
  connects_so : (conn : ℕ) (found : Option Connection) → Stays (connect_at front conn found).front
  unfolding connect_at new_connection
  connects_so conn (Some there) = still_so
  connects_so conn None = record { ups = refl; wait = entered_up front conn new_connection (reads_up front.master front.ups) wait }

  pub connect_stays : (conn : ℕ) → Stays (connect front conn).front
  unfolding connect
  connect_stays conn = connects_so conn (connection_at front conn)

  -- one that closes its connection
  hangs_so : (conn : ℕ) (found : Option Connection) → connection_at front conn ≡ found → Stays (front_hang_at front conn found)
  unfolding front_hang_at
  hangs_so conn None at = still_so
  hangs_so conn (Some connection) at = record { ups = refl; wait = changed_up front conn connection (hung_up connection) at (ended_up front.master front.ups) wait }

  pub hang_stays : (conn : ℕ) → Stays (hang front conn)
  unfolding hang
  hang_stays conn = hangs_so conn (connection_at front conn) refl

  -- bytes of a client
  reads_so : (conn : ℕ) (bytes : List ℕ) (connection : Connection) → connection_at front conn ≡ Some connection
      → Stays (record front {
        connections = with_value nat_cmp front.connections conn
            (released (inputs_come front.setting (ways_of front) conn (having_read front.setting connection bytes)
            (inputs_of_more front.setting connection.reader bytes)).connection);
      })
  reads_so conn bytes connection at =
      turned_so conn connection
      (inputs_come front.setting (ways_of front) conn (having_read front.setting connection bytes) (inputs_of_more front.setting connection.reader bytes)) at
      (inputs_up front.setting (ways_of front) conn (having_read front.setting connection bytes) (inputs_of_more front.setting connection.reader bytes)
      (wait conn connection at))

  bytes_so_by : (conn : ℕ) (bytes : List ℕ) (connection : Connection) (stage : Stage) → connection_at front conn ≡ Some connection
      → Stays (bytes_by front conn bytes connection stage).front
  unfolding bytes_by
  bytes_so_by conn bytes connection Ended at = still_so
  bytes_so_by conn bytes connection Reading at = reads_so conn bytes connection at
  bytes_so_by conn bytes connection (Waits tag it) at = reads_so conn bytes connection at
  bytes_so_by conn bytes connection (Lists tag it) at = reads_so conn bytes connection at

  bytes_so_at : (conn : ℕ) (bytes : List ℕ) (found : Option Connection) → connection_at front conn ≡ found → Stays (front_bytes_at front conn bytes found).front
  unfolding front_bytes_at
  bytes_so_at conn bytes None at = still_so
  bytes_so_at conn bytes (Some connection) at = bytes_so_by conn bytes connection connection.stage at

  pub bytes_stay : (conn : ℕ) (bytes : List ℕ) → Stays (bytes_in front conn bytes).front
  unfolding bytes_in
  bytes_stay conn bytes = bytes_so_at conn bytes (connection_at front conn) refl

  -- an answer
  answers_so : (answer : BackAnswer) (found : Option Connection) → connection_at front (answer.id).conn ≡ found → Stays (answer_at front answer found).front
  unfolding answer_at
  answers_so answer None at = still_so
  answers_so answer (Some connection) at =
      turned_so (answer.id).conn connection (answer_comes front.setting (ways_of front) (answer.id).conn connection answer) at
      (answer_up front.setting (ways_of front) (answer.id).conn connection answer (wait (answer.id).conn connection at))

  answer_so : (answer : BackAnswer) (is_asked : Bool) → Stays (answer_from is_asked front answer).front
  unfolding answer_from
  answer_so answer true = answers_so answer (connection_at front (answer.id).conn) refl
  answer_so answer false = still_so

  -- a line of the master
  oks_so : (id : AskId) (found : Option Connection) → connection_at front id.conn ≡ found → Stays (ok_at front id found).front
  unfolding ok_at
  oks_so id None at = still_so
  oks_so id (Some connection) at = turned_so id.conn connection (ok_comes front.setting (ways_of front) id.conn connection id) at
      (ok_up front.setting (ways_of front) id.conn connection id (wait id.conn connection at))

  line_so_by : (bytes : List ℕ) (found : Option AskId) → Stays (line_by front bytes found).front
  line_so_by bytes None = record { ups = refl; wait = wait }
  line_so_by bytes (Some id) = oks_so id (connection_at front id.conn) refl

  line_so : (bytes : List ℕ) (is_master : Bool) → Stays (line_from is_master front bytes).front
  unfolding line_from
  line_so bytes true = line_so_by bytes (barrier_answered bytes)
  line_so bytes false = still_so

  -- the link to the master comes up
  up_so : (is_master : Bool) → Stays (up_from is_master front).front
  unfolding up_from
  up_so true = record { ups = refl; wait = wait }
  up_so false = still_so

-- ---- a link ends

abbrev IsAmong : List ℕ → ℕ → Type 0
IsAmong [] conn = ⊥
IsAmong (one ∷ conns) conn = (conn ≡ one) ⊎ IsAmong conns conn

key_by : (e : ℕ × Connection) (es : List (ℕ × Connection)) (conn : ℕ) (connection : Connection) (same : Bool) → is_eq (nat_cmp conn e.0) ≡ same
    → cond same (Some e.1) (value_at nat_cmp es conn) ≡ Some connection → (value_at nat_cmp es conn ≡ Some connection → IsAmong (keys_of es) conn)
    → IsAmong (keys_of (e ∷ es)) conn
key_by e es conn connection true h at later = inl (numbers_apart.exact conn e.0 h)
key_by e es conn connection false h at later = inr (later at)

key_among : (es : List (ℕ × Connection)) (conn : ℕ) (connection : Connection) → value_at nat_cmp es conn ≡ Some connection → IsAmong (keys_of es) conn
key_among [] conn connection at = cc
key_among (e ∷ es) conn connection at =
    key_by e es conn connection (is_eq (nat_cmp conn e.0)) refl at (λ found. key_among es conn connection found)

-- what waits where no link is up waits for this node, and is one of the connections that are left
abbrev WaitUpBut : Front → List ℕ → List ℕ → Type 0
WaitUpBut front node conns = (conn : ℕ) (connection : Connection) → connection_at front conn ≡ Some connection → (server : List ℕ)
    → awaits front.master connection.stage server ≡ true → (is_up front.ups server ≡ true) ⊎ ((server ≡ node) × IsAmong conns conn)

one_less : (front : Front) (node server : List ℕ) (conn other : ℕ) (conns : List ℕ) → other ≢ conn
    → (is_up front.ups server ≡ true) ⊎ ((server ≡ node) × IsAmong (conn ∷ conns) other) → (is_up front.ups server ≡ true) ⊎ ((server ≡ node) × IsAmong conns other)
one_less front node server conn other conns ne was = ⊎_elim
    (λ up. inl up)
    (λ left. ⊎_elim (λ same. absurd (ne same)) (λ later. inr (left.0, later)) left.1)
    was

its_awaited : (master node : List ℕ) (found : Option Connection) (connection : Connection) → found ≡ Some connection
    → awaits master connection.stage node ≡ true → awaited master found node ≡ true
unfolding awaited
its_awaited master node None connection at asked = cc
its_awaited master node (Some it) connection at asked =
    let same : it ≡ connection = cc in subst (λ (c : Connection). awaits master c.stage node ≡ true) (sym same) asked

module _ (front : Front) (node : List ℕ) (conn : ℕ) (conns : List ℕ) (wait : WaitUpBut front node (conn ∷ conns)) where
  -- what holds of this connection, and the others as before
  others_but : (now : Front) → now.ups ≡ front.ups → now.master ≡ front.master → ((other : ℕ) → other ≢ conn → connection_at now other ≡ connection_at front other)
      → ((connection : Connection) → connection_at now conn ≡ Some connection → IsUpAt front.master front.ups connection.stage) → WaitUpBut now node conns
  others_but now same same_master others here other connection at server asks =
      let asked : awaits front.master connection.stage server ≡ true = ap (λ m. awaits m connection.stage server) (sym same_master) ∙ asks in
      subst (λ ups. (is_up ups server ≡ true) ⊎ ((server ≡ node) × IsAmong conns other)) (sym same)
      (⊎_elim
      (λ (e : other ≡ conn). inl (here connection (ap (connection_at now) (sym e) ∙ at) server asked))
      (λ (ne : other ≢ conn). one_less front node server conn other conns ne (wait other connection (sym (others other ne) ∙ at) server asked))
      (same_or_other nat_cmp numbers_apart other conn))

  ended_but : (found : Option Connection) → connection_at front conn ≡ found → WaitUpBut (end_at front conn found).front node conns
  unfolding end_at
  ended_but None there =
      others_but front refl refl (λ other ne. refl) (λ connection at. absurd (let no : None ≡ Some connection = sym there ∙ at in none_some connection no))
    where
      none_some : (connection : Connection) → None ≡ Some connection → ⊥
      none_some connection e = cc
  ended_but (Some was) there =
      let turned = end_comes front.setting (ways_of front) conn was in
      others_but (record front { connections = with_value nat_cmp front.connections conn (released turned.connection) }) refl refl
      (λ other ne. value_at-with_value-other nat_cmp numbers_apart front.connections conn other (released turned.connection) ne)
      (λ connection at. (let same : Some (released turned.connection) ≡ Some connection =
      sym (value_at-with_value nat_cmp numbers_apart front.connections conn (released turned.connection) was there) ∙ at in
      let it : released turned.connection ≡ connection = cc in
      subst (λ (c : Connection). IsUpAt front.master front.ups c.stage) it
      (released_up front.master front.ups turned.connection turned.connection.stage refl (end_up front.setting (ways_of front) conn was))))

  end_if_but : (waits : Bool) → awaited front.master (connection_at front conn) node ≡ waits → WaitUpBut (end_if waits front conn).front node conns
  end_if_but true e = ended_but (connection_at front conn) refl
  end_if_but false e =
      others_but front refl refl (λ other ne. refl) (λ connection at server asked. ⊎_elim
      (λ up. up)
      (λ left. absurd (let yes = its_awaited front.master node (connection_at front conn) connection at
      (subst (λ n. awaits front.master connection.stage n ≡ true) left.0 asked) in
      let no : false ≡ true = sym e ∙ yes in false_true no))
      (wait conn connection at server asked))
    where
      false_true : false ≡ true → ⊥
      false_true e = cc

  one_but : WaitUpBut (one_ends front node conn).front node conns
  one_but = end_if_but (awaited front.master (connection_at front conn) node) refl

all_stay : (front : Front) (node : List ℕ) (conns : List ℕ) → WaitUpBut front node conns → StaysUp front (all_end front node conns).front
unfolding all_end
all_stay front node [] wait =
    record { ups = refl; wait = λ conn connection at server asked. ⊎_elim (λ up. up) (λ left. absurd left.1) (wait conn connection at server asked) }
all_stay front node (conn ∷ conns) wait =
    let rest = all_stay (one_ends front node conn).front node conns (one_but front node conn conns wait) in
    record { ups = rest.ups ∙ ap (λ (w : Ways). w.ups) (one_ways front node conn); wait = rest.wait }

-- ---- a message on a link

-- whatever it is, it changes of the links that are up the one on which it tells of it
pub message_stays : (front : Front) (from : List ℕ) (message : LinkMsg) → WaitUp front → StaysUp (noting front from message) (deliver front from message).front
unfolding noting deliver
message_stays front from (Answer answer) wait = answer_so front wait answer (waits_for (connection_at front (answer.id).conn) from)
message_stays front from Up wait =
    up_so (with_up front from) (λ conn connection at server asked. coming_keeps front.ups from server (wait conn connection at server asked))
    (pointwise nat_eq from front.master)
message_stays front from End wait =
    all_stay (without_up front from) from (keys_of front.connections) (λ conn connection at server asked. ⊎_elim
    (λ (e : server ≡ from). inr (e, key_among front.connections conn connection at))
    (λ (ne : server ≢ from). inl (others_going front.ups from server ne ∙ wait conn connection at server asked))
    (same_or_other (slice_cmp nat_cmp) names_apart server from))
message_stays front from (Line bytes) wait = line_so front wait bytes (pointwise nat_eq from front.master)
message_stays front from (Ask ask) wait = still_so front wait

-- ---- as a test

pub awaited_up : (front : Front) (conn : ℕ) (found : Option Connection) (server : List ℕ) → WaitUp front → connection_at front conn ≡ found
    → awaited front.master found server ≡ true → is_up front.ups server ≡ true
unfolding awaited
awaited_up front conn None server wait at asked = cc
awaited_up front conn (Some connection) server wait at asked = wait conn connection at server asked

-- one without connections
pub none_waits : (front : Front) → front.connections ≡ [] → WaitUp front
none_waits front none conn connection at =
    absurd (let no : None ≡ Some connection = sym (ap (λ l. value_at nat_cmp l conn) none) ∙ at in none_some connection no)
  where
    none_some : (connection : Connection) → None ≡ Some connection → ⊥
    none_some connection e = cc
