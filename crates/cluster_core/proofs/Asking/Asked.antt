-- One connection: an ask goes out for the command that comes to wait for a server's answer, and for no other.
use Rattle.std.proofs.Common.{◌≡◌, ℕ, ◌+◌, ◌≤◌, nat_eq, cond, Bool, true, false, ◌&&◌, List, [], ◌∷◌, ◌++◌, Option, None, Some, refl, sym, ◌∙◌, ap, subst, arith, eqb-true}
use Rattle.std.specs.Prelude.{count_by, ◌==◌}
use Rattle.std.specs.Cmp.Lexicographic.{pointwise, same_text}
use Rattle.std.proofs.lemmas.Bool.{and_parts, and_right, eq-eqb}
use Rattle.std.proofs.lemmas.List.{append-nil}
use Rattle.ask_routes.specs.Ways.{ask_for, behind_ok, first_step}
use Rattle.ask_routes.specs.declared.next.Next.{Next}
use Rattle.ask_routes.specs.declared.next.Next.TheVariants as next
use Rattle.ask_routes.specs.declared.next.Why.{Why}
use Rattle.asking_core.specs.Answered.{answered, goes_on, refused, told, told_in}
use Rattle.asking_core.specs.Begins.{Begun, ask_of, at_server, first_by, first_sent}
use Rattle.asking_core.specs.Cleared.{cleared}
use Rattle.asking_core.specs.declared.waiting.At.{At}
use Rattle.asking_core.specs.declared.waiting.At.TheVariants.{Home, Barrier}
use Rattle.asking_core.specs.declared.waiting.Sent.{Sent}
use Rattle.asking_core.specs.declared.waiting.Waiting.{Waiting}
use Rattle.front_core.specs.Answered.{answer_by, answer_comes, clears_at, end_by, end_comes, ends_at, ends_with, goes_on_by, how_for, need_behind, ok_by, ok_comes, reading_again, reads_on, sends_if}
use Rattle.front_core.specs.Answered.{told_so, unchanged}
use Rattle.front_core.specs.Front.{hung_up}
use Rattle.front_core.specs.Stages.{asks_at, has_asked}
use Rattle.front_core.specs.Taken.{Turned, Ways, answers_last, asks, begins_if, behind_outs, input_in, inputs_come, list_refused, lists, lists_if, next_of, request_in, says_bye}
use Rattle.front_core.specs.Taken.{to_begin, told_now, turned_by_need, waits_with}
use Rattle.front_core.specs.Ups.{is_up}
use Rattle.front_core.specs.declared.connection.Connection.{Connection}
use Rattle.front_core.specs.declared.connection.Stage.{Stage}
use Rattle.front_core.specs.declared.connection.Stage.TheVariants.{Reading, Waits, Lists, Ended}
use Rattle.front_core.proofs.FramesLaws.{HoldsBack, ended_drops, held_back, read_on, then_come}
use Rattle.imap_talk.specs.declared.inputs.Input.{Input}
use Rattle.imap_talk.specs.declared.inputs.Input.TheVariants.{GoesOn as goes_on_line, Asks, Faults}
use Rattle.imap_types.specs.declared.command.Tag.{Tag}
use Rattle.imap_types.specs.declared.reply.Bye.TheVariants.{Lost}
use Rattle.imap_types.specs.declared.reply.Reply.{Reply}
use Rattle.imap_types.specs.declared.request.Request.{Request}
use Rattle.imap_types.specs.declared.request.Request.TheVariants.{Command as a_command, Unknown as unknown, TooBig as too_big}
use Rattle.link_msg.specs.declared.answer.AnswerBody.{AnswerBody}
use Rattle.link_msg.specs.declared.answer.AnswerBody.TheVariants as answer_body
use Rattle.link_msg.specs.declared.answer.BackAnswer.{BackAnswer}
use Rattle.link_msg.specs.declared.how.How.{How}
use Rattle.link_msg.specs.declared.how.How.TheVariants.{Behind, Here, Unreached}
use Rattle.link_msg.specs.declared.message.LinkMsg.TheVariants.{Ask}
use Rattle.link_msg.specs.declared.out.Out.{Out}
use Rattle.link_msg.specs.declared.out.Out.TheVariants.{Link}
use Rattle.mark_history.proofs.Marks.{count_both}
use Rattle.mur_base.specs.declared.point.AskId.{AskId}
use Rattle.mur_base.specs.declared.point.What.{What}
use Rattle.mur_base.specs.declared.point.What.TheVariants as what
use Rattle.mur_model.specs.Need.{told_with}
use Rattle.mur_model.specs.declared.commands.list.Listing.{Listing}
use Rattle.mur_model.specs.declared.need.Asking.{Asking}
use Rattle.mur_model.specs.declared.need.Need.{Need}
use Rattle.mur_model.specs.declared.need.Need.TheVariants as needs
use Rattle.mur_model.specs.declared.session.Sess.{Sess}
use Rattle.mur_model.specs.declared.session.Sess.TheVariants as session_is
use Rattle.mur_model.specs.declared.session.Turn.{Turn}
use Rattle.mur_model.specs.declared.setting.Setting.{Setting}
use Rattle.session_core.specs.Begin.{begin}
use Rattle.session_core.specs.Finish.{finished_by, turn_of}
use Rattle.session_core.specs.Need.{told_reply}
use Rattle.session_core.specs.Relocated.{relocated}
use Rattle.session_core.specs.declared.result.OpResult.{OpResult}
use Rattle.session_core.specs.declared.result.OpResult.TheVariants.{Done, Missing}
use Rattle.cluster_core.specs.Headline.AsksOnce.{is_ask_of}

-- ---- counts

-- an output is an ask of this command to this server
abbrev pub is_asking : AskId → List ℕ → Out → Bool
is_asking id server (Link node message) = is_ask_of id message && pointwise nat_eq node server
is_asking id server out = false

abbrev pub asked_in : AskId → List ℕ → List Out → ℕ
asked_in id server outs = count_by (is_asking id server) outs

abbrev pub same_ask : AskId → AskId → Bool
same_ask one other = nat_eq one.conn other.conn && nat_eq one.command other.command

-- a connection's next command is this one, and waits for the answer of this server
abbrev pub awaits : ℕ → Connection → AskId → List ℕ → Bool
awaits conn c id server = same_ask (next_of conn c) id && has_asked c.stage server

-- so many asks of the command the connection is to have sent to the server
abbrev pub due : ℕ → Connection → AskId → List ℕ → ℕ
due conn c id server = cond (awaits conn c id server) 1 0

pub count_one : {T : Type 0} (p : T → Bool) (x : T) → count_by p (x ∷ []) ≡ cond (p x) 1 0
count_one p x = omega arith

none_due : (conn : ℕ) (c : Connection) (id : AskId) (server : List ℕ) → has_asked c.stage server ≡ false → due conn c id server ≡ 0
none_due conn c id server none =
    ap {B = ℕ} (λ b. cond b 1 0) (and_right (same_ask (next_of conn c) id) (has_asked c.stage server) none)

reads_none : (stage : Stage) (server : List ℕ) → stage ≡ Reading → has_asked stage server ≡ false
unfolding has_asked
reads_none stage server is = ap (λ s. has_asked s server) is

ended_none : (stage : Stage) (server : List ℕ) → stage ≡ Ended → has_asked stage server ≡ false
unfolding has_asked
ended_none stage server is = ap (λ s. has_asked s server) is

lists_none : (tag : Tag) (listing : Listing) (server : List ℕ) → has_asked (Lists tag listing) server ≡ false
unfolding has_asked
lists_none tag listing server = refl

-- its connection, its number, and that it waits for the server
its_conn : (conn : ℕ) (c : Connection) (id : AskId) (server : List ℕ) → awaits conn c id server ≡ true → conn ≡ id.conn
its_conn conn c id server is =
    eqb-true conn id.conn (and_parts (nat_eq conn id.conn) _ (and_parts (same_ask (next_of conn c) id) (has_asked c.stage server) is).0).0

pub its_number : (conn : ℕ) (c : Connection) (id : AskId) (server : List ℕ) → awaits conn c id server ≡ true → c.answered + 1 ≡ id.command
its_number conn c id server is =
    eqb-true (c.answered + 1) id.command (and_parts (nat_eq conn id.conn) _ (and_parts (same_ask (next_of conn c) id) (has_asked c.stage server) is).0).1

pub its_server : (conn : ℕ) (c : Connection) (id : AskId) (server : List ℕ) → awaits conn c id server ≡ true → has_asked c.stage server ≡ true
its_server conn c id server is = (and_parts (same_ask (next_of conn c) id) (has_asked c.stage server) is).1

pub its_id : (conn : ℕ) (c : Connection) (id : AskId) (server : List ℕ) → awaits conn c id server ≡ true → next_of conn c ≡ id
its_id conn c id server is =
    ap (λ n. record { conn = n; command = c.answered + 1 }) (its_conn conn c id server is)
    ∙ ap (λ n. record { conn = id.conn; command = n }) (its_number conn c id server is)

-- what became of a connection: just the ask went out that its next command is to have sent, and no answer was taken back
pub record Asked (conn : ℕ) (c : Connection) (turned : Turned) : Type 0 where
  pub count : (id : AskId) (server : List ℕ) → asked_in id server turned.outs ≡ due conn turned.connection id server
  pub more : c.answered ≤ turned.connection.answered

-- What comes to a connection lets it go on: just the ask of its next command then goes out, and no command waits on for the server for which it waited
-- unless it was told to ask that one; or nothing changes, and it wasn't told so.
pub data GoesOn (conn : ℕ) (moved : AskId → List ℕ → Type 0) (c : Connection) (turned : Turned) : Type 0 where
  anew : Asked conn c turned
      → ((id : AskId) (server : List ℕ) → awaits conn c id server ≡ true → awaits conn turned.connection id server ≡ true → moved id server)
      → GoesOn conn moved c turned
  as_it_was : turned.outs ≡ [] → turned.connection.stage ≡ c.stage → turned.connection.answered ≡ c.answered
      → ((id : AskId) (server : List ℕ) → awaits conn c id server ≡ true → moved id server → ⊥) → GoesOn conn moved c turned

-- this answer of a server tells its command to ask that server
abbrev pub SaysMoved : List ℕ → BackAnswer → AskId → List ℕ → Type 0
SaysMoved from answer id server = (from ≡ server) × (answer ≡ record { id = id; body = answer_body.Moved server })

module _ (ways : Ways) (conn : ℕ) where
  -- where nothing was asked, and no server's answer is waited for
  silent : (c : Connection) (turned : Turned) → ((id : AskId) (server : List ℕ) → asked_in id server turned.outs ≡ 0)
      → ((server : List ℕ) → has_asked turned.connection.stage server ≡ false) → c.answered ≤ turned.connection.answered → Asked conn c turned
  silent c turned none stage more = record {
    count = λ id server. none id server ∙ sym (none_due conn turned.connection id server (stage server));
    more = more;
  }

  -- ---- a command begins

  -- what goes out
  abbrev begun_by : Connection → Sess → Waiting → Next → Begun
  begun_by c session it found = first_by ways.master (next_of conn c) session it found

  begins_by : (c : Connection) (tag : Tag) (session : Sess) (it : Waiting) (found : Next)
      → Asked conn c (waits_with c tag (begun_by c session it found).waiting (begun_by c session it found).sent)
  unfolding has_asked
  begins_by c tag session it (next.Ask server) = record {
    count = λ id other. count_one (is_asking id other) (Link server (Ask (ask_of (next_of conn c) session it)));
    more = omega arith;
  }
  begins_by c tag session it (next.Barrier why) = silent c _ (λ id other. refl) (λ other. refl) (omega arith)
  begins_by c tag session it next.Missing = silent c _ (λ id other. refl) (λ other. refl) (omega arith)
  begins_by c tag session it next.Refused = silent c _ (λ id other. refl) (λ other. refl) (omega arith)

  now_so : (how : How) (c : Connection) (session : Sess) (tag : Tag) (reply : Reply) → c.stage ≡ Reading → Asked conn c (told_now how conn c session tag reply)
  unfolding told_now
  now_so how c session tag reply reads = silent c _ (λ id server. refl) (λ server. reads_none c.stage server reads) (omega arith)

  -- where the link is up
  begins_so : (up : Bool) (c : Connection) (tag : Tag) (session : Sess) (it : Waiting) (found : Next) → c.stage ≡ Reading
      → Asked conn c (begins_if up conn c tag (begun_by c session it found))
  begins_so true c tag session it found reads = begins_by c tag session it found
  begins_so false c tag session it found reads = now_so _ c _ tag _ reads

  asks_so : (c : Connection) (tag : Tag) (name : List ℕ) (asking : Asking) → c.stage ≡ Reading → Asked conn c (asks ways conn c tag name asking)
  unfolding first_sent
  asks_so c tag name asking reads =
      let it : Waiting = to_begin name asking in
      let found : Next = first_step ways.recs ways.first (ask_for name asking.op) in
      begins_so (is_up ways.ups (begun_by c c.session it found).sent.to) c tag c.session it found reads

  begin_lists_so : (up : Bool) (c : Connection) (tag : Tag) (listing : Listing) → c.stage ≡ Reading
      → Asked conn c (lists_if up ways.master conn c tag listing)
  begin_lists_so true c tag listing reads = silent c _ (λ id server. refl) (λ server. lists_none tag listing server) (omega arith)
  begin_lists_so false c tag listing reads = now_so _ c _ tag _ reads

  lists_so : (c : Connection) (tag : Tag) (listing : Listing) → c.stage ≡ Reading → Asked conn c (lists ways conn c tag listing)
  lists_so c tag listing reads = begin_lists_so (is_up ways.ups ways.master) c tag listing reads

  last_so : (c : Connection) (tag : Tag) (reply : Reply) → Asked conn c (answers_last conn c tag reply)
  unfolding answers_last
  last_so c tag reply = silent c _ (λ id server. refl) (λ server. ended_none Ended server refl) (omega arith)

  -- a session that changes is no matter
  in_session : (c : Connection) (session : Sess) (turned : Turned) → Asked conn (record c { session = session }) turned → Asked conn c turned
  in_session c session turned asked = record { count = asked.count; more = asked.more }

  need_so : (c : Connection) (tag : Tag) (need : Need) → c.stage ≡ Reading → Asked conn c (turned_by_need ways conn c tag need)
  unfolding turned_by_need
  need_so c tag (needs.Reply reply) reads = now_so Here c c.session tag reply reads
  need_so c tag (needs.Leave reply) reads = last_so c tag reply
  need_so c tag (needs.Home name asking) reads = asks_so c tag name asking reads
  need_so c tag (needs.Names listing) reads = lists_so c tag listing reads

  module _ (setting : Setting) where
    request_so : (c : Connection) (request : Request) → c.stage ≡ Reading → Asked conn c (request_in setting ways conn c request)
    unfolding request_in
    request_so c (a_command tag it) reads =
        let behind = begin setting c.session it in
        in_session c behind.session _ (need_so (record c { session = behind.session }) tag behind.need reads)
    request_so c (unknown tag) reads = now_so Here c c.session tag _ reads
    request_so c (too_big tag) reads = now_so Here c c.session tag _ reads

    input_so : (c : Connection) (input : Input) → c.stage ≡ Reading → Asked conn c (input_in setting ways conn c input)
    unfolding input_in
    input_so c (Asks request) reads = request_so c request reads
    input_so c (goes_on_line why) reads = silent c _ (λ id server. refl) (λ server. reads_none c.stage server reads) (omega arith)
    input_so c (Faults fault) reads = silent c _ (λ id server. refl) (λ server. ended_none Ended server refl) (omega arith)

    -- inputs that come then and change neither what the connection waits for nor its number
    quiet_so : (c : Connection) (turned : Turned) (waiting : List Input) → Asked conn c turned
        → Asked conn c (record { connection = record turned.connection { waiting = waiting }; outs = turned.outs ++ [] })
    quiet_so c turned waiting one = record {
      count = λ id server. ap (asked_in id server) (append-nil turned.outs) ∙ one.count id server;
      more = one.more;
    }

    held_so : (c : Connection) (turned : Turned) (inputs : List Input) → HoldsBack turned.connection.stage → Asked conn c turned
        → Asked conn c (then_come setting ways conn turned inputs)
    held_so c turned inputs holds one =
        subst (λ (later : Turned). Asked conn c (behind_outs turned.outs later)) (sym (held_back setting ways conn turned.connection inputs holds))
        (quiet_so c turned (turned.connection.waiting ++ inputs) one)

    -- one input, and then the others
    then_so : (c : Connection) (turned : Turned) (inputs : List Input) (stage : Stage) → turned.connection.stage ≡ stage → Asked conn c turned
        → (stage ≡ Reading → Asked conn turned.connection (inputs_come setting ways conn turned.connection inputs))
        → Asked conn c (then_come setting ways conn turned inputs)
    then_so c turned inputs Reading is one rest =
        let its = rest refl in
        record {
          count = λ id server.
              count_both (is_asking id server) turned.outs (inputs_come setting ways conn turned.connection inputs).outs
              ∙ (let none : asked_in id server turned.outs ≡ 0 = one.count id server ∙ none_due conn turned.connection id server (reads_none _ server is) in
              omega (arith, none, its.count id server));
          more = omega (arith, one.more, its.more);
        }
    then_so c turned inputs (Waits tag it) is one rest = held_so c turned inputs (subst HoldsBack (sym is) tt) one
    then_so c turned inputs (Lists tag it) is one rest = held_so c turned inputs (subst HoldsBack (sym is) tt) one
    then_so c turned inputs Ended is one rest =
        subst (λ (later : Turned). Asked conn c (behind_outs turned.outs later)) (sym (ended_drops setting ways conn turned.connection inputs is))
        (quiet_so c turned turned.connection.waiting one)

    pub inputs_so : (c : Connection) (inputs : List Input) → c.stage ≡ Reading → Asked conn c (inputs_come setting ways conn c inputs)
    unfolding inputs_come
    inputs_so c [] reads = silent c _ (λ id server. refl) (λ server. reads_none c.stage server reads) (omega arith)
    inputs_so c (input ∷ inputs) reads =
        let turned = input_in setting ways conn c input in
        subst (Asked conn c) (sym (read_on setting ways conn c input inputs reads))
        (then_so c turned inputs turned.connection.stage refl (input_so c input reads) (λ on. inputs_so turned.connection inputs on))

    -- ---- a command that waits

    module _ (moved : AskId → List ℕ → Type 0) where
      -- where it waits for no server then
      waits_not : (c : Connection) (turned : Turned) → Asked conn c turned → ((server : List ℕ) → has_asked turned.connection.stage server ≡ false)
          → GoesOn conn moved c turned
      waits_not c turned asked none =
          anew asked (λ id server was is.
          (let asks : has_asked turned.connection.stage server ≡ true = its_server conn turned.connection id server is in
          let no : false ≡ true = sym (none server) ∙ asks in cc))

      -- where it has come to its end
      number_grows : (c : Connection) (turned : Turned) → Asked conn c turned → c.answered + 1 ≤ turned.connection.answered → GoesOn conn moved c turned
      number_grows c turned asked more =
          anew asked (λ id server was is.
          absurd (omega (arith, more, (its_number conn c id server was), (its_number conn turned.connection id server is))))

      reads_on_so : (c : Connection) (how : How) (text : List ℕ) → GoesOn conn moved c (reads_on setting ways conn c how text)
      reads_on_so c how text =
          let rest = inputs_so (reading_again c) c.waiting refl in
          number_grows c _
          (record {
            count = λ id server.
                count_both (is_asking id server) (told_so conn c how text) (inputs_come setting ways conn (reading_again c) c.waiting).outs
                ∙ omega (arith, rest.count id server);
            more = omega (arith, rest.more);
          }) rest.more

      ends_so : (c : Connection) (how : How) (text : List ℕ) → GoesOn conn moved c (ends_with conn c how text)
      ends_so c how text =
          waits_not c _ (silent c _ (λ id server. refl) (λ server. ended_none Ended server refl) (omega arith)) (λ server. ended_none Ended server refl)

      -- a reply is told, and no home is asked
      told_goes : (c : Connection) (tag : Tag) (how : How) (session : Sess) (reply : Reply) (later : Option Sess)
          → GoesOn conn moved c (need_behind setting ways conn c tag how (told_reply session reply later).need)
      unfolding told_with
      told_goes c tag how session reply None = reads_on_so c how _
      told_goes c tag how session reply (Some session_is.Off) = reads_on_so c how _
      told_goes c tag how session reply (Some (session_is.In user)) = reads_on_so c how _
      told_goes c tag how session reply (Some (session_is.Selected view)) = reads_on_so c how _
      told_goes c tag how session reply (Some session_is.Ended) = ends_so c how _

      -- a session that changes is no matter
      as_before : (c : Connection) (session : Sess) (turned : Turned) → GoesOn conn moved (record c { session = session }) turned → GoesOn conn moved c turned
      as_before c session turned (anew asked still) = anew (in_session c session turned asked) still
      as_before c session turned (as_it_was outs stage number other) = as_it_was outs stage number other

      -- where it was not told to ask the server that it waits for
      abbrev IsToldNone : Connection → Type 0
      IsToldNone c = (id : AskId) (server : List ℕ) → awaits conn c id server ≡ true → moved id server → ⊥

      stays_so : (c : Connection) (session : Sess) → IsToldNone c → GoesOn conn moved c (unchanged (record c { session = session }))
      stays_so c session other = as_it_was refl refl refl other

      finished_goes : (c : Connection) (tag : Tag) (it : Waiting) (turn : Option Turn) → IsToldNone c
          → GoesOn conn moved c (goes_on_by setting ways conn c tag (told_in it (finished_by c.session turn)))
      unfolding finished_by
      finished_goes c tag it None other = stays_so c c.session other
      finished_goes c tag it (Some turn) other =
          let session : Sess = (told_reply c.session turn.reply turn.session).session in
          as_before c session _ (told_goes (record c { session = session }) tag Behind c.session turn.reply turn.session)

      result_goes : (c : Connection) (tag : Tag) (it : Waiting) (result : OpResult) → IsToldNone c
          → GoesOn conn moved c (goes_on_by setting ways conn c tag (told c.session it result))
      result_goes c tag it result other = finished_goes c tag it (turn_of c.session it.asking.awaited result) other

      refused_goes : (c : Connection) (tag : Tag) (it : Waiting) (cause : What)
          → GoesOn conn moved c (goes_on_by setting ways conn c tag (refused c.session it cause))
      refused_goes c tag it cause =
          let session : Sess = (relocated c.session it.asking.awaited cause).session in
          as_before c session _ (reads_on_so (record c { session = session }) (how_for cause) _)

      -- its connection ends
      bye_goes : (c : Connection) (session : Sess) → GoesOn conn moved c (says_bye conn (record c { session = session }) Lost)
      bye_goes c session =
          waits_not c _ (silent c _ (λ id server. refl) (λ server. ended_none Ended server refl) (omega arith)) (λ server. ended_none Ended server refl)

      -- a message goes out for it, where the link is up
      sends_goes : (up : Bool) (c : Connection) (tag : Tag) (it : Waiting) (sent : Sent) → GoesOn conn moved c (waits_with c tag it sent)
          → GoesOn conn moved c (sends_if up setting ways conn c tag it sent)
      sends_goes true c tag it sent goes = goes
      sends_goes false c tag it sent goes =
          let session : Sess = (relocated c.session it.asking.awaited (what.Unreached sent.to)).session in
          as_before c session _ (reads_on_so (record c { session = session }) (Unreached sent.to) _)

      -- the master is asked
      barrier_goes : (c : Connection) (tag : Tag) (it : Waiting) (why : Why)
          → GoesOn conn moved c (goes_on_by setting ways conn c tag (goes_on ways.master (next_of conn c) c.session it (next.Barrier why)))
      unfolding has_asked
      barrier_goes c tag it why =
          let begun : Begun = begun_by c c.session it (next.Barrier why) in
          sends_goes (is_up ways.ups begun.sent.to) c tag begun.waiting begun.sent
          (waits_not c _ (begins_by c tag c.session it (next.Barrier why)) (λ server. refl))

      -- a server is asked
      server_goes : (c : Connection) (tag : Tag) (it : Waiting) (asked : List ℕ)
          → ((id : AskId) (server : List ℕ) → awaits conn c id server ≡ true → asked ≡ server → moved id server)
          → GoesOn conn moved c (goes_on_by setting ways conn c tag (goes_on ways.master (next_of conn c) c.session it (next.Ask asked)))
      unfolding has_asked
      server_goes c tag it asked told =
          let begun : Begun = begun_by c c.session it (next.Ask asked) in
          sends_goes (is_up ways.ups begun.sent.to) c tag begun.waiting begun.sent
          (anew (begins_by c tag c.session it (next.Ask asked))
          (λ id server was is.
          told id server was (same_text asked server (sym (its_server conn (record c { stage = Waits tag (at_server it asked) }) id server is)))))

      -- ---- behind the master's OK

      -- nobody is told to ask a server again
      module _ (nobody : (id : AskId) (server : List ℕ) → moved id server → ⊥) where
        none_told : (c : Connection) → IsToldNone c
        none_told c = λ id server was told. nobody id server told

        goes_behind : (c : Connection) (tag : Tag) (it : Waiting) (why : Why) (found : Next) → it.at ≡ Barrier why → c.stage ≡ Waits tag it
            → GoesOn conn moved c (goes_on_by setting ways conn c tag (goes_on ways.master (next_of conn c) c.session it found))
        unfolding has_asked
        goes_behind c tag it why (next.Ask server) at stage =
            server_goes c tag it server
            (λ id other was same.
            (let none : has_asked c.stage other ≡ false = ap (λ s. has_asked s other) stage ∙ ap (λ a. asks_at a other) at in
            let no : false ≡ true = sym none ∙ its_server conn c id other was in cc))
        goes_behind c tag it why (next.Barrier again) at stage = barrier_goes c tag it again
        goes_behind c tag it why next.Missing at stage = result_goes c tag it Missing (none_told c)
        goes_behind c tag it why next.Refused at stage = refused_goes c tag it what.Reserved

        clears_goes : (c : Connection) (tag : Tag) (it : Waiting) (at : At) → it.at ≡ at → c.stage ≡ Waits tag it
            → GoesOn conn moved c (clears_at setting ways conn c tag it at)
        unfolding cleared
        clears_goes c tag it (Home server) at stage = stays_so c c.session (none_told c)
        clears_goes c tag it (Barrier why) at stage =
            goes_behind c tag it why (behind_ok ways.recs ways.first (ask_for it.name it.asking.op) why) at stage

        ok_goes_by : (c : Connection) (fits : Bool) (stage : Stage) → c.stage ≡ stage → GoesOn conn moved c (ok_by setting ways conn c fits stage)
        unfolding ok_by
        ok_goes_by c true (Waits tag it) is = clears_goes c tag it it.at refl is
        ok_goes_by c true (Lists tag it) is = reads_on_so c _ _
        ok_goes_by c true Reading is = stays_so c c.session (none_told c)
        ok_goes_by c true Ended is = stays_so c c.session (none_told c)
        ok_goes_by c false stage is = stays_so c c.session (none_told c)

        pub ok_goes : (c : Connection) (id : AskId) → GoesOn conn moved c (ok_comes setting ways conn c id)
        unfolding ok_comes
        ok_goes c id = ok_goes_by c (id.command == c.answered + 1) c.stage refl

        -- ---- the link to a node ends

        at_end_goes : (c : Connection) (tag : Tag) (it : Waiting) (at : At) → GoesOn conn moved c (ends_at setting ways conn c tag it at)
        at_end_goes c tag it (Home server) = bye_goes c c.session
        at_end_goes c tag it (Barrier why) =
            let session : Sess = (relocated c.session it.asking.awaited (what.Unreached ways.master)).session in
            as_before c session _ (reads_on_so (record c { session = session }) (Unreached ways.master) _)

        end_goes_by : (c : Connection) (stage : Stage) → GoesOn conn moved c (end_by setting ways conn c stage)
        unfolding end_by
        end_goes_by c (Waits tag it) = at_end_goes c tag it it.at
        end_goes_by c (Lists tag listing) =
            let session : Sess = (list_refused c.session).session in
            as_before c session _ (reads_on_so (record c { session = session }) (Unreached ways.master) _)
        end_goes_by c Reading = stays_so c c.session (none_told c)
        end_goes_by c Ended = stays_so c c.session (none_told c)

        pub end_goes : (c : Connection) → GoesOn conn moved c (end_comes setting ways conn c)
        end_goes c = end_goes_by c c.stage

        -- ---- what the client does

        -- bytes come, which change its reader alone
        pub bytes_go : (c later : Connection) (inputs : List Input) → later.stage ≡ c.stage → later.answered ≡ c.answered
            → GoesOn conn moved c (inputs_come setting ways conn later inputs)
        unfolding has_asked
        bytes_go c later inputs stage number = by later.stage refl
          where
            quiet : (turned : Turned) (waiting : List Input) → turned ≡ record { connection = record later { waiting = waiting }; outs = [] }
                → GoesOn conn moved c turned
            quiet turned waiting is =
                as_it_was (ap (λ (t : Turned). t.outs) is) (ap (λ (t : Turned). t.connection.stage) is ∙ stage)
                (ap (λ (t : Turned). t.connection.answered) is ∙ number) (none_told c)

            by : (at : Stage) → later.stage ≡ at → GoesOn conn moved c (inputs_come setting ways conn later inputs)
            by Reading is =
                let its = inputs_so later inputs is in
                anew (record { count = its.count; more = omega (arith, its.more, number) })
                (λ id server was on.
                (let none : has_asked c.stage server ≡ false = reads_none c.stage server (sym stage ∙ is) in
                let no : false ≡ true = sym none ∙ its_server conn c id server was in cc))
            by (Waits tag it) is = quiet _ _ (held_back setting ways conn later inputs (subst HoldsBack (sym is) tt))
            by (Lists tag it) is = quiet _ _ (held_back setting ways conn later inputs (subst HoldsBack (sym is) tt))
            by Ended is = quiet _ later.waiting (ended_drops setting ways conn later inputs is)

        pub hangs_go : (c : Connection) → GoesOn conn moved c (record { connection = hung_up c; outs = [] })
        hangs_go c =
            waits_not c _ (silent c _ (λ id server. refl) (λ server. ended_none Ended server refl) (omega arith)) (λ server. ended_none Ended server refl)

    -- ---- behind an answer

    one_server : (at : At) (one other : List ℕ) → asks_at at one ≡ true → asks_at at other ≡ true → one ≡ other
    one_server (Home server) one other first second = sym (same_text server one (sym first)) ∙ same_text server other (sym second)
    one_server (Barrier why) one other first second = cc

    module _ (from : List ℕ) (answer : BackAnswer) where
      answered_goes : (c : Connection) (tag : Tag) (it : Waiting) (body : AnswerBody) → answer.body ≡ body → answer.id ≡ next_of conn c → c.stage ≡ Waits tag it
          → has_asked c.stage from ≡ true
          → GoesOn conn (SaysMoved from answer) c (goes_on_by setting ways conn c tag (answered ways.master (next_of conn c) c.session it body))
      unfolding answered has_asked
      answered_goes c tag it answer_body.NotNow body own stage asked = barrier_goes (SaysMoved from answer) c tag it _
      answered_goes c tag it (answer_body.Moved server) body own stage asked =
          server_goes (SaysMoved from answer) c tag it server
          (λ id other was same. (
            one_server it.at from other (sym (ap (λ s. has_asked s from) stage) ∙ asked)
                (sym (ap (λ s. has_asked s other) stage) ∙ its_server conn c id other was),
            ap (λ b. record { id = answer.id; body = b }) (body ∙ ap answer_body.Moved same)
                ∙ ap (λ i. record { id = i; body = answer_body.Moved other }) (own ∙ its_id conn c id other was),
          ))
      answered_goes c tag it (answer_body.Done outcome seen) body own stage asked =
          result_goes (SaysMoved from answer) c tag it (Done outcome seen)
          (λ id server was told. (let no : answer_body.Done outcome seen ≡ answer_body.Moved server = sym body ∙ ap (λ (a : BackAnswer). a.body) told.1 in cc))
      answered_goes c tag it (answer_body.Unreached node) body own stage asked = refused_goes (SaysMoved from answer) c tag it (what.Unreached node)
      answered_goes c tag it answer_body.Lost body own stage asked = bye_goes (SaysMoved from answer) c c.session

      answer_goes_by : (c : Connection) (fits : Bool) (stage : Stage) → (answer.id).conn ≡ conn → (answer.id).command == c.answered + 1 ≡ fits
          → c.stage ≡ stage → has_asked c.stage from ≡ true → GoesOn conn (SaysMoved from answer) c (answer_by setting ways conn c answer fits stage)
      unfolding answer_by has_asked
      answer_goes_by c true (Waits tag it) own fits is asked =
          answered_goes c tag it answer.body refl
          (ap (λ n. record { conn = n; command = (answer.id).command }) own
          ∙ ap (λ n. record { conn = conn; command = n }) (eqb-true (answer.id).command (c.answered + 1) fits)) is asked
      answer_goes_by c true Reading own fits is asked = absurd (let no : false ≡ true = sym (ap (λ s. has_asked s from) is) ∙ asked in cc)
      answer_goes_by c true (Lists tag it) own fits is asked = absurd (let no : false ≡ true = sym (ap (λ s. has_asked s from) is) ∙ asked in cc)
      answer_goes_by c true Ended own fits is asked = absurd (let no : false ≡ true = sym (ap (λ s. has_asked s from) is) ∙ asked in cc)
      answer_goes_by c false stage own fits is asked =
          stays_so (SaysMoved from answer) c c.session
          (λ id server was told.
          (let number : (answer.id).command ≡ c.answered + 1 =
          ap (λ (a : BackAnswer). (a.id).command) told.1 ∙ sym (its_number conn c id server was) in
          let same : (answer.id).command == c.answered + 1 ≡ true = eq-eqb (answer.id).command (c.answered + 1) number in
          let no : true ≡ false = sym same ∙ fits in cc))

      -- the answer comes from the server that the command waits for
      pub answer_goes : (c : Connection) → (answer.id).conn ≡ conn → has_asked c.stage from ≡ true
          → GoesOn conn (SaysMoved from answer) c (answer_comes setting ways conn c answer)
      unfolding answer_comes
      answer_goes c own asked = answer_goes_by c ((answer.id).command == c.answered + 1) c.stage own refl refl asked
