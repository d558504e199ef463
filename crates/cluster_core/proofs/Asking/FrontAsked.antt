-- A frontend: in a step an ask goes out for each command that comes to wait for a server's answer, and for no other.
use Rattle.std.proofs.Common.{◌≡◌, ◌≢◌, ℕ, ◌+◌, nat_eq, cond, Bool, true, false, ◌&&◌, List, [], ◌∷◌, ◌++◌, Option, None, Some, refl, sym, ◌∙◌, ap, subst, arith}
use Rattle.std.specs.Map.{keys_of}
use Rattle.std.specs.Ordering.{nat_cmp}
use Rattle.std.specs.Cmp.Lexicographic.{pointwise, same_text, slice_cmp}
use Rattle.std.proofs.Math.Logic.{⊎_elim}
use Rattle.std.proofs.lemmas.Bool.{and_from, and_left, eq-eqb, ne_eqb}
use Rattle.ask_routes.specs.Barrier.{barrier_answered}
use Rattle.asking_core.specs.declared.waiting.At.{At}
use Rattle.asking_core.specs.declared.waiting.At.TheVariants.{Home, Barrier}
use Rattle.asking_core.specs.declared.waiting.Waiting.{Waiting}
use Rattle.feed_links.proofs.Names.{same_name}
use Rattle.front_core.specs.Answered.{end_comes}
use Rattle.front_core.specs.Ended.{released, released_at}
use Rattle.front_core.specs.Front.{Stepped, all_end, answer_at, answer_from, awaited, behind_them, bytes_by, bytes_in, connect, connect_at, connection_at, deliver, end_at, end_from, end_if}
use Rattle.front_core.specs.Front.{front_bytes_at, front_hang_at, hang, having_read, hung_up, line_by, line_from, ok_at, one_ends, still, up_from, waits_for, ways_of, with_turned, with_up, without_up}
use Rattle.front_core.specs.Reading.{inputs_of_more}
use Rattle.front_core.specs.Slots.{new_connection}
use Rattle.front_core.specs.Stages.{asks_at, awaits as awaits_node, has_asked}
use Rattle.front_core.specs.Taken.{Turned, Ways, inputs_come}
use Rattle.front_core.specs.Ups.{is_up}
use Rattle.front_core.proofs.OwnOuts.{one_ways}
use Rattle.front_core.proofs.UpsLaws.{down_goes}
use Rattle.front_core.proofs.WaitsUp.{end_up}
use Rattle.front_core.specs.declared.connection.Connection.{Connection}
use Rattle.front_core.specs.declared.connection.Stage.{Stage}
use Rattle.front_core.specs.declared.connection.Stage.TheVariants.{Reading, Waits, Lists, Ended}
use Rattle.front_core.specs.declared.front.Front.{Front}
use Rattle.imap_types.specs.declared.command.Tag.{Tag}
use Rattle.link_msg.specs.declared.answer.AnswerBody.TheVariants.{Moved}
use Rattle.link_msg.specs.declared.answer.BackAnswer.{BackAnswer}
use Rattle.link_msg.specs.declared.message.LinkMsg.{LinkMsg}
use Rattle.link_msg.specs.declared.message.LinkMsg.TheVariants.{Up, End, Line, Ask, Answer}
use Rattle.link_msg.specs.declared.out.Out.{Out}
use Rattle.mark_history.proofs.Marks.{count_both}
use Rattle.mur_base.specs.Map.{IsInOrder, with_entry}
use Rattle.mur_base.specs.declared.point.AskId.{AskId}
use Rattle.mur_base.proofs.MapLaws.{numbers_apart, same_or_other, value_at-with_entry, value_at-with_entry-other, value_at-with_value, value_at-with_value-other}
use Rattle.node_step.specs.declared.input.NodeInput.{NodeInput}
use Rattle.node_step.specs.declared.input.NodeInput.TheVariants.{Opened, Piece, Hung, From}
use Rattle.cluster_core.specs.Headline.AsksOnce.{Awaits}
use Rattle.cluster_core.proofs.Asking.AskOrder.{order_count}
use Rattle.cluster_core.proofs.Asking.Asked.{GoesOn, SaysMoved, answer_goes, asked_in, awaits, bytes_go, due, end_goes, hangs_go, is_asking, its_number, its_server, ok_goes, same_ask}
use Rattle.cluster_core.proofs.Asking.Asked.GoesOn.{anew, as_it_was}

-- ---- whether a command waits for a server

-- a stage is so
record AtServer (stage : Stage) (server : List ℕ) : Type 0 where
  tag : Tag
  it : Waiting
  is : stage ≡ Waits tag it
  at : it.at ≡ Home server

at_home : (at : At) (server : List ℕ) → asks_at at server ≡ true → at ≡ Home server
at_home (Home asked) server is = ap Home (same_text asked server (sym is))
at_home (Barrier why) server is = cc

at_server : (stage : Stage) (server : List ℕ) → has_asked stage server ≡ true → AtServer stage server
unfolding has_asked
at_server Reading server is = cc
at_server (Waits tag it) server is = record { tag = tag; it = it; is = refl; at = at_home it.at server is }
at_server (Lists tag it) server is = cc
at_server Ended server is = cc

waits_there : (front : Front) (c : Connection) (id : AskId) (server : List ℕ) → connection_at front id.conn ≡ Some c → awaits id.conn c id server ≡ true
    → Awaits (Some front) id server
waits_there front c id server there is =
    let at = at_server c.stage server (its_server id.conn c id server is) in
    record {
      front = front;
      is = refl;
      connection = c;
      there = there;
      number = sym (its_number id.conn c id server is);
      tag = at.tag;
      it = at.it;
      stage = at.is;
      at = at.at;
    }

same_front : {one other : Front} → Some one ≡ Some other → one ≡ other
same_front e = cc

same_connection : {one other : Connection} → Some one ≡ Some other → one ≡ other
same_connection e = cc

-- its connection and what that waits for
module _ (front : Front) (id : AskId) (server : List ℕ) (waits : Awaits (Some front) id server) where
  there_it_is : connection_at front id.conn ≡ Some waits.connection
  there_it_is = ap (λ (f : Front). connection_at f id.conn) (same_front waits.is) ∙ waits.there

  has_asked_it : has_asked waits.connection.stage server ≡ true
  unfolding has_asked
  has_asked_it = ap (λ s. has_asked s server) waits.stage ∙ ap (λ a. asks_at a server) waits.at ∙ same_name server

  awaits_it : awaits id.conn waits.connection id server ≡ true
  awaits_it =
      and_from (same_ask (record { conn = id.conn; command = waits.connection.answered + 1 }) id) (has_asked waits.connection.stage server)
      (and_from (nat_eq id.conn id.conn) (nat_eq (waits.connection.answered + 1) id.command) (eq-eqb id.conn id.conn refl)
      (eq-eqb (waits.connection.answered + 1) id.command (sym waits.number)))
      has_asked_it

  awaits_at : (c : Connection) → connection_at front id.conn ≡ Some c → awaits id.conn c id server ≡ true
  awaits_at c there = subst (λ (c : Connection). awaits id.conn c id server ≡ true) (same_connection (sym there_it_is ∙ there)) awaits_it

-- what is let go waited for no server
released_awaits : (conn : ℕ) (c : Connection) (id : AskId) (server : List ℕ) → awaits conn (released c) id server ≡ awaits conn c id server
unfolding released_at has_asked
released_awaits conn c id server = by c.stage refl
  where
    by : (stage : Stage) → c.stage ≡ stage → awaits conn (released_at c stage) id server ≡ awaits conn c id server
    by Reading is = refl
    by (Waits tag it) is = refl
    by (Lists tag it) is = refl
    by Ended is = sym (ap (λ s. same_ask (record { conn = conn; command = c.answered + 1 }) id && has_asked s server) is)

-- ---- a step of a frontend

-- the server's answer is taken that the command is to ask it
abbrev pub IsMoved : NodeInput → AskId → List ℕ → Type 0
IsMoved input id server = input ≡ From server (Answer (record { id = id; body = Moved server }))

-- the command comes to wait for the server's answer
pub record Comes (input : NodeInput) (was now : Front) (id : AskId) (server : List ℕ) : Type 0 where
  pub waits : Awaits (Some now) id server
  pub is_new : Awaits (Some was) id server → IsMoved input id server

pub data IsAskedSo (input : NodeInput) (was : Front) (stepped : Stepped) (id : AskId) (server : List ℕ) : Type 0 where
  is_asked : Comes input was stepped.front id server → asked_in id server stepped.outs ≡ 1 → IsAskedSo input was stepped id server
  isnt_asked : (Comes input was stepped.front id server → ⊥) → asked_in id server stepped.outs ≡ 0 → IsAskedSo input was stepped id server

module _ (input : NodeInput) (front : Front) where
  abbrev pub FrontAsks : Stepped → Type 0
  FrontAsks stepped = (id : AskId) (server : List ℕ) → IsAskedSo input front stepped id server

  -- no command is to ask the server again for whose answer it waits
  abbrev TellsNone : Type 0
  TellsNone = (id : AskId) (server : List ℕ) → Awaits (Some front) id server → IsMoved input id server → ⊥

  -- its connections stay
  stays_asking : (now : Front) (outs : List Out) → ((conn : ℕ) → connection_at now conn ≡ connection_at front conn)
      → ((id : AskId) (server : List ℕ) → asked_in id server outs ≡ 0) → TellsNone → FrontAsks (record { front = now; outs = outs })
  stays_asking now outs same none tells id server =
      isnt_asked
      (λ comes.
      let waits = comes.waits in
      let was = waits_there front waits.connection id server (sym (same id.conn) ∙ there_it_is now id server waits) (awaits_it now id server waits) in
      tells id server was (comes.is_new was))
      (none id server)

  still_asking : TellsNone → FrontAsks (still front)
  still_asking tells = stays_asking front [] (λ conn. refl) (λ id server. refl) tells

  module _ (conn : ℕ) (c : Connection) (there : connection_at front conn ≡ Some c) (moved : AskId → List ℕ → Type 0)
      (is_moved : (id : AskId) (server : List ℕ) → moved id server → IsMoved input id server)
      (says_so : (id : AskId) (server : List ℕ) → IsMoved input id server → moved id server)
      (own : (id : AskId) (server : List ℕ) → IsMoved input id server → id.conn ≡ conn) where
    module _ (turned : Turned) where
      abbrev now : Front
      now = (with_turned front conn turned).front

      now_there : connection_at now conn ≡ Some (released turned.connection)
      now_there = value_at-with_value nat_cmp numbers_apart front.connections conn (released turned.connection) c there

      elsewhere : (other : ℕ) → other ≢ conn → connection_at now other ≡ connection_at front other
      elsewhere other ne = value_at-with_value-other nat_cmp numbers_apart front.connections conn other (released turned.connection) ne

      -- of this connection
      module _ (id : AskId) (server : List ℕ) (same : id.conn ≡ conn) where
        was_awaits : Awaits (Some front) id server → awaits conn c id server ≡ true
        was_awaits waits =
            subst (λ n. awaits n c id server ≡ true) same (awaits_at front id server waits c (ap (connection_at front) same ∙ there))

        now_awaits : Awaits (Some now) id server → awaits conn turned.connection id server ≡ true
        now_awaits waits =
            sym (released_awaits conn turned.connection id server)
            ∙ subst (λ n. awaits n (released turned.connection) id server ≡ true) same
            (awaits_at now id server waits (released turned.connection) (ap (connection_at now) same ∙ now_there))

        waits_now : awaits conn turned.connection id server ≡ true → Awaits (Some now) id server
        waits_now is =
            waits_there now (released turned.connection) id server (ap (connection_at now) same ∙ now_there)
            (subst (λ n. awaits n (released turned.connection) id server ≡ true) (sym same) (released_awaits conn turned.connection id server ∙ is))

        waited : awaits conn c id server ≡ true → Awaits (Some front) id server
        waited is =
            waits_there front c id server (ap (connection_at front) same ∙ there) (subst (λ n. awaits n c id server ≡ true) (sym same) is)

        anew_by : (b : Bool) → awaits conn turned.connection id server ≡ b → asked_in id server turned.outs ≡ due conn turned.connection id server
            → (awaits conn c id server ≡ true → awaits conn turned.connection id server ≡ true → moved id server)
            → IsAskedSo input front (with_turned front conn turned) id server
        anew_by true e count told =
            is_asked (record { waits = waits_now e; is_new = λ was. is_moved id server (told (was_awaits was) e) }) (count ∙ ap {B = ℕ} (λ b. cond b 1 0) e)
        anew_by false e count told =
            isnt_asked (λ comes. (let no : true ≡ false = sym (now_awaits comes.waits) ∙ e in cc)) (count ∙ ap {B = ℕ} (λ b. cond b 1 0) e)

        own_so : GoesOn conn moved c turned → IsAskedSo input front (with_turned front conn turned) id server
        own_so (anew asked told) =
            anew_by (awaits conn turned.connection id server) refl (asked.count id server) (told id server)
        own_so (as_it_was outs stage number other) =
            isnt_asked
            (λ comes.
            let is : awaits conn c id server ≡ true =
            sym (ap (λ s. same_ask (record { conn = conn; command = c.answered + 1 }) id && has_asked s server) stage)
            ∙ sym (ap (λ n. same_ask (record { conn = conn; command = n + 1 }) id && has_asked turned.connection.stage server) number)
            ∙ now_awaits comes.waits in
            other id server is (says_so id server (comes.is_new (waited is))))
            (ap (asked_in id server) outs)

      -- of another
      other_count : (id : AskId) (server : List ℕ) → id.conn ≢ conn → GoesOn conn moved c turned → asked_in id server turned.outs ≡ 0
      other_count id server ne (anew asked told) =
          asked.count id server
          ∙ ap {B = ℕ} (λ b. cond b 1 0)
          (and_left (same_ask (record { conn = conn; command = turned.connection.answered + 1 }) id) (has_asked turned.connection.stage server)
          (and_left (nat_eq conn id.conn) (nat_eq (turned.connection.answered + 1) id.command) (ne_eqb conn id.conn (λ e. ne (sym e)))))
      other_count id server ne (as_it_was outs stage number other) = ap (asked_in id server) outs

      other_so : (id : AskId) (server : List ℕ) → id.conn ≢ conn → GoesOn conn moved c turned → IsAskedSo input front (with_turned front conn turned) id server
      other_so id server ne goes =
          isnt_asked
          (λ comes.
          let waits = comes.waits in
          let was =
          waits_there front waits.connection id server (sym (elsewhere id.conn ne) ∙ there_it_is now id server waits) (awaits_it now id server waits) in
          ne (own id server (comes.is_new was)))
          (other_count id server ne goes)

      turned_asks : GoesOn conn moved c turned → FrontAsks (with_turned front conn turned)
      turned_asks goes id server =
          ⊎_elim
          (λ (same : id.conn ≡ conn). own_so id server same goes)
          (λ (ne : id.conn ≢ conn). other_so id server ne goes)
          (same_or_other nat_cmp numbers_apart id.conn conn)

-- ---- what comes

-- nobody is told to ask a server again
abbrev Nobody : AskId → List ℕ → Type 0
Nobody id server = ⊥

nothing_waits_there : (c : Connection) (id : AskId) (server : List ℕ) → c.stage ≡ Reading → awaits id.conn c id server ≡ true → ⊥
unfolding has_asked
nothing_waits_there c id server is waits =
    (let no : false ≡ true = sym (ap (λ s. has_asked s server) is) ∙ its_server id.conn c id server waits in cc)

module _ (front : Front) where
  none_moved : (input : NodeInput) → ((id : AskId) (server : List ℕ) → IsMoved input id server → ⊥) → TellsNone input front
  none_moved input none id server was moved = none id server moved

  -- where it isn't an answer
  turned_alone : (input : NodeInput) (conn : ℕ) (c : Connection) (turned : Turned) → connection_at front conn ≡ Some c
      → ((id : AskId) (server : List ℕ) → IsMoved input id server → ⊥) → GoesOn conn Nobody c turned
      → FrontAsks input front (with_turned front conn turned)
  turned_alone input conn c turned there none goes =
      turned_asks input front conn c there Nobody (λ id server no. absurd no) none (λ id server moved. absurd (none id server moved)) turned goes

  connect_by : (conn : ℕ) (found : Option Connection) → connection_at front conn ≡ found → FrontAsks (Opened conn) front (connect_at front conn found)
  unfolding connect_at new_connection
  connect_by conn (Some there) at = still_asking (Opened conn) front (none_moved (Opened conn) (λ id server is. cc))
  connect_by conn None at = λ id server. isnt_asked (λ comes. absurd (opened id server comes)) refl
    where
      opened : (id : AskId) (server : List ℕ)
          → Comes (Opened conn) front (record front { connections = with_entry nat_cmp front.connections conn new_connection }) id server → ⊥
      opened id server comes =
          let now : Front = record front { connections = with_entry nat_cmp front.connections conn new_connection } in
          let waits = comes.waits in
          ⊎_elim
          (λ (same : id.conn ≡ conn).
          nothing_waits_there new_connection id server refl
          (awaits_at now id server waits new_connection
          (ap (connection_at now) same ∙ value_at-with_entry nat_cmp numbers_apart front.connections conn new_connection)))
          (λ (ne : id.conn ≢ conn).
          let was =
          waits_there front waits.connection id server
          (sym (value_at-with_entry-other nat_cmp numbers_apart front.connections conn id.conn new_connection ne) ∙ there_it_is now id server waits)
          (awaits_it now id server waits) in
          (let no : Opened conn ≡ From server (Answer (record { id = id; body = Moved server })) = comes.is_new was in cc))
          (same_or_other nat_cmp numbers_apart id.conn conn)

  pub connect_asks : (conn : ℕ) → FrontAsks (Opened conn) front (connect front conn)
  unfolding connect
  connect_asks conn = connect_by conn (connection_at front conn) refl

  -- bytes
  bytes_none : (conn : ℕ) (bytes : List ℕ) (id : AskId) (server : List ℕ) → IsMoved (Piece conn bytes) id server → ⊥
  bytes_none conn bytes id server is = cc

  read_asks : (conn : ℕ) (bytes : List ℕ) (c : Connection) → connection_at front conn ≡ Some c
      → FrontAsks (Piece conn bytes) front (with_turned front conn
      (inputs_come front.setting (ways_of front) conn (having_read front.setting c bytes) (inputs_of_more front.setting c.reader bytes)))
  read_asks conn bytes c there =
      turned_alone (Piece conn bytes) conn c _ there (bytes_none conn bytes)
      (bytes_go (ways_of front) conn front.setting Nobody (λ id server no. no) c (having_read front.setting c bytes)
      (inputs_of_more front.setting c.reader bytes) refl refl)

  bytes_by_asks : (conn : ℕ) (bytes : List ℕ) (c : Connection) (stage : Stage) → connection_at front conn ≡ Some c
      → FrontAsks (Piece conn bytes) front (bytes_by front conn bytes c stage)
  unfolding bytes_by
  bytes_by_asks conn bytes c Ended there = still_asking (Piece conn bytes) front (none_moved (Piece conn bytes) (bytes_none conn bytes))
  bytes_by_asks conn bytes c Reading there = read_asks conn bytes c there
  bytes_by_asks conn bytes c (Waits tag it) there = read_asks conn bytes c there
  bytes_by_asks conn bytes c (Lists tag it) there = read_asks conn bytes c there

  bytes_at_asks : (conn : ℕ) (bytes : List ℕ) (found : Option Connection) → connection_at front conn ≡ found
      → FrontAsks (Piece conn bytes) front (front_bytes_at front conn bytes found)
  unfolding front_bytes_at
  bytes_at_asks conn bytes None there = still_asking (Piece conn bytes) front (none_moved (Piece conn bytes) (bytes_none conn bytes))
  bytes_at_asks conn bytes (Some c) there = bytes_by_asks conn bytes c c.stage there

  pub bytes_ask : (conn : ℕ) (bytes : List ℕ) → FrontAsks (Piece conn bytes) front (bytes_in front conn bytes)
  unfolding bytes_in
  bytes_ask conn bytes = bytes_at_asks conn bytes (connection_at front conn) refl

  -- a connection that its client closes
  hang_by : (conn : ℕ) (found : Option Connection) → connection_at front conn ≡ found
      → FrontAsks (Hung conn) front (record { front = front_hang_at front conn found; outs = [] })
  unfolding front_hang_at released_at
  hang_by conn None there = still_asking (Hung conn) front (none_moved (Hung conn) (λ id server is. cc))
  hang_by conn (Some c) there =
      turned_alone (Hung conn) conn c (record { connection = hung_up c; outs = [] }) there (λ id server is. cc)
      (hangs_go (ways_of front) conn front.setting Nobody (λ id server no. no) c)

  pub hang_asks : (conn : ℕ) → FrontAsks (Hung conn) front (record { front = hang front conn; outs = [] })
  unfolding hang
  hang_asks conn = hang_by conn (connection_at front conn) refl

  -- an answer
  module _ (from : List ℕ) (answer : BackAnswer) where
    abbrev came : NodeInput
    came = From from (Answer answer)

    its_own : (id : AskId) (server : List ℕ) → IsMoved came id server → SaysMoved from answer id server
    its_own id server is = ((let same : from ≡ server = cc in same), (let same : answer ≡ record { id = id; body = Moved server } = cc in same))

    is_so : (id : AskId) (server : List ℕ) → SaysMoved from answer id server → IsMoved came id server
    is_so id server is = ap (λ f. From f (Answer answer)) is.0 ∙ ap (λ a. From server (Answer a)) is.1

    nobody_there : connection_at front (answer.id).conn ≡ None → TellsNone came front
    nobody_there none id server was moved =
        let same : (answer.id).conn ≡ id.conn = ap (λ (a : BackAnswer). (a.id).conn) (its_own id server moved).1 in
        (let no : None ≡ Some was.connection = sym none ∙ ap (connection_at front) same ∙ there_it_is front id server was in cc)

    answer_at_asks : (found : Option Connection) → connection_at front (answer.id).conn ≡ found → waits_for found from ≡ true
        → FrontAsks came front (answer_at front answer found)
    unfolding answer_at waits_for
    answer_at_asks None there waits = still_asking came front (nobody_there there)
    answer_at_asks (Some c) there waits =
        turned_asks came front (answer.id).conn c there (SaysMoved from answer) is_so its_own
        (λ id server moved. sym (ap (λ (a : BackAnswer). (a.id).conn) (its_own id server moved).1)) _
        (answer_goes (ways_of front) (answer.id).conn front.setting from answer c refl waits)

    -- one from another node
    stranger : waits_for (connection_at front (answer.id).conn) from ≡ false → TellsNone came front
    unfolding waits_for
    stranger other id server was moved =
        let its = its_own id server moved in
        let there : connection_at front (answer.id).conn ≡ Some was.connection =
        ap (connection_at front) (ap (λ (a : BackAnswer). (a.id).conn) its.1) ∙ there_it_is front id server was in
        let waits : has_asked was.connection.stage from ≡ true = ap (has_asked was.connection.stage) its.0 ∙ has_asked_it front id server was in
        (let no : false ≡ true = sym other ∙ ap (λ found. waits_for found from) there ∙ waits in cc)

    answer_asks : (is_asked : Bool) → waits_for (connection_at front (answer.id).conn) from ≡ is_asked
        → FrontAsks came front (answer_from is_asked front answer)
    unfolding answer_from
    answer_asks true e = answer_at_asks (connection_at front (answer.id).conn) refl e
    answer_asks false e = still_asking came front (stranger e)

  -- another message, but that a link ended
  module _ (from : List ℕ) (message : LinkMsg) (none : (id : AskId) (server : List ℕ) → IsMoved (From from message) id server → ⊥) where
    up_asks : (is_master : Bool) → FrontAsks (From from message) front (up_from is_master (with_up front from))
    unfolding up_from
    up_asks true = stays_asking (From from message) front _ _ (λ conn. refl) (λ id server. refl) (none_moved (From from message) none)
    up_asks false = stays_asking (From from message) front _ _ (λ conn. refl) (λ id server. refl) (none_moved (From from message) none)

    ok_asks : (id : AskId) (found : Option Connection) → connection_at front id.conn ≡ found → FrontAsks (From from message) front (ok_at front id found)
    unfolding ok_at
    ok_asks id None there = still_asking (From from message) front (none_moved (From from message) none)
    ok_asks id (Some c) there =
        turned_alone (From from message) id.conn c _ there none
        (ok_goes (ways_of front) id.conn front.setting Nobody (λ i server no. no) c id)

    line_by_asks : (bytes : List ℕ) (found : Option AskId) → FrontAsks (From from message) front (line_by front bytes found)
    line_by_asks bytes None = stays_asking (From from message) front _ _ (λ conn. refl) (λ id server. refl) (none_moved (From from message) none)
    line_by_asks bytes (Some id) = ok_asks id (connection_at front id.conn) refl

    line_asks : (bytes : List ℕ) (is_master : Bool) → FrontAsks (From from message) front (line_from is_master front bytes)
    unfolding line_from
    line_asks bytes true = line_by_asks bytes (barrier_answered bytes)
    line_asks bytes false = still_asking (From from message) front (none_moved (From from message) none)

    still_so : FrontAsks (From from message) front (still front)
    still_so = still_asking (From from message) front (none_moved (From from message) none)

-- ---- a link ends

-- what holds of a command is so wherever its connection is the same, and as many asks of it go out
same_awaits : (one other : Front) (id : AskId) (server : List ℕ) → connection_at other id.conn ≡ connection_at one id.conn → Awaits (Some one) id server
    → Awaits (Some other) id server
same_awaits one other id server same waits =
    waits_there other waits.connection id server (same ∙ there_it_is one id server waits) (awaits_it one id server waits)

same_asked : (input : NodeInput) (was other : Front) (one two : Stepped) (id : AskId) (server : List ℕ) → connection_at other id.conn ≡ connection_at was id.conn
    → connection_at two.front id.conn ≡ connection_at one.front id.conn → asked_in id server two.outs ≡ asked_in id server one.outs
    → IsAskedSo input was one id server → IsAskedSo input other two id server
same_asked input was other one two id server before behind count (is_asked comes one_is) =
    is_asked
    (record {
      waits = same_awaits one.front two.front id server behind comes.waits;
      is_new = λ waits. comes.is_new (same_awaits other was id server (sym before) waits);
    })
    (count ∙ one_is)
same_asked input was other one two id server before behind count (isnt_asked none zero) =
    isnt_asked
    (λ comes. none (record {
      waits = same_awaits two.front one.front id server (sym behind) comes.waits;
      is_new = λ waits. comes.is_new (same_awaits was other id server before waits);
    }))
    (count ∙ zero)

module _ (node : List ℕ) where
  abbrev ending : NodeInput
  ending = From node End

  none_says : (id : AskId) (server : List ℕ) → IsMoved ending id server → ⊥
  none_says id server is = cc

  -- a command then waits for nothing from there
  released_waits : (master : List ℕ) (c : Connection) (stage : Stage) → c.stage ≡ stage → awaits_node master (released_at c stage).stage node ≡ awaits_node master c.stage node
  unfolding released_at
  released_waits master c Reading is = refl
  released_waits master c (Waits tag it) is = refl
  released_waits master c (Lists tag it) is = refl
  released_waits master c Ended is = ap (λ s. awaits_node master s node) (sym is)

  not_up : (waits up : Bool) → (waits ≡ true → up ≡ true) → up ≡ false → waits ≡ false
  not_up true up so down = (let no : true ≡ false = sym (so refl) ∙ down in absurd (true_false no))
    where
      true_false : true ≡ false → ⊥
      true_false e = cc
  not_up false up so down = refl

  module _ (front : Front) (conn : ℕ) where
    -- what became of its connection
    abbrev ends_of : Connection → Turned
    ends_of c = end_comes front.setting (ways_of front) conn c

    goes_so : (c : Connection) → GoesOn conn Nobody c (ends_of c)
    goes_so c = end_goes (ways_of front) conn front.setting Nobody (λ id server no. no) c

    found_asks : (found : Option Connection) → connection_at front conn ≡ found → FrontAsks ending front (end_at front conn found)
    unfolding end_at
    found_asks None there = still_asking ending front (none_moved front ending none_says)
    found_asks (Some c) there = turned_alone front ending conn c (ends_of c) there none_says (goes_so c)

    if_asks : (waits : Bool) → FrontAsks ending front (end_if waits front conn)
    if_asks true = found_asks (connection_at front conn) refl
    if_asks false = still_asking ending front (none_moved front ending none_says)

    one_asks : FrontAsks ending front (one_ends front node conn)
    one_asks = if_asks (awaited front.master (connection_at front conn) node)

    found_over : (found : Option Connection) → connection_at front conn ≡ found → is_up front.ups node ≡ false
        → awaited front.master (connection_at (end_at front conn found).front conn) node ≡ false
    unfolding end_at awaited
    found_over None there down = ap (λ f. awaited front.master f node) there
    found_over (Some c) there down =
        let then : Connection = (ends_of c).connection in
        ap (λ f. awaited front.master f node) (value_at-with_value nat_cmp numbers_apart front.connections conn (released then) c there)
        ∙ released_waits front.master then then.stage refl
        ∙ not_up (awaits_node front.master then.stage node) (is_up front.ups node) (end_up front.setting (ways_of front) conn c node) down

    if_over : (waits : Bool) → awaited front.master (connection_at front conn) node ≡ waits → is_up front.ups node ≡ false
        → awaited front.master (connection_at (end_if waits front conn).front conn) node ≡ false
    if_over true e down = found_over (connection_at front conn) refl down
    if_over false e down = e

    one_over : is_up front.ups node ≡ false → awaited front.master (connection_at (one_ends front node conn).front conn) node ≡ false
    one_over down = if_over (awaited front.master (connection_at front conn) node) refl down

    -- another command stays where it is, and isn't asked for
    module _ (id : AskId) where
      abbrev IsLeftAlone : Stepped → Type 0
      IsLeftAlone stepped = (connection_at stepped.front id.conn ≡ connection_at front id.conn) × ((server : List ℕ) → asked_in id server stepped.outs ≡ 0)

      found_else : (found : Option Connection) → connection_at front conn ≡ found → id.conn ≢ conn → IsLeftAlone (end_at front conn found)
      unfolding end_at
      found_else None there ne = (refl, λ server. refl)
      found_else (Some c) there ne = (
        value_at-with_value-other nat_cmp numbers_apart front.connections conn id.conn (released (ends_of c).connection) ne,
        λ server.
            other_count ending front conn c there Nobody (λ i s no. absurd no) none_says (λ i s moved. absurd (none_says i s moved)) (ends_of c) id server ne (goes_so c),
      )

      if_else : (waits : Bool) → id.conn ≢ conn → IsLeftAlone (end_if waits front conn)
      if_else true ne = found_else (connection_at front conn) refl ne
      if_else false ne = (refl, λ server. refl)

      one_else : id.conn ≢ conn → IsLeftAlone (one_ends front node conn)
      one_else ne = if_else (awaited front.master (connection_at front conn) node) ne

      -- so is one that waits for nothing from there
      one_alone : awaited front.master (connection_at front id.conn) node ≡ false → IsLeftAlone (one_ends front node conn)
      one_alone none = ⊎_elim
          (λ (e : id.conn ≡ conn).
          subst (λ waits. IsLeftAlone (end_if waits front conn)) (sym (ap (λ n. awaited front.master (connection_at front n) node) (sym e) ∙ none)) (refl, λ server. refl))
          (λ (ne : id.conn ≢ conn). one_else ne)
          (same_or_other nat_cmp numbers_apart id.conn conn)

  -- the master and the links that are up stay
  one_master : (front : Front) (conn : ℕ) → (one_ends front node conn).front.master ≡ front.master
  one_master front conn = ap (λ (w : Ways). w.master) (one_ways front node conn)

  one_ups : (front : Front) (conn : ℕ) → (one_ends front node conn).front.ups ≡ front.ups
  one_ups front conn = ap (λ (w : Ways). w.ups) (one_ways front node conn)

  none_more : (id : AskId) (server : List ℕ) (one rest : List Out) → asked_in id server one ≡ 0 → asked_in id server (one ++ rest) ≡ asked_in id server rest
  none_more id server one rest none = count_both (is_asking id server) one rest ∙ omega (arith, none)

  all_alone : (front : Front) (conns : List ℕ) (id : AskId) → awaited front.master (connection_at front id.conn) node ≡ false
      → (connection_at (all_end front node conns).front id.conn ≡ connection_at front id.conn) × ((server : List ℕ) → asked_in id server (all_end front node conns).outs ≡ 0)
  unfolding all_end
  all_alone front [] id none = (refl, λ server. refl)
  all_alone front (conn ∷ conns) id none =
      let one : Stepped = one_ends front node conn in
      let first = one_alone front conn id none in
      let rest = all_alone one.front conns id (ap (λ m. awaited m (connection_at one.front id.conn) node) (one_master front conn)
      ∙ ap (λ f. awaited front.master f node) first.0 ∙ none) in (
        rest.0 ∙ first.0,
        λ server. none_more id server one.outs (all_end one.front node conns).outs (first.1 server) ∙ rest.1 server,
      )

  all_asks : (front : Front) (conns : List ℕ) → is_up front.ups node ≡ false → FrontAsks ending front (all_end front node conns)
  unfolding all_end
  all_asks front [] down = still_asking ending front (none_moved front ending none_says)
  all_asks front (conn ∷ conns) down = λ id server.
      let one : Stepped = one_ends front node conn in
      let last : Stepped = all_end one.front node conns in
      let both : Stepped = behind_them one.outs last in
      ⊎_elim
      (λ (e : id.conn ≡ conn).
      let rest = all_alone one.front conns id
      (ap (λ m. awaited m (connection_at one.front id.conn) node) (one_master front conn)
      ∙ ap (λ n. awaited front.master (connection_at one.front n) node) e ∙ one_over front conn down) in
      same_asked ending front front one both id server refl rest.0
      (count_both (is_asking id server) one.outs last.outs ∙ omega (arith, rest.1 server)) (one_asks front conn id server))
      (λ (ne : id.conn ≢ conn).
      let first = one_else front conn id ne in
      same_asked ending one.front front last both id server (sym first.0) refl (none_more id server one.outs last.outs (first.1 server))
      (all_asks one.front conns (ap (λ u. is_up u node) (one_ups front conn) ∙ down) id server))
      (same_or_other nat_cmp numbers_apart id.conn conn)

  end_asks : (front : Front) → IsInOrder (slice_cmp nat_cmp) front.ups → FrontAsks ending front (end_from (without_up front node) node)
  end_asks front order = λ id server.
      let all : Stepped = all_end (without_up front node) node (keys_of front.connections) in
      same_asked ending (without_up front node) front all (end_from (without_up front node) node) id server refl refl (order_count (is_asking id server) all.outs)
      (all_asks (without_up front node) (keys_of front.connections) (down_goes front.ups node order) id server)

-- a message that comes; of the links that are up each stands there once
pub message_asks : (front : Front) (from : List ℕ) (message : LinkMsg) → IsInOrder (slice_cmp nat_cmp) front.ups
    → FrontAsks (From from message) front (deliver front from message)
unfolding deliver
message_asks front from (Answer answer) order = answer_asks front from answer (waits_for (connection_at front (answer.id).conn) from) refl
message_asks front from Up order = up_asks front from Up (λ id server is. cc) (pointwise nat_eq from front.master)
message_asks front from End order = end_asks from front order
message_asks front from (Line line) order = line_asks front from (Line line) (λ id server is. cc) line (pointwise nat_eq from front.master)
message_asks front from (Ask ask) order = still_so front from (Ask ask) (λ id server is. cc)
