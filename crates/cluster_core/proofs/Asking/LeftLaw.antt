-- A command that waits is left without a reply only as its client closes the connection, or as its frontend takes the End of the link to its server: one that
-- waits for the master's OK is refused then.
use Rattle.std.proofs.Common.{◌≡◌, ◌≢◌, ◌⊎◌, inl, inr, ℕ, nat_eq, Bool, true, false, List, [], ◌∷◌, Option, None, Some, refl, sym, ◌∙◌, ap, subst, arith}
use Rattle.std.specs.Prelude.{⊤, slice_get}
use Rattle.std.specs.List.{AllByRecursion}
use Rattle.std.specs.Ordering.{nat_cmp}
use Rattle.std.specs.Cmp.Lexicographic.{pointwise, slice_cmp, same_text}
use Rattle.std.proofs.Math.Logic.{⊎_elim}
use Rattle.ask_routes.specs.Barrier.{barrier_answered}
use Rattle.asking_core.specs.declared.waiting.At.{At}
use Rattle.asking_core.specs.declared.waiting.At.TheVariants.{Home, Barrier}
use Rattle.front_core.specs.Ended.{released, released_at}
use Rattle.front_core.specs.Front.{answer_at, answer_from, bytes_by, bytes_in, connect, connect_at, connection_at, deliver, end_from, front_bytes_at, front_hang_at, hang, having_read, hung_up, is_asked, line_by, line_from, ok_at, up_from, waits_for, ways_of, with_turned, with_up, without_up}
use Rattle.front_core.specs.Reading.{inputs_of_more}
use Rattle.front_core.specs.Slots.{new_connection}
use Rattle.front_core.specs.Stages.{asks_at, has_asked}
use Rattle.front_core.specs.Taken.{Turned, inputs_come}
use Rattle.front_core.specs.declared.connection.Connection.{Connection}
use Rattle.front_core.specs.declared.connection.Stage.{Stage}
use Rattle.front_core.specs.declared.connection.Stage.TheVariants.{Reading, Waits, Lists, Ended}
use Rattle.front_core.specs.declared.front.Front.{Front}
use Rattle.front_core.proofs.FramesLaws.{HoldsBack}
use Rattle.link_msg.specs.declared.answer.AnswerBody.TheVariants.{Lost}
use Rattle.link_msg.specs.declared.answer.BackAnswer.{BackAnswer}
use Rattle.link_msg.specs.declared.message.LinkMsg.{LinkMsg}
use Rattle.link_msg.specs.declared.message.LinkMsg.TheVariants.{Up, End, Line, Ask, Answer}
use Rattle.link_queue.specs.Links.{on_link}
use Rattle.mur_base.specs.declared.point.AskId.{AskId}
use Rattle.mur_base.proofs.MapLaws.{names_apart, numbers_apart, same_or_other, value_at-with_entry-other, value_at-with_value, value_at-with_value-other}
use Rattle.mur_config.specs.declared.config.Config.{Config}
use Rattle.mur_config.specs.Nodes.{AreNodes}
use Rattle.node_step.specs.declared.input.NodeInput.{NodeInput}
use Rattle.node_step.specs.declared.input.NodeInput.TheVariants.{Opened, Piece, Hung, From}
use Rattle.node_step.specs.declared.node.NodeState.{NodeState}
use Rattle.node_step.specs.declared.node.NodeState.TheVariants as state
use Rattle.node_step.specs.NodeStep.{as_front, front_takes, takes as node_takes}
use Rattle.node_step.proofs.NodeKinds.{a_front}
use Rattle.schedule_text.specs.declared.event.Event.{Event}
use Rattle.schedule_text.specs.declared.event.Event.TheVariants.{Hang, Deliver}
use Rattle.cluster_core.specs.declared.world.World.{World}
use Rattle.cluster_core.specs.Flow.{run_steps}
use Rattle.cluster_core.specs.Headline.Asks.{taken_by}
use Rattle.cluster_core.specs.Headline.AsksOnce.{Awaits}
use Rattle.cluster_core.specs.Headline.Lost.{IsLeft, LeavesRightly, LeavesRightlyEach, TakesItsEnd, WaitsOn}
use Rattle.cluster_core.specs.Headline.OneNode.{WorksBy, relinks, worker}
use Rattle.cluster_core.specs.World.{front_at, master_of, node_at, start, steps_by}
use Rattle.cluster_core.proofs.Asking.Answers.{EndsAnswered, answer_answers, bytes_wait, ok_answers}
use Rattle.cluster_core.proofs.Asking.LinkEnds.{EndsOrGoes, goes_on, has_ended, link_ends, stays}
use Rattle.cluster_core.proofs.Asking.NodeAsks.{back_other, master_other, taken_in}
use Rattle.cluster_core.proofs.Asking.StepSends.{IsBrought, StepSends, step_sends}
use Rattle.cluster_core.proofs.Asking.StepSends.StepSends.{is_away, rests, sends}
use Rattle.cluster_core.proofs.Lines.AtNode.{no_node_changes}
use Rattle.cluster_core.proofs.Runs.NeverMoved.{WorldIsQuiet, homes_of, never_moved}
use Rattle.cluster_core.proofs.Runs.OneNodeLaw.{one_more_step, one_node_works}
use Rattle.cluster_core.proofs.Runs.QuietNodes.{IsQuietOn}

-- ---- a frontend

-- what comes tells of no lost command
abbrev IsPlain : NodeInput → Type 0
IsPlain (From name (Answer answer)) = answer.body ≢ Lost
IsPlain input = ⊤

-- why a connection, whose command waits so, is left
data LeftBy (input : NodeInput) (conn : ℕ) (c : Connection) : Type 0 where
  by_client : input ≡ Hung conn → LeftBy input conn c
  by_end : (server : List ℕ) → input ≡ From server End → has_asked c.stage server ≡ true → LeftBy input conn c

same_connection : {one other : Connection} → Some one ≡ Some other → one ≡ other
same_connection e = cc

same_front : {one other : Front} → Some one ≡ Some other → one ≡ other
same_front e = cc

-- it has ended, and no command more was answered
record Left (now : Front) (conn : ℕ) (c : Connection) : Type 0 where
  then : Connection
  there : connection_at now conn ≡ Some then
  ended : then.stage ≡ Ended
  same : then.answered ≡ c.answered

waits_on : (stage : Stage) → is_asked stage ≡ 1 → stage ≢ Ended
waits_on stage one e = (let no : 0 ≡ 1 = sym (ap is_asked e) ∙ one in cc)

module _ (front : Front) (conn : ℕ) (c : Connection) (there : connection_at front conn ≡ Some c) (waits : is_asked c.stage ≡ 1) where
  -- where it stays it isn't left
  kept : (now : Front) → connection_at now conn ≡ connection_at front conn → Left now conn c → ⊥
  kept now same left =
      let its : left.then ≡ c = same_connection (sym left.there ∙ same ∙ there) in
      waits_on c.stage waits (ap (λ (d : Connection). d.stage) (sym its) ∙ left.ended)

  ended_stage : (turned : Turned) → (released turned.connection).stage ≡ Ended → turned.connection.stage ≡ Ended
  unfolding released_at
  ended_stage turned ended = by turned.connection.stage refl
    where
      by : (stage : Stage) → turned.connection.stage ≡ stage → turned.connection.stage ≡ Ended
      by Reading e = sym (ap (λ s. (released_at turned.connection s).stage) e) ∙ ended
      by (Waits tag it) e = sym (ap (λ s. (released_at turned.connection s).stage) e) ∙ ended
      by (Lists tag it) e = sym (ap (λ s. (released_at turned.connection s).stage) e) ∙ ended
      by Ended e = e

  released_count : (turned : Turned) → (released turned.connection).answered ≡ turned.connection.answered
  unfolding released_at
  released_count turned = by turned.connection.stage
    where
      by : (stage : Stage) → (released_at turned.connection stage).answered ≡ turned.connection.answered
      by Reading = refl
      by (Waits tag it) = refl
      by (Lists tag it) = refl
      by Ended = refl

  -- a turn of this connection that ends it as the command is answered
  own_turn : (turned : Turned) → EndsAnswered c turned → Left (with_turned front conn turned).front conn c → ⊥
  own_turn turned answers left =
      let now = released turned.connection in
      let its : left.then ≡ now =
      same_connection (sym left.there ∙ value_at-with_value nat_cmp numbers_apart front.connections conn now c there) in
      absurd (omega (
        arith,
        answers.more (ended_stage turned (ap (λ (d : Connection). d.stage) (sym its) ∙ left.ended)),
        ap (λ (d : Connection). d.answered) its,
        released_count turned,
        left.same,
      ))

  -- of any connection
  a_turn : (other : ℕ) (found : Connection) → connection_at front other ≡ Some found → (turned : Turned)
      → (found.stage ≢ Ended → EndsAnswered found turned) → Left (with_turned front other turned).front conn c → ⊥
  a_turn other found at turned answers left = ⊎_elim
      (λ (e : conn ≡ other).
      let its : found ≡ c = same_connection (sym at ∙ ap (connection_at front) (sym e) ∙ there) in
      own_turn turned
      (subst (λ (d : Connection). EndsAnswered d turned) its (answers (λ ended. waits_on c.stage waits (ap (λ (d : Connection). d.stage) (sym its) ∙ ended))))
      (subst (λ n. Left (with_turned front n turned).front conn c) (sym e) left))
      (λ (ne : conn ≢ other). kept (with_turned front other turned).front (value_at-with_value-other nat_cmp numbers_apart front.connections other conn _ ne) left)
      (same_or_other nat_cmp numbers_apart conn other)

  -- ---- what comes

  connect_by : (other : ℕ) (found : Option Connection) → connection_at front other ≡ found → Left (connect_at front other found).front conn c → ⊥
  unfolding connect_at
  connect_by other (Some before) at left = kept front refl left
  connect_by other None at left =
      kept (connect_at front other None).front
      (value_at-with_entry-other nat_cmp numbers_apart front.connections other conn new_connection
      (λ e. (let no : None ≡ Some c = sym at ∙ ap (connection_at front) (sym e) ∙ there in cc))) left

  read_so : (other : ℕ) (bytes : List ℕ) (found : Connection) → connection_at front other ≡ Some found → HoldsBack found.stage
      → Left (with_turned front other
      (inputs_come front.setting (ways_of front) other (having_read front.setting found bytes) (inputs_of_more front.setting found.reader bytes))).front conn c → ⊥
  read_so other bytes found at holds left =
      a_turn other found at _
      (λ lasts. bytes_wait front.setting (ways_of front) other found (having_read front.setting found bytes) (inputs_of_more front.setting found.reader bytes)
      refl holds lasts) left

  -- the connection of another client reads
  reads_else : (other : ℕ) (found : Connection) → connection_at front other ≡ Some found → found.stage ≡ Reading → conn ≢ other
  reads_else other found at reads e =
      let its : found ≡ c = same_connection (sym at ∙ ap (connection_at front) (sym e) ∙ there) in
      (let no : 0 ≡ 1 = sym (ap is_asked reads) ∙ ap (λ (d : Connection). is_asked d.stage) its ∙ waits in cc)

  bytes_by_so : (other : ℕ) (bytes : List ℕ) (found : Connection) (stage : Stage) → found.stage ≡ stage → connection_at front other ≡ Some found
      → Left (bytes_by front other bytes found stage).front conn c → ⊥
  unfolding bytes_by
  bytes_by_so other bytes found Ended is at left = kept front refl left
  bytes_by_so other bytes found Reading is at left =
      kept (bytes_by front other bytes found Reading).front
      (value_at-with_value-other nat_cmp numbers_apart front.connections other conn _ (reads_else other found at is)) left
  bytes_by_so other bytes found (Waits tag it) is at left = read_so other bytes found at (subst HoldsBack (sym is) tt) left
  bytes_by_so other bytes found (Lists tag it) is at left = read_so other bytes found at (subst HoldsBack (sym is) tt) left

  bytes_at_so : (other : ℕ) (bytes : List ℕ) (found : Option Connection) → connection_at front other ≡ found
      → Left (front_bytes_at front other bytes found).front conn c → ⊥
  unfolding front_bytes_at
  bytes_at_so other bytes None at left = kept front refl left
  bytes_at_so other bytes (Some found) at left = bytes_by_so other bytes found found.stage refl at left

  hang_by : (other : ℕ) (found : Option Connection) → connection_at front other ≡ found → Left (front_hang_at front other found) conn c → conn ≡ other
  unfolding front_hang_at
  hang_by other None at left = absurd (kept front refl left)
  hang_by other (Some found) at left = ⊎_elim
      (λ (e : conn ≡ other). e)
      (λ (ne : conn ≢ other).
      absurd (kept (front_hang_at front other (Some found)) (value_at-with_value-other nat_cmp numbers_apart front.connections other conn (hung_up found) ne) left))
      (same_or_other nat_cmp numbers_apart conn other)

  answer_at_so : (answer : BackAnswer) (found : Option Connection) → answer.body ≢ Lost → connection_at front (answer.id).conn ≡ found
      → Left (answer_at front answer found).front conn c → ⊥
  unfolding answer_at
  answer_at_so answer None plain at left = kept front refl left
  answer_at_so answer (Some found) plain at left =
      a_turn (answer.id).conn found at _ (λ lasts. answer_answers front.setting (ways_of front) (answer.id).conn found answer plain lasts) left

  answer_so : (answer : BackAnswer) (is_its : Bool) → answer.body ≢ Lost → Left (answer_from is_its front answer).front conn c → ⊥
  unfolding answer_from
  answer_so answer true plain left = answer_at_so answer (connection_at front (answer.id).conn) plain refl left
  answer_so answer false plain left = kept front refl left

  up_so : (from : List ℕ) (is_master : Bool) → Left (up_from is_master (with_up front from)).front conn c → ⊥
  unfolding up_from
  up_so from true left = kept (up_from true (with_up front from)).front refl left
  up_so from false left = kept (up_from false (with_up front from)).front refl left

  ok_at_so : (id : AskId) (found : Option Connection) → connection_at front id.conn ≡ found → Left (ok_at front id found).front conn c → ⊥
  unfolding ok_at
  ok_at_so id None at left = kept front refl left
  ok_at_so id (Some found) at left = a_turn id.conn found at _ (λ lasts. ok_answers front.setting (ways_of front) id.conn found id lasts) left

  line_by_so : (bytes : List ℕ) (found : Option AskId) → Left (line_by front bytes found).front conn c → ⊥
  line_by_so bytes None left = kept (line_by front bytes None).front refl left
  line_by_so bytes (Some id) left = ok_at_so id (connection_at front id.conn) refl left

  line_so : (bytes : List ℕ) (is_master : Bool) → Left (line_from is_master front bytes).front conn c → ⊥
  unfolding line_from
  line_so bytes true left = line_by_so bytes (barrier_answered bytes) left
  line_so bytes false left = kept front refl left

  -- a link ends
  end_so : (from : List ℕ) → EndsOrGoes from (connection_at front conn) (connection_at (end_from (without_up front from) from).front conn)
      → Left (end_from (without_up front from) from).front conn c → has_asked c.stage from ≡ true
  end_so from (stays same) left = absurd (kept (end_from (without_up front from) from).front same left)
  end_so from (has_ended b later was asked is stage count) left =
      subst (λ (d : Connection). has_asked d.stage from ≡ true) (same_connection (sym was ∙ there)) asked
  end_so from (goes_on b later was lasts is more) left =
      let old : b ≡ c = same_connection (sym was ∙ there) in
      let its : left.then ≡ later = same_connection (sym left.there ∙ is) in
      absurd (omega (arith, more, left.same, ap (λ (d : Connection). d.answered) old, ap (λ (d : Connection). d.answered) its))

  message_so : (from : List ℕ) (message : LinkMsg) → IsPlain (From from message) → Left (deliver front from message).front conn c
      → LeftBy (From from message) conn c
  unfolding deliver
  message_so from (Answer answer) plain left = absurd (answer_so answer (waits_for (connection_at front (answer.id).conn) from) plain left)
  message_so from Up plain left = absurd (up_so from (pointwise nat_eq from front.master) left)
  message_so from End plain left = by_end from refl (end_so from (link_ends front from conn) left)
  message_so from (Line line) plain left = absurd (line_so line (pointwise nat_eq from front.master) left)
  message_so from (Ask ask) plain left = absurd (kept front refl left)

  front_leaves : (input : NodeInput) (now : Front) → IsPlain input → as_front (Some (front_takes front input).state) ≡ Some now
      → Left now conn c → LeftBy input conn c
  unfolding front_takes as_front connect bytes_in hang
  front_leaves (Opened other) now plain is left =
      absurd (connect_by other (connection_at front other) refl (subst (λ f. Left f conn c) (same_front (sym is)) left))
  front_leaves (Piece other bytes) now plain is left =
      absurd (bytes_at_so other bytes (connection_at front other) refl (subst (λ f. Left f conn c) (same_front (sym is)) left))
  front_leaves (Hung other) now plain is left =
      by_client (ap Hung (sym (hang_by other (connection_at front other) refl (subst (λ f. Left f conn c) (same_front (sym is)) left))))
  front_leaves (From name message) now plain is left = message_so name message plain (subst (λ f. Left f conn c) (same_front (sym is)) left)

-- ---- a step

-- what the frontends take in the step is plain
abbrev TakesPlain : World → Event → Type 0
TakesPlain world event = (node : List ℕ) (front : Front) (input : NodeInput) → front_at world node ≡ Some front → IsBrought event node input
    → taken_by event world ≡ taken_in input → IsPlain input

has_asked_home : (at : At) (server : List ℕ) → asks_at at server ≡ true → at ≡ Home server
has_asked_home (Home asked) server is = ap Home (same_text asked server (sym is))
has_asked_home (Barrier why) server is = cc

module _ (world next : World) (event : Event) (node : List ℕ) (id : AskId) (waits : WaitsOn (front_at world node) id) (left : IsLeft (front_at next node) id)
  where
    abbrev c : Connection
    c = waits.connection

    -- a frontend that is as it was left nobody
    same_leaves : front_at next node ≡ front_at world node → ⊥
    same_leaves same =
        let fronts : left.front ≡ waits.front = same_front (sym left.is ∙ same ∙ waits.is) in
        let its : left.connection ≡ c = same_connection (sym left.there ∙ ap (λ (f : Front). connection_at f id.conn) fronts ∙ waits.there) in
        waits_on c.stage waits.waits (ap (λ (d : Connection). d.stage) (sym its) ∙ left.ended)

    left_so : Left left.front id.conn c
    left_so = record { then = left.connection; there = left.there; ended = left.ended; same = omega (arith, waits.number, left.number) }

    -- its stage, of the server that it has asked
    awaits_by : (server : List ℕ) (stage : Stage) → c.stage ≡ stage → has_asked stage server ≡ true → Awaits (front_at world node) id server
    unfolding has_asked
    awaits_by server Reading is asked = cc
    awaits_by server (Waits tag it) is asked = record {
      front = waits.front;
      is = waits.is;
      connection = c;
      there = waits.there;
      number = waits.number;
      tag = tag;
      it = it;
      stage = is;
      at = has_asked_home it.at server asked;
    }
    awaits_by server (Lists tag it) is asked = cc
    awaits_by server Ended is asked = cc

    by_input : (input : NodeInput) → IsBrought event node input → taken_by event world ≡ taken_in input → LeftBy input id.conn c
        → (event ≡ Hang id.conn) ⊎ TakesItsEnd event world node id
    by_input input brought taken (by_client is) = inl (subst (IsBrought event node) is brought)
    by_input input brought taken (by_end server is asked) = inr (record {
      server = server;
      event_is = subst (IsBrought event node) is brought;
      taken = taken ∙ ap taken_in is;
      waits = awaits_by server c.stage refl asked;
    })

    by_sends : TakesPlain world event → StepSends world event node next → (event ≡ Hang id.conn) ⊎ TakesItsEnd event world node id
    unfolding node_takes
    by_sends plain (rests none same links) = absurd (same_leaves (ap as_front same))
    by_sends plain (is_away away now links) = absurd (same_leaves (ap as_front (now ∙ sym away)))
    by_sends plain (sends it input there brought taken then links lost) = by_state it there then
      where
        by_state : (it : NodeState) → node_at world node ≡ Some it → node_at next node ≡ Some (node_takes it input).state
            → (event ≡ Hang id.conn) ⊎ TakesItsEnd event world node id
        by_state (state.Front front) at now =
            let fronts : front ≡ waits.front = same_front (sym (ap as_front at ∙ a_front front) ∙ waits.is) in
            by_input input brought taken
            (front_leaves front id.conn c (ap (λ (f : Front). connection_at f id.conn) fronts ∙ waits.there) waits.waits input left.front
            (plain node front input (ap as_front at ∙ a_front front) brought taken) (sym (ap as_front now) ∙ left.is) left_so)
        by_state (state.Back home) at now =
            absurd (let no : None ≡ Some left.front = sym (ap as_front now ∙ back_other home input) ∙ left.is in cc)
        by_state (state.Master master) at now =
            absurd (let no : None ≡ Some left.front = sym (ap as_front now ∙ master_other master input) ∙ left.is in cc)

-- whichever node works
step_leaves : (world : World) (event : Event) → TakesPlain world event → LeavesRightly event world (steps_by world event)
step_leaves world event plain node id waits left = by (worker world event) refl
  where
    works_of : (at : Option (List ℕ)) → worker world event ≡ at → WorksBy event at world (steps_by world event)
    works_of at is = subst (λ (w : Option (List ℕ)). WorksBy event w world (steps_by world event)) is (one_node_works world event).works

    by : (at : Option (List ℕ)) → worker world event ≡ at → (event ≡ Hang id.conn) ⊎ TakesItsEnd event world node id
    by None is =
        absurd (same_leaves world (steps_by world event) event node id waits left
        (ap as_front (no_node_changes (relinks world event) event world (steps_by world event) (works_of None is) node)))
    by (Some other) is = ⊎_elim
        (λ (e : node ≡ other).
        by_sends world (steps_by world event) event node id waits left plain (step_sends world event node (is ∙ ap (λ n. Some n) (sym e))))
        (λ (ne : node ≢ other).
        absurd (same_leaves world (steps_by world event) event node id waits left (ap as_front ((works_of (Some other) is).nodes node ne))))
        (same_or_other (slice_cmp nat_cmp) names_apart node other)

-- ---- a run

first_quiet : (master : List ℕ) (homes : List ℕ → Bool) (from to : List ℕ) (queue : List LinkMsg) (message : LinkMsg)
    → AllByRecursion (IsQuietOn master homes from to) queue → slice_get queue 0 ≡ Some message → IsQuietOn master homes from to message
first_quiet master homes from to [] message all e = cc
first_quiet master homes from to (first ∷ queue) message all e =
    (let same : first ≡ message = cc in subst (IsQuietOn master homes from to) same all.0)

takes_plain : (master : List ℕ) (world : World) (event : Event) → WorldIsQuiet master world → TakesPlain world event
takes_plain master world event quiet node front input there brought taken = by input brought taken
  where
    first_of : (name : List ℕ) (message : LinkMsg) → event ≡ Deliver name node → taken_by event world ≡ Some message
        → IsQuietOn master (homes_of world) name node message
    first_of name message is some =
        first_quiet master (homes_of world) name node (on_link world.links name node) message (quiet.links name node)
        (sym (ap (λ (e : Event). taken_by e world) is) ∙ some)

    plain : (name : List ℕ) (message : LinkMsg) → IsQuietOn master (homes_of world) name node message → IsPlain (From name message)
    plain name (Answer answer) is = λ lost. subst (λ body. IsQuietOn master (homes_of world) name node (Answer (record answer { body = body }))) lost is
    plain name End is = tt
    plain name Up is = tt
    plain name (Line line) is = tt
    plain name (Ask ask) is = tt

    by : (input : NodeInput) → IsBrought event node input → taken_by event world ≡ taken_in input → IsPlain input
    by (From name message) brought taken = plain name message (first_of name message brought taken)
    by (Opened conn) brought taken = tt
    by (Piece conn bytes) brought taken = tt
    by (Hung conn) brought taken = tt

pub leaves_rightly_each : (config : Config) (events : List Event) → AreNodes config.nodes → LeavesRightlyEach config events
leaves_rightly_each config events are before event later parts =
    let world = run_steps (start config) before in
    subst (LeavesRightly event world) (sym (one_more_step (start config) before event))
    (step_leaves world event (takes_plain (master_of config) world event (never_moved config before are)))
