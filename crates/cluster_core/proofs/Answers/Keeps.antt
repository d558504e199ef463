-- A frontend that takes the answer of a backend, or the master's OK, keeps the law, where the names and the feeds are kept.
use Rattle.std.proofs.Common.{◌≡◌, ℕ, ◌+◌, ◌<◌, ◌^◌, Bool, true, false, List, [], ◌∷◌, length, Some, refl, sym, ◌∙◌, ap, subst, arith}
use Rattle.ask_routes.specs.Barrier.{barrier_answered}
use Rattle.cluster_core.specs.World.{master_of, setting_of, front_at, home_at, taken_from_link}
use Rattle.front_core.proofs.OneConnection.Places.{is_over}
use Rattle.front_core.proofs.OneConnection.Readings.{inputs_in, reading_of}
use Rattle.front_core.specs.declared.connection.Connection.{Connection}
use Rattle.front_core.specs.declared.front.Front.{Front}
use Rattle.imap_talk.specs.Heard.{Heard, client, frames_heard}
use Rattle.imap_talk.specs.Inputs.{requests_in}
use Rattle.imap_talk.specs.Transcript.{Stop}
use Rattle.imap_talk.specs.Transcript.Stop.{is_lost, silent}
use Rattle.imap_talk.proofs.RequestsOf.{requests_of}
use Rattle.imap_wire.specs.Frames.{begun}
use Rattle.link_msg.specs.declared.answer.BackAnswer.{BackAnswer}
use Rattle.link_msg.specs.declared.message.LinkMsg.{LinkMsg}
use Rattle.link_msg.specs.declared.message.LinkMsg.TheVariants.{Answer, Line}
use Rattle.link_queue.specs.Links.{on_link, without_first}
use Rattle.many_links.specs.ManyHold.{ManyHold}
use Rattle.mark_history.specs.Marked.{talk_told}
use Rattle.mur_base.specs.declared.point.AskId.{AskId}
use Rattle.mur_config.specs.declared.config.Config.{Config}
use Rattle.mur_model.proofs.HistoryGrows.{same_talk}
use Rattle.node_step.specs.declared.input.NodeInput.TheVariants.{From}
use Rattle.cluster_core.specs.declared.world.World.{World}
use Rattle.cluster_core.proofs.Commands.Standing.{Fixed, HasBegunSo, next_id}
use Rattle.cluster_core.proofs.Connections.AsksFirst.{Reaches}
use Rattle.cluster_core.proofs.Connections.BytesCome.{bytes_many}
use Rattle.cluster_core.proofs.Connections.FrameLaw.{HasNumbersOf}
use Rattle.cluster_core.proofs.Connections.KeepsFront.{front_keeps, with_connection}
use Rattle.cluster_core.proofs.Connections.KeepsLaw.{ConnectionIs, FeedsHold, IsAt, IsGone, IsUnanswered, KeepsLaw, KeepsOn, fixed_of, murder_of}
use Rattle.cluster_core.proofs.Connections.KeepsLaw.ConnectionIs.{is_nobody, is_elsewhere, is_open, is_cut_off, is_closed}
use Rattle.cluster_core.proofs.Connections.MayAskAt.{may_ask, reaches, ways_same_by}
use Rattle.cluster_core.proofs.Connections.Stays.{is_not_closed}
use Rattle.cluster_core.proofs.Links.Stand.{LinksStand}
use Rattle.cluster_core.proofs.Nodes.AllCome.{all_come}
use Rattle.cluster_core.proofs.Places.FrontFirst.{about_ok, answer_tells, none_comes, ok_tells}
use Rattle.cluster_core.proofs.Places.Stays.{IsFrontend}
use Rattle.cluster_core.proofs.Answers.AnswerComes.{NamesBackend}
use Rattle.cluster_core.proofs.Answers.ClosedSteps.{ClosedStep, closed_answer, closed_ok}
use Rattle.cluster_core.proofs.Answers.OkSteps.{ok_step}
use Rattle.cluster_core.proofs.Answers.OpenSteps.{OpenStep, answer_step}
use Rattle.cluster_core.proofs.Answers.Steps.{IsBefore}
use Rattle.cluster_core.specs.Numbers.{HeardFits, NumbersFit}

module _ (config : Config) (heard : ℕ → Heard) (world : World) (law : KeepsLaw config heard world) where
  abbrev fixed : Fixed
  fixed = fixed_of config

  -- the world once a node has taken a message, and nothing is lost that it lets out
  abbrev pub taken_by : List ℕ → LinkMsg → List ℕ → World
  taken_by from message to = all_come (taken_from_link world from to) to (From from message)

  -- a message is the first on its way to a node; the names and the feeds are kept when it is taken
  pub record IsTakenBy (from : List ℕ) (message : LinkMsg) (to : List ℕ) : Type 0 where
    pub rest : List LinkMsg
    pub first : on_link world.links from to ≡ message ∷ rest
    pub many : ManyHold (murder_of (taken_by from message to) law.master) law.given law.story.course.store
    pub feeds : FeedsHold config (taken_by from message to) law.master

  -- a frontend of the law
  pub frontend_of : (node : List ℕ) (front : Front) → front_at world node ≡ Some front → IsFrontend (master_of config) (home_at world) node
  frontend_of node front at = (may_ask config heard world node front law at).frontend

  -- the commands of a client have numbers of 64 bits
  pub numbers_of : (conn : ℕ) (bytes : List ℕ) (closed : Bool) → heard conn ≡ client bytes closed → NumbersFit heard → HasNumbersOf conn law.story
  unfolding frames_heard
  numbers_of conn bytes closed e fits =
      let its : (conn < 2 ^ 64) × (length bytes < 2 ^ 32) = subst (HeardFits conn) e (fits conn) in
      let so : law.story.talk.requests conn ≡ requests_in (inputs_in (setting_of config) bytes) =
      law.requests conn ∙ ap (λ h. requests_of (setting_of config) (frames_heard h)) e in
      let few : length (law.story.talk.requests conn) < 2 ^ 64 = omega (arith, ap length so, bytes_many (setting_of config) bytes, its.1) in
      (its.0, few)

  -- a connection of it, before it takes a message
  pub before_by : (conn : ℕ) (bytes node : List ℕ) (closed : Bool) (front : Front) (connection : Connection) → heard conn ≡ client bytes closed
      → IsAt world conn node front connection → HasNumbersOf conn law.story → Reaches (master_of config) (home_at world) world.broken front.ups
      → IsBefore fixed world law.story node front conn (inputs_in (setting_of config) bytes) connection
  unfolding frames_heard
  before_by conn bytes node closed front connection e at numbers reaches_so =
      let is = (law.nodes).fronts node front at.at in
      record {
        at = at;
        setting_is = is.setting_is;
        master_is = is.master_is;
        ways_is = ways_same_by config world law.master node front is;
        may = may_ask config heard world node front law at.at;
        reaches = reaches_so;
        numbers = numbers;
        is_told = law.is_told;
        requests = law.requests conn ∙ ap (λ h. requests_of (setting_of config) (frames_heard h)) e;
      }

  before_so : LinksStand config world → (conn : ℕ) (bytes node : List ℕ) (closed : Bool) (front : Front) (connection : Connection) → heard conn ≡ client bytes closed
      → IsAt world conn node front connection → HasNumbersOf conn law.story
      → IsBefore fixed world law.story node front conn (inputs_in (setting_of config) bytes) connection
  before_so links conn bytes node closed front connection e at numbers =
      before_by conn bytes node closed front connection e at numbers (reaches config heard world node front law links at.at)

  module _ (from : List ℕ) (conn : ℕ) (bytes node : List ℕ) (front : Front) (connection : Connection) (at : IsAt world conn node front connection)
      (next : World) (many : ManyHold (murder_of next law.master) law.given law.story.course.store) (feeds : FeedsHold config next law.master) where
    -- the step of an open connection keeps the law
    open_keeps : law.stops conn ≡ silent → heard conn ≡ client bytes false → HasBegunSo connection (reading_of (setting_of config) bytes)
        → OpenStep fixed world law.story from node front conn (inputs_in (setting_of config) bytes) (begun bytes) connection next
        → KeepsOn config law.story law.stops heard next
    open_keeps s e reader step =
        let it = step.step in
        subst (λ w. KeepsOn config law.story law.stops heard w) (sym it.is)
        (front_keeps config heard heard world law (without_first world.links from node) conn node front connection step.connection step.outs law.story
        step.later law.stops (λ other ne. refl) it.others at.at at.has (same_talk (talk_told law.story)) refl refl refl refl law.requests (λ other ne. refl)
        (λ shut. absurd (is_not_closed (heard conn) bytes e shut)) it.made
        (subst (λ w. ManyHold (murder_of w law.master) law.given law.story.course.store) it.is many)
        (subst (λ w. FeedsHold config w law.master) it.is feeds)
        (subst (λ w. ConnectionIs fixed conn w step.later (law.stops conn) (heard conn)) it.is
        (subst (λ t. ConnectionIs fixed conn next step.later t (heard conn)) (sym s)
        (subst (λ h. ConnectionIs fixed conn next step.later silent h) (sym e)
        (is_open bytes node (with_connection front conn step.connection) step.connection it.at (step.begun (reading_of (setting_of config) bytes) reader)
        step.standing)))))

    -- and so does that of one that has ended, whatever was heard of it
    ended_keeps : (stop : Stop) → law.stops conn ≡ stop → ClosedStep fixed world law.story from node front conn (inputs_in (setting_of config) bytes) stop next
        → ((now : Front) (connection : Connection) → IsAt next conn node now connection
        → IsGone fixed node now.replica conn (inputs_in (setting_of config) bytes) stop connection next law.story
        → ConnectionIs fixed conn next law.story stop (heard conn))
        → KeepsOn config law.story law.stops heard next
    ended_keeps stop s step mine =
        let it = step.step in
        subst (λ w. KeepsOn config law.story law.stops heard w) (sym it.is)
        (front_keeps config heard heard world law (without_first world.links from node) conn node front connection step.connection [] law.story law.story
        law.stops (λ other ne. refl) it.others at.at at.has (same_talk (talk_told law.story)) refl refl refl refl law.requests (λ other ne. refl)
        (λ shut. (refl, refl)) it.made
        (subst (λ w. ManyHold (murder_of w law.master) law.given law.story.course.store) it.is many)
        (subst (λ w. FeedsHold config w law.master) it.is feeds)
        (subst (λ w. ConnectionIs fixed conn w law.story (law.stops conn) (heard conn)) it.is
        (subst (λ t. ConnectionIs fixed conn next law.story t (heard conn)) (sym s)
        (mine (with_connection front conn step.connection) step.connection it.at step.gone))))

    closed_keeps : (stop : Stop) → law.stops conn ≡ stop → heard conn ≡ client bytes true
        → ClosedStep fixed world law.story from node front conn (inputs_in (setting_of config) bytes) stop next
        → KeepsOn config law.story law.stops heard next
    closed_keeps stop s e step =
        ended_keeps stop s step (λ now connection there gone.
        subst (λ h. ConnectionIs fixed conn next law.story stop h) (sym e) (is_closed stop bytes node now connection there gone))

    cut_off_keeps : law.stops conn ≡ is_lost → heard conn ≡ client bytes false
        → IsUnanswered (inputs_in (setting_of config) bytes) (law.story.told conn)
        → ClosedStep fixed world law.story from node front conn (inputs_in (setting_of config) bytes) is_lost next
        → KeepsOn config law.story law.stops heard next
    cut_off_keeps s e unanswered step =
        ended_keeps is_lost s step (λ now connection there gone.
        subst (λ h. ConnectionIs fixed conn next law.story is_lost h) (sym e) (is_cut_off bytes node now connection there gone unanswered))

  -- ---- an answer

  answer_by : LinksStand config world → (from to : List ℕ) (front : Front) (answer : BackAnswer) (stop : Stop) (was : Heard)
      → law.stops (answer.id).conn ≡ stop → front_at world to ≡ Some front
      → IsTakenBy from (Answer answer) to → NamesBackend (home_at world) answer.body → NumbersFit heard
      → heard (answer.id).conn ≡ was → ConnectionIs fixed (answer.id).conn world law.story stop was
      → KeepsOn config law.story law.stops heard (taken_by from (Answer answer) to)
  answer_by links from to front answer stop was s there taken names numbers e (is_nobody none fronts untold) =
      absurd (none_comes fixed.master (home_at world) world.links from to (Answer answer) taken.rest (answer.id).conn taken.first untold.nothing refl)
  answer_by links from to front answer stop was s there taken names numbers e (is_elsewhere node given at none untold) =
      absurd (none_comes fixed.master (home_at world) world.links from to (Answer answer) taken.rest (answer.id).conn taken.first untold.nothing refl)
  answer_by links from to front answer stop was s there taken names numbers e (is_open bytes node its connection at reader standing) =
      let conn : ℕ = (answer.id).conn in
      let tells = answer_tells fixed.master (home_at world) world.links from to answer taken.rest node its.replica (next_id conn (law.story.told conn))
      standing.here (frontend_of to front there) taken.first refl standing.placed in
      let here = subst (IsTakenBy from (Answer answer)) (sym tells.0) taken in
      subst (λ n. KeepsOn config law.story law.stops heard (taken_by from (Answer answer) n)) tells.0
      (open_keeps from conn bytes node its connection at (taken_by from (Answer answer) node) here.many here.feeds s e reader
      (answer_step fixed world law.story from node its conn (inputs_in (setting_of config) bytes) (begun bytes) connection
      (before_so links conn bytes node false its connection e at (numbers_of conn bytes false e numbers)) standing answer here.rest here.first refl names))
  answer_by links from to front answer stop was s there taken names numbers e (is_cut_off bytes node its connection at gone next) =
      let conn : ℕ = (answer.id).conn in
      let tells = answer_tells fixed.master (home_at world) world.links from to answer taken.rest node its.replica (next_id conn (law.story.told conn))
      gone.here (frontend_of to front there) taken.first refl gone.placed in
      let here = subst (IsTakenBy from (Answer answer)) (sym tells.0) taken in
      subst (λ n. KeepsOn config law.story law.stops heard (taken_by from (Answer answer) n)) tells.0
      (cut_off_keeps from conn bytes node its connection at (taken_by from (Answer answer) node) here.many here.feeds s e next
      (closed_answer fixed world law.story from node its conn (inputs_in (setting_of config) bytes) connection
      (before_so links conn bytes node false its connection e at (numbers_of conn bytes false e numbers)) is_lost gone answer here.rest here.first refl))
  answer_by links from to front answer stop was s there taken names numbers e (is_closed shut bytes node its connection at gone) =
      let conn : ℕ = (answer.id).conn in
      let tells = answer_tells fixed.master (home_at world) world.links from to answer taken.rest node its.replica (next_id conn (law.story.told conn))
      gone.here (frontend_of to front there) taken.first refl gone.placed in
      let here = subst (IsTakenBy from (Answer answer)) (sym tells.0) taken in
      subst (λ n. KeepsOn config law.story law.stops heard (taken_by from (Answer answer) n)) tells.0
      (closed_keeps from conn bytes node its connection at (taken_by from (Answer answer) node) here.many here.feeds shut s e
      (closed_answer fixed world law.story from node its conn (inputs_in (setting_of config) bytes) connection
      (before_so links conn bytes node true its connection e at (numbers_of conn bytes true e numbers)) shut gone answer here.rest here.first refl))

  -- THE ANSWER OF A BACKEND KEEPS THE LAW
  pub answer_stands : LinksStand config world → (from to : List ℕ) (front : Front) (answer : BackAnswer) → front_at world to ≡ Some front → IsTakenBy from (Answer answer) to
      → NamesBackend (home_at world) answer.body → NumbersFit heard
      → KeepsOn config law.story law.stops heard (taken_by from (Answer answer) to)
  answer_stands links from to front answer there taken names numbers =
      answer_by links from to front answer (law.stops (answer.id).conn) (heard (answer.id).conn) refl there taken names numbers refl
      (law.connections (answer.id).conn)

  -- ---- the master's OK

  ok_by : LinksStand config world → (to : List ℕ) (front : Front) (bytes : List ℕ) (id : AskId) (stop : Stop) (was : Heard) → law.stops id.conn ≡ stop
      → front_at world to ≡ Some front
      → IsTakenBy (master_of config) (Line bytes) to → barrier_answered bytes ≡ Some id → is_over (length (law.story.told id.conn) + 1) (Line bytes) ≡ false
      → NumbersFit heard
      → heard id.conn ≡ was → ConnectionIs fixed id.conn world law.story stop was
      → KeepsOn config law.story law.stops heard (taken_by (master_of config) (Line bytes) to)
  ok_by links to front bytes id stop was s there taken reads_so on numbers e (is_nobody none fronts untold) =
      absurd (none_comes fixed.master (home_at world) world.links fixed.master to (Line bytes) taken.rest id.conn taken.first untold.nothing
      (about_ok bytes id reads_so))
  ok_by links to front bytes id stop was s there taken reads_so on numbers e (is_elsewhere node given at none untold) =
      absurd (none_comes fixed.master (home_at world) world.links fixed.master to (Line bytes) taken.rest id.conn taken.first untold.nothing
      (about_ok bytes id reads_so))
  ok_by links to front bytes id stop was s there taken reads_so on numbers e (is_open text node its connection at reader standing) =
      let tells = ok_tells fixed.master (home_at world) world.links to bytes id taken.rest node its.replica (next_id id.conn (law.story.told id.conn))
      standing.here (frontend_of to front there) taken.first reads_so refl on standing.placed in
      let here = subst (IsTakenBy fixed.master (Line bytes)) (sym tells.at) taken in
      subst (λ n. KeepsOn config law.story law.stops heard (taken_by fixed.master (Line bytes) n)) tells.at
      (open_keeps fixed.master id.conn text node its connection at (taken_by fixed.master (Line bytes) node) here.many here.feeds s e reader
      (ok_step fixed world law.story node its id.conn (inputs_in (setting_of config) text) (begun text) connection
      (before_so links id.conn text node false its connection e at (numbers_of id.conn text false e numbers)) standing bytes id here.rest here.first reads_so refl on))
  ok_by links to front bytes id stop was s there taken reads_so on numbers e (is_cut_off text node its connection at gone next) =
      let tells = ok_tells fixed.master (home_at world) world.links to bytes id taken.rest node its.replica (next_id id.conn (law.story.told id.conn))
      gone.here (frontend_of to front there) taken.first reads_so refl on gone.placed in
      let here = subst (IsTakenBy fixed.master (Line bytes)) (sym tells.at) taken in
      subst (λ n. KeepsOn config law.story law.stops heard (taken_by fixed.master (Line bytes) n)) tells.at
      (cut_off_keeps fixed.master id.conn text node its connection at (taken_by fixed.master (Line bytes) node) here.many here.feeds s e next
      (closed_ok fixed world law.story node its id.conn (inputs_in (setting_of config) text) connection
      (before_so links id.conn text node false its connection e at (numbers_of id.conn text false e numbers)) is_lost gone bytes id here.rest here.first
      reads_so refl on))
  ok_by links to front bytes id stop was s there taken reads_so on numbers e (is_closed shut text node its connection at gone) =
      let tells = ok_tells fixed.master (home_at world) world.links to bytes id taken.rest node its.replica (next_id id.conn (law.story.told id.conn))
      gone.here (frontend_of to front there) taken.first reads_so refl on gone.placed in
      let here = subst (IsTakenBy fixed.master (Line bytes)) (sym tells.at) taken in
      subst (λ n. KeepsOn config law.story law.stops heard (taken_by fixed.master (Line bytes) n)) tells.at
      (closed_keeps fixed.master id.conn text node its connection at (taken_by fixed.master (Line bytes) node) here.many here.feeds shut s e
      (closed_ok fixed world law.story node its id.conn (inputs_in (setting_of config) text) connection
      (before_so links id.conn text node true its connection e at (numbers_of id.conn text true e numbers)) shut gone bytes id here.rest here.first
      reads_so refl on))

  -- THE MASTER'S OK TO A COMMAND THAT ISN'T OVER KEEPS THE LAW
  pub ok_stands : LinksStand config world → (to : List ℕ) (front : Front) (bytes : List ℕ) (id : AskId) → front_at world to ≡ Some front
      → IsTakenBy (master_of config) (Line bytes) to → barrier_answered bytes ≡ Some id → is_over (length (law.story.told id.conn) + 1) (Line bytes) ≡ false
      → NumbersFit heard → KeepsOn config law.story law.stops heard (taken_by (master_of config) (Line bytes) to)
  ok_stands links to front bytes id there taken reads_so on numbers =
      ok_by links to front bytes id (law.stops id.conn) (heard id.conn) refl there taken reads_so on numbers refl (law.connections id.conn)
