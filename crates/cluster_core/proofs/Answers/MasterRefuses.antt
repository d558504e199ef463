-- The link with the master ended while a command of an open connection waited for the master's OK: its client is told that the master isn't reached, and the inputs
-- that waited come.
use Rattle.std.proofs.Common.{◌≡◌, ◌≢◌, ℕ, ◌+◌, ◌<◌, ◌^◌, true, List, [], ◌∷◌, ◌++◌, length, Option, None, Some, refl, sym, ◌∙◌, ap, subst, length-append, arith}
use Rattle.std.specs.Cmp.Lexicographic.{same_text}
use Rattle.ask_routes.specs.declared.next.Why.{Why}
use Rattle.asking_core.specs.declared.waiting.At.{At}
use Rattle.asking_core.specs.declared.waiting.At.TheVariants.{Home, Barrier as at_master}
use Rattle.asking_core.specs.declared.waiting.Waiting.{Waiting as WaitingFor}
use Rattle.back_node.specs.declared.node.BackNode.{BackNode}
use Rattle.front_core.specs.Answered.{end_by, end_comes, ends_at, refused_behind}
use Rattle.front_core.specs.Stages.{awaits, waits_at}
use Rattle.front_core.specs.Taken.{Turned, Ways, inputs_come, list_refused}
use Rattle.front_core.specs.declared.connection.Connection.{Connection}
use Rattle.front_core.specs.declared.connection.Stage.TheVariants.{Reading, Waits, Lists as lists_names, Ended}
use Rattle.front_core.specs.declared.front.Front.{Front}
use Rattle.imap_talk.proofs.InputLaws.{requests-append}
use Rattle.imap_talk.proofs.RequestsOf.{answered_lengths, next_request}
use Rattle.imap_talk.specs.Inputs.{requests_in}
use Rattle.imap_talk.specs.SessionEnds.{has_ended}
use Rattle.imap_talk.specs.declared.inputs.Input.{Input}
use Rattle.imap_talk.specs.declared.inputs.Input.TheVariants.{Asks}
use Rattle.imap_types.specs.declared.command.Command.{Command}
use Rattle.imap_types.specs.declared.command.Tag.{Tag}
use Rattle.imap_types.specs.declared.reply.NoText.TheVariants.{NotReached}
use Rattle.imap_types.specs.declared.reply.Reply.{Reply}
use Rattle.imap_types.specs.declared.request.Answer.{Answer}
use Rattle.imap_types.specs.declared.request.Request.TheVariants.{Command as a_command}
use Rattle.link_msg.specs.declared.how.How.TheVariants.{Unreached}
use Rattle.link_queue.specs.Links.{on_link}
use Rattle.mark_history.specs.Marked.{Tale}
use Rattle.mur_base.specs.declared.point.What.TheVariants.{Unreached as unreached}
use Rattle.mur_model.specs.Act.{need_of, session_after}
use Rattle.mur_model.specs.Asking.{asked_for}
use Rattle.mur_model.specs.History.{numbered}
use Rattle.mur_model.specs.Needed.{Mailbox, Names}
use Rattle.mur_model.specs.Relocation.{refused_for}
use Rattle.mur_model.specs.declared.commands.list.Listing.{Listing}
use Rattle.mur_model.specs.declared.need.Asking.{Asking}
use Rattle.mur_model.specs.declared.session.Sess.{Sess}
use Rattle.mur_model.specs.declared.setting.Setting.{Setting}
use Rattle.node_record.specs.Table.{MailboxTable}
use Rattle.point_links.specs.Commands.{ClientCommand}
use Rattle.route_links.specs.Answered.{IsNumbered, ok_of}
use Rattle.route_links.specs.Barriers.{Place as Barrier, Place as barrier}
use Rattle.session_core.specs.Relocated.{Refused, relocated}
use Rattle.cluster_core.specs.World.{carry_all, home_at}
use Rattle.cluster_core.specs.declared.world.World.{World}
use Rattle.cluster_core.proofs.Answers.GoesOn.{StandsSo}
use Rattle.cluster_core.proofs.Answers.LeftBehind.{IsUnanswered, over_behind}
use Rattle.cluster_core.proofs.Answers.Replied.{InputsCome, IsHeardFor, read_stands}
use Rattle.cluster_core.proofs.Answers.Steps.{IsBefore}
use Rattle.cluster_core.proofs.Answers.Tells.{IsTold, list_unreached_as_told, list_unreached_told, refused_ends, refused_lasts, unreached_as_told, unreached_told}
use Rattle.cluster_core.proofs.Commands.Knows.{Knows, KnowsNames}
use Rattle.cluster_core.proofs.Commands.Knows.Knows.{is_decided, undecided}
use Rattle.cluster_core.proofs.Commands.Knows.KnowsNames.{is_gone, is_listed, not_yet}
use Rattle.cluster_core.proofs.Commands.Place.{Place, Place as place}
use Rattle.cluster_core.proofs.Commands.Released.{waits_next}
use Rattle.cluster_core.proofs.Commands.Standing.{Fixed, IsNext, Lists, Stands, Waiting, WaitsAt, next_id}
use Rattle.cluster_core.proofs.Commands.Standing.Stands.{reads, waits, lists, faulted, finished}
use Rattle.cluster_core.proofs.Connections.ConnectionLaw.{IsInPlaceOf, IsStanding, StandsOn}
use Rattle.cluster_core.proofs.Connections.FrameLaw.{inputs_kept, ways_for}

-- ---- what is undecided

record IsUndecided (told said : List Answer) (was session : Sess) : Type 0 where
  said_is : said ≡ told
  was_is : was ≡ session

knows_undecided : (master first front : List ℕ) (c : ClientCommand) (tag : Tag) (told said : List Answer) (session : Sess) (at : Barrier) → IsUnanswered at
    → Knows master first front c tag told said session (place.is_barred at) → IsUndecided told said c.was session
knows_undecided master first front c tag told said session at left (undecided same was tells) = record { said_is = same; was_is = was }
knows_undecided master first front c tag told said session barrier.nowhere left (is_decided turn more later both brings) = absurd brings
knows_undecided master first front c tag told said session barrier.asked left (is_decided turn more later both brings) = absurd brings
knows_undecided master first front c tag told said session (barrier.answered table) left (is_decided turn more later both brings) = absurd left

not_answered : (at : Barrier) (table : MailboxTable) → IsUnanswered at → place.is_barred at ≡ place.is_barred (barrier.answered table) → ⊥
not_answered barrier.nowhere table left e = cc
not_answered barrier.asked table left e = cc
not_answered (barrier.answered other) table left e = absurd left

names_undecided : (tag : Tag) (it : Listing) (was : Sess) (told said : List Answer) (session : Sess) (at : Barrier) → IsUnanswered at
    → KnowsNames tag it was told said session (place.is_barred at) → IsUndecided told said was session
names_undecided tag it was told said session at left (not_yet same stays e) = record { said_is = same; was_is = stays }
names_undecided tag it was told said session at left (is_gone same stays e) = record { said_is = same; was_is = stays }
names_undecided tag it was told said session at left (is_listed table more stays e) = absurd (not_answered at table left e)

-- ---- for whom it waits

record AtBarrier (at : At) : Type 0 where
  cause : Why
  is : at ≡ at_master cause

at_barrier : (at : At) (there : Barrier) → WaitsAt at (place.is_barred there) → AtBarrier at
at_barrier (Home server) there its = absurd its
at_barrier (at_master cause) there its = record { cause = cause; is = refl }

reading_awaits : (master node : List ℕ) → awaits master Reading node ≡ true → ⊥
unfolding awaits
reading_awaits master node e = cc

ended_awaits : (master node : List ℕ) → awaits master Ended node ≡ true → ⊥
unfolding awaits
ended_awaits master node e = cc

waits_there : (master : List ℕ) (tag : Tag) (it : WaitingFor) (server : List ℕ) → it.at ≡ Home server → awaits master (Waits tag it) master ≡ true
    → server ≡ master
unfolding awaits
waits_there master tag it server at e = same_text server master (sym (sym (ap (λ a. waits_at master a master) at) ∙ e))

ends_waiting : (setting : Setting) (ways : Ways) (conn : ℕ) (connection : Connection) (tag : Tag) (it : WaitingFor) (cause : Why)
    → connection.stage ≡ Waits tag it → it.at ≡ at_master cause
    → end_comes setting ways conn connection
    ≡ refused_behind setting ways conn connection tag (relocated connection.session it.asking.awaited (unreached ways.master)) ways.master
unfolding end_by
ends_waiting setting ways conn connection tag it cause stage at =
    ap (end_by setting ways conn connection) stage ∙ ap (ends_at setting ways conn connection tag it) at

ends_listing : (setting : Setting) (ways : Ways) (conn : ℕ) (connection : Connection) (tag : Tag) (it : Listing) → connection.stage ≡ lists_names tag it
    → end_comes setting ways conn connection ≡ refused_behind setting ways conn connection tag (list_refused connection.session) ways.master
unfolding end_by
ends_listing setting ways conn connection tag it stage = ap (end_by setting ways conn connection) stage

-- nothing is in the middle of nothing
pub none_in_middle : {X : Type 0} (before : List X) (x : X) (behind : List X) → before ++ x ∷ behind ≡ [] → ⊥
none_in_middle [] x behind e = cc
none_in_middle (first ∷ before) x behind e = cc

module _ (fixed : Fixed) (world : World) (story : Tale) (to : List ℕ) (front : Front) (conn : ℕ) (inputs : List Input) (held : Option (List ℕ))
    (connection : Connection) (before : IsBefore fixed world story to front conn inputs connection)
    (standing : IsStanding fixed to front.replica conn inputs held connection world story) (cut : world.broken ≢ [])
    (empty : on_link world.links fixed.master to ≡ []) where
  abbrev me : List ℕ
  me = fixed.master

  abbrev ways : Ways
  ways = ways_for fixed front.ups front.replica

  abbrev told : List Answer
  told = story.told conn

  -- the inputs that waited come
  come : InputsCome fixed to front.ups front.replica conn inputs held world story
  come passed new later next parts last reading =
      let behind : Turned = inputs_come fixed.setting ways conn later new in
      subst (λ (all : List Input). StandsOn fixed to front.replica conn all held behind.connection world story (carry_all to next behind.outs)) parts
      (inputs_kept fixed to front.ups front.replica conn new held world story
      (record { may = before.may; reaches = before.reaches; numbers = before.numbers }) last
      passed later next (before.requests ∙ ap requests_in (sym parts)) reading)

  module _ (tag : Tag) (it : Command) (next : IsNext inputs held connection told tag it) where
    requests_so : story.talk.requests conn ≡ requests_in next.passed ++ next.request ∷ requests_in connection.waiting
    unfolding requests_in
    requests_so = before.requests ∙ ap requests_in next.parts ∙ requests-append next.passed (Asks next.request ∷ connection.waiting)

    asked_so : numbered (story.talk.requests conn) (length told + 1) ≡ Some (a_command tag it)
    asked_so =
        ap (λ r. numbered r (length told + 1)) requests_so
        ∙ next_request (requests_in next.passed) (requests_in connection.waiting) next.request (length told)
        (answered_lengths next.passed told next.answered)
        ∙ ap Some next.is

    number_so : IsNumbered (next_id conn told)
    number_so =
        let few : length told + 1 < 2 ^ 64 =
        omega (
          arith,
          (before.numbers).1,
          ap length requests_so,
          length-append (requests_in next.passed) (next.request ∷ requests_in connection.waiting),
          answered_lengths next.passed told next.answered,
        ) in
        ((before.numbers).0, few)

    heard_so : (at : Barrier) → IsUnanswered at → IsInPlaceOf fixed world to front.replica (next_id conn told) (place.is_barred at)
        → IsHeardFor fixed to front.replica conn inputs held connection world story tag it
    heard_so at left placed = record {
      count = standing.count;
      client = standing.client;
      nothing = over_behind me (home_at world) world.links to front.replica (next_id conn told) number_so at left placed;
      is_told = before.is_told;
      next = next;
    }

  -- ---- a command that needs a mailbox

  mailbox_refused : (at : Barrier) → IsUnanswered at → IsInPlaceOf fixed world to front.replica (next_id conn told) (place.is_barred at)
      → (waiting : Waiting fixed to conn inputs held connection told (story.talk.answers conn) (story.course.sessions conn) (place.is_barred at))
      → StandsSo fixed to front.replica conn inputs held world story
      (refused_behind fixed.setting ways conn connection waiting.tag (relocated connection.session ((waiting.c).waiting).asking.awaited (unreached me)) me)
  mailbox_refused at left placed waiting =
      let c : ClientCommand = waiting.c in
      let so = knows_undecided me fixed.first to c waiting.tag told (story.talk.answers conn) (story.course.sessions conn) at left waiting.knows in
      let next = waits_next fixed to conn inputs held connection told (story.talk.answers conn) (story.course.sessions conn) (place.is_barred at) waiting in
      let reply : Reply = (refused_for c.was c.it NotReached).reply in
      let session : Sess = session_after c.was (refused_for c.was c.it NotReached).session in
      let is : relocated connection.session (c.waiting).asking.awaited (unreached me) ≡ record { session = session; reply = reply } =
      ap (λ (a : Asking). relocated connection.session a.awaited (unreached me)) c.asking_is
      ∙ ap (λ s. relocated s (asked_for c.name c.work).awaited (unreached me)) (sym (waiting.of).was_is)
      ∙ unreached_as_told c.setting c.was c.it me c.name c.work c.need in
      let need : need_of fixed.setting (story.course.sessions conn) c.it ≡ Mailbox c.name c.work =
      ap (λ (s : Setting). need_of s (story.course.sessions conn) c.it) (sym (waiting.of).setting_is)
      ∙ ap (λ (s : Sess). need_of c.setting s c.it) (sym so.was_is) ∙ c.need in
      subst (λ (r : Refused). StandsSo fixed to front.replica conn inputs held world story (refused_behind fixed.setting ways conn connection waiting.tag r me))
      (sym is)
      (read_stands fixed to front.ups front.replica conn inputs held connection world story waiting.tag c.it (heard_so waiting.tag c.it next at left placed)
      (Unreached me) reply session
      (subst (λ (s : Sess). IsTold fixed.setting world story conn (Unreached me)
      (record { tag = waiting.tag; reply = (refused_for s c.it NotReached).reply }) (session_after s (refused_for s c.it NotReached).session)) (sym so.was_is)
      (unreached_told fixed.setting world story conn waiting.tag c.it me c.name c.work before.is_told so.said_is (asked_so waiting.tag c.it next) need cut))
      (refused_lasts c.was c.it NotReached (ap has_ended (waiting.of).was_is ∙ waiting.lasts)) (refused_ends c.was c.it NotReached) come)

  -- ---- a LIST

  names_refused : (at : Barrier) → IsUnanswered at → IsInPlaceOf fixed world to front.replica (next_id conn told) (place.is_barred at)
      → (it : Lists fixed inputs held connection told (story.talk.answers conn) (story.course.sessions conn) (place.is_barred at))
      → StandsSo fixed to front.replica conn inputs held world story (refused_behind fixed.setting ways conn connection it.tag (list_refused connection.session) me)
  names_refused at left placed it =
      let so = names_undecided it.tag it.listing connection.session told (story.talk.answers conn) (story.course.sessions conn) at left it.knows in
      let reply : Reply = (refused_for connection.session it.it NotReached).reply in
      let session : Sess = session_after connection.session (refused_for connection.session it.it NotReached).session in
      let need : need_of fixed.setting (story.course.sessions conn) it.it ≡ Names it.listing =
      ap (λ (s : Sess). need_of fixed.setting s it.it) (sym so.was_is) ∙ it.need in
      subst (λ (r : Refused). StandsSo fixed to front.replica conn inputs held world story (refused_behind fixed.setting ways conn connection it.tag r me))
      (sym (list_unreached_as_told fixed.setting connection.session it.it it.listing it.need))
      (read_stands fixed to front.ups front.replica conn inputs held connection world story it.tag it.it (heard_so it.tag it.it it.next at left placed)
      (Unreached me) reply session
      (subst (λ (s : Sess). IsTold fixed.setting world story conn (Unreached me)
      (record { tag = it.tag; reply = (refused_for s it.it NotReached).reply }) (session_after s (refused_for s it.it NotReached).session)) (sym so.was_is)
      (list_unreached_told fixed.setting world story conn it.tag it.it me it.listing before.is_told so.said_is (asked_so it.tag it.it it.next) need cut))
      (refused_lasts connection.session it.it NotReached it.lasts) (refused_ends connection.session it.it NotReached) come)

  -- ---- whatever it is at

  abbrev Goal : Type 0
  Goal = StandsSo fixed to front.replica conn inputs held world story (end_comes fixed.setting ways conn connection)

  abbrev Placed : Place → Type 0
  Placed here = IsInPlaceOf fixed world to front.replica (next_id conn told) here

  -- no OK is on its way
  not_ok : (table : MailboxTable) → Placed (place.is_barred (barrier.answered table)) → ⊥
  not_ok table placed = none_in_middle (placed.barrier).before (ok_of (next_id conn told)) (placed.barrier).behind (sym (placed.barrier).down_is ∙ empty)

  -- it waits for no backend
  not_home : (tag : Tag) (it : WaitingFor) (server : List ℕ) (node : BackNode) → connection.stage ≡ Waits tag it → it.at ≡ Home server
      → home_at world server ≡ Some node → awaits me connection.stage me ≡ true → ⊥
  not_home tag it server node stage at there e =
      let same : server ≡ me = waits_there me tag it server at (sym (ap (λ s. awaits me s me) stage) ∙ e) in
      (let no : None ≡ Some node = sym ((before.may).frontend).master_no_home ∙ (sym (ap (home_at world) same) ∙ there) in cc)

  mailbox_at : (at : Barrier) → IsUnanswered at → Placed (place.is_barred at)
      → Waiting fixed to conn inputs held connection told (story.talk.answers conn) (story.course.sessions conn) (place.is_barred at) → Goal
  mailbox_at at left placed waiting =
      let waits_so = at_barrier ((waiting.c).waiting).at at waiting.at in
      subst (λ (t : Turned). StandsSo fixed to front.replica conn inputs held world story t)
      (sym (ends_waiting fixed.setting ways conn connection waiting.tag (waiting.c).waiting waits_so.cause waiting.stage waits_so.is))
      (mailbox_refused at left placed waiting)

  names_at : (at : Barrier) → IsUnanswered at → Placed (place.is_barred at)
      → Lists fixed inputs held connection told (story.talk.answers conn) (story.course.sessions conn) (place.is_barred at) → Goal
  names_at at left placed it =
      subst (λ (t : Turned). StandsSo fixed to front.replica conn inputs held world story t)
      (sym (ends_listing fixed.setting ways conn connection it.tag it.listing it.stage))
      (names_refused at left placed it)

  waiting_by : (here : Place) → Placed here
      → Waiting fixed to conn inputs held connection told (story.talk.answers conn) (story.course.sessions conn) here → awaits me connection.stage me ≡ true → Goal
  waiting_by place.nowhere placed waiting e = absurd waiting.at
  waiting_by (place.is_asked server ask) placed waiting e =
      absurd (not_home waiting.tag (waiting.c).waiting server placed.there.0 waiting.stage waiting.at placed.there.1 e)
  waiting_by (place.is_answered server answer) placed waiting e =
      absurd (not_home waiting.tag (waiting.c).waiting server placed.there.0 waiting.stage waiting.at placed.there.1 e)
  waiting_by (place.is_dropped server) placed waiting e =
      absurd (not_home waiting.tag (waiting.c).waiting server placed.there.0 waiting.stage waiting.at placed.there.1 e)
  waiting_by (place.is_at loc name) placed waiting e =
      absurd (not_home waiting.tag (waiting.c).waiting loc.server placed.there.0 waiting.stage waiting.at placed.there.1 e)
  waiting_by (place.is_barred barrier.nowhere) placed waiting e = mailbox_at barrier.nowhere tt placed waiting
  waiting_by (place.is_barred barrier.asked) placed waiting e = mailbox_at barrier.asked tt placed waiting
  waiting_by (place.is_barred (barrier.answered table)) placed waiting e = absurd (not_ok table placed)

  listing_by : (here : Place) → Placed here → (it : Lists fixed inputs held connection told (story.talk.answers conn) (story.course.sessions conn) here)
      → KnowsNames it.tag it.listing connection.session told (story.talk.answers conn) (story.course.sessions conn) here → Goal
  listing_by here placed it (not_yet same stays at) =
      names_at barrier.asked tt (subst Placed at placed)
      (subst (λ h. Lists fixed inputs held connection told (story.talk.answers conn) (story.course.sessions conn) h) at it)
  listing_by here placed it (is_gone same stays at) =
      names_at barrier.nowhere tt (subst Placed at placed)
      (subst (λ h. Lists fixed inputs held connection told (story.talk.answers conn) (story.course.sessions conn) h) at it)
  listing_by here placed it (is_listed table more stays at) = absurd (not_ok table (subst Placed at placed))

  stands_by : Stands fixed to conn inputs held connection told (story.talk.answers conn) (story.course.sessions conn) standing.here
      → awaits me connection.stage me ≡ true → Goal
  stands_by (reads stage waiting same lasts answered said at) e = absurd (reading_awaits me me (sym (ap (λ s. awaits me s me) stage) ∙ e))
  stands_by (waits waiting) e = waiting_by standing.here standing.placed waiting e
  stands_by (lists it) e = listing_by standing.here standing.placed it it.knows
  stands_by (faulted stage none count said lasts at) e = absurd (ended_awaits me me (sym (ap (λ s. awaits me s me) stage) ∙ e))
  stands_by (finished passed more request early last stage parts answered is_told is_end said at) e =
      absurd (ended_awaits me me (sym (ap (λ s. awaits me s me) stage) ∙ e))

  -- WHAT THE END OF THE LINK MAKES OF THE CONNECTION
  pub refuses_stands : awaits fixed.master connection.stage fixed.master ≡ true
      → StandsSo fixed to front.replica conn inputs held world story (end_comes fixed.setting (ways_for fixed front.ups front.replica) conn connection)
  refuses_stands e = stands_by standing.stands e
