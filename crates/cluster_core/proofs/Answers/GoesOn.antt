-- What came of a command that waited makes its connection stand so: its client is told the store's reply or a refusal, or it waits on.
use Rattle.std.proofs.Common.{◌≡◌, ◌≢◌, ℕ, ◌+◌, Bool, true, false, is_some, List, [], ◌∷◌, ◌++◌, length, Option, Some, refl, sym, ◌∙◌, ap, subst}
use Rattle.asking_core.specs.Answered.{WentOn}
use Rattle.asking_core.specs.Laws.{FitsAt}
use Rattle.asking_core.specs.declared.then.Then.{Then}
use Rattle.asking_core.specs.declared.waiting.At.{At}
use Rattle.asking_core.specs.declared.waiting.At.TheVariants.{Home, Barrier as at_master}
use Rattle.asking_core.specs.declared.waiting.Sent.{Sent}
use Rattle.asking_core.specs.declared.waiting.Waiting.{Waiting as WaitingFor}
use Rattle.feed_core.specs.declared.replica.Replica.{Replica}
use Rattle.front_core.specs.declared.connection.Connection.{Connection}
use Rattle.front_core.specs.Answered.{by_then, goes_on_by, need_behind, refused_behind, sends_if}
use Rattle.front_core.specs.Taken.{Turned}
use Rattle.front_core.specs.Ups.{Ups, is_up}
use Rattle.link_queue.specs.Broken.{Broken}
use Rattle.imap_talk.specs.Inputs.{requests_in}
use Rattle.imap_talk.specs.SessionEnds.{TurnEnds, has_ended}
use Rattle.imap_talk.specs.Transcript.{ends}
use Rattle.imap_talk.specs.declared.inputs.Input.{Input}
use Rattle.imap_talk.specs.declared.inputs.Input.TheVariants.{Asks}
use Rattle.imap_talk.proofs.AnswersEnd.{ended_by}
use Rattle.imap_talk.proofs.InputLaws.{requests-append}
use Rattle.imap_talk.proofs.RequestsOf.{answered_lengths, next_request}
use Rattle.imap_types.specs.declared.reply.NoText.TheVariants.{BeingMoved, NotReached}
use Rattle.imap_types.specs.declared.reply.Reply.{Reply}
use Rattle.imap_types.specs.declared.request.Answer.{Answer}
use Rattle.imap_types.specs.declared.request.Request.TheVariants.{Command as a_command}
use Rattle.link_msg.specs.declared.how.How.{How}
use Rattle.link_msg.specs.declared.how.How.TheVariants.{Behind, Reserved, Unreached}
use Rattle.mark_history.specs.Marked.{CanRefuse, Tale}
use Rattle.many_links.specs.Murder.{Nodes}
use Rattle.master_core.specs.Refusals.{is_reserved}
use Rattle.mur_base.specs.declared.point.AskId.{AskId}
use Rattle.mur_base.specs.declared.point.What.TheVariants.{Reserved as reserved, Unreached as unreached}
use Rattle.node_record.specs.Table.{MailboxTable, record_at}
use Rattle.cluster_core.proofs.Commands.Moving.{IsSeenBy}
use Rattle.mur_model.specs.declared.session.Sess.{Sess}
use Rattle.mur_model.specs.declared.session.Sess.TheVariants.{Off, In, Selected, Ended as session_ended}
use Rattle.mur_model.specs.declared.session.Turn.{Turn}
use Rattle.mur_model.specs.declared.setting.Setting.{Setting}
use Rattle.mur_model.specs.Act.{need_of, session_after}
use Rattle.mur_model.specs.History.{numbered}
use Rattle.mur_model.specs.Needed.{Mailbox}
use Rattle.mur_model.specs.declared.need.Asking.{Asking}
use Rattle.mur_model.specs.Asking.{asked_for}
use Rattle.session_core.specs.Relocated.{Refused, relocated}
use Rattle.mur_model.specs.Relocation.{MayBeRefused, cause_text, refused_for}
use Rattle.point_links.specs.Commands.{ClientCommand, WaitsOn, refused_turn, told_turn}
use Rattle.route_links.specs.Answered.{IsNumbered}
use Rattle.serve_law.specs.AsTheStore.{given_with}
use Rattle.cluster_core.specs.declared.world.World.{World}
use Rattle.cluster_core.specs.World.{carry_all, home_at}
use Rattle.cluster_core.proofs.Commands.Place.{Place}
use Rattle.cluster_core.proofs.Commands.Standing.{Fixed, next_id}
use Rattle.cluster_core.proofs.Connections.ConnectionLaw.{StandsOn}
use Rattle.cluster_core.proofs.Places.Stays.{IsFrontend}
use Rattle.cluster_core.proofs.Connections.AsksFirst.{Reaches}
use Rattle.cluster_core.proofs.Connections.FrameLaw.{ways_for}
use Rattle.cluster_core.proofs.Answers.Replied.{InputsCome, IsHeard, IsHeardFor, ended_stands, heard_for, read_stands}
use Rattle.cluster_core.proofs.Answers.Tells.{IsTold, behind_told, refusal_told, refused_ends, refused_lasts, unreached_as_told, unreached_told}
use Rattle.cluster_core.proofs.Answers.WaitsOn.{AsksBackend, waits_on_stands}

-- the connection and what it let out, as the world has it
abbrev pub StandsSo : Fixed → List ℕ → Replica → ℕ → List Input → Option (List ℕ) → World → Tale → Turned → Type 0
StandsSo fixed front replica conn inputs held world story turned =
    StandsOn fixed front replica conn inputs held turned.connection world story (carry_all front world turned.outs)

-- what a frontend knows of itself, and of a command that it may send on
pub record MaySend (fixed : Fixed) (front : List ℕ) (ups : Ups) (conn : ℕ) (world : World) (story : Tale) : Type 0 where
  pub frontend : IsFrontend fixed.master (home_at world) front
  pub reaches : Reaches fixed.master (home_at world) world.broken ups
  pub is_numbered : IsNumbered (next_id conn (story.told conn))

-- where the link to whom a message of its goes isn't up, one has broken
sent_cut : (ups : Ups) (nodes : Nodes) (broken : Broken) (master : List ℕ) (id : AskId) (session : Sess) (it : WaitingFor) (message : Sent) (at : At)
    → Reaches master nodes broken ups → FitsAt master id session it message at → AsksBackend nodes at → is_up ups message.to ≡ false → broken ≢ []
sent_cut ups nodes broken master id session it message (Home server) reaches fits backend down =
    reaches.cut message.to down (ap is_some (ap nodes fits.0 ∙ (backend server refl).1))
sent_cut ups nodes broken master id session it message (at_master cause) reaches fits backend down =
    reaches.master_cut (ap (is_up ups) (sym fits.0) ∙ down)

module _ (fixed : Fixed) (front : List ℕ) (ups : Ups) (replica : Replica) (conn : ℕ) (inputs : List Input) (held : Option (List ℕ)) (connection : Connection)
    (world : World) (story : Tale) (here : Place) (heard : IsHeard fixed front replica conn inputs held connection world story here) where
  abbrev c : ClientCommand
  c = (heard.waiting).c

  -- what comes of the command does this to its connection
  abbrev pub turned_by : WentOn → Turned
  turned_by next = goes_on_by fixed.setting (ways_for fixed ups replica) conn connection (heard.waiting).tag next

  abbrev now : Sess → Connection
  now session = record connection { session = session }

  its_heard : IsHeardFor fixed front replica conn inputs held connection world story (heard.waiting).tag c.it
  its_heard = heard_for fixed front replica conn inputs held connection world story here heard

  was_lasts : has_ended c.was ≡ false
  was_lasts = ap has_ended ((heard.waiting).of).was_is ∙ (heard.waiting).lasts

  -- ---- a reply

  given_stands : (how : How) (reply : Reply) (session : Sess) → has_ended session ≡ ends reply
      → IsTold fixed.setting world story conn how (record { tag = (heard.waiting).tag; reply = reply }) session
      → InputsCome fixed front ups replica conn inputs held world story
      → StandsSo fixed front replica conn inputs held world story
      (need_behind fixed.setting (ways_for fixed ups replica) conn (now session) (heard.waiting).tag how (given_with reply session))
  unfolding given_with
  given_stands how reply Off same told come =
      read_stands fixed front ups replica conn inputs held connection world story (heard.waiting).tag c.it its_heard how reply Off told refl (sym same) come
  given_stands how reply (In user) same told come =
      read_stands fixed front ups replica conn inputs held connection world story (heard.waiting).tag c.it its_heard how reply (In user) told refl (sym same) come
  given_stands how reply (Selected view) same told come =
      read_stands fixed front ups replica conn inputs held connection world story (heard.waiting).tag c.it its_heard how reply (Selected view) told refl (sym same) come
  given_stands how reply session_ended same told come =
      ended_stands fixed front ups replica conn inputs held connection world story (heard.waiting).tag c.it its_heard how reply session_ended told (sym same)

  -- the store's
  pub told_stands : InputsCome fixed front ups replica conn inputs held world story → (turn : Turn) (next : WentOn) → next ≡ told_turn c turn
      → story.talk.answers conn ≡ story.told conn ++ (record { tag = (heard.waiting).tag; reply = turn.reply }) ∷ []
      → story.course.sessions conn ≡ session_after c.was turn.session → TurnEnds turn
      → StandsSo fixed front replica conn inputs held world story (turned_by next)
  told_stands come turn next is said session both =
      let answer : Answer = record { tag = (heard.waiting).tag; reply = turn.reply } in
      subst (λ n. StandsSo fixed front replica conn inputs held world story (turned_by n)) (sym is)
      (given_stands Behind turn.reply (session_after c.was turn.session) (ended_by c.was turn.session was_lasts ∙ sym both)
      (subst (λ s. IsTold fixed.setting world story conn Behind answer s) session (behind_told fixed.setting world story conn answer heard.is_told said)) come)

  -- a refusal

  asked_so : story.talk.requests conn ≡ requests_in inputs
      → numbered (story.talk.requests conn) (length (story.told conn) + 1) ≡ Some (a_command (heard.waiting).tag c.it)
  unfolding requests_in
  asked_so requests =
      ap (λ r. numbered r (length (story.told conn) + 1))
      (requests ∙ ap requests_in (heard.waiting).parts
      ∙ requests-append (heard.waiting).passed (Asks (heard.waiting).request ∷ connection.waiting))
      ∙ next_request (requests_in (heard.waiting).passed) (requests_in connection.waiting) (heard.waiting).request (length (story.told conn))
      (answered_lengths (heard.waiting).passed (story.told conn) (heard.waiting).answered)
      ∙ ap Some (heard.waiting).is

  need_so : c.was ≡ story.course.sessions conn → need_of fixed.setting (story.course.sessions conn) c.it ≡ Mailbox c.name c.work
  need_so was =
      ap (λ (s : Setting). need_of s (story.course.sessions conn) c.it) (sym ((heard.waiting).of).setting_is)
      ∙ ap (λ (s : Sess). need_of c.setting s c.it) (sym was) ∙ c.need

  -- the step that saw it last had this table, in which its name is reserved
  can_refuse : story.talk.requests conn ≡ requests_in inputs → story.talk.answers conn ≡ story.told conn → c.was ≡ story.course.sessions conn
      → (table : MailboxTable) → IsSeenBy story.talk.moving world.marks (next_id conn (story.told conn)) table
      → is_reserved (record_at table c.name) ≡ true → CanRefuse fixed.setting world.marks story conn (heard.waiting).tag c.it
  unfolding cause_text MayBeRefused
  can_refuse requests said was table seen moves = record {
    unreplied = said;
    step = seen.step;
    saw = seen.saw;
    refused = record {
      asked = asked_so requests;
      cause = refl;
      may = subst (MayBeRefused story.talk.moving seen.step reserved) (sym (need_so was)) (seen.moves c.name ∙ moves);
    };
  }

  pub refused_stands : InputsCome fixed front ups replica conn inputs held world story → (next : WentOn)
      → next ≡ refused_turn c (refused_for c.was c.it BeingMoved) → story.talk.requests conn ≡ requests_in inputs
      → story.talk.answers conn ≡ story.told conn → c.was ≡ story.course.sessions conn
      → (table : MailboxTable) → IsSeenBy story.talk.moving world.marks (next_id conn (story.told conn)) table → is_reserved (record_at table c.name) ≡ true
      → StandsSo fixed front replica conn inputs held world story (turned_by next)
  refused_stands come next is requests said was table seen moves =
      let turn : Turn = refused_for c.was c.it BeingMoved in
      subst (λ n. StandsSo fixed front replica conn inputs held world story (turned_by n)) (sym is)
      (read_stands fixed front ups replica conn inputs held connection world story (heard.waiting).tag c.it its_heard Reserved turn.reply (session_after c.was turn.session)
      (subst (λ (s : Sess). IsTold fixed.setting world story conn Reserved (record { tag = (heard.waiting).tag; reply = (refused_for s c.it BeingMoved).reply })
      (session_after s (refused_for s c.it BeingMoved).session)) (sym was)
      (refusal_told fixed.setting world story conn (heard.waiting).tag c.it heard.is_told (can_refuse requests said was table seen moves)))
      (refused_lasts c.was c.it BeingMoved was_lasts) (refused_ends c.was c.it BeingMoved) come)

  -- ---- it waits on

  -- its server isn't reached, and so it is refused
  unreached_stands : InputsCome fixed front ups replica conn inputs held world story → story.talk.requests conn ≡ requests_in inputs
      → (next : WentOn) → WaitsOn fixed.master c next → (sent : Sent) → world.broken ≢ []
      → story.talk.answers conn ≡ story.told conn → c.was ≡ story.course.sessions conn
      → StandsSo fixed front replica conn inputs held world story
      (sends_if false fixed.setting (ways_for fixed ups replica) conn (now next.session) (heard.waiting).tag next.waiting sent)
  unreached_stands come requests next on sent cut said was =
      let reply : Reply = (refused_for c.was c.it NotReached).reply in
      let session : Sess = session_after c.was (refused_for c.was c.it NotReached).session in
      let asks_so : next.waiting.asking ≡ asked_for c.name c.work = on.asks.asking_is ∙ c.asking_is in
      let is : relocated next.session next.waiting.asking.awaited (unreached sent.to) ≡ record { session = session; reply = reply } =
      ap (λ (a : Asking). relocated next.session a.awaited (unreached sent.to)) asks_so
      ∙ ap (λ s. relocated s (asked_for c.name c.work).awaited (unreached sent.to)) on.session_is
      ∙ unreached_as_told c.setting c.was c.it sent.to c.name c.work c.need in
      subst (λ (r : Refused). StandsSo fixed front replica conn inputs held world story
      (refused_behind fixed.setting (ways_for fixed ups replica) conn (now next.session) (heard.waiting).tag r sent.to)) (sym is)
      (read_stands fixed front ups replica conn inputs held connection world story (heard.waiting).tag c.it its_heard (Unreached sent.to) reply session
      (subst (λ (s : Sess). IsTold fixed.setting world story conn (Unreached sent.to)
      (record { tag = (heard.waiting).tag; reply = (refused_for s c.it NotReached).reply }) (session_after s (refused_for s c.it NotReached).session)) (sym was)
      (unreached_told fixed.setting world story conn (heard.waiting).tag c.it sent.to c.name c.work heard.is_told said (asked_so requests) (need_so was) cut))
      (refused_lasts c.was c.it NotReached was_lasts) (refused_ends c.was c.it NotReached) come)

  sends_stands : InputsCome fixed front ups replica conn inputs held world story → story.talk.requests conn ≡ requests_in inputs
      → MaySend fixed front ups conn world story → (next : WentOn) → (on : WaitsOn fixed.master c next) → AsksBackend (home_at world) next.waiting.at
      → story.talk.answers conn ≡ story.told conn → c.was ≡ story.course.sessions conn → (up : Bool) → is_up ups on.sent.to ≡ up
      → StandsSo fixed front replica conn inputs held world story
      (sends_if up fixed.setting (ways_for fixed ups replica) conn (now next.session) (heard.waiting).tag next.waiting on.sent)
  sends_stands come requests may next on backend said was true up =
      waits_on_stands fixed front replica conn inputs held connection world story here heard may.frontend may.is_numbered said was next on backend
  sends_stands come requests may next on backend said was false down =
      unreached_stands come requests next on on.sent
      (sent_cut ups (home_at world) world.broken fixed.master c.id c.was c.waiting on.sent next.waiting.at may.reaches on.asks.fits backend down) said was

  pub on_stands : InputsCome fixed front ups replica conn inputs held world story → story.talk.requests conn ≡ requests_in inputs
      → MaySend fixed front ups conn world story → (next : WentOn) → WaitsOn fixed.master c next → AsksBackend (home_at world) next.waiting.at
      → story.talk.answers conn ≡ story.told conn → c.was ≡ story.course.sessions conn
      → StandsSo fixed front replica conn inputs held world story (turned_by next)
  on_stands come requests may next on backend said was =
      subst (λ (t : Then). StandsSo fixed front replica conn inputs held world story
      (by_then fixed.setting (ways_for fixed ups replica) conn (now next.session) (heard.waiting).tag next.waiting t)) (sym on.sends)
      (sends_stands come requests may next on backend said was (is_up ups on.sent.to) refl)
