-- A client is told the reply of its command: the store's, which it gave in an earlier step, or a refusal.
use Rattle.std.proofs.Common.{◌≡◌, ◌≢◌, ℕ, ◌+◌, false, List, [], ◌∷◌, ◌++◌, length, Some, refl, sym, ap, subst, arith, length-append}
use Rattle.imap_types.specs.declared.command.Command.{Command}
use Rattle.imap_types.specs.declared.command.Command.TheVariants.{Select, Examine}
use Rattle.imap_types.specs.declared.command.Tag.{Tag}
use Rattle.imap_types.specs.declared.reply.NoText.{NoText}
use Rattle.imap_types.specs.declared.reply.NoText.TheVariants.{BeingMoved, NotReached}
use Rattle.imap_talk.specs.SessionEnds.{has_ended}
use Rattle.imap_talk.specs.Transcript.{ends, is_bye}
use Rattle.imap_types.specs.declared.request.Answer.{Answer}
use Rattle.imap_types.specs.declared.request.Request.TheVariants.{Command as a_command}
use Rattle.link_msg.specs.declared.how.How.{How}
use Rattle.link_msg.specs.declared.how.How.TheVariants.{Behind, Reserved, Unreached}
use Rattle.mark_history.specs.Marked.{CanRefuse, CanRefuseNow, IsUnreplied, IsUntold, Tale, mark_now, refusing, telling}
use Rattle.mark_history.specs.declared.mark.MarkKind.TheVariants.{Told}
use Rattle.mark_history.proofs.TakenBack.{list_at, list_elsewhere}
use Rattle.front_core.specs.Taken.{list_refused}
use Rattle.mur_base.specs.declared.point.What.TheVariants.{Unreached as unreached}
use Rattle.mur_model.specs.declared.commands.list.Listing.{Listing}
use Rattle.mur_model.specs.declared.session.Sess.{Sess}
use Rattle.mur_model.specs.declared.session.Sess.TheVariants.{Selected}
use Rattle.mur_model.specs.declared.session.Turn.{Turn}
use Rattle.mur_model.specs.declared.setting.Setting.{Setting}
use Rattle.mur_model.specs.Act.{need_of, session_after}
use Rattle.mur_model.specs.Asking.{asked_for}
use Rattle.mur_model.specs.History.{numbered}
use Rattle.mur_model.specs.Needed.{Mailbox, Names, Work}
use Rattle.mur_model.specs.Relocation.{MayBeRefused, cause_text, refused_for}
use Rattle.mur_model.proofs.HistoryGrows.{same_lists}
use Rattle.session_core.specs.Relocated.{relocated}
use Rattle.session_core.proofs.RefusedLaw.{refused_as_told, refused_list}
use Rattle.cluster_core.specs.declared.world.World.{World}
use Rattle.cluster_core.proofs.Commands.AllReached.{AreMarkedSo, refuses, refuses_at_once, tells}
use Rattle.cluster_core.proofs.Connections.ConnectionLaw.{GoesOnAt, session_at, session_of_other}
use Rattle.cluster_core.proofs.Connections.Tales.{list_more}

-- the tale once the client of a connection was told one answer more, by which its session is so
pub record IsTold (setting : Setting) (world : World) (story : Tale) (conn : ℕ) (how : How) (answer : Answer) (session : Sess) : Type 0 where
  pub later : Tale
  pub goes_on : GoesOnAt conn story later
  pub store : later.course.store ≡ story.course.store
  pub told : later.told conn ≡ story.told conn ++ answer ∷ []
  pub said : later.talk.answers conn ≡ story.told conn ++ answer ∷ []
  pub session_is : later.course.sessions conn ≡ session
  pub is_told : AreMarkedSo setting world.broken world.steps (world.marks ++ mark_now world.steps story conn (Told how) ∷ []) later

-- the store gave it
pub behind_told : (setting : Setting) (world : World) (story : Tale) (conn : ℕ) (answer : Answer) → AreMarkedSo setting world.broken world.steps world.marks story
    → IsUntold story conn answer → IsTold setting world story conn Behind answer (story.course.sessions conn)
behind_told setting world story conn answer marked untold = record {
  later = telling story conn answer;
  goes_on = record {
    requests = refl;
    said = λ other ne. refl;
    grows = omega arith;
    told = λ other ne. list_elsewhere story.told conn (story.told conn ++ answer ∷ []) other ne;
    sessions = λ other ne. refl;
    before = λ other ne. refl;
    more = record {
      requests = same_lists story.talk.requests;
      answers = list_more story.told conn answer;
      serials = same_lists story.talk.serials;
      moving = refl;
    };
  };
  store = refl;
  told = list_at story.told conn (story.told conn ++ answer ∷ []);
  said = untold;
  session_is = refl;
  is_told = tells world.steps world.marks story conn answer untold marked;
}

-- ---- a refusal

abbrev pub refusal_answer : Tale → ℕ → Tag → Command → NoText → Answer
refusal_answer story conn tag it why = record { tag = tag; reply = (refused_for (story.course.sessions conn) it why).reply }

abbrev pub refusal_session : Tale → ℕ → Command → NoText → Sess
refusal_session story conn it why = session_after (story.course.sessions conn) (refused_for (story.course.sessions conn) it why).session

-- it ends no connection
pub refused_ends : (session : Sess) (it : Command) (why : NoText) → ends (refused_for session it why).reply ≡ false
unfolding refused_for ends is_bye
refused_ends (Selected view) (Select text) why = refl
refused_ends (Selected view) (Examine text) why = refl
refused_ends session it why = refl

pub refused_lasts : (session : Sess) (it : Command) (why : NoText) → has_ended session ≡ false
    → has_ended (session_after session (refused_for session it why).session) ≡ false
unfolding refused_for
refused_lasts (Selected view) (Select text) why lasts = refl
refused_lasts (Selected view) (Examine text) why lasts = refl
refused_lasts session it why lasts = lasts

-- the tale behind it
refused_told : (setting : Setting) (world : World) (story : Tale) (conn : ℕ) (tag : Tag) (it : Command) (why : NoText) (how : How) → IsUnreplied story conn
    → AreMarkedSo setting world.broken world.steps (world.marks ++ mark_now world.steps story conn (Told how) ∷ [])
    (telling (refusing story conn tag it why 0) conn (refusal_answer story conn tag it why))
    → IsTold setting world story conn how (refusal_answer story conn tag it why) (refusal_session story conn it why)
refused_told setting world story conn tag it why how unreplied marked =
    let answer : Answer = refusal_answer story conn tag it why in
    record {
      later = telling (refusing story conn tag it why 0) conn answer;
      goes_on = record {
        requests = refl;
        said = λ other ne. list_elsewhere story.talk.answers conn (story.told conn ++ answer ∷ []) other ne;
        grows = omega (
          arith,
          ap length unreplied,
          ap length (list_at story.talk.answers conn (story.told conn ++ answer ∷ [])),
          length-append (story.told conn) (answer ∷ []),
        );
        told = λ other ne. list_elsewhere story.told conn (story.told conn ++ answer ∷ []) other ne;
        sessions = λ other ne. session_of_other story.course.sessions conn _ other ne;
        before = λ other ne. session_of_other story.before conn _ other ne;
        more = record {
          requests = same_lists story.talk.requests;
          answers = list_more story.told conn answer;
          serials = list_more story.talk.serials conn 0;
          moving = refl;
        };
      };
      store = refl;
      told = list_at story.told conn (story.told conn ++ answer ∷ []);
      said = list_at story.talk.answers conn (story.told conn ++ answer ∷ []);
      session_is = session_at story.course.sessions conn _;
      is_told = marked;
    }

-- since its mailbox is being moved
pub refusal_told : (setting : Setting) (world : World) (story : Tale) (conn : ℕ) (tag : Tag) (it : Command)
    → AreMarkedSo setting world.broken world.steps world.marks story → CanRefuse setting world.marks story conn tag it
    → IsTold setting world story conn Reserved (refusal_answer story conn tag it BeingMoved) (refusal_session story conn it BeingMoved)
refusal_told setting world story conn tag it marked can =
    refused_told setting world story conn tag it BeingMoved Reserved can.unreplied (refuses world.steps world.marks story conn tag it 0 can marked)

-- since a node isn't reached that it needs, and a link has broken
can_refuse_now : (setting : Setting) (story : Tale) (now conn : ℕ) (tag : Tag) (it : Command) (node : List ℕ) → IsUnreplied story conn
    → numbered (story.talk.requests conn) (length (story.told conn) + 1) ≡ Some (a_command tag it)
    → MayBeRefused story.talk.moving now (unreached node) (need_of setting (story.course.sessions conn) it) → CanRefuseNow setting story now conn tag it node
unfolding cause_text
can_refuse_now setting story now conn tag it node unreplied asked may = record {
  unreplied = unreplied;
  refused = record { asked = asked; cause = refl; may = may };
}

not_reached_told : (setting : Setting) (world : World) (story : Tale) (conn : ℕ) (tag : Tag) (it : Command) (node : List ℕ)
    → AreMarkedSo setting world.broken world.steps world.marks story → IsUnreplied story conn
    → numbered (story.talk.requests conn) (length (story.told conn) + 1) ≡ Some (a_command tag it)
    → MayBeRefused story.talk.moving world.steps (unreached node) (need_of setting (story.course.sessions conn) it) → world.broken ≢ []
    → IsTold setting world story conn (Unreached node) (refusal_answer story conn tag it NotReached) (refusal_session story conn it NotReached)
not_reached_told setting world story conn tag it node marked unreplied asked may cut =
    refused_told setting world story conn tag it NotReached (Unreached node) unreplied
    (refuses_at_once world.steps world.marks story conn tag it node 0
    (can_refuse_now setting story world.steps conn tag it node unreplied asked may) cut marked)

-- the server of its mailbox, or the master
pub unreached_told : (setting : Setting) (world : World) (story : Tale) (conn : ℕ) (tag : Tag) (it : Command) (node name : List ℕ) (work : Work)
    → AreMarkedSo setting world.broken world.steps world.marks story → IsUnreplied story conn
    → numbered (story.talk.requests conn) (length (story.told conn) + 1) ≡ Some (a_command tag it)
    → need_of setting (story.course.sessions conn) it ≡ Mailbox name work → world.broken ≢ []
    → IsTold setting world story conn (Unreached node) (refusal_answer story conn tag it NotReached) (refusal_session story conn it NotReached)
unfolding MayBeRefused
unreached_told setting world story conn tag it node name work marked unreplied asked need cut =
    not_reached_told setting world story conn tag it node marked unreplied asked
    (subst (MayBeRefused story.talk.moving world.steps (unreached node)) (sym need) tt) cut

-- the master, which a LIST needs
pub list_unreached_told : (setting : Setting) (world : World) (story : Tale) (conn : ℕ) (tag : Tag) (it : Command) (node : List ℕ) (listing : Listing)
    → AreMarkedSo setting world.broken world.steps world.marks story → IsUnreplied story conn
    → numbered (story.talk.requests conn) (length (story.told conn) + 1) ≡ Some (a_command tag it)
    → need_of setting (story.course.sessions conn) it ≡ Names listing → world.broken ≢ []
    → IsTold setting world story conn (Unreached node) (refusal_answer story conn tag it NotReached) (refusal_session story conn it NotReached)
unfolding MayBeRefused
list_unreached_told setting world story conn tag it node listing marked unreplied asked need cut =
    not_reached_told setting world story conn tag it node marked unreplied asked
    (subst (MayBeRefused story.talk.moving world.steps (unreached node)) (sym need) tt) cut

-- what its session makes of that
pub unreached_as_told : (setting : Setting) (session : Sess) (it : Command) (node name : List ℕ) (work : Work)
    → need_of setting session it ≡ Mailbox name work
    → relocated session (asked_for name work).awaited (unreached node)
    ≡ record { session = session_after session (refused_for session it NotReached).session; reply = (refused_for session it NotReached).reply }
unfolding cause_text
unreached_as_told setting session it node name work need = refused_as_told setting session it name work (unreached node) NotReached need refl

pub list_unreached_as_told : (setting : Setting) (session : Sess) (it : Command) (listing : Listing) → need_of setting session it ≡ Names listing
    → list_refused session
    ≡ record { session = session_after session (refused_for session it NotReached).session; reply = (refused_for session it NotReached).reply }
list_unreached_as_told setting session it listing need =
    ap (λ (turn : Turn). record { session = session_after session turn.session; reply = turn.reply }) (sym (refused_list setting session it listing NotReached need))
