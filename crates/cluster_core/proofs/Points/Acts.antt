-- What a step does for a command that has no reply: it carries it out, sees it, or leaves it; and what its new place tells then.
use Rattle.std.proofs.Common.{◌≡◌, ℕ, ◌+◌, List, [], ◌∷◌, ◌++◌, length, Some, refl, sym, ◌∙◌, ap, subst, arith, length-append}
use Rattle.imap_talk.proofs.AnswersEnd.{worked_ends}
use Rattle.imap_types.specs.declared.command.Command.{Command}
use Rattle.imap_types.specs.declared.command.Tag.{Tag}
use Rattle.imap_types.specs.declared.request.Answer.{Answer}
use Rattle.imap_types.specs.declared.request.Request.{Request}
use Rattle.imap_types.specs.declared.request.Request.TheVariants.{Command as a_command}
use Rattle.link_msg.specs.declared.counts.Counts.{Counts}
use Rattle.link_msg.specs.declared.counts.Counts.TheVariants.{IfAnswered}
use Rattle.link_queue.specs.Broken.{Broken}
use Rattle.mark_history.specs.Marked.{Tale, acting, done, open_ask, with_list}
use Rattle.mark_history.specs.declared.mark.Mark.{Mark}
use Rattle.mark_history.specs.declared.mark.MarkKind.TheVariants.{Home}
use Rattle.mark_history.proofs.TakenBack.{list_at, list_elsewhere}
use Rattle.mark_history.proofs.MarkLaw.{more_listed}
use Rattle.mur_base.specs.declared.point.AskId.{AskId}
use Rattle.mur_model.specs.declared.session.Sess.{Sess}
use Rattle.mur_model.specs.declared.session.Turn.{Turn}
use Rattle.mur_model.specs.declared.setting.Setting.{Setting}
use Rattle.mur_model.specs.declared.store.Store.{Store}
use Rattle.mur_model.specs.Act.{MayAct, MayWork, act_by, act_of, need_of, session_after, worked_at}
use Rattle.mur_model.specs.Answer.{Answered, MayTake, answer_of}
use Rattle.mur_model.specs.History.{Course, GoesOn, carried_out, numbered}
use Rattle.mur_model.specs.Left.{kept, store_after}
use Rattle.mur_model.specs.Needed.{Mailbox, Work}
use Rattle.mur_model.proofs.HistoryGrows.{item_more, same_lists}
use Rattle.point_links.specs.Carried.{CarriesOut, turn_at}
use Rattle.point_links.specs.Commands.{ClientCommand}
use Rattle.cluster_core.proofs.Commands.AllReached.{AreMarkedSo, carries_out, sees}
use Rattle.cluster_core.proofs.Commands.Knows.{Brings, Knows, Undecided}
use Rattle.cluster_core.proofs.Commands.Knows.Knows.{is_decided, undecided}
use Rattle.cluster_core.proofs.Commands.Place.{Place}
use Rattle.cluster_core.proofs.Commands.Standing.{Fixed, next_id}
use Rattle.cluster_core.proofs.Connections.ConnectionLaw.{GoesOnAt, session_at, session_of_other}

-- a command of a connection, which the one store hasn't replied to, in a tale up to this step
pub record IsOpen (fixed : Fixed) (conn : ℕ) (broken : Broken) (now : ℕ) (marks : List Mark) (story : Tale) (tag : Tag) (c : ClientCommand) : Type 0 where
  pub is_told : AreMarkedSo fixed.setting broken now marks story
  pub setting_is : c.setting ≡ fixed.setting
  pub its : c.id ≡ next_id conn (story.told conn)
  pub was_is : c.was ≡ story.course.sessions conn
  pub asked : numbered (story.talk.requests conn) (length (story.told conn) + 1) ≡ Some (a_command tag c.it)
  pub said : story.talk.answers conn ≡ story.told conn

-- what its place tells, by a tale
abbrev pub KnowsOf : Fixed → List ℕ → ℕ → Tag → ClientCommand → Tale → Place → Type 0
KnowsOf fixed front conn tag c story here =
    Knows fixed.master fixed.first front c tag (story.told conn) (story.talk.answers conn) (story.course.sessions conn) here

-- this step counts for it
abbrev pub home_mark : ℕ → AskId → Counts → Mark
home_mark now id counts = record { step = now; ask = id; kind = Home counts }

-- the store replies to it
abbrev pub acted_on : Fixed → Tale → ℕ → Tag → ClientCommand → ℕ → Tale
acted_on fixed story conn tag c serial = acting fixed.setting story conn (a_command tag c.it) serial

-- the step is its point: the store carries it out, and its place tells its client's reply
pub record IsCarriedOut (fixed : Fixed) (front : List ℕ) (conn : ℕ) (broken : Broken) (now : ℕ) (marks : List Mark) (story : Tale) (tag : Tag) (c : ClientCommand) (later : Store)
    (counts : Counts) (here : Place) : Type 0 where
  pub serial : ℕ
  pub is_told : AreMarkedSo fixed.setting broken now (marks ++ home_mark now c.id counts ∷ []) (acted_on fixed story conn tag c serial)
  pub store : (acted_on fixed story conn tag c serial).course.store ≡ later
  pub goes_on : GoesOnAt conn story (acted_on fixed story conn tag c serial)
  -- the session before its reply is that of then
  pub before : (acted_on fixed story conn tag c serial).before conn ≡ c.was
  pub knows : KnowsOf fixed front conn tag c (acted_on fixed story conn tag c serial) here

-- the step sees it, and does nothing
pub record IsSeen (fixed : Fixed) (front : List ℕ) (conn : ℕ) (broken : Broken) (now : ℕ) (marks : List Mark) (story : Tale) (tag : Tag) (c : ClientCommand) (here : Place)
    : Type 0 where
  pub is_told : AreMarkedSo fixed.setting broken now (marks ++ home_mark now c.id IfAnswered ∷ []) story
  pub said : story.talk.answers conn ≡ story.told conn
  pub knows : KnowsOf fixed front conn tag c story here

-- ---- the request that is carried out

abbrev needs_so : Setting → Course → ℕ → Command → List ℕ → Work → Type 0
needs_so setting course conn it name work = need_of setting (course.sessions conn) it ≡ Mailbox name work

carried_as : (setting : Setting) (course : Course) (conn : ℕ) (tag : Tag) (it : Command) (name : List ℕ) (work : Work) (serial : ℕ)
    → needs_so setting course conn it name work
    → carried_out setting course conn (a_command tag it) serial
    ≡ record {
      store = store_after course.store name (worked_at course.store name work serial).left;
      session = session_after (course.sessions conn) ((worked_at course.store name work serial).turn).session;
      answer = record { tag = tag; reply = ((worked_at course.store name work serial).turn).reply };
    }
unfolding answer_of act_of act_by
carried_as setting course conn tag it name work serial need = rw need refl

may_take : (setting : Setting) (course : Course) (conn : ℕ) (tag : Tag) (it : Command) (name : List ℕ) (work : Work) (serial : ℕ)
    → needs_so setting course conn it name work → MayWork course.store name serial work
    → MayTake setting course.store (course.sessions conn) (a_command tag it) serial
unfolding MayTake MayAct
may_take setting course conn tag it name work serial need free = subst (λ n. MayAct course.store serial n) (sym need) free

-- the store is as it was where the work leaves its mailbox as it was
same_store : (setting : Setting) (course : Course) (conn : ℕ) (tag : Tag) (it : Command) (name : List ℕ) (work : Work) (serial : ℕ)
    → needs_so setting course conn it name work
    → (worked_at course.store name work serial).left ≡ kept → (carried_out setting course conn (a_command tag it) serial).store ≡ course.store
unfolding store_after
same_store setting course conn tag it name work serial need left =
    ap (λ (a : Answered). a.store) (carried_as setting course conn tag it name work serial need) ∙ ap (store_after course.store name) left

-- one more at one connection
list_more : (lists : ℕ → List ℕ) (conn item : ℕ) → GoesOn lists (with_list lists conn (lists conn ++ item ∷ []))
list_more lists conn item = subst (λ (l : ℕ → List ℕ). GoesOn lists l) (more_listed lists (lists conn) conn item refl) (item_more lists conn item)

-- the store replies to the open command of one connection
pub acting_goes_on : (setting : Setting) (conn : ℕ) (story : Tale) (request : Request) (serial : ℕ)
    → story.talk.answers conn ≡ story.told conn → GoesOnAt conn story (acting setting story conn request serial)
acting_goes_on setting conn story request serial unreplied = record {
  requests = refl;
  said = λ other ne. list_elsewhere story.talk.answers conn (story.told conn ++ (done setting story conn request serial).answer ∷ []) other ne;
  grows = omega (
    arith,
    ap length unreplied,
    ap length (list_at story.talk.answers conn (story.told conn ++ (done setting story conn request serial).answer ∷ [])),
    length-append (story.told conn) ((done setting story conn request serial).answer ∷ []),
  );
  told = λ other ne. refl;
  sessions = λ other ne. session_of_other story.course.sessions conn _ other ne;
  before = λ other ne. session_of_other story.before conn (story.course.sessions conn) other ne;
  more = record {
    requests = same_lists story.talk.requests;
    answers = same_lists story.told;
    serials = list_more story.talk.serials conn serial;
    moving = refl;
  };
}

module _ (fixed : Fixed) (front : List ℕ) (conn : ℕ) (broken : Broken) (now : ℕ) (marks : List Mark) (story : Tale) (tag : Tag) (c : ClientCommand)
    (is_open : IsOpen fixed conn broken now marks story tag c) where
  need_is : needs_so fixed.setting story.course conn c.it c.name c.work
  need_is =
      ap (λ (s : Setting). need_of s (story.course.sessions conn) c.it) (sym is_open.setting_is)
      ∙ ap (λ (was : Sess). need_of c.setting was c.it) (sym is_open.was_is) ∙ c.need

  -- the mark is the command's
  as_its : (counts : Counts) (later : Tale)
      → AreMarkedSo fixed.setting broken now (marks ++ home_mark now (open_ask story conn) counts ∷ []) later
      → AreMarkedSo fixed.setting broken now (marks ++ home_mark now c.id counts ∷ []) later
  as_its counts later are =
      subst (λ (id : AskId). AreMarkedSo fixed.setting broken now (marks ++ home_mark now id counts ∷ []) later) (sym is_open.its) are

  -- ---- it is carried out

  module _ (serial : ℕ) where
    abbrev acted : Tale
    acted = acted_on fixed story conn tag c serial

    abbrev answer : Answer
    answer = (done fixed.setting story conn (a_command tag c.it) serial).answer

    abbrev turn : Turn
    turn = turn_at story.course.store c.name c.work serial

    out : carried_out fixed.setting story.course conn (a_command tag c.it) serial
        ≡ record {
          store = store_after story.course.store c.name (worked_at story.course.store c.name c.work serial).left;
          session = session_after (story.course.sessions conn) turn.session;
          answer = record { tag = tag; reply = turn.reply };
        }
    out = carried_as fixed.setting story.course conn tag c.it c.name c.work serial need_is

    said_then : acted.talk.answers conn ≡ story.told conn ++ (record { tag = tag; reply = turn.reply }) ∷ []
    said_then = list_at story.talk.answers conn (story.told conn ++ answer ∷ []) ∙ ap (λ (a : Answered). story.told conn ++ a.answer ∷ []) out

    session_then : acted.course.sessions conn ≡ session_after c.was turn.session
    session_then =
        session_at story.course.sessions conn _ ∙ ap (λ (a : Answered). a.session) out
        ∙ ap (λ (was : Sess). session_after was turn.session) (sym is_open.was_is)

    pub carried_so : (later : Store) (counts : Counts) (here : Place) → CarriesOut story.course.store later c.name c.work serial counts
        → Brings fixed.master fixed.first front c here turn → IsCarriedOut fixed front conn broken now marks story tag c later counts here
    carried_so later counts here carries brings = record {
      serial = serial;
      is_told = as_its counts acted (carries_out now marks story conn counts (a_command tag c.it) serial
          (record {
            unreplied = is_open.said;
            asked = is_open.asked;
            free = may_take fixed.setting story.course conn tag c.it c.name c.work serial need_is carries.free;
          })
          (λ if_answered. same_store fixed.setting story.course conn tag c.it c.name c.work serial need_is (carries.stays if_answered))
          is_open.is_told);
      store = ap (λ (a : Answered). a.store) out ∙ sym carries.later_is;
      goes_on = acting_goes_on fixed.setting conn story (a_command tag c.it) serial is_open.said;
      before = session_at story.before conn (story.course.sessions conn) ∙ sym is_open.was_is;
      knows = is_decided turn said_then session_then (worked_ends story.course.store c.name c.work serial) brings;
    }

  -- ---- it isn't

  pub known_so : (here : Place) → Undecided fixed.master fixed.first front c here → KnowsOf fixed front conn tag c story here
  known_so here tells = undecided is_open.said is_open.was_is tells

  pub seen_so : (here : Place) → Undecided fixed.master fixed.first front c here → IsSeen fixed front conn broken now marks story tag c here
  seen_so here tells = record {
    is_told = as_its IfAnswered story (sees now marks story conn (a_command tag c.it) is_open.said is_open.asked is_open.is_told);
    said = is_open.said;
    knows = known_so here tells;
  }
