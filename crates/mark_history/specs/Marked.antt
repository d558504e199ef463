-- How marks come about. Of each connection the first command that its client wasn't told of is open: steps see it, and one may act on it. What a step did
-- on condition that the client is told may be taken back as long as it isn't; then others see the command, or one acts on it anew. A command that was
-- only seen may be refused, as its mailbox is being moved; the step that saw it last is then its point. One without a reply may be refused as a node isn't
-- reached; that is a step of its own. Of a command of which its client was told, a later step may see what is left of it on a link.
use Rattle.std.specs.Prelude.{◌≡◌, ℕ, ◌+◌, ◌≤◌, ◌==◌, Bool, if◌then◌else◌, List, [], ◌∷◌, ◌++◌, length, take, Option, None, Some}
use Rattle.imap_types.specs.declared.command.Command.{Command}
use Rattle.imap_types.specs.declared.command.Tag.{Tag}
use Rattle.imap_types.specs.declared.reply.NoText.{NoText}
use Rattle.imap_types.specs.declared.reply.NoText.TheVariants.{BeingMoved, NotReached}
use Rattle.imap_types.specs.declared.request.Answer.{Answer}
use Rattle.imap_types.specs.declared.request.Request.{Request}
use Rattle.link_msg.specs.declared.counts.Counts.{Counts}
use Rattle.link_msg.specs.declared.counts.Counts.TheVariants.{IfAnswered}
use Rattle.link_msg.specs.declared.how.How.TheVariants.{Here, Behind, Reserved, Unreached}
use Rattle.mur_base.specs.declared.point.AskId.{AskId}
use Rattle.mur_base.specs.declared.point.Point.{Point}
use Rattle.mur_base.specs.declared.point.What.TheVariants.{Reserved as reserved, Unreached as unreached}
use Rattle.mur_model.specs.declared.session.Sess.{Sess}
use Rattle.mur_model.specs.declared.setting.Setting.{Setting}
use Rattle.mur_model.specs.declared.store.Store.{Store}
use Rattle.mur_model.specs.Answer.{Answered, MayTake, NeedsNoStore}
use Rattle.mur_model.specs.History.{Course, Talk, GoesOn, IsLegal, IsRefused, numbered, carried_out, course_after, refused_out, with_session}
use Rattle.mark_history.specs.declared.mark.Mark.{Mark}
use Rattle.mark_history.specs.declared.mark.MarkKind.{MarkKind}
use Rattle.mark_history.specs.declared.mark.MarkKind.TheVariants.{Home, Told}
use Rattle.mark_history.specs.FirstCourse.{first_course}
use Rattle.mark_history.specs.History.{is_of, points_of}

-- what marks are of: what the clients asked and were replied, and what they were told of that; the store and all sessions; and of each connection the
-- session before its last reply
pub record Tale : Type 0 where
  pub talk : Talk
  pub told : ℕ → List Answer
  pub course : Course
  pub before : ℕ → Sess

-- another list at a connection
unfoldable pub with_list : {T : Type 0} → (ℕ → List T) → ℕ → List T → ℕ → List T
with_list lists conn list other = if other == conn then list else lists other

abbrev pub first_tale : (ℕ → List ℕ → Bool) → Tale
first_tale moving = record {
  talk = record { requests = λ _. []; answers = λ _. []; serials = λ _. []; moving = moving };
  told = λ _. [];
  course = first_course;
  before = first_course.sessions;
}

-- more was asked
abbrev pub talk_asking : Talk → (ℕ → List Request) → Talk
talk_asking talk requests = record { requests = requests; answers = talk.answers; serials = talk.serials; moving = talk.moving }

abbrev pub asking : Tale → (ℕ → List Request) → Tale
asking tale requests = record tale { talk = talk_asking tale.talk requests }

-- the open command of a connection
abbrev pub open_ask : Tale → ℕ → AskId
open_ask tale conn = record { conn = conn; command = length (tale.told conn) + 1 }

abbrev pub mark_now : ℕ → Tale → ℕ → MarkKind → Mark
mark_now now tale conn kind = record { step = now; ask = open_ask tale conn; kind = kind }

-- it has no reply
abbrev pub IsUnreplied : Tale → ℕ → Type 0
IsUnreplied tale conn = tale.talk.answers conn ≡ tale.told conn

-- it has a reply, of which its client wasn't told
abbrev pub IsUntold : Tale → ℕ → Answer → Type 0
IsUntold tale conn answer = tale.talk.answers conn ≡ tale.told conn ++ answer ∷ []

-- what a mark says of a command, if it is of it; else what an earlier one says
abbrev pub said_by : AskId → Mark → Option MarkKind → Option MarkKind
said_by ask mark earlier = if is_of ask mark then Some mark.kind else earlier

-- the last of these marks that is of the command
unfoldable pub last_from : AskId → Option MarkKind → List Mark → Option MarkKind
last_from ask earlier [] = earlier
last_from ask earlier (mark ∷ marks) = last_from ask (said_by ask mark earlier) marks

abbrev pub last_of : AskId → List Mark → Option MarkKind
last_of ask marks = last_from ask None marks

-- and that mark itself
unfoldable pub last_mark_from : AskId → Option Mark → List Mark → Option Mark
last_mark_from ask earlier [] = earlier
last_mark_from ask earlier (mark ∷ marks) = last_mark_from ask (if is_of ask mark then Some mark else earlier) marks

abbrev pub last_mark : AskId → List Mark → Option Mark
last_mark ask marks = last_mark_from ask None marks

-- the open command was asked, and may be carried out with this UIDVALIDITY
pub record CanAct (setting : Setting) (tale : Tale) (conn : ℕ) (request : Request) (serial : ℕ) : Type 0 where
  pub unreplied : IsUnreplied tale conn
  pub asked : numbered (tale.talk.requests conn) (length (tale.told conn) + 1) ≡ Some request
  pub free : MayTake setting tale.course.store (tale.course.sessions conn) request serial

abbrev pub done : Setting → Tale → ℕ → Request → ℕ → Answered
done setting tale conn request serial = carried_out setting tale.course conn request serial

-- the store replies to the open command
abbrev pub acting : Setting → Tale → ℕ → Request → ℕ → Tale
acting setting tale conn request serial = record {
  talk = record {
    requests = tale.talk.requests;
    answers = with_list tale.talk.answers conn (tale.told conn ++ (done setting tale conn request serial).answer ∷ []);
    serials = with_list tale.talk.serials conn (tale.talk.serials conn ++ serial ∷ []);
    moving = tale.talk.moving;
  };
  told = tale.told;
  course = course_after tale.course conn (done setting tale conn request serial);
  before = with_session tale.before conn (tale.course.sessions conn);
}

-- its client is told
abbrev pub telling : Tale → ℕ → Answer → Tale
telling tale conn answer = record tale { told = with_list tale.told conn (tale.told conn ++ answer ∷ []) }

-- its reply is taken back: its connection's session is the one before it, and the store stays
abbrev pub taking_back : Tale → ℕ → Tale
taking_back tale conn = record {
  talk = record {
    requests = tale.talk.requests;
    answers = with_list tale.talk.answers conn (tale.told conn);
    serials = with_list tale.talk.serials conn (take (length (tale.told conn)) (tale.talk.serials conn));
    moving = tale.talk.moving;
  };
  told = tale.told;
  course = record { store = tale.course.store; sessions = with_session tale.course.sessions conn (tale.before conn) };
  before = tale.before;
}

-- the open command was asked and has no reply, and may be refused since its mailbox was being moved in the step that saw it last
pub record CanRefuse (setting : Setting) (marks : List Mark) (tale : Tale) (conn : ℕ) (tag : Tag) (it : Command) : Type 0 where
  pub unreplied : IsUnreplied tale conn
  pub step : ℕ
  pub saw : last_mark (open_ask tale conn) marks ≡ Some (record { step = step; ask = open_ask tale conn; kind = Home IfAnswered })
  pub refused : IsRefused setting tale.talk tale.course step conn (length (tale.told conn) + 1) tag it reserved BeingMoved

-- the open command was asked and has no reply, and may be refused in this step since this node isn't reached
pub record CanRefuseNow (setting : Setting) (tale : Tale) (now conn : ℕ) (tag : Tag) (it : Command) (node : List ℕ) : Type 0 where
  pub unreplied : IsUnreplied tale conn
  pub refused : IsRefused setting tale.talk tale.course now conn (length (tale.told conn) + 1) tag it (unreached node) NotReached

abbrev pub refusal : Tale → ℕ → Tag → Command → NoText → Answered
refusal tale conn tag it why = refused_out tale.course conn tag it why

-- the open command is refused: the store stays. A UIDVALIDITY was given to it, too, of which nothing comes.
abbrev pub refusing : Tale → ℕ → Tag → Command → NoText → ℕ → Tale
refusing tale conn tag it why serial = record {
  talk = record {
    requests = tale.talk.requests;
    answers = with_list tale.talk.answers conn (tale.told conn ++ (refusal tale conn tag it why).answer ∷ []);
    serials = with_list tale.talk.serials conn (tale.talk.serials conn ++ serial ∷ []);
    moving = tale.talk.moving;
  };
  told = tale.told;
  course = course_after tale.course conn (refusal tale conn tag it why);
  before = with_session tale.before conn (tale.course.sessions conn);
}

-- up to a step these marks are made, and are of this
pub data AreMarked (setting : Setting) : ℕ → List Mark → Tale → Type 0 where
  nothing : (moving : ℕ → List ℕ → Bool) → AreMarked setting 0 [] (first_tale moving)
  a_step : (now next : ℕ) (marks : List Mark) (tale : Tale) → now ≤ next → AreMarked setting now marks tale → AreMarked setting next marks tale
  asks : (now : ℕ) (marks : List Mark) (tale : Tale) (requests : ℕ → List Request) → GoesOn tale.talk.requests requests
      → AreMarked setting now marks tale → AreMarked setting now marks (asking tale requests)
  -- a step sees the open command, which was asked, and does nothing
  sees : (now : ℕ) (marks : List Mark) (tale : Tale) (conn : ℕ) (request : Request) → IsUnreplied tale conn
      → numbered (tale.talk.requests conn) (length (tale.told conn) + 1) ≡ Some request
      → AreMarked setting now marks tale → AreMarked setting now (marks ++ mark_now now tale conn (Home IfAnswered) ∷ []) tale
  -- a step sees a command of which its client was told before: that counts for nothing
  sees_late : (now : ℕ) (marks : List Mark) (tale : Tale) (id : AskId) → id.command ≤ length (tale.told id.conn)
      → AreMarked setting now marks tale → AreMarked setting now (marks ++ (record { step = now; ask = id; kind = Home IfAnswered }) ∷ []) tale
  -- a step carries it out: if that doesn't always count, it leaves the store as it was
  carries_out : (now : ℕ) (marks : List Mark) (tale : Tale) (conn : ℕ) (counts : Counts) (request : Request) (serial : ℕ)
      → CanAct setting tale conn request serial → (counts ≡ IfAnswered → (done setting tale conn request serial).store ≡ tale.course.store)
      → AreMarked setting now marks tale
      → AreMarked setting now (marks ++ mark_now now tale conn (Home counts) ∷ []) (acting setting tale conn request serial)
  -- its client is told of the reply
  tells : (now : ℕ) (marks : List Mark) (tale : Tale) (conn : ℕ) (answer : Answer) → IsUntold tale conn answer
      → AreMarked setting now marks tale
      → AreMarked setting now (marks ++ mark_now now tale conn (Told Behind) ∷ []) (telling tale conn answer)
  -- a step carries it out and tells the client at once: it needs nothing of the store
  tells_at_once : (now : ℕ) (marks : List Mark) (tale : Tale) (conn : ℕ) (request : Request) (serial : ℕ) → CanAct setting tale conn request serial
      → NeedsNoStore setting (tale.course.sessions conn) request → AreMarked setting now marks tale
      → AreMarked setting now (marks ++ mark_now now tale conn (Told Here) ∷ [])
      (telling (acting setting tale conn request serial) conn (done setting tale conn request serial).answer)
  -- the command is refused, and its client is told at once: the step that saw it last is the point
  refuses : (now : ℕ) (marks : List Mark) (tale : Tale) (conn : ℕ) (tag : Tag) (it : Command) (serial : ℕ) → CanRefuse setting marks tale conn tag it
      → AreMarked setting now marks tale
      → AreMarked setting now (marks ++ mark_now now tale conn (Told Reserved) ∷ [])
      (telling (refusing tale conn tag it BeingMoved serial) conn (refusal tale conn tag it BeingMoved).answer)
  -- the command is refused, as a node isn't reached, and its client is told at once: this step is the point
  refuses_at_once : (now : ℕ) (marks : List Mark) (tale : Tale) (conn : ℕ) (tag : Tag) (it : Command) (node : List ℕ) (serial : ℕ)
      → CanRefuseNow setting tale now conn tag it node → AreMarked setting now marks tale
      → AreMarked setting now (marks ++ mark_now now tale conn (Told (Unreached node)) ∷ [])
      (telling (refusing tale conn tag it NotReached serial) conn (refusal tale conn tag it NotReached).answer)
  -- a reply that the client wasn't told of is taken back, if its step doesn't always count
  takes_back : (now : ℕ) (marks : List Mark) (tale : Tale) (conn : ℕ) (answer : Answer) → IsUntold tale conn answer
      → last_of (open_ask tale conn) marks ≡ Some (Home IfAnswered)
      → AreMarked setting now marks tale → AreMarked setting now marks (taking_back tale conn)

-- what the clients asked and were told
abbrev pub talk_told : Tale → Talk
talk_told tale = record { requests = tale.talk.requests; answers = tale.told; serials = tale.talk.serials; moving = tale.talk.moving }

-- the history is legal for what the clients were told, and leads to this store
pub record IsLegalTo (setting : Setting) (talk : Talk) (points : List Point) (store : Store) : Type 0 where
  pub last : Course
  pub same_store : last.store ≡ store
  pub legal : IsLegal setting first_course talk points last

-- whatever was seen, taken back, done anew and refused
abbrev pub MakesLegalHistories : Type 0
MakesLegalHistories = (setting : Setting) (now : ℕ) (marks : List Mark) (tale : Tale) → AreMarked setting now marks tale
    → IsLegalTo setting (talk_told tale) (points_of marks) tale.course.store
