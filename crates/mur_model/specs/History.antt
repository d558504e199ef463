-- When a history is legal: one store that takes the requests of its points one at a time gave their answers. It speaks of
-- what each connection's client asked and was answered, as lists, and of no byte and no node.
use Rattle.std.specs.Prelude.{◌≡◌, ℕ, suc, zero, ◌<◌, ◌≤◌, Bool, true, false, ◌&&◌, ◌==◌, if◌then◌else◌, List, [], ◌∷◌, ◌++◌, length, count_by, Option, None}
use Rattle.std.specs.Prelude.{Some, All, AllPairs, slice_get}
use Rattle.mur_base.specs.declared.point.Point.{Point}
use Rattle.mur_base.specs.declared.point.What.{What}
use Rattle.mur_base.specs.declared.point.What.TheVariants.{Reply as replied, Read as read, Lost as lost, Reserved as reserved, Unreached as unreached}
use Rattle.imap_types.specs.declared.command.Command.{Command}
use Rattle.imap_types.specs.declared.command.Tag.{Tag}
use Rattle.imap_types.specs.declared.reply.NoText.{NoText}
use Rattle.imap_types.specs.declared.request.Answer.{Answer}
use Rattle.imap_types.specs.declared.request.Request.{Request}
use Rattle.imap_types.specs.declared.request.Request.TheVariants.{Command as a_command}
use Rattle.mur_model.specs.declared.session.Sess.{Sess}
use Rattle.mur_model.specs.declared.setting.Setting.{Setting}
use Rattle.mur_model.specs.declared.store.Store.{Store}
use Rattle.mur_model.specs.Act.{need_of}
use Rattle.mur_model.specs.Answer.{Answered, answer_of, MayTake}
use Rattle.mur_model.specs.Relocation.{MayBeRefused, after_refusal, cause_text}

-- the one store and the sessions of all connections, between two points
pub record Course : Type 0 where
  pub store : Store
  pub sessions : ℕ → Sess

-- of each connection what its client asked and was answered, and the UIDVALIDITY that each request had for the mailbox that
-- it might make; and behind each step which mailboxes are being moved
pub record Talk : Type 0 where
  pub requests : ℕ → List Request
  pub answers : ℕ → List Answer
  pub serials : ℕ → List ℕ
  pub moving : ℕ → List ℕ → Bool

-- the lists of the one are those of the other and more
pub record GoesOn {T : Type 0} (lists longer : ℕ → List T) : Type 0 where
  pub more : ℕ → List T
  pub parts : (conn : ℕ) → longer conn ≡ lists conn ++ more conn

-- all of a talk stands in front of a longer one
pub record TalkGoesOn (talk longer : Talk) : Type 0 where
  pub requests : GoesOn talk.requests longer.requests
  pub answers : GoesOn talk.answers longer.answers
  pub serials : GoesOn talk.serials longer.serials
  pub moving : longer.moving ≡ talk.moving

-- the sessions with another one at a connection
unfoldable pub with_session : (ℕ → Sess) → ℕ → Sess → ℕ → Sess
with_session sessions conn session other = if other == conn then session else sessions other

-- what a request of a connection leaves
abbrev pub course_after : Course → ℕ → Answered → Course
course_after course conn answered = record { store = answered.store; sessions = with_session course.sessions conn answered.session }

-- a request of a connection, carried out with this UIDVALIDITY
abbrev pub carried_out : Setting → Course → ℕ → Request → ℕ → Answered
carried_out setting course conn request serial = answer_of setting course.store (course.sessions conn) request serial

-- the one of this number, from 1
unfoldable pub numbered : {T : Type 0} → List T → ℕ → Option T
numbered items zero = None
numbered items (suc number) = slice_get items number

-- a request by its number, which may be carried out with the UIDVALIDITY that it had
pub record Takes (setting : Setting) (talk : Talk) (course : Course) (conn number : ℕ) (request : Request) (serial : ℕ) : Type 0 where
  pub asked : numbered (talk.requests conn) number ≡ Some request
  pub given : numbered (talk.serials conn) number ≡ Some serial
  pub free : MayTake setting course.store (course.sessions conn) request serial

-- a command of a connection, refused for its mailbox's move or for a server
abbrev pub refused_out : Course → ℕ → Tag → Command → NoText → Answered
refused_out course conn tag it why = after_refusal course.store (course.sessions conn) tag it why

-- a command by its number, which is refused in this step for the cause that its point tells: `reserved` for a mailbox that is being moved then,
-- `unreached` for a server that has what the command needs
pub record IsRefused (setting : Setting) (talk : Talk) (course : Course) (step conn number : ℕ) (tag : Tag) (it : Command) (what : What) (why : NoText) : Type 0 where
  pub asked : numbered (talk.requests conn) number ≡ Some (a_command tag it)
  pub cause : cause_text what ≡ Some why
  pub may : MayBeRefused talk.moving step what (need_of setting (course.sessions conn) it)

abbrev pub point_of : ℕ → ℕ → ℕ → What → Point
point_of step conn number what = record { step = step; ask = record { conn = conn; command = number }; what = what }

-- the points, one after another, lead the store and the sessions from one state to another. A `reply` point carries out its
-- request, and the request's answer is this step's. A `lost` point carries it out and gives no answer. A `reserved` or `unreached` point refuses its
-- command, whose answer says so.
pub data Follows (setting : Setting) (talk : Talk) : Course → List Point → Course → Type 0 where
  no_points : (course : Course) → Follows setting talk course [] course
  a_reply : (course last : Course) (step conn number : ℕ) (request : Request) (serial : ℕ) (points : List Point)
      → Takes setting talk course conn number request serial
      → numbered (talk.answers conn) number ≡ Some (carried_out setting course conn request serial).answer
      → Follows setting talk (course_after course conn (carried_out setting course conn request serial)) points last
      → Follows setting talk course (point_of step conn number replied ∷ points) last
  a_loss : (course last : Course) (step conn number : ℕ) (request : Request) (serial : ℕ) (points : List Point)
      → Takes setting talk course conn number request serial
      → Follows setting talk (course_after course conn (carried_out setting course conn request serial)) points last
      → Follows setting talk course (point_of step conn number lost ∷ points) last
  a_refusal : (course last : Course) (step conn number : ℕ) (tag : Tag) (it : Command) (what : What) (why : NoText) (points : List Point)
      → IsRefused setting talk course step conn number tag it what why
      → numbered (talk.answers conn) number ≡ Some (refused_out course conn tag it why).answer
      → Follows setting talk (course_after course conn (refused_out course conn tag it why)) points last
      → Follows setting talk course (point_of step conn number what ∷ points) last

-- `reply` and both kinds of `refused` answer their command
unfoldable pub answers_its_command : What → Bool
answers_its_command replied = true
answers_its_command reserved = true
answers_its_command (unreached node) = true
answers_its_command _ = false

unfoldable pub loses : What → Bool
loses lost = true
loses _ = false

unfoldable pub reads : What → Bool
reads read = true
reads _ = false

-- whether a point is of this command, and such a one
abbrev pub is_about : (What → Bool) → ℕ → ℕ → Point → Bool
is_about kind conn number point = kind point.what && (point.ask.conn == conn) && (point.ask.command == number)

-- two points of one connection stand in the order of their commands
abbrev pub IsInCommandOrder : Point → Point → Type 0
IsInCommandOrder earlier later = earlier.ask.conn ≡ later.ask.conn → earlier.ask.command ≤ later.ask.command

-- no point of a connection stands behind one of its losses
abbrev pub EndsAtLoss : Point → Point → Type 0
EndsAtLoss earlier later = loses earlier.what ≡ true → earlier.ask.conn ≡ later.ask.conn → ⊥

-- a command that is lost in a point has no answer
abbrev pub IsUnanswered : Talk → Point → Type 0
IsUnanswered talk point = loses point.what ≡ true → length (talk.answers point.ask.conn) < point.ask.command

-- a history that leads from one state to another is legal for what each connection's client asked and was answered
pub record IsLegal (setting : Setting) (first : Course) (talk : Talk) (points : List Point) (last : Course) : Type 0 where
  -- each answer is that of its point's step, and each new UIDVALIDITY is free
  pub follows : Follows setting talk first points last
  -- an answered command has exactly one point that answers it
  pub answered_once : (conn number : ℕ) → 0 < number → number ≤ length (talk.answers conn) → count_by (is_about answers_its_command conn number) points ≡ 1
  -- a lost command was never answered, has at most one point, and its connection has none behind it: its session has ended
  pub lost_unanswered : All (IsUnanswered talk) points
  pub lost_once : (conn number : ℕ) → count_by (is_about loses conn number) points ≤ 1
  pub lost_last : AllPairs EndsAtLoss points
  -- a `read` belongs to a command that appends later what was read, and no command does
  pub never_read : All (λ (point : Point). reads point.what ≡ false) points
  -- the points of one connection stand in the order of its commands
  pub in_order : AllPairs IsInCommandOrder points
