-- When the points of a history are: in the order of their steps, each behind its command, and before what its client is told.
use Rattle.std.specs.Prelude.{◌≡◌, ℕ, ◌+◌, ◌≤◌, ◌<◌, true, List, ◌++◌, length, All, AllPairs}
use Rattle.mur_base.specs.declared.point.Point.{Point}
use Rattle.mur_model.specs.declared.setting.Setting.{Setting}
use Rattle.mur_model.specs.History.{loses}
use Rattle.mark_history.specs.declared.mark.Mark.{Mark}
use Rattle.mark_history.specs.History.{points_of}
use Rattle.mark_history.specs.Marked.{AreMarked, Tale}

-- ---- of one moment

-- the steps of the points rise
abbrev pub StepsRise : Type 0
StepsRise = (setting : Setting) (now : ℕ) (marks : List Mark) (tale : Tale) → AreMarked setting now marks tale
    → AllPairs (λ (one other : Point). one.step ≤ other.step) (points_of marks)

-- none is of a later step
abbrev pub NoneIsLater : Type 0
NoneIsLater = (setting : Setting) (now : ℕ) (marks : List Mark) (tale : Tale) → AreMarked setting now marks tale
    → All (λ (point : Point). point.step ≤ now) (points_of marks)

-- a command is lost only as the first of its connection that its client wasn't told of
abbrev pub LosesTheOpen : Type 0
LosesTheOpen = (setting : Setting) (now : ℕ) (marks : List Mark) (tale : Tale) → AreMarked setting now marks tale
    → All (λ (point : Point). loses point.what ≡ true → point.ask.command ≡ length (tale.told point.ask.conn) + 1) (points_of marks)

-- ---- of one moment and a later one

-- the later marks are those of now, and others of later steps
pub record GoOn (now : ℕ) (marks later : List Mark) : Type 0 where
  pub rest : List Mark
  pub parts : later ≡ marks ++ rest
  pub from_now : All (λ (mark : Mark). now < mark.step) rest

-- of what was done up to now the clients had asked
abbrev pub StandsBehindCommand : ℕ → Tale → Point → Type 0
StandsBehindCommand now tale point = point.step ≤ now → point.ask.command ≤ length (tale.talk.requests point.ask.conn)

-- of what they were told by now it was done
abbrev pub StandsBeforeReply : ℕ → Tale → Point → Type 0
StandsBeforeReply now tale point = point.ask.command ≤ length (tale.told point.ask.conn) → point.step ≤ now

pub record AreInTime (now : ℕ) (tale : Tale) (points : List Point) : Type 0 where
  pub behind : All (StandsBehindCommand now tale) points
  pub before : All (StandsBeforeReply now tale) points

-- each point of the later marks
abbrev pub LaterAreInTime : Type 0
LaterAreInTime = (setting : Setting) (now then : ℕ) (marks later : List Mark) (tale whole : Tale) → AreMarked setting now marks tale
    → AreMarked setting then later whole → GoOn now marks later → AreInTime now tale (points_of later)
