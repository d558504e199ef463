-- Which bytes are a schedule, of which events; and which line is the first bad one, where they are none.
use Rattle.std.specs.Prelude.{◌≡◌, ℕ, ◌+◌, ◌^◌, ◌<◌, ◌≤◌, ⊤, ◌⊎◌, List, [], ◌∷◌, ◌++◌, length, Result, MatchResult}
use Rattle.mur_config.specs.declared.config.Config.{Config}
use Rattle.schedule_text.specs.declared.event.Event.{Event}
use Rattle.schedule_text.specs.declared.schedule.fault.ScheduleError.{ScheduleError}
use Rattle.schedule_text.specs.declared.schedule.fault.ScheduleError.TheVariants.{Refused, Memory}
use Rattle.schedule_text.specs.MayFollow.{MayFollow, AllMayFollow}
use Rattle.schedule_text.specs.Spelled.{AreLinesOf, IsSpelledBy, IsPassedOver, AreSpelledBy, SpellEvents}

-- the bytes spell these events, which may follow one another
pub record IsSchedule (config : Config) (bytes : List ℕ) (events : List Event) : Type 0 where
  pub short : length bytes ≤ 2 ^ 28
  pub spell : SpellEvents bytes events
  pub follow : AllMayFollow config [] events

-- behind these events stands neither an event that may follow them, nor a line that is passed over
pub record IsBadLine (config : Config) (before : List Event) (line : List ℕ) : Type 0 where
  pub counts : IsPassedOver line → ⊥
  pub none : (event : Event) → IsSpelledBy line event → MayFollow config before event → ⊥

-- the lines are good up to one, counted from 1, which is bad
pub record IsFirstBad (config : Config) (bytes : List ℕ) (number : ℕ) : Type 0 where
  pub before : List (List ℕ)
  pub line : List ℕ
  pub behind : List (List ℕ)
  pub cut : AreLinesOf bytes (before ++ line ∷ behind)
  pub at : number ≡ length before + 1
  pub events : List Event
  pub spelled : AreSpelledBy before events
  pub follow : AllMayFollow config [] events
  pub bad : IsBadLine config events line

-- why bytes are refused at a line: they are too many, which is told of line 0, or it is the first bad one
abbrev pub IsRefusedAt : Config → List ℕ → ℕ → Type 0
IsRefusedAt config bytes number = ((2 ^ 28 < length bytes) × (number ≡ 0)) ⊎ ((length bytes ≤ 2 ^ 28) × IsFirstBad config bytes number)

-- bytes that are refused are a schedule of no events, and their line is told
pub record IsNoSchedule (config : Config) (bytes : List ℕ) (number : ℕ) : Type 0 where
  pub cause : IsRefusedAt config bytes number
  pub none : (events : List Event) → IsSchedule config bytes events → ⊥

-- a refusal has its cause; memory may be wanting at any time
abbrev pub HasCause : Config → List ℕ → ScheduleError → Type 0
HasCause config bytes (Refused fault) = IsNoSchedule config bytes fault.line
HasCause config bytes Memory = ⊤

-- these events are read, unless memory is wanting
abbrev pub IsReadAsEvents : List Event → Result (List Event) ScheduleError → Type 0
IsReadAsEvents events result = MatchResult result (λ found. found ≡ events) (λ why. why ≡ Memory)
