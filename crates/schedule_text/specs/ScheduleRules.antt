-- The rules of schedules, and what it means to read by them.
use Rattle.std.specs.Prelude.{◌≡◌, ℕ, ⊤, List, Result, Ok, Err}
use Rattle.schedule_text.specs.declared.event.Event.{Event}
use Rattle.schedule_text.specs.declared.schedule.fault.Rule.{Rule}
use Rattle.schedule_text.specs.declared.schedule.fault.Rule.TheVariants.{UnknownWord, WrongCount, BadNumber, UnknownNode, Connection, TooLong, BadText}
use Rattle.schedule_text.specs.declared.schedule.fault.SchedFault.{SchedFault}
use Rattle.schedule_text.specs.declared.schedule.fault.ScheduleError.{ScheduleError}
use Rattle.schedule_text.specs.declared.schedule.fault.ScheduleError.TheVariants.{Refused, Memory}
use Rattle.schedule_text.specs.declared.schedule.fault.LineError.{LineError}
use Rattle.schedule_text.specs.declared.schedule.fault.LineError.TheVariants.{Broken, Memory as no_room}

unfoldable pub schedule_rule_number : Rule → ℕ
schedule_rule_number UnknownWord = 1
schedule_rule_number WrongCount = 2
schedule_rule_number BadNumber = 3
schedule_rule_number UnknownNode = 4
schedule_rule_number Connection = 5
schedule_rule_number TooLong = 6
schedule_rule_number BadText = 7

-- one step after another, as far as none breaks a rule
infixl 10 ◌>>=◌
abbrev pub ◌>>=◌ : {A B E : Type 0} → Result A E → (A → Result B E) → Result B E
Ok found >>= next = next found
Err fault >>= next = Err fault

-- a part of a line is read as what it is, or its rule is named, unless memory is wanting
abbrev pub IsReadByRule : {A : Type 0} → Result A Rule → Result A LineError → Type 0
IsReadByRule read (Ok found) = read ≡ Ok found
IsReadByRule read (Err (Broken rule)) = read ≡ Err rule
IsReadByRule read (Err no_room) = ⊤

-- a schedule is read as its events, or its fault is named, unless memory is wanting
abbrev pub IsReadAsSchedule : Result (List Event) SchedFault → Result (List Event) ScheduleError → Type 0
IsReadAsSchedule read (Ok events) = read ≡ Ok events
IsReadAsSchedule read (Err (Refused fault)) = read ≡ Err fault
IsReadAsSchedule read (Err Memory) = ⊤
