-- A schedule: lines that LF ends (the last may lack it), each an event, a comment, or empty. A CR before LF is dropped.
use Rattle.std.specs.Prelude.{◌≡◌, ℕ, ◌+◌, ⊤, Bool, true, ◌==◌, nat_lt, if◌then◌else◌, List, [], ◌∷◌, ◌++◌, length, Result, Ok, Err}
use Rattle.mur_base.specs.declared.limits.TheConstants.{SCHEDULE_LIMIT}
use Rattle.mur_config.specs.declared.config.Config.{Config}
use Rattle.schedule_text.specs.declared.event.Event.{Event}
use Rattle.schedule_text.specs.declared.schedule.fault.Rule.{Rule}
use Rattle.schedule_text.specs.declared.schedule.fault.Rule.TheVariants.{TooLong}
use Rattle.schedule_text.specs.declared.schedule.fault.SchedFault.{SchedFault}
use Rattle.schedule_text.specs.declared.schedule.fault.ScheduleError.{ScheduleError}
use Rattle.schedule_text.specs.declared.schedule.fault.ScheduleError.TheVariants.{Refused, Memory}
use Rattle.schedule_text.specs.Cuts.{cuts_of, line_in}
use Rattle.schedule_text.specs.ScheduleRules.{◌>>=◌}
use Rattle.schedule_text.specs.ScheduleWords.{split_word, arguments_in}
use Rattle.schedule_text.specs.Words.{word_named, kinds_of}
use Rattle.schedule_text.specs.Rows.{event_in}

-- the number sign
abbrev pub hash : ℕ
hash = 35

-- an empty line, or one that begins with the number sign
unfoldable pub is_passed_over : List ℕ → Bool
is_passed_over [] = true
is_passed_over (first ∷ line) = first == hash

-- the event of a line after these events: its word is tested first, then the count of its arguments, then each argument
unfoldable pub event_of : Config → List Event → List ℕ → Result Event Rule
event_of config before line = do
  word ← word_named (split_word line).word
  arguments ← arguments_in (kinds_of word) (split_word line).rest
  event_in config before word arguments

-- the events with the one of a line, or the line's number and the rule that it breaks
abbrev pub with_event : ℕ → List Event → Result Event Rule → Result (List Event) SchedFault
with_event number before (Ok event) = Ok (before ++ event ∷ [])
with_event number before (Err rule) = Err (record { line = number; why = rule })

-- the events up to a line and with it
unfoldable pub line_read : Config → ℕ → List Event → List ℕ → Result (List Event) SchedFault
line_read config number before line =
    if is_passed_over line then Ok before else with_event number before (event_of config before line)

-- the events up to lines and with them; the first of the lines has this number
unfoldable pub events_from : Config → ℕ → List Event → List (List ℕ) → Result (List Event) SchedFault
events_from config number before [] = Ok before
events_from config number before (piece ∷ pieces) = do
  events ← line_read config number before (line_in piece)
  events_from config (number + 1) events pieces

-- the events of a schedule, or its first fault; a schedule that is too long is refused before its lines are looked at
unfoldable pub schedule_of : Config → List ℕ → Result (List Event) SchedFault
schedule_of config bytes =
    if nat_lt SCHEDULE_LIMIT (length bytes) then Err (record { line = 0; why = TooLong })
    else events_from config 1 [] (cuts_of bytes)

-- a line is taken: the events with it are these, or its fault is named, unless memory is wanting
abbrev pub IsTakenAs : Result (List Event) SchedFault → List Event → Result (Unit {0}) ScheduleError → Type 0
IsTakenAs read events (Ok done) = read ≡ Ok events
IsTakenAs read events (Err (Refused fault)) = read ≡ Err fault
IsTakenAs read events (Err Memory) = ⊤
