-- The events that a schedule gives weigh no more than its bytes, and the numbers of their connections have 64 bits.
use Rattle.std.proofs.Common.{◌≡◌, ℕ, ◌+◌, ◌*◌, ◌^◌, ◌<◌, ◌≤◌, Bool, true, false, nat_lt, List, [], ◌∷◌, ◌++◌, length, sum_by, Result, Ok, Err}
use Rattle.std.proofs.Common.{refl, subst, arith}
use Rattle.std.specs.List.{AllByRecursion}
use Rattle.mur_base.specs.declared.limits.TheConstants.{SCHEDULE_LIMIT}
use Rattle.schedule_text.proofs.RowLaws.{event_is}
use Rattle.schedule_text.proofs.Shortens.{line_shortens, lengths-cuts}
use Rattle.schedule_text.proofs.Steps.{both}
use Rattle.std.proofs.lemmas.List.Sums.{sum_by-cons}
use Rattle.mur_config.specs.declared.config.Config.{Config}
use Rattle.schedule_text.specs.declared.event.Event.{Event}
use Rattle.schedule_text.specs.declared.schedule.fault.Rule.{Rule}
use Rattle.schedule_text.specs.declared.schedule.fault.Rule.TheVariants.{TooLong}
use Rattle.schedule_text.specs.declared.schedule.fault.SchedFault.{SchedFault}
use Rattle.schedule_text.specs.Brings.{steps_of, steps_of_all, bytes_brought, bytes_of_all}
use Rattle.schedule_text.specs.Cuts.{cuts_of, line_in}
use Rattle.schedule_text.specs.Schedule.{event_of, with_event, line_read, events_from, schedule_of, is_passed_over}
use Rattle.schedule_text.specs.ScheduleFits.{FitSchedule, HasConnNumber}

-- an event that a text of this length gives
record Fits (event : Event) (size : ℕ) : Type 0 where
  steps : steps_of event ≤ size * 2 ^ 32
  bytes : bytes_brought event ≤ size
  conn : HasConnNumber event

is_some_line : (line : List ℕ) → is_passed_over line ≡ false → 0 < length line
unfolding is_passed_over
is_some_line [] h = cc
is_some_line (b ∷ line) h = omega arith

event_fits : (config : Config) (before : List Event) (line : List ℕ) (event : Event) → is_passed_over line ≡ false → event_of config before line ≡ Ok event
    → Fits event (length line)
event_fits config before line event p h =
    let is = event_is config before line event h in
    record { steps = omega (arith, is.steps, is_some_line line p); bytes = is.bytes; conn = is.conn }

steps-push : (before : List Event) (event : Event) → steps_of_all (before ++ event ∷ []) ≡ steps_of_all before + steps_of event
unfolding steps_of_all
steps-push [] event = omega arith
steps-push (first ∷ before) event = omega (arith, steps-push before event)

bytes-push : (before : List Event) (event : Event) → bytes_of_all (before ++ event ∷ []) ≡ bytes_of_all before + bytes_brought event
unfolding bytes_of_all
bytes-push [] event = omega arith
bytes-push (first ∷ before) event = omega (arith, bytes-push before event)

conns-push : (before : List Event) (event : Event) → AllByRecursion HasConnNumber before → HasConnNumber event
    → AllByRecursion HasConnNumber (before ++ event ∷ [])
conns-push [] event all one = (one, tt)
conns-push (first ∷ before) event all one = (all.0, conns-push before event all.1 one)

with_one : (size more : ℕ) (before : List Event) (event : Event) → FitSchedule size before → Fits event more
    → FitSchedule (size + more) (before ++ event ∷ [])
with_one size more before event all one = record {
  steps = omega (arith, steps-push before event, all.steps, one.steps);
  bytes = omega (arith, bytes-push before event, all.bytes, one.bytes);
  conns = conns-push before event all.conns one.conn;
}

line_by : (config : Config) (number size : ℕ) (before after : List Event) (line : List ℕ) → FitSchedule size before
    → (passed : Bool) → is_passed_over line ≡ passed → (read : Result Event Rule) → event_of config before line ≡ read
    → line_read config number before line ≡ Ok after
    → FitSchedule (size + length line) after
unfolding line_read
line_by config number size before after line all true p read r h =
    let same : before ≡ after = (let e : Ok before ≡ Ok after = rw p at h in cc) in
    subst (λ (events : List Event). FitSchedule (size + length line) events) same
    (record { steps = omega (arith, all.steps); bytes = omega (arith, all.bytes); conns = all.conns })
line_by config number size before after line all false p (Ok event) r h =
    let same : before ++ event ∷ [] ≡ after = (let e : with_event number before (Ok event) ≡ Ok after = rw (p, r) at h in cc) in
    subst (λ (events : List Event). FitSchedule (size + length line) events) same
    (with_one size (length line) before event all (event_fits config before line event p r))
line_by config number size before after line all false p (Err why) r h = let e : with_event number before (Err why) ≡ Ok after = rw (p, r) at h in cc

lines_fit : (pieces : List (List ℕ)) (config : Config) (number size : ℕ) (before events : List Event) → FitSchedule size before
    → events_from config number before pieces ≡ Ok events → FitSchedule (size + sum_by length pieces) events
unfolding events_from
lines_fit [] config number size before events all h =
    let same : before ≡ events = cc in
    subst (λ (found : List Event). FitSchedule (size + 0) found) same
    (record { steps = omega (arith, all.steps); bytes = omega (arith, all.bytes); conns = all.conns })
lines_fit (piece ∷ pieces) config number size before events all h =
    let first = both (line_read config number before (line_in piece)) _ events h in
    let read = line_by config number size before first.0 (line_in piece) all _ refl _ refl first.1 in
    let rest = lines_fit pieces config (number + 1) (size + length (line_in piece)) first.0 events read first.2 in
    record {
      steps = omega (arith, rest.steps, line_shortens piece, sum_by-cons length piece pieces);
      bytes = omega (arith, rest.bytes, line_shortens piece, sum_by-cons length piece pieces);
      conns = rest.conns;
    }

none_fit : FitSchedule 0 []
unfolding steps_of_all bytes_of_all
none_fit = record { steps = omega arith; bytes = omega arith; conns = tt }

abbrev too_long : SchedFault
too_long = record { line = 0; why = TooLong }

schedule_by : (config : Config) (bytes : List ℕ) (events : List Event) → (long : Bool) → nat_lt SCHEDULE_LIMIT (length bytes) ≡ long
    → schedule_of config bytes ≡ Ok events → FitSchedule (length bytes) events
unfolding schedule_of
schedule_by config bytes events true l h = let none : Err (too_long) ≡ Ok events = rw l at h in cc
schedule_by config bytes events false l h =
    let all = lines_fit (cuts_of bytes) config 1 0 [] events none_fit (rw l at h) in
    record { steps = omega (arith, all.steps, lengths-cuts bytes); bytes = omega (arith, all.bytes, lengths-cuts bytes); conns = all.conns }

-- the events of a schedule weigh no more than its bytes, and the numbers of their connections have 64 bits
pub schedule_fits : (config : Config) (bytes : List ℕ) (events : List Event) → schedule_of config bytes ≡ Ok events → FitSchedule (length bytes) events
schedule_fits config bytes events h = schedule_by config bytes events _ refl h
