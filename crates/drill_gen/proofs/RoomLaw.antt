-- A drill's steps and client bytes have room in the counts of its run, and its connections have small numbers.
use Rattle.std.proofs.Common.{◌≡◌, ◌≤◌, ◌<◌, ◌+◌, ◌-◌, ◌*◌, ◌/◌, ◌%◌, ◌==◌, ℕ, zero, suc, Bool, true, false, if◌then◌else◌, List, [], ◌∷◌, ◌++◌, length, refl, arith, codes, length-append}
use Rattle.std.specs.List.{AllByRecursion}
use Rattle.std.specs.Prelude.{decimal, nat_lt}
use Rattle.std.proofs.lemmas.Fmt.{length-decimal-le}
use Rattle.schedule_text.specs.Brings.{steps_of, steps_of_all, bytes_brought, bytes_of_all}
use Rattle.schedule_text.specs.ScheduleFits.{HasConnNumber, HasCountRoom}
use Rattle.schedule_text.specs.declared.event.Event.{Event}
use Rattle.schedule_text.specs.declared.event.Event.TheVariants.{Flow}
use Rattle.drill_gen.specs.Commands.{letters, append_text, delete_text, command_of_kind, command_text, create_text, creates, making_text, selecting_text, moving_text}
use Rattle.drill_gen.specs.Drill.{connection_of, opening, openings, sessions, making, command_events, transfer_events, crash_events}
use Rattle.drill_gen.specs.Drill.{transfers_at, crashes_at, turn_by, turns, drill_events}
use Rattle.drill_gen.specs.Values.{value_at, session_of, size_of, uid_of, deliveries_of, backend_of, kind_of}

-- events bring at most so many steps and client bytes, and the numbers of their connections have 64 bits
pub record FitIn (steps bytes : ℕ) (events : List Event) : Type 0 where
  pub steps_fit : steps_of_all events ≤ steps
  pub bytes_fit : bytes_of_all events ≤ bytes
  pub conns_fit : AllByRecursion HasConnNumber events

steps_joined : (xs ys : List Event) → steps_of_all (xs ++ ys) ≡ steps_of_all xs + steps_of_all ys
unfolding steps_of_all
steps_joined [] ys = omega arith
steps_joined (x ∷ xs) ys = let rest = steps_joined xs ys in omega arith

bytes_joined : (xs ys : List Event) → bytes_of_all (xs ++ ys) ≡ bytes_of_all xs + bytes_of_all ys
unfolding bytes_of_all
bytes_joined [] ys = omega arith
bytes_joined (x ∷ xs) ys = let rest = bytes_joined xs ys in omega arith

conns_joined : (xs ys : List Event) → AllByRecursion HasConnNumber xs → AllByRecursion HasConnNumber ys → AllByRecursion HasConnNumber (xs ++ ys)
conns_joined [] ys one other = other
conns_joined (x ∷ xs) ys one other = (one.0, conns_joined xs ys one.1 other)

joined : (xs ys : List Event) (s t b c : ℕ) → FitIn s b xs → FitIn t c ys → FitIn (s + t) (b + c) (xs ++ ys)
joined xs ys s t b c one other =
    let steps = steps_joined xs ys in
    let bytes = bytes_joined xs ys in
    let one_steps = one.steps_fit in
    let one_bytes = one.bytes_fit in
    let other_steps = other.steps_fit in
    let other_bytes = other.bytes_fit in
    record { steps_fit = omega arith; bytes_fit = omega arith; conns_fit = conns_joined xs ys one.conns_fit other.conns_fit }

-- ---- texts

letters_long : (size : ℕ) → length (letters size) ≡ size
unfolding letters
letters_long zero = refl
letters_long (suc size) = let rest = letters_long size in omega (arith, length-append (letters size) (codes "x"))

append_short : (size : ℕ) → size ≤ 200 → length (append_text size) ≤ 250
unfolding append_text
append_short size small =
    let digits : length (decimal size) ≤ 3 = length-decimal-le 3 size (omega arith) (omega arith) (omega arith) in
    let long = letters_long size in
    omega (
      arith,
      length-append (codes "t APPEND INBOX {") (decimal size ++ (codes "+}\r\n" ++ (letters size ++ codes "\r\n"))),
      length-append (decimal size) (codes "+}\r\n" ++ (letters size ++ codes "\r\n")),
      length-append (codes "+}\r\n") (letters size ++ codes "\r\n"),
      length-append (letters size) (codes "\r\n"),
    )

delete_short : (uid : ℕ) → uid ≤ 20 → length (delete_text uid) ≤ 250
unfolding delete_text
delete_short uid small =
    let digits : length (decimal uid) ≤ 3 = length-decimal-le 3 uid (omega arith) (omega arith) (omega arith) in
    omega (
      arith,
      length-append (codes "t UID STORE ") (decimal uid ++ codes " +FLAGS.SILENT (\\Deleted)\r\n"),
      length-append (decimal uid) (codes " +FLAGS.SILENT (\\Deleted)\r\n"),
    )

sizes_small : (value : ℕ) → size_of value ≤ 200
unfolding size_of
sizes_small value = omega arith

uids_small : (value : ℕ) → uid_of value ≤ 20
unfolding uid_of
uids_small value = omega arith

other_short : (a b c d e f g : Bool) (append delete : List ℕ) → length append ≤ 250 → length delete ≤ 250
    → length (if a then append
    else if b then codes "t UID FETCH 1:* (FLAGS)\r\n"
    else if c then codes "t UID STORE 1:* +FLAGS (\\Flagged)\r\n"
    else if d then delete
    else if e then codes "t EXPUNGE\r\n"
    else if f then codes "t NOOP\r\n"
    else if g then codes "t LIST \"\" \"*\"\r\n"
    else codes "t UID SEARCH FLAGGED\r\n") ≤ 250
other_short true b c d e f g append delete h k = h
other_short false true c d e f g append delete h k = omega arith
other_short false false true d e f g append delete h k = omega arith
other_short false false false true e f g append delete h k = k
other_short false false false false true f g append delete h k = omega arith
other_short false false false false false true g append delete h k = omega arith
other_short false false false false false false true append delete h k = omega arith
other_short false false false false false false false append delete h k = omega arith

command_short : (value : ℕ) → length (command_text value) ≤ 250
unfolding command_text command_of_kind
command_short value =
    let kind = kind_of value in
    other_short (nat_lt kind 6) (nat_lt kind 9) (nat_lt kind 11) (kind == 11) (kind == 12) (kind == 13) (kind == 14) _ _
    (append_short (size_of value) (sizes_small value)) (delete_short (uid_of value) (uids_small value))

moving_short : (user backend : ℕ) → user ≤ 8 → backend ≤ 3 → length (moving_text user backend) ≤ 100
unfolding moving_text
moving_short user backend few some =
    let one : length (decimal user) ≤ 1 = length-decimal-le 1 user (omega arith) (omega arith) (omega arith) in
    let other : length (decimal backend) ≤ 1 = length-decimal-le 1 backend (omega arith) (omega arith) (omega arith) in
    omega (
      arith,
      length-append (codes "x LOGIN adm x\r\nx XFER user.u") (decimal user ++ (codes " b" ++ (decimal backend ++ codes "\r\n"))),
      length-append (decimal user) (codes " b" ++ (decimal backend ++ codes "\r\n")),
      length-append (codes " b") (decimal backend ++ codes "\r\n"),
      length-append (decimal backend) (codes "\r\n"),
    )

selecting_short : (user : ℕ) → user < 10 → length (selecting_text user) ≤ 40
unfolding selecting_text
selecting_short user few =
    let digits : length (decimal user) ≤ 1 = length-decimal-le 1 user (omega arith) (omega arith) (omega arith) in
    omega (
      arith,
      length-append (codes "s LOGIN u") (decimal user ++ codes " p\r\ns SELECT INBOX\r\n"),
      length-append (decimal user) (codes " p\r\ns SELECT INBOX\r\n"),
    )

create_short : (user : ℕ) → user < 10 → length (create_text user) ≤ 30
unfolding create_text
create_short user few =
    let digits : length (decimal user) ≤ 1 = length-decimal-le 1 user (omega arith) (omega arith) (omega arith) in
    omega (arith, length-append (codes "a CREATE user.u") (decimal user ++ codes "\r\n"), length-append (decimal user) (codes "\r\n"))

creates_short : (users : ℕ) → users < 10 → length (creates users) ≤ 30 * users
unfolding creates
creates_short zero few = omega arith
creates_short (suc before) few =
    let rest = creates_short before (omega arith) in
    let one = create_short (before + 1) (omega arith) in
    omega (arith, length-append (creates before) (create_text (before + 1)))

-- ---- events

openings_fit : (round count : ℕ) → round < 100 → count < 10 → FitIn (2 * count) (40 * count) (openings round count)
unfolding openings opening connection_of steps_of_all bytes_of_all steps_of bytes_brought
openings_fit round zero early few = record { steps_fit = omega arith; bytes_fit = omega arith; conns_fit = tt }
openings_fit round (suc before) early few =
    let rest = openings_fit round before early (omega arith) in
    let short = selecting_short (before + 1) (omega arith) in
    let both = joined (openings round before) (opening round (before + 1)) _ 2 _ 40 rest
    (record { steps_fit = omega arith; bytes_fit = omega arith; conns_fit = (omega arith, (tt, tt)) }) in
    let steps = both.steps_fit in
    let bytes = both.bytes_fit in
    record { steps_fit = omega arith; bytes_fit = omega arith; conns_fit = both.conns_fit }

flow_fits : (count : ℕ) → FitIn (1 + count) 0 (Flow count ∷ [])
unfolding steps_of_all bytes_of_all steps_of bytes_brought
flow_fits count = record { steps_fit = omega arith; bytes_fit = omega arith; conns_fit = (tt, tt) }

sessions_fit : (round : ℕ) → round < 100 → FitIn 10017 320 (sessions round)
unfolding sessions
sessions_fit round early = joined (openings round 8) (Flow 10000 ∷ []) 16 10001 320 0 (openings_fit round 8 early (omega arith)) (flow_fits 10000)

making_fits : FitIn 10003 260 making
unfolding making making_text steps_of_all bytes_of_all steps_of bytes_brought
making_fits =
    let short = creates_short 8 (omega arith) in
    record {
      steps_fit = omega arith;
      bytes_fit = omega (arith, length-append (codes "a LOGIN adm x\r\n") (creates 8));
      conns_fit = (omega arith, (tt, (tt, tt)));
    }

commands_fit : (round value : ℕ) → FitIn 13 250 (command_events round value)
unfolding command_events deliveries_of steps_of_all bytes_of_all steps_of bytes_brought
commands_fit round value =
    let short = command_short value in
    record { steps_fit = omega arith; bytes_fit = omega arith; conns_fit = (tt, (tt, tt)) }

transfer_fits : (turn value : ℕ) → turn < 10000 → FitIn 2 100 (transfer_events turn value)
unfolding transfer_events steps_of_all bytes_of_all steps_of bytes_brought session_of backend_of
transfer_fits turn value early =
    let short = moving_short (session_of value) (backend_of value) (omega arith) (omega arith) in
    record { steps_fit = omega arith; bytes_fit = omega arith; conns_fit = (omega arith, (tt, tt)) }

crash_fits : (value : ℕ) → FitIn 20293 0 (crash_events value)
unfolding crash_events steps_of_all bytes_of_all steps_of bytes_brought
crash_fits value = record { steps_fit = omega arith; bytes_fit = omega arith; conns_fit = (tt, (tt, (tt, (tt, (tt, tt))))) }

fits_if : (b : Bool) (steps bytes : ℕ) (events : List Event) → FitIn steps bytes events → FitIn steps bytes (if b then events else [])
unfolding steps_of_all bytes_of_all
fits_if true steps bytes events fit = fit
fits_if false steps bytes events fit = record { steps_fit = omega arith; bytes_fit = omega arith; conns_fit = tt }

turn_fits : (turn value : ℕ) → turn < 10000 → FitIn 40000 1000 (turn_by turn value)
unfolding turn_by transfers_at crashes_at
turn_fits turn value early =
    let crash : FitIn 30310 320 (crash_events value ++ sessions (turn / 100)) =
    joined (crash_events value) (sessions (turn / 100)) 20293 10017 0 320 (crash_fits value) (sessions_fit (turn / 100) (omega arith)) in
    let move = fits_if (turn % 40 == 0) 2 100 (transfer_events turn value) (transfer_fits turn value early) in
    let restart = fits_if (turn % 100 == 0) 30310 320 (crash_events value ++ sessions (turn / 100)) crash in
    let all = joined (command_events ((turn - 1) / 100) value) _ 13 30312 250 420 (commands_fit ((turn - 1) / 100) value)
    (joined _ _ 2 30310 100 320 move restart) in
    let steps : steps_of_all (turn_by turn value) ≤ 30325 = all.steps_fit in
    let bytes : bytes_of_all (turn_by turn value) ≤ 670 = all.bytes_fit in
    record { steps_fit = omega arith; bytes_fit = omega arith; conns_fit = all.conns_fit }

turns_fit : (number size : ℕ) → size < 10000 → FitIn (40000 * size) (1000 * size) (turns number size)
unfolding turns steps_of_all bytes_of_all
turns_fit number zero few = record { steps_fit = omega arith; bytes_fit = omega arith; conns_fit = tt }
turns_fit number (suc before) few =
    let both = joined (turns number before) (turn_by (before + 1) (value_at number (suc before))) (40000 * before) 40000 (1000 * before) 1000
    (turns_fit number before (omega arith)) (turn_fits (before + 1) (value_at number (suc before)) (omega arith)) in
    let steps : steps_of_all (turns number (suc before)) ≤ 40000 * before + 40000 = both.steps_fit in
    let bytes : bytes_of_all (turns number (suc before)) ≤ 1000 * before + 1000 = both.bytes_fit in
    record { steps_fit = omega arith; bytes_fit = omega arith; conns_fit = both.conns_fit }

pub has_room : (number size : ℕ) → size ≤ 9999 → HasCountRoom (drill_events number size)
unfolding drill_events
has_room number size few =
    let rest = joined (turns number size) (Flow 100000 ∷ []) (40000 * size) 100001 (1000 * size) 0 (turns_fit number size (omega arith)) (flow_fits 100000) in
    let all = joined making _ 10003 _ 260 _ making_fits (joined (sessions 0) _ 10017 _ 320 _ (sessions_fit 0 (omega arith)) rest) in
    let steps : steps_of_all (drill_events number size) ≤ 10003 + (10017 + (40000 * size + 100001)) = all.steps_fit in
    let bytes : bytes_of_all (drill_events number size) ≤ 260 + (320 + (1000 * size + 0)) = all.bytes_fit in
    record { steps = omega arith; bytes = omega arith; conns = all.conns_fit }
