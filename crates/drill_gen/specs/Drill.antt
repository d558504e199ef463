-- The events of a drill: eight sessions, whose clients give one command a turn; every fortieth turn an administrator moves a mailbox, and
-- every hundredth a backend crashes and eight new sessions begin.
use Rattle.std.specs.Prelude.{ℕ, zero, suc, ◌+◌, ◌-◌, ◌*◌, ◌/◌, ◌%◌, ◌==◌, if◌then◌else◌, List, [], ◌∷◌, ◌++◌, codes, decimal}
use Rattle.schedule_text.specs.declared.event.Event.{Event}
use Rattle.schedule_text.specs.declared.event.Event.TheVariants.{Open, Data, Crash, Start, Flow, Heal}
use Rattle.drill_gen.specs.Commands.{command_text, making_text, selecting_text, moving_text}
use Rattle.drill_gen.specs.Values.{value_at, session_of, deliveries_of, backend_of, choice_of}

-- sessions of odd number are at one frontend, those of even number at the other
unfoldable pub frontend_of : ℕ → List ℕ
frontend_of session = if session % 2 == 1 then codes "f1" else codes "f2"

unfoldable pub backend_named : ℕ → List ℕ
backend_named backend = codes "b" ++ decimal backend

-- the connection of a session in a round; connection 1 is the administrator's
unfoldable pub connection_of : ℕ → ℕ → ℕ
connection_of round session = 1 + session + 8 * round

-- a user connects, logs in and selects the mailbox
unfoldable pub opening : ℕ → ℕ → List Event
opening round session =
    Open (frontend_of session) (connection_of round session) ∷ Data (connection_of round session) (selecting_text session) ∷ []

unfoldable pub openings : ℕ → ℕ → List Event
openings round zero = []
openings round (suc before) = openings round before ++ opening round (before + 1)

-- the eight sessions of a round
unfoldable pub sessions : ℕ → List Event
sessions round = openings round 8 ++ Flow 10000 ∷ []

-- the administrator makes the mailboxes
unfoldable pub making : List Event
making = Open (codes "f1") 1 ∷ Data 1 making_text ∷ Flow 10000 ∷ []

-- a session gives a command, and some messages are delivered
unfoldable pub command_events : ℕ → ℕ → List Event
command_events round value = Data (connection_of round (session_of value)) (command_text value) ∷ Flow (deliveries_of value) ∷ []

-- an administrator connects and moves the session's mailbox
unfoldable pub transfer_events : ℕ → ℕ → List Event
transfer_events turn value =
    Open (codes "f1") (1000 + turn) ∷ Data (1000 + turn) (moving_text (session_of value) (backend_of value)) ∷ []

-- a backend crashes and starts again
unfoldable pub crash_events : ℕ → List Event
crash_events value =
    Crash (backend_named (backend_of value)) (choice_of value) 1 ∷ Flow 10000 ∷ Start (backend_named (backend_of value)) ∷ Heal ∷ Flow 10000 ∷ []

unfoldable pub transfers_at : ℕ → ℕ → List Event
transfers_at turn value = if turn % 40 == 0 then transfer_events turn value else []

-- a crash, and the sessions of the next round
unfoldable pub crashes_at : ℕ → ℕ → List Event
crashes_at turn value = if turn % 100 == 0 then crash_events value ++ sessions (turn / 100) else []

-- a turn, counted from 1, by its value. A round has a hundred turns
unfoldable pub turn_by : ℕ → ℕ → List Event
turn_by turn value = command_events ((turn - 1) / 100) value ++ (transfers_at turn value ++ crashes_at turn value)

-- the turns of a number up to this one
unfoldable pub turns : ℕ → ℕ → List Event
turns number zero = []
turns number (suc before) = turns number before ++ turn_by (before + 1) (value_at number (suc before))

-- the drill of a number and a size
unfoldable pub drill_events : ℕ → ℕ → List Event
drill_events number size = making ++ (sessions 0 ++ (turns number size ++ Flow 100000 ∷ []))
