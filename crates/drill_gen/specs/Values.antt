-- The values of a drill: a linear congruential generator modulo 2^64, of which the upper 31 bits count.
use Rattle.std.specs.Prelude.{ℕ, zero, suc, ◌+◌, ◌*◌, ◌/◌, ◌%◌, ◌^◌}

unfoldable pub next_state : ℕ → ℕ
next_state state = (6364136223846793005 * state + 1442695040888963407) % 2 ^ 64

-- the state after so many values: at first it is the drill's number
unfoldable pub state_after : ℕ → ℕ → ℕ
state_after number zero = number
state_after number (suc before) = next_state (state_after number before)

-- the value of a state
unfoldable pub value_of : ℕ → ℕ
value_of state = state / 2 ^ 33

-- value j of a number, counted from 1
unfoldable pub value_at : ℕ → ℕ → ℕ
value_at number j = value_of (state_after number j)

-- what a value says of its turn: a session, a kind of command, a count of deliveries, a backend, and the choice of a crash
unfoldable pub session_of : ℕ → ℕ
session_of value = 1 + value % 8

unfoldable pub kind_of : ℕ → ℕ
kind_of value = value / 8 % 16

unfoldable pub size_of : ℕ → ℕ
size_of value = 1 + value / 128 % 200

unfoldable pub uid_of : ℕ → ℕ
uid_of value = 1 + value / 128 % 20

unfoldable pub deliveries_of : ℕ → ℕ
deliveries_of value = value / 32768 % 12

unfoldable pub backend_of : ℕ → ℕ
backend_of value = 1 + value / 1048576 % 3

unfoldable pub choice_of : ℕ → ℕ
choice_of value = value % 4
