-- What a connection is at, as tests.
use Rattle.std.specs.Prelude.{ℕ, nat_eq, Bool, true, false, List, Option, None, Some}
use Rattle.std.specs.Cmp.Lexicographic.{pointwise}
use Rattle.ask_routes.specs.declared.next.Why.{Why}
use Rattle.asking_core.specs.declared.waiting.At.{At}
use Rattle.asking_core.specs.declared.waiting.At.TheVariants.{Home, Barrier}
use Rattle.front_core.specs.declared.connection.Stage.{Stage}
use Rattle.front_core.specs.declared.connection.Stage.TheVariants.{Reading, Waits, Lists, Ended}

unfoldable pub is_reading : Stage → Bool
is_reading Reading = true
is_reading stage = false

unfoldable pub stage_has_ended : Stage → Bool
stage_has_ended Ended = true
stage_has_ended stage = false

abbrev pub asks_at : At → List ℕ → Bool
asks_at (Home server) node = pointwise nat_eq server node
asks_at (Barrier why) node = false

-- a command waits for the answer of this node
unfoldable pub has_asked : Stage → List ℕ → Bool
has_asked (Waits tag it) node = asks_at it.at node
has_asked stage node = false

-- why the master is asked for a command that waits for its OK
abbrev pub clears : At → Option Why
clears (Home server) = None
clears (Barrier why) = Some why

-- a command waits for something from this node: for its answer, or, where it is the master, for its OK
abbrev pub waits_at : List ℕ → At → List ℕ → Bool
waits_at master (Home server) node = pointwise nat_eq server node
waits_at master (Barrier why) node = pointwise nat_eq master node

unfoldable pub awaits : List ℕ → Stage → List ℕ → Bool
awaits master (Waits tag it) node = waits_at master it.at node
awaits master (Lists tag it) node = pointwise nat_eq master node
awaits master stage node = false
