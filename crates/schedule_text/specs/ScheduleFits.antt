-- How much the events of a schedule bring, and how great the numbers of their connections are.
use Rattle.std.specs.Prelude.{ℕ, ◌<◌, ◌≤◌, ◌*◌, ◌^◌, List, ⊤}
use Rattle.std.specs.List.{AllByRecursion}
use Rattle.schedule_text.specs.declared.event.Event.{Event}
use Rattle.schedule_text.specs.declared.event.Event.TheVariants.{Open}
use Rattle.schedule_text.specs.Brings.{steps_of_all, bytes_of_all}

-- the number of a connection that is opened has 64 bits
abbrev pub HasConnNumber : Event → Type 0
HasConnNumber (Open node conn) = conn < 2 ^ 64
HasConnNumber event = ⊤

-- the events of a schedule of so many bytes: they bring no more client bytes than that, and at most 2^32 steps for each of the bytes
pub record FitSchedule (size : ℕ) (events : List Event) : Type 0 where
  pub steps : steps_of_all events ≤ size * 2 ^ 32
  pub bytes : bytes_of_all events ≤ size
  pub conns : AllByRecursion HasConnNumber events

-- room for the counts of a run: its steps, a UIDVALIDITY for each byte of a client, and the numbers of connections
pub record HasCountRoom (events : List Event) : Type 0 where
  pub steps : steps_of_all events < 2 ^ 64
  pub bytes : bytes_of_all events < 2 ^ 32
  pub conns : AllByRecursion HasConnNumber events
