-- How many steps and how many bytes of clients an event brings at most.
use Rattle.std.specs.Prelude.{ℕ, ◌+◌, List, [], ◌∷◌, length}
use Rattle.schedule_text.specs.declared.event.Event.{Event}
use Rattle.schedule_text.specs.declared.event.Event.TheVariants.{Data, Flow, Heal}

-- the directed pairs of 17 nodes: no configuration links more
abbrev pub most_links : ℕ
most_links = 289

-- each delivery of a flow is a step, and each join of a heal; every event is one at most besides
unfoldable pub steps_of : Event → ℕ
steps_of (Flow count) = 1 + count
steps_of Heal = most_links
steps_of event = 1

unfoldable pub steps_of_all : List Event → ℕ
steps_of_all [] = 0
steps_of_all (event ∷ events) = steps_of event + steps_of_all events

-- the bytes that come from a client
unfoldable pub bytes_brought : Event → ℕ
bytes_brought (Data conn bytes) = length bytes
bytes_brought event = 0

unfoldable pub bytes_of_all : List Event → ℕ
bytes_of_all [] = 0
bytes_of_all (event ∷ events) = bytes_brought event + bytes_of_all events
