-- The lines of a schedule that say what a node took.
use Rattle.std.specs.Prelude.{ℕ, List, map, length}
use Rattle.node_step.specs.declared.input.NodeInput.{NodeInput}
use Rattle.node_step.specs.declared.input.NodeInput.TheVariants.{Opened, Piece, Hung, From}
use Rattle.record_merge.specs.declared.logged.Logged.{Logged}
use Rattle.schedule_text.specs.declared.event.Event.{Event}
use Rattle.schedule_text.specs.declared.event.Event.TheVariants.{Open, Data, Hang, Deliver}
use Rattle.schedule_text.specs.Printed.{event_text, schedule_text}

-- the event at which a node of this name takes an input
unfoldable pub event_of : List ℕ → NodeInput → Event
event_of name (Opened conn) = Open name conn
event_of name (Piece conn bytes) = Data conn bytes
event_of name (Hung conn) = Hang conn
event_of name (From sender message) = Deliver sender name

-- how many bytes the line of that event has, its LF among them
unfoldable pub line_length : List ℕ → NodeInput → ℕ
line_length name input = length (event_text (event_of name input))

-- how many bytes the lines of a log have
unfoldable pub log_length : List ℕ → List (Logged NodeInput) → ℕ
log_length name log = length (schedule_text (map (λ entry. event_of name entry.input) log))
