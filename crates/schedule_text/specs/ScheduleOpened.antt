-- Which connections the events so far have opened.
use Rattle.std.specs.Prelude.{◌≡◌, ℕ, Bool, false, ◌==◌, if◌then◌else◌, List, is_some, Result, Ok, Err}
use Rattle.std.specs.List.{list_any}
use Rattle.std.specs.Ordering.{nat_cmp}
use Rattle.mur_base.specs.Map.{value_at, with_entry}
use Rattle.schedule_text.specs.declared.event.Event.{Event}
use Rattle.schedule_text.specs.declared.event.Event.TheVariants.{Open}
use Rattle.schedule_text.specs.declared.schedule.fault.Rule.{Rule}
use Rattle.schedule_text.specs.declared.schedule.fault.Rule.TheVariants.{Connection}
use Rattle.schedule_text.specs.declared.schedule.read_so_far.ReadSoFar.{ReadSoFar}

-- an event opens this connection
unfoldable pub opens_connection : ℕ → Event → Bool
opens_connection conn (Open node opened) = conn == opened
opens_connection conn _ = false

-- one of the events opens this connection
unfoldable pub is_opened : List Event → ℕ → Bool
is_opened events conn = list_any (opens_connection conn) events

-- a connection that the events before opened
unfoldable pub opened_before : List Event → ℕ → Result (Unit {0}) Rule
opened_before before conn = if is_opened before conn then Ok tt else Err Connection

-- a connection that the events before didn't open
unfoldable pub unopened : List Event → ℕ → Result (Unit {0}) Rule
unopened before conn = if is_opened before conn then Err Connection else Ok tt

-- the map of opened connections after one more event
unfoldable pub opened_after : List (ℕ × Unit {0}) → Event → List (ℕ × Unit {0})
opened_after opened (Open node conn) = with_entry nat_cmp opened conn tt
opened_after opened event = opened

-- the map has the connections that the events opened
abbrev pub KnowsOpened : ReadSoFar → Type 0
KnowsOpened so_far = (conn : ℕ) → is_some (value_at nat_cmp so_far.opened conn) ≡ is_opened so_far.events conn
