-- The runs of one name: the master's record of it, and any number of backends, each with its link.
use Rattle.std.specs.Prelude.{ℕ, Bool, true, cond, List, [], ◌∷◌}
use Rattle.home_law.specs.Items.{NameRecord, no_record, Server, is_same_server, no_phase, idle, listing, list}
use Rattle.home_law.specs.Steps.{NameAsk}
use Rattle.home_law.specs.Link.{Back, hears_first, asked, LineStep, takes_first, cut, crash, lose, join, see, put}

pub record NameWorld : Type 0 where
  pub known : NameRecord
  pub back : Server → Back

pub data NameEvent : Type 0 where
  -- a backend is asked
  on_ask : NameAsk → Server → NameEvent
  -- the master takes the first line of a backend
  on_line : Bool → Server → NameEvent
  -- a backend takes its first message
  on_answer : Server → NameEvent
  -- a link breaks, and so many messages to the backend and lines to the master are kept
  on_cut : Server → ℕ → ℕ → NameEvent
  -- a link is joined again
  on_join : Server → NameEvent
  -- a backend crashes, and so many of its lines are kept
  on_crash : Server → ℕ → NameEvent
  -- the master crashes, and of the messages to each backend so many are kept
  on_master_crash : (Server → ℕ) → NameEvent

unfoldable pub set_back : (Server → Back) → Server → Back → Server → Back
set_back at b k q = cond (is_same_server q b) k (at q)

unfoldable pub with_line_step : NameWorld → Server → LineStep → NameWorld
with_line_step w b t = record { known = put t.seen b w.known; back = set_back w.back b t.back }

abbrev pub with_back : NameWorld → Server → Back → NameWorld
with_back w b k = record w { back = set_back w.back b k }

unfoldable pub name_happens : NameWorld → NameEvent → NameWorld
name_happens w (on_ask a b) = with_back w b (asked a (w.back b))
name_happens w (on_line is_full b) = with_line_step w b (takes_first is_full (see w.known b) (w.back b) (w.back b).up)
name_happens w (on_answer b) = with_back w b (hears_first (w.back b) (w.back b).down)
name_happens w (on_cut b i j) = with_back w b (cut i j (w.back b) (w.back b).ctl.linked)
name_happens w (on_join b) = with_back w b (join (w.back b) (w.back b).ctl.linked (w.back b).down (w.back b).up)
name_happens w (on_crash b j) = with_back w b (crash j (w.back b) (w.back b).ctl.linked)
name_happens w (on_master_crash i) = record w { back = λ b. lose (i b) (w.back b) (w.back b).ctl.linked }

-- at the start each backend has sent LIST
unfoldable pub back_of_start : Back
back_of_start = record { ctl = record { phase = no_phase; flow = idle; resync = listing; hears = true; linked = true }; down = []; up = list ∷ [] }

unfoldable pub name_start : NameWorld
unfolding back_of_start
name_start = record { known = no_record; back = λ b. back_of_start }

unfoldable pub name_run : NameWorld → List NameEvent → NameWorld
name_run w [] = w
name_run w (e ∷ es) = name_run (name_happens w e) es
