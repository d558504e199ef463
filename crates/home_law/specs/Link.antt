-- A backend, its link to the master, and what each event does with them.
use Rattle.std.specs.Prelude.{ℕ, zero, suc, Bool, true, false, cond, List, [], ◌∷◌, ◌++◌, take}
use Rattle.home_law.specs.Items.{NameRecord, no_record, recorded, Server, is_same_server, Seen, free, other, own, Item, backend_up, backend_end, master_up, master_end, Ctl}
use Rattle.home_law.specs.Steps.{BackStep, hear, MasterStep, answer, NameAsk, ask, unlinked, crashed}

-- a backend, the queue of messages to it, and the queue of its lines to the master; the first of a queue is taken next
pub record Back : Type 0 where
  pub ctl : Ctl
  pub down : List Item
  pub up : List Item

-- what is sent on a broken link is lost
unfoldable pub sent_over : Bool → List Item → List Item
sent_over true xs = xs
sent_over false xs = []

-- the backend did a step, and these messages to it are left
unfoldable pub does : Back → List Item → BackStep → Back
unfolding sent_over
does k d h = record { ctl = h.ctl; down = d; up = k.up ++ sent_over k.ctl.linked h.says }

-- the backend takes the first of these messages
unfoldable pub hears_first : Back → List Item → Back
unfolding does
hears_first k [] = k
hears_first k (x ∷ d) = does k d (hear k.ctl x)

-- the backend is asked
unfoldable pub asked : NameAsk → Back → Back
unfolding does
asked a k = does k k.down (ask a k.ctl)

-- the backend is asked by those that waited, one after the other
unfoldable pub asked_each : List NameAsk → Back → Back
asked_each [] k = k
asked_each (a ∷ asks) k = asked_each asks (asked a k)

-- after the master took a line: the record as the backend finds it, and the backend
pub record LineStep : Type 0 where
  pub seen : Seen
  pub back : Back

unfoldable pub took : Back → List Item → MasterStep → LineStep
unfolding sent_over
took k u t = record { seen = t.seen; back = record { ctl = k.ctl; down = k.down ++ sent_over k.ctl.linked t.says; up = u } }

-- the master takes the first of these lines
unfoldable pub takes_first : Bool → Seen → Back → List Item → LineStep
unfolding took
takes_first is_full s k [] = record { seen = s; back = k }
takes_first is_full s k (x ∷ u) = took k u (answer is_full s x)

-- of a broken link's queue a crash keeps so many messages, and its end mark
unfoldable pub shorten : ℕ → List Item → List Item
shorten n [] = []
shorten n (backend_end ∷ xs) = backend_end ∷ shorten n xs
shorten n (master_end ∷ xs) = master_end ∷ shorten n xs
shorten zero (x ∷ xs) = shorten zero xs
shorten (suc n) (x ∷ xs) = x ∷ shorten n xs

-- The link breaks, if it is whole. Of each queue so many messages are kept, and an end mark comes after them.
unfoldable pub cut : ℕ → ℕ → Back → Bool → Back
cut i j k true = record { ctl = unlinked k.ctl; down = take i k.down ++ backend_end ∷ []; up = take j k.up ++ master_end ∷ [] }
cut i j k false = k

-- The backend crashes and starts again. What comes to it is lost, and so many of its lines are kept.
unfoldable pub crash : ℕ → Back → Bool → Back
unfolding shorten
crash j k true = record { ctl = crashed k.ctl; down = []; up = take j k.up ++ master_end ∷ [] }
crash j k false = record { ctl = crashed k.ctl; down = []; up = shorten j k.up }

-- The master crashes and starts again. What comes to it is lost, and so many messages to the backend are kept.
unfoldable pub lose : ℕ → Back → Bool → Back
unfolding shorten
lose i k true = record { ctl = unlinked k.ctl; down = take i k.down ++ backend_end ∷ []; up = [] }
lose i k false = record { ctl = unlinked k.ctl; down = shorten i k.down; up = [] }

-- A broken link is joined again if both queues are empty.
unfoldable pub join : Back → Bool → List Item → List Item → Back
join k false [] [] = record { ctl = record k.ctl { linked = true }; down = backend_up ∷ []; up = master_up ∷ [] }
join k l d u = k

-- A crash inside a step: the disk has the step's entry, and nothing is sent.
unfoldable pub silently : Back → Ctl → List Item → Back
silently k c d = record { ctl = c; down = d; up = k.up }

-- the backend crashes while it takes the first of these messages
unfoldable pub stopped_hearing : ℕ → Back → List Item → Back
unfolding silently crash
stopped_hearing j k [] = crash j k k.ctl.linked
stopped_hearing j k (x ∷ d) = crash j (silently k (hear k.ctl x).ctl d) k.ctl.linked

-- the backend crashes while it is asked
unfoldable pub stopped_asked : ℕ → NameAsk → Back → Back
unfolding silently crash
stopped_asked j a k = crash j (silently k (ask a k.ctl).ctl k.down) k.ctl.linked

-- the master crashes while it takes the first of these lines
unfoldable pub stopped_taking : ℕ → Bool → Seen → Back → List Item → LineStep
unfolding lose
stopped_taking i is_full s k [] = record { seen = s; back = lose i k k.ctl.linked }
stopped_taking i is_full s k (x ∷ u) = record { seen = (answer is_full s x).seen; back = lose i (record k { up = u }) k.ctl.linked }

-- the record as a backend finds it
unfoldable pub see : NameRecord → Server → Seen
see no_record b = free
see (recorded k s) b = cond (is_same_server s b) (own k) other

-- the record after a line of a backend, which finds it so then
unfoldable pub put : Seen → Server → NameRecord → NameRecord
put free b r = no_record
put other b r = r
put (own k) b r = recorded k b
