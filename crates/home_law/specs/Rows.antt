-- What holds of the name at a backend, of each message about it, and of each two: a row for each message. All of it is tests, so that it can
-- be computed, for every state and every message, that each step keeps it.
use Rattle.std.specs.Prelude.{Bool, true, false, ◌&&◌, ◌||◌, not, List, [], ◌∷◌}
use Rattle.home_law.specs.Items.{bare, kept, active, Seen, free, other, own, Mine, away, mine, HomePhase, no_phase, creating, serving, closing, pointer, HomeFlow, idle, reserving, making, pausing, deleting, Resync, synced, listing, Item, backend_up, backend_end, listed_active, listed_reserved, list_ok, reserve_ok, reserve_no, make_ok, make_no, again_ok, deactivate_ok, delete_ok, wipe_ok, found, found_ok, not_found, master_up, master_end, list, reserve, make, again, deactivate, delete, wipe, find, Ctl, is_among}

-- a record that names another server binds a backend as none does
unfoldable pub mine_of : Seen → Mine
mine_of free = away
mine_of other = away
mine_of (own k) = mine k

unfoldable pub is_away : Mine → Bool
is_away away = true
is_away (mine k) = false

unfoldable pub is_bare : Mine → Bool
is_bare (mine bare) = true
is_bare m = false

unfoldable pub is_kept : Mine → Bool
is_kept (mine kept) = true
is_kept m = false

unfoldable pub is_active : Mine → Bool
is_active (mine active) = true
is_active m = false

unfoldable pub is_creating : HomePhase → Bool
is_creating creating = true
is_creating p = false

unfoldable pub is_serving : HomePhase → Bool
is_serving serving = true
is_serving p = false

unfoldable pub is_closing : HomePhase → Bool
is_closing closing = true
is_closing p = false

unfoldable pub is_idle : HomeFlow → Bool
is_idle idle = true
is_idle f = false

unfoldable pub is_reserving : HomeFlow → Bool
is_reserving reserving = true
is_reserving f = false

unfoldable pub is_making : HomeFlow → Bool
is_making making = true
is_making f = false

unfoldable pub is_pausing : HomeFlow → Bool
is_pausing pausing = true
is_pausing f = false

unfoldable pub is_deleting : HomeFlow → Bool
is_deleting deleting = true
is_deleting f = false

unfoldable pub is_synced : Resync → Bool
is_synced synced = true
is_synced s = false

unfoldable pub is_listing : Resync → Bool
is_listing listing = true
is_listing s = false

-- Which phase a backend may be in, by the record. Only a backend that the record names, as a mailbox, may serve; it serves or is closed if
-- the name is reserved with an access list, and has the mailbox in some phase if the name is active.
unfoldable pub home_ok : Mine → HomePhase → Bool
home_ok away serving = false
home_ok (mine bare) serving = false
home_ok (mine bare) closing = false
home_ok (mine kept) serving = true
home_ok (mine kept) closing = true
home_ok (mine kept) p = false
home_ok (mine active) no_phase = false
home_ok (mine active) pointer = false
home_ok m p = true

-- Which flow may run, by record and phase.
unfoldable pub flow_ok : Mine → HomePhase → HomeFlow → Bool
unfolding is_closing is_creating is_serving is_bare is_kept is_active is_away
flow_ok m p idle = true
flow_ok m p reserving = not (is_closing p)
flow_ok m p making = is_creating p && (is_bare m || is_active m)
flow_ok m p pausing = is_serving p
flow_ok m p deleting = is_closing p && (is_kept m || is_away m)

-- Record, phase and flow fit. A flow or a resync runs only while the backend treats the link as up, and never both.
unfoldable pub control_ok : Mine → Ctl → Bool
unfolding home_ok flow_ok is_idle is_synced
control_ok m c = home_ok m c.phase && (flow_ok m c.phase c.flow && ((is_idle c.flow || c.hears && is_synced c.resync) && (c.hears || is_synced c.resync)))

-- If this message is on its way to the backend, then the record, the phase and the flow are so.
unfoldable pub answer_ok : Mine → Ctl → Item → Bool
unfolding is_listing is_synced is_away is_bare is_kept is_active is_creating is_serving is_closing is_idle is_reserving is_making is_pausing is_deleting
answer_ok m c backend_up = not c.hears
answer_ok m c backend_end = not c.linked
answer_ok m c listed_active = c.hears && is_listing c.resync && is_active m
answer_ok m c listed_reserved = c.hears && is_listing c.resync && (is_bare m || is_kept m)
answer_ok m c list_ok = c.hears && not (is_synced c.resync)
answer_ok m c reserve_ok = c.hears && is_reserving c.flow && is_bare m
answer_ok m c reserve_no = c.hears && is_reserving c.flow
answer_ok m c make_ok = c.hears && is_making c.flow && is_active m
answer_ok m c make_no = c.hears && is_making c.flow && is_bare m
answer_ok m c again_ok = c.hears && (is_kept m || is_active m) && (is_serving c.phase || is_closing c.phase && is_active m && is_idle c.flow)
answer_ok m c deactivate_ok = c.hears && is_pausing c.flow && is_kept m
answer_ok m c delete_ok = c.hears && is_deleting c.flow && is_away m
answer_ok m c wipe_ok = c.hears && (is_idle c.flow || is_reserving c.flow || is_pausing c.flow) && not (is_closing c.phase) && not (is_active m && is_creating c.phase)
answer_ok m c found = c.hears && is_closing c.phase && is_idle c.flow && is_away m
answer_ok m c not_found = c.hears && is_closing c.phase && is_idle c.flow && is_away m
answer_ok m c found_ok = c.hears
answer_ok m c x = false

-- If this line is on its way to the master, then the record and the phase are so, and the flow too unless the backend treats the link as
-- down. Lines of an earlier link are on their way only while the link is broken.
unfoldable pub line_ok : Mine → Ctl → Item → Bool
unfolding is_listing is_away is_bare is_kept is_active is_creating is_serving is_closing is_idle is_reserving is_making is_pausing is_deleting
line_ok m c master_up = not c.hears || is_listing c.resync
line_ok m c master_end = not c.linked
line_ok m c list = (c.hears || not c.linked) && (not c.hears || is_listing c.resync)
line_ok m c reserve = (c.hears || not c.linked) && not (is_closing c.phase) && (not c.hears || is_reserving c.flow)
line_ok m c make = (c.hears || not c.linked) && is_bare m && is_creating c.phase && (not c.hears || is_making c.flow)
line_ok m c again = (c.hears || not c.linked) && is_kept m && (is_serving c.phase || is_closing c.phase && is_idle c.flow)
line_ok m c deactivate = (c.hears || not c.linked) && is_serving c.phase && (is_kept m || is_active m) && (not c.hears || is_pausing c.flow)
line_ok m c delete = (c.hears || not c.linked) && is_kept m && is_closing c.phase && (not c.hears || is_deleting c.flow)
line_ok m c wipe = (c.hears || not c.linked) && is_bare m && (not c.hears || is_idle c.flow || is_reserving c.flow)
line_ok m c find = (c.hears || not c.linked) && (not c.hears || is_closing c.phase && is_idle c.flow && is_away m)
line_ok m c x = false

-- What may come after a message: first the messages to the backend in their order, then its lines in theirs.
unfoldable pub followers : Item → List Item
followers backend_up = backend_end ∷ master_up ∷ master_end ∷ []
followers backend_end = master_up ∷ master_end ∷ list ∷ reserve ∷ make ∷ again ∷ deactivate ∷ delete ∷ wipe ∷ find ∷ []
followers listed_active = backend_end ∷ master_end ∷ list_ok ∷ []
followers listed_reserved = backend_end ∷ master_end ∷ list_ok ∷ []
followers list_ok = backend_end ∷ master_end ∷ again ∷ again_ok ∷ wipe ∷ wipe_ok ∷ []
followers again = master_end ∷ reserve ∷ deactivate ∷ []
followers again_ok = backend_end ∷ master_end ∷ reserve ∷ reserve_no ∷ deactivate ∷ deactivate_ok ∷ []
followers wipe = master_end ∷ reserve ∷ []
followers wipe_ok = backend_end ∷ master_end ∷ reserve ∷ reserve_ok ∷ reserve_no ∷ deactivate ∷ deactivate_ok ∷ []
followers found = backend_end ∷ master_end ∷ found_ok ∷ []
followers found_ok = backend_end ∷ master_end ∷ reserve ∷ reserve_ok ∷ reserve_no ∷ make ∷ make_ok ∷ make_no ∷ again ∷ again_ok ∷ deactivate ∷ deactivate_ok ∷ delete ∷ delete_ok ∷ wipe ∷ wipe_ok ∷ []
followers master_up = master_end ∷ list ∷ []
followers master_end = []
followers x = backend_end ∷ master_end ∷ []

unfoldable pub precedes : Item → Item → Bool
unfolding followers is_among
precedes x y = is_among (followers x) y

-- Of the first message alone: when LIST's OK is taken, a name that wasn't listed has no record that names this backend.
unfoldable pub first_answer_ok : Mine → Ctl → Item → Bool
unfolding is_listing is_away
first_answer_ok m c list_ok = not (is_listing c.resync) || is_away m
first_answer_ok m c x = true

-- Of the first line alone: DEACTIVATE finds the name active.
unfoldable pub first_line_ok : Mine → Ctl → Item → Bool
unfolding is_active
first_line_ok m c deactivate = is_active m
first_line_ok m c x = true

-- The name is reserved, and the link whole: it may not stay so.
unfoldable pub is_unfinished : Mine → Ctl → Bool
unfolding is_bare is_kept
is_unfinished m c = c.linked && (is_bare m || is_kept m)

-- This message, on its way, leads to the end of that.
unfoldable pub finishes : Mine → Ctl → Item → Bool
unfolding is_bare is_kept is_among
finishes m c x = is_among (backend_up ∷ list ∷ listed_reserved ∷ []) x || is_bare m && is_among (reserve_ok ∷ make ∷ make_no ∷ wipe ∷ []) x || is_kept m && is_among (again ∷ deactivate_ok ∷ delete ∷ []) x

-- A flow waits for the answer to its line: either the line is on its way, or the answer.
unfoldable pub awaited_by : HomeFlow → List Item
awaited_by idle = []
awaited_by reserving = reserve ∷ reserve_ok ∷ reserve_no ∷ []
awaited_by making = make ∷ make_ok ∷ make_no ∷ []
awaited_by pausing = deactivate ∷ deactivate_ok ∷ []
awaited_by deleting = delete ∷ delete_ok ∷ []

-- A flow or a resync runs, and the link is whole.
unfoldable pub waits : Ctl → Bool
unfolding is_idle is_synced
waits c = c.linked && (not (is_idle c.flow) || not (is_synced c.resync))

-- This message is one that the flow or the resync waits for: for a resync it is LIST or its OK.
unfoldable pub is_awaited : Ctl → Item → Bool
unfolding is_among awaited_by is_synced
is_awaited c x = not (is_synced c.resync) && is_among (list ∷ list_ok ∷ []) x || is_among (awaited_by c.flow) x
