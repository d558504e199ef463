-- What a backend and the master do with a message about the name.
use Rattle.std.specs.Prelude.{Bool, true, false, List, [], ◌∷◌}
use Rattle.home_law.specs.Items.{bare, kept, active, Seen, free, other, own, HomePhase, no_phase, creating, serving, closing, pointer, HomeFlow, idle, reserving, making, pausing, deleting, Resync, synced, listing, listed, Item, backend_up, backend_end, listed_active, listed_reserved, list_ok, reserve_ok, reserve_no, make_ok, make_no, again_ok, deactivate_ok, delete_ok, wipe_ok, found, found_ok, not_found, refused, list, reserve, make, again, deactivate, delete, wipe, find, Ctl}

-- a backend after a step, and the lines that it sends to the master
pub record BackStep : Type 0 where
  pub ctl : Ctl
  pub says : List Item

abbrev pub silent : Ctl → BackStep
silent c = record { ctl = c; says = [] }

-- THE BACKEND takes a message of the master.

-- The name is listed as active here: what was made or closed here serves.
unfoldable pub hear_listed_active : Ctl → HomePhase → BackStep
hear_listed_active c creating = silent (record c { phase = serving; resync = listed })
hear_listed_active c closing = silent (record c { phase = serving; resync = listed })
hear_listed_active c p = silent (record c { resync = listed })

-- The name is listed as reserved here: a mailbox that serves or is closed here is activated again, any other name deleted.
unfoldable pub hear_listed_reserved : Ctl → HomePhase → BackStep
hear_listed_reserved c serving = record { ctl = record c { resync = listed }; says = again ∷ [] }
hear_listed_reserved c closing = record { ctl = record c { resync = listed }; says = again ∷ [] }
hear_listed_reserved c p = record { ctl = record c { resync = listed }; says = wipe ∷ [] }

-- LIST's OK: of the names that weren't listed, one that was made here is forgotten, and one that is closed here is looked for.
unfoldable pub hear_list_ok : Ctl → Resync → HomePhase → BackStep
hear_list_ok c listing creating = silent (record c { resync = synced; phase = no_phase })
hear_list_ok c listing closing = record { ctl = record c { resync = synced }; says = find ∷ [] }
hear_list_ok c s p = silent (record c { resync = synced })

-- RESERVE's OK: the CREATE makes the mailbox, and sends ACTIVATE.
unfoldable pub hear_reserve_ok : Ctl → HomeFlow → BackStep
hear_reserve_ok c reserving = record { ctl = record c { phase = creating; flow = making }; says = make ∷ [] }
hear_reserve_ok c f = silent c

-- RESERVE's NO: the CREATE ends.
unfoldable pub hear_reserve_no : Ctl → HomeFlow → BackStep
hear_reserve_no c reserving = silent (record c { flow = idle })
hear_reserve_no c f = silent c

-- ACTIVATE's OK: the CREATE ends, and the mailbox serves.
unfoldable pub hear_make_ok : Ctl → HomeFlow → BackStep
hear_make_ok c making = silent (record c { phase = serving; flow = idle })
hear_make_ok c f = silent c

-- ACTIVATE's NO: the CREATE ends, the mailbox is forgotten, and the reserved name deleted.
unfoldable pub hear_make_no : Ctl → HomeFlow → BackStep
hear_make_no c making = record { ctl = record c { phase = no_phase; flow = idle }; says = wipe ∷ [] }
hear_make_no c f = silent c

-- The OK of a resync's ACTIVATE: a mailbox that is closed here serves again.
unfoldable pub hear_again_ok : Ctl → HomePhase → HomeFlow → BackStep
hear_again_ok c closing idle = silent (record c { phase = serving })
hear_again_ok c p f = silent c

-- DEACTIVATE's OK: the client's DELETE closes the mailbox, and sends DELETE.
unfoldable pub hear_deactivate_ok : Ctl → HomeFlow → BackStep
hear_deactivate_ok c pausing = record { ctl = record c { phase = closing; flow = deleting }; says = delete ∷ [] }
hear_deactivate_ok c f = silent c

-- DELETE's OK: the client's DELETE ends, and the mailbox is forgotten.
unfoldable pub hear_delete_ok : Ctl → HomeFlow → BackStep
hear_delete_ok c deleting = silent (record c { phase = no_phase; flow = idle })
hear_delete_ok c f = silent c

-- The OK of another DELETE: what was made here is forgotten.
unfoldable pub hear_wipe_ok : Ctl → HomePhase → BackStep
hear_wipe_ok c creating = silent (record c { phase = no_phase })
hear_wipe_ok c p = silent c

-- FIND's answer: a name that is closed here gets this phase.
unfoldable pub hear_find : HomePhase → Ctl → HomePhase → BackStep
hear_find next c closing = silent (record c { phase = next })
hear_find next c p = silent c

-- When its link comes up a backend sends LIST; when it goes down its flow and its resync end.
unfoldable pub hear : Ctl → Item → BackStep
unfolding hear_listed_active hear_listed_reserved hear_list_ok hear_reserve_ok hear_reserve_no hear_make_ok hear_make_no hear_again_ok hear_deactivate_ok hear_delete_ok hear_wipe_ok hear_find
hear c backend_up = record { ctl = record c { hears = true; resync = listing }; says = list ∷ [] }
hear c backend_end = silent (record c { hears = false; resync = synced; flow = idle })
hear c listed_active = hear_listed_active c c.phase
hear c listed_reserved = hear_listed_reserved c c.phase
hear c list_ok = hear_list_ok c c.resync c.phase
hear c reserve_ok = hear_reserve_ok c c.flow
hear c reserve_no = hear_reserve_no c c.flow
hear c make_ok = hear_make_ok c c.flow
hear c make_no = hear_make_no c c.flow
hear c again_ok = hear_again_ok c c.phase c.flow
hear c deactivate_ok = hear_deactivate_ok c c.flow
hear c delete_ok = hear_delete_ok c c.flow
hear c wipe_ok = hear_wipe_ok c c.phase
hear c found = hear_find pointer c c.phase
hear c not_found = hear_find no_phase c c.phase
hear c x = silent c

-- THE MASTER takes a line of a backend. After it the backend finds the record so, and is sent these answers.
pub record MasterStep : Type 0 where
  pub seen : Seen
  pub says : List Item

abbrev pub with_answer : Seen → Item → MasterStep
with_answer s x = record { seen = s; says = x ∷ [] }

-- LIST: the line of a record that names the backend, and OK.
unfoldable pub answer_list : Seen → MasterStep
answer_list (own active) = record { seen = own active; says = listed_active ∷ list_ok ∷ [] }
answer_list (own k) = record { seen = own k; says = listed_reserved ∷ list_ok ∷ [] }
answer_list s = with_answer s list_ok

-- RESERVE: a name without a record is reserved, unless no serial is left.
unfoldable pub answer_reserve : Bool → Seen → MasterStep
answer_reserve true free = with_answer free reserve_no
answer_reserve false free = with_answer (own bare) reserve_ok
answer_reserve is_full s = with_answer s reserve_no

-- ACTIVATE: the name is active, unless its record names another server, or it is no mailbox and there are as many as may be.
unfoldable pub answer_activate : Bool → Seen → Item → Item → MasterStep
answer_activate is_full other granted full = with_answer other refused
answer_activate true free granted full = with_answer free full
answer_activate true (own bare) granted full = with_answer (own bare) full
answer_activate is_full s granted full = with_answer (own active) granted

-- DEACTIVATE: an active name of this server is reserved, and keeps its access list.
unfoldable pub answer_deactivate : Seen → MasterStep
answer_deactivate (own active) = with_answer (own kept) deactivate_ok
answer_deactivate s = with_answer s refused

-- DELETE: a name of this server has no record any more.
unfoldable pub answer_delete : Seen → Item → MasterStep
answer_delete (own k) ok = with_answer free ok
answer_delete s ok = with_answer s refused

-- FIND: the line of the record, whatever server it names, and OK.
unfoldable pub answer_find : Seen → MasterStep
answer_find free = with_answer free not_found
answer_find s = record { seen = s; says = found ∷ found_ok ∷ [] }

-- `is_full`: no serial is left, at RESERVE; there are as many mailboxes as may be, at ACTIVATE. The law holds whatever it is.
unfoldable pub answer : Bool → Seen → Item → MasterStep
unfolding answer_list answer_reserve answer_activate answer_deactivate answer_delete answer_find
answer is_full s list = answer_list s
answer is_full s reserve = answer_reserve is_full s
answer is_full s make = answer_activate is_full s make_ok make_no
answer is_full s again = answer_activate is_full s again_ok refused
answer is_full s deactivate = answer_deactivate s
answer is_full s delete = answer_delete s delete_ok
answer is_full s wipe = answer_delete s wipe_ok
answer is_full s find = answer_find s
answer is_full s x = record { seen = s; says = [] }

-- A FRONTEND asks the backend to create the mailbox, or to remove it.
pub data NameAsk : Type 0 where
  create : NameAsk
  remove : NameAsk

-- A mailbox that is closed here isn't created: what becomes of it is still open. One that doesn't serve isn't removed.
unfoldable pub begin_ask : NameAsk → Ctl → HomePhase → BackStep
begin_ask create c closing = silent c
begin_ask create c p = record { ctl = record c { flow = reserving }; says = reserve ∷ [] }
begin_ask remove c serving = record { ctl = record c { flow = pausing }; says = deactivate ∷ [] }
begin_ask remove c p = silent c

-- An ask is carried out if the link is up, and neither a resync nor a flow runs.
unfoldable pub ask_at : NameAsk → Ctl → Bool → Resync → HomeFlow → BackStep
unfolding begin_ask
ask_at a c true synced idle = begin_ask a c c.phase
ask_at a c h s f = silent c

unfoldable pub ask : NameAsk → Ctl → BackStep
unfolding ask_at
ask a c = ask_at a c c.hears c.resync c.flow

-- The link breaks.
abbrev pub unlinked : Ctl → Ctl
unlinked c = record c { linked = false }

-- The backend crashes, and starts again from its disk with its links down.
abbrev pub crashed : Ctl → Ctl
crashed c = record c { flow = idle; resync = synced; hears = false; linked = false }
