-- Above each UID that the talk with the master writes there is a UIDNEXT: it puts no message.
use Rattle.std.proofs.Common.{ℕ, Bool, true, false, cond, not, ◌&&◌, ◌||◌, List, [], ◌∷◌, filter, map, Option, None, Some}
use Rattle.std.specs.Option.{IfSome}
use Rattle.mupdate_codec.specs.declared.command.MResponse.{MResponse}
use Rattle.mupdate_codec.specs.declared.command.MResponse.TheVariants as response
use Rattle.mupdate_codec.specs.declared.tag.Tag.{Tag}
use Rattle.mur_base.specs.declared.home.Location.{Location}
use Rattle.link_msg.specs.declared.answer.AnswerBody.{AnswerBody}
use Rattle.link_msg.specs.declared.outcome.Outcome.TheVariants.{None as nothing}
use Rattle.node_record.specs.declared.backend.BackendRecord.TheVariants.{Opened, Pointer}
use Rattle.node_record.specs.Held.{Names, EntryLeavesNext, held_at}
use Rattle.name_flows.specs.declared.ask.NameAsk.{NameAsk}
use Rattle.name_flows.specs.declared.flow.Stage.TheVariants.{Reserving, Making, Deactivating, Deleting}
use Rattle.name_flows.specs.declared.flows.Flows.{Flows}
use Rattle.name_flows.specs.declared.gives.Gives.{Gives}
use Rattle.name_flows.specs.declared.resync.Resync.{Resync}
use Rattle.name_flows.specs.declared.sent.Sent.{Sent}
use Rattle.name_flows.specs.declared.sent.Sent.TheVariants.{List as list, Reserve, Make, Again, Deactivate, Delete, Wipe, Find}
use Rattle.name_flows.specs.declared.sent.SentLine.{SentLine}
use Rattle.name_flows.specs.Asked.{asked_by, asked_step, refusal, tested_by}
use Rattle.name_flows.specs.Creates.{full, make_no, make_ok, reserve_no, reserve_ok, reserve_refused, reserved_by, serial_in}
use Rattle.name_flows.specs.Deletes.{closes, deactivate_ok, delete_ok}
use Rattle.name_flows.specs.Finds.{forgotten_if}
use Rattle.name_flows.specs.Heard.{first_line, heard_step, is_answer, no_by, no_of, ok_by, ok_of, record_of, response_step, taken, what_in}
use Rattle.name_flows.specs.Listed.{forget_all, is_unmade, list_ok_by, name_in}
use Rattle.name_flows.specs.Listing.{active_listed, listed_step}
use Rattle.name_flows.specs.Phases.{is_closing, is_creating}
use Rattle.name_flows.specs.Running.{answers_for, done, ended, flow_at, forget, goes_on, has_flow, is_at}
use Rattle.name_flows.specs.Steps.{FlowStep, changing, finished, given, silent}

abbrev pub Next : FlowStep → Type 0
Next step = IfSome step.entry EntryLeavesNext

next_if : (test : Bool) (one other : FlowStep) → Next one → Next other → Next (cond test one other)
next_if true one other next nexts = next
next_if false one other next nexts = nexts

abbrev opens : List ℕ → Gives
opens name = record { entry = Some (Opened name); sends = []; answers = [] }

abbrev changes_nothing : Gives
changes_nothing = record { entry = None; sends = []; answers = [] }

-- ---- an ask

next_tested : (flows : Flows) (ask : NameAsk) (body : Option AnswerBody) → Next (tested_by flows ask body)
next_tested flows ask None = tt
next_tested flows ask (Some body) = tt

next_asked_by : (flows : Flows) (held : Names) (ask : NameAsk) (resync : Option Resync) → Next (asked_by flows held ask resync)
unfolding asked_by
next_asked_by flows held ask None = next_tested flows ask (refusal flows held ask.name ask.kind)
next_asked_by flows held ask (Some it) = tt

pub next_asked : (flows : Flows) (held : Names) (ask : NameAsk) → Next (asked_step flows held ask)
unfolding asked_step
next_asked flows held ask = next_asked_by flows held ask flows.resync

-- ---- OK

next_reserved : (flows : Flows) (tag : Tag) (name : List ℕ) (serial : Option ℕ) → Next (reserved_by flows tag name serial)
next_reserved flows tag name None = tt
next_reserved flows tag name (Some serial) = tt

next_forgotten : (name : List ℕ) (test : Bool) → IfSome (forgotten_if test name).entry EntryLeavesNext
next_forgotten name true = tt
next_forgotten name false = tt

next_unmade : (names : List (List ℕ)) → IfSome (forget_all names) EntryLeavesNext
next_unmade [] = tt
next_unmade (name ∷ names) = tt

next_list_ok : (flows : Flows) (held : Names) (resync : Option Resync) → Next (list_ok_by flows held resync)
next_list_ok flows held None = tt
next_list_ok flows held (Some it) = next_unmade (map name_in (filter (is_unmade it.listed) held))

next_ok_of : (flows : Flows) (held : Names) (found : Bool) (tag : Tag) (text : List ℕ) (what : Sent) → Next (ok_of flows held found tag text what)
unfolding ok_of reserve_ok make_ok deactivate_ok delete_ok
next_ok_of flows held found tag text list = next_list_ok (record flows { resync = None }) held flows.resync
next_ok_of flows held found tag text (Reserve name) =
    next_if (is_at flows name Reserving) (reserved_by flows tag name (serial_in text)) (silent flows) (next_reserved flows tag name (serial_in text)) tt
next_ok_of flows held found tag text (Make name) =
    next_if (is_at flows name Making) (changing (ended flows name) (Opened name) (answers_for (done nothing) (flow_at flows name))) (silent flows) tt tt
next_ok_of flows held found tag text (Again name) =
    next_if (is_closing (held_at held name) && not (has_flow flows name)) (changing flows (Opened name) []) (silent flows) tt tt
next_ok_of flows held found tag text (Deactivate name) =
    next_if (is_at flows name Deactivating) (given (goes_on flows name Deleting) (closes tag name)) (silent flows) tt tt
next_ok_of flows held found tag text (Delete name) =
    next_if (is_at flows name Deleting) (changing (ended flows name) (forget name) (answers_for (done nothing) (flow_at flows name))) (silent flows) tt tt
next_ok_of flows held found tag text (Wipe name) = next_forgotten name (is_creating (held_at held name))
next_ok_of flows held found tag text (Find name) = next_forgotten name (not found && is_closing (held_at held name))

next_ok : (flows : Flows) (held : Names) (found : Bool) (text : List ℕ) (line : Option SentLine) → Next (ok_by flows held found text line)
next_ok flows held found text None = tt
next_ok flows held found text (Some line) = next_ok_of flows held found line.tag text line.what

-- ---- other responses

next_no_of : (flows : Flows) (text : List ℕ) (what : Sent) → Next (no_of flows text what)
unfolding no_of reserve_no make_no
next_no_of flows text (Reserve name) = next_if (is_at flows name Reserving) (finished flows name (reserve_refused text)) (silent flows) tt tt
next_no_of flows text (Make name) = next_if (is_at flows name Making) (full flows name) (silent flows) tt tt
next_no_of flows text what = tt

next_no : (flows : Flows) (text : List ℕ) (line : Option SentLine) → Next (no_by flows text line)
next_no flows text None = tt
next_no flows text (Some line) = next_no_of flows text line.what

next_active : (held : Names) (name : List ℕ) → IfSome (active_listed held name).entry EntryLeavesNext
next_active held name = by (is_creating (held_at held name) || is_closing (held_at held name))
  where
    by : (test : Bool) → IfSome (cond test (opens name) changes_nothing).entry EntryLeavesNext
    by true = tt
    by false = tt

next_listed : (flows : Flows) (held : Names) (name : List ℕ) (active : Bool) → Next (listed_step flows held name active)
next_listed flows held name true = next_active held name
next_listed flows held name false = tt

next_record : (flows : Flows) (held : Names) (name : List ℕ) (place : Location) (active : Bool) (what : Option Sent)
    → Next (record_of flows held name place active what)
next_record flows held name place active (Some list) = next_listed flows held name active
next_record flows held name place active (Some (Find sought)) =
    let found = record flows { found = true } in
    next_if (is_closing (held_at held sought)) (changing found (Pointer sought place.server) []) (silent found) tt tt
next_record flows held name place active what = tt

next_response : (flows : Flows) (held : Names) (it : MResponse) → Next (response_step flows held it)
next_response flows held (response.Mailbox name place acl) = next_record flows held name place true (what_in (first_line flows.sent))
next_response flows held (response.Reserve name place) = next_record flows held name place false (what_in (first_line flows.sent))
next_response flows held (response.Delete name) = tt
next_response flows held (response.Ok text) = next_ok (taken flows) held flows.found text (first_line flows.sent)
next_response flows held (response.No text) = next_no (taken flows) text (first_line flows.sent)
next_response flows held (response.Bad text) = next_no (taken flows) text (first_line flows.sent)

pub next_heard : (flows : Flows) (held : Names) (tag : Tag) (it : MResponse) → Next (heard_step flows held tag it)
unfolding heard_step
next_heard flows held tag it = next_if (is_answer flows.sent tag) (response_step flows held it) (silent flows) (next_response flows held it) tt
