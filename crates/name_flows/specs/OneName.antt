-- What a backend's talk with the master is to one name: the state, the lines and the answers of `home_law`.
use Rattle.std.specs.Prelude.{◌≡◌, ℕ, Bool, true, false, is_some, if◌then◌else◌, List, [], ◌∷◌, ◌++◌, map, Option, None, Some}
use Rattle.std.specs.List.{flat_map}
use Rattle.std.specs.Ordering.{nat_cmp}
use Rattle.std.specs.Cmp.Lexicographic.{slice_cmp}
use Rattle.mur_base.specs.Map.{value_at, IsInOrder}
use Rattle.mur_base.specs.declared.home.Phase.{Phase}
use Rattle.mur_base.specs.declared.home.Phase.TheVariants.{Creating, Open, Closing, Receiving, Ready, Pointer}
use Rattle.mupdate_codec.specs.declared.command.MResponse.{MResponse}
use Rattle.mupdate_codec.specs.declared.command.MResponse.TheVariants as response
use Rattle.mupdate_codec.specs.declared.tag.Tag.{Tag}
use Rattle.node_record.specs.declared.held.Held.{Held}
use Rattle.node_record.specs.Held.{Names, held_at}
use Rattle.home_law.specs.Items.{Mine, HomePhase, no_phase, creating, serving, closing, pointer, HomeFlow, idle, reserving, making, pausing, deleting, Resync as Progress, synced, listing, listed, Item, list, reserve, make, again, deactivate, delete, wipe, find, Ctl}
use Rattle.home_law.specs.Rows.{control_ok}
use Rattle.home_law.specs.Steps.{BackStep, hear, NameAsk as Request, create, remove, ask}
use Rattle.home_law.specs.ManyNames.{SentLine as OpenLine, sent_list, sent_reserve, sent_make, sent_again, sent_deactivate, sent_delete, sent_wipe, sent_find, BackMessage, response as told, mailbox_told, reserve_told, ok_told, no_told, if_named, is_same_mailbox, downs_of}
use Rattle.name_flows.specs.declared.ask.AskKind.{AskKind}
use Rattle.name_flows.specs.declared.ask.AskKind.TheVariants.{Create, Delete as Remove}
use Rattle.name_flows.specs.declared.ask.NameAsk.{NameAsk}
use Rattle.name_flows.specs.declared.flow.Flow.{Flow}
use Rattle.name_flows.specs.declared.flow.Stage.{Stage}
use Rattle.name_flows.specs.declared.flow.Stage.TheVariants.{Reserving, Making, Deactivating, Deleting}
use Rattle.name_flows.specs.declared.flows.Flows.{Flows}
use Rattle.name_flows.specs.declared.resync.Resync.{Resync}
use Rattle.name_flows.specs.declared.sent.Sent.{Sent}
use Rattle.name_flows.specs.declared.sent.Sent.TheVariants.{List as List_line, Reserve, Make, Again, Deactivate, Delete, Wipe, Find}
use Rattle.name_flows.specs.declared.sent.SentLine.{SentLine}
use Rattle.name_flows.specs.Creates.{serial_in}
use Rattle.name_flows.specs.Heard.{is_answer, first_line, what_in}
use Rattle.name_flows.specs.Running.{flow_at}
use Rattle.name_flows.specs.Steps.{FlowStep, held_with}

-- A name whose content is coming in from another backend is as one that isn't here.
abbrev pub phase_of : Phase → HomePhase
phase_of Creating = creating
phase_of Open = serving
phase_of Closing = closing
phase_of Receiving = no_phase
phase_of Ready = no_phase
phase_of (Pointer server) = pointer

abbrev pub phase_in : Option Held → HomePhase
phase_in None = no_phase
phase_in (Some it) = phase_of it.phase

abbrev pub stage_of : Stage → HomeFlow
stage_of Reserving = reserving
stage_of Making = making
stage_of Deactivating = pausing
stage_of Deleting = deleting

abbrev pub flow_in : Option Flow → HomeFlow
flow_in None = idle
flow_in (Some flow) = stage_of flow.stage

abbrev pub progress_in : List ℕ → Option Resync → Progress
progress_in name None = synced
progress_in name (Some it) = if is_some (value_at (slice_cmp nat_cmp) it.listed name) then listed else listing

-- the state of the name; whether the link is broken is none of the backend's
abbrev pub ctl_of : Bool → Names → Flows → List ℕ → Ctl
ctl_of linked held flows name = record {
  phase = phase_in (held_at held name);
  flow = flow_in (flow_at flows name);
  resync = progress_in name flows.resync;
  hears = flows.up;
  linked = linked;
}

-- what a line is to the name
abbrev pub sent_items : List ℕ → Sent → List Item
sent_items n List_line = list ∷ []
sent_items n (Reserve m) = if_named m n reserve
sent_items n (Make m) = if_named m n make
sent_items n (Again m) = if_named m n again
sent_items n (Deactivate m) = if_named m n deactivate
sent_items n (Delete m) = if_named m n delete
sent_items n (Wipe m) = if_named m n wipe
sent_items n (Find m) = if_named m n find

abbrev pub line_items : List ℕ → SentLine → List Item
line_items n line = sent_items n line.what

-- the lines whose last answer hasn't come
abbrev pub open_line : Bool → Sent → OpenLine
open_line found List_line = sent_list
open_line found (Reserve m) = sent_reserve m
open_line found (Make m) = sent_make m
open_line found (Again m) = sent_again m
open_line found (Deactivate m) = sent_deactivate m
open_line found (Delete m) = sent_delete m
open_line found (Wipe m) = sent_wipe m
open_line found (Find m) = sent_find m found

abbrev pub open_behind : SentLine → OpenLine
open_behind line = open_line false line.what

abbrev pub open_by : Bool → List SentLine → List OpenLine
open_by found [] = []
open_by found (line ∷ lines) = open_line found line.what ∷ map open_behind lines

abbrev pub open_lines : Flows → List OpenLine
open_lines flows = open_by flows.found flows.sent

-- a step, as it is to the name
abbrev pub seen_by : List ℕ → Bool → Names → FlowStep → BackStep
seen_by name linked held it = record { ctl = ctl_of linked (held_with held it.entry) it.flows name; says = flat_map (line_items name) it.sends }

-- an ask of its own name is one to it
abbrev pub request : AskKind → Request
request Create = create
request Remove = remove

abbrev pub quiet : Ctl → BackStep
quiet c = record { ctl = c; says = [] }

abbrev pub asked_as : List ℕ → NameAsk → Ctl → BackStep
asked_as name it c = if is_same_mailbox it.name name then ask (request it.kind) c else quiet c

-- messages, one after the other
unfoldable pub heard_as : List Item → Ctl → BackStep
heard_as [] c = quiet c
heard_as (x ∷ xs) c = record { ctl = (heard_as xs (hear c x).ctl).ctl; says = (hear c x).says ++ (heard_as xs (hear c x).ctl).says }

-- a response, as ManyNames knows it
abbrev pub told_by : MResponse → List BackMessage
told_by (response.Mailbox name place acl) = told (mailbox_told name) ∷ []
told_by (response.Reserve name place) = told (reserve_told name) ∷ []
told_by (response.Delete name) = []
told_by (response.Ok text) = told ok_told ∷ []
told_by (response.No text) = told no_told ∷ []
told_by (response.Bad text) = told no_told ∷ []

-- A response that the protocol of one name knows: RESERVE's OK tells a UIDVALIDITY, names are listed during a resync. The end of a resync is
-- another law.
abbrev pub IsRead : Option Sent → MResponse → Flows → Type 0
IsRead (Some (Reserve m)) (response.Ok text) flows = is_some (serial_in text) ≡ true
IsRead (Some List_line) (response.Ok text) flows = ⊥
IsRead (Some List_line) (response.Mailbox name place acl) flows = is_some flows.resync ≡ true
IsRead (Some List_line) (response.Reserve name place) flows = is_some flows.resync ≡ true
IsRead what it flows = Unit {0}

-- a response that answers the first line, where record, phase and flow of the name fit (`control_ok`)
pub record CanHear (m : Mine) (linked : Bool) (name : List ℕ) (flows : Flows) (held : Names) (tag : Tag) (it : MResponse) : Type 0 where
  pub answers : is_answer flows.sent tag ≡ true
  pub read : IsRead (what_in (first_line flows.sent)) it flows
  pub control : control_ok m (ctl_of linked held flows name) ≡ true
  pub running : IsInOrder (slice_cmp nat_cmp) flows.running
  pub names : IsInOrder (slice_cmp nat_cmp) held
