-- What the backend has stays in order, whatever comes to it.
use Rattle.std.proofs.Common.{◌≡◌, ℕ, ◌<◌, ◌^◌, Bool, true, false, ◌&&◌, ◌||◌, not, cond, List, [], ◌∷◌, ◌++◌, map, filter, Option, None, Some, refl, sym, subst}
use Rattle.std.specs.List.{fold}
use Rattle.std.specs.Ordering.{nat_cmp}
use Rattle.std.specs.Cmp.Lexicographic.{slice_cmp}
use Rattle.std.proofs.lemmas.Cmp.{nat_list_cmp_total}
use Rattle.mur_base.specs.Map.{IsInOrder}
use Rattle.mur_base.proofs.MapOrder.{with_entry-in_order, with_value-in_order}
use Rattle.mur_base.specs.declared.home.Location.{Location}
use Rattle.link_msg.specs.declared.answer.AnswerBody.{AnswerBody}
use Rattle.mupdate_codec.specs.declared.command.MResponse.{MResponse}
use Rattle.mupdate_codec.specs.declared.command.MResponse.TheVariants as response
use Rattle.mupdate_codec.specs.declared.tag.Tag.{Tag}
use Rattle.node_record.specs.declared.held.Held.{Held}
use Rattle.node_record.specs.declared.backend.BackendRecord.TheVariants as entry
use Rattle.node_record.specs.Held.{Names, held_at, changed_if, forgotten}
use Rattle.name_flows.specs.declared.ask.NameAsk.{NameAsk}
use Rattle.name_flows.specs.declared.flow.Flow.{Flow}
use Rattle.name_flows.specs.declared.flow.Stage.{Stage}
use Rattle.name_flows.specs.declared.flow.Stage.TheVariants.{Reserving, Making, Deactivating, Deleting}
use Rattle.name_flows.specs.declared.flows.Flows.{Flows}
use Rattle.name_flows.specs.declared.resync.Resync.{Resync}
use Rattle.name_flows.specs.declared.sent.Sent.{Sent}
use Rattle.name_flows.specs.declared.sent.Sent.TheVariants.{List as List_line, Reserve, Make, Again, Deactivate, Delete, Wipe, Find}
use Rattle.name_flows.specs.declared.sent.SentLine.{SentLine}
use Rattle.name_flows.specs.Asked.{refusal, tested_by, asked_by, asked_step}
use Rattle.name_flows.specs.Creates.{serial_in, reserved_by, reserve_ok, reserve_no, make_ok, make_no}
use Rattle.name_flows.specs.Deletes.{deactivate_ok, delete_ok}
use Rattle.name_flows.specs.Finds.{forgotten_if}
use Rattle.name_flows.specs.Heard.{is_same_tag, taken, ok_of, no_of, record_of, heard_step}
use Rattle.name_flows.specs.Link.{waiting_in}
use Rattle.name_flows.specs.Listed.{is_unmade, name_in, forget_all, Round, round_by, round, list_ok_by}
use Rattle.name_flows.specs.Listing.{noted_in, noted, listed_step}
use Rattle.name_flows.specs.Phases.{is_creating, is_closing}
use Rattle.name_flows.specs.Running.{staged, has_flow, is_at}
use Rattle.name_flows.specs.Steps.{FlowStep, given, silent, changing, held_with}
use Rattle.name_links.specs.LinkIs.{AreNumbered}
use Rattle.name_links.proofs.LinesByName.{order_kept}
use Rattle.name_links.proofs.Sends.{step_by, heard_is}

-- what a backend has is in order
pub record IsOrdered (me : Location) (flows : Flows) (held : Names) : Type 0 where
  pub me_is : flows.me ≡ me
  pub running : IsInOrder (slice_cmp nat_cmp) flows.running
  pub names : IsInOrder (slice_cmp nat_cmp) held
  pub waiting : AreNumbered (waiting_in flows.resync)

abbrev pub StepOrdered : Location → Names → FlowStep → Type 0
StepOrdered me held step = IsOrdered me step.flows (held_with held step.entry)

staged_order : (running : List (List ℕ × Flow)) (name : List ℕ) (stage : Stage) (f : Option Flow) → IsInOrder (slice_cmp nat_cmp) running
    → IsInOrder (slice_cmp nat_cmp) (staged running name stage f)
staged_order running name stage None order = order
staged_order running name stage (Some flow) order = with_value-in_order (slice_cmp nat_cmp) running name (record flow { stage = stage }) order

changed_order : (held : Names) (name : List ℕ) (change : Held → Held) (h : Option Held) → IsInOrder (slice_cmp nat_cmp) held → IsInOrder (slice_cmp nat_cmp) (changed_if held name change h)
changed_order held name change None order = order
changed_order held name change (Some it) order = with_value-in_order (slice_cmp nat_cmp) held name _ order

forgotten_order : (names : List (List ℕ)) (held : Names) → IsInOrder (slice_cmp nat_cmp) held → IsInOrder (slice_cmp nat_cmp) (fold forgotten held names)
forgotten_order [] held order = order
forgotten_order (name ∷ names) held order = forgotten_order names (forgotten held name) (order_kept name held order)

forget_order : (names : List (List ℕ)) (held : Names) → IsInOrder (slice_cmp nat_cmp) held → IsInOrder (slice_cmp nat_cmp) (held_with held (forget_all names))
forget_order [] held order = order
forget_order (name ∷ names) held order = forgotten_order (name ∷ names) held order

noted_waiting : (r : Option Resync) (name : List ℕ) → AreNumbered (waiting_in r) → AreNumbered (waiting_in (noted_in r name))
noted_waiting None name w = w
noted_waiting (Some it) name w = w

module _ (me : Location) (f : Flows) (held : Names) (is : IsOrdered me f held) where
  if_ordered : (b : Bool) (step : FlowStep) → StepOrdered me held step → StepOrdered me held (cond b step (silent f))
  if_ordered true step k = k
  if_ordered false step k = is

  forgets_ordered : (b : Bool) (name : List ℕ) → StepOrdered me held (given f (forgotten_if b name))
  forgets_ordered true name = record { me_is = is.me_is; running = is.running; names = order_kept name held is.names; waiting = is.waiting }
  forgets_ordered false name = is

  reserved_ordered : (tag : Tag) (name : List ℕ) (serial : Option ℕ) → StepOrdered me held (reserved_by f tag name serial)
  reserved_ordered tag name None = record { me_is = is.me_is; running = order_kept name f.running is.running; names = is.names; waiting = is.waiting }
  reserved_ordered tag name (Some serial) = record {
    me_is = is.me_is;
    running = staged_order f.running name Making _ is.running;
    names = with_entry-in_order (slice_cmp nat_cmp) nat_list_cmp_total held name _ is.names;
    waiting = is.waiting;
  }

  -- ---- the end of a resync

  rounds_ordered : (asks : List NameAsk) (it : Round) → (it.flows.me ≡ me) × IsInOrder (slice_cmp nat_cmp) it.flows.running × (it.flows.resync ≡ None)
      → ((fold (round held) it asks).flows.me ≡ me) × IsInOrder (slice_cmp nat_cmp) (fold (round held) it asks).flows.running × ((fold (round held) it asks).flows.resync ≡ None)
  rounds_ordered [] it o = o
  rounds_ordered (ask ∷ asks) it o = rounds_ordered asks (round held it ask) (by_body (refusal it.flows held ask.name ask.kind))
    where
      by_body : (body : Option AnswerBody) → ((round_by it ask body).flows.me ≡ me) × IsInOrder (slice_cmp nat_cmp) (round_by it ask body).flows.running × ((round_by it ask body).flows.resync ≡ None)
      by_body (Some body) = o
      by_body None = (o.0, with_entry-in_order (slice_cmp nat_cmp) nat_list_cmp_total it.flows.running ask.name _ o.1, o.2)

  ended_ordered : (r : Option Resync) → StepOrdered me held (list_ok_by (record f { resync = None }) held r)
  ended_ordered None = record { me_is = is.me_is; running = is.running; names = is.names; waiting = tt }
  ended_ordered (Some w) =
      let o = rounds_ordered w.waiting _ (is.me_is, is.running, refl) in
      record {
        me_is = o.0;
        running = o.1;
        names = forget_order (map name_in (filter (is_unmade w.listed) held)) held is.names;
        waiting = subst (λ (r : Option Resync). AreNumbered (waiting_in r)) (sym o.2) tt;
      }

  -- ---- by the line that is answered

  ok_ordered : (found : Bool) (tag : Tag) (text : List ℕ) (what : Sent) → StepOrdered me held (ok_of f held found tag text what)
  unfolding ok_of reserve_ok make_ok deactivate_ok delete_ok
  ok_ordered found tag text List_line = ended_ordered f.resync
  ok_ordered found tag text (Reserve name) = if_ordered (is_at f name Reserving) _ (reserved_ordered tag name (serial_in text))
  ok_ordered found tag text (Make name) = if_ordered (is_at f name Making) _ (record {
    me_is = is.me_is;
    running = order_kept name f.running is.running;
    names = changed_order held name _ (held_at held name) is.names;
    waiting = is.waiting;
  })
  ok_ordered found tag text (Again name) = if_ordered (is_closing (held_at held name) && not (has_flow f name)) _ (record {
    me_is = is.me_is;
    running = is.running;
    names = changed_order held name _ (held_at held name) is.names;
    waiting = is.waiting;
  })
  ok_ordered found tag text (Deactivate name) = if_ordered (is_at f name Deactivating) _ (record {
    me_is = is.me_is;
    running = staged_order f.running name Deleting _ is.running;
    names = changed_order held name _ (held_at held name) is.names;
    waiting = is.waiting;
  })
  ok_ordered found tag text (Delete name) = if_ordered (is_at f name Deleting) _ (record {
    me_is = is.me_is;
    running = order_kept name f.running is.running;
    names = order_kept name held is.names;
    waiting = is.waiting;
  })
  ok_ordered found tag text (Wipe name) = forgets_ordered (is_creating (held_at held name)) name
  ok_ordered found tag text (Find name) = forgets_ordered (not found && is_closing (held_at held name)) name

  no_ordered : (text : List ℕ) (what : Sent) → StepOrdered me held (no_of f text what)
  unfolding no_of reserve_no make_no
  no_ordered text (Reserve name) = if_ordered (is_at f name Reserving) _ (record { me_is = is.me_is; running = order_kept name f.running is.running; names = is.names; waiting = is.waiting })
  no_ordered text (Make name) = if_ordered (is_at f name Making) _ (record {
    me_is = is.me_is;
    running = order_kept name f.running is.running;
    names = order_kept name held is.names;
    waiting = is.waiting;
  })
  no_ordered text List_line = is
  no_ordered text (Again name) = is
  no_ordered text (Deactivate name) = is
  no_ordered text (Delete name) = is
  no_ordered text (Wipe name) = is
  no_ordered text (Find name) = is

  listed_ordered : (name : List ℕ) (is_active : Bool) → StepOrdered me held (listed_step f held name is_active)
  listed_ordered name true = by_test (is_creating (held_at held name) || is_closing (held_at held name))
    where
      by_test : (b : Bool) → StepOrdered me held (given (noted f name) (cond b (record { entry = Some (entry.Opened name); sends = []; answers = [] }) (record { entry = None; sends = []; answers = [] })))
      by_test true = record { me_is = is.me_is; running = is.running; names = changed_order held name _ (held_at held name) is.names; waiting = noted_waiting f.resync name is.waiting }
      by_test false = record { me_is = is.me_is; running = is.running; names = is.names; waiting = noted_waiting f.resync name is.waiting }
  listed_ordered name false = record { me_is = is.me_is; running = is.running; names = is.names; waiting = noted_waiting f.resync name is.waiting }

  found_ordered : (name server : List ℕ) (b : Bool)
      → StepOrdered me held (cond b (changing (record f { found = true }) (entry.Pointer name server) []) (silent (record f { found = true })))
  found_ordered name server true = record {
    me_is = is.me_is;
    running = is.running;
    names = with_entry-in_order (slice_cmp nat_cmp) nat_list_cmp_total held name _ is.names;
    waiting = is.waiting;
  }
  found_ordered name server false = record { me_is = is.me_is; running = is.running; names = is.names; waiting = is.waiting }

  record_ordered : (name : List ℕ) (place : Location) (is_active : Bool) (what : Sent) → StepOrdered me held (record_of f held name place is_active (Some what))
  record_ordered name place is_active List_line = listed_ordered name is_active
  record_ordered name place is_active (Find sought) = found_ordered sought place.server (is_closing (held_at held sought))
  record_ordered name place is_active (Reserve m) = is
  record_ordered name place is_active (Make m) = is
  record_ordered name place is_active (Again m) = is
  record_ordered name place is_active (Deactivate m) = is
  record_ordered name place is_active (Delete m) = is
  record_ordered name place is_active (Wipe m) = is

  -- ---- an ask

  more_numbered : (asks : List NameAsk) (ask : NameAsk) → AreNumbered asks → (ask.id.conn < 2 ^ 64) × (ask.id.command < 2 ^ 64) → AreNumbered (asks ++ ask ∷ [])
  more_numbered [] ask all fit = (fit, tt)
  more_numbered (first ∷ asks) ask all fit = (all.0, more_numbered asks ask all.1 fit)

  tested_ordered : (ask : NameAsk) (body : Option AnswerBody) → StepOrdered me held (tested_by f ask body)
  tested_ordered ask (Some body) = is
  tested_ordered ask None = record {
    me_is = is.me_is;
    running = with_entry-in_order (slice_cmp nat_cmp) nat_list_cmp_total f.running ask.name _ is.running;
    names = is.names;
    waiting = is.waiting;
  }

  asked_by_ordered : (ask : NameAsk) (r : Option Resync) → f.resync ≡ r → (ask.id.conn < 2 ^ 64) × (ask.id.command < 2 ^ 64) → StepOrdered me held (asked_by f held ask r)
  unfolding asked_by
  asked_by_ordered ask None e fit = tested_ordered ask (refusal f held ask.name ask.kind)
  asked_by_ordered ask (Some w) e fit = record {
    me_is = is.me_is;
    running = is.running;
    names = is.names;
    waiting = more_numbered w.waiting ask (subst (λ (r : Option Resync). AreNumbered (waiting_in r)) e is.waiting) fit;
  }

  pub asked_ordered : (ask : NameAsk) → ask.id.conn < 2 ^ 64 → ask.id.command < 2 ^ 64 → StepOrdered me held (asked_step f held ask)
  unfolding asked_step
  asked_ordered ask conn command = asked_by_ordered ask f.resync refl (conn, command)

module _ (me : Location) (flows : Flows) (held : Names) (tag : Tag) (line : SentLine) (lines : List SentLine) (e : flows.sent ≡ line ∷ lines)
    (same : is_same_tag line.tag tag ≡ true) (is : IsOrdered me flows held) where
  taken_is : IsOrdered me (taken flows) held
  taken_is = record { me_is = is.me_is; running = is.running; names = is.names; waiting = is.waiting }

  by_response : (it : MResponse) → StepOrdered me held (step_by flows held tag line lines e same it)
  unfolding step_by
  by_response (response.Mailbox name place acl) = record_ordered me flows held is name place true line.what
  by_response (response.Reserve name place) = record_ordered me flows held is name place false line.what
  by_response (response.Delete name) = is
  by_response (response.Ok text) = ok_ordered me (taken flows) held taken_is flows.found line.tag text line.what
  by_response (response.No text) = no_ordered me (taken flows) held taken_is text line.what
  by_response (response.Bad text) = no_ordered me (taken flows) held taken_is text line.what

  -- a response to the first line
  pub heard_ordered : (it : MResponse) → StepOrdered me held (heard_step flows held tag it)
  heard_ordered it = subst (λ (s : FlowStep). StepOrdered me held s) (sym (heard_is flows held tag line lines e same it)) (by_response it)
