-- A response to another command's line, or to one that none waits for, leaves a command where it is. The end of a resync is another law.
use Rattle.std.proofs.Common.{◌≡◌, ◌≢◌, ◌⊎◌, inl, inr, ℕ, Bool, true, false, ◌&&◌, ◌||◌, not, cond, List, [], ◌∷◌, filter, Option, None, Some, refl, sym, ap, subst, ◌∙◌}
use Rattle.std.specs.Ordering.{nat_cmp}
use Rattle.std.specs.Cmp.Lexicographic.{slice_cmp}
use Rattle.link_msg.specs.declared.answer.AnswerBody.{AnswerBody}
use Rattle.link_msg.specs.declared.answer.AnswerBody.TheVariants.{NotNow}
use Rattle.link_msg.specs.declared.outcome.Outcome.TheVariants.{None as nothing, Limit}
use Rattle.mail_message.specs.FirstAcl.{first_acl}
use Rattle.mupdate_codec.specs.declared.command.MResponse.{MResponse}
use Rattle.mupdate_codec.specs.declared.command.MResponse.TheVariants as response
use Rattle.mupdate_codec.specs.declared.tag.Tag.{Tag}
use Rattle.mupdate_codec.specs.Asks.{ask_id_of}
use Rattle.mur_base.specs.Map.{IsInOrder}
use Rattle.mur_base.specs.declared.home.Location.{Location}
use Rattle.mur_base.proofs.MapLaws.{names_apart, same_or_other}
use Rattle.node_record.specs.declared.backend.BackendRecord.{BackendRecord}
use Rattle.node_record.specs.declared.backend.BackendRecord.TheVariants as entry
use Rattle.node_record.specs.Held.{Names, held_at}
use Rattle.name_flows.specs.declared.flow.Flow.{Flow}
use Rattle.name_flows.specs.declared.flow.Stage.{Stage}
use Rattle.name_flows.specs.declared.flow.Stage.TheVariants.{Reserving, Making, Deactivating, Deleting}
use Rattle.name_flows.specs.declared.flows.Flows.{Flows}
use Rattle.name_flows.specs.declared.gives.Gives.{Gives}
use Rattle.name_flows.specs.declared.resync.Resync.{Resync}
use Rattle.name_flows.specs.declared.sent.Sent.{Sent}
use Rattle.name_flows.specs.declared.sent.Sent.TheVariants.{List as List_line, Reserve, Make, Again, Deactivate, Delete, Wipe, Find}
use Rattle.name_flows.specs.declared.sent.SentLine.{SentLine}
use Rattle.name_flows.specs.Creates.{make_no, make_ok, reserve_no, reserve_ok, reserve_refused, reserved_by, serial_in}
use Rattle.name_flows.specs.Deletes.{deactivate_ok, delete_ok}
use Rattle.name_flows.specs.Finds.{forgotten_if}
use Rattle.name_flows.specs.Heard.{behind_first, heard_step, is_same_tag, no_of, ok_of, record_of, taken}
use Rattle.name_flows.specs.Lines.{unasked_line}
use Rattle.name_flows.specs.Link.{waiting_in}
use Rattle.name_flows.specs.Listing.{listed_step, noted, noted_in, resync_line, up_step}
use Rattle.name_flows.specs.Phases.{is_closing, is_creating, is_open}
use Rattle.name_flows.specs.Running.{answers_for, done, ended, flow_at, forget, goes_on, has_flow, is_at, staged}
use Rattle.name_flows.specs.Steps.{FlowStep, changing, given, silent}
use Rattle.name_flows.proofs.OneStep.{flow_ended, flow_ended-other, flow_goes_on, flow_goes_on-other}
use Rattle.name_links.proofs.Sends.{heard_is, is_list_end, step_by}
use Rattle.name_commands.specs.Whose.{Whose, is_own, is_own_ask, is_own_line, own_flow}
use Rattle.name_commands.proofs.Own.{answers_none, is_not, not_here, passed, resync_own, unasked_own}
use Rattle.name_commands.proofs.Steps.{Leaves}

-- no flow of theirs runs on a name that a flow's line is about
abbrev pub IsFree : Whose → Flows → Sent → Type 0
IsFree whose flows (Reserve name) = own_flow whose (flow_at flows name) ≡ None
IsFree whose flows (Make name) = own_flow whose (flow_at flows name) ≡ None
IsFree whose flows (Deactivate name) = own_flow whose (flow_at flows name) ≡ None
IsFree whose flows (Delete name) = own_flow whose (flow_at flows name) ≡ None
IsFree whose flows List_line = Unit {0}
IsFree whose flows (Again name) = Unit {0}
IsFree whose flows (Wipe name) = Unit {0}
IsFree whose flows (Find name) = Unit {0}

abbrev opened_if : Bool → List ℕ → Gives
opened_if b name = cond b (record { entry = Some (entry.Opened name); sends = []; answers = [] }) (record { entry = None; sends = []; answers = [] })

noted_waiting : (resync : Option Resync) (name : List ℕ) → waiting_in (noted_in resync name) ≡ waiting_in resync
noted_waiting None name = refl
noted_waiting (Some it) name = refl

module _ (whose : Whose) (flows : Flows) (held : Names) (order : IsInOrder (slice_cmp nat_cmp) flows.running) where
  silent_leaves : Leaves whose flows (silent flows)
  silent_leaves = record { waiting = refl; running = λ name. refl; sent = refl; lines = refl; answers = refl }

  if_leaves : (test : Bool) (step : FlowStep) → Leaves whose flows step → Leaves whose flows (cond test step (silent flows))
  if_leaves true step leaves = leaves
  if_leaves false step leaves = silent_leaves

  -- ---- another's flow ends, or goes on

  gone : (name : List ℕ) → own_flow whose (flow_at flows name) ≡ None → (other : List ℕ)
      → own_flow whose (flow_at (ended flows name) other) ≡ own_flow whose (flow_at flows other)
  gone name free other = by (same_or_other (slice_cmp nat_cmp) names_apart name other)
    where
      by : (name ≡ other) ⊎ (name ≢ other) → own_flow whose (flow_at (ended flows name) other) ≡ own_flow whose (flow_at flows other)
      by (inl same) = subst (λ (n : List ℕ). own_flow whose (flow_at (ended flows name) n) ≡ own_flow whose (flow_at flows n)) same
          (ap (λ (f : Option Flow). own_flow whose f) (flow_ended flows name order) ∙ sym free)
      by (inr ne) = ap (λ (f : Option Flow). own_flow whose f) (flow_ended-other flows name other ne order)

  gone_on : (name : List ℕ) (stage : Stage) → own_flow whose (flow_at flows name) ≡ None → (other : List ℕ)
      → own_flow whose (flow_at (goes_on flows name stage) other) ≡ own_flow whose (flow_at flows other)
  gone_on name stage free other = by (same_or_other (slice_cmp nat_cmp) names_apart name other)
    where
      by_flow : (found : Option Flow) → flow_at flows name ≡ found
          → own_flow whose (flow_at (goes_on flows name stage) name) ≡ own_flow whose (flow_at flows name)
      by_flow None e = ap (λ (f : Option Flow). own_flow whose (flow_at (record flows { running = staged flows.running name stage f }) name)) e
      by_flow (Some flow) e =
          ap (λ (f : Option Flow). own_flow whose f) (flow_goes_on flows name stage flow e)
          ∙ not_here whose (record flow { stage = stage }) (is_not whose flow (ap (λ (f : Option Flow). own_flow whose f) (sym e) ∙ free)) ∙ sym free

      by : (name ≡ other) ⊎ (name ≢ other) → own_flow whose (flow_at (goes_on flows name stage) other) ≡ own_flow whose (flow_at flows other)
      by (inl same) =
          subst (λ (n : List ℕ). own_flow whose (flow_at (goes_on flows name stage) n) ≡ own_flow whose (flow_at flows n)) same
          (by_flow (flow_at flows name) refl)
      by (inr ne) = ap (λ (f : Option Flow). own_flow whose f) (flow_goes_on-other flows name other stage (λ e. ne (sym e)))

  ends_leaves : (name : List ℕ) (body : AnswerBody) (made : Option BackendRecord) (sends : List SentLine) → own_flow whose (flow_at flows name) ≡ None
      → filter (is_own_line whose) sends ≡ []
      → Leaves whose flows (record { flows = ended flows name; entry = made; sends = sends; answers = answers_for body (flow_at flows name) })
  ends_leaves name body made sends free none =
      record { waiting = refl; running = gone name free; sent = refl; lines = none; answers = answers_none whose body (flow_at flows name) free }

  goes_leaves : (name : List ℕ) (stage : Stage) (made : Option BackendRecord) (line : SentLine) → own_flow whose (flow_at flows name) ≡ None
      → is_own_line whose line ≡ false → Leaves whose flows (record { flows = goes_on flows name stage; entry = made; sends = line ∷ []; answers = [] })
  goes_leaves name stage made line free other =
      record { waiting = refl; running = gone_on name stage free; sent = refl; lines = passed (is_own_line whose) line [] other; answers = refl }

  -- ---- steps of the mailboxes alone

  changes_leaves : (made : Option BackendRecord) → Leaves whose flows (record { flows = flows; entry = made; sends = []; answers = [] })
  changes_leaves made = record { waiting = refl; running = λ name. refl; sent = refl; lines = refl; answers = refl }

  forgets_leaves : (test : Bool) (name : List ℕ) → Leaves whose flows (given flows (forgotten_if test name))
  forgets_leaves true name = changes_leaves (Some (forget name))
  forgets_leaves false name = changes_leaves None

  -- ---- by the line that is answered

  reserved_leaves : (tag : Tag) (name : List ℕ) (serial : Option ℕ) → own_flow whose (flow_at flows name) ≡ None → is_own whose (ask_id_of tag) ≡ false
      → Leaves whose flows (reserved_by flows tag name serial)
  reserved_leaves tag name None free other = ends_leaves name NotNow None [] free refl
  reserved_leaves tag name (Some serial) free other =
      goes_leaves name Making (Some (entry.Make name serial (first_acl name))) (record { tag = tag; what = Make name }) free other

  ok_leaves : (found : Bool) (tag : Tag) (text : List ℕ) (what : Sent) → is_own whose (ask_id_of tag) ≡ false → IsFree whose flows what
      → is_list_end (Some what) (response.Ok text) ≡ false → Leaves whose flows (ok_of flows held found tag text what)
  unfolding ok_of reserve_ok make_ok deactivate_ok delete_ok
  ok_leaves found tag text List_line other free e = cc
  ok_leaves found tag text (Reserve name) other free e = if_leaves (is_at flows name Reserving) _ (reserved_leaves tag name (serial_in text) free other)
  ok_leaves found tag text (Make name) other free e =
      if_leaves (is_at flows name Making) _ (ends_leaves name (done nothing) (Some (entry.Opened name)) [] free refl)
  ok_leaves found tag text (Again name) other free e =
      if_leaves (is_closing (held_at held name) && not (has_flow flows name)) _ (changes_leaves (Some (entry.Opened name)))
  ok_leaves found tag text (Deactivate name) other free e =
      if_leaves (is_at flows name Deactivating) _ (goes_leaves name Deleting (Some (entry.Closing name)) (record { tag = tag; what = Delete name }) free other)
  ok_leaves found tag text (Delete name) other free e =
      if_leaves (is_at flows name Deleting) _ (ends_leaves name (done nothing) (Some (forget name)) [] free refl)
  ok_leaves found tag text (Wipe name) other free e = forgets_leaves (is_creating (held_at held name)) name
  ok_leaves found tag text (Find name) other free e = forgets_leaves (not found && is_closing (held_at held name)) name

  no_leaves : (text : List ℕ) (what : Sent) → IsFree whose flows what → Leaves whose flows (no_of flows text what)
  unfolding no_of reserve_no make_no
  no_leaves text (Reserve name) free = if_leaves (is_at flows name Reserving) _ (ends_leaves name (reserve_refused text) None [] free refl)
  no_leaves text (Make name) free =
      if_leaves (is_at flows name Making) _
      (ends_leaves name (done Limit) (Some (forget name)) (unasked_line (Wipe name) ∷ []) free
      (passed (is_own_line whose) (unasked_line (Wipe name)) [] (unasked_own whose (Wipe name))))
  no_leaves text List_line free = silent_leaves
  no_leaves text (Again name) free = silent_leaves
  no_leaves text (Deactivate name) free = silent_leaves
  no_leaves text (Delete name) free = silent_leaves
  no_leaves text (Wipe name) free = silent_leaves
  no_leaves text (Find name) free = silent_leaves

  -- ---- lines of records

  listed_leaves : (name : List ℕ) (is_active : Bool) → Leaves whose flows (listed_step flows held name is_active)
  listed_leaves name true = by (is_creating (held_at held name) || is_closing (held_at held name))
    where
      by : (b : Bool) → Leaves whose flows (given (noted flows name) (opened_if b name))
      by true = record {
        waiting = ap (λ asks. filter (is_own_ask whose) asks) (noted_waiting flows.resync name);
        running = λ name. refl;
        sent = refl;
        lines = refl;
        answers = refl;
      }
      by false = record {
        waiting = ap (λ asks. filter (is_own_ask whose) asks) (noted_waiting flows.resync name);
        running = λ name. refl;
        sent = refl;
        lines = refl;
        answers = refl;
      }
  listed_leaves name false = record {
    waiting = ap (λ asks. filter (is_own_ask whose) asks) (noted_waiting flows.resync name);
    running = λ name. refl;
    sent = refl;
    lines = passed (is_own_line whose) (unasked_line (cond (is_open (held_at held name) || is_closing (held_at held name)) (Again name) (Wipe name))) []
        (unasked_own whose (cond (is_open (held_at held name) || is_closing (held_at held name)) (Again name) (Wipe name)));
    answers = refl;
  }

  found_leaves : (name server : List ℕ) (b : Bool)
      → Leaves whose flows (cond b (changing (record flows { found = true }) (entry.Pointer name server) []) (silent (record flows { found = true })))
  found_leaves name server true = record { waiting = refl; running = λ name. refl; sent = refl; lines = refl; answers = refl }
  found_leaves name server false = record { waiting = refl; running = λ name. refl; sent = refl; lines = refl; answers = refl }

  record_leaves : (name : List ℕ) (place : Location) (is_active : Bool) (what : Sent)
      → Leaves whose flows (record_of flows held name place is_active (Some what))
  record_leaves name place is_active List_line = listed_leaves name is_active
  record_leaves name place is_active (Find sought) = found_leaves sought place.server (is_closing (held_at held sought))
  record_leaves name place is_active (Reserve m) = silent_leaves
  record_leaves name place is_active (Make m) = silent_leaves
  record_leaves name place is_active (Again m) = silent_leaves
  record_leaves name place is_active (Deactivate m) = silent_leaves
  record_leaves name place is_active (Delete m) = silent_leaves
  record_leaves name place is_active (Wipe m) = silent_leaves

  -- the link comes up
  pub up_leaves : Leaves whose flows (up_step flows)
  up_leaves =
      record { waiting = refl; running = λ name. refl; sent = refl; lines = passed (is_own_line whose) resync_line [] (resync_own whose); answers = refl }

-- ---- a response to the first line

module _ (whose : Whose) (flows : Flows) (held : Names) (order : IsInOrder (slice_cmp nat_cmp) flows.running) (tag : Tag) (line : SentLine)
    (lines : List SentLine) (first : flows.sent ≡ line ∷ lines) (same : is_same_tag line.tag tag ≡ true) (other : is_own_line whose line ≡ false)
    (free : IsFree whose flows line.what) where
  free_then : (what : Sent) → IsFree whose flows what → IsFree whose (taken flows) what
  free_then (Reserve name) f = f
  free_then (Make name) f = f
  free_then (Deactivate name) f = f
  free_then (Delete name) f = f
  free_then List_line f = tt
  free_then (Again name) f = tt
  free_then (Wipe name) f = tt
  free_then (Find name) f = tt

  -- without the line there are as many of theirs
  pub as_many : filter (is_own_line whose) (taken flows).sent ≡ filter (is_own_line whose) flows.sent
  as_many =
      ap (λ (l : List SentLine). filter (is_own_line whose) (behind_first l)) first
      ∙ sym (passed (is_own_line whose) line lines other) ∙ ap (λ (l : List SentLine). filter (is_own_line whose) l) (sym first)

  pub since_taken : (step : FlowStep) → Leaves whose (taken flows) step → Leaves whose flows step
  since_taken step leaves = record {
    waiting = leaves.waiting;
    running = leaves.running;
    sent = leaves.sent ∙ as_many;
    lines = leaves.lines;
    answers = leaves.answers;
  }

  by_response : (it : MResponse) → is_list_end (Some line.what) it ≡ false → Leaves whose flows (step_by flows held tag line lines first same it)
  unfolding step_by
  by_response (response.Mailbox name place acl) e = record_leaves whose flows held order name place true line.what
  by_response (response.Reserve name place) e = record_leaves whose flows held order name place false line.what
  by_response (response.Delete name) e = silent_leaves whose flows held order
  by_response (response.Ok text) e =
      since_taken _ (ok_leaves whose (taken flows) held order flows.found line.tag text line.what other (free_then line.what free) e)
  by_response (response.No text) e = since_taken _ (no_leaves whose (taken flows) held order text line.what (free_then line.what free))
  by_response (response.Bad text) e = since_taken _ (no_leaves whose (taken flows) held order text line.what (free_then line.what free))

  pub heard_leaves : (it : MResponse) → is_list_end (Some line.what) it ≡ false → Leaves whose flows (heard_step flows held tag it)
  heard_leaves it e = subst (λ (s : FlowStep). Leaves whose flows s) (sym (heard_is flows held tag line lines first same it)) (by_response it e)
