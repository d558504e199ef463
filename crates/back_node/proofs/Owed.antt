-- A step of the talk answers those alone whose CREATEs and DELETEs are under way, or wait.
use Rattle.std.proofs.Common.{◌≡◌, ℕ, Bool, true, false, cond, ◌&&◌, ◌||◌, not, List, [], ◌∷◌, Option, None, Some, refl, sym, subst}
use Rattle.std.specs.Prelude.{All}
use Rattle.std.specs.List.{fold}
use Rattle.std.specs.Map.{values_of}
use Rattle.std.specs.Option.{IfSome}
use Rattle.std.specs.Ordering.{nat_cmp}
use Rattle.std.specs.BTreeMap.{is_at as has_key}
use Rattle.std.specs.Cmp.Lexicographic.{slice_cmp}
use Rattle.std.proofs.lemmas.List.Elements.{All-nil, All-cons, All-head, All-tail, All-append, All-push, All-map}
use Rattle.std.proofs.lemmas.Map.Entries.{All-lookup}
use Rattle.std.proofs.lemmas.Map.Views.{All-values-insert_entry, All-map-remove_entry, All-values-set_value}
use Rattle.mur_base.specs.declared.home.Location.{Location}
use Rattle.link_msg.specs.declared.answer.AnswerBody.{AnswerBody}
use Rattle.mupdate_codec.specs.declared.command.MResponse.{MResponse}
use Rattle.mupdate_codec.specs.declared.command.MResponse.TheVariants as response
use Rattle.mupdate_codec.specs.declared.tag.Tag.{Tag}
use Rattle.node_record.specs.declared.backend.BackendRecord.{BackendRecord}
use Rattle.node_record.specs.declared.backend.BackendRecord.TheVariants as entry
use Rattle.node_record.specs.Held.{Names, held_at}
use Rattle.name_flows.specs.declared.ask.NameAsk.{NameAsk}
use Rattle.name_flows.specs.declared.ask.Told.{Told}
use Rattle.name_flows.specs.declared.flow.Flow.{Flow}
use Rattle.name_flows.specs.declared.flow.Stage.{Stage}
use Rattle.name_flows.specs.declared.flow.Stage.TheVariants.{Reserving, Making, Deactivating, Deleting}
use Rattle.name_flows.specs.declared.flows.Flows.{Flows}
use Rattle.name_flows.specs.declared.gives.Gives.{Gives}
use Rattle.name_flows.specs.declared.resync.Resync.{Resync}
use Rattle.name_flows.specs.declared.sent.Sent.{Sent}
use Rattle.name_flows.specs.declared.sent.Sent.TheVariants as sent
use Rattle.name_flows.specs.declared.sent.SentLine.{SentLine}
use Rattle.name_flows.specs.Asked.{asked_by, asked_step, begun_flow, flow_for, refusal, tested_by}
use Rattle.name_flows.specs.Creates.{make_no, make_ok, reserve_no, reserve_ok, reserve_refused, reserved_by, serial_in}
use Rattle.name_flows.specs.Deletes.{deactivate_ok, delete_ok}
use Rattle.name_flows.specs.Finds.{find_line_step, forgotten_if}
use Rattle.name_flows.specs.Heard.{first_line, heard_step, is_answer, no_by, no_of, ok_by, ok_of, record_of, response_step, taken, what_in}
use Rattle.name_flows.specs.Link.{broken_answer_in, end_step, unreached_answer, waiting_in}
use Rattle.name_flows.specs.Listed.{Round, after_round, list_ok_by, round, round_by}
use Rattle.name_flows.specs.Listing.{active_listed, listed_step, noted, noted_in, reserved_listed, up_step}
use Rattle.name_flows.specs.Phases.{is_closing, is_creating}
use Rattle.name_flows.specs.Running.{answer_to, answers_for, ended, flow_at, goes_on, has_flow, is_at, new_flows, staged}
use Rattle.name_flows.specs.Steps.{FlowStep, given, silent}
use Rattle.name_flows.proofs.AnswerOrder.{ordered_all}
use Rattle.back_node.specs.NodeLaws.{IsForOne, IsOfOne, OwesOnly}

abbrev pub IsToOne : (List ℕ → Type 0) → Told → Type 0
IsToOne may told = may told.front

-- the state owes answers to the same, and what is answered goes to them
pub record AnswersOnly (may : List ℕ → Type 0) (flows : Flows) (step : FlowStep) : Type 0 where
  pub owes : OwesOnly may step.flows
  pub answers : All (IsToOne may) step.answers
  pub master : step.flows.master ≡ flows.master

-- the values of a map, as its entries
of_values : {K X : Type 0} (P : X → Type 0) (es : List (K × X)) → All P (values_of es) → All (λ (e : K × X). P e.1) es
of_values {K} {X} P [] all = All-nil (λ (e : K × X). P e.1)
of_values {K} {X} P (e ∷ es) all =
    All-cons (λ (e : K × X). P e.1) e es (All-head P e.1 (values_of es) all) (of_values P es (All-tail P e.1 (values_of es) all))

abbrev is_at_name : List ℕ → List ℕ → Bool
is_at_name name = has_key (slice_cmp nat_cmp name)

-- by the phase of a name that is listed as active
abbrev active_by : List ℕ → Bool → Gives
active_by name test = cond test (record { entry = Some (entry.Opened name); sends = []; answers = [] }) (record { entry = None; sends = []; answers = [] })

module _ (may : List ℕ → Type 0) where
  -- ---- flows that begin, go on and end

  -- may the frontend of this flow be told, if there is one
  abbrev IfFlow : Option Flow → Type 0
  IfFlow found = IfSome found (IsForOne may)

  flow_of : (flows : Flows) (name : List ℕ) → OwesOnly may flows → IfFlow (flow_at flows name)
  flow_of flows name owes = All-lookup (IsForOne may) (is_at_name name) flows.running (of_values (IsForOne may) flows.running owes.running)

  begins : (flows : Flows) (ask : NameAsk) → may ask.front → OwesOnly may flows → OwesOnly may (begun_flow flows ask)
  begins flows ask own owes = record {
    running = All-values-insert_entry (slice_cmp nat_cmp) ask.name (flow_for ask) (IsForOne may) flows.running owes.running own;
    waiting = owes.waiting;
  }

  ends : (flows : Flows) (name : List ℕ) → OwesOnly may flows → OwesOnly may (ended flows name)
  ends flows name owes = record {
    running = All-map-remove_entry (is_at_name name) (λ (e : List ℕ × Flow). e.1) (IsForOne may) flows.running owes.running;
    waiting = owes.waiting;
  }

  staged_as : (running : List (List ℕ × Flow)) (name : List ℕ) (stage : Stage) (found : Option Flow) → IfFlow found
      → All (IsForOne may) (values_of running) → All (IsForOne may) (values_of (staged running name stage found))
  staged_as running name stage None own all = all
  staged_as running name stage (Some flow) own all =
      All-values-set_value (is_at_name name) (IsForOne may) running (record flow { stage = stage }) all own

  goes : (flows : Flows) (name : List ℕ) (stage : Stage) → OwesOnly may flows → OwesOnly may (goes_on flows name stage)
  goes flows name stage owes = record {
    running = staged_as flows.running name stage (flow_at flows name) (flow_of flows name owes) owes.running;
    waiting = owes.waiting;
  }

  answers_one : (body : AnswerBody) (found : Option Flow) → IfFlow found → All (IsToOne may) (answers_for body found)
  answers_one body None own = All-nil (IsToOne may)
  answers_one body (Some flow) own = All-cons (IsToOne may) _ [] own (All-nil (IsToOne may))

  -- ---- steps that answer nobody, or end one flow

  nobody : (flows : Flows) (next : Flows) (entry : Option BackendRecord) (sends : List SentLine) → OwesOnly may next → next.master ≡ flows.master
      → AnswersOnly may flows (record { flows = next; entry = entry; sends = sends; answers = [] })
  nobody flows next entry sends owes same = record { owes = owes; answers = All-nil (IsToOne may); master = same }

  nothing : (flows : Flows) → OwesOnly may flows → AnswersOnly may flows (silent flows)
  nothing flows owes = nobody flows flows None [] owes refl

  gives : (flows : Flows) (next : Flows) (it : Gives) → OwesOnly may next → next.master ≡ flows.master → it.answers ≡ []
      → AnswersOnly may flows (given next it)
  gives flows next it owes same none = record { owes = owes; answers = subst (All (IsToOne may)) (sym none) (All-nil (IsToOne may)); master = same }

  ends_one : (flows : Flows) (name : List ℕ) (body : AnswerBody) (entry : Option BackendRecord) (sends : List SentLine) → OwesOnly may flows
      → AnswersOnly may flows (record { flows = ended flows name; entry = entry; sends = sends; answers = answers_for body (flow_at flows name) })
  ends_one flows name body entry sends owes = record {
    owes = ends flows name owes;
    answers = answers_one body (flow_at flows name) (flow_of flows name owes);
    master = refl;
  }

  either : (flows : Flows) (test : Bool) (one other : FlowStep) → AnswersOnly may flows one → AnswersOnly may flows other
      → AnswersOnly may flows (cond test one other)
  either flows true one other p q = p
  either flows false one other p q = q

  -- ---- an ask

  tested : (flows : Flows) (ask : NameAsk) (refused : Option AnswerBody) → may ask.front → OwesOnly may flows → AnswersOnly may flows (tested_by flows ask refused)
  tested flows ask None own owes = nobody flows (begun_flow flows ask) None _ (begins flows ask own owes) refl
  tested flows ask (Some body) own owes =
      record { owes = owes; answers = All-cons (IsToOne may) _ [] own (All-nil (IsToOne may)); master = refl }

  asked_only : (flows : Flows) (held : Names) (ask : NameAsk) (resync : Option Resync) → flows.resync ≡ resync → may ask.front → OwesOnly may flows
      → AnswersOnly may flows (asked_by flows held ask resync)
  unfolding asked_by
  asked_only flows held ask None is own owes = tested flows ask (refusal flows held ask.name ask.kind) own owes
  asked_only flows held ask (Some it) is own owes =
      nobody flows _ None [] (record {
        running = owes.running;
        waiting = All-push (IsOfOne may) it.waiting ask (subst (λ r. All (IsOfOne may) (waiting_in r)) is owes.waiting) own;
      }) refl

  pub ask_answers : (flows : Flows) (held : Names) (ask : NameAsk) → may ask.front → OwesOnly may flows → AnswersOnly may flows (asked_step flows held ask)
  unfolding asked_step
  ask_answers flows held ask own owes = asked_only flows held ask flows.resync refl own owes

  -- ---- the link

  pub up_answers : (flows : Flows) → OwesOnly may flows → AnswersOnly may flows (up_step flows)
  up_answers flows owes = nobody flows _ None _ (record { running = owes.running; waiting = owes.waiting }) refl

  pub none_owed : (me : Location) (master : List ℕ) → OwesOnly may (new_flows me master)
  none_owed me master = record { running = All-nil (IsForOne may); waiting = All-nil (IsOfOne may) }

  pub end_answers : (flows : Flows) → OwesOnly may flows → AnswersOnly may flows (end_step flows)
  end_answers flows owes = record {
    owes = none_owed flows.me flows.master;
    answers = All-append (IsToOne may) _ _
        (All-map (IsToOne may) (broken_answer_in flows.master) flows.running (of_values (IsForOne may) flows.running owes.running))
        (All-map (IsToOne may) (unreached_answer flows.master) (waiting_in flows.resync) owes.waiting);
    master = refl;
  }

  -- ---- answers of the master

  reserved : (flows : Flows) (tag : Tag) (name : List ℕ) (serial : Option ℕ) → OwesOnly may flows → AnswersOnly may flows (reserved_by flows tag name serial)
  reserved flows tag name None owes = ends_one flows name _ None [] owes
  reserved flows tag name (Some serial) owes = nobody flows _ _ _ (goes flows name Making owes) refl

  reserve_answers : (flows : Flows) (tag : Tag) (name text : List ℕ) → OwesOnly may flows → AnswersOnly may flows (reserve_ok flows tag name text)
  unfolding reserve_ok
  reserve_answers flows tag name text owes =
      either flows (is_at flows name Reserving) _ _ (reserved flows tag name (serial_in text) owes) (nothing flows owes)

  refused_answers : (flows : Flows) (name text : List ℕ) → OwesOnly may flows → AnswersOnly may flows (reserve_no flows name text)
  unfolding reserve_no
  refused_answers flows name text owes =
      either flows (is_at flows name Reserving) _ _ (ends_one flows name (reserve_refused text) None [] owes) (nothing flows owes)

  make_answers : (flows : Flows) (name : List ℕ) → OwesOnly may flows → AnswersOnly may flows (make_ok flows name)
  unfolding make_ok
  make_answers flows name owes = either flows (is_at flows name Making) _ _ (ends_one flows name _ _ [] owes) (nothing flows owes)

  full_answers : (flows : Flows) (name : List ℕ) → OwesOnly may flows → AnswersOnly may flows (make_no flows name)
  unfolding make_no
  full_answers flows name owes = either flows (is_at flows name Making) _ _ (ends_one flows name _ _ _ owes) (nothing flows owes)

  deactivate_answers : (flows : Flows) (tag : Tag) (name : List ℕ) → OwesOnly may flows → AnswersOnly may flows (deactivate_ok flows tag name)
  unfolding deactivate_ok
  deactivate_answers flows tag name owes =
      either flows (is_at flows name Deactivating) _ _ (nobody flows _ _ _ (goes flows name Deleting owes) refl) (nothing flows owes)

  delete_answers : (flows : Flows) (name : List ℕ) → OwesOnly may flows → AnswersOnly may flows (delete_ok flows name)
  unfolding delete_ok
  delete_answers flows name owes = either flows (is_at flows name Deleting) _ _ (ends_one flows name _ _ [] owes) (nothing flows owes)

  forgotten_nobody : (test : Bool) (name : List ℕ) → (forgotten_if test name).answers ≡ []
  forgotten_nobody true name = refl
  forgotten_nobody false name = refl

  forgets : (flows : Flows) (test : Bool) (name : List ℕ) → OwesOnly may flows → AnswersOnly may flows (given flows (forgotten_if test name))
  forgets flows test name owes = gives flows flows (forgotten_if test name) owes refl (forgotten_nobody test name)

  finds : (flows : Flows) (held : Names) (name server : List ℕ) → OwesOnly may flows → AnswersOnly may flows (find_line_step flows held name server)
  finds flows held name server owes =
      let found : OwesOnly may (record flows { found = true }) = record { running = owes.running; waiting = owes.waiting } in
      either flows (is_closing (held_at held name)) _ _ (nobody flows _ _ [] found refl) (nobody flows _ None [] found refl)

  -- ---- a resync

  noted_as : (resync : Option Resync) (name : List ℕ) → waiting_in (noted_in resync name) ≡ waiting_in resync
  noted_as None name = refl
  noted_as (Some it) name = refl

  notes : (flows : Flows) (name : List ℕ) → OwesOnly may flows → OwesOnly may (noted flows name)
  notes flows name owes =
      record { running = owes.running; waiting = subst (All (IsOfOne may)) (sym (noted_as flows.resync name)) owes.waiting }

  active_nobody : (held : Names) (name : List ℕ) (test : Bool) → (active_by name test).answers ≡ []
  active_nobody held name true = refl
  active_nobody held name false = refl

  lists : (flows : Flows) (held : Names) (name : List ℕ) (is_active : Bool) → OwesOnly may flows → AnswersOnly may flows (listed_step flows held name is_active)
  lists flows held name true owes = gives flows (noted flows name) (active_listed held name) (notes flows name owes) refl
      (active_nobody held name (is_creating (held_at held name) || is_closing (held_at held name)))
  lists flows held name false owes = gives flows (noted flows name) (reserved_listed held name) (notes flows name owes) refl refl

  -- what those that waited come to
  record OwesRound (master : List ℕ) (it : Round) : Type 0 where
    owes : OwesOnly may it.flows
    answers : All (IsToOne may) it.answers
    same : it.flows.master ≡ master

  round_owes_by : (master : List ℕ) (it : Round) (ask : NameAsk) (refused : Option AnswerBody) → may ask.front → OwesRound master it
      → OwesRound master (round_by it ask refused)
  round_owes_by master it ask (Some body) own so = record {
    owes = so.owes;
    answers = All-push (IsToOne may) it.answers (answer_to ask.front ask.id body) so.answers own;
    same = so.same;
  }
  round_owes_by master it ask None own so = record { owes = begins it.flows ask own so.owes; answers = so.answers; same = so.same }

  rounds_owe : (master : List ℕ) (held : Names) (waiting : List NameAsk) (it : Round) → All (IsOfOne may) waiting → OwesRound master it
      → OwesRound master (fold (round held) it waiting)
  rounds_owe master held [] it all so = so
  rounds_owe master held (ask ∷ waiting) it all so =
      rounds_owe master held waiting (round held it ask) (All-tail (IsOfOne may) ask waiting all)
      (round_owes_by master it ask (refusal it.flows held ask.name ask.kind) (All-head (IsOfOne may) ask waiting all) so)

  round_answers : (flows : Flows) (entry : Option BackendRecord) (it : Round) → OwesRound flows.master it → AnswersOnly may flows (after_round entry it)
  round_answers flows entry it so = record { owes = so.owes; answers = ordered_all (IsToOne may) it.answers so.answers; master = so.same }

  list_answers_by : (flows : Flows) (held : Names) (resync : Option Resync) → flows.resync ≡ resync → OwesOnly may flows
      → AnswersOnly may flows (list_ok_by (record flows { resync = None }) held resync)
  list_answers_by flows held None is owes =
      nobody flows _ None [] (record { running = owes.running; waiting = All-nil (IsOfOne may) }) refl
  list_answers_by flows held (Some it) is owes =
      round_answers flows _ _ (rounds_owe flows.master held it.waiting _ (subst (λ r. All (IsOfOne may) (waiting_in r)) is owes.waiting) (record {
        owes = record { running = owes.running; waiting = All-nil (IsOfOne may) };
        answers = All-nil (IsToOne may);
        same = refl;
      }))

  -- ---- a response

  takes_first : (flows : Flows) → OwesOnly may flows → OwesOnly may (taken flows)
  takes_first flows owes = record { running = owes.running; waiting = owes.waiting }

  ok_answers : (flows : Flows) (held : Names) (found : Bool) (tag : Tag) (text : List ℕ) (what : Sent) → OwesOnly may flows
      → AnswersOnly may flows (ok_of flows held found tag text what)
  unfolding ok_of
  ok_answers flows held found tag text sent.List owes = list_answers_by flows held flows.resync refl owes
  ok_answers flows held found tag text (sent.Reserve name) owes = reserve_answers flows tag name text owes
  ok_answers flows held found tag text (sent.Make name) owes = make_answers flows name owes
  ok_answers flows held found tag text (sent.Again name) owes =
      either flows (is_closing (held_at held name) && not (has_flow flows name)) _ _ (nobody flows flows _ [] owes refl) (nothing flows owes)
  ok_answers flows held found tag text (sent.Deactivate name) owes = deactivate_answers flows tag name owes
  ok_answers flows held found tag text (sent.Delete name) owes = delete_answers flows name owes
  ok_answers flows held found tag text (sent.Wipe name) owes = forgets flows (is_creating (held_at held name)) name owes
  ok_answers flows held found tag text (sent.Find name) owes = forgets flows (not found && is_closing (held_at held name)) name owes

  no_answers : (flows : Flows) (text : List ℕ) (what : Sent) → OwesOnly may flows → AnswersOnly may flows (no_of flows text what)
  unfolding no_of
  no_answers flows text (sent.Reserve name) owes = refused_answers flows name text owes
  no_answers flows text (sent.Make name) owes = full_answers flows name owes
  no_answers flows text what owes = nothing flows owes

  -- the last answer to the first line takes it off
  off_first : (flows : Flows) (step : FlowStep) → AnswersOnly may (taken flows) step → AnswersOnly may flows step
  off_first flows step so = record { owes = so.owes; answers = so.answers; master = so.master }

  ok_line_answers : (flows : Flows) (held : Names) (text : List ℕ) (line : Option SentLine) → OwesOnly may flows
      → AnswersOnly may flows (ok_by (taken flows) held flows.found text line)
  ok_line_answers flows held text None owes = off_first flows _ (nothing (taken flows) (takes_first flows owes))
  ok_line_answers flows held text (Some line) owes =
      off_first flows _ (ok_answers (taken flows) held flows.found line.tag text line.what (takes_first flows owes))

  no_line_answers : (flows : Flows) (text : List ℕ) (line : Option SentLine) → OwesOnly may flows → AnswersOnly may flows (no_by (taken flows) text line)
  no_line_answers flows text None owes = off_first flows _ (nothing (taken flows) (takes_first flows owes))
  no_line_answers flows text (Some line) owes = off_first flows _ (no_answers (taken flows) text line.what (takes_first flows owes))

  record_answers : (flows : Flows) (held : Names) (name : List ℕ) (place : Location) (is_active : Bool) (what : Option Sent) → OwesOnly may flows
      → AnswersOnly may flows (record_of flows held name place is_active what)
  record_answers flows held name place is_active None owes = nothing flows owes
  record_answers flows held name place is_active (Some sent.List) owes = lists flows held name is_active owes
  record_answers flows held name place is_active (Some (sent.Find sought)) owes = finds flows held sought place.server owes
  record_answers flows held name place is_active (Some what) owes = nothing flows owes

  response_answers : (flows : Flows) (held : Names) (it : MResponse) → OwesOnly may flows → AnswersOnly may flows (response_step flows held it)
  response_answers flows held (response.Mailbox name place acl) owes = record_answers flows held name place true (what_in (first_line flows.sent)) owes
  response_answers flows held (response.Reserve name place) owes = record_answers flows held name place false (what_in (first_line flows.sent)) owes
  response_answers flows held (response.Delete name) owes = nothing flows owes
  response_answers flows held (response.Ok text) owes = ok_line_answers flows held text (first_line flows.sent) owes
  response_answers flows held (response.No text) owes = no_line_answers flows text (first_line flows.sent) owes
  response_answers flows held (response.Bad text) owes = no_line_answers flows text (first_line flows.sent) owes

  pub heard_answers : (flows : Flows) (held : Names) (tag : Tag) (it : MResponse) → OwesOnly may flows → AnswersOnly may flows (heard_step flows held tag it)
  unfolding heard_step
  heard_answers flows held tag it owes =
      either flows (is_answer flows.sent tag) _ _ (response_answers flows held it owes) (nothing flows owes)
