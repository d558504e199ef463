-- The response to a command's line comes: the command is answered, or its next line is sent.
use Rattle.std.proofs.Common.{◌≡◌, ◌≢◌, ◌⊎◌, inl, inr, ℕ, Bool, true, false, cond, List, [], ◌∷◌, filter, Option, None, Some, refl, sym, ap, subst, ◌∙◌}
use Rattle.std.specs.Ordering.{nat_cmp}
use Rattle.std.specs.Cmp.Lexicographic.{slice_cmp}
use Rattle.link_msg.specs.declared.answer.AnswerBody.{AnswerBody}
use Rattle.link_msg.specs.declared.answer.AnswerBody.TheVariants.{NotNow}
use Rattle.link_msg.specs.declared.outcome.Outcome.TheVariants.{None as nothing, Limit}
use Rattle.mail_message.specs.FirstAcl.{first_acl}
use Rattle.mupdate_codec.specs.declared.command.MResponse.{MResponse}
use Rattle.mupdate_codec.specs.declared.command.MResponse.TheVariants as response
use Rattle.mupdate_codec.specs.declared.tag.Tag.{Tag}
use Rattle.mupdate_codec.specs.Asks.{tag_of}
use Rattle.mur_base.specs.Map.{IsInOrder}
use Rattle.mur_base.proofs.MapLaws.{names_apart, same_or_other}
use Rattle.node_record.specs.declared.backend.BackendRecord.{BackendRecord}
use Rattle.node_record.specs.declared.backend.BackendRecord.TheVariants as entry
use Rattle.node_record.specs.Held.{Names}
use Rattle.name_flows.specs.declared.flow.Flow.{Flow}
use Rattle.name_flows.specs.declared.flow.Stage.{Stage}
use Rattle.name_flows.specs.declared.flow.Stage.TheVariants.{Reserving, Making, Deactivating, Deleting}
use Rattle.name_flows.specs.declared.flows.Flows.{Flows}
use Rattle.name_flows.specs.declared.sent.Sent.TheVariants.{Wipe}
use Rattle.name_flows.specs.declared.sent.SentLine.{SentLine}
use Rattle.name_flows.specs.Creates.{make_no, make_ok, reserve_no, reserve_ok, reserve_refused, reserved_by, serial_in}
use Rattle.name_flows.specs.Deletes.{deactivate_ok, delete_ok}
use Rattle.name_flows.specs.Heard.{behind_first, heard_step, is_same_tag, no_of, ok_of, taken}
use Rattle.name_flows.specs.Lines.{unasked_line}
use Rattle.name_flows.specs.Running.{answers_for, done, ended, flow_at, forget, goes_on, has_stage, is_at, is_same_stage}
use Rattle.name_flows.specs.Steps.{FlowStep, silent}
use Rattle.name_flows.proofs.OneStep.{flow_ended, flow_ended-other, flow_goes_on, flow_goes_on-other}
use Rattle.name_links.proofs.Sends.{heard_is, step_by}
use Rattle.name_commands.specs.Moves.{Move, ends, heard_move, heard_move_by, is_sent, reserved_move}
use Rattle.name_commands.specs.Places.{NamePlace, nowhere, waits, sends, hears, FlowsShow, flow_line, on_name, stage_line}
use Rattle.name_commands.specs.Whose.{Whose, is_own_line, is_own_told, own_flow}
use Rattle.name_commands.proofs.Own.{all_behind, asked_own, kept, on_itself, on_other, own_here, own_is, unasked_own}
use Rattle.name_commands.proofs.Steps.{Makes}

-- ---- the first line is its own

-- so it has a flow
pub record FirstIsIts (whose : Whose) (flows : Flows) (line : SentLine) (lines : List SentLine) (name : List ℕ) (flow : Flow) : Type 0 where
  pub at : FlowsShow whose flows (sends name flow)
  pub line_is : line ≡ flow_line name flow
  pub rest : filter (is_own_line whose) lines ≡ []

-- whether the line is under way or its response
pub as_sent : (whose : Whose) (flows : Flows) (name : List ℕ) (flow : Flow) (it : MResponse) → FlowsShow whose flows (hears name flow it)
    → FlowsShow whose flows (sends name flow)
as_sent whose flows name flow it at = record { waiting = at.waiting; running = at.running; sent = at.sent; numbered = at.numbered }

module _ (whose : Whose) (flows : Flows) (line : SentLine) (lines : List SentLine) (first : flows.sent ≡ line ∷ lines)
    (own : is_own_line whose line ≡ true) where
  first_kept : filter (is_own_line whose) flows.sent ≡ line ∷ filter (is_own_line whose) lines
  first_kept = ap (λ (l : List SentLine). filter (is_own_line whose) l) first ∙ kept (is_own_line whose) line lines own

  pub first_is_its : (name : List ℕ) (flow : Flow) → FlowsShow whose flows (sends name flow) → FirstIsIts whose flows line lines name flow
  first_is_its name flow at =
      let same : line ∷ filter (is_own_line whose) lines ≡ flow_line name flow ∷ [] = sym first_kept ∙ at.sent in
      record { at = at; line_is = cc; rest = cc }

  -- wherever it is
  pub some_first : (place : NamePlace) → FlowsShow whose flows place → (name : List ℕ) × (flow : Flow) × FirstIsIts whose flows line lines name flow
  some_first nowhere at = absurd (let no : line ∷ filter (is_own_line whose) lines ≡ [] = sym first_kept ∙ at.sent in cc)
  some_first (waits ask) at = absurd (let no : line ∷ filter (is_own_line whose) lines ≡ [] = sym first_kept ∙ at.sent in cc)
  some_first (sends name flow) at = (name, flow, first_is_its name flow at)
  some_first (hears name flow it) at = (name, flow, first_is_its name flow (as_sent whose flows name flow it at))

-- ---- what the step makes of it

module _ (whose : Whose) (flows : Flows) (held : Names) (order : IsInOrder (slice_cmp nat_cmp) flows.running) (line : SentLine) (lines : List SentLine)
    (first : flows.sent ≡ line ∷ lines) (name : List ℕ) (flow : Flow) (talk : FirstIsIts whose flows line lines name flow) where
  there : (flow_at flows name ≡ Some flow) × (whose flow.ask ≡ true)
  there = own_is whose (flow_at flows name) flow ((talk.at).running name ∙ on_itself name flow)

  abbrev then : Flows
  then = taken flows

  rest_none : filter (is_own_line whose) then.sent ≡ []
  rest_none = ap (λ (l : List SentLine). filter (is_own_line whose) (behind_first l)) first ∙ talk.rest

  -- another name has no flow of it
  elsewhere : (other : List ℕ) → name ≢ other → own_flow whose (flow_at flows other) ≡ None
  elsewhere other ne = (talk.at).running other ∙ on_other name flow other ne

  gone : (other : List ℕ) → own_flow whose (flow_at (ended then name) other) ≡ None
  gone other = by (same_or_other (slice_cmp nat_cmp) names_apart name other)
    where
      by : (name ≡ other) ⊎ (name ≢ other) → own_flow whose (flow_at (ended then name) other) ≡ None
      by (inl same) =
          subst (λ (n : List ℕ). own_flow whose (flow_at (ended then name) n) ≡ None) same
          (ap (λ (f : Option Flow). own_flow whose f) (flow_ended then name order))
      by (inr ne) = ap (λ (f : Option Flow). own_flow whose f) (flow_ended-other then name other ne order) ∙ elsewhere other ne

  abbrev staged : Stage → Flow
  staged stage = record flow { stage = stage }

  gone_on : (stage : Stage) (other : List ℕ) → own_flow whose (flow_at (goes_on then name stage) other) ≡ on_name name (staged stage) other
  gone_on stage other = by (same_or_other (slice_cmp nat_cmp) names_apart name other)
    where
      by : (name ≡ other) ⊎ (name ≢ other) → own_flow whose (flow_at (goes_on then name stage) other) ≡ on_name name (staged stage) other
      by (inl same) = subst (λ (n : List ℕ). own_flow whose (flow_at (goes_on then name stage) n) ≡ on_name name (staged stage) n) same
          (ap (λ (f : Option Flow). own_flow whose f) (flow_goes_on then name stage flow there.0) ∙ own_here whose (staged stage) there.1
          ∙ sym (on_itself name (staged stage)))
      by (inr ne) =
          ap (λ (f : Option Flow). own_flow whose f) (flow_goes_on-other then name other stage (λ e. ne (sym e))) ∙ elsewhere other ne
          ∙ sym (on_other name (staged stage) other ne)

  -- its flow ends
  ends_so : (body : AnswerBody) (made : Option BackendRecord) (lines_sent : List SentLine) → filter (is_own_line whose) lines_sent ≡ []
      → Makes whose held (record { flows = ended then name; entry = made; sends = lines_sent; answers = answers_for body (flow_at then name) }) (ends flow body)
  ends_so body made lines_sent none = record {
    at = record { waiting = (talk.at).waiting; running = gone; sent = all_behind (is_own_line whose) then.sent lines_sent [] rest_none none; numbered = tt };
    lines = none;
    answers = ap (λ (f : Option Flow). filter (is_own_told whose) (answers_for body f)) there.0 ∙ kept (is_own_told whose) _ [] there.1;
  }

  its_line : (stage : Stage) → filter (is_own_line whose) (flow_line name (staged stage) ∷ []) ≡ flow_line name (staged stage) ∷ []
  its_line stage = kept (is_own_line whose) (flow_line name (staged stage)) [] (asked_own whose flow.ask (stage_line stage name) (talk.at).numbered ∙ there.1)

  -- or goes on
  goes_so : (stage : Stage) (made : Option BackendRecord)
      → Makes whose held (record { flows = goes_on then name stage; entry = made; sends = flow_line name (staged stage) ∷ []; answers = [] })
      (is_sent name (staged stage))
  goes_so stage made = record {
    at = record {
      waiting = (talk.at).waiting;
      running = gone_on stage;
      sent = all_behind (is_own_line whose) then.sent (flow_line name (staged stage) ∷ []) (flow_line name (staged stage) ∷ []) rest_none (its_line stage);
      numbered = (talk.at).numbered;
    };
    lines = its_line stage;
    answers = refl;
  }

  reserved_so : (serial : Option ℕ) → Makes whose held (reserved_by then (tag_of flow.ask) name serial) (reserved_move name flow serial)
  reserved_so None = ends_so NotNow None [] refl
  reserved_so (Some serial) = goes_so Making (Some (entry.Make name serial (first_acl name)))

  at_stage : (stage : Stage) → flow.stage ≡ stage → is_at then name stage ≡ is_same_stage stage stage
  at_stage stage e = ap (λ (f : Option Flow). has_stage stage f) there.0 ∙ ap (λ (s : Stage). is_same_stage s stage) e

  if_at : (here : Bool) (step : FlowStep) (move : Move) → here ≡ true → Makes whose held step move → Makes whose held (cond here step (silent then)) move
  if_at true step move e makes = makes
  if_at false step move e makes = cc

  as_move : (step : FlowStep) (one other : Move) → one ≡ other → Makes whose held step one → Makes whose held step other
  as_move step one other same makes = subst (λ (m : Move). Makes whose held step m) same makes

  module _ (found : Bool) (text : List ℕ) where
    ok_so : (stage : Stage) → flow.stage ≡ stage → (move : Move) → heard_move_by name flow stage (response.Ok text) ≡ Some move
        → Makes whose held (ok_of then held found (tag_of flow.ask) text (stage_line stage name)) move
    unfolding ok_of reserve_ok make_ok deactivate_ok delete_ok
    ok_so Reserving e move is =
        let same : reserved_move name flow (serial_in text) ≡ move = cc in
        as_move _ _ move same
        (if_at (is_at then name Reserving) _ _ (at_stage Reserving e) (reserved_so (serial_in text)))
    ok_so Making e move is =
        let same : ends flow (done nothing) ≡ move = cc in
        as_move _ _ move same
        (if_at (is_at then name Making) _ _ (at_stage Making e) (ends_so (done nothing) (Some (entry.Opened name)) [] refl))
    ok_so Deactivating e move is =
        let same : is_sent name (staged Deleting) ≡ move = cc in
        as_move _ _ move same
        (if_at (is_at then name Deactivating) _ _ (at_stage Deactivating e) (goes_so Deleting (Some (entry.Closing name))))
    ok_so Deleting e move is =
        let same : ends flow (done nothing) ≡ move = cc in
        as_move _ _ move same
        (if_at (is_at then name Deleting) _ _ (at_stage Deleting e) (ends_so (done nothing) (Some (forget name)) [] refl))

    no_so : (stage : Stage) → flow.stage ≡ stage → (move : Move) → heard_move_by name flow stage (response.No text) ≡ Some move
        → Makes whose held (no_of then text (stage_line stage name)) move
    unfolding no_of reserve_no make_no
    no_so Reserving e move is =
        let same : ends flow (reserve_refused text) ≡ move = cc in
        as_move _ _ move same
        (if_at (is_at then name Reserving) _ _ (at_stage Reserving e) (ends_so (reserve_refused text) None [] refl))
    no_so Making e move is =
        let same : ends flow (done Limit) ≡ move = cc in
        as_move _ _ move same
        (if_at (is_at then name Making) _ _ (at_stage Making e)
        (ends_so (done Limit) (Some (forget name)) (unasked_line (Wipe name) ∷ [])
        (ap (λ b. cond b (unasked_line (Wipe name) ∷ []) []) (unasked_own whose (Wipe name)))))
    no_so Deactivating e move is = cc
    no_so Deleting e move is = cc

  -- BAD is taken as NO is
  bad_as_no : (text : List ℕ) (stage : Stage) → heard_move_by name flow stage (response.Bad text) ≡ heard_move_by name flow stage (response.No text)
  bad_as_no text Reserving = refl
  bad_as_no text Making = refl
  bad_as_no text Deactivating = refl
  bad_as_no text Deleting = refl

  told_none : (n : List ℕ) (move : Move) (it : MResponse) → ((stage : Stage) → heard_move_by name flow stage it ≡ None)
      → heard_move_by name flow flow.stage it ≡ Some move → ⊥
  told_none n move it none is = (let no : None ≡ Some move = sym (none flow.stage) ∙ is in cc)

  module _ (tag : Tag) (same : is_same_tag line.tag tag ≡ true) where
    ok_step_is : (text : List ℕ)
        → heard_step flows held tag (response.Ok text) ≡ ok_of then held flows.found (tag_of flow.ask) text (stage_line flow.stage name)
    unfolding step_by
    ok_step_is text =
        heard_is flows held tag line lines first same (response.Ok text)
        ∙ ap (λ (l : SentLine). ok_of then held flows.found l.tag text l.what) talk.line_is

    no_step_is : (text : List ℕ) → heard_step flows held tag (response.No text) ≡ no_of then text (stage_line flow.stage name)
    unfolding step_by
    no_step_is text =
        heard_is flows held tag line lines first same (response.No text) ∙ ap (λ (l : SentLine). no_of then text l.what) talk.line_is

    bad_step_is : (text : List ℕ) → heard_step flows held tag (response.Bad text) ≡ no_of then text (stage_line flow.stage name)
    unfolding step_by
    bad_step_is text =
        heard_is flows held tag line lines first same (response.Bad text) ∙ ap (λ (l : SentLine). no_of then text l.what) talk.line_is

    -- a response under its tag
    pub heard_makes : (it : MResponse) (move : Move) → heard_move name flow it ≡ Some move → Makes whose held (heard_step flows held tag it) move
    heard_makes (response.Ok text) move is =
        subst (λ (s : FlowStep). Makes whose held s move) (sym (ok_step_is text)) (ok_so flows.found text flow.stage refl move is)
    heard_makes (response.No text) move is =
        subst (λ (s : FlowStep). Makes whose held s move) (sym (no_step_is text)) (no_so flows.found text flow.stage refl move is)
    heard_makes (response.Bad text) move is =
        subst (λ (s : FlowStep). Makes whose held s move) (sym (bad_step_is text))
        (no_so flows.found text flow.stage refl move (sym (bad_as_no text flow.stage) ∙ is))
    heard_makes (response.Mailbox n place acl) move is = absurd (told_none n move (response.Mailbox n place acl) none is)
      where
        none : (stage : Stage) → heard_move_by name flow stage (response.Mailbox n place acl) ≡ None
        none Reserving = refl
        none Making = refl
        none Deactivating = refl
        none Deleting = refl
    heard_makes (response.Reserve n place) move is = absurd (told_none n move (response.Reserve n place) none is)
      where
        none : (stage : Stage) → heard_move_by name flow stage (response.Reserve n place) ≡ None
        none Reserving = refl
        none Making = refl
        none Deactivating = refl
        none Deleting = refl
    heard_makes (response.Delete n) move is = absurd (told_none n move (response.Delete n) none is)
      where
        none : (stage : Stage) → heard_move_by name flow stage (response.Delete n) ≡ None
        none Reserving = refl
        none Making = refl
        none Deactivating = refl
        none Deleting = refl
