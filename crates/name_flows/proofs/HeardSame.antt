-- The answers to the lines of a CREATE and of a DELETE are to their name what the protocol of one name makes of them.
use Rattle.std.proofs.Common.{◌≡◌, ℕ, Bool, true, false, ◌&&◌, ◌||◌, cond, List, [], ◌∷◌, Option, None, Some, refl, sym, ap, ◌∙◌}
use Rattle.mail_message.specs.Boxes.{empty_box}
use Rattle.mail_message.specs.FirstAcl.{first_acl}
use Rattle.mur_base.specs.declared.home.Phase.{Phase}
use Rattle.mur_base.specs.declared.home.Phase.TheVariants.{Creating, Open, Closing, Receiving, Ready, Pointer}
use Rattle.link_msg.specs.declared.answer.AnswerBody.{AnswerBody}
use Rattle.link_msg.specs.declared.outcome.Outcome.TheVariants.{None as nothing}
use Rattle.mupdate_codec.specs.declared.tag.Tag.{Tag}
use Rattle.node_record.specs.declared.held.Held.{Held}
use Rattle.node_record.specs.declared.backend.BackendRecord.TheVariants as entry
use Rattle.node_record.specs.Held.{Names, held_at}
use Rattle.home_law.specs.Items.{Mine, HomePhase, no_phase, creating, serving, closing, HomeFlow, idle, reserving, making, pausing, deleting, make, delete, wipe, Ctl}
use Rattle.home_law.specs.Rows.{home_ok, flow_ok, control_ok, is_idle, is_synced, is_bare, is_active, is_creating as is_creating_one, is_serving}
use Rattle.home_law.specs.Steps.{BackStep, hear_reserve_ok, hear_reserve_no, hear_make_ok, hear_make_no, hear_deactivate_ok, hear_delete_ok}
use Rattle.home_law.proofs.SameName.{is_itself}
use Rattle.name_flows.specs.declared.flow.Flow.{Flow}
use Rattle.name_flows.specs.declared.flow.Stage.{Stage}
use Rattle.name_flows.specs.declared.flow.Stage.TheVariants.{Reserving, Making, Deactivating, Deleting}
use Rattle.name_flows.specs.declared.flows.Flows.{Flows}
use Rattle.name_flows.specs.Creates.{serial_in, reserve_refused, makes, full, reserved_by, reserve_ok, reserve_no, make_ok, make_no}
use Rattle.name_flows.specs.Deletes.{closes, deactivate_ok, delete_ok}
use Rattle.name_flows.specs.OneName.{phase_of, phase_in, stage_of, flow_in, progress_in, ctl_of, seen_by, quiet}
use Rattle.name_flows.specs.Running.{flow_at, is_same_stage, has_stage, is_at, goes_on, ended, answers_for, done, forget}
use Rattle.name_flows.specs.Steps.{FlowStep, given, silent, changing, finished}
use Rattle.name_flows.proofs.OneStep.{AreInOrder, Leaves, seen_as, flow_ended, flow_goes_on, held_forgotten, held_brought, held_placed}

same_stage : (g s : Stage) → is_same_stage g s ≡ true → g ≡ s
same_stage Reserving Reserving e = refl
same_stage Making Making e = refl
same_stage Deactivating Deactivating e = refl
same_stage Deleting Deleting e = refl
same_stage one other e = cc

and_left : (a b : Bool) → (a && b) ≡ true → a ≡ true
and_left true b e = refl
and_left false b e = cc

and_right : (a b : Bool) → (a && b) ≡ true → b ≡ true
and_right true b e = e
and_right false b e = cc

-- a mailbox that is made here, and one that is open here

pub record IsHere (h : Option Held) (wanted : Phase) : Type 0 where
  pub it : Held
  pub there : h ≡ Some it
  pub phase : it.phase ≡ wanted

creating_by : (it : Held) (p : Phase) → it.phase ≡ p → is_creating_one (phase_of p) ≡ true → IsHere (Some it) Creating
unfolding is_creating_one
creating_by it Creating e t = record { it = it; there = refl; phase = e }
creating_by it Open e t = cc
creating_by it Closing e t = cc
creating_by it Receiving e t = cc
creating_by it Ready e t = cc
creating_by it (Pointer server) e t = cc

creating_is : (h : Option Held) → is_creating_one (phase_in h) ≡ true → IsHere h Creating
unfolding is_creating_one
creating_is None t = cc
creating_is (Some it) t = creating_by it it.phase refl t

open_by : (it : Held) (p : Phase) → it.phase ≡ p → is_serving (phase_of p) ≡ true → IsHere (Some it) Open
unfolding is_serving
open_by it Creating e t = cc
open_by it Open e t = record { it = it; there = refl; phase = e }
open_by it Closing e t = cc
open_by it Receiving e t = cc
open_by it Ready e t = cc
open_by it (Pointer server) e t = cc

open_is : (h : Option Held) → is_serving (phase_in h) ≡ true → IsHere h Open
unfolding is_serving
open_is None t = cc
open_is (Some it) t = open_by it it.phase refl t

flow_fits : (m : Mine) (c : Ctl) → control_ok m c ≡ true → flow_ok m c.phase c.flow ≡ true
unfolding control_ok
flow_fits m c e =
    and_left (flow_ok m c.phase c.flow) ((is_idle c.flow || c.hears && is_synced c.resync) && (c.hears || is_synced c.resync))
    (and_right (home_ok m c.phase) (flow_ok m c.phase c.flow && ((is_idle c.flow || c.hears && is_synced c.resync) && (c.hears || is_synced c.resync))) e)

making_fits : (m : Mine) (p : HomePhase) → flow_ok m p making ≡ true → is_creating_one p ≡ true
unfolding flow_ok
making_fits m p e = and_left (is_creating_one p) (is_bare m || is_active m) e

pausing_fits : (m : Mine) (p : HomePhase) → flow_ok m p pausing ≡ true → is_serving p ≡ true
unfolding flow_ok
pausing_fits m p e = e

-- what isn't waited for changes nothing

not_reserved : (c : Ctl) (g : Stage) → is_same_stage g Reserving ≡ false → hear_reserve_ok c (stage_of g) ≡ quiet c
unfolding hear_reserve_ok
not_reserved c Reserving e = cc
not_reserved c Making e = refl
not_reserved c Deactivating e = refl
not_reserved c Deleting e = refl

not_refused : (c : Ctl) (g : Stage) → is_same_stage g Reserving ≡ false → hear_reserve_no c (stage_of g) ≡ quiet c
unfolding hear_reserve_no
not_refused c Reserving e = cc
not_refused c Making e = refl
not_refused c Deactivating e = refl
not_refused c Deleting e = refl

not_made : (c : Ctl) (g : Stage) → is_same_stage g Making ≡ false → hear_make_ok c (stage_of g) ≡ quiet c
unfolding hear_make_ok
not_made c Reserving e = refl
not_made c Making e = cc
not_made c Deactivating e = refl
not_made c Deleting e = refl

not_full : (c : Ctl) (g : Stage) → is_same_stage g Making ≡ false → hear_make_no c (stage_of g) ≡ quiet c
unfolding hear_make_no
not_full c Reserving e = refl
not_full c Making e = cc
not_full c Deactivating e = refl
not_full c Deleting e = refl

not_closed : (c : Ctl) (g : Stage) → is_same_stage g Deactivating ≡ false → hear_deactivate_ok c (stage_of g) ≡ quiet c
unfolding hear_deactivate_ok
not_closed c Reserving e = refl
not_closed c Making e = refl
not_closed c Deactivating e = cc
not_closed c Deleting e = refl

not_deleted : (c : Ctl) (g : Stage) → is_same_stage g Deleting ≡ false → hear_delete_ok c (stage_of g) ≡ quiet c
unfolding hear_delete_ok
not_deleted c Reserving e = refl
not_deleted c Making e = refl
not_deleted c Deactivating e = refl
not_deleted c Deleting e = cc

module _ (n : List ℕ) (linked : Bool) (flows : Flows) (held : Names) (order : AreInOrder flows held) where
  -- by the flow that waits for the answer
  at_stage : (s : Stage) (h : HomeFlow → BackStep) (step : FlowStep) → h idle ≡ quiet (ctl_of linked held flows n)
      → ((g : Stage) → is_same_stage g s ≡ false → h (stage_of g) ≡ quiet (ctl_of linked held flows n))
      → ((flow : Flow) → flow_at flows n ≡ Some flow → flow.stage ≡ s → h (stage_of s) ≡ seen_by n linked held step)
      → h (flow_in (flow_at flows n)) ≡ seen_by n linked held (cond (is_at flows n s) step (silent flows))
  at_stage s h step none others hit = by_flow (flow_at flows n) refl
    where
      by_test : (flow : Flow) → flow_at flows n ≡ Some flow → (b : Bool) → is_same_stage flow.stage s ≡ b
          → h (stage_of flow.stage) ≡ seen_by n linked held (cond b step (silent flows))
      by_test flow there true e = rw (same_stage flow.stage s e) (hit flow there (same_stage flow.stage s e))
      by_test flow there false e = others flow.stage e

      by_flow : (f : Option Flow) → flow_at flows n ≡ f → h (flow_in f) ≡ seen_by n linked held (cond (has_stage s f) step (silent flows))
      by_flow None e = none
      by_flow (Some flow) e = by_test flow e (is_same_stage flow.stage s) refl

  pub reserve_ok_same : (tag : Tag) (text : List ℕ) (serial : ℕ) → serial_in text ≡ Some serial
      → hear_reserve_ok (ctl_of linked held flows n) (flow_in (flow_at flows n)) ≡ seen_by n linked held (reserve_ok flows tag n text)
  unfolding reserve_ok hear_reserve_ok
  reserve_ok_same tag text serial told =
      at_stage Reserving (λ f. hear_reserve_ok (ctl_of linked held flows n) f) (reserved_by flows tag n (serial_in text)) refl (not_reserved (ctl_of linked held flows n))
      (λ flow there at. rw told (seen_as n linked flows held (makes flows tag n serial) creating making (progress_in n flows.resync) (make ∷ []) (record {
        phase = ap phase_in (held_placed held n (record { phase = Creating; giver = None; content = empty_box serial (first_acl n) }));
        flow = ap flow_in (flow_goes_on flows n Making flow there);
        progress = refl;
        up = refl;
        says = rw (is_itself n) refl;
      })))

  finished_leaves : (body : AnswerBody) → Leaves n flows held (finished flows n body) (phase_in (held_at held n)) idle (progress_in n flows.resync) []
  finished_leaves body = record { phase = refl; flow = ap flow_in (flow_ended flows n order.running); progress = refl; up = refl; says = refl }

  pub reserve_no_same : (text : List ℕ)
      → hear_reserve_no (ctl_of linked held flows n) (flow_in (flow_at flows n)) ≡ seen_by n linked held (reserve_no flows n text)
  unfolding reserve_no hear_reserve_no
  reserve_no_same text =
      at_stage Reserving (λ f. hear_reserve_no (ctl_of linked held flows n) f) (finished flows n (reserve_refused text)) refl (not_refused (ctl_of linked held flows n))
      (λ flow there at. seen_as n linked flows held (finished flows n (reserve_refused text)) (phase_in (held_at held n)) idle (progress_in n flows.resync) [] (finished_leaves (reserve_refused text)))

  -- the flow's phase, by what holds of record, phase and flow
  fits : (m : Mine) → control_ok m (ctl_of linked held flows n) ≡ true → (flow : Flow) → flow_at flows n ≡ Some flow → (s : Stage) → flow.stage ≡ s
      → flow_ok m (phase_in (held_at held n)) (stage_of s) ≡ true
  fits m ok flow there s at = let e = flow_fits m (ctl_of linked held flows n) ok in rw (there, at) at e

  pub make_ok_same : (m : Mine) → control_ok m (ctl_of linked held flows n) ≡ true
      → hear_make_ok (ctl_of linked held flows n) (flow_in (flow_at flows n)) ≡ seen_by n linked held (make_ok flows n)
  unfolding make_ok hear_make_ok
  make_ok_same m ok =
      at_stage Making (λ f. hear_make_ok (ctl_of linked held flows n) f) (changing (ended flows n) (entry.Opened n) (answers_for (done nothing) (flow_at flows n))) refl (not_made (ctl_of linked held flows n))
      (λ flow there at. let here = creating_is (held_at held n) (making_fits m (phase_in (held_at held n)) (fits m ok flow there Making at)) in
      seen_as n linked flows held (changing (ended flows n) (entry.Opened n) (answers_for (done nothing) (flow_at flows n))) serving idle (progress_in n flows.resync) [] (record {
        phase = ap phase_in (held_brought held n Open here.it here.there (rw here.phase refl));
        flow = ap flow_in (flow_ended flows n order.running);
        progress = refl;
        up = refl;
        says = refl;
      }))

  pub make_no_same : hear_make_no (ctl_of linked held flows n) (flow_in (flow_at flows n)) ≡ seen_by n linked held (make_no flows n)
  unfolding make_no hear_make_no
  make_no_same =
      at_stage Making (λ f. hear_make_no (ctl_of linked held flows n) f) (full flows n) refl (not_full (ctl_of linked held flows n))
      (λ flow there at. seen_as n linked flows held (full flows n) no_phase idle (progress_in n flows.resync) (wipe ∷ []) (record {
        phase = ap phase_in (held_forgotten held n order.names);
        flow = ap flow_in (flow_ended flows n order.running);
        progress = refl;
        up = refl;
        says = rw (is_itself n) refl;
      }))

  pub deactivate_ok_same : (m : Mine) (tag : Tag) → control_ok m (ctl_of linked held flows n) ≡ true
      → hear_deactivate_ok (ctl_of linked held flows n) (flow_in (flow_at flows n)) ≡ seen_by n linked held (deactivate_ok flows tag n)
  unfolding deactivate_ok hear_deactivate_ok
  deactivate_ok_same m tag ok =
      at_stage Deactivating (λ f. hear_deactivate_ok (ctl_of linked held flows n) f) (given (goes_on flows n Deleting) (closes tag n)) refl (not_closed (ctl_of linked held flows n))
      (λ flow there at. let here = open_is (held_at held n) (pausing_fits m (phase_in (held_at held n)) (fits m ok flow there Deactivating at)) in
      seen_as n linked flows held (given (goes_on flows n Deleting) (closes tag n)) closing deleting (progress_in n flows.resync) (delete ∷ []) (record {
        phase = ap phase_in (held_brought held n Closing here.it here.there (rw here.phase refl));
        flow = ap flow_in (flow_goes_on flows n Deleting flow there);
        progress = refl;
        up = refl;
        says = rw (is_itself n) refl;
      }))

  pub delete_ok_same : hear_delete_ok (ctl_of linked held flows n) (flow_in (flow_at flows n)) ≡ seen_by n linked held (delete_ok flows n)
  unfolding delete_ok hear_delete_ok
  delete_ok_same =
      at_stage Deleting (λ f. hear_delete_ok (ctl_of linked held flows n) f) (changing (ended flows n) (forget n) (answers_for (done nothing) (flow_at flows n))) refl (not_deleted (ctl_of linked held flows n))
      (λ flow there at. seen_as n linked flows held (changing (ended flows n) (forget n) (answers_for (done nothing) (flow_at flows n))) no_phase idle (progress_in n flows.resync) [] (record {
        phase = ap phase_in (held_forgotten held n order.names);
        flow = ap flow_in (flow_ended flows n order.running);
        progress = refl;
        up = refl;
        says = refl;
      }))
