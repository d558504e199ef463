-- A response about one name is nothing to another.
use Rattle.std.proofs.Common.{◌≡◌, ◌≢◌, ℕ, Bool, true, false, ◌&&◌, not, cond, List, [], ◌∷◌, Option, None, Some, refl, sym, ap, ◌∙◌}
use Rattle.std.specs.Ordering.{nat_cmp}
use Rattle.std.specs.Cmp.Lexicographic.{slice_cmp}
use Rattle.mur_base.proofs.MapLaws.{names_apart, value_at-with_entry-other}
use Rattle.mail_message.specs.Boxes.{empty_box}
use Rattle.mail_message.specs.FirstAcl.{first_acl}
use Rattle.mur_base.specs.declared.home.Phase.TheVariants.{Creating, Open, Closing}
use Rattle.link_msg.specs.declared.answer.AnswerBody.{AnswerBody}
use Rattle.link_msg.specs.declared.answer.AnswerBody.TheVariants.{NotNow}
use Rattle.link_msg.specs.declared.outcome.Outcome.TheVariants.{None as nothing}
use Rattle.mupdate_codec.specs.declared.tag.Tag.{Tag}
use Rattle.node_record.specs.declared.backend.BackendRecord.TheVariants as entry
use Rattle.node_record.specs.Held.{Names, held_at, pointer}
use Rattle.home_law.proofs.SameName.{is_another}
use Rattle.name_flows.specs.declared.flow.Stage.{Stage}
use Rattle.name_flows.specs.declared.flow.Stage.TheVariants.{Reserving, Making, Deactivating, Deleting}
use Rattle.name_flows.specs.declared.flows.Flows.{Flows}
use Rattle.name_flows.specs.declared.resync.Resync.{Resync}
use Rattle.name_flows.specs.Creates.{serial_in, reserve_refused, makes, full, reserved_by, reserve_ok, reserve_no, make_ok, make_no}
use Rattle.name_flows.specs.Deletes.{closes, deactivate_ok, delete_ok}
use Rattle.name_flows.specs.Finds.{forgotten_if, again_ok, wipe_ok, find_line_step, find_ok}
use Rattle.name_flows.specs.Phases.{is_creating, is_closing}
use Rattle.name_flows.specs.Running.{flow_at, has_flow, is_at, goes_on, ended, answers_for, done, forget}
use Rattle.name_flows.specs.Steps.{FlowStep, given, silent, changing, finished}
use Rattle.name_flows.proofs.OneStep.{AreInOrder, Leaves, LeavesIt, silent_leaves, flow_ended-other, flow_goes_on-other, held_forgotten-other, held_brought-other, held_placed-other}
use Rattle.name_flows.specs.OneName.{phase_in, flow_in}

module _ (n m : List ℕ) (ne : m ≢ n) (flows : Flows) (held : Names) (order : AreInOrder flows held) where
  apart : n ≢ m
  apart e = ne (sym e)

  if_leaves : (b : Bool) (step : FlowStep) → LeavesIt n flows held step → LeavesIt n flows held (cond b step (silent flows))
  if_leaves true step it = it
  if_leaves false step it = silent_leaves n flows held

  finished_leaves : (body : AnswerBody) → LeavesIt n flows held (finished flows m body)
  finished_leaves body = record {
    phase = refl;
    flow = ap flow_in (flow_ended-other flows m n ne order.running);
    progress = refl;
    up = refl;
    says = refl;
  }

  reserved_leaves : (tag : Tag) (serial : Option ℕ) → LeavesIt n flows held (reserved_by flows tag m serial)
  reserved_leaves tag None = finished_leaves NotNow
  reserved_leaves tag (Some serial) = record {
    phase = ap phase_in (held_placed-other held m n (record { phase = Creating; giver = None; content = empty_box serial (first_acl m) }) apart);
    flow = ap flow_in (flow_goes_on-other flows m n Making apart);
    progress = refl;
    up = refl;
    says = rw (is_another m n ne) refl;
  }

  pub reserve_ok_leaves : (tag : Tag) (text : List ℕ) → LeavesIt n flows held (reserve_ok flows tag m text)
  unfolding reserve_ok
  reserve_ok_leaves tag text = if_leaves (is_at flows m Reserving) (reserved_by flows tag m (serial_in text)) (reserved_leaves tag (serial_in text))

  pub reserve_no_leaves : (text : List ℕ) → LeavesIt n flows held (reserve_no flows m text)
  unfolding reserve_no
  reserve_no_leaves text = if_leaves (is_at flows m Reserving) (finished flows m (reserve_refused text)) (finished_leaves (reserve_refused text))

  pub make_ok_leaves : LeavesIt n flows held (make_ok flows m)
  unfolding make_ok
  make_ok_leaves = if_leaves (is_at flows m Making) (changing (ended flows m) (entry.Opened m) (answers_for (done nothing) (flow_at flows m))) (record {
    phase = ap phase_in (held_brought-other held m n Open apart);
    flow = ap flow_in (flow_ended-other flows m n ne order.running);
    progress = refl;
    up = refl;
    says = refl;
  })

  pub make_no_leaves : LeavesIt n flows held (make_no flows m)
  unfolding make_no
  make_no_leaves = if_leaves (is_at flows m Making) (full flows m) (record {
    phase = ap phase_in (held_forgotten-other held m n ne order.names);
    flow = ap flow_in (flow_ended-other flows m n ne order.running);
    progress = refl;
    up = refl;
    says = rw (is_another m n ne) refl;
  })

  pub deactivate_ok_leaves : (tag : Tag) → LeavesIt n flows held (deactivate_ok flows tag m)
  unfolding deactivate_ok
  deactivate_ok_leaves tag = if_leaves (is_at flows m Deactivating) (given (goes_on flows m Deleting) (closes tag m)) (record {
    phase = ap phase_in (held_brought-other held m n Closing apart);
    flow = ap flow_in (flow_goes_on-other flows m n Deleting apart);
    progress = refl;
    up = refl;
    says = rw (is_another m n ne) refl;
  })

  pub delete_ok_leaves : LeavesIt n flows held (delete_ok flows m)
  unfolding delete_ok
  delete_ok_leaves = if_leaves (is_at flows m Deleting) (changing (ended flows m) (forget m) (answers_for (done nothing) (flow_at flows m))) (record {
    phase = ap phase_in (held_forgotten-other held m n ne order.names);
    flow = ap flow_in (flow_ended-other flows m n ne order.running);
    progress = refl;
    up = refl;
    says = refl;
  })

  forgotten_leaves : (b : Bool) → LeavesIt n flows held (given flows (forgotten_if b m))
  forgotten_leaves true = record {
    phase = ap phase_in (held_forgotten-other held m n ne order.names);
    flow = refl;
    progress = refl;
    up = refl;
    says = refl;
  }
  forgotten_leaves false = silent_leaves n flows held

  pub again_ok_leaves : LeavesIt n flows held (again_ok flows held m)
  again_ok_leaves = if_leaves (is_closing (held_at held m) && not (has_flow flows m)) (changing flows (entry.Opened m) []) (record { phase = ap phase_in (held_brought-other held m n Open apart); flow = refl; progress = refl; up = refl; says = refl })

  pub wipe_ok_leaves : LeavesIt n flows held (wipe_ok flows held m)
  wipe_ok_leaves = forgotten_leaves (is_creating (held_at held m))

  pub find_ok_leaves : (found : Bool) → LeavesIt n flows held (find_ok flows held m found)
  find_ok_leaves found = forgotten_leaves (not found && is_closing (held_at held m))

  found_by : (server : List ℕ) (b : Bool) → LeavesIt n flows held (cond b
      (record { flows = record flows { found = true }; entry = Some (entry.Pointer m server); sends = []; answers = [] })
      (silent (record flows { found = true })))
  found_by server true = record { phase = ap phase_in (held_placed-other held m n (pointer server) apart); flow = refl; progress = refl; up = refl; says = refl }
  found_by server false = record { phase = refl; flow = refl; progress = refl; up = refl; says = refl }

  pub find_line_leaves : (server : List ℕ) → LeavesIt n flows held (find_line_step flows held m server)
  find_line_leaves server = found_by server (is_closing (held_at held m))
