-- The answers to lines that no client waits for are to their name what the protocol of one name makes of them.
use Rattle.std.proofs.Common.{◌≡◌, ◌≢◌, ℕ, Bool, true, false, ◌&&◌, ◌||◌, not, cond, is_some, List, [], ◌∷◌, Option, None, Some, refl, sym, ap, ◌∙◌}
use Rattle.std.specs.Ordering.{nat_cmp}
use Rattle.std.specs.Cmp.Lexicographic.{slice_cmp}
use Rattle.mur_base.specs.Map.{value_at, with_entry}
use Rattle.mur_base.proofs.MapLaws.{names_apart, value_at-with_entry, value_at-with_entry-other}
use Rattle.mur_base.specs.declared.home.Phase.{Phase}
use Rattle.mur_base.specs.declared.home.Phase.TheVariants.{Creating, Open, Closing, Receiving, Ready, Pointer}
use Rattle.node_record.specs.declared.held.Held.{Held}
use Rattle.node_record.specs.declared.backend.BackendRecord.TheVariants as entry
use Rattle.node_record.specs.Held.{Names, held_at, held_after, has_content, pointer as pointer_to}
use Rattle.home_law.specs.Items.{HomePhase, no_phase, creating, serving, closing, pointer, HomeFlow, idle, Resync as Progress, listing, listed, again, wipe, Ctl}
use Rattle.home_law.specs.Steps.{BackStep, hear_again_ok, hear_wipe_ok, hear_find, hear_listed_active, hear_listed_reserved}
use Rattle.home_law.proofs.SameName.{is_itself, is_another}
use Rattle.name_flows.specs.declared.flow.Flow.{Flow}
use Rattle.name_flows.specs.declared.flow.Stage.{Stage}
use Rattle.name_flows.specs.declared.flow.Stage.TheVariants.{Reserving, Making, Deactivating, Deleting}
use Rattle.name_flows.specs.declared.flows.Flows.{Flows}
use Rattle.name_flows.specs.declared.resync.Resync.{Resync}
use Rattle.name_flows.specs.declared.sent.Sent.TheVariants.{Again, Wipe}
use Rattle.name_flows.specs.Finds.{forgotten_if, again_ok, wipe_ok, find_line_step, find_ok}
use Rattle.name_flows.specs.Listing.{noted_in, noted, active_listed, reserved_listed, listed_step}
use Rattle.name_flows.specs.Lines.{unasked_line}
use Rattle.name_flows.specs.OneName.{phase_of, phase_in, stage_of, flow_in, progress_in, ctl_of, seen_by, quiet}
use Rattle.name_flows.specs.Phases.{is_creating_phase, is_open_phase, is_closing_phase, is_creating, is_open, is_closing}
use Rattle.name_flows.specs.Running.{flow_at}
use Rattle.name_flows.specs.Steps.{FlowStep, given, silent, changing}
use Rattle.name_flows.proofs.OneStep.{AreInOrder, Leaves, LeavesIt, seen_as, left_alone, silent_leaves, held_forgotten, held_brought, held_brought-other, held_placed}

busy_again : (c : Ctl) (g : Stage) → hear_again_ok c closing (stage_of g) ≡ quiet c
unfolding hear_again_ok
busy_again c Reserving = refl
busy_again c Making = refl
busy_again c Deactivating = refl
busy_again c Deleting = refl

module _ (n : List ℕ) (linked : Bool) (flows : Flows) (held : Names) (order : AreInOrder flows held) where
  -- the name is open from here on
  opens : (it : Held) → held_at held n ≡ Some it → (p : Phase) → it.phase ≡ p → has_content p ≡ true
      → phase_in (held_at (held_after held (entry.Opened n)) n) ≡ serving
  opens it there p at content = ap phase_in (held_brought held n Open it there (rw at content))

  again_by : (h : Option Held) → held_at held n ≡ h → (f : Option Flow) → flow_at flows n ≡ f
      → hear_again_ok (ctl_of linked held flows n) (phase_in h) (flow_in f)
      ≡ seen_by n linked held (cond (is_closing h && not (is_some f)) (changing flows (entry.Opened n) []) (silent flows))
  unfolding hear_again_ok
  again_by None there f e = refl
  again_by (Some it) there f e = by_phase it.phase refl f e
    where
      by_phase : (p : Phase) → it.phase ≡ p → (f : Option Flow) → flow_at flows n ≡ f
          → hear_again_ok (ctl_of linked held flows n) (phase_of p) (flow_in f)
          ≡ seen_by n linked held (cond (is_closing_phase p && not (is_some f)) (changing flows (entry.Opened n) []) (silent flows))
      by_phase Creating at f e = refl
      by_phase Open at f e = refl
      by_phase Closing at None e = seen_as n linked flows held (changing flows (entry.Opened n) []) serving (flow_in (flow_at flows n)) (progress_in n flows.resync) [] (record {
        phase = opens it there Closing at refl;
        flow = refl;
        progress = refl;
        up = refl;
        says = refl;
      })
      by_phase Closing at (Some flow) e = busy_again (ctl_of linked held flows n) flow.stage
      by_phase Receiving at f e = refl
      by_phase Ready at f e = refl
      by_phase (Pointer server) at f e = refl

  pub again_ok_same : hear_again_ok (ctl_of linked held flows n) (phase_in (held_at held n)) (flow_in (flow_at flows n)) ≡ seen_by n linked held (again_ok flows held n)
  again_ok_same = again_by (held_at held n) refl (flow_at flows n) refl

  forgets : Leaves n flows held (given flows (forgotten_if true n)) no_phase (flow_in (flow_at flows n)) (progress_in n flows.resync) []
  forgets = record { phase = ap phase_in (held_forgotten held n order.names); flow = refl; progress = refl; up = refl; says = refl }

  wipe_by : (h : Option Held) → held_at held n ≡ h
      → hear_wipe_ok (ctl_of linked held flows n) (phase_in h) ≡ seen_by n linked held (given flows (forgotten_if (is_creating h) n))
  unfolding hear_wipe_ok
  wipe_by None there = refl
  wipe_by (Some it) there = by_phase it.phase
    where
      by_phase : (p : Phase) → hear_wipe_ok (ctl_of linked held flows n) (phase_of p)
          ≡ seen_by n linked held (given flows (forgotten_if (is_creating_phase p) n))
      by_phase Creating = seen_as n linked flows held (given flows (forgotten_if true n)) no_phase (flow_in (flow_at flows n)) (progress_in n flows.resync) [] forgets
      by_phase Open = refl
      by_phase Closing = refl
      by_phase Receiving = refl
      by_phase Ready = refl
      by_phase (Pointer server) = refl

  pub wipe_ok_same : hear_wipe_ok (ctl_of linked held flows n) (phase_in (held_at held n)) ≡ seen_by n linked held (wipe_ok flows held n)
  wipe_ok_same = wipe_by (held_at held n) refl

  not_found_by : (h : Option Held)
      → hear_find no_phase (ctl_of linked held flows n) (phase_in h) ≡ seen_by n linked held (given flows (forgotten_if (is_closing h) n))
  unfolding hear_find
  not_found_by None = refl
  not_found_by (Some it) = by_phase it.phase
    where
      by_phase : (p : Phase) → hear_find no_phase (ctl_of linked held flows n) (phase_of p)
          ≡ seen_by n linked held (given flows (forgotten_if (is_closing_phase p) n))
      by_phase Creating = refl
      by_phase Open = refl
      by_phase Closing = seen_as n linked flows held (given flows (forgotten_if true n)) no_phase (flow_in (flow_at flows n)) (progress_in n flows.resync) [] forgets
      by_phase Receiving = refl
      by_phase Ready = refl
      by_phase (Pointer server) = refl

  pub not_found_same : hear_find no_phase (ctl_of linked held flows n) (phase_in (held_at held n)) ≡ seen_by n linked held (find_ok flows held n false)
  not_found_same = not_found_by (held_at held n)

  found_by : (server : List ℕ) (h : Option Held)
      → hear_find pointer (ctl_of linked held flows n) (phase_in h)
      ≡ seen_by n linked held (cond (is_closing h) (changing (record flows { found = true }) (entry.Pointer n server) []) (silent (record flows { found = true })))
  unfolding hear_find
  found_by server None = refl
  found_by server (Some it) = by_phase it.phase
    where
      by_phase : (p : Phase) → hear_find pointer (ctl_of linked held flows n) (phase_of p)
          ≡ seen_by n linked held (cond (is_closing_phase p) (changing (record flows { found = true }) (entry.Pointer n server) []) (silent (record flows { found = true })))
      by_phase Creating = refl
      by_phase Open = refl
      by_phase Closing = seen_as n linked flows held (changing (record flows { found = true }) (entry.Pointer n server) []) pointer (flow_in (flow_at flows n)) (progress_in n flows.resync) [] (record {
        phase = ap phase_in (held_placed held n (pointer_to server));
        flow = refl;
        progress = refl;
        up = refl;
        says = refl;
      })
      by_phase Receiving = refl
      by_phase Ready = refl
      by_phase (Pointer other) = refl

  pub find_line_same : (server : List ℕ) → hear_find pointer (ctl_of linked held flows n) (phase_in (held_at held n)) ≡ seen_by n linked held (find_line_step flows held n server)
  find_line_same server = found_by server (held_at held n)

  -- ---- the lines that answer LIST

  noted_now : (w : Resync) → flows.resync ≡ Some w → progress_in n (noted_in flows.resync n) ≡ listed
  noted_now w e = rw (e, value_at-with_entry (slice_cmp nat_cmp) names_apart w.listed n tt) refl

  noted_other : (m : List ℕ) → n ≢ m → (r : Option Resync) → progress_in n (noted_in r m) ≡ progress_in n r
  noted_other m ne None = refl
  noted_other m ne (Some w) = rw (value_at-with_entry-other (slice_cmp nat_cmp) names_apart w.listed m n tt ne) refl

  open_now : (w : Resync) → flows.resync ≡ Some w → (it : Held) → held_at held n ≡ Some it → (p : Phase) → it.phase ≡ p
      → has_content p ≡ true
      → Leaves n flows held (given (noted flows n) (record { entry = Some (entry.Opened n); sends = []; answers = [] })) serving (flow_in (flow_at flows n)) listed []
  open_now w e it there p at content = record { phase = opens it there p at content; flow = refl; progress = noted_now w e; up = refl; says = refl }

  only_noted : (w : Resync) → flows.resync ≡ Some w
      → Leaves n flows held (given (noted flows n) (record { entry = None; sends = []; answers = [] })) (phase_in (held_at held n)) (flow_in (flow_at flows n)) listed []
  only_noted w e = record { phase = refl; flow = refl; progress = noted_now w e; up = refl; says = refl }

  active_by : (w : Resync) → flows.resync ≡ Some w → (h : Option Held) → held_at held n ≡ h
      → hear_listed_active (ctl_of linked held flows n) (phase_in h)
      ≡ seen_by n linked held (given (noted flows n) (cond (is_creating h || is_closing h)
      (record { entry = Some (entry.Opened n); sends = []; answers = [] }) (record { entry = None; sends = []; answers = [] })))
  unfolding hear_listed_active
  active_by w e None there = seen_as n linked flows held _ _ _ _ _ (only_noted w e)
  active_by w e (Some it) there = by_phase it.phase refl
    where
      by_phase : (p : Phase) → it.phase ≡ p
          → hear_listed_active (ctl_of linked held flows n) (phase_of p)
          ≡ seen_by n linked held (given (noted flows n) (cond (is_creating_phase p || is_closing_phase p)
          (record { entry = Some (entry.Opened n); sends = []; answers = [] }) (record { entry = None; sends = []; answers = [] })))
      by_phase Creating at = seen_as n linked flows held (given (noted flows n) (record { entry = Some (entry.Opened n); sends = []; answers = [] })) serving (flow_in (flow_at flows n)) listed [] (open_now w e it there Creating at refl)
      by_phase Open at = seen_as n linked flows held _ _ _ _ _ (only_noted w e)
      by_phase Closing at = seen_as n linked flows held (given (noted flows n) (record { entry = Some (entry.Opened n); sends = []; answers = [] })) serving (flow_in (flow_at flows n)) listed [] (open_now w e it there Closing at refl)
      by_phase Receiving at = seen_as n linked flows held _ _ _ _ _ (only_noted w e)
      by_phase Ready at = seen_as n linked flows held _ _ _ _ _ (only_noted w e)
      by_phase (Pointer server) at = seen_as n linked flows held _ _ _ _ _ (only_noted w e)

  pub active_same : (w : Resync) → flows.resync ≡ Some w
      → hear_listed_active (ctl_of linked held flows n) (phase_in (held_at held n)) ≡ seen_by n linked held (listed_step flows held n true)
  active_same w e = active_by w e (held_at held n) refl

  says_line : (w : Resync) → flows.resync ≡ Some w → (b : Bool)
      → Leaves n flows held (given (noted flows n) (record { entry = None; sends = unasked_line (cond b (Again n) (Wipe n)) ∷ []; answers = [] }))
      (phase_in (held_at held n)) (flow_in (flow_at flows n)) listed (cond b again wipe ∷ [])
  says_line w e true = record { phase = refl; flow = refl; progress = noted_now w e; up = refl; says = rw (is_itself n) refl }
  says_line w e false = record { phase = refl; flow = refl; progress = noted_now w e; up = refl; says = rw (is_itself n) refl }

  reserved_by_phase : (w : Resync) → flows.resync ≡ Some w → (h : Option Held)
      → hear_listed_reserved (ctl_of linked held flows n) (phase_in h)
      ≡ seen_by n linked held (given (noted flows n)
      (record { entry = None; sends = unasked_line (cond (is_open h || is_closing h) (Again n) (Wipe n)) ∷ []; answers = [] }))
  unfolding hear_listed_reserved
  reserved_by_phase w e None = seen_as n linked flows held _ _ _ _ _ (says_line w e false)
  reserved_by_phase w e (Some it) = by_phase it.phase
    where
      by_phase : (p : Phase) → hear_listed_reserved (ctl_of linked held flows n) (phase_of p)
          ≡ seen_by n linked held (given (noted flows n)
          (record { entry = None; sends = unasked_line (cond (is_open_phase p || is_closing_phase p) (Again n) (Wipe n)) ∷ []; answers = [] }))
      by_phase Creating = seen_as n linked flows held _ _ _ _ _ (says_line w e false)
      by_phase Open = seen_as n linked flows held _ _ _ _ _ (says_line w e true)
      by_phase Closing = seen_as n linked flows held _ _ _ _ _ (says_line w e true)
      by_phase Receiving = seen_as n linked flows held _ _ _ _ _ (says_line w e false)
      by_phase Ready = seen_as n linked flows held _ _ _ _ _ (says_line w e false)
      by_phase (Pointer server) = seen_as n linked flows held _ _ _ _ _ (says_line w e false)

  pub reserved_same : (w : Resync) → flows.resync ≡ Some w
      → hear_listed_reserved (ctl_of linked held flows n) (phase_in (held_at held n)) ≡ seen_by n linked held (listed_step flows held n false)
  reserved_same w e = reserved_by_phase w e (held_at held n)

  -- a line about another name

  listed_if : (m : List ℕ) → n ≢ m → (b : Bool) → LeavesIt n flows held (given (noted flows m) (cond b
      (record { entry = Some (entry.Opened m); sends = []; answers = [] }) (record { entry = None; sends = []; answers = [] })))
  listed_if m ne true = record {
    phase = ap phase_in (held_brought-other held m n Open ne);
    flow = refl;
    progress = noted_other m ne flows.resync;
    up = refl;
    says = refl;
  }
  listed_if m ne false = record { phase = refl; flow = refl; progress = noted_other m ne flows.resync; up = refl; says = refl }

  said_if : (m : List ℕ) → m ≢ n → (b : Bool)
      → LeavesIt n flows held (given (noted flows m) (record { entry = None; sends = unasked_line (cond b (Again m) (Wipe m)) ∷ []; answers = [] }))
  said_if m ne true = record { phase = refl; flow = refl; progress = noted_other m (λ e. ne (sym e)) flows.resync; up = refl; says = rw (is_another m n ne) refl }
  said_if m ne false = record { phase = refl; flow = refl; progress = noted_other m (λ e. ne (sym e)) flows.resync; up = refl; says = rw (is_another m n ne) refl }

  pub active_leaves : (m : List ℕ) → m ≢ n → LeavesIt n flows held (listed_step flows held m true)
  active_leaves m ne = listed_if m (λ e. ne (sym e)) (is_creating (held_at held m) || is_closing (held_at held m))

  pub reserved_leaves : (m : List ℕ) → m ≢ n → LeavesIt n flows held (listed_step flows held m false)
  reserved_leaves m ne = said_if m ne (is_open (held_at held m) || is_closing (held_at held m))
