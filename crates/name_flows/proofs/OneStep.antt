-- A step, to one name, by what it leaves of the name.
use Rattle.std.proofs.Common.{◌≡◌, ◌≢◌, ℕ, Bool, true, false, cond, List, [], ◌∷◌, Option, None, Some, refl, sym, ap, ◌∙◌}
use Rattle.std.specs.List.{flat_map}
use Rattle.std.specs.Ordering.{nat_cmp}
use Rattle.std.specs.Cmp.Lexicographic.{slice_cmp}
use Rattle.mur_base.specs.Map.{value_at, with_entry, with_value, IsInOrder}
use Rattle.mur_base.proofs.MapLaws.{names_apart, value_at-with_entry, value_at-with_entry-other, value_at-with_value, value_at-with_value-other}
use Rattle.mur_base.specs.declared.home.Phase.{Phase}
use Rattle.mur_base.specs.declared.home.Phase.TheVariants.{Creating, Open, Closing, Receiving, Ready, Pointer}
use Rattle.node_record.specs.declared.held.Held.{Held}
use Rattle.node_record.specs.declared.backend.BackendRecord.{BackendRecord}
use Rattle.node_record.specs.declared.backend.BackendRecord.TheVariants as entry
use Rattle.node_record.specs.Held.{Names, held_at, held_after, with_phase, has_content, changed_if, changed}
use Rattle.home_law.specs.Items.{HomePhase, no_phase, HomeFlow, Resync as Progress, Item, Ctl}
use Rattle.home_law.specs.Steps.{BackStep}
use Rattle.name_flows.specs.declared.flow.Flow.{Flow}
use Rattle.name_flows.specs.declared.flow.Stage.{Stage}
use Rattle.name_flows.specs.declared.flows.Flows.{Flows}
use Rattle.name_flows.specs.OneName.{phase_of, phase_in, flow_in, progress_in, ctl_of, line_items, seen_by, quiet}
use Rattle.name_flows.specs.Running.{flow_at, staged, goes_on, ended, forget}
use Rattle.name_flows.specs.Steps.{FlowStep, silent, held_with}
use Rattle.name_flows.proofs.NameMaps.{value_at-without_key-same, value_at-without_key-other}

-- the names in the order of maps
pub record AreInOrder (flows : Flows) (held : Names) : Type 0 where
  pub running : IsInOrder (slice_cmp nat_cmp) flows.running
  pub names : IsInOrder (slice_cmp nat_cmp) held

-- what a step leaves of the name, and says of it
pub record Leaves (n : List ℕ) (flows : Flows) (held : Names) (step : FlowStep) (h : HomePhase) (f : HomeFlow) (s : Progress) (said : List Item) : Type 0 where
  pub phase : phase_in (held_at (held_with held step.entry) n) ≡ h
  pub flow : flow_in (flow_at step.flows n) ≡ f
  pub progress : progress_in n step.flows.resync ≡ s
  pub up : step.flows.up ≡ flows.up
  pub says : flat_map (line_items n) step.sends ≡ said

pub seen_as : (n : List ℕ) (linked : Bool) (flows : Flows) (held : Names) (step : FlowStep) (h : HomePhase) (f : HomeFlow) (s : Progress) (said : List Item)
    → Leaves n flows held step h f s said
    → record { ctl = record { phase = h; flow = f; resync = s; hears = flows.up; linked = linked }; says = said } ≡ seen_by n linked held step
seen_as n linked flows held step h f s said it = rw (it.phase, it.flow, it.progress, it.up, it.says) refl

-- nothing of it is changed, or said
abbrev pub LeavesIt : List ℕ → Flows → Names → FlowStep → Type 0
LeavesIt n flows held step = Leaves n flows held step (phase_in (held_at held n)) (flow_in (flow_at flows n)) (progress_in n flows.resync) []

pub left_alone : (n : List ℕ) (linked : Bool) (flows : Flows) (held : Names) (step : FlowStep) → LeavesIt n flows held step
    → quiet (ctl_of linked held flows n) ≡ seen_by n linked held step
left_alone n linked flows held step it = seen_as n linked flows held step (phase_in (held_at held n)) (flow_in (flow_at flows n)) (progress_in n flows.resync) [] it

pub silent_leaves : (n : List ℕ) (flows : Flows) (held : Names) → LeavesIt n flows held (silent flows)
silent_leaves n flows held = record { phase = refl; flow = refl; progress = refl; up = refl; says = refl }

-- ---- flows

pub flow_ended : (flows : Flows) (n : List ℕ) → IsInOrder (slice_cmp nat_cmp) flows.running → flow_at (ended flows n) n ≡ None
flow_ended flows n sorted = value_at-without_key-same flows.running n sorted

pub flow_ended-other : (flows : Flows) (m n : List ℕ) → m ≢ n → IsInOrder (slice_cmp nat_cmp) flows.running → flow_at (ended flows m) n ≡ flow_at flows n
flow_ended-other flows m n ne sorted = value_at-without_key-other flows.running m n ne sorted

pub flow_goes_on : (flows : Flows) (n : List ℕ) (stage : Stage) (flow : Flow) → flow_at flows n ≡ Some flow
    → flow_at (goes_on flows n stage) n ≡ Some (record flow { stage = stage })
flow_goes_on flows n stage flow there =
    rw there (value_at-with_value (slice_cmp nat_cmp) names_apart flows.running n (record flow { stage = stage }) flow there)

flow_staged-other : (running : List (List ℕ × Flow)) (m n : List ℕ) (stage : Stage) (f : Option Flow) → n ≢ m
    → value_at (slice_cmp nat_cmp) (staged running m stage f) n ≡ value_at (slice_cmp nat_cmp) running n
flow_staged-other running m n stage None ne = refl
flow_staged-other running m n stage (Some flow) ne = value_at-with_value-other (slice_cmp nat_cmp) names_apart running m n (record flow { stage = stage }) ne

pub flow_goes_on-other : (flows : Flows) (m n : List ℕ) (stage : Stage) → n ≢ m → flow_at (goes_on flows m stage) n ≡ flow_at flows n
flow_goes_on-other flows m n stage ne = flow_staged-other flows.running m n stage (flow_at flows m) ne

-- ---- entries

pub held_forgotten : (held : Names) (n : List ℕ) → IsInOrder (slice_cmp nat_cmp) held → held_at (held_after held (forget n)) n ≡ None
held_forgotten held n sorted = value_at-without_key-same held n sorted

pub held_forgotten-other : (held : Names) (m n : List ℕ) → m ≢ n → IsInOrder (slice_cmp nat_cmp) held → held_at (held_after held (forget m)) n ≡ held_at held n
held_forgotten-other held m n ne sorted = value_at-without_key-other held m n ne sorted

-- a name with content is brought into a phase
pub held_brought : (held : Names) (n : List ℕ) (phase : Phase) (it : Held) → held_at held n ≡ Some it → has_content it.phase ≡ true
    → held_at (changed held n (with_phase phase)) n ≡ Some (with_phase phase it)
held_brought held n phase it there content =
    rw (there, content) (value_at-with_value (slice_cmp nat_cmp) names_apart held n (with_phase phase it) it there)

held_changed-other : (held : Names) (m n : List ℕ) (change : Held → Held) (h : Option Held) → n ≢ m → held_at (changed_if held m change h) n ≡ held_at held n
held_changed-other held m n change None ne = refl
held_changed-other held m n change (Some it) ne =
    value_at-with_value-other (slice_cmp nat_cmp) names_apart held m n (cond (has_content it.phase) (change it) it) ne

pub held_brought-other : (held : Names) (m n : List ℕ) (phase : Phase) → n ≢ m → held_at (changed held m (with_phase phase)) n ≡ held_at held n
held_brought-other held m n phase ne = held_changed-other held m n (with_phase phase) (held_at held m) ne

pub held_placed : (held : Names) (n : List ℕ) (it : Held) → value_at (slice_cmp nat_cmp) (with_entry (slice_cmp nat_cmp) held n it) n ≡ Some it
held_placed held n it = value_at-with_entry (slice_cmp nat_cmp) names_apart held n it

pub held_placed-other : (held : Names) (m n : List ℕ) (it : Held) → n ≢ m
    → value_at (slice_cmp nat_cmp) (with_entry (slice_cmp nat_cmp) held m it) n ≡ value_at (slice_cmp nat_cmp) held n
held_placed-other held m n it ne = value_at-with_entry-other (slice_cmp nat_cmp) names_apart held m n it ne
