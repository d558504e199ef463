-- An ask for messages writes one entry at most, of a name that is open, by which no name gets another phase.
use Rattle.std.proofs.Math.Logic.{⊎_elim}
use Rattle.std.proofs.Common.{◌≡◌, ◌≢◌, ℕ, Bool, true, false, cond, List, [], ◌∷◌, Option, None, Some, refl, sym, ap, subst, ◌∙◌}
use Rattle.std.specs.List.{AllByRecursion, fold}
use Rattle.std.specs.Ordering.{nat_cmp}
use Rattle.std.specs.Cmp.Lexicographic.{slice_cmp}
use Rattle.mur_base.proofs.MapLaws.{names_apart, same_or_other, value_at-with_value, value_at-with_value-other}
use Rattle.mur_base.specs.declared.home.Phase.{Phase}
use Rattle.mur_base.specs.declared.home.Phase.TheVariants.{Creating, Open, Closing, Receiving, Ready, Pointer}
use Rattle.mail_message.specs.Boxes.{Content}
use Rattle.mail_message.specs.declared.change.Change.{Change}
use Rattle.mail_message.specs.declared.message.Message.{Message}
use Rattle.mail_message.specs.declared.message.Row.{Row}
use Rattle.mail_message.specs.declared.mode.Mode.{Mode}
use Rattle.mail_message.specs.FlagSets.{Flags}
use Rattle.mail_store.specs.Append.{append_fault}
use Rattle.mail_store.specs.Store.{has_too_many_flags, rows_stored}
use Rattle.mail_store.specs.declared.fault.StoreFault.{StoreFault}
use Rattle.imap_types.specs.declared.op.Op.{Op}
use Rattle.imap_types.specs.declared.op.Op.TheVariants.{Look, Read, Summaries, Flags as flags_op, Expunge, Append, Create}
use Rattle.link_msg.specs.declared.ask.FrontAsk.{FrontAsk}
use Rattle.node_record.specs.declared.backend.BackendRecord.{BackendRecord}
use Rattle.node_record.specs.declared.backend.BackendRecord.TheVariants.{Added, Flagged, Gone}
use Rattle.node_record.specs.declared.held.Held.{Held}
use Rattle.node_record.specs.Held.{IsOpen, IsWritableHome, Names, changed, changed_if, has_content, held_after, held_at, puts, relabels, removals, with_changes}
use Rattle.backend_core.specs.declared.backend.Backend.{Backend}
use Rattle.backend_core.specs.declared.op_plan.OpPlan.{OpPlan}
use Rattle.backend_core.specs.declared.response.Response.{Response}
use Rattle.backend_core.specs.Append.{adds_within_limits, append_plan}
use Rattle.backend_core.specs.AskPlan.{ask_plan, op_plan}
use Rattle.backend_core.specs.Expunge.{expunge_plan}
use Rattle.backend_core.specs.Flags.{flags_plan, relabels_unless}
use Rattle.backend_core.specs.Look.{look_plan}
use Rattle.backend_core.specs.OpPlan.{entry_of, plans, plans_unless}
use Rattle.backend_core.specs.Plan.{owes}
use Rattle.backend_core.specs.Read.{read_plan, seen_entries}
use Rattle.backend_core.specs.Refusal.{is_other, refusal, refusal_in}
use Rattle.backend_core.specs.Summaries.{summaries_plan}
use Rattle.name_flows.specs.OneName.{phase_in}
use Rattle.back_node.specs.Acted.{listed_entry}
use Rattle.back_node.specs.Takes.{name_kind, only_entry}

-- a list of one entry at most
abbrev pub IsOne : List BackendRecord → Type 0
IsOne entries = listed_entry (only_entry entries) ≡ entries

-- no name gets another phase
abbrev pub KeepsPhases : List BackendRecord → Type 0
KeepsPhases entries = (held : Names) (n : List ℕ) → phase_in (held_at (fold held_after held entries) n) ≡ phase_in (held_at held n)

-- the entry changes messages where they are served
abbrev pub IsOfOpen : Names → BackendRecord → Type 0
IsOfOpen held (Added name messages) = IsWritableHome held name
IsOfOpen held (Flagged name rows) = IsWritableHome held name
IsOfOpen held (Gone name uids) = IsWritableHome held name
IsOfOpen held entry = ⊥

pub record AreOfMessages (held : Names) (entries : List BackendRecord) : Type 0 where
  pub one : IsOne entries
  pub phases : KeepsPhases entries
  pub opened : AllByRecursion (IsOfOpen held) entries

none_written : (held : Names) → AreOfMessages held []
none_written held = record { one = refl; phases = λ names n. refl; opened = tt }

-- ---- another content leaves the phase

content_or : (it : Held) (changes : List Change) (test : Bool) → phase_in (Some (cond test (with_changes changes it) it)) ≡ phase_in (Some it)
content_or it changes true = refl
content_or it changes false = refl

changed_here : (held : Names) (name : List ℕ) (changes : List Change) (found : Option Held) → held_at held name ≡ found
    → phase_in (held_at (changed_if held name (with_changes changes) found) name) ≡ phase_in found
changed_here held name changes None is = ap phase_in is
changed_here held name changes (Some it) is =
    ap phase_in (value_at-with_value (slice_cmp nat_cmp) names_apart held name (cond (has_content it.phase) (with_changes changes it) it) it is)
    ∙ content_or it changes (has_content it.phase)

changed_there : (held : Names) (name n : List ℕ) (changes : List Change) (found : Option Held) → n ≢ name
    → phase_in (held_at (changed_if held name (with_changes changes) found) n) ≡ phase_in (held_at held n)
changed_there held name n changes None ne = refl
changed_there held name n changes (Some it) ne =
    ap phase_in (value_at-with_value-other (slice_cmp nat_cmp) names_apart held name n (cond (has_content it.phase) (with_changes changes it) it) ne)

changed_keeps : (held : Names) (name n : List ℕ) (changes : List Change)
    → phase_in (held_at (changed held name (with_changes changes)) n) ≡ phase_in (held_at held n)
changed_keeps held name n changes =
    ⊎_elim
    (λ (e : n ≡ name). subst (λ m. phase_in (held_at (changed held name (with_changes changes)) m) ≡ phase_in (held_at held m)) (sym e)
    (changed_here held name changes (held_at held name) refl))
    (λ (ne : n ≢ name). changed_there held name n changes (held_at held name) ne)
    (same_or_other (slice_cmp nat_cmp) names_apart n name)

-- ---- each operation on messages

-- an operation is carried out where its name is open
open_phase : (phase : Phase) (other : Bool) → refusal_in phase other ≡ None → phase ≡ Open
unfolding refusal_in
open_phase Open other e = refl
open_phase (Pointer server) other e = cc
open_phase Creating other e = cc
open_phase Closing other e = cc
open_phase Receiving other e = cc
open_phase Ready other e = cc

module _ (held : Names) (name : List ℕ) where
  -- if the name is open
  abbrev AreSo : List BackendRecord → Type 0
  AreSo entries = IsWritableHome held name → AreOfMessages held entries

  made_of : {A : Type 0} (entry : List A → BackendRecord) (changes : List A → List Change) (things : List A)
      → ((names : Names) (list : List A) → held_after names (entry list) ≡ changed names name (with_changes (changes list)))
      → ((list : List A) → IsWritableHome held name → IsOfOpen held (entry list)) → AreSo (entry_of entry things)
  unfolding entry_of
  made_of entry changes [] made of is = none_written held
  made_of entry changes (first ∷ rest) made of is = record {
    one = refl;
    phases = λ names n. ap (λ (all : Names). phase_in (held_at all n)) (made names (first ∷ rest)) ∙ changed_keeps names name n (changes (first ∷ rest));
    opened = (of (first ∷ rest) is, tt);
  }

  unless_so : (plan : OpPlan) (response : Option Response) → (response ≡ None → AreOfMessages held plan.entries)
      → AreOfMessages held (plans_unless plan response).entries
  unfolding plans_unless
  unless_so plan (Some response) so = none_written held
  unless_so plan None so = so refl

  plans_so : (selected : Option ℕ) (plan : Content → OpPlan) (found : Option Held) → held_at held name ≡ found
      → ((content : Content) → AreSo (plan content).entries) → AreOfMessages held (plans selected plan found).entries
  unfolding plans refusal
  plans_so selected plan None there so = none_written held
  plans_so selected plan (Some it) there so =
      unless_so (plan it.content) (refusal selected it)
      (λ none. so it.content (subst IsOpen (sym there) (open_phase it.phase (is_other selected it.content) none)))

  append_so : (content : Content) (messages : List Message) (fault : Option StoreFault) → AreSo (adds_within_limits name content messages fault).entries
  unfolding adds_within_limits
  append_so content messages (Some fault) is = none_written held
  append_so content messages None is = made_of (Added name) puts _ (λ names list. refl) (λ list opened. opened) is

  rows_so : (rows : List Row) → AreSo (entry_of (Flagged name) rows)
  rows_so rows is = made_of (Flagged name) relabels rows (λ names list. refl) (λ list opened. opened) is

  flags_so : (content : Content) (uids : List ℕ) (mode : Mode) (flags : Flags) (many : Bool) → AreSo (relabels_unless name content uids mode flags many).entries
  unfolding relabels_unless
  flags_so content uids mode flags true is = none_written held
  flags_so content uids mode flags false is = rows_so _ is

  read_so : (content : Content) (uids : List ℕ) (sees : Bool) → AreSo (seen_entries name content uids sees)
  unfolding seen_entries
  read_so content uids true is = rows_so _ is
  read_so content uids false is = none_written held

abbrev AreSoIf : Names → Option OpPlan → Type 0
AreSoIf held None = Unit {0}
AreSoIf held (Some plan) = AreOfMessages held plan.entries

op_so : (home : Backend) (ask : FrontAsk) (op : Op) → name_kind op ≡ None → AreSoIf home.held (op_plan home ask op)
unfolding op_plan append_plan look_plan read_plan summaries_plan flags_plan expunge_plan
op_so home ask (Append messages) none =
    plans_so home.held ask.name ask.selected _ (held_at home.held ask.name) refl
    (λ content. append_so home.held ask.name content messages (append_fault content messages))
op_so home ask (Read uids sees) none =
    plans_so home.held ask.name ask.selected _ (held_at home.held ask.name) refl (λ content. read_so home.held ask.name content uids sees)
op_so home ask (flags_op uids mode flags) none =
    plans_so home.held ask.name ask.selected _ (held_at home.held ask.name) refl
    (λ content. flags_so home.held ask.name content uids mode flags (has_too_many_flags (rows_stored content uids mode flags)))
op_so home ask (Expunge only) none =
    plans_so home.held ask.name ask.selected _ (held_at home.held ask.name) refl
    (λ content. made_of home.held ask.name (Gone ask.name) removals _ (λ names list. refl) (λ list opened. opened))
op_so home ask Look none =
    plans_so home.held ask.name ask.selected _ (held_at home.held ask.name) refl (λ content is. none_written home.held)
op_so home ask (Summaries uids) none =
    plans_so home.held ask.name ask.selected _ (held_at home.held ask.name) refl (λ content is. none_written home.held)
op_so home ask Create none = cc
op_so home ask op none = tt

owes_so : (held : Names) (from : List ℕ) (ask : FrontAsk) (plan : Option OpPlan) → AreSoIf held plan → AreOfMessages held (owes from ask.id plan).entries
owes_so held from ask None so = none_written held
owes_so held from ask (Some plan) so = so

pub message_entries : (home : Backend) (from : List ℕ) (ask : FrontAsk) → name_kind ask.op ≡ None
    → AreOfMessages home.held (owes from ask.id (ask_plan home ask)).entries
unfolding ask_plan
message_entries home from ask none = owes_so home.held from ask (op_plan home ask ask.op) (op_so home ask ask.op none)
