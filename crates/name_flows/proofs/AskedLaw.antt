-- An ask is to its name what the protocol of one name makes of it, and to other names nothing.
use Rattle.std.proofs.Common.{◌≡◌, ◌≢◌, ◌⊎◌, inl, inr, ℕ, Bool, true, false, cond, ◌||◌, not, is_some, List, [], ◌∷◌, Option, None, Some, refl, sym, ap, subst, ◌∙◌}
use Rattle.std.specs.List.{flat_map}
use Rattle.std.specs.Ordering.{nat_cmp}
use Rattle.std.specs.Cmp.Lexicographic.{slice_cmp}
use Rattle.mur_base.specs.Map.{value_at, with_entry}
use Rattle.mur_base.proofs.MapLaws.{names_apart, same_or_other, value_at-with_entry, value_at-with_entry-other}
use Rattle.mur_base.specs.declared.point.AskId.{AskId}
use Rattle.mur_base.specs.declared.home.Phase.{Phase}
use Rattle.mur_base.specs.declared.home.Phase.TheVariants.{Creating, Open, Closing, Receiving, Ready, Pointer}
use Rattle.link_msg.specs.declared.answer.AnswerBody.{AnswerBody}
use Rattle.link_msg.specs.declared.answer.AnswerBody.TheVariants.{NotNow, Moved, Unreached}
use Rattle.node_record.specs.declared.held.Held.{Held}
use Rattle.node_record.specs.Held.{Names, held_at}
use Rattle.home_law.specs.Items.{Item, reserve, deactivate, HomePhase, HomeFlow, idle, reserving, pausing, Resync as Progress, synced, listing, listed, Ctl}
use Rattle.home_law.specs.Steps.{BackStep, NameAsk as Request, create, remove, begin_ask, ask_at, ask}
use Rattle.home_law.specs.ManyNames.{if_named, is_same_mailbox}
use Rattle.home_law.proofs.SameName.{is_itself, is_another}
use Rattle.name_flows.specs.declared.ask.AskKind.{AskKind}
use Rattle.name_flows.specs.declared.ask.AskKind.TheVariants.{Create, Delete}
use Rattle.name_flows.specs.declared.ask.NameAsk.{NameAsk}
use Rattle.name_flows.specs.declared.flow.Flow.{Flow}
use Rattle.name_flows.specs.declared.flow.Stage.{Stage}
use Rattle.name_flows.specs.declared.flow.Stage.TheVariants.{Reserving, Making, Deactivating, Deleting}
use Rattle.name_flows.specs.declared.flows.Flows.{Flows}
use Rattle.name_flows.specs.declared.resync.Resync.{Resync}
use Rattle.name_flows.specs.Asked.{first_of, create_refusal, delete_refusal, delete_refusal_in, refusal, first_stage, first_line, flow_for, begun_flow, begun_line, tested_by, tested, asked_by, asked_step}
use Rattle.name_flows.specs.OneName.{phase_of, phase_in, stage_of, flow_in, progress_in, ctl_of, line_items, seen_by, request, quiet, asked_as}
use Rattle.name_flows.specs.Lines.{asked_line}
use Rattle.name_flows.specs.Phases.{is_open, is_closing, pointer_in}
use Rattle.name_flows.specs.Running.{flow_at}
use Rattle.name_flows.specs.Steps.{FlowStep}

-- the protocol of one name carries no ask out while a flow or a resync runs

busy : (a : Request) (c : Ctl) (h : Bool) (g : Stage) → ask_at a c h synced (stage_of g) ≡ quiet c
unfolding ask_at
busy a c true Reserving = refl
busy a c true Making = refl
busy a c true Deactivating = refl
busy a c true Deleting = refl
busy a c false g = refl

comparing : (a : Request) (c : Ctl) (h : Bool) (b : Bool) (f : HomeFlow) → ask_at a c h (cond b listed listing) f ≡ quiet c
unfolding ask_at
comparing a c true true f = refl
comparing a c true false f = refl
comparing a c false b f = refl

-- the state of a name without a resync
abbrev plain : Bool → Option Held → Option Flow → Bool → Ctl
plain linked h f u = record { phase = phase_in h; flow = flow_in f; resync = synced; hears = u; linked = linked }

-- the tests, by what they look at
create_value : List ℕ → Option Held → Option Flow → Bool → Option AnswerBody
create_value master h f u = first_of ((is_some f, NotNow) ∷ (not u, Unreached master) ∷ (is_closing h, NotNow) ∷ [])

delete_value_in : List ℕ → Option Held → Option Flow → Bool → Option (List ℕ) → Option AnswerBody
delete_value_in master h f u (Some server) = Some (Moved server)
delete_value_in master h f u None = first_of ((not (is_open h) || is_some f, NotNow) ∷ (not u, Unreached master) ∷ [])

first_item : AskKind → Item
first_item Create = reserve
first_item Delete = deactivate

-- a flow begins, in the protocol of one name
begins : AskKind → Ctl → BackStep
begins k c = record { ctl = record c { flow = stage_of (first_stage k) }; says = first_item k ∷ [] }

-- what is refused changes nothing, and what isn't begins
Agrees : Option AnswerBody → AskKind → Ctl → Type 0
Agrees (Some body) k c = ask (request k) c ≡ quiet c
Agrees None k c = ask (request k) c ≡ begins k c

create_by_phase : (linked : Bool) (master : List ℕ) (it : Held) (p : Phase) → it.phase ≡ p
    → Agrees (create_value master (Some it) None true) Create (plain linked (Some it) None true)
unfolding create_value Agrees begins first_item ask ask_at begin_ask
create_by_phase linked master it Creating e = rw e refl
create_by_phase linked master it Open e = rw e refl
create_by_phase linked master it Closing e = rw e refl
create_by_phase linked master it Receiving e = rw e refl
create_by_phase linked master it Ready e = rw e refl
create_by_phase linked master it (Pointer server) e = rw e refl

creates_agree : (linked : Bool) (master : List ℕ) (h : Option Held) (f : Option Flow) (u : Bool)
    → Agrees (create_value master h f u) Create (plain linked h f u)
unfolding create_value Agrees begins first_item ask ask_at begin_ask
creates_agree linked master h (Some flow) u = busy create _ u flow.stage
creates_agree linked master h None false = refl
creates_agree linked master None None true = refl
creates_agree linked master (Some it) None true = create_by_phase linked master it it.phase refl

delete_by_phase : (linked : Bool) (master : List ℕ) (it : Held) (f : Option Flow) (u : Bool) (p : Phase) → it.phase ≡ p
    → Agrees (delete_value_in master (Some it) f u (pointer_in (Some it))) Delete (plain linked (Some it) f u)
unfolding delete_value_in Agrees begins first_item ask ask_at begin_ask
delete_by_phase linked master it (Some flow) u Creating e = rw e (busy remove _ u flow.stage)
delete_by_phase linked master it (Some flow) u Open e = rw e (busy remove _ u flow.stage)
delete_by_phase linked master it (Some flow) u Closing e = rw e (busy remove _ u flow.stage)
delete_by_phase linked master it (Some flow) u Receiving e = rw e (busy remove _ u flow.stage)
delete_by_phase linked master it (Some flow) u Ready e = rw e (busy remove _ u flow.stage)
delete_by_phase linked master it (Some flow) u (Pointer server) e = rw e (busy remove _ u flow.stage)
delete_by_phase linked master it None false Creating e = rw e refl
delete_by_phase linked master it None false Open e = rw e refl
delete_by_phase linked master it None false Closing e = rw e refl
delete_by_phase linked master it None false Receiving e = rw e refl
delete_by_phase linked master it None false Ready e = rw e refl
delete_by_phase linked master it None false (Pointer server) e = rw e refl
delete_by_phase linked master it None true Creating e = rw e refl
delete_by_phase linked master it None true Open e = rw e refl
delete_by_phase linked master it None true Closing e = rw e refl
delete_by_phase linked master it None true Receiving e = rw e refl
delete_by_phase linked master it None true Ready e = rw e refl
delete_by_phase linked master it None true (Pointer server) e = rw e refl

deletes_agree : (linked : Bool) (master : List ℕ) (h : Option Held) (f : Option Flow) (u : Bool)
    → Agrees (delete_value_in master h f u (pointer_in h)) Delete (plain linked h f u)
unfolding delete_value_in Agrees begins first_item ask ask_at begin_ask
deletes_agree linked master None (Some flow) u = busy remove _ u flow.stage
deletes_agree linked master None None false = refl
deletes_agree linked master None None true = refl
deletes_agree linked master (Some it) f u = delete_by_phase linked master it f u it.phase refl

agree : (linked : Bool) (flows : Flows) (held : Names) (name : List ℕ) (k : AskKind)
    → Agrees (refusal flows held name k) k (plain linked (held_at held name) (flow_at flows name) flows.up)
unfolding create_refusal delete_refusal delete_refusal_in create_value delete_value_in
agree linked flows held name Create = creates_agree linked flows.master (held_at held name) (flow_at flows name) flows.up
agree linked flows held name Delete = deleting_agree (pointer_in (held_at held name)) refl
  where
    deleting_agree : (p : Option (List ℕ)) → pointer_in (held_at held name) ≡ p
        → Agrees (delete_refusal_in flows held name p) Delete (plain linked (held_at held name) (flow_at flows name) flows.up)
    deleting_agree (Some server) e = let h = deletes_agree linked flows.master (held_at held name) (flow_at flows name) flows.up in rw e at h
    deleting_agree None e = let h = deletes_agree linked flows.master (held_at held name) (flow_at flows name) flows.up in rw e at h

-- the line of a flow that begins is its name's

said_same : (id : AskId) (n : List ℕ) (k : AskKind) → flat_map (line_items n) (asked_line id (first_line k n) ∷ []) ≡ first_item k ∷ []
unfolding first_item
said_same id n Create = rw (is_itself n) refl
said_same id n Delete = rw (is_itself n) refl

said_other : (id : AskId) (m n : List ℕ) (k : AskKind) → is_same_mailbox m n ≡ false → flat_map (line_items n) (asked_line id (first_line k m) ∷ []) ≡ []
said_other id m n Create e = rw e refl
said_other id m n Delete e = rw e refl

module _ (linked : Bool) (flows : Flows) (held : Names) (it : NameAsk) where
  begun_same : flows.resync ≡ None
      → begins it.kind (plain linked (held_at held it.name) (flow_at flows it.name) flows.up) ≡ seen_by it.name linked held (tested_by flows it None)
  unfolding begins
  begun_same e =
      let found : value_at (slice_cmp nat_cmp) (with_entry (slice_cmp nat_cmp) flows.running it.name (flow_for it)) it.name ≡ Some (flow_for it) =
      value_at-with_entry (slice_cmp nat_cmp) names_apart flows.running it.name (flow_for it) in
      let said = said_same it.id it.name it.kind in rw (e, found, said) refl

  plain_is : flows.resync ≡ None → ctl_of linked held flows it.name ≡ plain linked (held_at held it.name) (flow_at flows it.name) flows.up
  plain_is e = rw e refl

  tested_same : flows.resync ≡ None → (b : Option AnswerBody)
      → Agrees b it.kind (plain linked (held_at held it.name) (flow_at flows it.name) flows.up)
      → ask (request it.kind) (ctl_of linked held flows it.name) ≡ seen_by it.name linked held (tested_by flows it b)
  unfolding Agrees
  tested_same e (Some body) h = rw e h
  tested_same e None h = (ap (λ (c : Ctl). ask (request it.kind) c) (plain_is e) ∙ h) ∙ begun_same e

  same_by : (r : Option Resync) → flows.resync ≡ r → ask (request it.kind) (ctl_of linked held flows it.name) ≡ seen_by it.name linked held (asked_by flows held it r)
  unfolding asked_by ask
  same_by None e = tested_same e (refusal flows held it.name it.kind) (agree linked flows held it.name it.kind)
  same_by (Some w) e =
      let progress : progress_in it.name flows.resync ≡ cond (is_some (value_at (slice_cmp nat_cmp) w.listed it.name)) listed listing = ap (λ r. progress_in it.name r) e in
      let waits_on : ask (request it.kind) (ctl_of linked held flows it.name) ≡ quiet (ctl_of linked held flows it.name) =
      ap (λ s. ask_at (request it.kind) (ctl_of linked held flows it.name) flows.up s (flow_in (flow_at flows it.name))) progress
      ∙ comparing (request it.kind) (ctl_of linked held flows it.name) flows.up (is_some (value_at (slice_cmp nat_cmp) w.listed it.name)) (flow_in (flow_at flows it.name)) in
      let kept : quiet (ctl_of linked held flows it.name) ≡ seen_by it.name linked held (asked_by flows held it (Some w)) = rw e refl in waits_on ∙ kept

  other_tested : (name : List ℕ) → it.name ≢ name → (b : Option AnswerBody) → quiet (ctl_of linked held flows name) ≡ seen_by name linked held (tested_by flows it b)
  other_tested name ne (Some body) = refl
  other_tested name ne None =
      let found : value_at (slice_cmp nat_cmp) (with_entry (slice_cmp nat_cmp) flows.running it.name (flow_for it)) name ≡ flow_at flows name =
      value_at-with_entry-other (slice_cmp nat_cmp) names_apart flows.running it.name name (flow_for it) (λ e. ne (sym e)) in
      let said = said_other it.id it.name name it.kind (is_another it.name name ne) in rw (found, said) refl

  other_by : (name : List ℕ) → it.name ≢ name → (r : Option Resync) → flows.resync ≡ r
      → quiet (ctl_of linked held flows name) ≡ seen_by name linked held (asked_by flows held it r)
  unfolding asked_by
  other_by name ne None e = other_tested name ne (refusal flows held it.name it.kind)
  other_by name ne (Some w) e = rw e refl

  asked_by_name : (name : List ℕ) → (it.name ≡ name) ⊎ (it.name ≢ name) → asked_as name it (ctl_of linked held flows name) ≡ seen_by name linked held (asked_step flows held it)
  unfolding asked_step
  asked_by_name name (inl same) = subst (λ n. asked_as n it (ctl_of linked held flows n) ≡ seen_by n linked held (asked_by flows held it flows.resync)) same
      (rw (is_itself it.name) (same_by flows.resync refl))
  asked_by_name name (inr ne) = rw (is_another it.name name ne) (other_by name ne flows.resync refl)

pub asked_as_one : (linked : Bool) (name : List ℕ) (flows : Flows) (held : Names) (it : NameAsk)
    → asked_as name it (ctl_of linked held flows name) ≡ seen_by name linked held (asked_step flows held it)
asked_as_one linked name flows held it = asked_by_name linked flows held it name (same_or_other (slice_cmp nat_cmp) names_apart it.name name)
