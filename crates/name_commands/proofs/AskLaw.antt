-- An ask comes: it is answered, waits, or its flow begins; another's leaves a command where it is.
use Rattle.std.proofs.Common.{◌≡◌, ◌≢◌, ◌⊎◌, inl, inr, ℕ, Bool, true, false, is_some, List, [], ◌∷◌, filter, Option, None, Some, refl, sym, ap, subst, ◌∙◌, append-nil}
use Rattle.std.specs.Ordering.{nat_cmp}
use Rattle.std.specs.Cmp.Lexicographic.{slice_cmp}
use Rattle.link_msg.specs.declared.answer.AnswerBody.{AnswerBody}
use Rattle.mur_base.proofs.MapLaws.{names_apart, same_or_other, value_at-with_entry, value_at-with_entry-other}
use Rattle.node_record.specs.Held.{Names}
use Rattle.name_flows.specs.declared.ask.AskKind.{AskKind}
use Rattle.name_flows.specs.declared.ask.AskKind.TheVariants.{Create, Delete}
use Rattle.name_flows.specs.declared.ask.NameAsk.{NameAsk}
use Rattle.name_flows.specs.declared.flow.Flow.{Flow}
use Rattle.name_flows.specs.declared.flows.Flows.{Flows}
use Rattle.name_flows.specs.declared.resync.Resync.{Resync}
use Rattle.name_flows.specs.declared.sent.Sent.{Sent}
use Rattle.name_flows.specs.declared.sent.SentLine.{SentLine}
use Rattle.name_flows.specs.Asked.{asked_by, asked_step, begun_flow, begun_line, first_line, first_stage, flow_for, refusal, tested_by}
use Rattle.name_flows.specs.Lines.{asked_line}
use Rattle.name_flows.specs.Link.{waiting_in}
use Rattle.name_flows.specs.Running.{flow_at}
use Rattle.name_links.proofs.Rounds.{carried_out}
use Rattle.name_commands.specs.Moves.{asked_move, asked_move_by, tested_move}
use Rattle.name_commands.specs.Places.{nowhere, FlowsShow, IsNumbered, flow_line, on_name, stage_line}
use Rattle.name_commands.specs.Whose.{Whose, is_own_ask, is_own_line, is_own_told, own_flow}
use Rattle.name_commands.proofs.Own.{asked_own, kept, kept_behind, not_here, on_itself, on_other, own_here, passed, passed_behind}
use Rattle.name_commands.proofs.Steps.{Leaves, Makes}

kind_line : (kind : AskKind) (name : List ℕ) → first_line kind name ≡ stage_line (first_stage kind) name
kind_line Create name = refl
kind_line Delete name = refl

-- the line with which a flow begins is that of its stage
pub begun_is : (ask : NameAsk) → begun_line ask ≡ flow_line ask.name (flow_for ask)
begun_is ask = ap (λ (what : Sent). asked_line ask.id what) (kind_line ask.kind ask.name)

pub begun_own : (whose : Whose) (ask : NameAsk) (own : Bool) → IsNumbered ask.id → whose ask.id ≡ own → is_own_line whose (begun_line ask) ≡ own
begun_own whose ask own fit is = asked_own whose ask.id (first_line ask.kind ask.name) fit ∙ is

-- the only line that is sent
pub begun_sent : (whose : Whose) (ask : NameAsk) → IsNumbered ask.id → whose ask.id ≡ true
    → filter (is_own_line whose) (begun_line ask ∷ []) ≡ flow_line ask.name (flow_for ask) ∷ []
begun_sent whose ask fit own =
    kept (is_own_line whose) (begun_line ask) [] (begun_own whose ask true fit own) ∙ ap (λ (line : SentLine). line ∷ []) (begun_is ask)

-- ---- flows after one has begun

found_at : (flows : Flows) (ask : NameAsk) → flow_at (begun_flow flows ask) ask.name ≡ Some (flow_for ask)
found_at flows ask = value_at-with_entry (slice_cmp nat_cmp) names_apart flows.running ask.name (flow_for ask)

found_other : (flows : Flows) (ask : NameAsk) (name : List ℕ) → name ≢ ask.name → flow_at (begun_flow flows ask) name ≡ flow_at flows name
found_other flows ask name ne = value_at-with_entry-other (slice_cmp nat_cmp) names_apart flows.running ask.name name (flow_for ask) ne

-- its own is there, alone
pub begun_running : (whose : Whose) (flows : Flows) (ask : NameAsk) → whose ask.id ≡ true → ((name : List ℕ) → own_flow whose (flow_at flows name) ≡ None)
    → (name : List ℕ) → own_flow whose (flow_at (begun_flow flows ask) name) ≡ on_name ask.name (flow_for ask) name
begun_running whose flows ask own none name = by (same_or_other (slice_cmp nat_cmp) names_apart ask.name name)
  where
    by : (ask.name ≡ name) ⊎ (ask.name ≢ name) → own_flow whose (flow_at (begun_flow flows ask) name) ≡ on_name ask.name (flow_for ask) name
    by (inl same) = subst (λ (n : List ℕ). own_flow whose (flow_at (begun_flow flows ask) n) ≡ on_name ask.name (flow_for ask) n) same
        (ap (λ (f : Option Flow). own_flow whose f) (found_at flows ask) ∙ own_here whose (flow_for ask) own ∙ sym (on_itself ask.name (flow_for ask)))
    by (inr ne) =
        ap (λ (f : Option Flow). own_flow whose f) (found_other flows ask name (λ e. ne (sym e))) ∙ none name ∙ sym (on_other ask.name (flow_for ask) name ne)

no_flow : (found : Option Flow) → is_some found ≡ false → found ≡ None
no_flow None e = refl
no_flow (Some flow) e = cc

-- another's changes none of theirs, since there was none on its name
pub begun_others : (whose : Whose) (flows : Flows) (held : Names) (ask : NameAsk) → whose ask.id ≡ false → refusal flows held ask.name ask.kind ≡ None
    → (name : List ℕ) → own_flow whose (flow_at (begun_flow flows ask) name) ≡ own_flow whose (flow_at flows name)
begun_others whose flows held ask other granted name = by (same_or_other (slice_cmp nat_cmp) names_apart ask.name name)
  where
    none : flow_at flows ask.name ≡ None
    none = no_flow (flow_at flows ask.name) (carried_out flows held ask.name ask.kind granted).0

    by : (ask.name ≡ name) ⊎ (ask.name ≢ name) → own_flow whose (flow_at (begun_flow flows ask) name) ≡ own_flow whose (flow_at flows name)
    by (inl same) = subst (λ (n : List ℕ). own_flow whose (flow_at (begun_flow flows ask) n) ≡ own_flow whose (flow_at flows n)) same
        (ap (λ (f : Option Flow). own_flow whose f) (found_at flows ask) ∙ not_here whose (flow_for ask) other
        ∙ ap (λ (f : Option Flow). own_flow whose f) (sym none))
    by (inr ne) = ap (λ (f : Option Flow). own_flow whose f) (found_other flows ask name (λ e. ne (sym e)))

module _ (whose : Whose) (flows : Flows) (held : Names) (ask : NameAsk) (fit : IsNumbered ask.id) where
  -- ---- its own

  module _ (own : whose ask.id ≡ true) (at : FlowsShow whose flows nowhere) where
    tested_makes : (body : Option AnswerBody) → Makes whose held (tested_by flows ask body) (tested_move ask body)
    tested_makes (Some body) = record {
      at = record {
        waiting = at.waiting;
        running = at.running;
        sent = ap (λ (l : List SentLine). filter (is_own_line whose) l) (append-nil flows.sent) ∙ at.sent;
        numbered = tt;
      };
      lines = refl;
      answers = kept (is_own_told whose) _ [] own;
    }
    tested_makes None = record {
      at = record {
        waiting = at.waiting;
        running = begun_running whose flows ask own at.running;
        sent =
            kept_behind (is_own_line whose) flows.sent (begun_line ask) (begun_own whose ask true fit own) at.sent
            ∙ ap (λ (line : SentLine). line ∷ []) (begun_is ask);
        numbered = fit;
      };
      lines = begun_sent whose ask fit own;
      answers = refl;
    }

    by_resync : (resync : Option Resync) → flows.resync ≡ resync → Makes whose held (asked_by flows held ask resync) (asked_move_by flows held ask resync)
    unfolding asked_by
    by_resync None e = tested_makes (refusal flows held ask.name ask.kind)
    by_resync (Some it) e = record {
      at = record {
        waiting = kept_behind (is_own_ask whose) it.waiting ask own (subst (λ (r : Option Resync). filter (is_own_ask whose) (waiting_in r) ≡ []) e at.waiting);
        running = at.running;
        sent = ap (λ (l : List SentLine). filter (is_own_line whose) l) (append-nil flows.sent) ∙ at.sent;
        numbered = fit;
      };
      lines = refl;
      answers = refl;
    }

    pub asked_makes : Makes whose held (asked_step flows held ask) (asked_move flows held ask)
    unfolding asked_step
    asked_makes = by_resync flows.resync refl

  -- ---- another's

  module _ (other : whose ask.id ≡ false) where
    tested_leaves : (body : Option AnswerBody) → refusal flows held ask.name ask.kind ≡ body → Leaves whose flows (tested_by flows ask body)
    tested_leaves (Some body) is = record { waiting = refl; running = λ name. refl; sent = refl; lines = refl; answers = passed (is_own_told whose) _ [] other }
    tested_leaves None is = record {
      waiting = refl;
      running = begun_others whose flows held ask other is;
      sent = refl;
      lines = passed (is_own_line whose) (begun_line ask) [] (begun_own whose ask false fit other);
      answers = refl;
    }

    other_by : (resync : Option Resync) → flows.resync ≡ resync → Leaves whose flows (asked_by flows held ask resync)
    unfolding asked_by
    other_by None e = tested_leaves (refusal flows held ask.name ask.kind) refl
    other_by (Some it) e = record {
      waiting = passed_behind (is_own_ask whose) it.waiting ask other ∙ ap (λ (r : Option Resync). filter (is_own_ask whose) (waiting_in r)) (sym e);
      running = λ name. refl;
      sent = refl;
      lines = refl;
      answers = refl;
    }

    pub asked_leaves : Leaves whose flows (asked_step flows held ask)
    unfolding asked_step
    asked_leaves = other_by flows.resync refl
