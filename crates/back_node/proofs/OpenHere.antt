-- An ask for messages where the mailbox is open here, and where it isn't.
use Rattle.std.proofs.Common.{◌≡◌, ℕ, Bool, true, false, List, Option, None, Some, refl, ap, ◌∙◌}
use Rattle.std.specs.Prelude.{⊤}
use Rattle.mur_base.specs.declared.home.Phase.{Phase}
use Rattle.mur_base.specs.declared.home.Phase.TheVariants.{Creating, Open, Closing, Receiving, Ready, Pointer}
use Rattle.mail_message.specs.Boxes.{Content}
use Rattle.mail_message.specs.declared.message.Message.{Message}
use Rattle.mail_message.specs.declared.mode.Mode.{Mode}
use Rattle.mail_message.specs.FlagSets.{Flags}
use Rattle.mail_store.specs.Append.{append_fault}
use Rattle.mail_store.specs.Store.{has_too_many_flags, rows_stored}
use Rattle.mail_store.specs.declared.fault.StoreFault.{StoreFault}
use Rattle.imap_types.specs.declared.op.Op.{Op}
use Rattle.imap_types.specs.declared.op.Op.TheVariants.{Look, Read, Summaries, Flags as flags_op, Expunge, Append, Create, Delete}
use Rattle.link_msg.specs.declared.ask.FrontAsk.{FrontAsk}
use Rattle.link_msg.specs.declared.message.LinkMsg.TheVariants.{Ask}
use Rattle.node_record.specs.declared.held.Held.{Held}
use Rattle.backend_core.specs.declared.backend.Backend.{Backend}
use Rattle.backend_core.specs.declared.op_plan.OpPlan.{OpPlan}
use Rattle.backend_core.specs.declared.response.Response.{Response}
use Rattle.backend_core.specs.Append.{append_plan, append_step, append_within_limits}
use Rattle.backend_core.specs.AskPlan.{ask_plan, op_plan}
use Rattle.backend_core.specs.Expunge.{expunge_plan, expunge_step, expunge_to}
use Rattle.backend_core.specs.Flags.{flags_plan, flags_step, flags_to, flags_unless}
use Rattle.backend_core.specs.HomeLaws.{RisesAt, is_open, is_open_here}
use Rattle.backend_core.specs.HomeStep.{BoxStep, held_at}
use Rattle.backend_core.specs.Look.{look_at, look_plan, look_step, look_unless}
use Rattle.backend_core.specs.OpPlan.{plans, plans_unless, tells_at_once, told_after}
use Rattle.backend_core.specs.Plan.{answer_outs, owes}
use Rattle.backend_core.specs.Read.{read_plan, read_step, read_to}
use Rattle.backend_core.specs.Refusal.{is_other, refusal, refusal_in}
use Rattle.backend_core.specs.Response.{not_now}
use Rattle.backend_core.specs.Served.{served, served_unless}
use Rattle.backend_core.specs.Step.{home_step, op_step}
use Rattle.backend_core.specs.Summaries.{summaries_at, summaries_plan, summaries_step, summaries_unless}
use Rattle.backend_core.proofs.PlanLaw.{plan_leaves, plan_tells}
use Rattle.name_flows.specs.Phases.{pointer_of}
use Rattle.back_node.specs.declared.node.BackNode.{BackNode}
use Rattle.back_node.specs.NodeLaws.{IsAtHome, IsCarriedOut, IsDone, answered_only, elsewhere, elsewhere_by, is_of_messages}
use Rattle.back_node.specs.Takes.{name_kind, node_takes, serves}
use Rattle.back_node.proofs.AtHome.{ask_is_at_home, done_by, message_step}

pub no_kind : (op : Op) → is_of_messages op ≡ true → name_kind op ≡ None
no_kind Create of = cc
no_kind Delete of = cc
no_kind op of = refl

-- ---- open

-- a mailbox that is open is only refused as gone
abbrev IsNoOther : Option Response → Type 0
IsNoOther None = ⊤
IsNoOther (Some response) = IsDone (Some response.body)

open_refusal : (phase : Phase) (other : Bool) → is_open phase ≡ true → IsNoOther (refusal_in phase other)
unfolding refusal_in is_open
open_refusal Open true opened = tt
open_refusal Open false opened = tt
open_refusal (Pointer server) other opened = cc
open_refusal phase other opened = cc

unless_done : (home : Backend) (name : List ℕ) (held : Held) (step : BoxStep) (response : Option Response) → IsNoOther response
    → IsDone (Some step.response.body) → IsDone (served_unless home name held step response).body
unfolding served_unless
unless_done home name held step (Some response) no_other done = no_other
unless_done home name held step None no_other done = done

served_done : (home : Backend) (name : List ℕ) (selected : Option ℕ) (operation : Content → BoxStep) (found : Option Held) → is_open_here found ≡ true
    → ((content : Content) → IsDone (Some (operation content).response.body)) → IsDone (served home name selected operation found).body
unfolding served refusal is_open_here
served_done home name selected operation None opened done = cc
served_done home name selected operation (Some held) opened done =
    unless_done home name held (operation held.content) (refusal selected held)
    (open_refusal held.phase (is_other selected held.content) opened) (done held.content)

append_done : (content : Content) (messages : List Message) (fault : Option StoreFault)
    → IsDone (Some (append_within_limits content messages fault).response.body)
unfolding append_within_limits
append_done content messages (Some fault) = tt
append_done content messages None = tt

flags_done : (content : Content) (uids : List ℕ) (mode : Mode) (flags : Flags) (many : Bool)
    → IsDone (Some (flags_unless content uids mode flags many).response.body)
unfolding flags_unless
flags_done content uids mode flags true = tt
flags_done content uids mode flags false = tt

look_unless_done : (content : Content) (response : Option Response) → IsNoOther response → IsDone (Some (look_unless content response).body)
unfolding look_unless
look_unless_done content (Some response) no_other = no_other
look_unless_done content None no_other = tt

look_done : (selected : Option ℕ) (found : Option Held) → is_open_here found ≡ true → IsDone (Some (look_at selected found).body)
unfolding look_at refusal is_open_here
look_done selected None opened = cc
look_done selected (Some held) opened =
    look_unless_done held.content (refusal selected held) (open_refusal held.phase (is_other selected held.content) opened)

summaries_unless_done : (content : Content) (uids : List ℕ) (response : Option Response) → IsNoOther response
    → IsDone (Some (summaries_unless content uids response).body)
unfolding summaries_unless
summaries_unless_done content uids (Some response) no_other = no_other
summaries_unless_done content uids None no_other = tt

summaries_done : (selected : Option ℕ) (uids : List ℕ) (found : Option Held) → is_open_here found ≡ true → IsDone (Some (summaries_at selected uids found).body)
unfolding summaries_at refusal is_open_here
summaries_done selected uids None opened = cc
summaries_done selected uids (Some held) opened =
    summaries_unless_done held.content uids (refusal selected held) (open_refusal held.phase (is_other selected held.content) opened)

op_done : (home : Backend) (ask : FrontAsk) (op : Op) → is_of_messages op ≡ true → is_open_here (held_at home ask.name) ≡ true
    → IsDone (op_step home ask op).body
unfolding op_step append_step look_step read_step summaries_step flags_step expunge_step
op_done home ask (Append messages) of opened =
    served_done home ask.name ask.selected (λ content. append_within_limits content messages (append_fault content messages))
    (held_at home ask.name) opened (λ content. append_done content messages (append_fault content messages))
op_done home ask (Read uids sees) of opened =
    served_done home ask.name ask.selected (λ content. read_to content uids sees) (held_at home ask.name) opened (λ content. tt)
op_done home ask (flags_op uids mode flags) of opened =
    served_done home ask.name ask.selected (λ content. flags_to content uids mode flags) (held_at home ask.name) opened
    (λ content. flags_done content uids mode flags (has_too_many_flags (rows_stored content uids mode flags)))
op_done home ask (Expunge only) of opened =
    served_done home ask.name ask.selected (λ content. expunge_to content only) (held_at home ask.name) opened (λ content. tt)
op_done home ask Look of opened = look_done ask.selected (held_at home ask.name) opened
op_done home ask (Summaries uids) of opened = summaries_done ask.selected uids (held_at home ask.name) opened
op_done home ask op of opened = cc

pub open_is_carried_out : (node : BackNode) (from : List ℕ) (ask : FrontAsk) → is_of_messages ask.op ≡ true
    → is_open_here (held_at node.home ask.name) ≡ true → RisesAt node.home ask.name → IsCarriedOut node from ask
unfolding home_step
open_is_carried_out node from ask of opened rising =
    let there : IsAtHome node from ask = ask_is_at_home node from ask (no_kind ask.op of) in
    record {
      home = there.home ∙ plan_leaves node.home from ask rising;
      flows = there.flows;
      outs = there.outs ∙ plan_tells node.home from ask rising;
      done = op_done node.home ask ask.op of opened;
    }

-- ---- not open

abbrev response_elsewhere : Option Held → Response
response_elsewhere found = record { body = elsewhere found; counts = not_now.counts }

-- the plan of an ask that is only answered
abbrev OnlyTells : Option Held → Option OpPlan → Type 0
OnlyTells found plan = plan ≡ Some (tells_at_once (response_elsewhere found))

closed_refusal : (phase : Phase) (other : Bool) (found : Held) → found.phase ≡ phase → is_open phase ≡ false
    → refusal_in phase other ≡ Some (record { body = elsewhere_by (pointer_of phase); counts = not_now.counts })
unfolding refusal_in is_open
closed_refusal Open other found is closed = cc
closed_refusal (Pointer server) other found is closed = refl
closed_refusal Creating other found is closed = refl
closed_refusal Closing other found is closed = refl
closed_refusal Receiving other found is closed = refl
closed_refusal Ready other found is closed = refl

plans_tell : (selected : Option ℕ) (plan : Content → OpPlan) (found : Option Held) → is_open_here found ≡ false
    → plans selected plan found ≡ tells_at_once (response_elsewhere found)
unfolding plans refusal is_open_here plans_unless
plans_tell selected plan None closed = refl
plans_tell selected plan (Some held) closed =
    ap (plans_unless (plan held.content)) (closed_refusal held.phase (is_other selected held.content) held refl closed)

op_tells : (home : Backend) (ask : FrontAsk) (op : Op) → is_of_messages op ≡ true → is_open_here (held_at home ask.name) ≡ false
    → OnlyTells (held_at home ask.name) (op_plan home ask op)
unfolding op_plan append_plan look_plan read_plan summaries_plan flags_plan expunge_plan
op_tells home ask (Append messages) of closed = ap Some (plans_tell ask.selected _ (held_at home ask.name) closed)
op_tells home ask (Read uids sees) of closed = ap Some (plans_tell ask.selected _ (held_at home ask.name) closed)
op_tells home ask (flags_op uids mode flags) of closed = ap Some (plans_tell ask.selected _ (held_at home ask.name) closed)
op_tells home ask (Expunge only) of closed = ap Some (plans_tell ask.selected _ (held_at home ask.name) closed)
op_tells home ask Look of closed = ap Some (plans_tell ask.selected _ (held_at home ask.name) closed)
op_tells home ask (Summaries uids) of closed = ap Some (plans_tell ask.selected _ (held_at home ask.name) closed)
op_tells home ask op of closed = cc

told_elsewhere : (node : BackNode) (from : List ℕ) (ask : FrontAsk) (found : Option Held)
    → done_by (serves node (owes from ask.id (Some (tells_at_once (response_elsewhere found))))) ≡ answered_only node from ask (elsewhere found)
unfolding told_after answer_outs
told_elsewhere node from ask found = refl

pub elsewhere_is_told : (node : BackNode) (from : List ℕ) (ask : FrontAsk) → is_of_messages ask.op ≡ true
    → is_open_here (held_at node.home ask.name) ≡ false
    → node_takes node from (Ask ask) ≡ answered_only node from ask (elsewhere (held_at node.home ask.name))
unfolding ask_plan
elsewhere_is_told node from ask of closed =
    message_step node from ask (no_kind ask.op of)
    ∙ ap (λ (plan : Option OpPlan). done_by (serves node (owes from ask.id plan))) (op_tells node.home ask ask.op of closed)
    ∙ told_elsewhere node from ask (held_at node.home ask.name)
