-- Above each UID that a step writes there is a UIDNEXT.
use Rattle.std.proofs.Common.{◌≡◌, ℕ, ◌+◌, ◌-◌, ◌≤◌, ◌^◌, Bool, true, false, List, [], ◌∷◌, length, Option, None, Some, refl, subst, arith}
use Rattle.std.specs.List.{AllByRecursion}
use Rattle.mail_message.specs.declared.message.Message.{Message}
use Rattle.mail_message.specs.Boxes.{Content}
use Rattle.mail_message.specs.RowOrder.{HasNext}
use Rattle.mail_store.specs.Append.{append_fault}
use Rattle.mail_store.specs.Expunge.{expunged_uids}
use Rattle.mail_store.specs.Store.{has_too_many_flags, rows_stored}
use Rattle.mail_store.specs.declared.fault.StoreFault.{StoreFault}
use Rattle.mur_base.specs.declared.point.AskId.{AskId}
use Rattle.imap_types.specs.declared.op.Op.{Op}
use Rattle.imap_types.specs.declared.op.Op.TheVariants.{Look, Read, Summaries, Flags, Expunge, Append}
use Rattle.link_msg.specs.declared.ask.FrontAsk.{FrontAsk}
use Rattle.node_record.specs.declared.backend.BackendRecord.{BackendRecord}
use Rattle.node_record.specs.declared.backend.BackendRecord.TheVariants.{Added}
use Rattle.node_record.specs.declared.held.Held.{Held}
use Rattle.node_record.specs.Held.{EntryLeavesNext}
use Rattle.backend_core.specs.declared.backend.Backend.{Backend}
use Rattle.backend_core.specs.declared.op_plan.OpPlan.{OpPlan}
use Rattle.backend_core.specs.declared.response.Response.{Response}
use Rattle.backend_core.specs.Append.{adds_within_limits, append_plan, with_uids}
use Rattle.backend_core.specs.AskPlan.{ask_plan, op_plan}
use Rattle.backend_core.specs.Expunge.{expunge_plan}
use Rattle.backend_core.specs.Flags.{flags_plan, relabels_unless}
use Rattle.backend_core.specs.HomeStep.{held_at}
use Rattle.backend_core.specs.Look.{look_plan}
use Rattle.backend_core.specs.OpPlan.{entry_of, plans, plans_unless}
use Rattle.backend_core.specs.Plan.{back_plan, owes}
use Rattle.backend_core.specs.Read.{read_plan, seen_entries}
use Rattle.backend_core.specs.Refusal.{refusal}
use Rattle.backend_core.specs.Summaries.{summaries_plan}
use Rattle.backend_core.proofs.AddedLaw.{fits}

abbrev Next : OpPlan → Type 0
Next plan = AllByRecursion EntryLeavesNext plan.entries

next_one : {A : Type 0} (entry : List A → BackendRecord) (list : List A) → EntryLeavesNext (entry list) → AllByRecursion EntryLeavesNext (entry_of entry list)
unfolding entry_of
next_one entry [] next = tt
next_one entry (first ∷ rest) next = (next, tt)

next_unless : (plan : OpPlan) (response : Option Response) → Next plan → Next (plans_unless plan response)
unfolding plans_unless
next_unless plan None next = next
next_unless plan (Some response) next = tt

next_plans : (selected : Option ℕ) (plan : Content → OpPlan) (found : Option Held) → ((content : Content) → Next (plan content)) → Next (plans selected plan found)
unfolding plans
next_plans selected plan None next = tt
next_plans selected plan (Some held) next = next_unless (plan held.content) (refusal selected held) (next held.content)

next_uids : (uid : ℕ) (messages : List Message) → uid + length messages ≤ 2 ^ 32 - 1 → AllByRecursion (λ message. HasNext message.uid) (with_uids uid messages)
next_uids uid [] fits = tt
next_uids uid (message ∷ messages) fits = (omega (arith, fits), next_uids (uid + 1) messages (omega (arith, fits)))

next_adds : (name : List ℕ) (content : Content) (messages : List Message) (fault : Option StoreFault) → append_fault content messages ≡ fault
    → Next (adds_within_limits name content messages fault)
unfolding adds_within_limits
next_adds name content messages None none =
    next_one (Added name) (with_uids content.next messages) (next_uids content.next messages (fits content messages none))
next_adds name content messages (Some fault) is = tt

next_seen : (name : List ℕ) (content : Content) (uids : List ℕ) (sees : Bool) → AllByRecursion EntryLeavesNext (seen_entries name content uids sees)
unfolding seen_entries
next_seen name content uids true = next_one _ _ tt
next_seen name content uids false = tt

next_relabels : (name : List ℕ) (content : Content) (uids : List ℕ) (mode : _) (flags : _) (many : Bool) → Next (relabels_unless name content uids mode flags many)
unfolding relabels_unless
next_relabels name content uids mode flags true = tt
next_relabels name content uids mode flags false = next_one _ _ tt

abbrev NextIf : Option OpPlan → Type 0
NextIf None = Unit {0}
NextIf (Some plan) = Next plan

next_op : (home : Backend) (ask : FrontAsk) (op : Op) → NextIf (op_plan home ask op)
unfolding op_plan append_plan look_plan read_plan summaries_plan flags_plan expunge_plan
next_op home ask (Append messages) =
    next_plans ask.selected _ (held_at home ask.name) (λ content. next_adds ask.name content messages (append_fault content messages) refl)
next_op home ask (Read uids sees) = next_plans ask.selected _ (held_at home ask.name) (λ content. next_seen ask.name content uids sees)
next_op home ask (Flags uids mode flags) =
    next_plans ask.selected _ (held_at home ask.name)
    (λ content. next_relabels ask.name content uids mode flags (has_too_many_flags (rows_stored content uids mode flags)))
next_op home ask (Expunge only) = next_plans ask.selected _ (held_at home ask.name) (λ content. next_one _ (expunged_uids content only) tt)
next_op home ask Look = next_plans ask.selected _ (held_at home ask.name) (λ content. tt)
next_op home ask (Summaries uids) = next_plans ask.selected _ (held_at home ask.name) (λ content. tt)
next_op home ask op = tt

-- an operation that an ask is carried out by
pub next_found : (home : Backend) (ask : FrontAsk) (plan : OpPlan) → ask_plan home ask ≡ Some plan → AllByRecursion EntryLeavesNext plan.entries
unfolding ask_plan
next_found home ask plan is = subst NextIf is (next_op home ask ask.op)

next_owes : (from : List ℕ) (id : AskId) (plan : Option OpPlan) → NextIf plan → AllByRecursion EntryLeavesNext (owes from id plan).entries
next_owes from id None next = tt
next_owes from id (Some plan) next = next

pub next_planned : (home : Backend) (from : List ℕ) (ask : FrontAsk) → AllByRecursion EntryLeavesNext (back_plan home from ask).entries
unfolding ask_plan
next_planned home from ask = next_owes from ask.id (ask_plan home ask) (next_op home ask ask.op)
