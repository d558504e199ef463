-- The UIDs that an APPEND gives rise strictly, from UIDNEXT before it on and below UIDNEXT behind it.
use Rattle.std.proofs.Common.{◌≡◌, ℕ, ◌+◌, ◌<◌, ◌≤◌, Bool, true, false, List, length, Option, None, Some, refl, sym, ◌∙◌, ap, subst}
use Rattle.std.specs.Prelude.{All}
use Rattle.std.specs.List.Sorted.{IsStrictlySortedBy}
use Rattle.std.specs.Ordering.{nat_cmp}
use Rattle.std.specs.Cmp.Lexicographic.{slice_cmp}
use Rattle.mur_base.proofs.MapLaws.{names_apart, value_at-with_value}
use Rattle.mur_base.specs.declared.home.Phase.{Phase}
use Rattle.mur_base.specs.declared.home.Phase.TheVariants.{Open, Pointer}
use Rattle.mail_message.specs.declared.message.Message.{Message}
use Rattle.mail_message.specs.declared.message.Snapshot.{Snapshot}
use Rattle.mail_store.specs.declared.fault.StoreFault.{StoreFault}
use Rattle.mail_store.specs.Append.{append_fault, appended, uids_from}
use Rattle.mail_store.proofs.AppendLaws.{next-appended, uids-within}
use Rattle.link_msg.specs.declared.answer.AnswerBody.TheVariants.{Done}
use Rattle.link_msg.specs.declared.ask.FrontAsk.{FrontAsk}
use Rattle.imap_types.specs.declared.op.Op.TheVariants.{Append}
use Rattle.link_msg.specs.declared.outcome.Outcome.TheVariants.{Uids}
use Rattle.backend_core.specs.declared.backend.Backend.{Backend}
use Rattle.node_record.specs.declared.held.Held.{Held}
use Rattle.backend_core.specs.declared.response.Response.{Response}
use Rattle.backend_core.specs.HomeStep.{HomeStep, held_at, answers, changes}
use Rattle.backend_core.specs.HomeLaws.{AreNewUids}
use Rattle.backend_core.specs.Refusal.{refusal, refusal_in, is_other}
use Rattle.backend_core.specs.Append.{append_step, append_within_limits}
use Rattle.backend_core.specs.Served.{served, served_unless}
use Rattle.backend_core.specs.Step.{home_step, op_step}
use Rattle.mail_store.proofs.RisingUids.{rising-uids}

-- a step that answers with UIDs gives new ones
unfoldable GivesNew : List ℕ → Held → HomeStep → Type 0
GivesNew name held step = (uids : List ℕ) (seen : Snapshot) → step.body ≡ Some (Done (Uids uids) seen) → AreNewUids uids held (held_at step.home name)

new_by : (uids : List ℕ) (held later : Held) (found : Option Held) (messages : List Message) → found ≡ Some later
    → later.content.next ≡ held.content.next + length messages → uids_from held.content.next messages ≡ uids → AreNewUids uids held found
new_by uids held later found messages is next given =
    subst (AreNewUids uids held) (sym is) (
      subst (λ (n : ℕ). All (λ uid. (held.content.next ≤ uid) × (uid < n)) uids) (sym next)
          (subst (λ (us : List ℕ). All (λ uid. (held.content.next ≤ uid) × (uid < held.content.next + length messages)) us) given
          (uids-within held.content.next messages)),
      subst (IsStrictlySortedBy nat_cmp) given (rising-uids held.content.next messages),
    )

to_new : (home : Backend) (name : List ℕ) (held : Held) (messages : List Message) (fault : Option StoreFault) → held_at home name ≡ Some held
    → GivesNew name held (changes home name held (append_within_limits held.content messages fault))
unfolding GivesNew append_within_limits
to_new home name held messages (Some fault) found = λ uids seen says. cc
to_new home name held messages None found = λ uids seen says.
    let later = record held { content = appended held.content messages } in
    new_by uids held later _ messages (value_at-with_value (slice_cmp nat_cmp) names_apart home.held name later held found)
    (next-appended held.content held.content.next messages) (cc says)

no_uids : (name : List ℕ) (held : Held) (home : Backend) (phase : Phase) (other : Bool) (response : Response) → refusal_in phase other ≡ Some response
    → GivesNew name held (answers home response)
unfolding GivesNew refusal_in
no_uids name held home Open true response is = λ uids seen says. cc (is, says)
no_uids name held home Open false response is = λ uids seen says. cc
no_uids name held home (Pointer server) other response is = λ uids seen says. cc (is, says)
no_uids name held home phase other response is = λ uids seen says. cc (is, says)

unless_new : (home : Backend) (name : List ℕ) (held : Held) (messages : List Message) (response : Option Response) → held_at home name ≡ Some held
    → ((r : Response) → response ≡ Some r → GivesNew name held (answers home r))
    → GivesNew name held (served_unless home name held (append_within_limits held.content messages (append_fault held.content messages)) response)
unfolding served_unless
unless_new home name held messages (Some response) found refused = refused response refl
unless_new home name held messages None found refused = to_new home name held messages (append_fault held.content messages) found

append_new : (home : Backend) (name : List ℕ) (selected : Option ℕ) (messages : List Message) (held : Held) → held_at home name ≡ Some held
    → GivesNew name held (append_step home name selected messages (Some held))
unfolding append_step served refusal
append_new home name selected messages held found =
    unless_new home name held messages (refusal selected held) found (λ r is. no_uids name held home held.phase (is_other selected held.content) r is)

pub append_gives_new : (home : Backend) (ask : FrontAsk) (messages : List Message) (held : Held) (uids : List ℕ) (seen : Snapshot)
    → ask.op ≡ Append messages → held_at home ask.name ≡ Some held → (home_step home ask).body ≡ Some (Done (Uids uids) seen)
    → AreNewUids uids held (held_at (home_step home ask).home ask.name)
unfolding home_step op_step GivesNew
append_gives_new home ask messages held uids seen is found says =
    let step : home_step home ask ≡ append_step home ask.name ask.selected messages (Some held) =
    ap (op_step home ask) is ∙ ap (append_step home ask.name ask.selected messages) found in
    subst (GivesNew ask.name held) (sym step) (append_new home ask.name ask.selected messages held found) uids seen says
