-- An APPEND puts its messages where none stood, and loses none.
use Rattle.std.proofs.Math.Logic.{⊎_elim}
use Rattle.std.proofs.Common.{◌≡◌, ◌≢◌, ℕ, ◌<◌, ◌≤◌, List, Option, None, Some}
use Rattle.std.proofs.Common.{sym, ◌∙◌, ap, subst}
use Rattle.std.specs.Prelude.{All}
use Rattle.std.specs.Ordering.{nat_cmp}
use Rattle.std.specs.Cmp.Lexicographic.{slice_cmp}
use Rattle.std.proofs.lemmas.List.Elements.{All-weaker}
use Rattle.mur_base.proofs.MapLaws.{names_apart, same_or_other, value_at-with_value}
use Rattle.mail_message.specs.declared.message.Message.{Message}
use Rattle.mail_message.specs.declared.message.Snapshot.{Snapshot}
use Rattle.mail_message.specs.Boxes.{message_at}
use Rattle.mail_store.proofs.AppendKeeps.{none_from, appended_keeps}
use Rattle.mail_store.specs.declared.fault.StoreFault.{StoreFault}
use Rattle.mail_store.specs.Append.{append_fault, appended}
use Rattle.link_msg.specs.declared.answer.AnswerBody.TheVariants.{Done}
use Rattle.link_msg.specs.declared.ask.FrontAsk.{FrontAsk}
use Rattle.imap_types.specs.declared.op.Op.TheVariants.{Append}
use Rattle.link_msg.specs.declared.outcome.Outcome.TheVariants.{Uids}
use Rattle.backend_core.specs.declared.backend.Backend.{Backend}
use Rattle.node_record.specs.declared.held.Held.{Held}
use Rattle.backend_core.specs.declared.response.Response.{Response}
use Rattle.backend_core.specs.HomeStep.{HomeStep, held_at, changes}
use Rattle.backend_core.specs.HomeLaws.{AreNewUids, HasUidsBelowNext, LosesNoMessage}
use Rattle.mail_store.specs.Kept.{AreUidsBelowNext, KeepsMessages}
use Rattle.backend_core.specs.Refusal.{refusal}
use Rattle.backend_core.specs.Append.{append_step, append_within_limits}
use Rattle.backend_core.specs.Served.{served, served_unless}
use Rattle.backend_core.specs.Step.{home_step, op_step}
use Rattle.backend_core.proofs.NewUids.{append_gives_new}
use Rattle.backend_core.proofs.Others.{others_stay}

free_by : (uids : List ℕ) (held : Held) (found : Option Held) → AreUidsBelowNext held.content → AreNewUids uids held found
    → All (λ uid. message_at held.content.messages uid ≡ None) uids
free_by uids held None below new = absurd new
free_by uids held (Some later) below new =
    All-weaker (λ uid. (held.content.next ≤ uid) × (uid < later.content.next)) (λ uid. message_at held.content.messages uid ≡ None)
    (λ uid h. none_from held.content.next uid held.content.messages h.0 below) uids new.0

pub append_finds_free : (home : Backend) (ask : FrontAsk) (messages : List Message) (held : Held) (uids : List ℕ) (seen : Snapshot)
    → HasUidsBelowNext home → ask.op ≡ Append messages → held_at home ask.name ≡ Some held
    → (home_step home ask).body ≡ Some (Done (Uids uids) seen) → All (λ uid. message_at held.content.messages uid ≡ None) uids
append_finds_free home ask messages held uids seen below is there says =
    free_by uids held (held_at (home_step home ask).home ask.name) (below ask.name held there)
    (append_gives_new home ask messages held uids seen is there says)

goes_on : (held later : Held) (found : Option Held) → found ≡ Some later → KeepsMessages held.content later.content → LosesNoMessage held found
goes_on held later found is keeps = subst (LosesNoMessage held) (sym is) keeps

as_it_was : (held : Held) (found : Option Held) → found ≡ Some held → LosesNoMessage held found
as_it_was held found is = goes_on held held found is (λ uid message there. there)

changes_keep : (home : Backend) (name : List ℕ) (held : Held) (messages : List Message) (fault : Option StoreFault) → AreUidsBelowNext held.content
    → held_at home name ≡ Some held → LosesNoMessage held (held_at (changes home name held (append_within_limits held.content messages fault)).home name)
unfolding append_within_limits
changes_keep home name held messages (Some fault) below there =
    goes_on held held _ (value_at-with_value (slice_cmp nat_cmp) names_apart home.held name held held there) (λ uid message at. at)
changes_keep home name held messages None below there =
    let later = record held { content = appended held.content messages } in
    goes_on held later _ (value_at-with_value (slice_cmp nat_cmp) names_apart home.held name later held there)
    (appended_keeps held.content messages below)

unless_keeps : (home : Backend) (name : List ℕ) (held : Held) (messages : List Message) (response : Option Response) → AreUidsBelowNext held.content
    → held_at home name ≡ Some held
    → LosesNoMessage held
    (held_at (served_unless home name held (append_within_limits held.content messages (append_fault held.content messages)) response).home name)
unfolding served_unless
unless_keeps home name held messages (Some response) below there = as_it_was held (held_at home name) there
unless_keeps home name held messages None below there = changes_keep home name held messages (append_fault held.content messages) below there

append_keeps : (home : Backend) (name : List ℕ) (selected : Option ℕ) (messages : List Message) (held : Held) → AreUidsBelowNext held.content
    → held_at home name ≡ Some held → LosesNoMessage held (held_at (append_step home name selected messages (Some held)).home name)
unfolding append_step served
append_keeps home name selected messages held below there = unless_keeps home name held messages (refusal selected held) below there

-- the mailbox of the name that was asked for
mine_kept : (home : Backend) (ask : FrontAsk) (messages : List Message) (held : Held) → HasUidsBelowNext home → ask.op ≡ Append messages
    → held_at home ask.name ≡ Some held → LosesNoMessage held (held_at (home_step home ask).home ask.name)
unfolding home_step op_step
mine_kept home ask messages held below is there =
    let step : home_step home ask ≡ append_step home ask.name ask.selected messages (Some held) =
    ap (op_step home ask) is ∙ ap (append_step home ask.name ask.selected messages) there in
    subst (λ (s : HomeStep). LosesNoMessage held (held_at s.home ask.name)) (sym step)
    (append_keeps home ask.name ask.selected messages held (below ask.name held there) there)

pub append_loses_none : (home : Backend) (ask : FrontAsk) (messages : List Message) (name : List ℕ) (held : Held) → HasUidsBelowNext home
    → ask.op ≡ Append messages → held_at home name ≡ Some held → LosesNoMessage held (held_at (home_step home ask).home name)
append_loses_none home ask messages name held below is there =
    ⊎_elim
    (λ (e : name ≡ ask.name). subst (λ n. LosesNoMessage held (held_at (home_step home ask).home n)) (sym e)
    (mine_kept home ask messages held below is (subst (λ n. held_at home n ≡ Some held) e there)))
    (λ (ne : name ≢ ask.name). as_it_was held _ (others_stay home ask name ne ∙ there))
    (same_or_other (slice_cmp nat_cmp) names_apart name ask.name)
