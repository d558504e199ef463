-- A session finishes by the answer of a home as the one store acts.
use Rattle.std.proofs.Common.{◌≡◌, ℕ, List, Option, None, Some, refl, sym, ◌∙◌, ap, subst}
use Rattle.backend_core.specs.declared.backend.Backend.{Backend}
use Rattle.backend_core.specs.Step.{home_step}
use Rattle.imap_types.specs.declared.command.Command.{Command}
use Rattle.imap_types.specs.declared.reply.Reply.{Reply as ReplyOf}
use Rattle.link_msg.specs.declared.answer.AnswerBody.{AnswerBody}
use Rattle.mur_base.specs.declared.point.AskId.{AskId}
use Rattle.mur_model.specs.Act.{act_by, act_of, need_of, session_after, worked_at}
use Rattle.mur_model.specs.Asking.{asked_for}
use Rattle.mur_model.specs.Left.{store_after}
use Rattle.mur_model.specs.Need.{told_with}
use Rattle.mur_model.specs.Needed.{IsOfHome, Mailbox, Work}
use Rattle.mur_model.specs.Traits.{is_in}
use Rattle.mur_model.specs.declared.need.Awaited.{Awaited}
use Rattle.mur_model.specs.declared.session.Sess.{Sess}
use Rattle.mur_model.specs.declared.session.Sess.TheVariants.{Off, In, Selected, Ended}
use Rattle.mur_model.specs.declared.session.Turn.{Turn}
use Rattle.mur_model.specs.declared.setting.Setting.{Setting}
use Rattle.mur_model.specs.declared.store.Store.{Store}
use Rattle.mur_model.proofs.OwnView.{IsOfNeeded, work_own}
use Rattle.session_core.specs.Finish.{finished_by, turn_of}
use Rattle.session_core.specs.Results.{result_of, turn_by}
use Rattle.session_core.specs.declared.result.OpResult.{OpResult}
use Rattle.serve_law.proofs.HomeStore.{IsStoreOf}
use Rattle.serve_law.proofs.HomeStore.IsStoreOf.{is_missing, is_there}
use Rattle.serve_law.proofs.ServeLaw.{serves_others}
use Rattle.serve_law.specs.AsTheStore.{AnswersAsActed, HaveAlike, ask_of, given_with}
use Rattle.serve_law.specs.AsTheStore.HaveAlike.{neither, both}

store_of_home : (store : Store) (home : Backend) (name : List ℕ) → HaveAlike store home name → IsStoreOf store home name
store_of_home store home name (neither box held) = is_missing box held
store_of_home store home name (both held at is_open box) = is_there held (record { at = at; is_open = is_open; box = box })

alike_of : (store : Store) (home : Backend) (name : List ℕ) → IsStoreOf store home name → HaveAlike store home name
alike_of store home name (is_missing box held) = neither box held
alike_of store home name (is_there held is) = both held is.at is.is_open is.box

-- a session that has ended needs no mailbox
pub ended_needs_none : (setting : Setting) (it : Command) (name : List ℕ) (work : Work) → need_of setting Ended it ≡ Mailbox name work → ⊥
unfolding need_of is_in
ended_needs_none setting it name work h = cc

-- a turn of a session that hasn't ended, by whether the turn ends it
pub finished_so : (session : Sess) (reply : ReplyOf) (later : Option Sess) → (session ≡ Ended → ⊥)
    → finished_by session (Some (record { session = later; reply = reply }))
    ≡ record { session = session_after session later; need = Some (given_with reply (session_after session later)) }
unfolding finished_by told_with given_with
finished_so Off reply None goes_on = refl
finished_so (In user) reply None goes_on = refl
finished_so (Selected view) reply None goes_on = refl
finished_so Ended reply None goes_on = absurd (goes_on refl)
finished_so session reply (Some Off) goes_on = refl
finished_so session reply (Some (In user)) goes_on = refl
finished_so session reply (Some (Selected view)) goes_on = refl
finished_so session reply (Some Ended) goes_on = refl

-- what comes of an answer is what comes of its result
record OfResult (session : Sess) (awaited : Awaited) (body : AnswerBody) (turn : Turn) : Type 0 where
  result : OpResult
  is_result : result_of body ≡ Some result
  comes : turn_of session awaited result ≡ Some turn

of_result : (session : Sess) (awaited : Awaited) (body : AnswerBody) (turn : Turn) (result : Option OpResult) → result_of body ≡ result
    → turn_by session awaited result ≡ Some turn → OfResult session awaited body turn
unfolding turn_by
of_result session awaited body turn None is h = absurd cc
of_result session awaited body turn (Some result) is h = record { result = result; is_result = is; comes = h }

acted_as : (setting : Setting) (store : Store) (session : Sess) (it : Command) (name : List ℕ) (work : Work) (serial : ℕ)
    → need_of setting session it ≡ Mailbox name work
    → act_of setting store session it serial ≡ act_by store session serial (Mailbox name work)
unfolding act_of
acted_as setting store session it name work serial need = ap (act_by store session serial) need

pub answers_as_acted : (setting : Setting) (store : Store) (home : Backend) (session : Sess) (it : Command) (name : List ℕ) (work : Work) (id : AskId) (user : List ℕ)
    (serial : ℕ) → need_of setting session it ≡ Mailbox name work → IsOfHome work → HaveAlike store home name
    → AnswersAsActed session name (asked_for name work).awaited (home_step home (ask_of id user name (asked_for name work)))
    (act_of setting store session it serial)
unfolding act_by IsOfNeeded
answers_as_acted setting store home session it name work id user serial need of alike =
    let awaited : Awaited = (asked_for name work).awaited in
    let turn : Turn = (worked_at store name work serial).turn in
    let serves = serves_others store home id user name work serial (store_of_home store home name alike) of in
    let by = of_result session awaited serves.body turn (result_of serves.body) refl
    (serves.shown session (work_own setting session it (Mailbox name work) need)) in
    let goes_on = λ (e : session ≡ Ended). ended_needs_none setting it name work (ap (λ (s : Sess). need_of setting s it) (sym e) ∙ need) in
    subst (λ a. AnswersAsActed session name awaited (home_step home (ask_of id user name (asked_for name work))) a)
    (sym (acted_as setting store session it name work serial need))
    (record {
      body = serves.body;
      result = by.result;
      answers = serves.is_body;
      is_result = by.is_result;
      finishes = ap (finished_by session) by.comes ∙ finished_so session turn.reply turn.session goes_on;
      still = alike_of (store_after store name (worked_at store name work serial).left) _ name serves.still;
    })
