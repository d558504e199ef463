-- What is carried out for a command, by what its session asks of a home, is what the command means.
use Rattle.std.proofs.Common.{◌≡◌, ℕ, List, Option, None, Some, Result, refl, sym, ap, subst}
use Rattle.std.specs.Option.{IfSome}
use Rattle.std.specs.Result.{IfOk}
use Rattle.std.proofs.lemmas.Result.{IfOk-weaker}
use Rattle.imap_types.specs.declared.command.Command.{Command}
use Rattle.imap_types.specs.declared.reply.Reply.{Reply}
use Rattle.mur_base.specs.declared.memory.Memory.{Memory}
use Rattle.mur_model.specs.declared.need.Begun.{Begun}
use Rattle.mur_model.specs.declared.session.Sess.{Sess}
use Rattle.mur_model.specs.declared.session.Sess.TheVariants.{Off, In, Selected, Ended}
use Rattle.mur_model.specs.declared.setting.Setting.{Setting}
use Rattle.mur_model.specs.declared.store.Store.{Store}
use Rattle.mur_model.specs.declared.session.Turn.{Turn}
use Rattle.mur_model.specs.Act.{Acted, act_by, act_of, need_of, session_after, worked_at}
use Rattle.mur_model.specs.Acting.{IsActed, IsWorked}
use Rattle.mur_model.specs.Asking.{HasWork, appended_for, asked_for, viewed_for, work_for}
use Rattle.mur_model.specs.Need.{begun_of, told_with}
use Rattle.mur_model.specs.Needed.{Needed, Refusal, Turned, Mailbox, Names, Work, Make, Delete, Append, Status, Select, Viewed}
use Rattle.mur_model.proofs.OwnView.{IsOfNeeded, IsOfWork, need_own}

asked_back : (session : Sess) (name : List ℕ) (work : Work) → IsOfWork session work
    → work_for session (asked_for name work).op (asked_for name work).awaited ≡ Some work
unfolding work_for asked_for appended_for viewed_for IsOfWork
asked_back session name Make own = refl
asked_back session name Delete own = refl
asked_back session name (Append message) own = refl
asked_back session name (Status shown items) own = refl
asked_back session name (Select it) own = refl
asked_back session name (Viewed view it) own = rw own refl

told_work : (session : Sess) (reply : Reply) (later : Option Sess) → HasWork session (told_with reply later).need
unfolding HasWork told_with
told_work session reply None = tt
told_work session reply (Some Off) = tt
told_work session reply (Some (In user)) = tt
told_work session reply (Some (Selected view)) = tt
told_work session reply (Some Ended) = tt

has_work : (session : Sess) (needed : Needed) → IsOfNeeded session needed → HasWork session (begun_of needed).need
unfolding HasWork begun_of IsOfNeeded
has_work session (Refusal verdict) own = tt
has_work session (Turned turn) own = told_work session turn.reply turn.session
has_work session (Mailbox name work) own = rw (asked_back session name work own) refl
has_work session (Names it) own = tt

pub begun_has_work : (setting : Setting) (session : Sess) (it : Command) (begun : Begun) → begun ≡ begun_of (need_of setting session it)
    → HasWork session begun.need
begun_has_work setting session it begun e =
    subst (λ (b : Begun). HasWork session b.need) (sym e) (has_work session (need_of setting session it) (need_own setting session it))

told_acted : (store : Store) (session : Sess) (serial : ℕ) (reply : Reply) (later : Option Sess) (acted : Acted)
    → IsActed store session serial (told_with reply later).session (told_with reply later).need acted
    → acted ≡ record { store = store; session = session_after session later; reply = reply }
unfolding IsActed told_with
told_acted store session serial reply None acted is = is
told_acted store session serial reply (Some Off) acted is = is
told_acted store session serial reply (Some (In user)) acted is = is
told_acted store session serial reply (Some (Selected view)) acted is = is
told_acted store session serial reply (Some Ended) acted is = is

acted_as : (store : Store) (session : Sess) (serial : ℕ) (needed : Needed) (acted : Acted) → IsOfNeeded session needed
    → IsActed store session serial (begun_of needed).session (begun_of needed).need acted → acted ≡ act_by store session serial needed
unfolding IsActed begun_of IsOfNeeded act_by
acted_as store session serial (Refusal verdict) acted own is = is
acted_as store session serial (Turned turn) acted own is = told_acted store session serial turn.reply turn.session acted is
acted_as store session serial (Mailbox name work) acted own is =
    subst (λ w. IfSome w (λ it. acted ≡ act_by store session serial (Mailbox name it))) (asked_back session name work own) is
acted_as store session serial (Names it) acted own is = is

pub acted_at : (store left : Store) (session next : Sess) (serial : ℕ) (name : List ℕ) (found : Option Work) (turn : Turn) (reply : Reply)
    → IfSome found (λ work. IsWorked store name (worked_at store name work serial) left turn) → next ≡ session_after session turn.session → reply ≡ turn.reply
    → IfSome found (λ work. record { store = left; session = next; reply = reply } ≡ act_by store session serial (Mailbox name work))
unfolding act_by
acted_at store left session next serial name None turn reply is after told = tt
acted_at store left session next serial name (Some work) turn reply is after told =
    rw (is.0, after, told, ap (λ (t : Turn). session_after session t.session) is.1, ap (λ (t : Turn). t.reply) is.1) refl

pub act_is : (setting : Setting) (store left : Store) (session next : Sess) (it : Command) (serial : ℕ) (begun : Begun) (result : Result Reply Memory)
    → begun ≡ begun_of (need_of setting session it)
    → IfOk result (λ reply. IsActed store session serial begun.session begun.need (record { store = left; session = next; reply = reply }))
    → IfOk result (λ reply. record { store = left; session = next; reply = reply } ≡ act_of setting store session it serial)
unfolding act_of
act_is setting store left session next it serial begun result e is =
    IfOk-weaker result (λ reply. IsActed store session serial begun.session begun.need (record { store = left; session = next; reply = reply }))
    (λ reply. record { store = left; session = next; reply = reply } ≡ act_by store session serial (need_of setting session it))
    (λ reply acted. acted_as store session serial (need_of setting session it) (record { store = left; session = next; reply = reply })
    (need_own setting session it)
    (subst (λ (b : Begun). IsActed store session serial b.session b.need (record { store = left; session = next; reply = reply })) e acted)) is
