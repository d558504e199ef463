-- Only a session that has begun asks a home.
use Rattle.std.proofs.Common.{◌≡◌, Option, None, Some, sym, ◌∙◌, ap, subst}
use Rattle.imap_types.specs.declared.command.Command.{Command}
use Rattle.mur_model.specs.Needed.{Needed, Refusal, Turned, Mailbox, Names}
use Rattle.imap_types.specs.declared.reply.BadText.TheVariants.{State}
use Rattle.imap_types.specs.declared.reply.Verdict.TheVariants.{Bad as bad_reply}
use Rattle.imap_types.specs.declared.reply.Reply.{Reply}
use Rattle.mur_base.specs.declared.point.What.{What}
use Rattle.mur_model.specs.declared.need.Awaited.{Awaited}
use Rattle.mur_model.specs.declared.need.Awaited.TheVariants as awaited
use Rattle.mur_model.specs.declared.session.Sess.{Sess}
use Rattle.mur_model.specs.declared.session.Sess.TheVariants.{Off, In, Selected, Ended}
use Rattle.mur_model.specs.declared.session.Turn.{Turn}
use Rattle.mur_model.specs.declared.setting.Setting.{Setting}
use Rattle.mur_model.specs.Act.{need_of}
use Rattle.mur_model.specs.Traits.{is_in}
use Rattle.mur_model.specs.declared.need.Need.{Need}
use Rattle.session_core.specs.Begin.{begin, HasBegun, MayNeed}
use Rattle.session_core.specs.Finish.{Finished, finished_by}
use Rattle.session_core.specs.Relocated.{moved_turn, relocated}
use Rattle.session_core.proofs.AtOnceLaw.{IsAtOnce, off-needs}
use Rattle.mur_model.specs.declared.need.Begun.{Begun}
use Rattle.mur_model.specs.Need.{begun_of, told_with}
use Rattle.session_core.specs.Need.{Behind, session_behind, begun_by_need, told_reply}
use Rattle.std.specs.Option.{IfSome}

abbrev Fits : Behind → Type 0
Fits session_behind = MayNeed session_behind.session session_behind.need

told_fits : (session : Sess) (reply : Reply) (later : Option Sess) → Fits (told_reply session reply later)
unfolding MayNeed told_with
told_fits session reply None = tt
told_fits session reply (Some Off) = tt
told_fits session reply (Some (In user)) = tt
told_fits session reply (Some (Selected view)) = tt
told_fits session reply (Some Ended) = tt

begun_fits : (session : Sess) (needed : Needed) → HasBegun session → Fits (begun_by_need session needed)
unfolding MayNeed begun_of
begun_fits session (Refusal verdict) begun = tt
begun_fits session (Turned turn) begun = told_fits session turn.reply turn.session
begun_fits session (Mailbox name work) begun = begun
begun_fits session (Names it) begun = tt

at_once_fits : (session : Sess) (needed : Needed) → IsAtOnce needed → Fits (begun_by_need session needed)
unfolding MayNeed begun_of IsAtOnce
at_once_fits session (Refusal verdict) at_once = tt
at_once_fits session (Turned turn) at_once = told_fits session turn.reply turn.session
at_once_fits session (Mailbox name work) at_once = absurd at_once
at_once_fits session (Names it) at_once = absurd at_once

pub may_need : (setting : Setting) (session : Sess) (it : Command) → Fits (begin setting session it)
unfolding IsAtOnce HasBegun need_of is_in
may_need setting Off it = at_once_fits Off (need_of setting Off it) (off-needs setting it)
may_need setting (In user) it = begun_fits (In user) (need_of setting (In user) it) tt
may_need setting (Selected view) it = begun_fits (Selected view) (need_of setting (Selected view) it) tt
may_need setting Ended it = at_once_fits Ended (Refusal (bad_reply State)) tt

pub may_need_behind : (session : Sess) (turn : Option Turn)
    → let session_behind = finished_by session turn in IfSome session_behind.need (λ it. MayNeed session_behind.session it)
unfolding finished_by
may_need_behind session None = tt
may_need_behind session (Some turn) = told_fits session turn.reply turn.session

-- the same of a session and of what it needs apart
apart_fits : (session_behind : Behind) (session : Sess) (need : Need) → record { session = session; need = need } ≡ session_behind → Fits session_behind → MayNeed session need
apart_fits session_behind session need is fits = subst (λ (b : Behind). Fits b) (sym is) fits

pub begin_fits : (setting : Setting) (before session : Sess) (it : Command) (begun : Begun) (need : Need) → begun ≡ begun_of (need_of setting before it)
    → record { session = session; need = need } ≡ session_behind before begun → MayNeed session need
begin_fits setting before session it begun need same is =
    apart_fits (begin setting before it) session need (is ∙ ap (session_behind before) same) (may_need setting before it)

some_fits : (finished : Finished) (session : Sess) (need : Option Need) → record { session = session; need = need } ≡ finished
    → IfSome finished.need (λ it. MayNeed finished.session it) → IfSome need (λ it. MayNeed session it)
some_fits finished session need is fits = subst (λ (f : Finished). IfSome f.need (λ it. MayNeed f.session it)) (sym is) fits

pub finish_fits : (before session : Sess) (turn : Option Turn) (need : Option Need) → record { session = session; need = need } ≡ finished_by before turn
    → IfSome need (λ it. MayNeed session it)
finish_fits before session turn need is = some_fits (finished_by before turn) session need is (may_need_behind before turn)

-- a refusal ends no session
pub relocated_begun : (session : Sess) (it : Awaited) (what : What) → HasBegun session → HasBegun (relocated session it what).session
unfolding moved_turn HasBegun
relocated_begun session (awaited.Select name it) what begun = tt
relocated_begun session it what begun = begun
