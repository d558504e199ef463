-- Whether a session begins with a command, from whether it does with what comes of it.
use Rattle.std.proofs.Common.{◌≡◌, ◌∙◌, ap, Bool, Option, None, Some, Result, Ok, Err, IfOk, IsOkAnd, refl}
use Rattle.mur_base.specs.declared.memory.Memory.{Memory}
use Rattle.imap_types.specs.declared.reply.Reply.{Reply}
use Rattle.mur_model.specs.declared.need.Begun.{Begun}
use Rattle.mur_model.specs.declared.session.Sess.{Sess}
use Rattle.mur_model.specs.declared.session.Sess.TheVariants.{Off, In, Selected, Ended}
use Rattle.mur_model.specs.Need.{begun_of, told_with}
use Rattle.mur_model.specs.Needed.{Needed, Refusal, Turned, Mailbox, Names}
use Rattle.mur_model.specs.Waits.{begins_by, begins_session}

told_begins : (reply : Reply) (later : Option Sess) → begins_session (told_with reply later).session ≡ begins_session later
unfolding told_with
told_begins reply None = refl
told_begins reply (Some Off) = refl
told_begins reply (Some (In user)) = refl
told_begins reply (Some (Selected view)) = refl
told_begins reply (Some Ended) = refl

begins_so : (needed : Needed) → begins_session (begun_of needed).session ≡ begins_by needed
unfolding begun_of begins_by begins_session
begins_so (Refusal verdict) = refl
begins_so (Turned turn) = told_begins turn.reply turn.session
begins_so (Mailbox name work) = refl
begins_so (Names it) = refl

pub begins_as : (made : Result Begun Memory) (result : Result Bool Memory) (needed : Needed) → IfOk made (λ begun. begun ≡ begun_of needed)
    → IfOk result (λ begins. IsOkAnd made (λ begun. begins ≡ begins_session begun.session)) → IfOk result (λ begins. begins ≡ begins_by needed)
begins_as (Ok begun) (Ok begins) needed same tells = tells ∙ ap (λ (b : Begun). begins_session b.session) same ∙ begins_so needed
begins_as (Err fault) (Ok begins) needed same tells = absurd tells
begins_as made (Err fault) needed same tells = tt
