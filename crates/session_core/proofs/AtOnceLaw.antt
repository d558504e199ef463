-- What comes of a command at once, whatever mailboxes there are, leaves no mailbox selected or changes no number that its client knows.
use Rattle.std.proofs.Common.{◌≡◌, List, Option, None, Some, refl}
use Rattle.std.specs.Prelude.{⊤}
use Rattle.imap_types.specs.declared.command.Command.{Command}
use Rattle.mur_model.specs.Needed.{Needed, Refusal, Turned, Mailbox, Names}
use Rattle.imap_types.specs.declared.reply.Reply.{Reply}
use Rattle.imap_types.specs.declared.reply.ReplyLine.{ReplyLine}
use Rattle.mur_model.specs.declared.session.Sess.{Sess}
use Rattle.mur_model.specs.declared.session.Sess.TheVariants.{Off, Selected}
use Rattle.mur_model.specs.declared.setting.Setting.{Setting}
use Rattle.mur_model.specs.Act.{need_of}
use Rattle.mur_model.specs.ClientView.{Known, known_after, known_after_all}
use Rattle.mur_model.proofs.EachNeed.{OfAnswers, OfWorks, each_by_works, each_off, of_refusals}

-- lines that change no number
abbrev pub AreStill : List ReplyLine → Type 0
AreStill lines = (known : Known) → known_after_all known lines ≡ known

unfoldable pub LeavesQuietly : Option Sess → Reply → Type 0
LeavesQuietly None reply = AreStill reply.lines
LeavesQuietly (Some (Selected view)) reply = ⊥
LeavesQuietly (Some session) reply = ⊤

unfoldable pub IsQuiet : Needed → Type 0
IsQuiet (Refusal verdict) = ⊤
IsQuiet (Turned turn) = LeavesQuietly turn.session turn.reply
IsQuiet (Mailbox name work) = ⊤
IsQuiet (Names it) = ⊤

-- and nothing is asked
unfoldable pub IsAtOnce : Needed → Type 0
IsAtOnce (Refusal verdict) = ⊤
IsAtOnce (Turned turn) = LeavesQuietly turn.session turn.reply
IsAtOnce (Mailbox name work) = ⊥
IsAtOnce (Names it) = ⊥

at_once : OfAnswers IsAtOnce
unfolding IsAtOnce LeavesQuietly known_after
at_once = of_refusals (λ verdict. tt) (λ name plain known. refl) (λ name user plain. tt) (λ known. refl) tt

pub off-needs : (setting : Setting) (it : Command) → IsAtOnce (need_of setting Off it)
off-needs setting it = each_off at_once setting it

quiet_answers : OfAnswers IsQuiet
unfolding IsQuiet LeavesQuietly known_after
quiet_answers = of_refusals (λ verdict. tt) (λ name plain known. refl) (λ name user plain. tt) (λ known. refl) tt

quiet_works : OfWorks IsQuiet
unfolding IsQuiet LeavesQuietly known_after
quiet_works = record {
  answers = quiet_answers;
  enable = λ known. refl;
  separator = λ known. refl;
  names = λ it. tt;
  unselected = λ user was_selected why. tt;
  left = λ view name plain. tt;
  work = λ name it. tt;
}

pub need_quiet : (setting : Setting) (session : Sess) (it : Command) → IsQuiet (need_of setting session it)
need_quiet setting session it = each_by_works setting quiet_works session it
