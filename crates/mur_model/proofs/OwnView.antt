-- Work that a command of a session needs at the mailbox of a view is at that of the session's own.
use Rattle.std.proofs.Common.{◌≡◌, subst}
use Rattle.std.specs.Prelude.{⊤}
use Rattle.imap_types.specs.declared.command.Command.{Command}
use Rattle.mur_model.specs.declared.session.Sess.{Sess}
use Rattle.mur_model.specs.declared.session.Sess.TheVariants.{Selected}
use Rattle.mur_model.specs.declared.setting.Setting.{Setting}
use Rattle.mur_model.specs.declared.view.View.{View}
use Rattle.mur_model.specs.Act.{need_of}
use Rattle.mur_model.specs.Needed.{Needed, Mailbox, Work, Viewed}
use Rattle.mur_model.proofs.EachNeed.{AnyCommand, OfAnswers, OfBegun, OfViewed, each_need, of_refusals}

unfoldable pub IsOfWork : Sess → Work → Type 0
IsOfWork session (Viewed view it) = session ≡ Selected view
IsOfWork session work = ⊤

unfoldable pub IsOfNeeded : Sess → Needed → Type 0
IsOfNeeded session (Mailbox name work) = IsOfWork session work
IsOfNeeded session needed = ⊤

answers_own : (session : Sess) → OfAnswers (IsOfNeeded session)
unfolding IsOfNeeded
answers_own session = of_refusals (λ verdict. tt) (λ name plain. tt) (λ name user plain. tt) tt tt

begun_own : (setting : Setting) (session : Sess) → OfBegun setting AnyCommand (IsOfNeeded session)
unfolding IsOfNeeded IsOfWork
begun_own setting session = record {
  answers = answers_own session;
  enable = tt;
  separator = tt;
  names = λ user pattern. tt;
  unselected = λ user was_selected why. tt;
  make = λ name named. tt;
  delete = λ name named. tt;
  append = λ name text flags date body asked. tt;
  status = λ user name items named. tt;
  select = λ user name text is_writable was_selected asked named. tt;
}

viewed_own : (session : Sess) (view : View) → session ≡ Selected view → OfViewed AnyCommand (IsOfNeeded session) view
unfolding IsOfNeeded IsOfWork
viewed_own session view is = record {
  left = λ name plain. tt;
  news = λ why. is;
  close = is;
  expunge = λ only. is;
  store = λ by_uid set mode is_silent flags asked. is;
  fetch = λ it. is;
  search = λ it. is;
}

pub need_own : (setting : Setting) (session : Sess) (it : Command) → IsOfNeeded session (need_of setting session it)
need_own setting session it = each_need (begun_own setting session) session (λ view is. viewed_own session view is) it tt

pub work_own : (setting : Setting) (session : Sess) (it : Command) (needed : Needed) → need_of setting session it ≡ needed → IsOfNeeded session needed
work_own setting session it needed e = subst (IsOfNeeded session) e (need_own setting session it)
