-- A mailbox that a command makes or deletes has a name by the rules of names (RFC 9051, 5.1).
use Rattle.std.proofs.Common.{◌≡◌, ℕ, List, None, subst}
use Rattle.std.specs.Prelude.{⊤}
use Rattle.imap_types.specs.declared.command.Command.{Command}
use Rattle.mur_base.specs.Names.{mail_name_fault}
use Rattle.mur_model.specs.declared.session.Sess.{Sess}
use Rattle.mur_model.specs.declared.setting.Setting.{Setting}
use Rattle.mur_model.specs.declared.view.View.{View}
use Rattle.mur_model.specs.Act.{need_of}
use Rattle.mur_model.specs.Needed.{Needed, Mailbox, Work, Make, Delete}
use Rattle.mur_model.proofs.EachNeed.{AnyCommand, OfBegun, OfViewed, each_need, of_refusals}

unfoldable MadeHasName : List ℕ → Work → Type 0
MadeHasName name Make = mail_name_fault name ≡ None
MadeHasName name Delete = mail_name_fault name ≡ None
MadeHasName name work = ⊤

unfoldable MakesNamed : Needed → Type 0
MakesNamed (Mailbox name work) = MadeHasName name work
MakesNamed needed = ⊤

begun_named : (setting : Setting) → OfBegun setting AnyCommand MakesNamed
unfolding MakesNamed MadeHasName
begun_named setting = record {
  answers = of_refusals (λ verdict. tt) (λ name plain. tt) (λ name user plain. tt) tt tt;
  enable = tt;
  separator = tt;
  names = λ user pattern. tt;
  unselected = λ user was_selected why. tt;
  make = λ name named. named;
  delete = λ name named. named;
  append = λ name text flags date body asked. tt;
  status = λ user name items named. tt;
  select = λ user name text is_writable was_selected asked named. tt;
}

viewed_named : (view : View) → OfViewed AnyCommand MakesNamed view
unfolding MakesNamed MadeHasName
viewed_named view = record {
  left = λ name plain. tt;
  news = λ why. tt;
  close = tt;
  expunge = λ only. tt;
  store = λ by_uid set mode is_silent flags asked. tt;
  fetch = λ it. tt;
  search = λ it. tt;
}

pub made_is_named : (setting : Setting) (session : Sess) (it : Command) (name : List ℕ) → need_of setting session it ≡ Mailbox name Make
    → mail_name_fault name ≡ None
unfolding MakesNamed MadeHasName
made_is_named setting session it name e = subst MakesNamed e (each_need (begun_named setting) session (λ view is. viewed_named view) it tt)

pub deleted_is_named : (setting : Setting) (session : Sess) (it : Command) (name : List ℕ) → need_of setting session it ≡ Mailbox name Delete
    → mail_name_fault name ≡ None
unfolding MakesNamed MadeHasName
deleted_is_named setting session it name e = subst MakesNamed e (each_need (begun_named setting) session (λ view is. viewed_named view) it tt)
