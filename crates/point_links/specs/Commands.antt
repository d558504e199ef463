-- A client's command at a frontend, which needs a mailbox, and what comes of it there.
use Rattle.std.specs.Prelude.{◌≡◌, ℕ, List}
use Rattle.asking_core.specs.declared.then.Then.TheVariants as then
use Rattle.asking_core.specs.declared.waiting.Sent.{Sent}
use Rattle.asking_core.specs.declared.waiting.Waiting.{Waiting}
use Rattle.asking_core.specs.Answered.{WentOn, went}
use Rattle.asking_core.specs.Laws.{AsksOn}
use Rattle.imap_types.specs.declared.command.Command.{Command}
use Rattle.mur_base.specs.declared.point.AskId.{AskId}
use Rattle.mur_base.specs.declared.point.What.TheVariants.{Reserved}
use Rattle.mur_model.specs.declared.session.Sess.{Sess}
use Rattle.mur_model.specs.declared.session.Turn.{Turn}
use Rattle.mur_model.specs.declared.setting.Setting.{Setting}
use Rattle.mur_model.specs.Act.{need_of, session_after}
use Rattle.mur_model.specs.Asking.{asked_for}
use Rattle.mur_model.specs.Needed.{Mailbox, Work}
use Rattle.serve_law.specs.AsTheStore.{given_with}

-- a command of this number, of a session that was so, needs this work at a mailbox, and waits with what is asked for that
pub record ClientCommand : Type 0 where
  pub setting : Setting
  pub id : AskId
  pub was : Sess
  pub it : Command
  pub name : List ℕ
  pub work : Work
  pub waiting : Waiting
  pub need : need_of setting was it ≡ Mailbox name work
  pub name_is : waiting.name ≡ name
  pub asking_is : waiting.asking ≡ asked_for name work

-- it has come to its end: its client is given the reply of this turn, and its session is the one behind it
abbrev pub told_turn : ClientCommand → Turn → WentOn
told_turn c turn =
    went (session_after c.was turn.session) c.waiting (then.Needs (given_with turn.reply (session_after c.was turn.session)))

-- it is refused since its name is reserved, and its client is given the reply of this turn
abbrev pub refused_turn : ClientCommand → Turn → WentOn
refused_turn c turn = went (session_after c.was turn.session) c.waiting (then.Refused Reserved turn.reply)

-- it isn't at its end: something more is sent for it, what is asked stays what it was, and so does its session
pub record WaitsOn (master : List ℕ) (c : ClientCommand) (next : WentOn) : Type 0 where
  pub sent : Sent
  pub sends : next.then ≡ then.Sends sent
  pub session_is : next.session ≡ c.was
  pub asks : AsksOn master c.id c.was c.waiting next.waiting sent
