-- An answer of the server that was asked: the command is asked elsewhere, the master is asked first, or it has come to its end.
use Rattle.std.specs.Prelude.{ℕ, List, Option, None, Some}
use Rattle.link_msg.specs.declared.answer.AnswerBody.{AnswerBody}
use Rattle.link_msg.specs.declared.answer.AnswerBody.TheVariants as answer
use Rattle.mur_base.specs.declared.point.AskId.{AskId}
use Rattle.mur_base.specs.declared.point.What.{What}
use Rattle.mur_base.specs.declared.point.What.TheVariants.{Reserved, Unreached}
use Rattle.mur_model.specs.declared.need.Need.{Need}
use Rattle.mur_model.specs.declared.session.Sess.{Sess}
use Rattle.session_core.specs.declared.result.OpResult.{OpResult}
use Rattle.session_core.specs.declared.result.OpResult.TheVariants.{Done, Missing}
use Rattle.session_core.specs.Finish.{Finished, finish}
use Rattle.session_core.specs.Relocated.{Refused, relocated}
use Rattle.ask_routes.specs.declared.next.Next.{Next}
use Rattle.ask_routes.specs.declared.next.Next.TheVariants as next
use Rattle.ask_routes.specs.Ways.{behind_answer}
use Rattle.asking_core.specs.declared.then.Then.{Then}
use Rattle.asking_core.specs.declared.then.Then.TheVariants as then
use Rattle.asking_core.specs.declared.waiting.Waiting.{Waiting}
use Rattle.asking_core.specs.Begins.{Begun, asks_master, asks_server}

-- the session, the command as it waits then, and what comes of it
pub record WentOn : Type 0 where
  pub session : Sess
  pub waiting : Waiting
  pub then : Then

abbrev pub went : Sess → Waiting → Then → WentOn
went session it what = record { session = session; waiting = it; then = what }

abbrev pub sends : Sess → Begun → WentOn
sends session more = went session more.waiting (then.Sends more.sent)

abbrev pub needs_by : Option Need → Then
needs_by None = then.Stays
needs_by (Some need) = then.Needs need

abbrev pub told_in : Waiting → Finished → WentOn
told_in it behind = went behind.session it (needs_by behind.need)

-- this came of the operation
abbrev pub told : Sess → Waiting → OpResult → WentOn
told session it result = told_in it (finish session it.asking.awaited result)

abbrev pub refused_in : Waiting → What → Refused → WentOn
refused_in it cause behind = went behind.session it (then.Refused cause behind.reply)

-- it is refused for this cause
abbrev pub refused : Sess → Waiting → What → WentOn
refused session it cause = refused_in it cause (relocated session it.asking.awaited cause)

-- it goes on as is decided
abbrev pub goes_on : List ℕ → AskId → Sess → Waiting → Next → WentOn
goes_on master id session it (next.Ask server) = sends session (asks_server id session it server)
goes_on master id session it (next.Barrier cause) = sends session (asks_master master id it cause)
goes_on master id session it next.Missing = told session it Missing
goes_on master id session it next.Refused = refused session it Reserved

-- an answer after which no node is asked
abbrev pub told_by : Sess → Waiting → AnswerBody → WentOn
told_by session it (answer.Done outcome seen) = told session it (Done outcome seen)
told_by session it (answer.Unreached node) = refused session it (Unreached node)
told_by session it answer.Lost = went session it then.Lost
told_by session it answer.NotNow = went session it then.Stays
told_by session it (answer.Moved server) = went session it then.Stays

abbrev pub answered_by : List ℕ → AskId → Sess → Waiting → AnswerBody → Option Next → WentOn
answered_by master id session it body (Some next) = goes_on master id session it next
answered_by master id session it body None = told_by session it body

unfoldable pub answered : List ℕ → AskId → Sess → Waiting → AnswerBody → WentOn
answered master id session it body = answered_by master id session it body (behind_answer body)
