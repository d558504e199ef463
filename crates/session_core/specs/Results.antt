-- What a home's answer says of the operation that it was asked for. A home that doesn't serve the mailbox hasn't it; of the other answers nothing is made.
use Rattle.std.specs.Prelude.{Option, None, Some}
use Rattle.link_msg.specs.declared.answer.AnswerBody.{AnswerBody}
use Rattle.link_msg.specs.declared.answer.AnswerBody.TheVariants.{Done as done, NotNow}
use Rattle.mur_model.specs.declared.need.Awaited.{Awaited}
use Rattle.mur_model.specs.declared.session.Sess.{Sess}
use Rattle.mur_model.specs.declared.session.Turn.{Turn}
use Rattle.session_core.specs.declared.result.OpResult.{OpResult}
use Rattle.session_core.specs.declared.result.OpResult.TheVariants.{Done, Missing}
use Rattle.session_core.specs.Finish.{turn_of}

unfoldable pub result_of : AnswerBody → Option OpResult
result_of (done outcome seen) = Some (Done outcome seen)
result_of NotNow = Some Missing
result_of body = None

unfoldable pub turn_by : Sess → Awaited → Option OpResult → Option Turn
turn_by session awaited None = None
turn_by session awaited (Some result) = turn_of session awaited result

-- what comes of an answer for a session
abbrev pub turn_behind : Sess → Awaited → AnswerBody → Option Turn
turn_behind session awaited body = turn_by session awaited (result_of body)
