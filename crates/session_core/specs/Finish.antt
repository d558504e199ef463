-- What comes of an operation's result for a session: nothing of one that doesn't fit what was asked.
use Rattle.std.specs.Prelude.{Option, None, Some}
use Rattle.std.specs.Option.{option_map}
use Rattle.session_core.specs.declared.result.OpResult.{OpResult}
use Rattle.mur_model.specs.declared.session.Sess.{Sess}
use Rattle.mur_model.specs.declared.session.Turn.{Turn}
use Rattle.mur_model.specs.Left.{replied}
use Rattle.mur_model.specs.declared.need.Awaited.{Awaited}
use Rattle.mur_model.specs.declared.need.Awaited.TheVariants.{Create, Delete, Append, Status, Select, Viewed}
use Rattle.mur_model.specs.declared.need.Need.{Need}
use Rattle.session_core.specs.Append.{reply_to_append}
use Rattle.session_core.specs.Create.{reply_to_create}
use Rattle.session_core.specs.Delete.{reply_to_delete}
use Rattle.session_core.specs.Need.{told_reply}
use Rattle.session_core.specs.Select.{select_turn}
use Rattle.session_core.specs.Status.{reply_to_status}
use Rattle.session_core.specs.Viewed.{viewed_in}

unfoldable pub turn_of : Sess → Awaited → OpResult → Option Turn
turn_of session Create result = option_map replied (reply_to_create result)
turn_of session Delete result = option_map replied (reply_to_delete result)
turn_of session Append result = option_map replied (reply_to_append result)
turn_of session (Status shown items) result = option_map replied (reply_to_status shown items result)
turn_of session (Select name it) result = select_turn name it result
turn_of session (Viewed work) result = viewed_in session work result

-- a session behind an answer, and what it needs; nothing where the answer doesn't fit
pub record Finished : Type 0 where
  pub session : Sess
  pub need : Option Need

unfoldable pub finished_by : Sess → Option Turn → Finished
finished_by session None = record { session = session; need = None }
finished_by session (Some turn) =
    let behind = told_reply session turn.reply turn.session in
    record { session = behind.session; need = Some behind.need }

abbrev pub finish : Sess → Awaited → OpResult → Finished
finish session awaited result = finished_by session (turn_of session awaited result)
