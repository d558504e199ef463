-- SELECT and EXAMINE (RFC 9051, 6.3.2 and 6.3.3): what is told when the home has answered.
use Rattle.std.specs.Prelude.{ℕ, List, Option, None, Some}
use Rattle.session_core.specs.declared.result.OpResult.{OpResult}
use Rattle.session_core.specs.declared.result.OpResult.TheVariants.{Done, Missing}
use Rattle.link_msg.specs.declared.outcome.Outcome.{Outcome}
use Rattle.link_msg.specs.declared.outcome.Outcome.TheVariants.{None as nothing}
use Rattle.mail_message.specs.declared.message.Snapshot.{Snapshot}
use Rattle.imap_types.specs.declared.reply.NoText.TheVariants.{NonExistent}
use Rattle.mur_model.specs.declared.commands.select.Opening.{Opening}
use Rattle.mur_model.specs.declared.session.Turn.{Turn}
use Rattle.mur_model.specs.Select.{select_told, unselected}

unfoldable pub select_done : List ℕ → Opening → Outcome → Snapshot → Option Turn
select_done name it nothing seen = Some (select_told it name seen)
select_done name it outcome seen = None

unfoldable pub select_turn : List ℕ → Opening → OpResult → Option Turn
select_turn name it (Done outcome seen) = select_done name it outcome seen
select_turn name it Missing = Some (unselected it.user it.was_selected NonExistent)
