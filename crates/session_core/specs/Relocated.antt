-- The refusal of a command whose mailbox is on its way to another server, or that needs a server which isn't reached: the session stays as it was and no
-- news is told, but that a SELECT or an EXAMINE leaves no mailbox selected, as where it is refused for another cause (RFC 9051, 6.3.2).
use Rattle.std.specs.Prelude.{⊤}
use Rattle.mur_base.specs.declared.point.What.{What}
use Rattle.mur_base.specs.declared.point.What.TheVariants.{Reserved, Unreached}
use Rattle.imap_types.specs.declared.reply.NoText.{NoText}
use Rattle.imap_types.specs.declared.reply.NoText.TheVariants.{BeingMoved, NotReached}
use Rattle.imap_types.specs.declared.reply.Reply.{Reply}
use Rattle.mur_model.specs.declared.session.Sess.{Sess}
use Rattle.mur_model.specs.declared.session.Turn.{Turn}
use Rattle.mur_model.specs.Act.{session_after}
use Rattle.mur_model.specs.Left.{replied}
use Rattle.imap_types.specs.Reply.{refused}
use Rattle.mur_model.specs.Select.{unselected}
use Rattle.mur_model.specs.declared.need.Awaited.{Awaited}
use Rattle.mur_model.specs.declared.need.Awaited.TheVariants.{Select}

-- why a command is refused so
unfoldable pub IsRelocation : What → Type 0
IsRelocation Reserved = ⊤
IsRelocation (Unreached node) = ⊤
IsRelocation what = ⊥

unfoldable pub why_moved : What → NoText
why_moved Reserved = BeingMoved
why_moved what = NotReached

unfoldable pub moved_turn : Awaited → NoText → Turn
moved_turn (Select name it) why = unselected it.user it.was_selected why
moved_turn awaited why = replied (refused why)

-- the session behind a refusal, and the reply that tells it
pub record Refused : Type 0 where
  pub session : Sess
  pub reply : Reply

abbrev pub goes_on : Sess → Turn → Refused
goes_on session turn = record { session = session_after session turn.session; reply = turn.reply }

abbrev pub relocated : Sess → Awaited → What → Refused
relocated session awaited what = goes_on session (moved_turn awaited (why_moved what))
