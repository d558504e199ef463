-- STATUS (RFC 9051, 6.3.11) as a frontend has it: what it replies to the answer of the home.
use Rattle.std.specs.Prelude.{ℕ, List, Option, None, Some}
use Rattle.session_core.specs.declared.result.OpResult.{OpResult}
use Rattle.session_core.specs.declared.result.OpResult.TheVariants.{Done, Missing}
use Rattle.link_msg.specs.declared.outcome.Outcome.{Outcome}
use Rattle.link_msg.specs.declared.outcome.Outcome.TheVariants.{None as nothing}
use Rattle.mail_message.specs.declared.message.Snapshot.{Snapshot}
use Rattle.imap_types.specs.declared.command.StatusItem.{StatusItem}
use Rattle.imap_types.specs.declared.reply.NoText.TheVariants.{NonExistent}
use Rattle.imap_types.specs.declared.reply.Reply.{Reply}
use Rattle.imap_types.specs.Reply.{refused}
use Rattle.mur_model.specs.Status.{status_reply as reply_with_counts}

unfoldable pub reply_to_counted : List ℕ → List StatusItem → Outcome → Snapshot → Option Reply
reply_to_counted shown items nothing seen = Some (reply_with_counts shown items seen)
reply_to_counted shown items outcome seen = None

unfoldable pub reply_to_status : List ℕ → List StatusItem → OpResult → Option Reply
reply_to_status shown items (Done outcome seen) = reply_to_counted shown items outcome seen
reply_to_status shown items Missing = Some (refused NonExistent)
