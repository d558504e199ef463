-- DELETE (RFC 9051, 6.3.5) as a frontend has it: what it replies to the answer of the home.
use Rattle.std.specs.Prelude.{Option, None, Some, codes}
use Rattle.session_core.specs.declared.result.OpResult.{OpResult}
use Rattle.session_core.specs.declared.result.OpResult.TheVariants.{Done, Missing}
use Rattle.link_msg.specs.declared.outcome.Outcome.{Outcome}
use Rattle.link_msg.specs.declared.outcome.Outcome.TheVariants.{None as nothing}
use Rattle.imap_types.specs.declared.reply.NoText.TheVariants.{NonExistent}
use Rattle.imap_types.specs.declared.reply.Reply.{Reply}
use Rattle.imap_types.specs.Reply.{completed, refused}

unfoldable pub reply_to_deleted : Outcome → Option Reply
reply_to_deleted nothing = Some (completed (codes "DELETE"))
reply_to_deleted outcome = None

-- no reply is made of an answer that a DELETE can't have
unfoldable pub reply_to_delete : OpResult → Option Reply
reply_to_delete (Done outcome seen) = reply_to_deleted outcome
reply_to_delete Missing = Some (refused NonExistent)
