-- CREATE (RFC 9051, 6.3.4) as a frontend has it: what it replies to the answer of the home.
use Rattle.std.specs.Prelude.{Option, None, Some, codes}
use Rattle.session_core.specs.declared.result.OpResult.{OpResult}
use Rattle.session_core.specs.declared.result.OpResult.TheVariants.{Done, Missing}
use Rattle.link_msg.specs.declared.outcome.Outcome.{Outcome}
use Rattle.link_msg.specs.declared.outcome.Outcome.TheVariants.{None as nothing, Exists, Limit as full}
use Rattle.imap_types.specs.declared.reply.NoText.TheVariants.{AlreadyExists, Limit}
use Rattle.imap_types.specs.declared.reply.Reply.{Reply}
use Rattle.imap_types.specs.Reply.{completed, refused}

unfoldable pub reply_to_created : Outcome → Option Reply
reply_to_created nothing = Some (completed (codes "CREATE"))
reply_to_created Exists = Some (refused AlreadyExists)
reply_to_created full = Some (refused Limit)
reply_to_created outcome = None

-- no reply is made of an answer that a CREATE can't have
unfoldable pub reply_to_create : OpResult → Option Reply
reply_to_create (Done outcome seen) = reply_to_created outcome
reply_to_create Missing = None
