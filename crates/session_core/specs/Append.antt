-- APPEND (RFC 9051, 6.3.12) as a frontend has it: what it replies to the answer of the home.
use Rattle.std.specs.Prelude.{ℕ, List, [], ◌∷◌, Option, None, Some}
use Rattle.session_core.specs.declared.result.OpResult.{OpResult}
use Rattle.session_core.specs.declared.result.OpResult.TheVariants.{Done, Missing}
use Rattle.link_msg.specs.declared.outcome.Outcome.{Outcome}
use Rattle.link_msg.specs.declared.outcome.Outcome.TheVariants.{Uids, Limit as full}
use Rattle.mail_message.specs.declared.message.Snapshot.{Snapshot}
use Rattle.imap_types.specs.declared.reply.NoText.TheVariants.{TryCreate, Limit}
use Rattle.imap_types.specs.declared.reply.Reply.{Reply}
use Rattle.mur_model.specs.Append.{append_reply as reply_with_uid}
use Rattle.imap_types.specs.Reply.{refused}

-- one message got one UID
unfoldable pub reply_to_uids : ℕ → List ℕ → Option Reply
reply_to_uids serial [] = None
reply_to_uids serial (uid ∷ []) = Some (reply_with_uid serial uid)
reply_to_uids serial (uid ∷ other ∷ uids) = None

unfoldable pub reply_to_appended : Outcome → Snapshot → Option Reply
reply_to_appended (Uids uids) seen = reply_to_uids seen.serial uids
reply_to_appended full seen = Some (refused Limit)
reply_to_appended outcome seen = None

unfoldable pub reply_to_append : OpResult → Option Reply
reply_to_append (Done outcome seen) = reply_to_appended outcome seen
reply_to_append Missing = Some (refused TryCreate)
