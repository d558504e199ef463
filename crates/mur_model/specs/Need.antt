-- What a session needs of its frontend: a reply is given, and with it the session goes on or has ended (RFC 9051, 3.4); a home is asked; or the names of all mailboxes are.
use Rattle.std.specs.Prelude.{Option, None, Some}
use Rattle.imap_types.specs.declared.reply.Reply.{Reply as ReplyOf}
use Rattle.imap_types.specs.Reply.{reply_of}
use Rattle.mur_model.specs.declared.need.Begun.{Begun}
use Rattle.mur_model.specs.declared.need.Need.TheVariants.{Reply, Leave, Home, Names as names}
use Rattle.mur_model.specs.declared.session.Sess.{Sess}
use Rattle.mur_model.specs.declared.session.Sess.TheVariants.{Ended}
use Rattle.mur_model.specs.Asking.{asked_for}
use Rattle.mur_model.specs.Needed.{Needed, Refusal, Turned, Mailbox, Names}

-- a reply, and the session behind it where that is another
unfoldable pub told_with : ReplyOf → Option Sess → Begun
told_with reply (Some Ended) = record { session = Some Ended; need = Leave reply }
told_with reply later = record { session = later; need = Reply reply }

-- by what the command needs of the store
unfoldable pub begun_of : Needed → Begun
begun_of (Refusal verdict) = record { session = None; need = Reply (reply_of verdict) }
begun_of (Turned turn) = told_with turn.reply turn.session
begun_of (Mailbox name work) = record { session = None; need = Home name (asked_for name work) }
begun_of (Names it) = record { session = None; need = names it }
