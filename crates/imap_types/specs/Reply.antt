-- Replies that have a tagged line alone (RFC 9051, 7.1).
use Rattle.std.specs.Prelude.{ℕ, List, []}
use Rattle.imap_types.specs.declared.reply.Code.TheVariants.{None as no_code}
use Rattle.imap_types.specs.declared.reply.NoText.{NoText}
use Rattle.imap_types.specs.declared.reply.Reply.{Reply}
use Rattle.imap_types.specs.declared.reply.Verdict.{Verdict}
use Rattle.imap_types.specs.declared.reply.Verdict.TheVariants.{Ok as ok_reply, No as no_reply}

abbrev pub reply_of : Verdict → Reply
reply_of verdict = record { lines = []; verdict = verdict }

abbrev pub completed : List ℕ → Reply
completed name = reply_of (ok_reply no_code name)

abbrev pub refused : NoText → Reply
refused why = reply_of (no_reply why)
