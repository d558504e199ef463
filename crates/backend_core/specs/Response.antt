-- What a home answers, and when that step counts as its command's point.
use Rattle.std.specs.Prelude.{ℕ, List, []}
use Rattle.mail_message.specs.Boxes.{Content}
use Rattle.mail_message.specs.declared.message.Snapshot.{Snapshot}
use Rattle.link_msg.specs.declared.answer.AnswerBody.TheVariants.{Done, NotNow, Moved}
use Rattle.link_msg.specs.declared.counts.Counts.TheVariants.{Always, IfAnswered}
use Rattle.link_msg.specs.declared.outcome.Outcome.{Outcome}
use Rattle.backend_core.specs.declared.response.Response.{Response}

-- nothing is told of a mailbox
abbrev pub no_snapshot : Snapshot
no_snapshot = record { serial = 0; next = 0; size = 0; rows = [] }

-- of a mailbox UIDVALIDITY and UIDNEXT are told (RFC 9051, 2.3.1.1)
abbrev pub bare_snapshot : Content → Snapshot
bare_snapshot content = record { serial = content.serial; next = content.next; size = 0; rows = [] }

-- an operation on a mailbox's messages
abbrev pub done : Outcome → Snapshot → Response
done outcome snapshot = record { body = Done outcome snapshot; counts = Always }

-- the mailbox isn't here, or isn't served at present
abbrev pub not_now : Response
not_now = record { body = NotNow; counts = IfAnswered }

-- the mailbox is at this server
abbrev pub moved_to : List ℕ → Response
moved_to server = record { body = Moved server; counts = IfAnswered }
