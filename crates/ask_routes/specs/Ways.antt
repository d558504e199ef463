-- Whom a frontend asks for a command, by the records of its replica, and when it asks the master first. The replica may be behind the master's table, and
-- the master's OK to a NOOP comes behind all that it told before (RFC 3656, 4.11): so what is decided behind the OK is not decided too early.
use Rattle.std.specs.Prelude.{ℕ, List, Option, None, Some}
use Rattle.feed_core.specs.declared.rec.Rec.{Rec}
use Rattle.feed_core.specs.declared.rec.Rec.TheVariants.{Active, Reserved}
use Rattle.feed_core.specs.Feed.{Recs, rec_at}
use Rattle.feed_core.specs.Routes.{home_for, server_at}
use Rattle.imap_types.specs.declared.op.Op.{Op}
use Rattle.imap_types.specs.declared.op.Op.TheVariants as op
use Rattle.link_msg.specs.declared.answer.AnswerBody.{AnswerBody}
use Rattle.link_msg.specs.declared.answer.AnswerBody.TheVariants as answer
use Rattle.ask_routes.specs.declared.ask_for.AskFor.{AskFor}
use Rattle.ask_routes.specs.declared.ask_for.AskFor.TheVariants as about
use Rattle.ask_routes.specs.declared.next.Next.{Next}
use Rattle.ask_routes.specs.declared.next.Next.TheVariants as next
use Rattle.ask_routes.specs.declared.next.Why.{Why}
use Rattle.ask_routes.specs.declared.next.Why.TheVariants as why

-- what an operation is about that is asked of the home of a mailbox
abbrev pub ask_for : List ℕ → Op → AskFor
ask_for name op.Create = about.Create name
ask_for name it = about.Mailbox name

-- ---- before anything

-- the server of the name's record is asked; without one the master is, since the record may be on its way
abbrev pub mailbox_first : Option (List ℕ) → Next
mailbox_first None = next.Barrier why.Missing
mailbox_first (Some server) = next.Ask server

-- the server of the nearest name above is asked, or the first one
abbrev pub create_first : Recs → List ℕ → List ℕ → Next
create_first recs first name = next.Ask (home_for recs first name)

abbrev pub first_step : Recs → List ℕ → AskFor → Next
first_step recs first (about.Mailbox name) = mailbox_first (server_at recs name)
first_step recs first (about.Create name) = create_first recs first name

-- ---- behind an answer of the home: it can't serve the mailbox at present, or knows that it has moved; any other answer ends the asking

abbrev pub behind_answer : AnswerBody → Option Next
behind_answer answer.NotNow = Some (next.Barrier why.NotNow)
behind_answer (answer.Moved server) = Some (next.Ask server)
behind_answer it = None

-- ---- behind the OK of the barrier, by the record that the name has then

-- a name that is reserved is being made, moved or deleted: its server is asked, unless a home couldn't serve it
abbrev pub behind_reserved : List ℕ → Why → Next
behind_reserved server why.NotNow = next.Refused
behind_reserved server it = next.Ask server

abbrev pub behind_record : Why → Rec → Next
behind_record it (Active place acl) = next.Ask place.server
behind_record it (Reserved place acl) = behind_reserved place.server it

abbrev pub mailbox_behind : Why → Option Rec → Next
mailbox_behind it None = next.Missing
mailbox_behind it (Some found) = behind_record it found

-- without a record CREATE is asked anew
abbrev pub create_behind : Recs → List ℕ → List ℕ → Why → Option Rec → Next
create_behind recs first name it None = create_first recs first name
create_behind recs first name it (Some found) = behind_record it found

abbrev pub behind_ok : Recs → List ℕ → AskFor → Why → Next
behind_ok recs first (about.Mailbox name) it = mailbox_behind it (rec_at recs name)
behind_ok recs first (about.Create name) it = create_behind recs first name it (rec_at recs name)
