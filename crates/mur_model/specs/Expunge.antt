-- EXPUNGE and UID EXPUNGE (RFC 9051, 6.4.3 and 6.4.9): the messages with \Deleted go, of all or of those that are named, and are told.
use Rattle.std.specs.Prelude.{ℕ, true, if◌then◌else◌, List, [], Option, None, Some, codes}
use Rattle.mail_message.specs.Boxes.{Content}
use Rattle.mail_message.specs.declared.message.Row.{Row}
use Rattle.mail_message.specs.declared.set.SetPart.{SetPart}
use Rattle.mail_store.specs.Expunge.{expunged}
use Rattle.mur_model.specs.Needed.{Needed, at_mailbox, read_only}
use Rattle.mur_model.specs.declared.work.ViewWork.TheVariants as work
use Rattle.imap_types.specs.declared.reply.Code.TheVariants.{None as no_code}
use Rattle.imap_types.specs.declared.reply.Verdict.TheVariants.{Ok as ok_reply}
use Rattle.mur_model.specs.declared.session.Turn.{Turn}
use Rattle.mur_model.specs.declared.view.View.{View}
use Rattle.mur_model.specs.Left.{Worked, changed}
use Rattle.mur_model.specs.NamedRows.{named_uids}
use Rattle.mur_model.specs.News.{news}
use Rattle.mur_model.specs.Selected.{rows_of, with_news}

abbrev pub expunge_named : View → Option (List SetPart) → Needed
expunge_named view None = at_mailbox view (work.Expunge None)
expunge_named view (Some set) = at_mailbox view (work.Expunge (Some (named_uids true set view.rows)))

abbrev pub expunge : View → Option (List SetPart) → Needed
expunge view only = if view.is_writable then expunge_named view only else read_only

abbrev pub expunge_name : Option (List ℕ) → List ℕ
expunge_name None = codes "EXPUNGE"
expunge_name (Some uids) = codes "UID EXPUNGE"

-- what is told where a mailbox has these rows behind an EXPUNGE
abbrev pub expunge_told : View → Option (List ℕ) → List Row → Turn
expunge_told view only now = with_news view [] (news view.rows now true []) (ok_reply no_code (expunge_name only))

abbrev pub expunge_at : View → Option (List ℕ) → Content → Worked
expunge_at view only box = record { left = changed (expunged box only); turn = expunge_told view only (rows_of (expunged box only)) }
