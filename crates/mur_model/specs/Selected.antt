-- What a command of a selected session leaves of it (RFC 9051, 6.4).
use Rattle.std.specs.Prelude.{List, [], ◌∷◌, ◌++◌, map, Some}
use Rattle.mail_message.specs.Boxes.{Content, row_of}
use Rattle.mail_message.specs.declared.message.Row.{Row}
use Rattle.mur_model.specs.declared.news.Told.{Told}
use Rattle.imap_types.specs.declared.reply.Bye.TheVariants as bye
use Rattle.imap_types.specs.declared.reply.ReplyLine.{ReplyLine}
use Rattle.imap_types.specs.declared.reply.ReplyLine.TheVariants.{Bye}
use Rattle.imap_types.specs.declared.reply.Verdict.{Verdict}
use Rattle.imap_types.specs.declared.reply.Verdict.TheVariants.{Nothing}
use Rattle.mur_model.specs.declared.session.Sess.TheVariants.{Selected as selected, Ended}
use Rattle.mur_model.specs.declared.session.Turn.{Turn}
use Rattle.mur_model.specs.declared.view.View.{View}

-- what a mailbox tells of its messages
abbrev pub rows_of : Content → List Row
rows_of box = map row_of box.messages

-- a reply whose news stand behind its own lines and before the tagged line; the view is then the one that was told
abbrev pub with_news : View → List ReplyLine → Told → Verdict → Turn
with_news view lines told verdict = record {
  session = Some (selected (record view { rows = told.rows }));
  reply = record { lines = lines ++ told.lines; verdict = verdict };
}

-- the mailbox is gone, and the session ends (RFC 9051, 7.1.5)
abbrev pub gone : Turn
gone = record { session = Some Ended; reply = record { lines = Bye bye.Gone ∷ []; verdict = Nothing } }
