-- NOOP, and IDLE whose line has come (RFC 9051, 6.1.2 and 6.3.13): they tell the news.
use Rattle.std.specs.Prelude.{ℕ, true, List, [], codes}
use Rattle.mail_message.specs.Boxes.{Content}
use Rattle.mail_message.specs.declared.message.Row.{Row}
use Rattle.mur_model.specs.declared.work.NewsFor.{NewsFor}
use Rattle.mur_model.specs.declared.work.NewsFor.TheVariants as news_for
use Rattle.imap_types.specs.declared.reply.Code.TheVariants.{None as no_code}
use Rattle.imap_types.specs.declared.reply.Verdict.TheVariants.{Ok as ok_reply}
use Rattle.mur_model.specs.declared.session.Turn.{Turn}
use Rattle.mur_model.specs.declared.view.View.{View}
use Rattle.mur_model.specs.Left.{Worked, kept}
use Rattle.mur_model.specs.News.{news}
use Rattle.mur_model.specs.Selected.{rows_of, with_news}

unfoldable pub news_name : NewsFor → List ℕ
news_name news_for.Noop = codes "NOOP"
news_name news_for.Idle = codes "IDLE"

-- what is told where a mailbox has these rows
abbrev pub news_told : View → NewsFor → List Row → Turn
news_told view why now = with_news view [] (news view.rows now true []) (ok_reply no_code (news_name why))

abbrev pub news_at : View → NewsFor → Content → Worked
news_at view why box = record { left = kept; turn = news_told view why (rows_of box) }
