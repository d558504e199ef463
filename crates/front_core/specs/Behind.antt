-- What came of an answer, or of the master's OK, as the connection does it whose stage tells the command.
use Rattle.std.specs.Prelude.{⊤, ℕ, List}
use Rattle.asking_core.specs.declared.then.Then.{Then}
use Rattle.asking_core.specs.declared.then.Then.TheVariants as then
use Rattle.asking_core.specs.declared.waiting.Sent.{Sent}
use Rattle.imap_reply.specs.ReplyText.{reply_text}
use Rattle.imap_types.specs.declared.reply.Bye.TheVariants.{Lost}
use Rattle.imap_types.specs.declared.reply.Reply.{Reply}
use Rattle.link_msg.specs.declared.how.How.{How}
use Rattle.link_msg.specs.declared.how.How.TheVariants.{Behind}
use Rattle.mur_base.specs.declared.point.What.TheVariants.{Unreached as unreached}
use Rattle.mur_model.specs.declared.session.Sess.{Sess}
use Rattle.mur_model.specs.declared.setting.Setting.{Setting}
use Rattle.session_core.specs.Begin.{MayNeed}
use Rattle.session_core.specs.Relocated.{relocated}
use Rattle.front_core.specs.declared.connection.Connection.{Connection}
use Rattle.front_core.specs.declared.connection.Stage.{Stage}
use Rattle.front_core.specs.declared.connection.Stage.TheVariants.{Waits, Lists}
use Rattle.front_core.specs.Answered.{how_for, need_at, reads_on, refused_behind, sends_behind, unchanged}
use Rattle.front_core.specs.Taken.{Turned, Ways, list_refused, says_bye}

-- its command waits on, and a message goes out for it, if it may
abbrev pub sent_at : Setting → Ways → ℕ → Connection → Sent → Stage → Turned
sent_at setting ways conn connection sent (Waits tag it) = sends_behind setting ways conn connection tag it sent
sent_at setting ways conn connection sent stage = unchanged connection

-- it is refused
abbrev pub refused_at : Setting → Ways → ℕ → Connection → How → Reply → Stage → Turned
refused_at setting ways conn connection how reply (Waits tag it) = reads_on setting ways conn connection how (reply_text tag reply)
refused_at setting ways conn connection how reply stage = unchanged connection

-- it is refused, since this node isn't reached
abbrev pub unreached_at : Setting → Ways → ℕ → Connection → List ℕ → Stage → Turned
unreached_at setting ways conn connection node (Waits tag it) =
    refused_behind setting ways conn connection tag (relocated connection.session it.asking.awaited (unreached node)) node
unreached_at setting ways conn connection node stage = unchanged connection

-- so is a LIST that waits
abbrev pub list_refused_at : Setting → Ways → ℕ → Connection → Stage → Turned
list_refused_at setting ways conn connection (Lists tag it) = refused_behind setting ways conn connection tag (list_refused connection.session) ways.master
list_refused_at setting ways conn connection stage = unchanged connection

unfoldable pub does : Setting → Ways → ℕ → Connection → Then → Turned
does setting ways conn connection (then.Sends sent) = sent_at setting ways conn connection sent connection.stage
does setting ways conn connection (then.Needs need) = need_at setting ways conn connection Behind need connection.stage
does setting ways conn connection (then.Refused cause reply) = refused_at setting ways conn connection (how_for cause) reply connection.stage
does setting ways conn connection then.Lost = says_bye conn connection Lost
does setting ways conn connection then.Stays = unchanged connection

-- a home is asked by a session that has begun alone
unfoldable pub ThenFits : Sess → Then → Type 0
ThenFits session (then.Needs need) = MayNeed session need
ThenFits session what = ⊤
