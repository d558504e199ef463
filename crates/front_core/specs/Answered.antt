-- What comes of an answer for the command that waits for it, of the master's OK, and of the end of the link to the node for which it waits: it waits on;
-- or its client is given its reply, and the inputs that waited come; or whether it was carried out can't be known, and its connection ends.
use Rattle.std.specs.Prelude.{ℕ, ◌+◌, Bool, true, false, ◌==◌, List, [], ◌∷◌, ◌++◌}
use Rattle.asking_core.specs.Answered.{WentOn, answered}
use Rattle.asking_core.specs.Cleared.{cleared}
use Rattle.asking_core.specs.declared.then.Then.{Then}
use Rattle.asking_core.specs.declared.then.Then.TheVariants as then
use Rattle.asking_core.specs.declared.waiting.At.{At}
use Rattle.asking_core.specs.declared.waiting.At.TheVariants.{Home, Barrier}
use Rattle.asking_core.specs.declared.waiting.Sent.{Sent}
use Rattle.asking_core.specs.declared.waiting.Waiting.{Waiting}
use Rattle.feed_core.specs.Listing.{mailbox_names}
use Rattle.imap_reply.specs.ReplyText.{reply_text}
use Rattle.imap_types.specs.declared.command.Tag.{Tag}
use Rattle.imap_types.specs.declared.reply.Bye.TheVariants.{Lost}
use Rattle.link_msg.specs.declared.answer.BackAnswer.{BackAnswer}
use Rattle.link_msg.specs.declared.how.How.{How}
use Rattle.link_msg.specs.declared.how.How.TheVariants.{Behind, Reserved, Unreached}
use Rattle.link_msg.specs.declared.out.Out.{Out}
use Rattle.link_msg.specs.declared.out.Out.TheVariants.{Client, Close, Told}
use Rattle.mur_base.specs.declared.point.AskId.{AskId}
use Rattle.mur_base.specs.declared.point.What.{What}
use Rattle.mur_base.specs.declared.point.What.TheVariants.{Unreached as unreached}
use Rattle.mur_model.specs.Listing.{list_reply}
use Rattle.mur_model.specs.declared.commands.list.Listing.{Listing}
use Rattle.mur_model.specs.declared.need.Need.{Need}
use Rattle.mur_model.specs.declared.need.Need.TheVariants as needs
use Rattle.mur_model.specs.declared.setting.Setting.{Setting}
use Rattle.front_core.specs.declared.connection.Connection.{Connection}
use Rattle.front_core.specs.declared.connection.Stage.{Stage}
use Rattle.front_core.specs.declared.connection.Stage.TheVariants.{Reading, Waits, Lists, Ended}
use Rattle.session_core.specs.Relocated.{Refused, relocated}
use Rattle.front_core.specs.Taken.{Turned, Ways, asks, behind_outs, inputs_come, list_refused, lists, next_of, says_bye, waits_with}
use Rattle.front_core.specs.Ups.{is_up}

-- the connection behind the reply of its command, before the inputs that waited
abbrev pub reading_again : Connection → Connection
reading_again connection = record connection { waiting = []; stage = Reading; answered = connection.answered + 1 }

-- the client is given the reply of the command that waited, and so is told of it
abbrev pub told_so : ℕ → Connection → How → List ℕ → List Out
told_so conn connection how text = Client conn text ∷ Told (next_of conn connection) how ∷ []

-- the last reply of a connection, which then has ended
abbrev pub ends_with : ℕ → Connection → How → List ℕ → Turned
ends_with conn connection how text = record {
  connection = record connection { stage = Ended; answered = connection.answered + 1 };
  outs = told_so conn connection how text ++ Close conn ∷ [];
}

abbrev pub unchanged : Connection → Turned
unchanged connection = record { connection = connection; outs = [] }

-- the client is given the reply of its command, and the inputs that waited come
abbrev pub reads_on : Setting → Ways → ℕ → Connection → How → List ℕ → Turned
reads_on setting ways conn connection how text =
    behind_outs (told_so conn connection how text) (inputs_come setting ways conn (reading_again connection) connection.waiting)

-- it is refused, since the link to this node isn't up
abbrev pub refused_behind : Setting → Ways → ℕ → Connection → Tag → Refused → List ℕ → Turned
refused_behind setting ways conn connection tag refused node =
    reads_on setting ways conn (record connection { session = refused.session }) (Unreached node) (reply_text tag refused.reply)

-- a message goes out for the command, which waits on; where the link to its node isn't up, it doesn't, and the command is refused
abbrev pub sends_if : Bool → Setting → Ways → ℕ → Connection → Tag → Waiting → Sent → Turned
sends_if true setting ways conn connection tag it sent = waits_with connection tag it sent
sends_if false setting ways conn connection tag it sent =
    refused_behind setting ways conn connection tag (relocated connection.session it.asking.awaited (unreached sent.to)) sent.to

abbrev pub sends_behind : Setting → Ways → ℕ → Connection → Tag → Waiting → Sent → Turned
sends_behind setting ways conn connection tag it sent = sends_if (is_up ways.ups sent.to) setting ways conn connection tag it sent

-- the inputs that wait come behind what was let out
abbrev pub waiting_come : Setting → Ways → ℕ → Turned → Turned
waiting_come setting ways conn turned =
    behind_outs turned.outs (inputs_come setting ways conn (record turned.connection { waiting = [] }) turned.connection.waiting)

-- by what its session needs then: where it has ended nothing follows its reply (RFC 9051, 7.1.5)
abbrev pub need_behind : Setting → Ways → ℕ → Connection → Tag → How → Need → Turned
need_behind setting ways conn connection tag how (needs.Reply reply) = reads_on setting ways conn connection how (reply_text tag reply)
need_behind setting ways conn connection tag how (needs.Leave reply) = ends_with conn connection how (reply_text tag reply)
need_behind setting ways conn connection tag how (needs.Home name asking) =
    waiting_come setting ways conn (asks ways conn (record connection { stage = Reading }) tag name asking)
need_behind setting ways conn connection tag how (needs.Names it) =
    waiting_come setting ways conn (lists ways conn (record connection { stage = Reading }) tag it)

-- the same of the command that the connection's stage tells
abbrev pub need_at : Setting → Ways → ℕ → Connection → How → Need → Stage → Turned
need_at setting ways conn connection how need (Waits tag it) = need_behind setting ways conn connection tag how need
need_at setting ways conn connection how need stage = unchanged connection

-- how its client is told of it, where it is refused for this cause
abbrev pub how_for : What → How
how_for (unreached node) = Unreached node
how_for cause = Reserved

-- by what came of it
abbrev pub by_then : Setting → Ways → ℕ → Connection → Tag → Waiting → Then → Turned
by_then setting ways conn connection tag it (then.Sends sent) = sends_behind setting ways conn connection tag it sent
by_then setting ways conn connection tag it (then.Needs need) = need_behind setting ways conn connection tag Behind need
by_then setting ways conn connection tag it (then.Refused cause reply) = reads_on setting ways conn connection (how_for cause) (reply_text tag reply)
by_then setting ways conn connection tag it then.Lost = says_bye conn connection Lost
by_then setting ways conn connection tag it then.Stays = unchanged connection

abbrev pub goes_on_by : Setting → Ways → ℕ → Connection → Tag → WentOn → Turned
goes_on_by setting ways conn connection tag next =
    by_then setting ways conn (record connection { session = next.session }) tag next.waiting next.then

-- ---- an answer

-- one to another command than the one that waits changes nothing
unfoldable pub answer_by : Setting → Ways → ℕ → Connection → BackAnswer → Bool → Stage → Turned
answer_by setting ways conn connection answer true (Waits tag it) =
    goes_on_by setting ways conn connection tag (answered ways.master (next_of conn connection) connection.session it answer.body)
answer_by setting ways conn connection answer fits stage = unchanged connection

unfoldable pub answer_comes : Setting → Ways → ℕ → Connection → BackAnswer → Turned
answer_comes setting ways conn connection answer =
    answer_by setting ways conn connection answer ((answer.id).command == connection.answered + 1) connection.stage

-- ---- the master's OK to a NOOP

-- it counts for the command that waits for it
abbrev pub clears_at : Setting → Ways → ℕ → Connection → Tag → Waiting → At → Turned
clears_at setting ways conn connection tag it (Home server) = unchanged connection
clears_at setting ways conn connection tag it (Barrier why) = goes_on_by setting ways conn connection tag
    (cleared ways.recs ways.master ways.first (next_of conn connection) connection.session it why)

-- a LIST is answered from the records of then
abbrev pub lists_at : Setting → Ways → ℕ → Connection → Tag → Listing → Turned
lists_at setting ways conn connection tag it =
    reads_on setting ways conn connection Behind (reply_text tag (list_reply it (mailbox_names ways.recs)))

-- the same of the LIST that the connection's stage tells
unfoldable pub listed_by : Setting → Ways → ℕ → Connection → Stage → Turned
listed_by setting ways conn connection (Lists tag it) = lists_at setting ways conn connection tag it
listed_by setting ways conn connection stage = unchanged connection

unfoldable pub ok_by : Setting → Ways → ℕ → Connection → Bool → Stage → Turned
ok_by setting ways conn connection true (Waits tag it) = clears_at setting ways conn connection tag it it.at
ok_by setting ways conn connection true (Lists tag it) = lists_at setting ways conn connection tag it
ok_by setting ways conn connection fits stage = unchanged connection

unfoldable pub ok_comes : Setting → Ways → ℕ → Connection → AskId → Turned
ok_comes setting ways conn connection id = ok_by setting ways conn connection (id.command == connection.answered + 1) connection.stage

-- ---- the end of the link to the node for which the command waits

-- a server that it asked may have carried it out; the master's OK won't come
abbrev pub ends_at : Setting → Ways → ℕ → Connection → Tag → Waiting → At → Turned
ends_at setting ways conn connection tag it (Home server) = says_bye conn connection Lost
ends_at setting ways conn connection tag it (Barrier why) =
    refused_behind setting ways conn connection tag (relocated connection.session it.asking.awaited (unreached ways.master)) ways.master

unfoldable pub end_by : Setting → Ways → ℕ → Connection → Stage → Turned
end_by setting ways conn connection (Waits tag it) = ends_at setting ways conn connection tag it it.at
end_by setting ways conn connection (Lists tag it) = refused_behind setting ways conn connection tag (list_refused connection.session) ways.master
end_by setting ways conn connection stage = unchanged connection

abbrev pub end_comes : Setting → Ways → ℕ → Connection → Turned
end_comes setting ways conn connection = end_by setting ways conn connection connection.stage
