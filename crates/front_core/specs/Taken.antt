-- A connection: what an input of its client makes of it, and what it lets out. One command at a time: inputs that come behind
-- a command which waits, for a server or for the master, wait with it (RFC 9051, 5.5).
use Rattle.std.specs.Prelude.{ℕ, ◌+◌, Bool, true, false, List, [], ◌∷◌, ◌++◌}
use Rattle.asking_core.specs.Begins.{Begun, first_sent}
use Rattle.asking_core.specs.declared.waiting.At.TheVariants.{Barrier}
use Rattle.asking_core.specs.declared.waiting.Sent.{Sent}
use Rattle.asking_core.specs.declared.waiting.Waiting.{Waiting}
use Rattle.ask_routes.specs.Barrier.{noop_line}
use Rattle.ask_routes.specs.declared.next.Why.TheVariants.{Missing}
use Rattle.feed_core.specs.Feed.{Recs}
use Rattle.imap_reply.specs.ByeLine.{bye_line}
use Rattle.imap_talk.specs.FaultBye.{bye_of}
use Rattle.imap_types.specs.declared.reply.Bye.{Bye}
use Rattle.imap_reply.specs.Continuation.{continuation_line}
use Rattle.imap_reply.specs.ReplyText.{reply_text}
use Rattle.imap_talk.specs.declared.inputs.Input.{Input}
use Rattle.imap_talk.specs.declared.inputs.Input.TheVariants.{GoesOn, Asks, Faults}
use Rattle.link_msg.specs.declared.how.How.{How}
use Rattle.link_msg.specs.declared.how.How.TheVariants.{Here, Unreached}
use Rattle.link_msg.specs.declared.out.Out.{Out}
use Rattle.link_msg.specs.declared.message.LinkMsg.TheVariants.{Line}
use Rattle.link_msg.specs.declared.out.Out.TheVariants.{Client, Close, Link, Told}
use Rattle.imap_types.specs.declared.command.Tag.{Tag}
use Rattle.imap_types.specs.declared.reply.BadText.TheVariants.{Syntax}
use Rattle.imap_types.specs.declared.reply.NoText.TheVariants.{Limit, NotReached}
use Rattle.imap_types.specs.declared.reply.Reply.{Reply}
use Rattle.imap_types.specs.declared.reply.Verdict.TheVariants.{Bad as bad_reply}
use Rattle.imap_types.specs.declared.request.Request.{Request}
use Rattle.imap_types.specs.declared.request.Request.TheVariants.{Command as a_command, Unknown as unknown, TooBig as too_big}
use Rattle.mur_base.specs.declared.point.AskId.{AskId}
use Rattle.mur_base.specs.declared.point.What.TheVariants.{Unreached as unreached}
use Rattle.mur_model.specs.declared.commands.list.Listing.{Listing}
use Rattle.mur_model.specs.declared.session.Sess.{Sess}
use Rattle.mur_model.specs.declared.setting.Setting.{Setting}
use Rattle.imap_types.specs.Reply.{reply_of, refused}
use Rattle.front_core.specs.declared.connection.Connection.{Connection}
use Rattle.front_core.specs.declared.connection.Stage.{Stage}
use Rattle.front_core.specs.declared.connection.Stage.TheVariants.{Reading, Waits, Lists, Ended}
use Rattle.mur_model.specs.declared.need.Asking.{Asking}
use Rattle.mur_model.specs.declared.need.Need.{Need}
use Rattle.mur_model.specs.declared.need.Need.TheVariants as needs
use Rattle.session_core.specs.Begin.{begin}
use Rattle.session_core.specs.Need.{Behind}
use Rattle.session_core.specs.Relocated.{Refused, relocated}
use Rattle.front_core.specs.Ups.{Ups, is_up}

-- by what a frontend decides whom it asks: what it was told of the master's table, the master, the server of a new mailbox without a name above it, and
-- the nodes to which its link is up
pub record Ways : Type 0 where
  pub recs : Recs
  pub master : List ℕ
  pub first : List ℕ
  pub ups : Ups

abbrev pub ways_by : Recs → List ℕ → List ℕ → Ups → Ways
ways_by recs master first ups = record { recs = recs; master = master; first = first; ups = ups }

-- a connection, and what it let out
pub record Turned : Type 0 where
  pub connection : Connection
  pub outs : List Out

-- a command whose client is told of it in the step in which it comes, which is its point
unfoldable pub told_now : How → ℕ → Connection → Sess → Tag → Reply → Turned
told_now how conn connection session tag reply = record {
  connection = record connection { session = session; answered = connection.answered + 1 };
  outs = Client conn (reply_text tag reply) ∷ Told (record { conn = conn; command = connection.answered + 1 }) how ∷ [];
}

-- it is answered
abbrev pub answers_now : ℕ → Connection → Sess → Tag → Reply → Turned
answers_now conn connection session tag reply = told_now Here conn connection session tag reply

-- it is refused, since the link to this node isn't up
abbrev pub refuses_now : ℕ → Connection → Tag → Refused → List ℕ → Turned
refuses_now conn connection tag refused node = told_now (Unreached node) conn connection refused.session tag refused.reply

-- the last answer of a connection, which then has ended; this step is its point
unfoldable pub answers_last : ℕ → Connection → Tag → Reply → Turned
answers_last conn connection tag reply = record {
  connection = record connection { stage = Ended; answered = connection.answered + 1 };
  outs = Client conn (reply_text tag reply) ∷ Told (record { conn = conn; command = connection.answered + 1 }) Here ∷ Close conn ∷ [];
}

-- a connection ends, as its client is told why (RFC 9051, 7.1.5)
abbrev pub says_bye : ℕ → Connection → Bye → Turned
says_bye conn connection bye = record { connection = record connection { stage = Ended }; outs = Client conn (bye_line bye) ∷ Close conn ∷ [] }

-- the number of the next command of a connection
abbrev pub next_of : ℕ → Connection → AskId
next_of conn connection = record { conn = conn; command = connection.answered + 1 }

-- a command that needs the home of a mailbox, before anything was sent for it
abbrev pub to_begin : List ℕ → Asking → Waiting
to_begin name asking = record { at = Barrier Missing; name = name; asking = asking }

-- a command waits, and a message goes out for it
abbrev pub waits_with : Connection → Tag → Waiting → Sent → Turned
waits_with connection tag it sent = record { connection = record connection { stage = Waits tag it }; outs = Link sent.to sent.message ∷ [] }

-- where the link to that node isn't up, nothing goes out, and the command is refused
abbrev pub begins_if : Bool → ℕ → Connection → Tag → Begun → Turned
begins_if true conn connection tag begun = waits_with connection tag begun.waiting begun.sent
begins_if false conn connection tag begun =
    refuses_now conn connection tag (relocated connection.session begun.waiting.asking.awaited (unreached begun.sent.to)) begun.sent.to

abbrev pub begins_with : Ways → ℕ → Connection → Tag → Begun → Turned
begins_with ways conn connection tag begun = begins_if (is_up ways.ups begun.sent.to) conn connection tag begun

-- it begins to wait: for an answer of the server of its mailbox, or for the master's OK
abbrev pub asks : Ways → ℕ → Connection → Tag → List ℕ → Asking → Turned
asks ways conn connection tag name asking = begins_with ways conn connection tag
    (first_sent ways.recs ways.master ways.first (next_of conn connection) connection.session (to_begin name asking))

-- a LIST waits for the master's OK to a NOOP: what the master told before may be on its way
abbrev pub lists_with : List ℕ → ℕ → Connection → Tag → Listing → Turned
lists_with master conn connection tag it = record {
  connection = record connection { stage = Lists tag it };
  outs = Link master (Line (noop_line (next_of conn connection))) ∷ [];
}

-- one that is refused leaves the session as it is
abbrev pub list_refused : Sess → Refused
list_refused session = record { session = session; reply = refused NotReached }

abbrev pub lists_if : Bool → List ℕ → ℕ → Connection → Tag → Listing → Turned
lists_if true master conn connection tag it = lists_with master conn connection tag it
lists_if false master conn connection tag it = refuses_now conn connection tag (list_refused connection.session) master

abbrev pub lists : Ways → ℕ → Connection → Tag → Listing → Turned
lists ways conn connection tag it = lists_if (is_up ways.ups ways.master) ways.master conn connection tag it

-- by what the session needs behind a command
unfoldable pub turned_by_need : Ways → ℕ → Connection → Tag → Need → Turned
turned_by_need ways conn connection tag (needs.Reply reply) = answers_now conn connection connection.session tag reply
turned_by_need ways conn connection tag (needs.Leave reply) = answers_last conn connection tag reply
turned_by_need ways conn connection tag (needs.Home name asking) = asks ways conn connection tag name asking
turned_by_need ways conn connection tag (needs.Names it) = lists ways conn connection tag it

abbrev pub begun_in : Ways → ℕ → Connection → Tag → Behind → Turned
begun_in ways conn connection tag behind = turned_by_need ways conn (record connection { session = behind.session }) tag behind.need

unfoldable pub request_in : Setting → Ways → ℕ → Connection → Request → Turned
request_in setting ways conn connection (a_command tag it) = begun_in ways conn connection tag (begin setting connection.session it)
request_in setting ways conn connection (unknown tag) = answers_now conn connection connection.session tag (reply_of (bad_reply Syntax))
request_in setting ways conn connection (too_big tag) = answers_now conn connection connection.session tag (refused Limit)

-- an input of a connection that is reading: a fault ends it, with a BYE (RFC 9051, 7.1.5)
unfoldable pub input_in : Setting → Ways → ℕ → Connection → Input → Turned
input_in setting ways conn connection (Asks request) = request_in setting ways conn connection request
input_in setting ways conn connection (GoesOn why) = record { connection = connection; outs = Client conn (continuation_line why) ∷ [] }
input_in setting ways conn connection (Faults fault) = says_bye conn connection (bye_of fault)

-- an input waits behind a command that waits
abbrev pub waits_behind : Connection → Input → Turned
waits_behind connection input = record { connection = record connection { waiting = connection.waiting ++ input ∷ [] }; outs = [] }

-- an input that comes, by what the connection is at
unfoldable pub comes_at : Setting → Ways → ℕ → Connection → Input → Stage → Turned
comes_at setting ways conn connection input Reading = input_in setting ways conn connection input
comes_at setting ways conn connection input (Waits tag it) = waits_behind connection input
comes_at setting ways conn connection input (Lists tag it) = waits_behind connection input
comes_at setting ways conn connection input Ended = record { connection = connection; outs = [] }

unfoldable pub input_comes : Setting → Ways → ℕ → Connection → Input → Turned
input_comes setting ways conn connection input = comes_at setting ways conn connection input connection.stage

-- what was let out before stands in front
abbrev pub behind_outs : List Out → Turned → Turned
behind_outs outs turned = record turned { outs = outs ++ turned.outs }

unfoldable pub inputs_come : Setting → Ways → ℕ → Connection → List Input → Turned
inputs_come setting ways conn connection [] = record { connection = connection; outs = [] }
inputs_come setting ways conn connection (input ∷ inputs) =
    let turned = input_comes setting ways conn connection input in
    behind_outs turned.outs (inputs_come setting ways conn turned.connection inputs)
