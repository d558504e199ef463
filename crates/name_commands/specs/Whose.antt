-- Whose an ask, a line, a flow, a message or an output is. Which commands are meant a test of their numbers tells: it may be one command, or all of a
-- connection.
use Rattle.std.specs.Prelude.{ℕ, Bool, false, ◌&&◌, nat_eq, if◌then◌else◌, Option, None, Some}
use Rattle.link_msg.specs.declared.message.LinkMsg.{LinkMsg}
use Rattle.link_msg.specs.declared.message.LinkMsg.TheVariants.{Up, End, Line, Ask, Answer}
use Rattle.link_msg.specs.declared.out.Out.{Out}
use Rattle.link_msg.specs.declared.out.Out.TheVariants.{Client, Close, Link, Mark, Told as tell}
use Rattle.mupdate_codec.specs.Asks.{ask_id_of, line_ask}
use Rattle.mur_base.specs.declared.point.AskId.{AskId}
use Rattle.name_flows.specs.declared.ask.NameAsk.{NameAsk}
use Rattle.name_flows.specs.declared.ask.Told.{Told}
use Rattle.name_flows.specs.declared.flow.Flow.{Flow}
use Rattle.name_flows.specs.declared.sent.SentLine.{SentLine}

abbrev pub Whose : Type 0
Whose = AskId → Bool

-- this command
abbrev pub is_command : AskId → Whose
is_command id other = nat_eq other.conn id.conn && nat_eq other.command id.command

-- the commands of this connection
abbrev pub is_of_connection : ℕ → Whose
is_of_connection conn id = nat_eq id.conn conn

abbrev pub is_own : Whose → Option AskId → Bool
is_own whose None = false
is_own whose (Some id) = whose id

abbrev pub is_own_ask : Whose → NameAsk → Bool
is_own_ask whose ask = whose ask.id

-- a line is of the command that its tag tells
abbrev pub is_own_line : Whose → SentLine → Bool
is_own_line whose line = is_own whose (ask_id_of line.tag)

abbrev pub is_own_told : Whose → Told → Bool
is_own_told whose told = whose (told.answer).id

-- a flow, if it is of one of them
abbrev pub own_flow : Whose → Option Flow → Option Flow
own_flow whose None = None
own_flow whose (Some flow) = if whose flow.ask then Some flow else None

-- the command that a message is about
abbrev pub its_command : LinkMsg → Option AskId
its_command Up = None
its_command End = None
its_command (Line bytes) = line_ask bytes
its_command (Ask ask) = Some ask.id
its_command (Answer answer) = Some answer.id

abbrev pub is_own_message : Whose → LinkMsg → Bool
is_own_message whose message = is_own whose (its_command message)

-- a frontend asks for it
abbrev pub asks_for : Whose → LinkMsg → Bool
asks_for whose (Ask ask) = whose ask.id
asks_for whose message = false

-- an output is a message about it, or says of it that a step counts for it or that its client was told
abbrev pub is_own_out : Whose → Out → Bool
is_own_out whose (Client conn bytes) = false
is_own_out whose (Close conn) = false
is_own_out whose (Link node message) = is_own_message whose message
is_own_out whose (Mark id counts) = whose id
is_own_out whose (tell id how) = whose id
