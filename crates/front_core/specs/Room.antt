-- How many commands of a connection were answered, or will be: what keeps its count in 64 bits.
use Rattle.std.specs.Prelude.{◌≡◌, ℕ, ◌+◌, ◌<◌, ◌≤◌, ◌^◌, ⊤, length, Some}
use Rattle.std.specs.Option.{IfSome}
use Rattle.ask_routes.specs.Barrier.{barrier_answered}
use Rattle.link_msg.specs.declared.message.LinkMsg.{LinkMsg}
use Rattle.link_msg.specs.declared.message.LinkMsg.TheVariants.{End, Answer, Line}
use Rattle.mur_base.specs.declared.point.AskId.{AskId}
use Rattle.front_core.specs.declared.connection.Connection.{Connection}
use Rattle.front_core.specs.declared.front.Front.{Front}
use Rattle.front_core.specs.Front.{connection_at, is_asked}

-- those that were answered, the one that waits for a home, and one for each input behind it
abbrev pub commands_of : Connection → ℕ
commands_of connection = connection.answered + (is_asked connection.stage + length connection.waiting)

-- no connection has more of them than so many
abbrev pub HasCommands : Front → ℕ → Type 0
HasCommands front most = (conn : ℕ) (connection : Connection) → connection_at front conn ≡ Some connection → commands_of connection ≤ most

-- the connection may count so many more
abbrev pub HasRoomAt : Front → ℕ → ℕ → Type 0
HasRoomAt front conn more = IfSome (connection_at front conn) (λ connection. commands_of connection + more < 2 ^ 64)

-- each connection may count those that it has
abbrev pub HasRooms : Front → Type 0
HasRooms front = (conn : ℕ) → HasRoomAt front conn 0

-- the connection of an answer, or of the master's OK to a NOOP, may count those that it has; where a link ends, each may; another message counts none
unfoldable pub HasRoomFor : Front → LinkMsg → Type 0
HasRoomFor front (Answer answer) = HasRoomAt front (answer.id).conn 0
HasRoomFor front (Line bytes) = IfSome (barrier_answered bytes) (λ (id : AskId). HasRoomAt front id.conn 0)
HasRoomFor front End = HasRooms front
HasRoomFor front message = ⊤
