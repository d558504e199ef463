-- A frontend: what it does with what comes from clients and on links. Calls on a connection that isn't there change nothing.
use Rattle.std.specs.Prelude.{◌≡◌, ℕ, nat_eq, Bool, true, false, List, [], ◌∷◌, ◌++◌, Option, None, Some}
use Rattle.std.specs.Map.{keys_of}
use Rattle.std.specs.Ordering.{nat_cmp}
use Rattle.std.specs.Cmp.Lexicographic.{pointwise}
use Rattle.feed_core.specs.Feed.{empty_replica}
use Rattle.feed_core.specs.Stream.{update_line, heard}
use Rattle.ask_routes.specs.Barrier.{barrier_answered}
use Rattle.imap_reply.specs.Greeting.{greeting}
use Rattle.link_msg.specs.declared.answer.BackAnswer.{BackAnswer}
use Rattle.link_msg.specs.declared.message.LinkMsg.{LinkMsg}
use Rattle.link_msg.specs.declared.message.LinkMsg.TheVariants.{Up, End, Line, Answer}
use Rattle.link_msg.specs.declared.out.Out.{Out}
use Rattle.link_msg.specs.declared.out.Out.TheVariants.{Client, Link}
use Rattle.mur_base.specs.declared.point.AskId.{AskId}
use Rattle.mur_base.specs.Map.{value_at, with_entry, with_value}
use Rattle.mur_model.specs.declared.setting.Setting.{Setting}
use Rattle.front_core.specs.declared.connection.Connection.{Connection}
use Rattle.front_core.specs.declared.connection.Stage.{Stage}
use Rattle.front_core.specs.declared.connection.Stage.TheVariants.{Reading, Waits, Lists, Ended}
use Rattle.front_core.specs.declared.front.Front.{Front}
use Rattle.front_core.specs.AskOrder.{in_ask_order}
use Rattle.front_core.specs.Answered.{answer_comes, end_comes, ok_comes}
use Rattle.front_core.specs.Ended.{ended, released, with_released}
use Rattle.front_core.specs.Reading.{inputs_of_more, read_more}
use Rattle.front_core.specs.Slots.{new_connection}
use Rattle.front_core.specs.Stages.{awaits, has_asked}
use Rattle.front_core.specs.Taken.{Turned, Ways, inputs_come}
use Rattle.front_core.specs.Ups.{coming_up, going_down}

-- a frontend without a connection, and with no link up
unfoldable pub new_front : List ℕ → List ℕ → List ℕ → Setting → Front
new_front me first master setting =
    record { me = me; first = first; master = master; replica = empty_replica; ups = []; setting = setting; connections = [] }

-- by what it decides whom it asks
abbrev pub ways_of : Front → Ways
ways_of front = record { recs = front.replica.records; master = front.master; first = front.first; ups = front.ups }

-- a frontend, and what it let out
pub record Stepped : Type 0 where
  pub front : Front
  pub outs : List Out

abbrev pub still : Front → Stepped
still front = record { front = front; outs = [] }

abbrev pub connection_at : Front → ℕ → Option Connection
connection_at front conn = value_at nat_cmp front.connections conn

-- a client that connects is given the greeting (RFC 9051, 7.1.1)
unfoldable pub connect_at : Front → ℕ → Option Connection → Stepped
connect_at front conn (Some there) = still front
connect_at front conn None = record {
  front = record front { connections = with_entry nat_cmp front.connections conn new_connection };
  outs = Client conn greeting ∷ [];
}

unfoldable pub connect : Front → ℕ → Stepped
connect front conn = connect_at front conn (connection_at front conn)

-- the frontend with what became of one connection: where it has ended, what it held is let go
abbrev pub with_turned : Front → ℕ → Turned → Stepped
with_turned front conn turned = record {
  front = record front { connections = with_value nat_cmp front.connections conn (released turned.connection) };
  outs = turned.outs;
}

-- the connection with bytes more in its reader
abbrev pub having_read : Setting → Connection → List ℕ → Connection
having_read setting connection bytes = record connection { reader = read_more setting connection.reader bytes }

-- what the inputs that end in more bytes make of a connection: where it has ended, what it held is let go
abbrev pub bytes_taken : Setting → Ways → ℕ → Connection → List ℕ → Turned
bytes_taken setting ways conn connection bytes =
    with_released (inputs_come setting ways conn (having_read setting connection bytes) (inputs_of_more setting connection.reader bytes))

-- what bytes make of a connection, by whether it has ended: then they are dropped
unfoldable pub bytes_at : Setting → Ways → ℕ → Connection → List ℕ → Bool → Turned
bytes_at setting ways conn connection bytes true = record { connection = connection; outs = [] }
bytes_at setting ways conn connection bytes false = bytes_taken setting ways conn connection bytes

-- bytes of a connection that has ended are dropped, and so are those behind an input that ends it
unfoldable pub bytes_by : Front → ℕ → List ℕ → Connection → Stage → Stepped
bytes_by front conn bytes connection Ended = still front
bytes_by front conn bytes connection Reading = with_turned front conn
    (inputs_come front.setting (ways_of front) conn (having_read front.setting connection bytes) (inputs_of_more front.setting connection.reader bytes))
bytes_by front conn bytes connection (Waits tag it) = with_turned front conn
    (inputs_come front.setting (ways_of front) conn (having_read front.setting connection bytes) (inputs_of_more front.setting connection.reader bytes))
bytes_by front conn bytes connection (Lists tag it) = with_turned front conn
    (inputs_come front.setting (ways_of front) conn (having_read front.setting connection bytes) (inputs_of_more front.setting connection.reader bytes))

unfoldable pub front_bytes_at : Front → ℕ → List ℕ → Option Connection → Stepped
front_bytes_at front conn bytes None = still front
front_bytes_at front conn bytes (Some connection) = bytes_by front conn bytes connection connection.stage

unfoldable pub bytes_in : Front → ℕ → List ℕ → Stepped
bytes_in front conn bytes = front_bytes_at front conn bytes (connection_at front conn)

-- the client of a connection closes it
abbrev pub hung_up : Connection → Connection
hung_up connection = ended connection.answered

unfoldable pub front_hang_at : Front → ℕ → Option Connection → Front
front_hang_at front conn None = front
front_hang_at front conn (Some connection) = record front { connections = with_value nat_cmp front.connections conn (hung_up connection) }

unfoldable pub hang : Front → ℕ → Front
hang front conn = front_hang_at front conn (connection_at front conn)

unfoldable pub answer_at : Front → BackAnswer → Option Connection → Stepped
answer_at front answer None = still front
answer_at front answer (Some connection) =
    with_turned front (answer.id).conn (answer_comes front.setting (ways_of front) (answer.id).conn connection answer)

-- a connection waits for the answer of this node
unfoldable pub waits_for : Option Connection → List ℕ → Bool
waits_for None node = false
waits_for (Some connection) node = has_asked connection.stage node

-- an answer counts only from the node that was asked
unfoldable pub answer_from : Bool → Front → BackAnswer → Stepped
answer_from true front answer = answer_at front answer (connection_at front (answer.id).conn)
answer_from false front answer = still front

-- ---- links come up and end

abbrev pub with_up : Front → List ℕ → Front
with_up front node = record front { ups = coming_up front.ups node }

abbrev pub without_up : Front → List ℕ → Front
without_up front node = record front { ups = going_down front.ups node }

-- the link to the master comes up: of its table nothing is known yet, and the frontend asks for it (RFC 3656, 4.11)
abbrev pub asks_for_table : Front → Stepped
asks_for_table front = record {
  front = record front { replica = empty_replica };
  outs = Link front.master (Line update_line) ∷ [];
}

unfoldable pub up_from : Bool → Front → Stepped
up_from true front = asks_for_table front
up_from false front = still front

-- a command of a connection waits for something from this node
unfoldable pub awaited : List ℕ → Option Connection → List ℕ → Bool
awaited master None node = false
awaited master (Some connection) node = awaits master connection.stage node

unfoldable pub end_at : Front → ℕ → Option Connection → Stepped
end_at front conn None = still front
end_at front conn (Some connection) = with_turned front conn (end_comes front.setting (ways_of front) conn connection)

-- the link to a node ends: that is something to a connection whose command waits for something from that node
abbrev pub end_if : Bool → Front → ℕ → Stepped
end_if true front conn = end_at front conn (connection_at front conn)
end_if false front conn = still front

abbrev pub one_ends : Front → List ℕ → ℕ → Stepped
one_ends front node conn = end_if (awaited front.master (connection_at front conn) node) front conn

-- what was let out before stands in front
abbrev pub behind_them : List Out → Stepped → Stepped
behind_them outs stepped = record stepped { outs = outs ++ stepped.outs }

-- to each of these, one after another
unfoldable pub all_end : Front → List ℕ → List ℕ → Stepped
all_end front node [] = still front
all_end front node (conn ∷ conns) =
    let stepped = one_ends front node conn in
    behind_them stepped.outs (all_end stepped.front node conns)

abbrev pub with_asks_in_order : Stepped → Stepped
with_asks_in_order stepped = record stepped { outs = in_ask_order stepped.outs }

-- to all connections, in rising order of their numbers; what they ask then goes by the names of mailboxes
abbrev pub end_from : Front → List ℕ → Stepped
end_from front node = with_asks_in_order (all_end front node (keys_of front.connections))

-- ---- what a node tells

-- only the master tells of its table
abbrev pub hearing : Front → List ℕ → Front
hearing front bytes = record front { replica = heard front.replica bytes }

-- the OK to the NOOP of a command: all that the master told before was taken
unfoldable pub ok_at : Front → AskId → Option Connection → Stepped
ok_at front id None = still front
ok_at front id (Some connection) = with_turned front id.conn (ok_comes front.setting (ways_of front) id.conn connection id)

-- a line of the master is the OK to a command's NOOP, or tells of the table
abbrev pub line_by : Front → List ℕ → Option AskId → Stepped
line_by front bytes None = still (hearing front bytes)
line_by front bytes (Some id) = ok_at front id (connection_at front id.conn)

unfoldable pub line_from : Bool → Front → List ℕ → Stepped
line_from true front bytes = line_by front bytes (barrier_answered bytes)
line_from false front bytes = still front

-- a message on a link
unfoldable pub deliver : Front → List ℕ → LinkMsg → Stepped
deliver front from (Answer answer) = answer_from (waits_for (connection_at front (answer.id).conn) from) front answer
deliver front from (Line bytes) = line_from (pointwise nat_eq from front.master) front bytes
deliver front from Up = up_from (pointwise nat_eq from front.master) (with_up front from)
deliver front from End = end_from (without_up front from) from
deliver front from message = still front

-- how many commands of a connection wait, for the answer of a server or for the master
abbrev pub is_asked : Stage → ℕ
is_asked Reading = 0
is_asked (Waits tag it) = 1
is_asked (Lists tag it) = 1
is_asked Ended = 0

-- no connection waits for the answer of this node
abbrev pub WaitsForNone : Front → List ℕ → Type 0
WaitsForNone front node = (conn : ℕ) → waits_for (connection_at front conn) node ≡ false

-- it is noted alone whether the link is up
unfoldable pub noting : Front → List ℕ → LinkMsg → Front
noting front from Up = with_up front from
noting front from End = without_up front from
noting front from message = front
