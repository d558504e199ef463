-- How many commands the connections of a frontend may have, behind what comes to it.
use Rattle.std.proofs.Math.Logic.{⊎_elim}
use Rattle.std.proofs.Common.{◌≡◌, ◌≢◌, ℕ, nat_eq, ◌+◌, ◌<◌, ◌≤◌, ◌^◌, Bool, true, false, List, [], ◌∷◌, length, Option, None, Some, refl, sym, ◌∙◌, subst, arith}
use Rattle.std.specs.Map.{keys_of}
use Rattle.std.specs.Option.{IfSome}
use Rattle.std.specs.Ordering.{nat_cmp}
use Rattle.std.specs.Cmp.Lexicographic.{pointwise}
use Rattle.front_core.specs.Reading.{inputs_of_more}
use Rattle.imap_wire.proofs.MoreLaws.{frames_of_more-length}
use Rattle.link_msg.specs.declared.answer.BackAnswer.{BackAnswer}
use Rattle.link_msg.specs.declared.message.LinkMsg.{LinkMsg}
use Rattle.link_msg.specs.declared.message.LinkMsg.TheVariants.{Up, End, Line, Ask, Answer}
use Rattle.ask_routes.specs.Barrier.{barrier_answered}
use Rattle.mur_base.specs.declared.point.AskId.{AskId}
use Rattle.mur_base.specs.Map.{with_entry, with_value}
use Rattle.mur_base.proofs.MapLaws.{numbers_apart, same_or_other, value_at-with_entry, value_at-with_entry-other, value_at-with_value, value_at-with_value-other}
use Rattle.front_core.specs.declared.connection.Connection.{Connection}
use Rattle.front_core.specs.declared.connection.Stage.{Stage}
use Rattle.front_core.specs.declared.connection.Stage.TheVariants.{Reading, Waits, Lists, Ended}
use Rattle.front_core.specs.declared.front.Front.{Front}
use Rattle.front_core.specs.Answered.{answer_comes, end_comes, ok_comes}
use Rattle.front_core.specs.Ended.{released, released_at}
use Rattle.front_core.specs.Front.{connection_at, connect, connect_at, bytes_in, front_bytes_at, bytes_by, having_read, hang, front_hang_at, hung_up, deliver}
use Rattle.front_core.specs.Front.{all_end, answer_at, answer_from, awaited, end_at, end_if, line_by, line_from, ok_at, one_ends, up_from, waits_for, ways_of}
use Rattle.front_core.specs.Front.{with_up, without_up}
use Rattle.front_core.specs.Room.{commands_of, HasCommands, HasRoomAt, HasRoomFor}
use Rattle.front_core.specs.Slots.{new_connection}
use Rattle.front_core.specs.Taken.{inputs_come}
use Rattle.front_core.proofs.ReadingLaws.{inputs_of_more-length}
use Rattle.front_core.proofs.CommandLaws.{inputs_count, answer_counts, end_counts, ok_counts}

same_some : {X : Type 0} (o : Option X) (x y : X) → o ≡ Some x → o ≡ Some y → x ≡ y
same_some (Some z) x y a b = (let p : Some x ≡ Some y = sym a ∙ b in cc)
same_some None x y a b = cc

-- with another connection in the place of one that is there
abbrev changed : Front → ℕ → Connection → Front
changed front conn new = record front { connections = with_value nat_cmp front.connections conn new }

changed_counts : (front : Front) (conn : ℕ) (old new : Connection) (most more : ℕ) → connection_at front conn ≡ Some old
    → HasCommands front most → commands_of new ≤ most + more
    → HasCommands (changed front conn new) (most + more)
changed_counts front conn old new most more there has fits q c is =
    ⊎_elim
    (λ (e : q ≡ conn).
    let found = value_at-with_value nat_cmp numbers_apart front.connections conn new old there in
    let here = subst (λ k. connection_at (changed front conn new) k ≡ Some c) e is in
    subst (λ x. commands_of x ≤ most + more) (same_some _ new c found here) fits)
    (λ (ne : q ≢ conn). omega (arith, has q c (sym (value_at-with_value-other nat_cmp numbers_apart front.connections conn q new ne) ∙ is)))
    (same_or_other nat_cmp numbers_apart q conn)

released_by : (connection : Connection) (stage : Stage) → commands_of (released_at connection stage) ≤ commands_of connection
unfolding released_at
released_by connection Reading = omega arith
released_by connection (Waits tag it) = omega arith
released_by connection (Lists tag it) = omega arith
released_by connection Ended = omega arith

-- what is let go counts no more
released_counts : (connection : Connection) → commands_of (released connection) ≤ commands_of connection
released_counts connection = released_by connection connection.stage

more_counts : (front : Front) (most more : ℕ) → HasCommands front most → HasCommands front (most + more)
more_counts front most more has q c is = omega (arith, has q c is)

read_counts : (front : Front) (conn : ℕ) (bytes : List ℕ) (most : ℕ) (connection : Connection) → connection_at front conn ≡ Some connection
    → HasCommands front most
    → HasCommands (changed front conn
    (released (inputs_come front.setting (ways_of front) conn (having_read front.setting connection bytes)
    (inputs_of_more front.setting connection.reader bytes)).connection)) (most + length bytes)
read_counts front conn bytes most connection there has =
    changed_counts front conn connection _ most (length bytes) there has
    (omega (
      arith,
      released_counts (inputs_come front.setting (ways_of front) conn (having_read front.setting connection bytes)
          (inputs_of_more front.setting connection.reader bytes)).connection,
      has conn connection there,
      inputs_count front.setting (ways_of front) conn (having_read front.setting connection bytes) (inputs_of_more front.setting connection.reader bytes),
      frames_of_more-length connection.reader.held bytes,
      inputs_of_more-length front.setting connection.reader bytes,
    ))

bytes_by_counts : (front : Front) (conn : ℕ) (bytes : List ℕ) (most : ℕ) (connection : Connection) (stage : Stage) → connection_at front conn ≡ Some connection
    → HasCommands front most → HasCommands (bytes_by front conn bytes connection stage).front (most + length bytes)
unfolding bytes_by
bytes_by_counts front conn bytes most connection Reading there has = read_counts front conn bytes most connection there has
bytes_by_counts front conn bytes most connection (Waits tag it) there has = read_counts front conn bytes most connection there has
bytes_by_counts front conn bytes most connection (Lists tag it) there has = read_counts front conn bytes most connection there has
bytes_by_counts front conn bytes most connection Ended there has = more_counts front most (length bytes) has

bytes_at_counts : (front : Front) (conn : ℕ) (bytes : List ℕ) (most : ℕ) (found : Option Connection) → connection_at front conn ≡ found
    → HasCommands front most → HasCommands (front_bytes_at front conn bytes found).front (most + length bytes)
unfolding front_bytes_at
bytes_at_counts front conn bytes most None there has = more_counts front most (length bytes) has
bytes_at_counts front conn bytes most (Some connection) there has = bytes_by_counts front conn bytes most connection connection.stage there has

-- each byte is at most one command more
pub bytes_in_counts : (front : Front) (conn : ℕ) (bytes : List ℕ) (most : ℕ) → HasCommands front most
    → HasCommands (bytes_in front conn bytes).front (most + length bytes)
unfolding bytes_in
bytes_in_counts front conn bytes most has = bytes_at_counts front conn bytes most (connection_at front conn) refl has

-- nothing more is counted
none_more : (front : Front) (most : ℕ) → HasCommands front (most + 0) → HasCommands front most
none_more front most has q c is = omega (arith, has q c is)

unchanged_counts : (front : Front) (conn : ℕ) (old new : Connection) (most : ℕ) → connection_at front conn ≡ Some old
    → HasCommands front most → commands_of new ≤ commands_of old → HasCommands (changed front conn new) most
unchanged_counts front conn old new most there has fits =
    none_more (changed front conn new) most (changed_counts front conn old new most 0 there has (omega (arith, has conn old there, fits)))

answer_at_counts : (front : Front) (answer : BackAnswer) (most : ℕ) (found : Option Connection) → connection_at front (answer.id).conn ≡ found
    → HasCommands front most → HasCommands (answer_at front answer found).front most
unfolding answer_at
answer_at_counts front answer most None there has = has
answer_at_counts front answer most (Some connection) there has =
    unchanged_counts front (answer.id).conn connection _ most there has
    (omega (
      arith,
      released_counts (answer_comes front.setting (ways_of front) (answer.id).conn connection answer).connection,
      answer_counts front.setting (ways_of front) (answer.id).conn connection answer,
    ))

answer_from_counts : (front : Front) (answer : BackAnswer) (most : ℕ) (is_asked : Bool) → HasCommands front most
    → HasCommands (answer_from is_asked front answer).front most
unfolding answer_from
answer_from_counts front answer most true has = answer_at_counts front answer most (connection_at front (answer.id).conn) refl has
answer_from_counts front answer most false has = has

up_counts : (front : Front) (most : ℕ) (is_master : Bool) → HasCommands front most → HasCommands (up_from is_master front).front most
unfolding up_from
up_counts front most true has = has
up_counts front most false has = has

ok_at_counts : (front : Front) (id : AskId) (most : ℕ) (found : Option Connection) → connection_at front id.conn ≡ found
    → HasCommands front most → HasCommands (ok_at front id found).front most
unfolding ok_at
ok_at_counts front id most None there has = has
ok_at_counts front id most (Some connection) there has =
    unchanged_counts front id.conn connection _ most there has
    (omega (
      arith,
      released_counts (ok_comes front.setting (ways_of front) id.conn connection id).connection,
      ok_counts front.setting (ways_of front) id.conn connection id,
    ))

line_by_counts : (front : Front) (bytes : List ℕ) (most : ℕ) (found : Option AskId) → HasCommands front most → HasCommands (line_by front bytes found).front most
line_by_counts front bytes most None has = has
line_by_counts front bytes most (Some id) has = ok_at_counts front id most (connection_at front id.conn) refl has

line_counts : (front : Front) (bytes : List ℕ) (most : ℕ) (is_master : Bool) → HasCommands front most
    → HasCommands (line_from is_master front bytes).front most
unfolding line_from
line_counts front bytes most true has = line_by_counts front bytes most (barrier_answered bytes) has
line_counts front bytes most false has = has

end_at_counts : (front : Front) (conn most : ℕ) (found : Option Connection) → connection_at front conn ≡ found → HasCommands front most
    → HasCommands (end_at front conn found).front most
unfolding end_at
end_at_counts front conn most None there has = has
end_at_counts front conn most (Some connection) there has =
    unchanged_counts front conn connection _ most there has
    (omega (
      arith,
      released_counts (end_comes front.setting (ways_of front) conn connection).connection,
      end_counts front.setting (ways_of front) conn connection,
    ))

end_counts_if : (front : Front) (conn most : ℕ) (waits : Bool) → HasCommands front most → HasCommands (end_if waits front conn).front most
end_counts_if front conn most true has = end_at_counts front conn most (connection_at front conn) refl has
end_counts_if front conn most false has = has

pub one_counts : (front : Front) (node : List ℕ) (conn most : ℕ) → HasCommands front most → HasCommands (one_ends front node conn).front most
one_counts front node conn most has = end_counts_if front conn most (awaited front.master (connection_at front conn) node) has

all_count : (front : Front) (node : List ℕ) (conns : List ℕ) (most : ℕ) → HasCommands front most → HasCommands (all_end front node conns).front most
unfolding all_end
all_count front node [] most has = has
all_count front node (conn ∷ conns) most has =
    all_count (one_ends front node conn).front node conns most (one_counts front node conn most has)

pub deliver_counts : (front : Front) (from : List ℕ) (message : LinkMsg) (most : ℕ) → HasCommands front most
    → HasCommands (deliver front from message).front most
unfolding deliver
deliver_counts front from (Answer answer) most has = answer_from_counts front answer most (waits_for (connection_at front (answer.id).conn) from) has
deliver_counts front from Up most has = up_counts (with_up front from) most (pointwise nat_eq from front.master) has
deliver_counts front from End most has = all_count (without_up front from) from (keys_of front.connections) most has
deliver_counts front from (Line line) most has = line_counts front line most (pointwise nat_eq from front.master) has
deliver_counts front from (Ask ask) most has = has

hang_at_counts : (front : Front) (conn most : ℕ) (found : Option Connection) → connection_at front conn ≡ found
    → HasCommands front most → HasCommands (front_hang_at front conn found) most
unfolding front_hang_at
hang_at_counts front conn most None there has = has
hang_at_counts front conn most (Some connection) there has = unchanged_counts front conn connection (hung_up connection) most there has (omega arith)

pub hang_counts : (front : Front) (conn most : ℕ) → HasCommands front most → HasCommands (hang front conn) most
unfolding hang
hang_counts front conn most has = hang_at_counts front conn most (connection_at front conn) refl has

new_counts : commands_of new_connection ≡ 0
unfolding new_connection
new_counts = refl

entered_counts : (front : Front) (conn most : ℕ) → HasCommands front most
    → HasCommands (record front { connections = with_entry nat_cmp front.connections conn new_connection }) most
entered_counts front conn most has q c is =
    ⊎_elim
    (λ (e : q ≡ conn).
    let found = value_at-with_entry nat_cmp numbers_apart front.connections conn new_connection in
    let here = subst (λ k. connection_at (record front { connections = with_entry nat_cmp front.connections conn new_connection }) k ≡ Some c) e is in
    subst (λ x. commands_of x ≤ most) (same_some _ new_connection c found here) (omega (arith, new_counts)))
    (λ (ne : q ≢ conn). has q c (sym (value_at-with_entry-other nat_cmp numbers_apart front.connections conn q new_connection ne) ∙ is))
    (same_or_other nat_cmp numbers_apart q conn)

connect_at_counts : (front : Front) (conn most : ℕ) (found : Option Connection) → HasCommands front most → HasCommands (connect_at front conn found).front most
unfolding connect_at
connect_at_counts front conn most (Some there) has = has
connect_at_counts front conn most None has = entered_counts front conn most has

pub connect_counts : (front : Front) (conn most : ℕ) → HasCommands front most → HasCommands (connect front conn).front most
unfolding connect
connect_counts front conn most has = connect_at_counts front conn most (connection_at front conn) has

room_by : (found : Option Connection) (most more : ℕ) → ((connection : Connection) → found ≡ Some connection → commands_of connection ≤ most)
    → most + more < 2 ^ 64 → IfSome found (λ connection. commands_of connection + more < 2 ^ 64)
room_by None most more has fits = tt
room_by (Some connection) most more has fits = omega (arith, has connection refl, fits)

-- what the calls of a frontend require
pub has_room_at : (front : Front) (conn most more : ℕ) → HasCommands front most → most + more < 2 ^ 64 → HasRoomAt front conn more
has_room_at front conn most more has fits = room_by (connection_at front conn) most more (has conn) fits

room_for_ok : (front : Front) (found : Option AskId) (most : ℕ) → HasCommands front most → most < 2 ^ 64 → IfSome found (λ (id : AskId). HasRoomAt front id.conn 0)
room_for_ok front None most has fits = tt
room_for_ok front (Some id) most has fits = has_room_at front id.conn most 0 has (omega (arith, fits))

pub has_room_for : (front : Front) (message : LinkMsg) (most : ℕ) → HasCommands front most → most < 2 ^ 64 → HasRoomFor front message
unfolding HasRoomFor
has_room_for front (Answer answer) most has fits = has_room_at front (answer.id).conn most 0 has (omega (arith, fits))
has_room_for front Up most has fits = tt
has_room_for front End most has fits = λ conn. has_room_at front conn most 0 has (omega (arith, fits))
has_room_for front (Line line) most has fits = room_for_ok front (barrier_answered line) most has fits
has_room_for front (Ask ask) most has fits = tt
