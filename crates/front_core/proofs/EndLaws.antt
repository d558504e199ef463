-- The link to a node ends, which one connection after another is told: each leaves the others as many commands as they had.
use Rattle.std.proofs.Common.{◌≡◌, ℕ, ◌+◌, ◌<◌, ◌≤◌, ◌^◌, ◌-◌, List, ◌∷◌, Option, None, Some, ap, sym, subst, ◌∙◌, arith, append_assoc}
use Rattle.std.specs.Option.{IfSome}
use Rattle.link_msg.specs.declared.out.Out.{Out}
use Rattle.front_core.specs.declared.connection.Connection.{Connection}
use Rattle.front_core.specs.declared.front.Front.{Front}
use Rattle.front_core.specs.Front.{Stepped, all_end, behind_them, connection_at, one_ends}
use Rattle.front_core.specs.Room.{HasCommands, HasRooms, commands_of}
use Rattle.front_core.proofs.Counts.{has_room_at, one_counts}

few_by : (found : Option Connection) (connection : Connection) → IfSome found (λ c. commands_of c + 0 < 2 ^ 64) → found ≡ Some connection
    → commands_of connection ≤ 2 ^ 64 - 1
few_by None connection room e = cc
few_by (Some it) connection room e =
    let same : it ≡ connection = cc in
    omega (arith, room, ap commands_of same)

-- where each connection may count those that it has, so it may then
rooms_stay : (front : Front) (node : List ℕ) (conn : ℕ) → HasRooms front → HasRooms (one_ends front node conn).front
rooms_stay front node conn rooms other =
    let has : HasCommands front (2 ^ 64 - 1) = λ each connection at. few_by (connection_at front each) connection (rooms each) at in
    has_room_at (one_ends front node conn).front other (2 ^ 64 - 1) 0 (one_counts front node conn (2 ^ 64 - 1) has) (omega arith)

-- one connection, and then the others
pub ends_on : (front now : Front) (node : List ℕ) (conn : ℕ) (conns : List ℕ) (outs later : List Out)
    → record { front = now; outs = later } ≡ behind_them outs (one_ends front node conn)
    → behind_them later (all_end now node conns) ≡ behind_them outs (all_end front node (conn ∷ conns))
unfolding all_end
ends_on front now node conn conns outs later e =
    let one : Stepped = one_ends front node conn in
    let rest : Stepped = all_end one.front node conns in
    ap (λ (s : Stepped). behind_them s.outs (all_end s.front node conns)) e
    ∙ ap (λ l. record rest { outs = l }) (append_assoc outs one.outs rest.outs)

pub rooms_after : (front now : Front) (node : List ℕ) (conn : ℕ) (outs later : List Out)
    → record { front = now; outs = later } ≡ behind_them outs (one_ends front node conn) → HasRooms front → HasRooms now
rooms_after front now node conn outs later e rooms = subst HasRooms (sym (ap (λ (s : Stepped). s.front) e)) (rooms_stay front node conn rooms)
