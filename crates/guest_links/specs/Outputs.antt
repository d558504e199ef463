-- What outputs of the master are to the client of one connection.
use Rattle.std.specs.Prelude.{◌≡◌, ℕ, Bool, true, false, ◌==◌, if◌then◌else◌, List, [], ◌∷◌, ⊤}
use Rattle.std.specs.List.{flat_map, list_any}
use Rattle.link_msg.specs.declared.out.Out.{Out}
use Rattle.link_msg.specs.declared.out.Out.TheVariants.{Client, Close}

abbrev pub bytes_to : ℕ → Out → List ℕ
bytes_to conn (Client other bytes) = if conn == other then bytes else []
bytes_to conn out = []

-- the bytes that outputs give the client
abbrev pub given_by : ℕ → List Out → List ℕ
given_by conn outs = flat_map (bytes_to conn) outs

abbrev pub is_close : ℕ → Out → Bool
is_close conn (Close other) = conn == other
is_close conn out = false

-- whether they close its connection
abbrev pub closes : ℕ → List Out → Bool
closes conn outs = list_any (is_close conn) outs

-- no bytes of it stand behind the close
unfoldable pub ClosesLast : ℕ → List Out → Type 0
ClosesLast conn [] = ⊤
ClosesLast conn (out ∷ outs) = (is_close conn out ≡ true → given_by conn outs ≡ []) × ClosesLast conn outs
