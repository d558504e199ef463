-- The command that has begun as the program keeps it, and what it does with bytes.
use Rattle.std.specs.Prelude.{◌≡◌, ◌⊎◌, ℕ, ◌+◌, ◌-◌, ◌<◌, ◌≤◌, ◌++◌, nat_lt, List, [], length, take, drop, Option, if◌then◌else◌}
use Rattle.std.specs.Option.{option_to_list}
use Rattle.imap_wire.specs.declared.block.TheConstants.{BLOCK_ROOM, FIRST_PIECE}
use Rattle.imap_wire.specs.declared.frame.Frame.{Frame}
use Rattle.imap_wire.specs.declared.begun.Begun.{Begun}
use Rattle.imap_wire.specs.Front.{IsPlain, front_of, back_at}
use Rattle.imap_wire.specs.Kept.{joined}
use Rattle.imap_wire.specs.Steps.{State, given, state_after}

abbrev pub line_front : Begun → List ℕ
line_front begun = front_of begun.front_len begun.line_at begun.kept.full.items

abbrev pub line_back : Begun → List ℕ
line_back begun = drop (back_at begun.front_len begun.line_at) begun.kept.last.bytes.items

-- the present line of the command
abbrev pub present_line : Begun → List ℕ
present_line begun = if nat_lt 0 begun.literal_left then [] else line_front begun ++ line_back begun

abbrev pub state_of : Begun → State
state_of begun = record {
  bytes = joined begun.kept.full.items begun.kept.last;
  line = present_line begun;
  line_room = begun.line_room;
  literal_room = begun.literal_room;
  literal_left = begun.literal_left;
  spent = begun.spent;
}

-- the last block has room for the present line to its end, its CRLF included
abbrev pub IsRoomy : Begun → Type 0
IsRoomy begun = back_at begun.front_len begun.line_at + begun.line_room + 2 ≤ begun.kept.last.room

-- of the present line nothing has come
abbrev pub IsBetween : Begun → Type 0
IsBetween begun = (begun.front_len ≡ 0) × (begun.line_at ≡ length begun.kept.last.bytes.items)

-- the present line stands in the first block, or would begin there, and is plain
pub record StandsFirst (begun : Begun) : Type 0 where
  pub whole : begun.front_len ≡ 0
  pub first : length begun.kept.full.items ≡ 0
  pub block : begun.kept.last.room < BLOCK_ROOM
  pub line : IsPlain (drop begun.line_at begun.kept.last.bytes.items)

-- the first block has room for a piece of this length, or would have
pub record HasFirstRoom (begun : Begun) (size : ℕ) : Type 0 where
  pub short : size ≤ FIRST_PIECE
  pub room : (begun.kept.last.room ≡ 0) ⊎ (length begun.kept.last.bytes.items + size ≤ begun.kept.last.room)

-- the piece may go into the first block as it is: it ends neither the line nor anything else
pub record MayWait (begun : Begun) (piece : List ℕ) : Type 0 where
  pub stands : StandsFirst begun
  pub room : HasFirstRoom begun (length piece)
  pub plain : IsPlain piece
  pub within : length (present_line begun) + length piece ≤ begun.line_room

-- so many bytes of the piece are taken, and no frame ends in them
pub record Moves (from : State) (piece : List ℕ) (taken : ℕ) (to : State) : Type 0 where
  pub within : taken ≤ length piece
  pub silent : given from (take taken piece) ≡ []
  pub arrives : to ≡ state_after from (take taken piece)

-- so many bytes of the piece are taken, and the frame, if there is one, is the only one and ends with the last of them
pub record TakesFrame (from : State) (piece : List ℕ) (frame : Option Frame) (taken : ℕ) (to : State) : Type 0 where
  pub within : taken ≤ length piece
  pub gives : given from (take taken piece) ≡ option_to_list frame
  pub first : (n : ℕ) → n < taken → given from (take n piece) ≡ []
  pub arrives : to ≡ state_after from (take taken piece)
