-- How often a framer moves bytes: each call that copies some of them, each byte that it counts and doesn't keep, and each search for an LF is one move.
use Rattle.std.specs.Prelude.{◌≡◌, ℕ, ◌+◌, ◌*◌, ◌/◌, ◌≤◌, ◌&&◌, ◌==◌, nat_lt, nat_eq, List, [], ◌∷◌, length, Option}
use Rattle.std.specs.Prelude.{None, Some, if◌then◌else◌}
use Rattle.mur_base.specs.declared.limits.TheConstants.{LINE_LIMIT}
use Rattle.mur_base.specs.Ascii.{lf}
use Rattle.imap_wire.specs.declared.frame.Frame.{Frame}
use Rattle.imap_wire.specs.declared.frame.Frame.TheVariants.{Whole, NeedLiteral, TooBig, Fault}
use Rattle.imap_wire.specs.declared.block.TheConstants.{BLOCK_ROOM}
use Rattle.imap_wire.specs.declared.begun.Begun.{Begun}
use Rattle.imap_wire.specs.Kept.{filled_room}
use Rattle.imap_wire.specs.Steps.{State, start_state, step, state_after}
use Rattle.imap_wire.specs.Begun.{state_of}

-- how many LFs stand outside literals: they end lines, or stand in one
unfoldable pub line_feeds : State → List ℕ → ℕ
line_feeds state [] = 0
line_feeds state (byte ∷ bytes) =
    let rest = line_feeds (step state byte).after bytes in
    if byte == lf && nat_eq state.literal_left 0 then 1 + rest else rest

-- how many moves keep these bytes at most: seven for each line with its literal, one for each block that is filled, and a few besides
abbrev pub most_moves : State → List ℕ → ℕ
most_moves state bytes = 7 * line_feeds state bytes + length bytes / BLOCK_ROOM + 8

-- how many moves join these bytes at most: each block that they stand in but the first and the last is half full
abbrev pub join_moves : List ℕ → ℕ
join_moves bytes = length bytes / (LINE_LIMIT + 2) + 2

-- how many moves make this frame at most
abbrev pub frame_moves : Option Frame → ℕ
frame_moves None = 0
frame_moves (Some (Whole bytes)) = join_moves bytes
frame_moves (Some (NeedLiteral size)) = 0
frame_moves (Some (TooBig bytes)) = join_moves bytes
frame_moves (Some (Fault fault)) = 0

-- a count rises by so much at most, and never falls
abbrev pub IsUpTo : ℕ → ℕ → ℕ → Type 0
IsUpTo before most behind = (before ≤ behind) × (behind ≤ before + most)

-- the count of moves before and behind a call that takes these bytes and gives this frame, where the command that has begun has those; none
-- has where the framer is spent
abbrev pub IsInBulk : Option (List ℕ) → List ℕ → Option Frame → ℕ → ℕ → Type 0
IsInBulk None bytes frame before behind = behind ≡ before
IsInBulk (Some begun) bytes frame before behind = IsUpTo before (most_moves (state_after start_state begun) bytes + frame_moves frame) behind

-- how many moves may come before the next LF: those of a byte past the line's limit, and of the end of a literal before the line
abbrev pub credit : State → ℕ
credit state = if nat_lt 0 state.literal_left then 4 else (if nat_lt state.line_room (length state.line) then 0 else 3)

-- the moves that were made or may come, each counted as the bytes of a block, and the bytes that fill the present one
abbrev pub account : Begun → ℕ
account begun = BLOCK_ROOM * (begun.kept.moves + credit (state_of begun)) + filled_room begun.kept.last

-- so many moves were made with these bytes that the bytes and their LFs pay for them
abbrev pub IsPaid : Begun → List ℕ → Begun → Type 0
IsPaid from bytes to = account to ≤ account from + length bytes + BLOCK_ROOM * (7 * line_feeds (state_of from) bytes)
