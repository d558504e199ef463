-- The bytes of a command in blocks.
use Rattle.std.specs.Prelude.{ℕ, ◌-◌, ◌&&◌, nat_lt, nat_eq, if◌then◌else◌, List, [], ◌∷◌, ◌++◌, length}
use Rattle.imap_wire.specs.declared.block.Block.{Block}
use Rattle.imap_wire.specs.declared.block.TheConstants.{BLOCK_ROOM}

-- the bytes of blocks, one behind the other
abbrev pub joined_blocks : List Block → List ℕ
joined_blocks [] = []
joined_blocks (block ∷ blocks) = block.bytes.items ++ joined_blocks blocks

-- those of the last block behind them
abbrev pub joined : List Block → Block → List ℕ
joined full last = joined_blocks full ++ last.bytes.items

-- how many bytes have room in this block, or in a new one where it is full or has less room than all but a first one
abbrev pub next_room : Block → ℕ
next_room block =
    let left = block.room - length block.bytes.items in
    if nat_lt 0 left && nat_eq block.room BLOCK_ROOM then left else BLOCK_ROOM

-- how many bytes fewer have room there than in a new block
abbrev pub filled_room : Block → ℕ
filled_room block = BLOCK_ROOM - next_room block
