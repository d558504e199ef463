-- The bytes of a line before the last block.
use Rattle.std.specs.Prelude.{◌≡◌, ℕ, false, nat_lt, List, [], drop, All, if◌then◌else◌}
use Rattle.memchr.specs.Find.{is_byte3}
use Rattle.imap_wire.specs.declared.block.Block.{Block}
use Rattle.imap_wire.specs.Kept.{joined_blocks}

-- the byte ends no line and announces no literal: it is neither CR, LF nor `{`
abbrev pub IsPlainByte : ℕ → Type 0
IsPlainByte byte = is_byte3 13 10 123 byte ≡ false

abbrev pub IsPlain : List ℕ → Type 0
IsPlain bytes = All IsPlainByte bytes

-- so many bytes of the present line stand before the last block, from this place of the full ones on
abbrev pub front_of : ℕ → ℕ → List Block → List ℕ
front_of size line_at full = if nat_lt 0 size then drop line_at (joined_blocks full) else []

-- where the rest of it begins in the last block
abbrev pub back_at : ℕ → ℕ → ℕ
back_at size line_at = if nat_lt 0 size then 0 else line_at
