use Rattle.std.proofs.Common.{◌≡◌, ◌+◌, length, take}
use Rattle.imap_wire.specs.Kept.{joined_blocks}
use Rattle.imap_wire.proofs.kept.Kept.len.Given as goal

abbrev pub invariant-loop-block : goal.invariant-loop-block
invariant-loop-block l = l.size ≡ length (joined_blocks (take l.block-index l.block-items)) + length l.self.last.bytes.items
