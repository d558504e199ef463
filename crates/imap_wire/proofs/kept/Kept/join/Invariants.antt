use Rattle.std.proofs.Common.{◌≡◌, ◌+◌, length, take}
use Rattle.imap_wire.specs.Kept.{joined_blocks}
use Rattle.imap_wire.specs.Tally.{counted, more}
use Rattle.imap_wire.proofs.kept.Kept.join.Given as goal

abbrev pub invariant-loop-block : goal.invariant-loop-block
invariant-loop-block l = record {
  all : l.all.bytes.items ≡ joined_blocks (take l.block-index l.block-items);
  room : l.all.room ≡ length (joined_blocks l.block-items) + length l.self.last.bytes.items;
  moves : l.moves ≡ counted (l.initial.moves + l.block-index);
  tally : l.tally ≡ more l.initial.tally 0 (length (joined_blocks (take l.block-index l.block-items)));
}
