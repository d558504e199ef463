-- Block by block.
use Rattle.std.proofs.Common.{length, take, ap, arith, length-append}
use Rattle.std.proofs.lemmas.List.{take_all}
use Rattle.imap_wire.specs.Kept.{joined_blocks}
use Rattle.imap_wire.proofs.BlockLaws.{joined_blocks-more}
use Rattle.imap_wire.proofs.kept.Kept.len.Goals as goal

pub loop-block-preserved : goal.loop-block-preserved
loop-block-preserved c =
    let blocks = c.deref-block-items.result.now in
    let joined_more = ap length (joined_blocks-more blocks c.loop-block.block-index c.block-item.result (omega arith) c.block-item.is) in
    let longer = length-append (joined_blocks (take c.loop-block.block-index blocks)) c.block-item.result.bytes.items in
    omega (arith, joined_more, longer, c.checked_add.ensures)

pub returns : goal.returns
returns c =
    let size = length-append (joined_blocks c.args.self.now.full.items) c.args.self.now.last.bytes.items in
    rw (size, ← c.deref-block-items.ensures.value, ← take_all c.loop-block.block-index c.deref-block-items.result.now (omega arith))
    (omega (arith, c.loop-block.invariant))
