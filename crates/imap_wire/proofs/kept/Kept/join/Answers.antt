-- Block by block.
use Rattle.std.proofs.Common.{◌≡◌, ℕ, ◌+◌, ◌∙◌, refl, sym, length, take, ap, arith, length-append}
use Rattle.imap_wire.specs.Kept.{joined_blocks}
use Rattle.imap_wire.specs.declared.tally.Tally.{Tally}
use Rattle.imap_wire.specs.Tally.{more}
use Rattle.imap_wire.proofs.BlockLaws.{joined_blocks-more, joined_blocks-fit}
use Rattle.imap_wire.proofs.TallyLaws.{more-more}
use Rattle.imap_wire.proofs.kept.Kept.join.Goals as goal

pub put-requires : goal.put-requires
put-requires c =
    let fits = joined_blocks-fit c.deref-block-items.result.now c.loop-block.block-index c.block-item.result c.loop-block.all.room
    (omega arith) c.block-item.is (omega (arith, c.loop-block.invariant.room)) in
    omega (arith, fits, ap length c.loop-block.invariant.all, ap length c.as_slice.ensures)

pub loop-block-preserved : goal.loop-block-preserved
loop-block-preserved c =
    let blocks = c.deref-block-items.result.now in
    let at = c.loop-block.block-index in
    let joined_more = joined_blocks-more blocks at c.block-item.result (omega arith) c.block-item.is in
    record {
      all = rw (joined_more, c.put.ensures.bytes, c.loop-block.invariant.all, c.as_slice.ensures) refl;
      room = omega (arith, c.loop-block.invariant.room, c.put.ensures.room);
      moves = omega (arith, c.put.ensures.moves, c.loop-block.invariant.moves);
      tally =
          let size : length (joined_blocks (take at blocks)) + length c.as_slice.result.now ≡ length (joined_blocks (take (at + 1) blocks)) =
          rw (joined_more, c.as_slice.ensures) (sym (length-append (joined_blocks (take at blocks)) c.block-item.result.bytes.items)) in
          c.put.ensures.tally ∙ (ap (λ (w : Tally). more w 0 (length c.as_slice.result.now)) c.loop-block.invariant.tally
          ∙ (more-more c.args.tally.now 0 (length (joined_blocks (take at blocks))) 0 (length c.as_slice.result.now)
          ∙ ap (λ (n : ℕ). more c.args.tally.now 0 n) size));
    }
