use Rattle.std.proofs.Common.{arith}
use Rattle.schedule_text.proofs.PutLaws.{goes_on, is_put}
use Rattle.schedule_text.proofs.text.put_runs.Goals as goal
use Rattle.schedule_text.proofs.text.put_runs.Goals.{then-not-is_plain+in_ok-extend_from_slice+in_ok-put_byte, else-not-is_plain}

pub loop-at-preserved : goal.loop-at-preserved
loop-at-preserved c = elim c.if-not-is_plain.branch [
  | then-not-is_plain+in_ok-extend_from_slice+in_ok-put_byte w ↦ record {
    behind = omega (arith, w.from-is);
    put = rw (w.out-is, w.from-is, w.in_ok-put_byte.ensures, w.in_ok-extend_from_slice.ensures.ok)
        (is_put _ _ c.args.bytes.now c.loop-at.from c.loop-at.at (omega arith) c.loop-at.invariant.put);
  }
  | else-not-is_plain w ↦ record {
    behind = omega (arith, w.from-is, c.loop-at.invariant.behind);
    put = rw (w.out-is, w.from-is)
        (goes_on _ _ c.args.bytes.now c.loop-at.from c.loop-at.at c.loop-at.invariant.behind (omega arith)
        (c.is_plain.ensures w.if-not-is_plain.false) c.loop-at.invariant.put);
  }
]
