use Rattle.std.proofs.Common.{◌+◌, sym, subst, arith, append-nil}
use Rattle.master_core.proofs.CuttingLaw.{CutsSoFar, cuts_step, lines_end, begun_end}
use Rattle.master_core.proofs.cutting.cut_piece.Goals as goal

pub loop-taken-preserved-in-Continue-branch-2 : goal.loop-taken-preserved-in-Continue-branch-2
loop-taken-preserved-in-Continue-branch-2 c = record {
  within = omega (arith, c.in_ok-line.ensures.within);
  cut =
      subst (λ lines. CutsSoFar c.args.piece.now c.args.cutter.now c.args.lines.now lines c.feed.new.self (c.loop-taken.taken + c.in_ok-line.more))
      (rw c.in-Some.is (sym c.in_ok-push.ensures.ok))
      (cuts_step c.args.piece.now c.args.cutter.now c.args.lines.now c.loop-taken.lines c.loop-taken.cutter c.loop-taken.taken c.in_ok-line.more c.in_ok-line.line
      c.feed.new.self c.loop-taken.invariant.cut c.in_ok-line.ensures.uncut c.in_ok-line.ensures.feeds);
}

pub loop-taken-preserved : goal.loop-taken-preserved
loop-taken-preserved c = record {
  within = omega (arith, c.in_ok-line.ensures.within);
  cut =
      subst (λ lines. CutsSoFar c.args.piece.now c.args.cutter.now c.args.lines.now lines c.feed.new.self (c.loop-taken.taken + c.in_ok-line.more))
      (rw c.in_default.is (append-nil c.loop-taken.lines))
      (cuts_step c.args.piece.now c.args.cutter.now c.args.lines.now c.loop-taken.lines c.loop-taken.cutter c.loop-taken.taken c.in_ok-line.more c.in_ok-line.line
      c.feed.new.self c.loop-taken.invariant.cut c.in_ok-line.ensures.uncut c.in_ok-line.ensures.feeds);
}

pub returns-after-loop-taken-clause-lines : goal.returns-after-loop-taken-clause-lines
returns-after-loop-taken-clause-lines c =
    lines_end c.args.piece.now c.args.cutter.now c.args.lines.now c.loop-taken.lines c.loop-taken.cutter c.loop-taken.taken (omega (arith, c.loop-taken-test.false))
    c.loop-taken.invariant.cut

pub returns-after-loop-taken-clause-begun : goal.returns-after-loop-taken-clause-begun
returns-after-loop-taken-clause-begun c =
    begun_end c.args.piece.now c.args.cutter.now c.args.lines.now c.loop-taken.lines c.loop-taken.cutter c.loop-taken.taken (omega (arith, c.loop-taken-test.false))
    c.loop-taken.invariant.cut
