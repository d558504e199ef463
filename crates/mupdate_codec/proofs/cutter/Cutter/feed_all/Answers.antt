use Rattle.std.proofs.Common.{◌+◌, sym, subst, arith, append-nil}
use Rattle.mupdate_codec.proofs.CutSteps.{IsCutSoFar, fed_on, fed_whole, fed_spent}
use Rattle.mupdate_codec.proofs.cutter.Cutter.feed_all.Goals as goal

pub loop-taken-preserved-in-Continue-branch-2 : goal.loop-taken-preserved-in-Continue-branch-2
loop-taken-preserved-in-Continue-branch-2 c = record {
  within = omega (arith, c.in_ok-line.ensures.within);
  cut = λ past.
      subst (λ lines. IsCutSoFar past c.args.piece.now c.args.self.now c.args.lines.now c.feed.new.self lines (c.loop-taken.taken + c.in_ok-line.more))
      (rw c.in-Some.is (sym c.in_ok-push.ensures.ok))
      (fed_on past c.args.piece.now c.args.self.now c.args.lines.now c.loop-taken.lines c.loop-taken.taken c.in_ok-line.more c.loop-taken.invariant.within
      c.loop-taken.self c.feed.new.self c.in_ok-line.line (c.loop-taken.invariant.cut past) c.in_ok-line.ensures.feeds);
}

pub loop-taken-preserved : goal.loop-taken-preserved
loop-taken-preserved c = record {
  within = omega (arith, c.in_ok-line.ensures.within);
  cut = λ past.
      subst (λ lines. IsCutSoFar past c.args.piece.now c.args.self.now c.args.lines.now c.feed.new.self lines (c.loop-taken.taken + c.in_ok-line.more))
      (rw c.in_default.is (append-nil c.loop-taken.lines))
      (fed_on past c.args.piece.now c.args.self.now c.args.lines.now c.loop-taken.lines c.loop-taken.taken c.in_ok-line.more c.loop-taken.invariant.within
      c.loop-taken.self c.feed.new.self c.in_ok-line.line (c.loop-taken.invariant.cut past) c.in_ok-line.ensures.feeds);
}

pub returns-else-not-spent : goal.returns-else-not-spent
returns-else-not-spent c = λ past.
    fed_spent past c.args.piece.now c.args.self.now c.loop-taken.self c.args.lines.now c.loop-taken.lines c.loop-taken.taken (c.loop-taken.invariant.cut past)
    (sym c.if-not-spent.ensures)

pub returns-after-loop-taken : goal.returns-after-loop-taken
returns-after-loop-taken c = λ past.
    fed_whole past c.args.piece.now c.args.self.now c.loop-taken.self c.args.lines.now c.loop-taken.lines c.loop-taken.taken
    (c.loop-taken.invariant.cut past) (omega (arith, c.loop-taken-test.false))
