-- Call by call, as far as the piece goes.
use Rattle.std.proofs.Common.{ℕ, List, ◌++◌, ◌∙◌, sym, take, arith}
use Rattle.std.proofs.lemmas.List.{append-nil}
use Rattle.imap_wire.proofs.FeedLaws.{past-more, frames-more, some_from, frames-rest, begun-rest}
use Rattle.imap_wire.proofs.framer.Framer.feed_all.Goals as goal

pub loop-taken-preserved-in-Continue-branch-2 : goal.loop-taken-preserved-in-Continue-branch-2
loop-taken-preserved-in-Continue-branch-2 c =
    let here = λ (past : List ℕ). past ++ take c.loop-taken.taken c.args.piece.now in
    record {
      within = omega (arith, c.in_ok-frame.ensures.within);
      after = λ past held.
          rw (past-more past c.args.piece.now c.loop-taken.taken c.in_ok-frame.more)
          (c.in_ok-frame.ensures.after (here past) (c.loop-taken.invariant.after past held));
      frames = λ past held old.
          frames-more past c.args.piece.now c.loop-taken.taken c.in_ok-frame.more c.in_ok-frame.frame c.loop-taken.frames _
          (c.in_ok-frame.ensures.frame (some_from _ (sym c.if-not-spent.ensures)) (here past) (c.loop-taken.invariant.after past held))
          (c.loop-taken.invariant.frames past held old)
          (rw c.in-Some.is c.in_ok-push.ensures.ok);
    }

pub loop-taken-preserved : goal.loop-taken-preserved
loop-taken-preserved c =
    let here = λ (past : List ℕ). past ++ take c.loop-taken.taken c.args.piece.now in
    record {
      within = omega (arith, c.in_ok-frame.ensures.within);
      after = λ past held.
          rw (past-more past c.args.piece.now c.loop-taken.taken c.in_ok-frame.more)
          (c.in_ok-frame.ensures.after (here past) (c.loop-taken.invariant.after past held));
      frames = λ past held old.
          frames-more past c.args.piece.now c.loop-taken.taken c.in_ok-frame.more c.in_ok-frame.frame c.loop-taken.frames _
          (c.in_ok-frame.ensures.frame (some_from _ (sym c.if-not-spent.ensures)) (here past) (c.loop-taken.invariant.after past held))
          (c.loop-taken.invariant.frames past held old)
          (rw c.in_default.is (sym (append-nil c.loop-taken.frames)));
    }

pub returns-else-not-spent-clause-frames : goal.returns-else-not-spent-clause-frames
returns-else-not-spent-clause-frames c = λ past held old.
    c.loop-taken.invariant.frames past held old
    ∙ sym (frames-rest past c.args.piece.now c.loop-taken.taken c.loop-taken.self.begun (sym c.if-not-spent.ensures) (c.loop-taken.invariant.after past held))

pub returns-else-not-spent-clause-after : goal.returns-else-not-spent-clause-after
returns-else-not-spent-clause-after c = λ past held.
    begun-rest past c.args.piece.now c.loop-taken.taken c.loop-taken.self.begun (sym c.if-not-spent.ensures) (c.loop-taken.invariant.after past held)
