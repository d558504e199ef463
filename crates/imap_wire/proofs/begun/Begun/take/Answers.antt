-- One stretch behind another, until a frame ends.
use Rattle.std.proofs.Common.{None, sym, length, take, drop, length-drop, arith}
use Rattle.std.proofs.lemmas.List.{take_rest, take-append-drop}
use Rattle.std.proofs.Math.Seq.{take-add}
use Rattle.std.proofs.lemmas.Result.{err_from_is_err_and}
use Rattle.imap_wire.specs.Begun.{state_of}
use Rattle.imap_wire.proofs.TakeLaws.{Takes-nothing, Takes-more, Takes-none, Takes-going, none_of}
use Rattle.imap_wire.proofs.TallyLaws.{fed-more, fed-part, more-none}
use Rattle.imap_wire.proofs.BulkLaws.{paid-nothing, paid-more, bulk-end}
use Rattle.imap_wire.proofs.begun.Begun.take.Goals as goal

pub loop-taken-init : goal.loop-taken-init
loop-taken-init c = record {
  takes = Takes-nothing (state_of c.args.self.now) c.args.piece.now;
  going = c.requires.going;
  tally = more-none c.args.self.now.kept.tally c.args.self.now.kept.taken_within c.args.self.now.kept.copied_within;
  paid = λ _. paid-nothing c.args.self.now;
  bulk = (omega arith, omega arith);
}

pub returns-then-is_some-clause-takes : goal.returns-then-is_some-clause-takes
returns-then-is_some-clause-takes c = Takes-more (state_of c.args.self.now) (state_of c.loop-taken.self) _ c.args.piece.now _ _ _ c.loop-taken.invariant.takes
    (rw take_rest at c.in_ok-frame.ensures.takes)

pub returns-then-is_some-clause-tally : goal.returns-then-is_some-clause-tally
returns-then-is_some-clause-tally c =
    fed-more _ c.loop-taken.self.kept.tally _ _ _ _ c.loop-taken.invariant.tally c.in_ok-frame.ensures.tally c.in_ok-frame.ensures.some

pub returns-then-is_some-clause-bulk : goal.returns-then-is_some-clause-bulk
returns-then-is_some-clause-bulk c =
    rw (take-add c.loop-taken.taken c.in_ok-frame.more c.args.piece.now)
    (bulk-end c.args.self.now c.loop-taken.self _ (take c.loop-taken.taken c.args.piece.now) _ _
    (c.loop-taken.invariant.paid c.loop-taken-test.true) c.loop-taken.invariant.bulk.0 c.in_ok-frame.ensures.few)

pub returns-in_err-frame-clause-part : goal.returns-in_err-frame-clause-part
returns-in_err-frame-clause-part c =
    let is_err = err_from_is_err_and c.from_residual.result c.from_residual.ensures.1 in
    let most = bulk-end c.args.self.now c.loop-taken.self c.take_some.new.self.kept.moves
    (take c.loop-taken.taken c.args.piece.now) (drop c.loop-taken.taken c.args.piece.now) None
    (c.loop-taken.invariant.paid c.loop-taken-test.true) c.loop-taken.invariant.bulk.0 c.in_err-frame.ensures.part in
    let whole = rw take-append-drop at most in
    rw is_err.1 (omega arith, omega arith)

pub returns-in_err-frame-clause-memory : goal.returns-in_err-frame-clause-memory
returns-in_err-frame-clause-memory c =
    let is_err = err_from_is_err_and c.from_residual.result c.from_residual.ensures.1 in
    rw is_err.1
    (fed-part c.args.self.now.kept.tally c.loop-taken.self.kept.tally _ c.loop-taken.taken
    (length (drop c.loop-taken.taken c.args.piece.now)) _ c.loop-taken.invariant.tally
    (rw take_rest at c.in_err-frame.ensures.memory) (omega (arith, c.loop-taken.invariant.takes.within, length-drop c.loop-taken.taken c.args.piece.now)))

pub loop-taken-preserved : goal.loop-taken-preserved
loop-taken-preserved c =
    let none = Takes-none (state_of c.loop-taken.self) (state_of c.take_some.new.self) _ c.in_ok-frame.frame _ (sym c.if-is_some.ensures)
    (rw take_rest at c.in_ok-frame.ensures.takes) in
    record {
      takes = Takes-more (state_of c.args.self.now) (state_of c.loop-taken.self)
          (state_of c.take_some.new.self) c.args.piece.now _ _ _ c.loop-taken.invariant.takes none;
      going = Takes-going (state_of c.loop-taken.self) (state_of c.take_some.new.self) _ _ c.loop-taken.invariant.going none;
      tally = fed-more c.args.self.now.kept.tally c.loop-taken.self.kept.tally c.take_some.new.self.kept.tally None
          c.loop-taken.taken c.in_ok-frame.more c.loop-taken.invariant.tally
          (rw (none_of c.in_ok-frame.frame (sym c.if-is_some.ensures)) at c.in_ok-frame.ensures.tally) c.in_ok-frame.ensures.some;
      paid = λ within.
          paid-more c.args.self.now c.loop-taken.self c.take_some.new.self c.args.piece.now c.loop-taken.taken c.in_ok-frame.more
          c.loop-taken.invariant.takes.within c.loop-taken.invariant.takes.arrives (c.loop-taken.invariant.paid c.loop-taken-test.true)
          (rw take_rest at (c.in_ok-frame.ensures.paid (none_of c.in_ok-frame.frame (sym c.if-is_some.ensures))
          (omega (arith, length-drop c.loop-taken.taken c.args.piece.now))));
      bulk =
          let most = bulk-end c.args.self.now c.loop-taken.self c.take_some.new.self.kept.moves (take c.loop-taken.taken c.args.piece.now)
          (take c.in_ok-frame.more (drop c.loop-taken.taken c.args.piece.now)) None
          (c.loop-taken.invariant.paid c.loop-taken-test.true) c.loop-taken.invariant.bulk.0
          (rw (none_of c.in_ok-frame.frame (sym c.if-is_some.ensures)) at c.in_ok-frame.ensures.few) in
          rw (take-add c.loop-taken.taken c.in_ok-frame.more c.args.piece.now) (omega arith, omega arith);
    }
