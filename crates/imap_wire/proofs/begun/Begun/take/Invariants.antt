use Rattle.std.proofs.Common.{◌≡◌, ◌-◌, ◌<◌, length, take, false, None}
use Rattle.imap_wire.specs.Begun.{state_of, TakesFrame}
use Rattle.imap_wire.specs.Bulk.{IsPaid, IsUpTo, most_moves}
use Rattle.imap_wire.specs.Tally.{fed}
use Rattle.imap_wire.proofs.begun.Begun.take.Given as goal

abbrev pub invariant-loop-taken : goal.invariant-loop-taken
invariant-loop-taken l =
    record {
      takes : TakesFrame (state_of l.initial.self) l.piece None l.taken
          (state_of l.self);
      going : l.self.spent ≡ false;
      tally : l.self.kept.tally ≡ fed l.initial.self.kept.tally None l.taken;
      paid : l.taken < length l.piece → IsPaid l.initial.self (take l.taken l.piece) l.self;
      bulk : IsUpTo l.initial.self.kept.moves (most_moves (state_of l.initial.self) (take l.taken l.piece)) l.self.kept.moves;
    }

abbrev pub decreases-loop-taken : goal.decreases-loop-taken
decreases-loop-taken l = length l.piece - l.taken
