use Rattle.std.proofs.Common.{None, ◌-◌, length}
use Rattle.mupdate_codec.specs.Waits.{HasBegunLine, TakesSome}
use Rattle.mupdate_codec.proofs.cutter.Begun.take.Given as goal

-- so many bytes are taken, and no line ends in them
abbrev pub invariant-loop-taken : goal.invariant-loop-taken
invariant-loop-taken l = record {
  takes : TakesSome l.initial.self.bytes l.piece None l.taken l.self.bytes;
  holds : HasBegunLine l.self.bytes l.self.literal_left;
}

abbrev pub decreases-loop-taken : goal.decreases-loop-taken
decreases-loop-taken l = length l.piece - l.taken
