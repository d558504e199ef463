use Rattle.std.proofs.Common.{◌+◌, sym, subst}
use Rattle.mupdate_codec.specs.Waits.{TakesSome}
use Rattle.mupdate_codec.proofs.CutSteps.{takes_on, none_from}
use Rattle.mupdate_codec.proofs.cutter.Begun.take.Goals as goal

pub returns-then-is_some-clause-takes : goal.returns-then-is_some-clause-takes
returns-then-is_some-clause-takes c =
    let inv = c.loop-taken.invariant in
    takes_on c.args.self.now.bytes c.args.piece.now c.loop-taken.self.bytes c.loop-taken.taken c.in_ok-line.more c.in_ok-line.line c.take_some.new.self.bytes
    inv.takes.0 inv.takes.1 c.in_ok-line.ensures.takes

pub loop-taken-preserved : goal.loop-taken-preserved
loop-taken-preserved c =
    let inv = c.loop-taken.invariant in
    record {
      takes = subst (λ line. TakesSome c.args.self.now.bytes c.args.piece.now line (c.loop-taken.taken + c.in_ok-line.more) c.take_some.new.self.bytes)
          (none_from c.in_ok-line.line (sym c.if-is_some.ensures))
          (takes_on c.args.self.now.bytes c.args.piece.now c.loop-taken.self.bytes c.loop-taken.taken c.in_ok-line.more c.in_ok-line.line
          c.take_some.new.self.bytes inv.takes.0 inv.takes.1 c.in_ok-line.ensures.takes);
      holds = c.in_ok-line.ensures.holds;
    }
