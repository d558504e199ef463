use Rattle.std.proofs.Common.{ap, arith, length, length-take}
use Rattle.mur_disk.specs.Calls.{CutTo}
use Rattle.mur_disk.proofs.Clock.{elapses_to}
use Rattle.mur_disk.proofs.Done.{tears_more, reads_more, reads_image}
use Rattle.mur_disk.proofs.memory.MemDiskDisk.cut.Goals as goal

pub invariant_of-self-2 : goal.invariant_of-self-2
invariant_of-self-2 c =
    let reads = reads_more (CutTo c.args.len) c.args.self.now.held c.cut.new.self c.in_ok-cut.ensures.ok c.args.self.now.reads in
    record {
      fits = omega (arith, ap length c.in_ok-cut.ensures.ok.bytes, length-take c.args.len c.args.self.now.held.bytes, c.args.self.now.fits);
      reads = reads;
      reads_one = ∣ reads_image c.cut.new.self reads ∣₁;
    }

pub returns-clause-crash : goal.returns-clause-crash
returns-clause-crash c = tears_more (CutTo c.args.len) c.args.self.now.held c.cut.new.self c.in_ok-cut.ensures.ok

pub returns-clause-time : goal.returns-clause-time
returns-clause-time c = elapses_to c.args.self.now.past.moments c.then-past.result.moments c.args.self.now.held c.cut.new.self c.then-past.ensures
