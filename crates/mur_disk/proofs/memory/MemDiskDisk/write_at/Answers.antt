use Rattle.mur_disk.specs.Calls.{Wrote}
use Rattle.mur_disk.proofs.Clock.{elapses_to}
use Rattle.mur_disk.proofs.Done.{tears_more, reads_more, reads_image}
use Rattle.mur_disk.proofs.memory.MemDiskDisk.write_at.Goals as goal

pub invariant_of-self-2 : goal.invariant_of-self-2
invariant_of-self-2 c =
    let reads = reads_more (Wrote c.args.at c.args.piece.now) c.args.self.now.held c.write.new.self c.in_ok-write.ensures.ok c.args.self.now.reads in
    record { fits = c.in_ok-write.ensures.fits; reads = reads; reads_one = ∣ reads_image c.write.new.self reads ∣₁ }

pub returns-clause-crash : goal.returns-clause-crash
returns-clause-crash c = tears_more (Wrote c.args.at c.args.piece.now) c.args.self.now.held c.write.new.self c.in_ok-write.ensures.ok

pub returns-clause-time : goal.returns-clause-time
returns-clause-time c = elapses_to c.args.self.now.past.moments c.then-past.result.moments c.args.self.now.held c.write.new.self c.then-past.ensures
