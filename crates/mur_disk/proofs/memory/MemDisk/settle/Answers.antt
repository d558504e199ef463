use Rattle.std.proofs.Common.{sym, subst}
use Rattle.mur_disk.specs.Memory.{MayLeave}
use Rattle.mur_disk.proofs.Clock.{elapses_to}
use Rattle.mur_disk.proofs.Done.{leaves_still, reads_image}
use Rattle.mur_disk.proofs.memory.MemDisk.settle.Goals as goal

pub returns-clause-crash : goal.returns-clause-crash
returns-clause-crash c image left =
    let held = c.args.self.now.held in
    subst (MayLeave held) (sym (leaves_still held.bytes c.settle.new.self c.settle.ensures image left)) (reads_image held c.args.self.now.reads)

pub returns-clause-time : goal.returns-clause-time
returns-clause-time c = elapses_to c.args.self.now.past.moments c.then-past.result.moments c.args.self.now.held c.settle.new.self c.then-past.ensures
