use Rattle.std.proofs.Common.{◌≡◌, drop}
use Rattle.std.specs.List.{fold}
use Rattle.mail_batch.specs.Sweeps.{after_sending}
use Rattle.mail_batch.proofs.sweep.Sweep.settle_all.Given as goal

abbrev pub invariant-loop-change : goal.invariant-loop-change
invariant-loop-change l = fold after_sending l.self (drop l.change-index l.changes) ≡ fold after_sending l.initial.self l.changes
