use Rattle.std.proofs.Common.{◌≡◌, ◌+◌, ◌≤◌, length}
use Rattle.std.specs.Map.{keys_of}
use Rattle.mail_batch.specs.Weights.{all_fit_from}
use Rattle.mail_batch.specs.Sweeps.{change_at, fits_one_batch}
use Rattle.mail_batch.proofs.sweep.Sweep.fits.Given as goal

abbrev pub invariant-loop-uid : goal.invariant-loop-uid
invariant-loop-uid l = record {
  rest : all_fit_from (change_at l.self l.content.messages) l.count l.room (keys_of l.uid-iterator) ≡ fits_one_batch l.self l.content.messages;
  few : l.count + length l.uid-iterator ≤ length l.self.left;
}
