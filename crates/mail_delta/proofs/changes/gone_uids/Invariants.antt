use Rattle.std.proofs.Common.{◌≡◌, ◌++◌, drop}
use Rattle.mail_delta.specs.Deltas.{gone_of}
use Rattle.mail_delta.proofs.changes.gone_uids.Given as goal

abbrev pub invariant-loop-row : goal.invariant-loop-row
invariant-loop-row l = l.gone ++ gone_of l.now (drop l.row-index l.old) ≡ gone_of l.now l.old
