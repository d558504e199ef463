use Rattle.std.proofs.Common.{◌≡◌, ◌++◌, drop}
use Rattle.std.specs.List.{filter}
use Rattle.mail_delta.specs.Deltas.{is_changed}
use Rattle.mail_delta.proofs.changes.changed_rows.Given as goal

abbrev pub invariant-loop-row : goal.invariant-loop-row
invariant-loop-row l = l.changed ++ filter (is_changed l.old) (drop l.row-index l.now) ≡ filter (is_changed l.old) l.now
