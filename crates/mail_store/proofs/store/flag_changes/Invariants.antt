use Rattle.std.proofs.Common.{◌≡◌, ◌++◌, drop}
use Rattle.mail_store.specs.Store.{flag_changes}
use Rattle.mail_store.proofs.store.flag_changes.Given as goal

abbrev pub invariant-loop-row : goal.invariant-loop-row
invariant-loop-row l = l.changes ++ flag_changes (drop l.row-index l.rows) ≡ flag_changes l.rows
