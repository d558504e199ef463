use Rattle.std.proofs.Common.{◌≡◌, ◌++◌, drop}
use Rattle.mur_model.specs.SearchRows.{bare_at}
use Rattle.mur_model.proofs.commands.search_rows.bare_at.Given as goal

abbrev pub invariant-loop-uid : goal.invariant-loop-uid
invariant-loop-uid l = l.messages ++ bare_at l.rows (drop l.uid-index l.uids) ≡ bare_at l.rows l.uids
