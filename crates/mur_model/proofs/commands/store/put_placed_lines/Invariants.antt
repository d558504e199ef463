use Rattle.std.proofs.Common.{◌≡◌, ◌++◌, drop}
use Rattle.mur_model.specs.StoredLines.{placed_lines}
use Rattle.mur_model.proofs.commands.store.put_placed_lines.Given as goal

abbrev pub invariant-loop-change : goal.invariant-loop-change
invariant-loop-change l = l.lines ++ placed_lines l.by_uid 0 l.rows (drop l.change-index l.changes) ≡ l.initial.lines ++ placed_lines l.by_uid 0 l.rows l.changes
