use Rattle.std.proofs.Common.{◌≡◌, ◌++◌, drop}
use Rattle.mur_model.specs.FetchRows.{row_lines}
use Rattle.mur_model.proofs.commands.fetch_rows.put_row_lines.Given as goal

abbrev pub invariant-loop-uid : goal.invariant-loop-uid
invariant-loop-uid l = l.lines ++ row_lines l.items l.rows l.now (drop l.uid-index l.uids) ≡ l.initial.lines ++ row_lines l.items l.rows l.now l.uids
