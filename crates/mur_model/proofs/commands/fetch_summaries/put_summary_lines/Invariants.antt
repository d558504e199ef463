use Rattle.std.proofs.Common.{◌≡◌, ◌++◌, drop}
use Rattle.mur_model.specs.FetchSummaries.{summary_lines}
use Rattle.mur_model.proofs.commands.fetch_summaries.put_summary_lines.Given as goal

abbrev pub invariant-loop-summary : goal.invariant-loop-summary
invariant-loop-summary l = l.lines ++ summary_lines l.items l.rows (drop l.summary-index l.summaries) ≡ l.initial.lines ++ summary_lines l.items l.rows l.summaries
