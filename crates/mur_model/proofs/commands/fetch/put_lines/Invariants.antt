use Rattle.std.proofs.Common.{◌≡◌, ◌++◌, drop}
use Rattle.mur_model.specs.Fetch.{fetch_lines}
use Rattle.mur_model.proofs.commands.fetch.put_lines.Given as goal

abbrev pub invariant-loop-message : goal.invariant-loop-message
invariant-loop-message l = l.lines ++ fetch_lines l.it l.rows l.now (drop l.message-index l.before) ≡ l.initial.lines ++ fetch_lines l.it l.rows l.now l.before
