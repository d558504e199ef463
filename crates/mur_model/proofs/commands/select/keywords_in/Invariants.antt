use Rattle.std.proofs.Common.{◌≡◌, drop}
use Rattle.std.specs.List.{fold}
use Rattle.mail_message.specs.Keywords.{with_keywords}
use Rattle.mail_message.specs.declared.message.Row.{Row}
use Rattle.mur_model.specs.Select.{keywords_in}
use Rattle.mur_model.proofs.commands.select.keywords_in.Given as goal

abbrev pub invariant-loop-row : goal.invariant-loop-row
invariant-loop-row l = fold (λ keywords (row : Row). with_keywords keywords row.flags.keywords) l.keywords.keys (drop l.row-index l.rows) ≡ keywords_in l.rows
