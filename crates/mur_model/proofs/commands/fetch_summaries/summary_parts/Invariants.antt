use Rattle.std.proofs.Common.{◌≡◌, ◌++◌, map, drop}
use Rattle.mail_message.specs.declared.item.Item.{Item}
use Rattle.mur_model.specs.FetchSummaries.{summary_part}
use Rattle.mur_model.proofs.commands.fetch_summaries.summary_parts.Given as goal

abbrev pub invariant-loop-item : goal.invariant-loop-item
invariant-loop-item l = l.parts ++ map (λ (asked : Item). summary_part asked l.summary) (drop l.item-index l.items)
    ≡ map (λ (asked : Item). summary_part asked l.summary) l.items
