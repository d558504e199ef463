use Rattle.std.proofs.Common.{◌≡◌, ◌++◌, map, drop}
use Rattle.mail_message.specs.declared.message.Summary.{Summary}
use Rattle.mur_model.proofs.commands.fetch_summaries.uids_of.Given as goal

abbrev pub invariant-loop-summary : goal.invariant-loop-summary
invariant-loop-summary l =
    l.uids ++ map (λ (summary : Summary). summary.uid) (drop l.summary-index l.summaries) ≡ map (λ (summary : Summary). summary.uid) l.summaries
