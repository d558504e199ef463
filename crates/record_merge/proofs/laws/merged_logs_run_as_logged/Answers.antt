use Rattle.record_merge.proofs.MergedRuns.{merged-runs}
use Rattle.record_merge.proofs.laws.merged_logs_run_as_logged.Goals as goal

pub returns : goal.returns
returns g c = merged-runs g.N.NodeRules.rules
