use Rattle.record_merge.proofs.StampLaws.{stamps-count}
use Rattle.record_merge.proofs.laws.stamps_stay_within_the_number_of_steps.Goals as goal

pub returns : goal.returns
returns g c = stamps-count g.N.NodeRules.rules
