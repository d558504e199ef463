use Rattle.std.proofs.Common.{refl}
use Rattle.home_law.specs.Steps.{hear}
use Rattle.name_flows.proofs.laws.the_link_is_one_of_each_name.Goals as goal

pub returns-clause-up : goal.returns-clause-up
unfolding hear
returns-clause-up c = λ linked name flows held. refl

pub returns-clause-ended : goal.returns-clause-ended
unfolding hear
returns-clause-ended c = λ linked name flows held. refl
