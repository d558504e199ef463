use Rattle.name_flows.proofs.HeardLaw.{heard_as_one}
use Rattle.name_flows.proofs.laws.a_response_is_one_of_each_name.Goals as goal

pub returns : goal.returns
returns c = heard_as_one
