use Rattle.name_flows.proofs.AskedLaw.{asked_as_one}
use Rattle.name_flows.proofs.laws.an_ask_is_one_of_its_name.Goals as goal

pub returns : goal.returns
returns c = asked_as_one
