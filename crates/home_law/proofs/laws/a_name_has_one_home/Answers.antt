use Rattle.home_law.proofs.Law.{keeps_name_law}
use Rattle.home_law.proofs.laws.a_name_has_one_home.Goals as goal

pub returns : goal.returns
returns c = keeps_name_law
