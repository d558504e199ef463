use Rattle.store_links.proofs.CreateLaw.{create_is_one}
use Rattle.store_links.proofs.laws.an_activate_is_a_create.Goals as goal

pub returns : goal.returns
returns c = create_is_one
