use Rattle.back_links.proofs.OneHome.{open_is_named, open_at_one}
use Rattle.back_links.proofs.laws.a_name_is_open_at_one_backend.Goals as goal

pub returns-clause-named : goal.returns-clause-named
returns-clause-named c = open_is_named

pub returns-clause-one : goal.returns-clause-one
returns-clause-one c = open_at_one
