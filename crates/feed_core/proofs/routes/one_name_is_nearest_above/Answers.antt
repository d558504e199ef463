use Rattle.feed_core.proofs.RoutesLaw.{found_nearest, only_above}
use Rattle.feed_core.proofs.routes.one_name_is_nearest_above.Goals as goal

pub returns-clause-found : goal.returns-clause-found
returns-clause-found c = found_nearest

pub returns-clause-one : goal.returns-clause-one
returns-clause-one c = only_above
