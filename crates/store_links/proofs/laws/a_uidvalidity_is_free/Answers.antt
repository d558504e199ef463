use Rattle.store_links.proofs.GivenLaw.{new_is_free, given_are_low}
use Rattle.store_links.proofs.laws.a_uidvalidity_is_free.Goals as goal

pub returns-clause-free : goal.returns-clause-free
returns-clause-free c = new_is_free

pub returns-clause-low : goal.returns-clause-low
returns-clause-low c = given_are_low
