use Rattle.asking_core.proofs.WaitingLaw.{begins_to_ask, begins_as_decided, asks_the_same, cleared_asks_the_same}
use Rattle.asking_core.proofs.laws.a_command_asks_the_same.Goals as goal

pub returns-clause-begins : goal.returns-clause-begins
returns-clause-begins c = begins_to_ask

pub returns-clause-decided : goal.returns-clause-decided
returns-clause-decided c = begins_as_decided

pub returns-clause-answered : goal.returns-clause-answered
returns-clause-answered c = asks_the_same

pub returns-clause-cleared : goal.returns-clause-cleared
returns-clause-cleared c = cleared_asks_the_same
