use Rattle.asking_core.proofs.WaitingLaw.{refused_by_answer, refused_behind_ok}
use Rattle.asking_core.proofs.laws.a_refusal_has_its_cause.Goals as goal

pub returns-clause-answered : goal.returns-clause-answered
returns-clause-answered c = refused_by_answer

pub returns-clause-cleared : goal.returns-clause-cleared
returns-clause-cleared c = refused_behind_ok
