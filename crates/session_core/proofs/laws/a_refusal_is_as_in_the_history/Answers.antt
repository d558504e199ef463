use Rattle.session_core.proofs.RefusedLaw.{refused_as_told, refused_list}
use Rattle.session_core.proofs.laws.a_refusal_is_as_in_the_history.Goals as goal

pub returns-clause-mailbox : goal.returns-clause-mailbox
returns-clause-mailbox c = refused_as_told

pub returns-clause-names : goal.returns-clause-names
returns-clause-names c = refused_list
