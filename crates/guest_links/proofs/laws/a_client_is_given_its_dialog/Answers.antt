use Rattle.guest_links.proofs.Ends.{nobody_at_first}
use Rattle.guest_links.proofs.ServedLaw.{clients_have_their_dialogs}
use Rattle.guest_links.proofs.laws.a_client_is_given_its_dialog.Goals as goal

pub returns-clause-given : goal.returns-clause-given
returns-clause-given c = clients_have_their_dialogs

pub returns-clause-start : goal.returns-clause-start
returns-clause-start c = nobody_at_first
