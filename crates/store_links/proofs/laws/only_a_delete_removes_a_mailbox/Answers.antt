use Rattle.store_links.proofs.TableLaw.{delete_is_one, others_make_none}
use Rattle.store_links.proofs.laws.only_a_delete_removes_a_mailbox.Goals as goal

pub returns-clause-delete : goal.returns-clause-delete
returns-clause-delete c = delete_is_one

pub returns-clause-others : goal.returns-clause-others
returns-clause-others c = others_make_none
