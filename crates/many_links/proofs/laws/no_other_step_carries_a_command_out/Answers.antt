use Rattle.many_links.proofs.NoneCarried.{clients_carry_none, frontends_carry_none, master_asks_nothing, others_carry_none}
use Rattle.many_links.proofs.laws.no_other_step_carries_a_command_out.Goals as goal

pub returns-clause-others : goal.returns-clause-others
returns-clause-others c = others_carry_none

pub returns-clause-lines : goal.returns-clause-lines
returns-clause-lines c = master_asks_nothing

pub returns-clause-frontends : goal.returns-clause-frontends
returns-clause-frontends c = frontends_carry_none

pub returns-clause-clients : goal.returns-clause-clients
returns-clause-clients c = clients_carry_none
