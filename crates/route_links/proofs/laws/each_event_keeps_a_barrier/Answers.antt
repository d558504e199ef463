use Rattle.route_links.proofs.BarrierLaw.{first, begins, sends_other, hears_one, breaks, comes_up_again, takes, takes_noop, others_are_taken, clients_come_and_go}
use Rattle.route_links.proofs.laws.each_event_keeps_a_barrier.Goals as goal

pub returns-clause-first : goal.returns-clause-first
returns-clause-first c = first

pub returns-clause-begins : goal.returns-clause-begins
returns-clause-begins c = begins

pub returns-clause-sends : goal.returns-clause-sends
returns-clause-sends c = sends_other

pub returns-clause-hears : goal.returns-clause-hears
returns-clause-hears c = hears_one

pub returns-clause-breaks : goal.returns-clause-breaks
returns-clause-breaks c = breaks

pub returns-clause-comes_up : goal.returns-clause-comes_up
returns-clause-comes_up c = comes_up_again

pub returns-clause-takes : goal.returns-clause-takes
returns-clause-takes c = takes

pub returns-clause-answers : goal.returns-clause-answers
returns-clause-answers c = takes_noop

pub returns-clause-others : goal.returns-clause-others
returns-clause-others c = others_are_taken

pub returns-clause-clients : goal.returns-clause-clients
returns-clause-clients c = clients_come_and_go
