use Rattle.back_node.specs.NodeLaws.{IsAmong}
use Rattle.back_node.proofs.Said.{none_owed_at_start, step_says}
use Rattle.back_node.proofs.laws.only_the_master_and_those_who_asked_are_told.Goals as goal

pub returns-clause-start : goal.returns-clause-start
returns-clause-start c = λ fronts me master. none_owed_at_start (IsAmong fronts) me master

pub returns-clause-step : goal.returns-clause-step
returns-clause-step c = λ fronts node from message. step_says (IsAmong fronts) node from message
