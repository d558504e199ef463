use Rattle.guest_links.proofs.Ends.{ends_are_final}
use Rattle.guest_links.proofs.Orders.{watchers_stay_in_order}
use Rattle.guest_links.proofs.OwnLines.{dialog_is_the_masters}
use Rattle.guest_links.proofs.ServedLaw.{each_step_serves, changes_are_of_the_table}
use Rattle.guest_links.proofs.laws.each_step_serves_a_client.Goals as goal

pub returns-clause-serves : goal.returns-clause-serves
returns-clause-serves c = each_step_serves

pub returns-clause-ends : goal.returns-clause-ends
returns-clause-ends c = ends_are_final

pub returns-clause-order : goal.returns-clause-order
returns-clause-order c = watchers_stay_in_order

pub returns-clause-changes : goal.returns-clause-changes
returns-clause-changes c = changes_are_of_the_table

pub returns-clause-dialog : goal.returns-clause-dialog
returns-clause-dialog c = dialog_is_the_masters
