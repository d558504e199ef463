use Rattle.guest_links.proofs.Spelling.{lines_are_read_in_one_way}
use Rattle.guest_links.proofs.WatcherLaw.{watchers_have_the_table}
use Rattle.guest_links.proofs.laws.what_a_watcher_was_told_is_the_table.Goals as goal

pub returns-clause-table : goal.returns-clause-table
returns-clause-table c = watchers_have_the_table

pub returns-clause-one : goal.returns-clause-one
returns-clause-one c = lines_are_read_in_one_way
