use Rattle.backend_core.proofs.NewUids.{append_gives_new}
use Rattle.backend_core.proofs.NoneLost.{append_finds_free, append_loses_none}
use Rattle.backend_core.proofs.laws.no_uid_is_given_twice.Goals as goal

pub returns-clause-new : goal.returns-clause-new
returns-clause-new c = append_gives_new

pub returns-clause-fresh : goal.returns-clause-fresh
returns-clause-fresh c = append_finds_free

pub returns-clause-kept : goal.returns-clause-kept
returns-clause-kept c = append_loses_none
