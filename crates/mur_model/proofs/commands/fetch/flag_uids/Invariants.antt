use Rattle.std.proofs.Common.{◌≡◌, ◌++◌, drop}
use Rattle.mur_model.specs.Fetch.{flag_uids}
use Rattle.mur_model.proofs.commands.fetch.flag_uids.Given as goal

abbrev pub invariant-loop-message : goal.invariant-loop-message
invariant-loop-message l = l.uids ++ flag_uids l.it l.now (drop l.message-index l.before) ≡ flag_uids l.it l.now l.before
