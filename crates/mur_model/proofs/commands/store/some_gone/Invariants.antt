use Rattle.std.proofs.Common.{◌≡◌, drop}
use Rattle.mur_model.specs.StoreFlags.{some_gone}
use Rattle.mur_model.proofs.commands.store.some_gone.Given as goal

abbrev pub invariant-loop-uid : goal.invariant-loop-uid
invariant-loop-uid l = some_gone l.now (drop l.uid-index l.uids) ≡ some_gone l.now l.uids
