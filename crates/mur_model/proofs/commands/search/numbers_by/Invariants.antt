use Rattle.std.proofs.Common.{◌≡◌, ◌++◌, map, drop}
use Rattle.mur_model.specs.Search.{number_at}
use Rattle.mur_model.proofs.commands.search.numbers_by.Given as goal

abbrev pub invariant-loop-uid : goal.invariant-loop-uid
invariant-loop-uid l = l.numbers ++ map (λ uid. number_at l.rows uid) (drop l.uid-index l.uids) ≡ map (λ uid. number_at l.rows uid) l.uids
