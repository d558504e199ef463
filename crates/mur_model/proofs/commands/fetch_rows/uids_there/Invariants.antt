use Rattle.std.proofs.Common.{◌≡◌, ◌++◌, drop}
use Rattle.std.specs.List.{filter}
use Rattle.mur_model.specs.News.{has_row}
use Rattle.mur_model.proofs.commands.fetch_rows.uids_there.Given as goal

abbrev pub invariant-loop-uid : goal.invariant-loop-uid
invariant-loop-uid l = l.there ++ filter (has_row l.now) (drop l.uid-index l.uids) ≡ filter (has_row l.now) l.uids
