use Rattle.std.proofs.Common.{◌≡◌, drop}
use Rattle.mur_model.specs.SearchRows.{are_keys_in_rows}
use Rattle.mur_model.proofs.commands.search_rows.+rows.Given as goal

abbrev pub invariant-are_keys_in_rows-loop-key : goal.invariant-are_keys_in_rows-loop-key
invariant-are_keys_in_rows-loop-key l = are_keys_in_rows (drop l.key-index l.keys) ≡ are_keys_in_rows l.keys
