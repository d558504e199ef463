use Rattle.std.proofs.Common.{◌≡◌, ◌++◌}
use Rattle.std.specs.List.{flat_map}
use Rattle.master_core.specs.Records.{record_lines}
use Rattle.master_core.proofs.update.all_lines.Given as goal

-- the lines so far, and those of the records to come
abbrev pub invariant-loop-name : goal.invariant-loop-name
invariant-loop-name l = l.lines ++ flat_map record_lines l.name-iterator ≡ flat_map record_lines l.table.records
