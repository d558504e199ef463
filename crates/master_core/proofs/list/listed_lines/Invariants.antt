use Rattle.std.proofs.Common.{◌≡◌, ◌++◌, filter, map}
use Rattle.master_core.specs.Records.{is_listed, listed_line}
use Rattle.master_core.proofs.list.listed_lines.Given as goal

-- the lines so far, and those of the records to come
abbrev pub invariant-loop-name : goal.invariant-loop-name
invariant-loop-name l =
    l.lines ++ map listed_line (filter (is_listed l.prefix) l.name-iterator) ≡ map listed_line (filter (is_listed l.prefix) l.table.records)
