use Rattle.std.proofs.Common.{◌≡◌, drop, map}
use Rattle.std.specs.List.{list_any}
use Rattle.grammar.specs.Tables.{is_name}
use Rattle.grammar.proofs.table.some_is.Given as goal

-- the names that are left decide
abbrev pub invariant-loop-name : goal.invariant-loop-name
invariant-loop-name l =
    list_any (λ name. is_name name l.text) (map (λ name. name.now) (drop l.name-index l.table))
    ≡ list_any (λ name. is_name name l.text) (map (λ name. name.now) l.table)
