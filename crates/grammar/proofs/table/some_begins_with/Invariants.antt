use Rattle.std.proofs.Common.{◌≡◌, [], ◌∷◌, ◌++◌, drop, map}
use Rattle.std.specs.List.{list_any}
use Rattle.grammar.specs.Tables.{starts_name}
use Rattle.grammar.proofs.table.some_begins_with.Given as goal

-- the names that are left decide
abbrev pub invariant-loop-name : goal.invariant-loop-name
invariant-loop-name l =
    list_any (λ name. starts_name name (l.text ++ l.byte ∷ [])) (map (λ name. name.now) (drop l.name-index l.table))
    ≡ list_any (λ name. starts_name name (l.text ++ l.byte ∷ [])) (map (λ name. name.now) l.table)
