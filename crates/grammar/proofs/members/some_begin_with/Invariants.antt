use Rattle.std.proofs.Common.{◌≡◌, [], ◌∷◌, ◌++◌, drop, map}
use Rattle.std.specs.List.{list_any}
use Rattle.grammar.specs.Members.{begins_with}
use Rattle.grammar.proofs.members.some_begin_with.Given as goal

-- the texts that are left decide
abbrev pub invariant-loop-text : goal.invariant-loop-text
invariant-loop-text l =
    list_any (λ text. begins_with text (l.front ++ l.byte ∷ [])) (map (λ text. text.now) (drop l.text-index l.texts))
    ≡ list_any (λ text. begins_with text (l.front ++ l.byte ∷ [])) (map (λ text. text.now) l.texts)
