use Rattle.std.proofs.Common.{◌≡◌, drop, map}
use Rattle.std.specs.List.{list_any}
use Rattle.grammar.specs.Members.{is_same}
use Rattle.grammar.proofs.members.some_are.Given as goal

-- the texts that are left decide
abbrev pub invariant-loop-text : goal.invariant-loop-text
invariant-loop-text l =
    list_any (λ text. is_same text l.other) (map (λ text. text.now) (drop l.text-index l.texts))
    ≡ list_any (λ text. is_same text l.other) (map (λ text. text.now) l.texts)
