use Rattle.std.proofs.Common.{◌≡◌, drop, map}
use Rattle.std.specs.List.{list_all}
use Rattle.imap_command.specs.Flags.{any_keyword}
use Rattle.imap_command.proofs.flags.are_keywords.Given as goal

-- the texts that are left decide
abbrev pub invariant-loop-text : goal.invariant-loop-text
invariant-loop-text l =
    list_all any_keyword.whole (map (λ text. text.now) (drop l.text-index l.texts)) ≡ list_all any_keyword.whole (map (λ text. text.now) l.texts)
