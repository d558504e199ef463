use Rattle.std.proofs.Common.{◌≡◌, ◌++◌, drop, map}
use Rattle.grammar.specs.Forms.{more_text}
use Rattle.imap_command.proofs.flags.put_more_texts.Given as goal

-- what is printed so far and the texts that are left make the whole text
abbrev pub invariant-loop-text : goal.invariant-loop-text
invariant-loop-text l =
    l.out ++ more_text 32 (λ text. text) (map (λ text. text.now) (drop l.text-index l.texts))
    ≡ l.initial.out ++ more_text 32 (λ text. text) (map (λ text. text.now) l.texts)
