use Rattle.std.proofs.Common.{◌≡◌, ◌++◌, drop}
use Rattle.imap_text.specs.Strings.{escaped_text}
use Rattle.imap_text.proofs.strings.put_escaped_text.Given as goal

-- what is printed so far and the characters that are left make the whole text
abbrev pub invariant-loop-byte : goal.invariant-loop-byte
invariant-loop-byte l = l.out ++ escaped_text (drop l.byte-index l.text) ≡ l.initial.out ++ escaped_text l.text
