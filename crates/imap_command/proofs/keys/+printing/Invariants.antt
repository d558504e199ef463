use Rattle.std.proofs.Common.{◌≡◌, ◌++◌, drop}
use Rattle.imap_command.proofs.KeySteps.{left_text}
use Rattle.imap_command.proofs.keys.+printing.Given as goal

-- what is printed, and the text of the keys that are left, are the text of all
abbrev pub invariant-put_keys-loop-i : goal.invariant-put_keys-loop-i
invariant-put_keys-loop-i l = l.out ++ left_text l.i (drop l.i l.keys) ≡ l.fn.out ++ left_text 0 l.keys
