use Rattle.std.proofs.Common.{◌≡◌, ◌++◌, drop}
use Rattle.std.specs.Prelude.{map}
use Rattle.imap_reply.specs.Spaced.{more_spaced}
use Rattle.imap_text.specs.FlagNames.{flag_text}
use Rattle.imap_reply.proofs.flags.put_more_flags.Given as goal

-- what is written so far and the flags that are left make the whole text
abbrev pub invariant-loop-flag : goal.invariant-loop-flag
invariant-loop-flag l = l.out ++ more_spaced (map flag_text (drop l.flag-index l.flags)) ≡ l.initial.out ++ more_spaced (map flag_text l.flags)
