use Rattle.std.proofs.Common.{◌≡◌, ◌++◌, drop}
use Rattle.imap_reply.specs.Spaced.{more_spaced}
use Rattle.imap_reply.proofs.spaced.put_more_spaced.Given as goal

-- what is written so far and the texts that are left make the whole text
abbrev pub invariant-loop-text : goal.invariant-loop-text
invariant-loop-text l = l.out ++ more_spaced (drop l.text-index l.texts) ≡ l.initial.out ++ more_spaced l.texts
