use Rattle.std.proofs.Common.{◌≤◌}
use Rattle.imap_command.proofs.flags.most_keywords.Given as goal

abbrev pub invariant-loop-byte : goal.invariant-loop-byte
invariant-loop-byte l = l.most ≤ 16
