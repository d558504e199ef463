use Rattle.std.proofs.Common.{◌≡◌, ◌++◌, drop}
use Rattle.imap_reply.specs.StatusLine.{more_counts_text}
use Rattle.imap_reply.proofs.status.put_more_counts.Given as goal

-- what is written so far and the counts that are left make the whole text
abbrev pub invariant-loop-count : goal.invariant-loop-count
invariant-loop-count l = l.out ++ more_counts_text (drop l.count-index l.counts) ≡ l.initial.out ++ more_counts_text l.counts
