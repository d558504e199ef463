use Rattle.std.proofs.Common.{◌++◌}
use Rattle.imap_reply.specs.Sets.{before_runs, runs_of, runs_text}
use Rattle.imap_reply.proofs.SetLaws.{run, makes}
use Rattle.imap_reply.proofs.sets.put_runs.Given as goal

-- what is written so far, the run that has begun and the numbers that are left make the whole text
abbrev pub invariant-loop-next : goal.invariant-loop-next
invariant-loop-next l = makes l.out (l.initial.out ++ runs_text (before_runs (run l.number l.number) (runs_of l.more))) l.first l.last l.more l.next-index
