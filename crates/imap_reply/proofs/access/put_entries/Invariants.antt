use Rattle.std.proofs.Common.{◌≡◌, ◌++◌, length}
use Rattle.std.specs.List.{slice_split}
use Rattle.imap_reply.specs.AccessLines.{is_tab, entries_text}
use Rattle.imap_reply.proofs.access.put_entries.Given as goal

-- what is written so far and the list that is left make the whole text
abbrev pub invariant-loop-identifier : goal.invariant-loop-identifier
invariant-loop-identifier l = l.out ++ entries_text (slice_split is_tab l.rest) ≡ l.initial.out ++ entries_text (slice_split is_tab l.acl)

abbrev pub decreases-loop-identifier : goal.decreases-loop-identifier
decreases-loop-identifier l = length l.rest
