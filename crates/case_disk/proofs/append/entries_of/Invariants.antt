use Rattle.std.proofs.Common.{◌≤◌, ◌^◌, All, length}
use Rattle.case_disk.proofs.append.entries_of.Given as goal

abbrev pub invariant-loop-entry : goal.invariant-loop-entry
invariant-loop-entry l = All (λ entry. length entry ≤ 2 ^ 30) l.entries
