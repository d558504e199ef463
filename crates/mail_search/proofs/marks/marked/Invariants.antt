use Rattle.std.proofs.Common.{◌≡◌, ◌++◌, drop}
use Rattle.std.specs.List.{zip}
use Rattle.mail_search.specs.Search.{marked}
use Rattle.mail_search.proofs.marks.marked.Given as goal

abbrev pub invariant-loop-at : goal.invariant-loop-at
invariant-loop-at l = l.uids ++ marked (zip (drop l.at l.messages) (drop l.at l.marks)) ≡ marked (zip l.messages l.marks)
