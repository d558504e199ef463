use Rattle.std.proofs.Common.{◌≡◌, ◌++◌, drop}
use Rattle.std.specs.List.{zip}
use Rattle.mail_search.specs.Matching.{key_matches}
use Rattle.mail_search.specs.Search.{marks}
use Rattle.mail_search.proofs.marks.marks_by.Given as goal

abbrev pub invariant-loop-at : goal.invariant-loop-at
invariant-loop-at l =
    l.made.items ++ marks (key_matches l.key) (zip (drop l.at l.messages) (drop l.at l.numbers)) ≡ marks (key_matches l.key) (zip l.messages l.numbers)
