use Rattle.std.proofs.Common.{◌≡◌, take}
use Rattle.std.specs.List.{zip}
use Rattle.mail_search.specs.Matching.{all_match}
use Rattle.mail_search.specs.Search.{marks}
use Rattle.mail_search.proofs.marks.+marks.Given as goal

abbrev pub invariant-marks_of_all-loop-key : goal.invariant-marks_of_all-loop-key
invariant-marks_of_all-loop-key l = l.made.items ≡ marks (all_match (take l.key-index l.keys)) (zip l.messages l.numbers)
