use Rattle.std.proofs.Common.{◌≡◌, drop}
use Rattle.mail_search.specs.Matching.{all_match}
use Rattle.mail_search.proofs.matching.+keys.Given as goal

abbrev pub invariant-all_match-loop-key : goal.invariant-all_match-loop-key
invariant-all_match-loop-key l = all_match (drop l.key-index l.keys) l.message l.number ≡ all_match l.keys l.message l.number
