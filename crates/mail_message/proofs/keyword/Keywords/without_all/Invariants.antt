use Rattle.std.proofs.Common.{◌≡◌, ◌≤◌, length}
use Rattle.std.specs.Slice.Iter.{iter_rest}
use Rattle.mail_message.specs.Keywords.{without_keywords}
use Rattle.mail_message.proofs.keyword.Keywords.without_all.Given as goal

abbrev pub invariant-loop-keyword : goal.invariant-loop-keyword
invariant-loop-keyword l = (without_keywords l.left (iter_rest l.keyword-iterator) ≡ without_keywords l.self l.others) × (length l.left ≤ length l.self)
