use Rattle.std.proofs.Common.{◌≡◌}
use Rattle.std.specs.Slice.Iter.{iter_rest}
use Rattle.mail_message.specs.Keywords.{with_keywords}
use Rattle.mail_message.proofs.keyword.Keywords.with_all.Given as goal

abbrev pub invariant-loop-keyword : goal.invariant-loop-keyword
invariant-loop-keyword l = with_keywords l.all (iter_rest l.keyword-iterator) ≡ with_keywords l.self l.others
