use Rattle.std.proofs.Common.{◌≡◌}
use Rattle.std.specs.Slice.Iter.{iter_rest}
use Rattle.mail_message.specs.Keywords.{with_keywords}
use Rattle.mur_model.proofs.commands.select.add_keywords.Given as goal

abbrev pub invariant-loop-keyword : goal.invariant-loop-keyword
invariant-loop-keyword l = with_keywords l.keywords.keys (iter_rest l.keyword-iterator) ≡ with_keywords l.initial.keywords.keys l.more
