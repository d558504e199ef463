use Rattle.std.proofs.Common.{◌≡◌, ◌++◌}
use Rattle.std.specs.Slice.Iter.{iter_rest}
use Rattle.mail_fetch.specs.FlagText.{spaced_names}
use Rattle.mail_fetch.proofs.flags.put_keywords.Given as goal

abbrev pub invariant-loop-keyword : goal.invariant-loop-keyword
invariant-loop-keyword l = l.text ++ spaced_names l.has_begun (iter_rest l.keyword-iterator) ≡ l.initial.text ++ spaced_names l.begun l.keywords
