use Rattle.std.proofs.Common.{◌≡◌, ◌++◌}
use Rattle.std.specs.Slice.Iter.{iter_rest}
use Rattle.node_record.specs.Parts.{sized_text, members_text}
use Rattle.node_record.proofs.flags.put_keywords.Given as goal

-- what is written so far and the keywords that are left make the whole text
abbrev pub invariant-loop-keyword : goal.invariant-loop-keyword
invariant-loop-keyword l = l.out ++ members_text sized_text (iter_rest l.keyword-iterator) ≡ l.initial.out ++ members_text sized_text l.keywords
