use Rattle.std.proofs.Common.{◌≡◌, ◌++◌, map, drop}
use Rattle.mail_message.specs.Sets.{set_holds}
use Rattle.mail_search.specs.Spans.{AreSpansOf}
use Rattle.mail_search.proofs.spans.marks_of_set.Given as goal

abbrev pub invariant-loop-number : goal.invariant-loop-number
invariant-loop-number l = record {
  order : AreSpansOf l.fn.set l.spans.items;
  marks : l.marks.items ++ map (set_holds l.fn.set) (drop l.number-index l.numbers) ≡ map (set_holds l.fn.set) l.numbers;
}
