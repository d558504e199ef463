use Rattle.std.proofs.Common.{◌≡◌, ◌++◌, drop}
use Rattle.mail_search.specs.Spans.{spans_of}
use Rattle.mail_search.proofs.spans.spans_of.Given as goal

abbrev pub invariant-loop-part : goal.invariant-loop-part
invariant-loop-part l = l.spans.items ++ spans_of (drop l.part-index l.set) ≡ spans_of l.set
