use Rattle.std.proofs.Common.{◌≡◌, ◌++◌, drop}
use Rattle.mail_search.specs.Spans.{reaching}
use Rattle.mail_search.proofs.spans.reaching.Given as goal

abbrev pub invariant-loop-span : goal.invariant-loop-span
invariant-loop-span l = l.made.items ++ reaching l.end (drop l.span-index l.spans) ≡ reaching 0 l.spans
