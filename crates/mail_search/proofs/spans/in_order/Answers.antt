use Rattle.std.proofs.Common.{rules}
use Rattle.std.proofs.lemmas.List.Sorted.{IsNonDecreasingBy-from_sort_by_key}
use Rattle.mail_search.specs.declared.spans.Span.{Span}
use Rattle.mail_search.specs.Spans.{AreRisingSpans}
use Rattle.mail_search.proofs.SpanLaws.{in_order}
use Rattle.mail_search.proofs.spans.in_order.Goals as goal

pub returns : goal.returns
returns c =
    let sort = c.sort_unstable_by_key.ensures in
    let rising : AreRisingSpans c.sort_unstable_by_key.new.self.items =
    IsNonDecreasingBy-from_sort_by_key (λ (span : Span). span.first) _ sort.sorted (λ a r q k. search rules) in
    rw (c.in_ok-reaching.ensures, c.deref.ensures.value)
    (in_order c.args.set.now _ (rw c.in_ok-spans.ensures at sort.permutation) rising)
