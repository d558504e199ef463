use Rattle.std.proofs.Common.{leb, rules}
use Rattle.std.proofs.lemmas.Bool.{leb-true, leb-false}
use Rattle.std.proofs.lemmas.List.Sorted.{IsPartitionedBy-leb, IsPartitionPoint-from_clause}
use Rattle.mail_search.specs.declared.spans.Span.{Span}
use Rattle.mail_search.proofs.spans.place_of.Goals as goal

pub returns-clause-place : goal.returns-clause-place
returns-clause-place c =
    let place =
    IsPartitionPoint-from_clause (λ (span : Span). leb span.first c.args.number) c.args.spans.now c.partition_point.result
    c.partition_point.ensures.partitioned (IsPartitionedBy-leb (λ (span : Span). span.first) c.args.spans.now c.args.number c.requires)
    (λ a r q k. search rules) in
    (λ k d from below. leb-true _ _ (place.0 k d from below), λ k d from within. leb-false _ _ (place.1 k d from within))
