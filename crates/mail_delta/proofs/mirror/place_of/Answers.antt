use Rattle.std.proofs.Common.{ltb, rules}
use Rattle.std.proofs.lemmas.Bool.{ltb-true, ltb-false}
use Rattle.std.proofs.lemmas.List.Sorted.{IsPartitionedBy-ltb, IsPartitionPoint-from_clause}
use Rattle.mail_message.specs.declared.message.Row.{Row}
use Rattle.mail_delta.proofs.PutLaws.{rising-from}
use Rattle.mail_delta.proofs.mirror.place_of.Goals as goal

pub returns-clause-place : goal.returns-clause-place
returns-clause-place c =
    let place =
    IsPartitionPoint-from_clause (λ (row : Row). ltb row.uid c.args.uid) c.args.rows.now c.partition_point.result
    c.partition_point.ensures.partitioned
    (IsPartitionedBy-ltb (λ (row : Row). row.uid) c.args.rows.now c.args.uid (rising-from c.args.rows.now c.requires))
    (λ a r q k. search rules) in
    (λ k d from below. ltb-true _ _ (place.0 k d from below), λ k d from within. ltb-false _ _ (place.1 k d from within))
