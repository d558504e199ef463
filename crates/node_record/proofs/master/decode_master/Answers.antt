use Rattle.std.proofs.Common.{ap, inl, Ok, subst, sym}
use Rattle.node_record.specs.MasterEntries.{master_entry}
use Rattle.node_record.specs.Ruled.{IsMasterRecord}
use Rattle.node_record.specs.Stored.{IsFirstBad}
use Rattle.node_record.proofs.MasterLaw.{stored_master}
use Rattle.node_record.proofs.DecodeLaw.{exact_form, is_spelled, is_stored, left_within, first_bad, same_place}
use Rattle.node_record.proofs.master.decode_master.Goals as goal

pub whole_of-requires : goal.whole_of-requires
whole_of-requires c = exact_form IsMasterRecord master_entry stored_master

pub overflow_sub-result : goal.overflow_sub-result
overflow_sub-result c =
    left_within IsMasterRecord master_entry stored_master c.args.bytes.now c.in-Err-Stopped.stop.left (c.whole_of.ensures.stops c.in-Err-Stopped.stop (cc))

pub returns-in-Ok-clause-found : goal.returns-in-Ok-clause-found
returns-in-Ok-clause-found c = is_stored IsMasterRecord master_entry stored_master c.args.bytes.now c.in-Ok.entry (c.whole_of.ensures.found c.in-Ok.entry (cc))

pub returns-in-Ok-clause-only : goal.returns-in-Ok-clause-only
returns-in-Ok-clause-only c = λ entry is.
    inl (ap Ok ((c.whole_of.ensures.only entry (is_spelled IsMasterRecord master_entry stored_master c.args.bytes.now entry is)).0 c.in-Ok.entry (cc)))

pub returns-in-Err-Stopped-clause-only : goal.returns-in-Err-Stopped-clause-only
returns-in-Err-Stopped-clause-only c = λ entry is.
    absurd ((c.whole_of.ensures.only entry (is_spelled IsMasterRecord master_entry stored_master c.args.bytes.now entry is)).1 c.in-Err-Stopped.stop (cc))

pub returns-in-Err-Stopped-clause-bad : goal.returns-in-Err-Stopped-clause-bad
returns-in-Err-Stopped-clause-bad c = λ at e.
    subst (IsFirstBad IsMasterRecord master_entry c.args.bytes.now) (same_place e)
    (first_bad IsMasterRecord master_entry stored_master c.args.bytes.now c.in-Err-Stopped.stop.left (c.whole_of.ensures.stops c.in-Err-Stopped.stop (cc)))
