use Rattle.std.proofs.Common.{ap, inl, Ok, subst, sym}
use Rattle.node_record.specs.BackendEntries.{backend_entry}
use Rattle.node_record.specs.Ruled.{IsBackendRecord}
use Rattle.node_record.specs.Stored.{IsFirstBad}
use Rattle.node_record.proofs.BackendLaw.{stored_backend}
use Rattle.node_record.proofs.DecodeLaw.{exact_form, is_spelled, is_stored, left_within, first_bad, same_place}
use Rattle.node_record.proofs.backend.decode_backend.Goals as goal

pub whole_of-requires : goal.whole_of-requires
whole_of-requires c = exact_form IsBackendRecord backend_entry stored_backend

pub overflow_sub-result : goal.overflow_sub-result
overflow_sub-result c =
    left_within IsBackendRecord backend_entry stored_backend c.args.bytes.now c.in-Err-Stopped.stop.left (c.whole_of.ensures.stops c.in-Err-Stopped.stop (cc))

pub returns-in-Ok-clause-found : goal.returns-in-Ok-clause-found
returns-in-Ok-clause-found c = is_stored IsBackendRecord backend_entry stored_backend c.args.bytes.now c.in-Ok.entry (c.whole_of.ensures.found c.in-Ok.entry (cc))

pub returns-in-Ok-clause-only : goal.returns-in-Ok-clause-only
returns-in-Ok-clause-only c = λ entry is.
    inl (ap Ok ((c.whole_of.ensures.only entry (is_spelled IsBackendRecord backend_entry stored_backend c.args.bytes.now entry is)).0 c.in-Ok.entry (cc)))

pub returns-in-Err-Stopped-clause-only : goal.returns-in-Err-Stopped-clause-only
returns-in-Err-Stopped-clause-only c = λ entry is.
    absurd ((c.whole_of.ensures.only entry (is_spelled IsBackendRecord backend_entry stored_backend c.args.bytes.now entry is)).1 c.in-Err-Stopped.stop (cc))

pub returns-in-Err-Stopped-clause-bad : goal.returns-in-Err-Stopped-clause-bad
returns-in-Err-Stopped-clause-bad c = λ at e.
    subst (IsFirstBad IsBackendRecord backend_entry c.args.bytes.now) (same_place e)
    (first_bad IsBackendRecord backend_entry stored_backend c.args.bytes.now c.in-Err-Stopped.stop.left (c.whole_of.ensures.stops c.in-Err-Stopped.stop (cc)))
