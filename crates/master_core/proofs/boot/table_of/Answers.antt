use Rattle.std.proofs.Common.{arith}
use Rattle.node_record.specs.declared.fault.RecordFault.TheVariants.{Bad}
use Rattle.master_core.proofs.BootLaw.{read_nothing, read_more, no_entry, err_is}
use Rattle.master_core.proofs.boot.table_of.Goals as goal

pub loop-entry-init : goal.loop-entry-init
loop-entry-init c = rw c.new-table.ensures read_nothing

pub loop-entry-preserved : goal.loop-entry-preserved
loop-entry-preserved c =
    read_more c.args.entries.now c.loop-entry.entry-index c.entry-item.result c.in-Ok.record c.loop-entry.table c.apply_master.new.table (omega arith)
    c.entry-item.is c.loop-entry.invariant (rw c.as_slice.ensures at c.in-Ok.ensures.found) c.in_ok-apply_master-in-Ok.ensures.ok

pub returns-in-Err-clause-bad : goal.returns-in-Err-clause-bad
returns-in-Err-clause-bad c = λ at e.
    no_entry c.args.entries.now c.loop-entry.entry-index c.entry-item.result at c.loop-entry.table (omega arith) c.entry-item.is c.loop-entry.invariant
    (rw c.as_slice.ensures at (c.in-Err.ensures.bad at (err_is c.in-Err.fault (Bad at) e)))
