use Rattle.node_record.specs.BackendEntries.{backend_entry}
use Rattle.node_record.specs.Ruled.{IsBackendRecord}
use Rattle.node_record.proofs.BackendLaw.{stored_backend}
use Rattle.node_record.proofs.DecodeLaw.{one_value}
use Rattle.node_record.proofs.laws.a_backend_entry_is_one_record.Goals as goal

pub returns : goal.returns
returns c = λ bytes it other one two. one_value IsBackendRecord backend_entry stored_backend bytes it other one two
