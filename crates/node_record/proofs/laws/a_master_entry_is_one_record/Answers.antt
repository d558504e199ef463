use Rattle.node_record.specs.MasterEntries.{master_entry}
use Rattle.node_record.specs.Ruled.{IsMasterRecord}
use Rattle.node_record.proofs.MasterLaw.{stored_master}
use Rattle.node_record.proofs.DecodeLaw.{one_value}
use Rattle.node_record.proofs.laws.a_master_entry_is_one_record.Goals as goal

pub returns : goal.returns
returns c = λ bytes it other one two. one_value IsMasterRecord master_entry stored_master bytes it other one two
