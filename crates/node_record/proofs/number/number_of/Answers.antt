use Rattle.std.proofs.Common.{arith}
use Rattle.node_record.proofs.NumberSteps.{number_read, number_stops}
use Rattle.node_record.proofs.number.number_of.Goals as goal

pub returns-then-bytes-lt4 : goal.returns-then-bytes-lt4
returns-then-bytes-lt4 c = number_stops c.args.bytes.now c.type_inv.bytes (omega arith)

pub returns : goal.returns
returns c = number_read c.args.bytes.now c.type_inv.bytes c.from_be_bytes-number.result (omega arith) c.from_be_bytes-number.ensures
