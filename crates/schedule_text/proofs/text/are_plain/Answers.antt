use Rattle.std.proofs.Common.{arith}
use Rattle.std.proofs.lemmas.Bool.{and_parts}
use Rattle.schedule_text.proofs.PutLaws.{plain_more}
use Rattle.schedule_text.proofs.text.are_plain.Goals as goal

pub loop-byte-preserved : goal.loop-byte-preserved
loop-byte-preserved c h =
    let both = and_parts c.loop-byte.all c.is_plain-all.result h in
    plain_more c.args.bytes.now c.loop-byte.byte-index (omega arith) (c.loop-byte.invariant both.0) (c.is_plain-all.ensures both.1)
