use Rattle.std.proofs.Common.{arith}
use Rattle.std.proofs.lemmas.List.{drop_more}
use Rattle.mail_store.proofs.named.set_of.Goals as goal

pub loop-uid-preserved : goal.loop-uid-preserved
loop-uid-preserved c =
    let next = drop_more c.args.uids.now c.loop-uid.uid-index 0 (omega arith) in
    let so_far = c.loop-uid.invariant in
    rw c.in_ok-insert.ensures.keys (rw next at so_far)
