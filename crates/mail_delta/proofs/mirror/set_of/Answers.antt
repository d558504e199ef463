use Rattle.std.proofs.Common.{◌+◌, ◌||◌, drop, get_or, sym, ◌∙◌, ap, arith}
use Rattle.std.specs.Option.{is_some}
use Rattle.std.specs.Ordering.{nat_cmp}
use Rattle.mur_base.specs.Map.{value_at}
use Rattle.mail_delta.specs.Deltas.{is_among}
use Rattle.mail_delta.proofs.AwayLaws.{UidSet, set-step}
use Rattle.mail_delta.proofs.LoopLaws.{next_is}
use Rattle.mail_delta.proofs.mirror.set_of.Goals as goal

pub loop-uid-preserved : goal.loop-uid-preserved
loop-uid-preserved c = λ k.
    let i = c.loop-uid.uid-index in let uids = c.args.uids.now in
    ap (λ (set : UidSet). is_some (value_at nat_cmp set k) || is_among (drop (i + 1) uids) k) c.in_ok-insert.ensures.entries
    ∙ set-step c.loop-uid.set (get_or uids i 0) k (drop (i + 1) uids)
    ∙ ap (λ rest. is_some (value_at nat_cmp c.loop-uid.set k) || is_among rest k) (sym (next_is uids i 0 (omega arith)))
    ∙ c.loop-uid.invariant k
