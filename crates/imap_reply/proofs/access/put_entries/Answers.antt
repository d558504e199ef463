use Rattle.std.proofs.Common.{◌∙◌}
use Rattle.std.proofs.lemmas.Result.{on_ok_weaker}
use Rattle.imap_reply.proofs.AccessLaws.{entry_told, last_told, none_told}
use Rattle.imap_reply.proofs.access.put_entries.Goals as goal

pub loop-identifier-preserved : goal.loop-identifier-preserved
loop-identifier-preserved c =
    rw c.in_ok-put_entry-in-Some-cut.ensures
    (entry_told c.loop-identifier.out _ _ _ _ _ _ c.in-Some.ensures.some c.in-Some-cut.ensures.some c.loop-identifier.invariant)

pub returns-in-None : goal.returns-in-None
returns-in-None c =
    on_ok_weaker c.put_entry-in-None.result
    (λ last. last ∙ last_told c.loop-identifier.out _ _ _ _ _ c.in-Some.ensures.some c.in-None.ensures.none c.loop-identifier.invariant)
    c.put_entry-in-None.ensures

pub returns : goal.returns
returns c = none_told c.loop-identifier.out _ _ _ c.in_default.ensures.none c.loop-identifier.invariant
