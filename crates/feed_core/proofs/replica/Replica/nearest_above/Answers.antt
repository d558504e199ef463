use Rattle.std.proofs.Common.{◌≡◌, ◌-◌, take, sym, ap, ◌∙◌, subst, arith}
use Rattle.std.specs.Option.{option_copied}
use Rattle.feed_core.specs.Above.{rec_of_text, HasAbove}
use Rattle.feed_core.proofs.AboveLaw.{found_above}
use Rattle.feed_core.proofs.replica.Replica.nearest_above.Goals as goal

pub returns-in-Some : goal.returns-in-Some
returns-in-Some c =
    let recs = c.args.self.now.records in
    let text = c.as_bytes-text.result.now in
    let at = c.loop-at.at - 1 in
    let has : rec_of_text recs (take at text) ≡ option_copied c.in_ok-rec.field-0 = sym (c.in_ok-rec.ensures {u = tt}) in
    subst (λ name. HasAbove recs name c.in-Some.rec.now) c.as_bytes-text.ensures
    (found_above recs text at c.loop-at.at c.in-Some.rec.now (omega arith) (omega arith) c.loop-at.invariant c.if-text-at-eq46.true (has ∙ ap option_copied c.in-Some.is))
