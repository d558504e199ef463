use Rattle.std.proofs.Common.{◌≤◌, ◌<◌, ◌^◌, length, ap, sym, ◌∙◌, subst, arith}
use Rattle.std.specs.Map.Iter.{deref_pair}
use Rattle.std.proofs.lemmas.Map.Iter.{rest_more}
use Rattle.mail_message.specs.Slots.{filled}
use Rattle.mail_message.proofs.SlotLaws.{length-filled, one_more}
use Rattle.mail_message.proofs.slots.Slots.len.Goals as goal

pub overflow_add-count : goal.overflow_add-count
overflow_add-count c =
    let next = rest_more deref_pair _ _ _ _ c.in-Some.is c.next.ensures.steps in
    let more = one_more c.in-Some.slot.now (filled c.next.new.self) (sym c.is_some.ensures ∙ c.if-is_some.true) in
    let left = ap (λ places. length (filled places)) next in
    let all = c.loop-uid.invariant in
    let most = subst (λ places. length (filled places) ≤ length places) c.self.view_is (length-filled c.self.inside.map) in
    let places = c.len-places.ensures in
    let same = ap length c.self.view_is in
    let small : c.len-places.result < 2 ^ 64 = c.len-places.type_inv in
    omega (arith, more, left, all, most, places, same, small)
