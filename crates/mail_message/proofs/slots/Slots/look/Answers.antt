use Rattle.std.proofs.Common.{◌≡◌, ◌+◌, ◌-◌, ◌^◌, min, [], ◌∷◌, ◌++◌, map, length, Some, ◌∙◌, sym, subst, arith}
use Rattle.std.specs.List.{sum_by}
use Rattle.std.specs.Map.Iter.{deref_pair}
use Rattle.std.proofs.lemmas.Map.Iter.{rest_all, rest_more}
use Rattle.mail_message.specs.Boxes.{row_of, IsRising}
use Rattle.mail_message.specs.Slots.{filled}
use Rattle.mail_message.specs.RowOrder.{AreRising, HaveNext}
use Rattle.mail_message.proofs.NextLaws.{next-rows}
use Rattle.mail_message.proofs.NextRows.{next-middle}
use Rattle.mail_message.proofs.RowLaws.{rising-rows, above-next}
use Rattle.mail_message.proofs.SlotLaws.{rising-filled}
use Rattle.mail_message.proofs.slots.Slots.look.Goals as goal

pub returns-clause-size : goal.returns-clause-size
returns-clause-size c =
    let none : c.loop-uid._uid-iterator ≡ [] = rest_all deref_pair _ _ _ c.in-None.is c.next.ensures.steps in
    let all : min (c.loop-uid.size + 0) (2 ^ 64 - 1) ≡ min (sum_by (λ message. length message.body) (filled c.args.self.now)) (2 ^ 64 - 1) =
    rw none at c.loop-uid.invariant.size in
    let fits = c.loop-uid.invariant.fits in
    let same : c.loop-uid.size ≡ min (c.loop-uid.size + 0) (2 ^ 64 - 1) = omega (arith, fits) in
    same ∙ all

pub returns-clause-rising : goal.returns-clause-rising
returns-clause-rising c = rw (← c.self.view_is) (rising-filled c.self.inside.map c.self.invariant.ordered c.self.invariant.keyed)

pub push-requires-clause-above : goal.push-requires-clause-above
push-requires-clause-above c =
    let rest : c.loop-uid._uid-iterator ≡ (c.in-Some._uid.now, Some c.in-Some-slot.message) ∷ c.next.new.self =
    rw c.in-Some-slot.is at (rest_more deref_pair _ _ _ (c.in-Some._uid, c.in-Some.slot) c.in-Some.is c.next.ensures.steps) in
    let all : c.loop-uid.rows ++ row_of c.in-Some-slot.message ∷ map row_of (filled c.next.new.self) ≡ map row_of (filled c.args.self.now) =
    rw rest at c.loop-uid.invariant.rows in
    let messages : IsRising (filled c.args.self.now) =
    rw (← c.self.view_is) (rising-filled c.self.inside.map c.self.invariant.ordered c.self.invariant.keyed) in
    let rising = rising-rows (filled c.args.self.now) messages in
    rw c.in_ok-row.ensures
    (above-next c.loop-uid.rows (map row_of (filled c.next.new.self)) (row_of c.in-Some-slot.message) (subst AreRising (sym all) rising))

pub push-requires-clause-next : goal.push-requires-clause-next
push-requires-clause-next c =
    let rest : c.loop-uid._uid-iterator ≡ (c.in-Some._uid.now, Some c.in-Some-slot.message) ∷ c.next.new.self =
    rw c.in-Some-slot.is at (rest_more deref_pair _ _ _ (c.in-Some._uid, c.in-Some.slot) c.in-Some.is c.next.ensures.steps) in
    let all : c.loop-uid.rows ++ row_of c.in-Some-slot.message ∷ map row_of (filled c.next.new.self) ≡ map row_of (filled c.args.self.now) =
    rw rest at c.loop-uid.invariant.rows in
    let next : HaveNext (map row_of (filled c.args.self.now)) = rw (← c.self.view_is) (next-rows c.self.inside.map c.self.invariant.keyed c.self.invariant.next) in
    rw c.in_ok-row.ensures
    (next-middle c.loop-uid.rows (map row_of (filled c.next.new.self)) (row_of c.in-Some-slot.message) (subst HaveNext (sym all) next))
