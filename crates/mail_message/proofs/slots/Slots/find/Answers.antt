use Rattle.std.proofs.Common.{◌≡◌, ◌∙◌, Bor, Option, None, Some, sym, ap, subst}
use Rattle.std.specs.Option.{option_copied, IfSome}
use Rattle.mail_message.specs.declared.message.Message.{Message}
use Rattle.mail_message.specs.Boxes.{message_at}
use Rattle.mail_message.specs.RowOrder.{HasNext}
use Rattle.mail_message.specs.Slots.{filled, flat}
use Rattle.mail_message.proofs.NextLaws.{next-rows, next-found}
use Rattle.mail_message.proofs.SlotLaws.{message_at-filled}
use Rattle.mail_message.proofs.slots.Slots.find.Goals as goal

pub returns-clause-message : goal.returns-clause-message
returns-clause-message c =
    rw (← c.self.view_is)
    (c.message_in.ensures ∙ ap flat c.get.ensures ∙ sym (message_at-filled c.self.inside.map c.args.uid c.self.invariant.ordered c.self.invariant.keyed))

copied_next : (found : Option (Bor Message)) (message : Option Message) → option_copied found ≡ message
    → IfSome message (λ it. HasNext it.uid) → IfSome found (λ it. HasNext it.now.uid)
copied_next None message is next = tt
copied_next (Some it) message is next = subst (λ found. IfSome found (λ it. HasNext it.uid)) (sym is) next

pub returns-clause-next : goal.returns-clause-next
returns-clause-next c =
    let places = c.self.inside.map in
    let next = next-found (filled places) c.args.uid (next-rows places c.self.invariant.keyed c.self.invariant.next) in
    copied_next c.message_in.result (message_at (filled places) c.args.uid) (rw (← c.self.view_is) at (returns-clause-message c)) next
