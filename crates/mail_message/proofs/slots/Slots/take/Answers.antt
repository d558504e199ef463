use Rattle.std.proofs.Common.{None, sym, subst}
use Rattle.mail_message.specs.Slots.{HasPlace}
use Rattle.mail_message.proofs.NextLaws.{next-with_value}
use Rattle.mail_message.proofs.SlotChanges.{ordered-with_value, keyed-with_value, kept-with_value, filled-taken}
use Rattle.mail_message.proofs.slots.Slots.take.Goals as goal

pub invariant_of-self : goal.invariant_of-self
invariant_of-self c =
    rw c.write.ensures (record {
      ordered = ordered-with_value c.self.inside.map c.args.uid None c.self.invariant.ordered;
      keyed = keyed-with_value c.self.inside.map c.args.uid None tt c.self.invariant.keyed;
      next = next-with_value c.self.inside.map c.args.uid None c.self.invariant.next;
    })

pub returns-clause-messages : goal.returns-clause-messages
returns-clause-messages c =
    rw (c.write.ensures, ← c.self.view_is) (filled-taken c.self.inside.map c.args.uid c.self.invariant.ordered c.self.invariant.keyed)

pub returns-clause-kept : goal.returns-clause-kept
returns-clause-kept c q h =
    rw c.write.ensures (kept-with_value c.self.inside.map c.args.uid None q (subst (λ places. HasPlace places q) (sym c.self.view_is) h))
