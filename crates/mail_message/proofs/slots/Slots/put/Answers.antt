use Rattle.std.proofs.Common.{Some, sym, subst, refl}
use Rattle.mail_message.specs.Slots.{HasPlace}
use Rattle.mail_message.proofs.NextLaws.{next-with_value}
use Rattle.mail_message.proofs.SlotChanges.{ordered-with_value, keyed-with_value, kept-with_value, filled-put}
use Rattle.mail_message.proofs.slots.Slots.put.Goals as goal

pub invariant_of-self : goal.invariant_of-self
invariant_of-self c =
    let m = c.args.message in
    rw c.write.ensures (record {
      ordered = ordered-with_value c.self.inside.map m.uid (Some m) c.self.invariant.ordered;
      keyed = keyed-with_value c.self.inside.map m.uid (Some m) refl c.self.invariant.keyed;
      next = next-with_value c.self.inside.map m.uid (Some m) c.self.invariant.next;
    })

pub returns-clause-messages : goal.returns-clause-messages
returns-clause-messages c =
    let m = c.args.message in
    let there : HasPlace c.self.inside.map m.uid = subst (λ places. HasPlace places m.uid) (sym c.self.view_is) c.requires in
    rw (c.write.ensures, ← c.self.view_is) (filled-put c.self.inside.map m c.self.invariant.ordered c.self.invariant.keyed there)

pub returns-clause-kept : goal.returns-clause-kept
returns-clause-kept c q h =
    let m = c.args.message in
    rw c.write.ensures (kept-with_value c.self.inside.map m.uid (Some m) q (subst (λ places. HasPlace places q) (sym c.self.view_is) h))
