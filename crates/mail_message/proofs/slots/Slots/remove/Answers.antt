use Rattle.mail_message.proofs.NextLaws.{next-without_key}
use Rattle.mail_message.proofs.SlotChanges.{keyed-without_key, filled-removed}
use Rattle.mail_message.proofs.slots.Slots.remove.Goals as goal

pub invariant_of-self : goal.invariant_of-self
invariant_of-self c =
    record {
      ordered = c.remove.ensures.ordered;
      keyed = rw c.remove.ensures.entries (keyed-without_key c.self.inside.map c.args.uid c.self.invariant.keyed);
      next = rw c.remove.ensures.entries (next-without_key c.self.inside.map c.args.uid c.self.invariant.next);
    }

pub returns : goal.returns
returns c =
    rw (c.remove.ensures.entries, ← c.self.view_is) (filled-removed c.self.inside.map c.args.uid c.self.invariant.ordered c.self.invariant.keyed)
