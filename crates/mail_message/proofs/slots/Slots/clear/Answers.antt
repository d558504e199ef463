use Rattle.std.proofs.Common.{◌∙◌, sym}
use Rattle.mail_message.proofs.NextLaws.{next-without_key}
use Rattle.mail_message.proofs.SlotChanges.{keyed-without_key, filled-cleared}
use Rattle.mail_message.proofs.slots.Slots.clear.Goals as goal

pub invariant_of-self : goal.invariant_of-self
invariant_of-self c =
    record {
      ordered = c.remove.ensures.ordered;
      keyed = rw c.remove.ensures.entries (keyed-without_key c.self.inside.map c.args.uid c.self.invariant.keyed);
      next = rw c.remove.ensures.entries (next-without_key c.self.inside.map c.args.uid c.self.invariant.next);
    }

pub returns-then-is_empty : goal.returns-then-is_empty
returns-then-is_empty c =
    rw (c.remove.ensures.entries, ← c.self.view_is)
    (filled-cleared c.self.inside.map c.args.uid (sym c.get.ensures ∙ c.is_empty.ensures c.if-is_empty.true))
