use Rattle.std.proofs.Common.{sym, subst, refl}
use Rattle.std.specs.Ordering.{nat_cmp}
use Rattle.mur_base.specs.Map.{value_at}
use Rattle.mail_message.specs.Slots.{HasPlace}
use Rattle.mail_message.proofs.SlotChanges.{standing-flags, filled-flags_written, kept-flags}
use Rattle.mail_message.proofs.slots.Slots.set_flags.Goals as goal

pub invariant_of-self : goal.invariant_of-self
invariant_of-self c =
    rw c.write_flags.ensures (standing-flags c.self.inside.map c.args.uid c.args.flags (value_at nat_cmp c.self.inside.map c.args.uid) refl c.self.invariant)

pub returns-clause-messages : goal.returns-clause-messages
returns-clause-messages c =
    rw (c.write_flags.ensures, ← c.self.view_is)
    (filled-flags_written c.self.inside.map c.args.uid c.args.flags (value_at nat_cmp c.self.inside.map c.args.uid) refl c.self.invariant)

pub returns-clause-kept : goal.returns-clause-kept
returns-clause-kept c q h =
    rw c.write_flags.ensures
    (kept-flags c.self.inside.map c.args.uid c.args.flags (value_at nat_cmp c.self.inside.map c.args.uid) q (subst (λ places. HasPlace places q)
    (sym c.self.view_is) h))
