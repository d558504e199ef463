use Rattle.std.proofs.Common.{◌≡◌, [], sym, subst, arith}
use Rattle.std.proofs.lemmas.Grind.{common_steps}
use Rattle.mail_message.specs.RowOrder.{AreRising}
use Rattle.mail_store.specs.Store.{stored_rows}
use Rattle.mail_store.proofs.RisingLaw.{rising-stored}
use Rattle.mail_store.proofs.store.rows_after.Goals as goal

pub from_rising-requires : goal.from_rising-requires
from_rising-requires c =
    let none : c.loop-uid.uid-iterator ≡ [] = c.in-None.ensures.steps.0 in
    let is : c.loop-uid.rows ≡ stored_rows c.args.from.now.messages c.args.mode c.args.flags.now c.args.named.now.keys =
    grind (arith, common_steps, none, c.loop-uid.invariant.rows) in
    record {
      rising = subst AreRising (sym is)
          (rising-stored c.args.from.now.messages c.args.mode c.args.flags.now c.args.named.now.keys c.iter-uid-items.ensures.ordered);
      next = c.loop-uid.invariant.next;
    }
