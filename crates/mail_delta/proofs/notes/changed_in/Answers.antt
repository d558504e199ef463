use Rattle.std.proofs.Common.{◌≡◌, [], sym, subst, arith}
use Rattle.std.specs.Map.Iter.{deref_pair}
use Rattle.std.proofs.lemmas.Map.Iter.{rest_all}
use Rattle.std.proofs.lemmas.Grind.{common_steps}
use Rattle.mail_message.specs.RowOrder.{AreRising}
use Rattle.mail_delta.specs.Notes.{changed_in}
use Rattle.mail_delta.proofs.ToldLaws.{rising-changed}
use Rattle.mail_delta.proofs.notes.changed_in.Goals as goal

pub from_rising-requires : goal.from_rising-requires
from_rising-requires c =
    let none : c.loop-uid.uid-iterator ≡ [] = rest_all deref_pair _ _ _ c.in-None.is c.next.ensures.steps in
    let is : c.loop-uid.changed ≡ changed_in c.args.content.now c.args.notes.now = grind (arith, common_steps, none, c.loop-uid.invariant.changed) in
    record {
      rising = subst AreRising (sym is) (rising-changed c.args.content.now c.args.notes.now c.iter-uid-items.ensures.ordered);
      next = c.loop-uid.invariant.next;
    }
