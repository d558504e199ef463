use Rattle.std.proofs.Common.{◌≡◌}
use Rattle.std.specs.List.{fold}
use Rattle.std.specs.Vec.Iter.{into_iter_items}
use Rattle.mail_message.specs.Boxes.{messages_after, next_after}
use Rattle.mail_message.specs.Slots.{filled, HasPlaces}
use Rattle.mail_message.proofs.mail_box.carry_out_all.Given as goal

abbrev pub invariant-loop-change : goal.invariant-loop-change
invariant-loop-change l = record {
  messages : fold messages_after (filled l.slots) (into_iter_items l.change-iterator) ≡ fold messages_after (filled l.initial.slots) l.fn.changes.items;
  next : fold next_after l.next (into_iter_items l.change-iterator) ≡ fold next_after l.initial.next l.fn.changes.items;
  places : HasPlaces l.slots (into_iter_items l.change-iterator);
}
