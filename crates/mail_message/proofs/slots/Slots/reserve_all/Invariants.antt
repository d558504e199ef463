use Rattle.std.proofs.Common.{◌≡◌, take}
use Rattle.std.specs.Prelude.{All}
use Rattle.mail_message.specs.Slots.{filled, HasPlaceFor}
use Rattle.mail_message.proofs.slots.Slots.reserve_all.Given as goal

abbrev pub invariant-loop-change : goal.invariant-loop-change
invariant-loop-change l = record {
  same : filled l.self ≡ filled l.initial.self;
  places : All (HasPlaceFor l.self) (take l.change-index l.changes);
}
