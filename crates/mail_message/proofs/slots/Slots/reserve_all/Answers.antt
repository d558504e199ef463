use Rattle.std.proofs.Common.{◌∙◌, arith}
use Rattle.mail_message.proofs.BoxLaws.{places-more, places-all}
use Rattle.mail_message.proofs.slots.Slots.reserve_all.Goals as goal

pub loop-change-preserved : goal.loop-change-preserved
loop-change-preserved c = record {
  same = c.in_ok-reserve_for.ensures.same ∙ c.loop-change.invariant.same;
  places = places-more c.loop-change.self c.reserve_for.new.self c.args.changes.now c.loop-change.change-index c.change-item.result
      c.in_ok-reserve_for.ensures.kept
      (omega arith) c.change-item.is c.loop-change.invariant.places c.in_ok-reserve_for.ensures.place;
}

pub returns-clause-places : goal.returns-clause-places
returns-clause-places c =
    places-all c.loop-change.self c.args.changes.now c.loop-change.change-index (omega arith) c.loop-change.invariant.places
