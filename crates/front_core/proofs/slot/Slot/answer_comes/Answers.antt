use Rattle.std.proofs.Common.{sym, subst}
use Rattle.front_core.specs.declared.connection.Connection.{Connection}
use Rattle.front_core.specs.declared.slot.Held.{Held}
use Rattle.front_core.specs.Begun.{IsBegun}
use Rattle.front_core.specs.Slots.{IsLive}
use Rattle.front_core.specs.Taken.{Turned, ways_by}
use Rattle.front_core.proofs.BegunLaws.{answer_begun}
use Rattle.front_core.proofs.slot.Slot.answer_comes.Goals as goal

pub of-requires : goal.of-requires
of-requires c = record {
  begun = subst (λ (t : Turned). IsBegun t.connection) (sym c.in_ok-outs-in-Live.ensures)
      (answer_begun c.args.desk.setting.now (ways_by c.args.desk.replica.now.records c.args.desk.master.now c.args.desk.first.now c.args.desk.ups.now) c.args.desk.conn _ c.args.answer
      (subst (λ (x : Connection). IsBegun x) (sym c.deref_mut.ensures.value)
      (subst (λ (h : Held). IsLive h) (sym c.in-Live.ensures.value) c.self.invariant).1));
}
