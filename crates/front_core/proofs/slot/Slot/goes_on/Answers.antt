use Rattle.std.proofs.Common.{sym, subst}
use Rattle.front_core.specs.declared.connection.Connection.{Connection}
use Rattle.front_core.specs.Begun.{IsBegun}
use Rattle.front_core.specs.Taken.{ways_by}
use Rattle.front_core.proofs.BegunLaws.{inputs_begun, released_begun}
use Rattle.front_core.proofs.slot.Slot.goes_on.Goals as goal

pub of-requires : goal.of-requires
of-requires c = record {
  begun = released_begun (record { connection = c.inputs_come.new.self; outs = c.inputs_come.new.outs }) _ c.in_ok-inputs_come.ensures
      (inputs_begun c.args.desk.setting.now (ways_by c.args.desk.replica.now.records c.args.desk.master.now c.args.desk.first.now c.args.desk.ups.now) c.args.desk.conn _ _
      (subst (λ (x : Connection). IsBegun x) (sym c.deref_mut.ensures.value) c.requires.begun));
}
