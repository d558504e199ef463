use Rattle.std.proofs.Common.{◌≡◌, ◌+◌, ◌-◌, ◌≤◌, length, drop}
use Rattle.front_core.specs.Room.{commands_of}
use Rattle.front_core.specs.Taken.{ways_by}
use Rattle.front_core.proofs.PieceLaws.{rest_comes}
use Rattle.front_core.proofs.connection.Connection.inputs_come.Given as goal

abbrev pub invariant-loop-taken : goal.invariant-loop-taken
invariant-loop-taken l = record {
  within : l.taken ≤ length l.piece;
  turned : rest_comes l.desk.setting.now (ways_by l.desk.replica.now.records l.desk.master.now l.desk.first.now l.desk.ups.now) l.desk.conn l.outs l.self (drop l.taken l.piece)
      ≡ rest_comes l.desk.setting.now (ways_by l.desk.replica.now.records l.desk.master.now l.desk.first.now l.desk.ups.now) l.desk.conn l.initial.outs l.initial.self l.piece;
  commands : commands_of l.self ≤ commands_of l.initial.self + l.taken;
}

abbrev pub decreases-loop-taken : goal.decreases-loop-taken
decreases-loop-taken l = length l.piece - l.taken
