use Rattle.std.proofs.Common.{◌≡◌, ◌≤◌, length}
use Rattle.front_core.specs.Room.{commands_of}
use Rattle.front_core.specs.Taken.{ways_by}
use Rattle.front_core.proofs.WaitingLaws.{waiting_comes}
use Rattle.front_core.proofs.connection.Connection.waiting_come.Given as goal

abbrev pub invariant-loop-self : goal.invariant-loop-self
invariant-loop-self l = record {
  turned : waiting_comes l.desk.setting.now (ways_by l.desk.replica.now.records l.desk.master.now l.desk.first.now l.desk.ups.now) l.desk.conn l.outs l.self ≡ waiting_comes l.desk.setting.now (ways_by l.desk.replica.now.records l.desk.master.now l.desk.first.now l.desk.ups.now) l.desk.conn l.initial.outs l.initial.self;
  commands : commands_of l.self ≤ commands_of l.initial.self;
}

abbrev pub decreases-loop-self : goal.decreases-loop-self
decreases-loop-self l = length l.self.waiting
