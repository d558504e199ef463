use Rattle.std.proofs.Common.{refl}
use Rattle.front_core.specs.Taken.{ways_by}
use Rattle.front_core.proofs.CommandLaws.{asks_fit, lists_fit}
use Rattle.front_core.proofs.connection.Connection.need_behind.Goals as goal

pub waiting_come-requires : goal.waiting_come-requires
waiting_come-requires c = record {
  room = asks_fit c.args.desk.setting.now (ways_by c.args.desk.replica.now.records c.args.desk.master.now c.args.desk.first.now c.args.desk.ups.now)
      c.args.desk.conn c.args.self.now _ c.asks.new.self _ _ _ _ _ _ _ c.in-Waits.is c.replace-stage.ensures.after refl refl c.requires.room
      c.in_ok-asks-in-Home.ensures;
}

pub waiting_come-requires-in-Names : goal.waiting_come-requires-in-Names
waiting_come-requires-in-Names c = record {
  room = lists_fit c.args.desk.setting.now (ways_by c.args.desk.replica.now.records c.args.desk.master.now c.args.desk.first.now c.args.desk.ups.now)
      c.args.desk.conn c.args.self.now _ c.lists.new.self _ _ _ _ _ _ c.in-Waits.is c.replace-stage-in-Names.ensures.after refl refl c.requires.room
      c.in_ok-lists-in-Names.ensures;
}
