use Rattle.schedule_text.proofs.schedule.rows.event_in.Goals as goal

pub returns-in-Data : goal.returns-in-Data
returns-in-Data c = rw c.in-Data.is (c.data_in.ensures c.args.config.now)

pub returns-in-Deliver : goal.returns-in-Deliver
returns-in-Deliver c = rw c.in-Deliver.is (c.deliver_in.ensures c.args.so_far.now.events)

pub returns-in-Cut : goal.returns-in-Cut
returns-in-Cut c = rw c.in-Cut.is (c.cut_in.ensures c.args.so_far.now.events)

pub returns-in-Join : goal.returns-in-Join
returns-in-Join c = rw c.in-Join.is (c.join_in.ensures c.args.so_far.now.events)
