use Rattle.mail_batch.proofs.SweepLaws.{same-noted}
use Rattle.mail_batch.proofs.sweep.Sweep.note.Goals as goal

pub returns-clause-err : goal.returns-clause-err
returns-clause-err c =
    rw (← c.self.view_is)
    (same-noted c.insert.result (record { left = c.self.inside.left; known = c.self.inside.known }) c.insert.new.left c.make_place.new.known c.args.uid
    c.in_ok-make_place.ensures.ok c.insert.ensures.err)
