use Rattle.mur_journal.proofs.journal.Journal.into_disk.Goals as goal

pub returns-clause-still : goal.returns-clause-still
returns-clause-still g c whole told = (c.args.self.settled whole told).durable
