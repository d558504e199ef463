use Rattle.mail_store.specs.Named.{set_of}
use Rattle.mur_model.proofs.ClientLaw.{client_of}
use Rattle.mur_model.proofs.news.news_of.Goals as goal

pub returns-clause-client : goal.returns-clause-client
returns-clause-client c = client_of c.news_by.result c.args.rows.now c.args.now c.args.expunges (set_of c.args.told.now) c.news_by.ensures
