use Rattle.top_call.proofs.ReadBackLaw.{run_read}
use Rattle.top_call.proofs.replay.write_run.Goals as goal

-- src/replay.rt:116:1
pub returns-in-Ok-clause-tells : goal.returns-in-Ok-clause-tells
returns-in-Ok-clause-tells g c = run_read c.args.config c.args.events c.as_slice-nodes.ensures.kept c.run.ensures.one_server
