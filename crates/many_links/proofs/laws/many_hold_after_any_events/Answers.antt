use Rattle.many_links.proofs.RunLaw.{runs_hold}
use Rattle.many_links.proofs.laws.many_hold_after_any_events.Goals as goal

pub returns : goal.returns
returns c = runs_hold
