use Rattle.cluster_core.proofs.Whole.HeadlineLaw.{one_server}
use Rattle.cluster_core.proofs.cluster.headline.Goals as goal

pub returns : goal.returns
returns c = one_server
