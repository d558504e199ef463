use Rattle.cluster_core.proofs.Runs.RoomLaw.{open_fits}
use Rattle.cluster_core.proofs.happens.open.Goals as goal

pub comes-requires : goal.comes-requires
comes-requires c = open_fits _ _
