use Rattle.record_merge.proofs.MixLaws.{merged-told}
use Rattle.record_merge.proofs.merging.merge.Goals as goal

pub returns : goal.returns
returns g c are = merged-told c.args.logs c.mixed_all.result are c.mixed_all.ensures
