use Rattle.std.proofs.Common.{sym}
use Rattle.mur_base.proofs.EmptyLevels.{has_empty_level-from}
use Rattle.mur_base.proofs.name_rules.has_empty_level.Goals as goal

pub loop-byte-init : goal.loop-byte-init
loop-byte-init c = sym (has_empty_level-from c.args.text.now)
