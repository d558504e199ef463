use Rattle.mur_model.proofs.BoxGone.{one_goes}
use Rattle.mur_model.proofs.commands.delete.take_out.Goals as goal

pub returns : goal.returns
returns c = one_goes c.args.store.now c.remove.new.self c.args.name.now c.iter-ordered.ensures.ordered c.remove.ensures.entries
