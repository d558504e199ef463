use Rattle.std.proofs.Common.{◌∙◌, ap}
use Rattle.mur_model.specs.declared.session.Turn.{Turn}
use Rattle.mur_model.specs.Need.{begun_of}
use Rattle.mur_model.specs.Needed.{Turned}
use Rattle.mur_model.proofs.commands.capability.capability.Goals as goal

pub returns : goal.returns
returns c = c.told.ensures ∙ ap (λ (t : Turn). begun_of (Turned t)) c.in_ok-turn.ensures
