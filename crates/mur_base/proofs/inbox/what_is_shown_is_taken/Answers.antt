use Rattle.mur_base.proofs.InboxLaw.{what_is_shown}
use Rattle.mur_base.proofs.inbox.what_is_shown_is_taken.Goals as goal

pub returns : goal.returns
returns c = what_is_shown
