use Rattle.back_links.proofs.MadeThere.{create_makes_new}
use Rattle.back_links.proofs.laws.a_create_makes_a_new_mailbox_there.Goals as goal

pub returns : goal.returns
returns c = create_makes_new
