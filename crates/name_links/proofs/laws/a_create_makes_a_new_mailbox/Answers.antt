use Rattle.name_links.proofs.MadeLaw.{create_makes_one}
use Rattle.name_links.proofs.laws.a_create_makes_a_new_mailbox.Goals as goal

pub returns : goal.returns
returns c = create_makes_one
