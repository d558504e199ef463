use Rattle.back_links.proofs.BackLaw.{messages_are_served}
use Rattle.back_links.proofs.laws.messages_are_served_meanwhile.Goals as goal

pub returns : goal.returns
returns c = messages_are_served
