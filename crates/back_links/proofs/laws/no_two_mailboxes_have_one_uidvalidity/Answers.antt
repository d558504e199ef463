use Rattle.back_links.proofs.OneHome.{validities_differ}
use Rattle.back_links.proofs.laws.no_two_mailboxes_have_one_uidvalidity.Goals as goal

pub returns : goal.returns
returns c = validities_differ
