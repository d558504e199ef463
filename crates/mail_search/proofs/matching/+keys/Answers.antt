use Rattle.mail_search.proofs.GroupLaw.{group-matches}
use Rattle.mail_search.proofs.matching.+keys.Goals as goal

pub key_matches-returns-in-Group : goal.key_matches-returns-in-Group
key_matches-returns-in-Group t c = rw (c.all_match.ensures, c.as_slice-in-Group.ensures, c.in-Group.is) (search (group-matches))
