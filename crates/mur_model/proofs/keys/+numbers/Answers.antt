use Rattle.mur_model.proofs.KeysLaw.{group_numbers}
use Rattle.mur_model.proofs.keys.+numbers.Goals as goal

pub has_key_numbers-returns-in-Group : goal.has_key_numbers-returns-in-Group
has_key_numbers-returns-in-Group t c = rw (c.have_all_numbers.ensures, c.as_slice.ensures, c.in-Group.is) (search (group_numbers))
