use Rattle.mur_model.proofs.SearchRowsLaw.{group_in_rows}
use Rattle.mur_model.proofs.commands.search_rows.+rows.Goals as goal

pub is_key_in_row-returns-in-Group : goal.is_key_in_row-returns-in-Group
is_key_in_row-returns-in-Group t c = rw (c.are_keys_in_rows.ensures, c.as_slice.ensures, c.in-Group.is) (search (group_in_rows))
