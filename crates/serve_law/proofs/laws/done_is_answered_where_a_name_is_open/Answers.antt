use Rattle.serve_law.proofs.DoneHere.{done_where_open}
use Rattle.serve_law.proofs.laws.done_is_answered_where_a_name_is_open.Goals as goal

pub returns : goal.returns
returns c = done_where_open
