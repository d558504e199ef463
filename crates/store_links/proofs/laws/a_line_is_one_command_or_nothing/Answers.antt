use Rattle.store_links.proofs.LineLaw.{each_is_one}
use Rattle.store_links.proofs.laws.a_line_is_one_command_or_nothing.Goals as goal

pub returns : goal.returns
returns c = each_is_one
