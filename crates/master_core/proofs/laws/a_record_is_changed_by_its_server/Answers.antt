use Rattle.master_core.proofs.ServersLaw.{by_line}
use Rattle.master_core.proofs.laws.a_record_is_changed_by_its_server.Goals as goal

pub returns : goal.returns
returns c = λ master from line entry. by_line master from entry line
