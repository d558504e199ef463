use Rattle.std.proofs.Common.{arith}
use Rattle.text_parts.proofs.PlaceLaw.{server_is_node}
use Rattle.text_parts.proofs.locations.texts_of.Goals as goal

pub returns-clause-named : goal.returns-clause-named
returns-clause-named c = server_is_node _ _ c.in_ok-server.server.now (omega arith) (omega arith) c.in_ok-server.ensures.whole
