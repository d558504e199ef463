use Rattle.feed_links.proofs.Begun.{others_leave}
use Rattle.feed_links.proofs.laws.a_node_keeps_its_stream.Goals as goal

pub returns : goal.returns
returns c = others_leave
