use Rattle.text_parts.proofs.PlaceLaw.{short_is_node}
use Rattle.mupdate_codec.proofs.location.quoted_texts.Goals as goal

pub returns-clause-named : goal.returns-clause-named
returns-clause-named c = short_is_node c.in_ok-server.server.now c.in_ok-server.ensures.whole
