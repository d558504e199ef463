use Rattle.text_parts.proofs.PlaceLaw.{exact_is_node}
use Rattle.text_parts.proofs.locations.sized_server_of.Goals as goal

pub made_server-requires : goal.made_server-requires
made_server-requires c = exact_is_node c.args.size c.args.bytes.now c.in_ok-text.text.now c.in_ok-text.rest.now c.requires.some c.requires.few c.in_ok-text.ensures
