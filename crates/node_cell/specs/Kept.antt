-- What a log keeps of an input.
use Rattle.node_step.specs.declared.input.NodeInput.{NodeInput}
use Rattle.node_step.specs.declared.input.NodeInput.TheVariants.{Opened, Piece, Hung, From}
use Rattle.node_cell.specs.declared.taken.Kept.{Kept}
use Rattle.node_cell.specs.declared.taken.Kept.TheVariants as kept

-- all that its line says; of a message the node that sent it
unfoldable pub kept_of : NodeInput → Kept
kept_of (Opened conn) = kept.Opened conn
kept_of (Piece conn bytes) = kept.Piece conn bytes
kept_of (Hung conn) = kept.Hung conn
kept_of (From sender message) = kept.From sender
