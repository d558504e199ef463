-- Who sends a line to the master, and where an answer goes.
use Rattle.std.specs.Prelude.{ℕ, Bool, true, false, List, nat_eq}
use Rattle.std.specs.Cmp.Lexicographic.{pointwise}
use Rattle.link_msg.specs.declared.message.LinkMsg.TheVariants.{Line}
use Rattle.link_msg.specs.declared.out.Out.{Out}
use Rattle.link_msg.specs.declared.out.Out.TheVariants.{Client, Link}
use Rattle.mur_base.specs.declared.home.Location.{Location}
use Rattle.master_core.specs.declared.sender.Sender.{Sender}
use Rattle.master_core.specs.declared.sender.Sender.TheVariants.{Backend, Frontend, Outside}

abbrev pub is_backend : Sender → Bool
is_backend (Backend node) = true
is_backend (Frontend node) = false
is_backend (Outside conn) = false

-- the location is at the sender, which is a backend
abbrev pub is_server : Sender → Location → Bool
is_server (Backend node) place = pointwise nat_eq node place.server
is_server (Frontend node) place = false
is_server (Outside conn) place = false

-- a line for the sender: a node is sent a message, the client of a connection bytes
abbrev pub sent_to : Sender → List ℕ → Out
sent_to (Backend node) line = Link node (Line line)
sent_to (Frontend node) line = Link node (Line line)
sent_to (Outside conn) line = Client conn line
