-- No command is forgotten: the first one that was heard whole and isn't answered waits at its frontend, for a server or for the master.
use Rattle.std.specs.Prelude.{◌≡◌, ℕ, ◌+◌, List, Some}
use Rattle.front_core.specs.declared.connection.Connection.{Connection}
use Rattle.front_core.specs.declared.front.Front.{Front}
use Rattle.front_core.specs.Front.{connection_at, is_asked}
use Rattle.mur_base.specs.declared.point.AskId.{AskId}
use Rattle.cluster_core.specs.declared.world.World.{World}
use Rattle.cluster_core.specs.Headline.OneNode.{node_of}
use Rattle.cluster_core.specs.World.{client_at, front_at}

-- the command is the next one of its connection, at the frontend to which its client is connected, and waits there: for the answer of a server, or for
-- the master's OK
pub record IsWaitedFor (world : World) (id : AskId) : Type 0 where
  pub node : List ℕ
  pub client : node_of (client_at world id.conn) ≡ Some node
  pub front : Front
  pub at : front_at world node ≡ Some front
  pub connection : Connection
  pub there : connection_at front id.conn ≡ Some connection
  pub number : id.command ≡ connection.answered + 1
  pub waits : is_asked connection.stage ≡ 1
