-- A client is given the reply of its command, and is told so of it: what that leaves of the world for all other connections.
use Rattle.std.proofs.Common.{◌≡◌, ℕ, List}
use Rattle.cluster_core.specs.declared.world.Client.{Client}
use Rattle.link_msg.specs.declared.how.How.{How}
use Rattle.mur_base.specs.declared.point.AskId.{AskId}
use Rattle.cluster_core.specs.declared.world.World.{World}
use Rattle.cluster_core.proofs.Commands.Standing.{Fixed}
use Rattle.cluster_core.proofs.Connections.ConnectionLaw.{KeepsOthers, keeps_on}
use Rattle.cluster_core.proofs.Connections.Said.{given_keeps, given_world, marked_keeps, marked_world}

abbrev pub told_world : World → ℕ → Client → List ℕ → AskId → How → World
told_world world conn client text ask how = marked_world (given_world world conn client text) ask how

pub told_keeps : (fixed : Fixed) (world : World) (conn : ℕ) (client : Client) (text : List ℕ) (ask : AskId) (how : How) → ask.conn ≡ conn
    → KeepsOthers fixed conn world (told_world world conn client text ask how)
told_keeps fixed world conn client text ask how own =
    keeps_on fixed conn world (given_world world conn client text) (told_world world conn client text ask how) (given_keeps fixed world conn client text)
    (marked_keeps fixed conn (given_world world conn client text) ask how own)
