-- Each frontend's replica follows the master's table (RFC 3656, 4.11).
use Rattle.std.specs.Prelude.{◌≡◌, ℕ, true, false, List, [], ◌∷◌, ◌++◌, Some}
use Rattle.feed_core.specs.Feed.{empty_replica}
use Rattle.feed_core.specs.Stream.{update_line}
use Rattle.feed_links.specs.Replicas.{hears_all, replica_of, AreNoNews}
use Rattle.front_core.specs.Ups.{is_up}
use Rattle.front_core.specs.declared.front.Front.{Front}
use Rattle.link_msg.specs.declared.message.LinkMsg.{LinkMsg}
use Rattle.link_msg.specs.declared.message.LinkMsg.TheVariants.{Up, Line}
use Rattle.link_queue.specs.Broken.{is_broken}
use Rattle.link_queue.specs.Links.{on_link}
use Rattle.mur_config.specs.declared.config.Config.{Config}
use Rattle.node_record.specs.Table.{MailboxTable}
use Rattle.schedule_text.specs.declared.event.Event.{Event}
use Rattle.cluster_core.specs.declared.world.World.{World}
use Rattle.cluster_core.specs.Headline.Outside.{table_at}
use Rattle.cluster_core.specs.Flow.{run_steps, steps_of_run}
use Rattle.cluster_core.specs.World.{front_at, start, master_of}

-- the frontend's UPDATE is on its way to the master, its replica is empty, and no line on its way back tells it anything; or once it has
-- taken what is on its way back, its replica is the table. Its link with the master has broken, or comes up again and the frontend hasn't taken its Up: then it
-- is told nothing.
pub data Follows (world : World) (table : MailboxTable) (master node : List ℕ) (front : Front) : Type 0 where
  asks : (before behind : List LinkMsg) → on_link world.links node master ≡ before ++ Line update_line ∷ behind → AreNoNews (on_link world.links master node)
      → front.replica ≡ empty_replica → Follows world table master node front
  is_told : hears_all front.replica (on_link world.links master node) ≡ replica_of table → Follows world table master node front
  is_parted : is_broken world.broken master node ≡ true → Follows world table master node front
  comes_up : is_up front.ups master ≡ false → on_link world.links master node ≡ Up ∷ [] → Follows world table master node front

-- so it is with each frontend of a world
abbrev pub ReplicasFollow : Config → World → Type 0
ReplicasFollow config world = (node : List ℕ) (front : Front) → front_at world node ≡ Some front
    → Follows world (table_at world (master_of config)) (master_of config) node front

-- and after each single step of a run
abbrev pub FollowTheTable : Config → List Event → Type 0
FollowTheTable config events = (before later : List Event) → steps_of_run config events ≡ before ++ later
    → ReplicasFollow config (run_steps (start config) before)
