-- HOW THE LINKS OF A RUN STAND: those of the master with backends are whole; a link that is broken is so in both directions; where that from a server or the master to
-- a frontend is broken, its End is on its way, or the frontend took it and treats the link as down; where that to the master is, so is the stream; and a command
-- waits for a node only while the link to it is up.
use Rattle.std.specs.Prelude.{◌≡◌, ℕ, nat_eq, Bool, true, false, List, [], ◌∷◌, ◌++◌, Option, None, Some}
use Rattle.std.specs.List.{list_any}
use Rattle.std.specs.Cmp.Lexicographic.{pointwise}
use Rattle.std.specs.Option.{IsSome}
use Rattle.feed_links.specs.Lines.{stream_of}
use Rattle.front_core.specs.declared.front.Front.{Front}
use Rattle.front_core.specs.Front.{awaited, connection_at}
use Rattle.front_core.specs.Ups.{is_up}
use Rattle.link_msg.specs.declared.message.LinkMsg.{LinkMsg}
use Rattle.link_msg.specs.declared.message.LinkMsg.TheVariants.{End}
use Rattle.link_queue.specs.Broken.{is_broken}
use Rattle.link_queue.specs.Links.{on_link}
use Rattle.master_core.specs.declared.master.Master.{Master}
use Rattle.mupdate_codec.specs.declared.tag.Tag.{Tag}
use Rattle.mur_config.specs.declared.config.Config.{Config}
use Rattle.cluster_core.specs.declared.world.World.{World}
use Rattle.cluster_core.specs.World.{backends_of, front_at, home_at, master_at, master_of}

-- of a broken link, by whether the node to which it leads treats it as up: its End is on its way, or was taken
pub data IsDown (queue : List LinkMsg) (up : Bool) : Type 0 where
  is_ending : (messages : List LinkMsg) → queue ≡ messages ++ End ∷ [] → IsDown queue up
  has_ended : queue ≡ [] → up ≡ false → IsDown queue up

-- of a broken link to the master, by whether the node has a stream: its End is on its way, or the master took it, and the stream is over
pub data IsOver (queue : List LinkMsg) (stream : Option Tag) : Type 0 where
  over_soon : (messages : List LinkMsg) → queue ≡ messages ++ End ∷ [] → IsOver queue stream
  is_over : queue ≡ [] → stream ≡ None → IsOver queue stream

pub record LinksStand (config : Config) (world : World) : Type 0 where
  -- those of the master with backends are whole
  pub from_master : (node : List ℕ) → IsSome (home_at world node) → is_broken world.broken (master_of config) node ≡ false
  pub to_master : (node : List ℕ) → IsSome (home_at world node) → is_broken world.broken node (master_of config) ≡ false
  pub both : (one other : List ℕ) → is_broken world.broken one other ≡ is_broken world.broken other one
  -- whether the server is a backend or the master
  pub down : (node server : List ℕ) (front : Front) → front_at world node ≡ Some front → is_broken world.broken server node ≡ true
      → IsDown (on_link world.links server node) (is_up front.ups server)
  pub master_down : (node : List ℕ) (front : Front) (master : Master) → front_at world node ≡ Some front → master_at world (master_of config) ≡ Some master
      → is_broken world.broken node (master_of config) ≡ true → IsOver (on_link world.links node (master_of config)) (stream_of master node)
  -- a command waits for a server's answer, or for the master's OK, only while the link to that node is up
  pub waits_up : (node server : List ℕ) (front : Front) (conn : ℕ) → front_at world node ≡ Some front
      → awaited (master_of config) (connection_at front conn) server ≡ true → is_up front.ups server ≡ true
  -- before any link breaks, all are up
  pub all_up : world.broken ≡ [] → (node server : List ℕ) (front : Front) → front_at world node ≡ Some front
      → list_any (pointwise nat_eq server) (backends_of config.nodes) ≡ true → is_up front.ups server ≡ true
  pub master_up : world.broken ≡ [] → (node : List ℕ) (front : Front) → front_at world node ≡ Some front → is_up front.ups (master_of config) ≡ true
