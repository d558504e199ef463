-- THE NODES, THE NAMES AND THE FEEDS AFTER WHAT COMES TO A NODE.
use Rattle.std.proofs.Common.{◌≡◌, ◌≢◌, ℕ, List, ◌∷◌, Some, refl, sym, subst, inr}
use Rattle.cluster_core.specs.World.{master_of, front_at, taken_from_link}
use Rattle.feed_links.specs.Lines.{messages_to}
use Rattle.feed_links.specs.OneFeed.{AreNoops}
use Rattle.front_core.specs.declared.front.Front.{Front}
use Rattle.front_core.specs.Front.{Stepped, deliver}
use Rattle.link_msg.specs.declared.message.LinkMsg.{LinkMsg}
use Rattle.link_msg.specs.declared.message.LinkMsg.TheVariants.{Line}
use Rattle.link_queue.specs.Links.{on_link}
use Rattle.many_links.specs.ManyHold.{ManyHold}
use Rattle.master_core.specs.declared.master.Master.{Master}
use Rattle.mur_config.specs.declared.config.Config.{Config}
use Rattle.mur_model.specs.declared.store.Store.{Store}
use Rattle.node_step.specs.declared.input.NodeInput.TheVariants.{From}
use Rattle.name_links.specs.Serials.{Given}
use Rattle.cluster_core.specs.declared.world.World.{World}
use Rattle.cluster_core.proofs.Connections.KeepsLaw.{AreNodesOf, FeedsHold, murder_of}
use Rattle.cluster_core.proofs.Feeds.Beside.{front_answered_feeds, front_hears_feeds}
use Rattle.cluster_core.proofs.Feeds.Many.{front_is_one, front_keeps_many, passing_many}
use Rattle.cluster_core.proofs.Nodes.AllCome.{all_come, front_all_come}
use Rattle.cluster_core.proofs.Nodes.Comes.{with_front}
use Rattle.cluster_core.proofs.Nodes.Stay.{front_keeps_nodes, same_nodes}

-- what KeepsLaw says of them
pub record IsKept (config : Config) (world : World) (master : Master) (given : Given) (store : Store) : Type 0 where
  pub nodes : AreNodesOf config world master
  pub many : ManyHold (murder_of world master) given store
  pub feeds : FeedsHold config world master

module _ (config : Config) (world : World) (master : Master) (given : Given) (store : Store) (kept : IsKept config world master given store) where
  abbrev name : List ℕ
  name = master_of config

  -- without a message
  taken_nodes : (from to : List ℕ) → AreNodesOf config (taken_from_link world from to) master
  taken_nodes from to = same_nodes config world (taken_from_link world from to) master refl kept.nodes

  -- ---- a frontend

  -- what is left to say of a message that it takes
  front_taken_kept : (from node : List ℕ) (front : Front) (message : LinkMsg) → front_at world node ≡ Some front
      → FeedsHold config (with_front (taken_from_link world from node) node (deliver front from message)) master
      → IsKept config (all_come (taken_from_link world from node) node (From from message)) master given store
  front_taken_kept from node front message at feeds =
      let then : World = taken_from_link world from node in
      let next : Stepped = deliver front from message in
      subst (λ w. IsKept config w master given store) (sym (front_all_come then node (From from message) front at))
      (record {
        nodes = front_keeps_nodes config then master node front (From from message) (taken_nodes from node) at;
        many = front_keeps_many config then master given store (taken_nodes from node)
            (passing_many config world master given store kept.nodes kept.many from node
            (inr (front_is_one config world master given store kept.nodes kept.many node front at))) node front next at;
        feeds = feeds;
      })

  pub front_answered_kept : (from node : List ℕ) (front : Front) (message : LinkMsg) → front_at world node ≡ Some front
      → from ≢ name → AreNoops (messages_to name (deliver front from message).outs)
      → IsKept config (all_come (taken_from_link world from node) node (From from message)) master given store
  front_answered_kept from node front message at ne noops =
      front_taken_kept from node front message at (front_answered_feeds config world master kept.nodes kept.feeds from node front message at ne noops)

  pub front_hears_kept : (node : List ℕ) (front : Front) (bytes : List ℕ) (rest : List LinkMsg) → front_at world node ≡ Some front
      → on_link world.links name node ≡ Line bytes ∷ rest → AreNoops (messages_to name (deliver front name (Line bytes)).outs)
      → IsKept config (all_come (taken_from_link world name node) node (From name (Line bytes))) master given store
  front_hears_kept node front bytes rest at first noops =
      front_taken_kept name node front (Line bytes) at (front_hears_feeds config world master kept.nodes kept.feeds node front at bytes rest first noops)
