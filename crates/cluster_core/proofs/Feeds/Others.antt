-- What is no step of a node leaves the names and the feeds: a step is counted, a client comes, a message is taken by nobody.
use Rattle.std.proofs.Common.{◌≡◌, ◌≢◌, inr, ℕ, List, None, Some, refl, sym, ap, ◌∙◌}
use Rattle.cluster_core.specs.World.{master_of, front_at, home_at, taken_from_link}
use Rattle.front_core.specs.declared.front.Front.{Front}
use Rattle.many_links.specs.ManyHold.{ManyHold}
use Rattle.many_links.proofs.Carried.{taken_else}
use Rattle.many_links.proofs.FrontLaw.{passing_keeps_many}
use Rattle.master_core.specs.declared.master.Master.{Master}
use Rattle.mur_config.specs.declared.config.Config.{Config}
use Rattle.mur_model.specs.declared.store.Store.{Store}
use Rattle.name_links.specs.Serials.{Given}
use Rattle.cluster_core.specs.declared.world.World.{World}
use Rattle.cluster_core.proofs.Connections.KeepsLaw.{AreNodesOf, FeedsHold, murder_of}
use Rattle.cluster_core.proofs.Feeds.Beside.{still_fed, still_feeds}
use Rattle.cluster_core.proofs.Nodes.Stay.{same_nodes}

-- a message that comes to a node that isn't there
module _ (config : Config) (world : World) (master : Master) (nodes : AreNodesOf config world master) (from to : List ℕ) (no_front : front_at world to ≡ None)
    (no_home : home_at world to ≡ None) (no_master : to ≢ master_of config) where
  pub lost_nodes : AreNodesOf config (taken_from_link world from to) master
  lost_nodes = same_nodes config world (taken_from_link world from to) master refl nodes

  pub lost_many : (given : Given) (store : Store) → ManyHold (murder_of world master) given store
      → ManyHold (murder_of (taken_from_link world from to) master) given store
  lost_many given store many = passing_keeps_many (murder_of world master) given store from to many (inr (no_home, λ e. no_master (e ∙ nodes.me)))

  another : (any : List ℕ) (front : Front) → front_at world any ≡ Some front → any ≢ to
  another any front there e = (let no : Some front ≡ None = sym there ∙ ap (front_at world) e ∙ no_front in cc)

  pub lost_feeds : FeedsHold config world master → FeedsHold config (taken_from_link world from to) master
  lost_feeds feeds =
      still_feeds config world master nodes feeds (taken_from_link world from to) (λ server. refl)
      (λ any front there. still_fed config world master nodes feeds (taken_from_link world from to) any front there
      (taken_else world.links from to any (master_of config) (inr (λ e. no_master (sym e))))
      (taken_else world.links from to (master_of config) any (inr (another any front there))) refl (λ server. refl))
