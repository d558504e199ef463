-- Whom a frontend may ask, by the law.
use Rattle.std.proofs.Common.{◌≡◌, ℕ, true, false, nat_eq, List, Some, sym, ap, ◌∙◌}
use Rattle.std.specs.List.{list_any}
use Rattle.std.specs.Cmp.Lexicographic.{pointwise}
use Rattle.cluster_core.specs.World.{backends_of, home_of, master_of, front_at, home_at}
use Rattle.front_core.specs.declared.front.Front.{Front}
use Rattle.front_core.specs.Front.{ways_of}
use Rattle.front_core.specs.Taken.{ways_by}
use Rattle.imap_talk.specs.Heard.{Heard}
use Rattle.master_core.specs.declared.master.Master.{Master}
use Rattle.mur_config.specs.declared.config.Config.{Config}
use Rattle.cluster_core.specs.declared.world.World.{World}
use Rattle.cluster_core.proofs.Connections.AsksFirst.{Reaches}
use Rattle.cluster_core.proofs.Connections.FrameLaw.{ways_for}
use Rattle.cluster_core.proofs.Connections.KeepsLaw.{IsFrontOf, KeepsLaw, fixed_of}
use Rattle.cluster_core.proofs.Connections.Sends.{MayAsk}
use Rattle.cluster_core.proofs.Links.Stand.{LinksStand}
use Rattle.cluster_core.proofs.Nodes.Comes.{master_no_home_at}

-- its ways are those of its node
pub ways_same_by : (config : Config) (world : World) (master : Master) (node : List ℕ) (front : Front) → IsFrontOf config world master node front
    → ways_of front ≡ ways_for (fixed_of config) front.ups front.replica
ways_same_by config world master node front is =
    ap (λ m. ways_by front.replica.records m front.first front.ups) is.master_is
    ∙ ap (λ f. ways_by front.replica.records (master_of config) f front.ups) is.first_is

pub may_ask : (config : Config) (heard : ℕ → Heard) (world : World) (node : List ℕ) (front : Front) → KeepsLaw config heard world
    → front_at world node ≡ Some front → MayAsk (fixed_of config) (home_at world) node front.replica
may_ask config heard world node front law at =
    let is = (law.nodes).fronts node front at in
    record {
      frontend = record {
        no_master = is.no_master;
        no_home = is.no_home;
        master_no_home = master_no_home_at world (master_of config) law.master (law.nodes).is_there;
      };
      knows = (((law.feeds).each node front at).knows).has;
      first = (law.nodes).homes (home_of config) ∙ (law.nodes).first_there;
    }

-- the nodes to which its links are up
pub reaches : (config : Config) (heard : ℕ → Heard) (world : World) (node : List ℕ) (front : Front) → KeepsLaw config heard world → LinksStand config world
    → front_at world node ≡ Some front → Reaches (master_of config) (home_at world) world.broken front.ups
reaches config heard world node front law links at = record {
  master_cut = λ down none. (let no : true ≡ false = sym (links.master_up none node front at) ∙ down in cc);
  cut = λ server down there none.
      absurd (let is : list_any (pointwise nat_eq server) (backends_of config.nodes) ≡ true =
      ap (list_any (pointwise nat_eq server)) (sym (law.nodes).backends) ∙ sym ((law.nodes).homes server) ∙ there in
      let no : false ≡ true = sym down ∙ links.all_up none node server front at is in cc);
}
