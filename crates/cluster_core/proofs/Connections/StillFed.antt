-- Each frontend's replica follows the master's table on, where no node sends another a message, and each replica and each link is as it was.
use Rattle.std.proofs.Common.{◌≡◌, ◌≢◌, ℕ, Bool, List, Some, refl, sym, ◌∙◌, ap, subst}
use Rattle.std.specs.Ordering.{nat_cmp}
use Rattle.std.specs.Cmp.Lexicographic.{slice_cmp}
use Rattle.std.proofs.Math.Logic.{⊎_elim}
use Rattle.cluster_core.specs.World.{master_of, front_at, home_at}
use Rattle.feed_core.specs.declared.replica.Replica.{Replica}
use Rattle.feed_links.specs.OneFeed.{IsFed}
use Rattle.front_core.specs.declared.front.Front.{Front}
use Rattle.front_core.specs.Ups.{is_up}
use Rattle.link_msg.specs.declared.message.LinkMsg.{LinkMsg}
use Rattle.link_queue.specs.Broken.{Broken, is_broken}
use Rattle.link_queue.specs.Links.{Links, on_link}
use Rattle.many_links.specs.Murder.{Nodes}
use Rattle.mark_history.proofs.CarriesFrom.{same_functions}
use Rattle.master_core.specs.declared.master.Master.{Master}
use Rattle.mur_base.proofs.MapLaws.{names_apart, same_or_other}
use Rattle.mur_config.specs.declared.config.Config.{Config}
use Rattle.cluster_core.specs.declared.world.World.{World}
use Rattle.std.proofs.lemmas.Option.{same_Some}
use Rattle.cluster_core.proofs.Connections.KeepsLaw.{AreKeptAtBackends, FeedsHold, IsFedAt, KnowsBackends, TableNamesBackends}
use Rattle.cluster_core.proofs.Feeds.Beside.{fed_linked}
use Rattle.cluster_core.proofs.Nodes.Comes.{FrontMoved}
use Rattle.cluster_core.proofs.Places.FrontWorlds.{SameHomes}

-- what counts of a frontend: its replica, and whether it has the link to the master as up
abbrev pub heeds : List ℕ → Front → Replica × Bool
heeds me front = (front.replica, is_up front.ups me)

-- a frontend there was one of which that is the same
pub record WasFront (me : List ℕ) (world : World) (node : List ℕ) (now : Front) : Type 0 where
  pub was : Front
  pub at : front_at world node ≡ Some was
  pub same : heeds me now ≡ heeds me was

abbrev pub FrontsWere : List ℕ → World → World → Type 0
FrontsWere me world next = (node : List ℕ) (now : Front) → front_at next node ≡ Some now → WasFront me world node now

pub fronts_were : {me : List ℕ} (world next : World) (node : List ℕ) (front later : Front) → front_at world node ≡ Some front → FrontMoved world node later next
    → heeds me later ≡ heeds me front → FrontsWere me world next
fronts_were {me} world next node front later at moved same any now there = ⊎_elim
    (λ (e : any ≡ node). record {
      was = front;
      at = ap (front_at world) e ∙ at;
      same = ap (heeds me) (sym (same_Some _ _ (sym moved.own ∙ (ap (front_at next) (sym e) ∙ there)))) ∙ same;
    })
    (λ (ne : any ≢ node). record { was = now; at = sym (moved.fronts any ne) ∙ there; same = refl })
    (same_or_other (slice_cmp nat_cmp) names_apart any node)

fed_alike : (config : Config) (world next : World) (master : Master) (node : List ℕ) (now : Front) → home_at next ≡ home_at world → next.links ≡ world.links
    → next.broken ≡ world.broken → (was : WasFront (master_of config) world node now) → IsFedAt config world master node was.was → IsFedAt config next master node now
fed_alike config world next master node now homes links cuts was is =
    let me : List ℕ = master_of config in
    let replica : now.replica ≡ (was.was).replica = ap (λ (h : Replica × Bool). h.0) was.same in
    record {
      fed = subst (λ (l : Links LinkMsg). IsFed master node (is_broken next.broken me node) (is_up now.ups me) (on_link l node me) (on_link l me node) now.replica) (sym links)
          (fed_linked master node (is_broken world.broken me node) (is_broken next.broken me node) (is_up (was.was).ups me) (is_up now.ups me) (on_link world.links node me)
          (on_link world.links me node) (was.was).replica now.replica (ap (λ (b : Broken). is_broken b me node) cuts) (ap (λ (h : Replica × Bool). h.1) was.same) replica
          is.fed);
      knows = subst (λ (n : Nodes). KnowsBackends n (on_link next.links me node) now.replica) (sym homes)
          (subst (λ (l : Links LinkMsg). KnowsBackends (home_at world) (on_link l me node) now.replica) (sym links)
          (subst (λ (r : Replica). KnowsBackends (home_at world) (on_link world.links me node) r) (sym replica) is.knows));
    }

pub feeds_alike : (config : Config) (world next : World) (master : Master) → SameHomes world next → next.links ≡ world.links → next.broken ≡ world.broken
    → FrontsWere (master_of config) world next → FeedsHold config world master → FeedsHold config next master
feeds_alike config world next master alike links cuts were feeds =
    let homes : home_at next ≡ home_at world = same_functions alike in
    record {
      each = λ node now there. (let was = were node now there in fed_alike config world next master node now homes links cuts was (feeds.each node was.was was.at));
      streams = feeds.streams;
      nobodys = feeds.nobodys;
      spelled = feeds.spelled;
      backends = subst (λ (n : Nodes). TableNamesBackends n master.table) (sym homes) feeds.backends;
      kept = subst (λ (n : Nodes). AreKeptAtBackends n master.table) (sym homes) feeds.kept;
    }
