-- The feeds behind a step of a frontend that says how its own feed stands: those of others are as they were.
use Rattle.std.proofs.Common.{◌≡◌, ◌≢◌, ℕ, Bool, true, false, is_some, List, [], ◌∷◌, ◌++◌, Some, refl, sym, ◌∙◌, ap, subst}
use Rattle.std.proofs.Math.Logic.{⊎_elim}
use Rattle.std.proofs.lemmas.Option.{same_Some}
use Rattle.feed_core.specs.declared.replica.Replica.{Replica}
use Rattle.feed_links.proofs.FeedLaw.{both}
use Rattle.feed_links.specs.OneFeed.{AreFrontsOwn, AreNoops, IsFed, IsFrontsOwn}
use Rattle.feed_links.specs.OneFeed.IsFed.{asks, is_told, comes_up, breaks_early, is_parted}
use Rattle.feed_links.specs.OneFeed.IsFrontsOwn.{its_noop}
use Rattle.front_core.specs.Ups.{is_up}
use Rattle.front_core.specs.declared.front.Front.{Front}
use Rattle.link_msg.specs.declared.message.LinkMsg.{LinkMsg}
use Rattle.link_msg.specs.declared.message.LinkMsg.TheVariants.{Up}
use Rattle.link_queue.specs.Broken.{Broken, is_broken}
use Rattle.link_queue.specs.Links.{on_link}
use Rattle.master_core.specs.declared.master.Master.{Master}
use Rattle.mur_config.specs.declared.config.Config.{Config}
use Rattle.cluster_core.specs.World.{front_at, home_at, master_of}
use Rattle.cluster_core.specs.declared.world.World.{World}
use Rattle.cluster_core.proofs.Connections.KeepsLaw.{AreNodesOf, FeedsHold, IsFedAt, KnowsBackends}
use Rattle.cluster_core.proofs.Feeds.Backends.{SameBackends, knows_still}
use Rattle.cluster_core.proofs.Feeds.Beside.{still_feeds}
use Rattle.cluster_core.proofs.Nodes.Comes.{FrontMoved}
use Rattle.cluster_core.proofs.Places.Stays.{same_name_or}

-- of what it is told by
pub fed_as : (master : Master) (node : List ℕ) (broken now_broken reached now_reached : Bool) (up now_up down now_down : List LinkMsg) (replica now_replica : Replica)
    → now_broken ≡ broken → now_reached ≡ reached → now_up ≡ up → now_down ≡ down → now_replica ≡ replica → IsFed master node broken reached up down replica
    → IsFed master node now_broken now_reached now_up now_down now_replica
fed_as master node broken now_broken reached now_reached up now_up down now_down replica now_replica b r u d p is =
    subst (λ x. IsFed master node x now_reached now_up now_down now_replica) (sym b)
    (subst (λ x. IsFed master node broken x now_up now_down now_replica) (sym r)
    (subst (λ x. IsFed master node broken reached x now_down now_replica) (sym u)
    (subst (λ x. IsFed master node broken reached up x now_replica) (sym d)
    (subst (λ x. IsFed master node broken reached up down x) (sym p) is))))

-- ---- over a link that has broken, and from which the frontend took all

all_own : (more : List LinkMsg) → AreNoops more → AreFrontsOwn more
all_own [] are = tt
all_own (message ∷ more) are = (its_noop are.0, all_own more are.1)

-- whatever it takes the link for, NOOPs may stand there
pub parted_with : (master : Master) (node : List ℕ) (broken reached now_reached : Bool) (up down more : List LinkMsg) (replica : Replica) → broken ≡ true
    → down ≡ [] → AreNoops more → IsFed master node broken reached up down replica → IsFed master node broken now_reached (up ++ more) down replica
parted_with master node broken reached now_reached up down more replica is_so none are (asks whole here before behind is one two three four empty no_stream) =
    absurd (let no : true ≡ false = sym is_so ∙ whole in cc)
parted_with master node broken reached now_reached up down more replica is_so none are (is_told whole here one two three four) =
    absurd (let no : true ≡ false = sym is_so ∙ whole in cc)
parted_with master node broken reached now_reached up down more replica is_so none are (comes_up whole here one two three) =
    absurd (let no : true ≡ false = sym is_so ∙ whole in cc)
parted_with master node broken reached now_reached up down more replica is_so none are (breaks_early one two three ends is four five six) =
    absurd (let no : [] ≡ Up ∷ ends = sym none ∙ is in cc)
parted_with master node broken reached now_reached up down more replica is_so none are (is_parted one own lines few tag) =
    is_parted one (both IsFrontsOwn up more own (all_own more are)) lines few tag

-- ---- all feeds

module _ (config : Config) (world next : World) (master : Master) (nodes : AreNodesOf config world master) (feeds : FeedsHold config world master)
    (node : List ℕ) (later : Front) (moved : FrontMoved world node later next) (broken : next.broken ≡ world.broken)
    (ups : (any : List ℕ) → any ≢ node → on_link next.links any (master_of config) ≡ on_link world.links any (master_of config))
    (downs : (any : List ℕ) → any ≢ node → on_link next.links (master_of config) any ≡ on_link world.links (master_of config) any) where
  abbrev me : List ℕ
  me = master_of config

  pub moved_homes : SameBackends (home_at world) (home_at next)
  moved_homes server = ap is_some (moved.homes server)

  other_fed : (any : List ℕ) (front : Front) → any ≢ node → front_at next any ≡ Some front → IsFedAt config next master any front
  other_fed any front ne there =
      let before : front_at world any ≡ Some front = sym (moved.fronts any ne) ∙ there in
      let was = feeds.each any front before in
      record {
        fed = fed_as master any (is_broken world.broken me any) (is_broken next.broken me any) (is_up front.ups me) (is_up front.ups me)
            (on_link world.links any me) (on_link next.links any me) (on_link world.links me any) (on_link next.links me any) front.replica front.replica
            (ap (λ (b : Broken). is_broken b me any) broken) refl (ups any ne) (downs any ne) refl was.fed;
        knows = subst (λ d. KnowsBackends (home_at next) d front.replica) (sym (downs any ne))
            (knows_still (home_at world) (home_at next) (on_link world.links me any) front.replica moved_homes was.knows);
      }

  pub own_feeds : IsFedAt config next master node later → FeedsHold config next master
  own_feeds own = still_feeds config world master nodes feeds next moved_homes
      (λ any front there. ⊎_elim
      (λ (e : any ≡ node).
      (let is : later ≡ front = same_Some later front (sym moved.own ∙ ap (front_at next) (sym e) ∙ there) in
      subst (λ n. IsFedAt config next master n front) (sym e) (subst (λ f. IsFedAt config next master node f) is own)))
      (λ (ne : any ≢ node). other_fed any front ne there)
      (same_name_or any node))
