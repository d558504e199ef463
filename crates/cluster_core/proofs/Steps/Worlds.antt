-- The same of a world: what the law says of it is what the steps need, and what they say is of the next one.
use Rattle.std.proofs.Common.{◌≡◌, ℕ, false, List, ◌∷◌, Some, sym, ap, subst, ◌∙◌}
use Rattle.back_node.specs.declared.node.BackNode.{BackNode}
use Rattle.back_node.specs.Acted.{BackActed}
use Rattle.cluster_core.specs.World.{master_of, front_at, home_at, master_at, taken_from_link}
use Rattle.feed_core.specs.declared.replica.Replica.{Replica}
use Rattle.feed_links.specs.OneFeed.{IsFed}
use Rattle.front_core.proofs.OneConnection.Places.{about, is_over, of_connection}
use Rattle.front_core.specs.declared.front.Front.{Front}
use Rattle.front_core.specs.Ups.{is_up}
use Rattle.imap_talk.specs.Heard.{Heard}
use Rattle.imap_talk.specs.Transcript.{Stop}
use Rattle.link_msg.specs.declared.message.LinkMsg.{LinkMsg}
use Rattle.link_queue.specs.Broken.{is_broken}
use Rattle.link_queue.specs.Links.{Links, on_link, without_first}
use Rattle.many_links.specs.ManyHold.{ManyHold}
use Rattle.many_links.specs.Murder.{Murder, Nodes, put_all, with_node}
use Rattle.mark_history.specs.Marked.{Tale}
use Rattle.master_core.specs.declared.master.Master.{Master}
use Rattle.master_core.specs.Outside.{Stepped}
use Rattle.mur_base.specs.declared.point.AskId.{AskId}
use Rattle.mur_config.specs.declared.config.Config.{Config}
use Rattle.mur_model.specs.declared.store.Store.{Store}
use Rattle.node_step.specs.declared.node.NodeState.TheVariants as state
use Rattle.name_commands.specs.Places.{FlowsTell}
use Rattle.name_links.specs.Serials.{Given}
use Rattle.route_links.specs.Answered.{IsNumbered}
use Rattle.cluster_core.specs.declared.world.World.{World}
use Rattle.cluster_core.proofs.Commands.InPlace.{IsInNone, IsInPlace, ShowEach}
use Rattle.cluster_core.proofs.Commands.Place.{Place, at_backend, Place as place}
use Rattle.cluster_core.proofs.Commands.Standing.{Fixed, next_id}
use Rattle.cluster_core.proofs.Connections.ConnectionLaw.{IsInNoneOf, IsInPlaceOf}
use Rattle.cluster_core.proofs.Connections.KeepsLaw.{AreNodesOf, ConnectionIs, FeedsHold, KeepsLaw, fixed_of, is_closed, is_cut_off, is_elsewhere, is_nobody, is_open, murder_of}
use Rattle.cluster_core.proofs.Nodes.Carried.{is_made}
use Rattle.cluster_core.proofs.Nodes.Comes.{home_moved, master_moved, with_home, with_master}
use Rattle.cluster_core.proofs.Steps.Heads.{line_down_on, line_up_on, none_on_its_way}
use Rattle.cluster_core.proofs.Steps.HomeLinks.{IsInThen, IsNowhereThen}
use Rattle.cluster_core.proofs.Steps.MasterSteps.{IsFedFront, IsInBehind, IsNowhereBehind, MasterTakes}
use Rattle.cluster_core.proofs.Steps.Murders.{IsFirstOn, IsFront, IsIn, IsNowhere, in_none_alike, in_place_alike}
use Rattle.cluster_core.proofs.Steps.Narrow.{connections_tell}

-- ---- what the law says

-- each command at a backend is in one place there, since the commands of each connection are
pub places_tell : (master : List ℕ) (nodes : Nodes) (links : Links LinkMsg) → ((conn : ℕ) → (here : Place) × ShowEach master nodes links conn here)
    → (name : List ℕ) (node : BackNode) → nodes name ≡ Some node → FlowsTell node.flows
places_tell master nodes links shown name node there =
    connections_tell node.flows (λ conn. (at_backend name (shown conn).0, ((shown conn).1 name node there).at))

pub each_shown : (fixed : Fixed) (conn : ℕ) (world : World) (story : Tale) (stop : Stop) (heard : Heard) → ConnectionIs fixed conn world story stop heard
    → (here : Place) × ShowEach fixed.master (home_at world) world.links conn here
each_shown fixed conn world story _ _ (is_nobody none nowhere untold) = (place.nowhere, untold.nothing.shows)
each_shown fixed conn world story _ _ (is_elsewhere node given there none untold) = (place.nowhere, untold.nothing.shows)
each_shown fixed conn world story _ _ (is_open bytes node front connection at begun standing) = (standing.here, standing.placed.shows)
each_shown fixed conn world story _ _ (is_cut_off bytes node front connection at gone unanswered) = (gone.here, gone.placed.shows)
each_shown fixed conn world story _ _ (is_closed stop bytes node front connection at gone) = (gone.here, gone.placed.shows)

pub law_tells : (config : Config) (heard : ℕ → Heard) (world : World) → KeepsLaw config heard world → (name : List ℕ) (node : BackNode)
    → home_at world name ≡ Some node → FlowsTell node.flows
law_tells config heard world law name node there =
    places_tell (master_of config) (home_at world) world.links
    (λ conn. each_shown (fixed_of config) conn world law.story (law.stops conn) (heard conn) (law.connections conn)) name node there

-- ---- premises

module _ (config : Config) (world : World) (master : Master) (nodes : AreNodesOf config world master) where
  pub is_front : (node : List ℕ) (front : Front) → front_at world node ≡ Some front → IsFront (murder_of world master) node
  is_front node front at =
      let of = nodes.fronts node front at in record { no_master = λ e. of.no_master (e ∙ nodes.me); no_home = of.no_home }

  abbrev pub is_fed_front : FeedsHold config world master → (node : List ℕ) (front : Front) (id : AskId) → front_at world node ≡ Some front → IsNumbered id
      → IsFedFront (murder_of world master) node front.replica id
  is_fed_front feeds node front id at numbered = record {
    is_front = is_front node front at;
    streams = feeds.streams;
    broken = is_broken world.broken (master_of config) node;
    reached = is_up front.ups (master_of config);
    fed = subst
        (λ m. IsFed master node (is_broken world.broken (master_of config) node) (is_up front.ups (master_of config)) (on_link world.links node m)
        (on_link world.links m node) front.replica)
        (sym nodes.me) (feeds.each node front at).fed;
    numbered = numbered;
  }

  pub master_takes : FeedsHold config world master → (given : Given) (store : Store) (from : List ℕ) (message : LinkMsg) (rest : List LinkMsg)
      → ManyHold (murder_of world master) given store → on_link world.links from (master_of config) ≡ message ∷ rest
      → MasterTakes (murder_of world master) given store from message
  master_takes feeds given store from message rest holds first = record {
    holds = holds;
    nobodys = feeds.nobodys;
    first = record { rest = rest; first = ap (λ m. on_link world.links from m) nodes.me ∙ first };
  }

-- ---- places

module _ (fixed : Fixed) (world : World) (master : Master) (me : master.me ≡ fixed.master) where
  pub in_murder : (front : List ℕ) (replica : Replica) (id : AskId) (here : Place) → IsInPlaceOf fixed world front replica id here
      → IsIn (murder_of world master) front replica id here
  in_murder front replica id here is = subst (λ m. IsInPlace m (home_at world) world.links front replica id here) (sym me) is

  pub none_in_murder : (conn : ℕ) → IsInNoneOf fixed world conn → IsNowhere (murder_of world master) conn
  none_in_murder conn is = subst (λ m. IsInNone m (home_at world) world.links conn) (sym me) is

  -- a backend took the first message of another node
  module _ (name from : List ℕ) (was : BackNode) (next : BackActed) (there : home_at world name ≡ Some was) where
    abbrev then : World
    then = with_home (taken_from_link world from name) name next

    links_are : then.links ≡ put_all name (without_first world.links from name) next.outs
    links_are = (is_made (taken_from_link world from name) name (state.Back next.state) next.outs).links

    pub in_world_then : (front : List ℕ) (replica : Replica) (id : AskId) (here : Place)
        → IsInThen (murder_of world master) name from next front replica id here → IsInPlaceOf fixed then front replica id here
    in_world_then front replica id here is =
        subst (λ (l : Links LinkMsg). IsInPlace fixed.master (home_at then) l front replica id here) (sym links_are)
        (in_place_alike fixed.master (with_node (home_at world) name next.state) (home_at then)
        (home_moved (taken_from_link world from name) name was next there).all
        (put_all name (without_first world.links from name) next.outs) front replica id here
        (subst (λ m. IsInPlace m (with_node (home_at world) name next.state) (put_all name (without_first world.links from name) next.outs) front replica id here)
        me is))

    pub none_in_world_then : (conn : ℕ) → IsNowhereThen (murder_of world master) name from next conn → IsInNoneOf fixed then conn
    none_in_world_then conn is =
        subst (λ (l : Links LinkMsg). IsInNone fixed.master (home_at then) l conn) (sym links_are)
        (in_none_alike fixed.master (with_node (home_at world) name next.state) (home_at then)
        (home_moved (taken_from_link world from name) name was next there).all
        (put_all name (without_first world.links from name) next.outs) conn
        (subst (λ m. IsInNone m (with_node (home_at world) name next.state) (put_all name (without_first world.links from name) next.outs) conn) me is))

  -- the master took a step, which left these links
  module _ (left : Links LinkMsg) (next : Stepped) (there : master_at world fixed.master ≡ Some master) where
    abbrev behind : World
    behind = with_master (record world { links = left }) fixed.master next

    links_behind : behind.links ≡ put_all fixed.master left next.outs
    links_behind = (is_made (record world { links = left }) fixed.master (state.Master next.master) next.outs).links

    pub in_world_behind : (front : List ℕ) (replica : Replica) (id : AskId) (here : Place)
        → IsInBehind (murder_of world master) left next front replica id here → IsInPlaceOf fixed behind front replica id here
    in_world_behind front replica id here is =
        subst (λ (l : Links LinkMsg). IsInPlace fixed.master (home_at behind) l front replica id here) (sym links_behind)
        (in_place_alike fixed.master (home_at world) (home_at behind) (master_moved (record world { links = left }) fixed.master master next there).homes
        (put_all fixed.master left next.outs) front replica id here
        (subst (λ m. IsInPlace m (home_at world) (put_all m left next.outs) front replica id here) me is))

    pub none_in_world_behind : (conn : ℕ) → IsNowhereBehind (murder_of world master) left next conn → IsInNoneOf fixed behind conn
    none_in_world_behind conn is =
        subst (λ (l : Links LinkMsg). IsInNone fixed.master (home_at behind) l conn) (sym links_behind)
        (in_none_alike fixed.master (home_at world) (home_at behind) (master_moved (record world { links = left }) fixed.master master next there).homes
        (put_all fixed.master left next.outs) conn
        (subst (λ m. IsInNone m (home_at world) (put_all m left next.outs) conn) me is))

-- ---- lines between a backend and the master

-- the first one there that is about a connection is of its command that waits
module _ (config : Config) (heard : ℕ → Heard) (world : World) (law : KeepsLaw config heard world) (conn : ℕ) (name : List ℕ) (node : BackNode)
    (there : home_at world name ≡ Some node) (message : LinkMsg) (own : about message ≡ of_connection conn) where
  abbrev murder : Murder
  murder = murder_of world law.master

  abbrev its : AskId
  its = next_id conn (law.story.told conn)

  on_by : (stop : Stop) (its_heard : Heard)
      → ((front : List ℕ) (replica : Replica) (here : Place) → IsIn murder front replica its here → is_over its.command message ≡ false)
      → (IsNowhere murder conn → ⊥) → ConnectionIs (fixed_of config) conn world law.story stop its_heard → is_over its.command message ≡ false
  on_by _ _ placed none (is_nobody nobodys fronts untold) =
      absurd (none (none_in_murder (fixed_of config) world law.master law.nodes.me conn untold.nothing))
  on_by _ _ placed none (is_elsewhere front given at no_front untold) =
      absurd (none (none_in_murder (fixed_of config) world law.master law.nodes.me conn untold.nothing))
  on_by _ _ placed none (is_open bytes at_node front connection at begun standing) =
      placed at_node front.replica standing.here
      (in_murder (fixed_of config) world law.master law.nodes.me at_node front.replica its standing.here standing.placed)
  on_by _ _ placed none (is_cut_off bytes at_node front connection at gone unanswered) =
      placed at_node front.replica gone.here
      (in_murder (fixed_of config) world law.master law.nodes.me at_node front.replica its gone.here gone.placed)
  on_by _ _ placed none (is_closed stop bytes at_node front connection at gone) =
      placed at_node front.replica gone.here
      (in_murder (fixed_of config) world law.master law.nodes.me at_node front.replica its gone.here gone.placed)

  -- to the backend
  pub down_line_on : IsFirstOn murder law.master.me name message → is_over its.command message ≡ false
  down_line_on first =
      on_by (law.stops conn) (heard conn)
      (λ front replica here is. line_down_on murder front replica its here name node there message own is first)
      (λ none. none_on_its_way murder conn law.master.me name message first own none) (law.connections conn)

  -- and to the master
  pub up_line_on : IsFirstOn murder name law.master.me message → is_over its.command message ≡ false
  up_line_on first =
      on_by (law.stops conn) (heard conn)
      (λ front replica here is. line_up_on murder front replica its here name node there message own is first)
      (λ none. none_on_its_way murder conn name law.master.me message first own none) (law.connections conn)
