-- The feeds after a step of a backend or of a frontend: the master's table and streams stay, and so does what is between it and each other frontend.
use Rattle.std.proofs.Common.{◌≡◌, ◌≢◌, inl, inr, ℕ, Bool, true, false, is_some, List, [], ◌∷◌, ◌++◌, Option, None, Some, refl, sym, ap, ◌∙◌, subst, append-nil}
use Rattle.std.specs.Ordering.{nat_cmp}
use Rattle.std.specs.Cmp.Lexicographic.{slice_cmp}
use Rattle.std.proofs.Math.Logic.{⊎_elim}
use Rattle.std.proofs.lemmas.Option.{same_Some}
use Rattle.back_node.specs.declared.node.BackNode.{BackNode}
use Rattle.back_node.specs.Acted.{BackActed}
use Rattle.cluster_core.specs.World.{master_of, front_at, home_at, taken_from_link}
use Rattle.feed_core.specs.declared.replica.Replica.{Replica}
use Rattle.feed_links.specs.Lines.{messages_to}
use Rattle.feed_links.specs.OneFeed.{AreNoops, IsFed}
use Rattle.feed_links.specs.Replicas.{hears as hears_it}
use Rattle.feed_links.proofs.FeedLaw.{hears_keeps_it, noops_keep_it}
use Rattle.front_core.specs.declared.front.Front.{Front}
use Rattle.front_core.specs.Front.{Stepped, deliver}
use Rattle.front_core.specs.Ups.{is_up}
use Rattle.link_msg.specs.declared.message.LinkMsg.{LinkMsg}
use Rattle.link_msg.specs.declared.message.LinkMsg.TheVariants.{Line}
use Rattle.link_queue.specs.Broken.{Broken, is_broken}
use Rattle.link_queue.specs.Links.{Links, on_link, without_first}
use Rattle.many_links.specs.Murder.{put_all}
use Rattle.many_links.proofs.Carried.{puts_else, puts_own, taken_else, taken_first}
use Rattle.master_core.specs.declared.master.Master.{Master}
use Rattle.mur_base.proofs.MapLaws.{names_apart, same_or_other}
use Rattle.mur_config.specs.declared.config.Config.{Config}
use Rattle.node_step.specs.declared.input.NodeInput.{NodeInput}
use Rattle.node_step.specs.declared.input.NodeInput.TheVariants.{Opened, Piece, Hung, From}
use Rattle.node_step.specs.declared.node.NodeState.TheVariants as state
use Rattle.cluster_core.specs.declared.world.World.{World}
use Rattle.cluster_core.proofs.Connections.KeepsLaw.{AreNodesOf, FeedsHold, IsFedAt, KnowsBackends}
use Rattle.cluster_core.proofs.Feeds.Backends.{SameBackends, each_kept, kept_still, knows_heard, knows_still}
use Rattle.cluster_core.proofs.Feeds.SentUp.{KeepsLink, client_keeps_link, line_keeps_link, others_keep_link}
use Rattle.cluster_core.proofs.Nodes.Carried.{is_made}
use Rattle.cluster_core.proofs.Nodes.Comes.{FrontMoved, HomeMoved, IsOfClient, front_does, front_moved, home_moved, master_no_front_at, master_no_home_at, with_front, with_home}
use Rattle.cluster_core.proofs.Nodes.Known.{HearsLine, KeepsKnown, bytes_known, connect_known, hang_known, hears_line, others_known}

pub no_one : {X : Type 0} (found : Option X) (x : X) → found ≡ Some x → found ≡ None → ⊥
no_one found x one none = (let no : Some x ≡ None = sym one ∙ none in cc)

-- of how the link stands, of what stands on it, and of the replica it is
pub fed_moved : (master : Master) (node : List ℕ) (broken reached : Bool) (up now_up down now_down : List LinkMsg) (replica : Replica) → now_up ≡ up → now_down ≡ down
    → IsFed master node broken reached up down replica → IsFed master node broken reached now_up now_down replica
fed_moved master node broken reached up now_up down now_down replica ups downs fed =
    subst (λ u. IsFed master node broken reached u now_down replica) (sym ups) (subst (λ d. IsFed master node broken reached up d replica) (sym downs) fed)

pub fed_linked : (master : Master) (node : List ℕ) (broken now_broken reached now_reached : Bool) (up down : List LinkMsg) (replica now_replica : Replica)
    → now_broken ≡ broken → now_reached ≡ reached → now_replica ≡ replica → IsFed master node broken reached up down replica
    → IsFed master node now_broken now_reached up down now_replica
fed_linked master node broken now_broken reached now_reached up down replica now_replica cuts ups same fed =
    subst (λ b. IsFed master node b now_reached up down now_replica) (sym cuts)
    (subst (λ r. IsFed master node broken r up down now_replica) (sym ups) (subst (λ p. IsFed master node broken reached up down p) (sym same) fed))

-- the frontend sends NOOPs, or nothing where it has the link as down
sends_keep_it : (master : Master) (node : List ℕ) (broken reached : Bool) (up down more : List LinkMsg) (replica : Replica) → AreNoops more
    → (reached ≡ false → more ≡ []) → IsFed master node broken reached up down replica → IsFed master node broken reached (up ++ more) down replica
sends_keep_it master node broken reached up down more replica noops nothing fed = by reached refl
  where
    by : (r : Bool) → reached ≡ r → IsFed master node broken reached (up ++ more) down replica
    by true e = noops_keep_it master node broken reached up down more replica noops e fed
    by false e =
        subst (λ u. IsFed master node broken reached u down replica) (sym (ap (λ m. up ++ m) (nothing e) ∙ append-nil up)) fed

module _ (config : Config) (world : World) (master : Master) (nodes : AreNodesOf config world master) (feeds : FeedsHold config world master) where
  abbrev name : List ℕ
  name = master_of config

  pub front_apart : (any : List ℕ) (front : Front) → front_at world any ≡ Some front → any ≢ name
  front_apart any front at e =
      no_one (front_at world any) front at (ap (front_at world) e ∙ master_no_front_at world name master nodes.is_there)

  pub home_apart : (any : List ℕ) (home : BackNode) → home_at world any ≡ Some home → any ≢ name
  home_apart any home at e = no_one (home_at world any) home at (ap (home_at world) e ∙ master_no_home_at world name master nodes.is_there)

  pub front_no_home : (any node : List ℕ) (front : Front) (home : BackNode) → front_at world any ≡ Some front → home_at world node ≡ Some home → any ≢ node
  front_no_home any node front home at there e = no_one (home_at world node) home there (ap (home_at world) (sym e) ∙ (nodes.fronts any front at).no_home)

  -- a feed of which nothing changes
  pub still_fed : (next : World) (any : List ℕ) (front : Front) → front_at world any ≡ Some front → on_link next.links any name ≡ on_link world.links any name
      → on_link next.links name any ≡ on_link world.links name any → is_broken next.broken name any ≡ is_broken world.broken name any
      → SameBackends (home_at world) (home_at next) → IsFedAt config next master any front
  still_fed next any front at up down cut same =
      let was = feeds.each any front at in
      let reached : Bool = is_up front.ups name in
      record {
        fed = fed_linked master any (is_broken world.broken name any) (is_broken next.broken name any) reached reached (on_link next.links any name)
            (on_link next.links name any) front.replica front.replica cut refl refl
            (fed_moved master any (is_broken world.broken name any) reached (on_link world.links any name) (on_link next.links any name) (on_link world.links name any)
            (on_link next.links name any) front.replica up down was.fed);
        knows = subst (λ d. KnowsBackends (home_at next) d front.replica) (sym down)
            (knows_still (home_at world) (home_at next) (on_link world.links name any) front.replica same was.knows);
      }

  -- what is of the master alone
  pub still_feeds : (next : World) → SameBackends (home_at world) (home_at next)
      → ((any : List ℕ) (front : Front) → front_at next any ≡ Some front → IsFedAt config next master any front) → FeedsHold config next master
  still_feeds next same each =
      let kept = kept_still (home_at world) (home_at next) master.table same feeds.kept in
      record {
        each = each;
        streams = feeds.streams;
        nobodys = feeds.nobodys;
        spelled = feeds.spelled;
        backends = each_kept (home_at next) master.table kept;
        kept = kept;
      }

  -- ---- a backend

  module _ (node : List ℕ) (home : BackNode) (at : home_at world node ≡ Some home) (links : Links LinkMsg) (next : BackActed)
      (up_left : (any : List ℕ) (front : Front) → front_at world any ≡ Some front → on_link links any name ≡ on_link world.links any name)
      (down_left : (any : List ℕ) (front : Front) → front_at world any ≡ Some front → on_link links name any ≡ on_link world.links name any) where
    abbrev home_then : World
    home_then = with_home (record world { links = links }) node next

    home_moves : HomeMoved (record world { links = links }) node next.state home_then
    home_moves = home_moved (record world { links = links }) node home next at

    same_homes : SameBackends (home_at world) (home_at home_then)
    same_homes server = ⊎_elim
        (λ (e : server ≡ node). ap is_some (ap (home_at home_then) e ∙ home_moves.own) ∙ sym (ap is_some (ap (home_at world) e ∙ at)))
        (λ (ne : server ≢ node). ap is_some (home_moves.homes server ne))
        (same_or_other (slice_cmp nat_cmp) names_apart server node)

    home_links : home_then.links ≡ put_all node links next.outs
    home_links = (is_made (record world { links = links }) node (state.Back next.state) next.outs).links

    home_broken : home_then.broken ≡ world.broken
    home_broken = (is_made (record world { links = links }) node (state.Back next.state) next.outs).broken

    home_fed : (any : List ℕ) (front : Front) → front_at home_then any ≡ Some front → IsFedAt config home_then master any front
    home_fed any front there =
        let was : front_at world any ≡ Some front = sym (home_moves.fronts any) ∙ there in
        still_fed home_then any front was
        (ap (λ (l : Links LinkMsg). on_link l any name) home_links
        ∙ puts_else node links next.outs any name (front_no_home any node front home was at) ∙ up_left any front was)
        (ap (λ (l : Links LinkMsg). on_link l name any) home_links
        ∙ puts_else node links next.outs name any (λ e. home_apart node home at (sym e)) ∙ down_left any front was)
        (ap (λ (b : Broken). is_broken b name any) home_broken) same_homes

    home_does_feeds : FeedsHold config home_then master
    home_does_feeds = still_feeds home_then same_homes home_fed

  -- whatever a backend takes of another node
  pub home_keeps_feeds : (from node : List ℕ) (home : BackNode) (next : BackActed) → home_at world node ≡ Some home
      → FeedsHold config (with_home (taken_from_link world from node) node next) master
  home_keeps_feeds from node home next at =
      home_does_feeds node home at (without_first world.links from node) next
      (λ any front is. taken_else world.links from node any name (inr (λ e. home_apart node home at (sym e))))
      (λ any front is. taken_else world.links from node name any (inr (front_no_home any node front home is at)))

  -- ---- a frontend

  module _ (node : List ℕ) (was : Front) (at : front_at world node ≡ Some was) (links : Links LinkMsg) (next : Stepped)
      (up_left : (any : List ℕ) → any ≢ node → on_link links any name ≡ on_link world.links any name)
      (down_left : (any : List ℕ) → any ≢ node → on_link links name any ≡ on_link world.links name any)
      (fed : IsFed master node (is_broken world.broken name node) (is_up was.ups name) (on_link links node name) (on_link links name node) next.front.replica)
      (knows : KnowsBackends (home_at world) (on_link links name node) next.front.replica) (noops : AreNoops (messages_to name next.outs))
      (link : KeepsLink name was next) where
    abbrev front_then : World
    front_then = with_front (record world { links = links }) node next

    front_moves : FrontMoved (record world { links = links }) node next.front front_then
    front_moves = front_moved (record world { links = links }) node was next at

    front_homes : SameBackends (home_at world) (home_at front_then)
    front_homes server = ap is_some (front_moves.homes server)

    front_links : front_then.links ≡ put_all node links next.outs
    front_links = (is_made (record world { links = links }) node (state.Front next.front) next.outs).links

    front_broken : front_then.broken ≡ world.broken
    front_broken = (is_made (record world { links = links }) node (state.Front next.front) next.outs).broken

    own_up : on_link front_then.links node name ≡ on_link links node name ++ messages_to name next.outs
    own_up = ap (λ (l : Links LinkMsg). on_link l node name) front_links ∙ puts_own node links next.outs name

    own_down : on_link front_then.links name node ≡ on_link links name node
    own_down = ap (λ (l : Links LinkMsg). on_link l name node) front_links ∙ puts_else node links next.outs name node (λ e. front_apart node was at (sym e))

    own_fed : IsFedAt config front_then master node next.front
    own_fed =
        let cut : Bool = is_broken world.broken name node in
        let reached : Bool = is_up was.ups name in record {
          fed = fed_linked master node cut (is_broken front_then.broken name node) reached (is_up next.front.ups name) (on_link front_then.links node name)
              (on_link front_then.links name node) next.front.replica next.front.replica (ap (λ (b : Broken). is_broken b name node) front_broken) link.reached refl
              (fed_moved master node cut reached (on_link links node name ++ messages_to name next.outs) (on_link front_then.links node name) (on_link links name node)
              (on_link front_then.links name node) next.front.replica own_up own_down
              (sends_keep_it master node cut reached (on_link links node name) (on_link links name node) (messages_to name next.outs) next.front.replica noops
              link.nothing fed));
          knows = subst (λ d. KnowsBackends (home_at front_then) d next.front.replica) (sym own_down)
              (knows_still (home_at world) (home_at front_then) (on_link links name node) next.front.replica front_homes knows);
        }

    other_fed : (any : List ℕ) (front : Front) → any ≢ node → front_at front_then any ≡ Some front → IsFedAt config front_then master any front
    other_fed any front ne there =
        let before : front_at world any ≡ Some front = sym (front_moves.fronts any ne) ∙ there in
        still_fed front_then any front before
        (ap (λ (l : Links LinkMsg). on_link l any name) front_links ∙ puts_else node links next.outs any name ne ∙ up_left any ne)
        (ap (λ (l : Links LinkMsg). on_link l name any) front_links
        ∙ puts_else node links next.outs name any (λ e. front_apart node was at (sym e)) ∙ down_left any ne)
        (ap (λ (b : Broken). is_broken b name any) front_broken) front_homes

    front_does_feeds : FeedsHold config front_then master
    front_does_feeds = still_feeds front_then front_homes
        (λ any front there. ⊎_elim
        (λ (e : any ≡ node).
        (let is : next.front ≡ front = same_Some next.front front (sym front_moves.own ∙ ap (front_at front_then) (sym e) ∙ there) in
        subst (λ n. IsFedAt config front_then master n front) (sym e) (subst (λ f. IsFedAt config front_then master node f) is own_fed)))
        (λ (ne : any ≢ node). other_fed any front ne there)
        (same_or_other (slice_cmp nat_cmp) names_apart any node))

  -- it tells its clients: what it sends the master are NOOPs
  client_known : (front : Front) (input : NodeInput) → IsOfClient input → KeepsKnown front (front_does front input).front
  client_known front (Opened conn) is = connect_known front conn
  client_known front (Piece conn bytes) is = bytes_known front conn bytes
  client_known front (Hung conn) is = hang_known front conn
  client_known front (From from message) is = absurd is

  pub front_client_feeds : (node : List ℕ) (front : Front) (input : NodeInput) → front_at world node ≡ Some front → IsOfClient input
      → AreNoops (messages_to name (front_does front input).outs) → FeedsHold config (with_front world node (front_does front input)) master
  front_client_feeds node front input at is noops =
      let was = feeds.each node front at in
      let same = (client_known front input is).replica in
      front_does_feeds node front at world.links (front_does front input) (λ any ne. refl) (λ any ne. refl)
      (subst (λ r. IsFed master node (is_broken world.broken name node) (is_up front.ups name) (on_link world.links node name) (on_link world.links name node) r) (sym same)
      was.fed)
      (subst (λ r. KnowsBackends (home_at world) (on_link world.links name node) r) (sym same) was.knows) noops (client_keeps_link name front input is)

  -- it takes a message of another node than the master
  pub front_answered_feeds : (from node : List ℕ) (front : Front) (message : LinkMsg) → front_at world node ≡ Some front → from ≢ name
      → AreNoops (messages_to name (deliver front from message).outs)
      → FeedsHold config (with_front (taken_from_link world from node) node (deliver front from message)) master
  front_answered_feeds from node front message at ne noops =
      let was = feeds.each node front at in
      let is : front.master ≡ name = (nodes.fronts node front at).master_is in
      let other : from ≢ front.master = λ e. ne (e ∙ is) in
      let links : Links LinkMsg = without_first world.links from node in
      let same = (others_known front from message other).replica in
      let cut : Bool = is_broken world.broken name node in
      let reached : Bool = is_up front.ups name in
      let up : (any : List ℕ) → on_link links any name ≡ on_link world.links any name =
      λ any. taken_else world.links from node any name (inr (λ e. front_apart node front at (sym e))) in
      let down : (any : List ℕ) → on_link links name any ≡ on_link world.links name any = λ any. taken_else world.links from node name any (inl (λ e. ne (sym e))) in
      front_does_feeds node front at links (deliver front from message) (λ any ne. up any) (λ any ne. down any)
      (subst (λ r. IsFed master node cut reached (on_link links node name) (on_link links name node) r) (sym same)
      (fed_moved master node cut reached (on_link world.links node name) (on_link links node name) (on_link world.links name node) (on_link links name node) front.replica
      (up node) (down node) was.fed))
      (subst (λ r. KnowsBackends (home_at world) (on_link links name node) r) (sym same)
      (subst (λ d. KnowsBackends (home_at world) d front.replica) (sym (down node)) was.knows)) noops
      (subst (λ m. KeepsLink m front (deliver front from message)) is (others_keep_link front from message other))

  -- it takes the first line of the master
  module _ (node : List ℕ) (front : Front) (at : front_at world node ≡ Some front) (bytes : List ℕ) (rest : List LinkMsg)
      (first : on_link world.links name node ≡ Line bytes ∷ rest) (noops : AreNoops (messages_to name (deliver front name (Line bytes)).outs)) where
    abbrev links : Links LinkMsg
    links = without_first world.links name node

    abbrev heard : Stepped
    heard = deliver front name (Line bytes)

    up : (any : List ℕ) → on_link links any name ≡ on_link world.links any name
    up any = taken_else world.links name node any name (inr (λ e. front_apart node front at (sym e)))

    down : (any : List ℕ) → any ≢ node → on_link links name any ≡ on_link world.links name any
    down any ne = taken_else world.links name node name any (inr ne)

    own_rest : on_link links name node ≡ rest
    own_rest = taken_first world.links name node (Line bytes) rest first

    hears : HearsLine front heard.front bytes
    hears = hears_line front name bytes (sym (nodes.fronts node front at).master_is)

    pub front_hears_feeds : FeedsHold config (with_front (taken_from_link world name node) node heard) master
    front_hears_feeds =
        let was = feeds.each node front at in
        let cut : Bool = is_broken world.broken name node in
        let reached : Bool = is_up front.ups name in
        front_does_feeds node front at links heard (λ any ne. up any) down
        (subst (λ r. IsFed master node cut reached (on_link links node name) (on_link links name node) r) (sym hears.replica)
        (fed_moved master node cut reached (on_link world.links node name) (on_link links node name) rest (on_link links name node)
        (hears_it front.replica (Line bytes)) (up node) own_rest
        (hears_keeps_it master node cut reached (on_link world.links node name) rest bytes front.replica
        (fed_moved master node cut reached (on_link world.links node name) (on_link world.links node name) (on_link world.links name node) (Line bytes ∷ rest) front.replica
        refl (sym first) was.fed))))
        (subst (λ r. KnowsBackends (home_at world) (on_link links name node) r) (sym hears.replica)
        (subst (λ d. KnowsBackends (home_at world) d (hears_it front.replica (Line bytes))) (sym own_rest)
        (knows_heard (home_at world) (Line bytes) rest front.replica
        (subst (λ d. KnowsBackends (home_at world) d front.replica) first was.knows)))) noops (line_keeps_link name front name bytes)
