-- The feeds after a step of the master.
use Rattle.std.proofs.Common.{◌≡◌, ◌≢◌, ◌⊎◌, inl, inr, ℕ, Bool, is_some, List, [], ◌∷◌, ◌++◌, Option, None, Some, refl, sym, ap, ◌∙◌, subst, append-nil}
use Rattle.std.specs.List.{AllByRecursion}
use Rattle.std.specs.Option.{IsSome}
use Rattle.std.specs.Ordering.{nat_cmp}
use Rattle.std.specs.Cmp.Lexicographic.{slice_cmp}
use Rattle.back_links.specs.OneTalk.{AreOfPlace, HasTalk, NamesOnly}
use Rattle.back_links.specs.Written.{command_message}
use Rattle.back_links.proofs.FirstLine.{IsItsLine, its_line, says_reply}
use Rattle.back_links.proofs.Queues.{IsFirst, first_of}
use Rattle.back_links.proofs.Texts.{command_read}
use Rattle.back_node.specs.declared.node.BackNode.{BackNode}
use Rattle.cluster_core.specs.World.{master_of, front_at, home_at, taken_from_link}
use Rattle.feed_core.specs.declared.replica.Replica.{Replica}
use Rattle.feed_core.specs.Stream.{update_tag}
use Rattle.feed_links.specs.Lines.{messages_to, stream_of}
use Rattle.feed_links.specs.OneFeed.{IsFed}
use Rattle.feed_links.specs.Spelled.{CanBeTold}
use Rattle.feed_links.proofs.Arguments.{HasArguments, line_has}
use Rattle.feed_links.proofs.Changes.{MakesChange, makes_change}
use Rattle.feed_links.proofs.FeedLaw.{clients_keep_it, no_message, others_keep_it, says_order, says_told}
use Rattle.feed_links.proofs.Following.{change_parts, update_tagged}
use Rattle.feed_links.proofs.Messages.{change_told, change_untold, no_answers, reply_messages}
use Rattle.feed_links.proofs.Printed.{response_spelled}
use Rattle.front_core.specs.declared.front.Front.{Front}
use Rattle.front_core.specs.Ups.{is_up}
use Rattle.link_msg.specs.declared.message.LinkMsg.{LinkMsg}
use Rattle.mur_base.specs.declared.home.Location.{Location}
use Rattle.link_queue.specs.Broken.{Broken, is_broken}
use Rattle.link_queue.specs.Links.{Links, on_link, without_first}
use Rattle.many_links.specs.ManyHold.{ManyHold}
use Rattle.many_links.specs.Murder.{Nodes, put_all}
use Rattle.many_links.proofs.Carried.{puts_else, puts_own, taken_else}
use Rattle.master_core.specs.declared.master.Master.{Master}
use Rattle.master_core.specs.declared.reply.Reply.{Reply}
use Rattle.master_core.specs.declared.sender.Sender.TheVariants.{Backend}
use Rattle.master_core.specs.Changes.{change_line, change_outs}
use Rattle.master_core.specs.Linked.{let_out, node_says}
use Rattle.master_core.specs.Outside.{Stepped as Served}
use Rattle.master_core.specs.Replies.{reply_to}
use Rattle.master_core.specs.Step.{Planned, replied, table_with}
use Rattle.master_core.specs.Whose.{TellNobody}
use Rattle.master_core.proofs.OutsideAlone.{bytes_alone, connects_alone, ends_alone}
use Rattle.mupdate_codec.specs.Arguments.{exact}
use Rattle.mupdate_codec.specs.Commands.{command_line}
use Rattle.mupdate_codec.proofs.WholeLaw.{is_line}
use Rattle.mur_base.specs.Map.{IsInOrder}
use Rattle.mur_config.specs.declared.config.Config.{Config}
use Rattle.mur_model.specs.declared.store.Store.{Store}
use Rattle.node_step.specs.declared.input.NodeInput.{NodeInput}
use Rattle.node_step.specs.declared.input.NodeInput.TheVariants.{Opened, Piece, Hung, From}
use Rattle.node_step.specs.declared.node.NodeState.TheVariants as state
use Rattle.name_links.specs.Serials.{Given}
use Rattle.node_record.specs.declared.master.MasterRecord.{MasterRecord}
use Rattle.route_links.proofs.Sent.{fed_stream}
use Rattle.cluster_core.specs.declared.world.World.{World}
use Rattle.cluster_core.proofs.Connections.KeepsLaw.{AreKeptAtBackends, AreNodesOf, FeedsHold, IsFedAt, KnowsBackends, TellsBackends, murder_of}
use Rattle.cluster_core.proofs.Feeds.Backends.{ArePlaced, LineNames, SameBackends, each_kept, kept_still, knows_more, knows_still, line_tells}
use Rattle.cluster_core.proofs.Feeds.Backends.{made_placed, own_change}
use Rattle.cluster_core.proofs.Feeds.Beside.{fed_moved, front_apart, front_no_home, home_apart}
use Rattle.cluster_core.proofs.Nodes.Carried.{is_made}
use Rattle.cluster_core.proofs.Nodes.Comes.{IsOfClient, MasterMoved, master_does, master_moved, with_master}

-- ---- what a client from outside does changes neither the streams nor the table

pub outside_same : (master : Master) (input : NodeInput) → IsOfClient input
    → ((master_does master input).master.streams ≡ master.streams) × ((master_does master input).master.table ≡ master.table)
outside_same master (Opened conn) is = ((connects_alone master conn).beside.streams, (connects_alone master conn).beside.table)
outside_same master (Piece conn bytes) is = ((bytes_alone master conn bytes).beside.streams, (bytes_alone master conn bytes).beside.table)
outside_same master (Hung conn) is = ((ends_alone master conn).beside.streams, (ends_alone master conn).beside.table)
outside_same master (From from message) is = absurd is

-- ---- a step in which each frontend is sent what follows the table

-- what is to be shown of each
pub record IsToldSo (nodes : Nodes) (master : Master) (next : Served) (any : List ℕ) (broken reached : Bool) (up down : List LinkMsg) (replica : Replica) : Type 0 where
  pub fed : IsFed next.master any broken reached up (down ++ messages_to any next.outs) replica
  pub told : AllByRecursion (TellsBackends nodes) (messages_to any next.outs)

module _ (config : Config) (world : World) (master : Master) (nodes : AreNodesOf config world master) (feeds : FeedsHold config world master) where
  abbrev name : List ℕ
  name = master_of config

  module _ (links : Links LinkMsg) (next : Served) (down_left : (any : List ℕ) → on_link links name any ≡ on_link world.links name any)
      (each : (any : List ℕ) (front : Front) → front_at world any ≡ Some front
      → IsToldSo (home_at world) master next any (is_broken world.broken name any) (is_up front.ups name) (on_link links any name) (on_link world.links name any)
      front.replica)
      (streams : IsInOrder (slice_cmp nat_cmp) next.master.streams) (nobodys : TellNobody next.master.streams) (spelled : CanBeTold next.master.table)
      (kept : AreKeptAtBackends (home_at world) next.master.table) where
    abbrev then : World
    then = with_master (record world { links = links }) name next

    moves : MasterMoved (record world { links = links }) name next.master then
    moves = master_moved (record world { links = links }) name master next nodes.is_there

    same_homes : SameBackends (home_at world) (home_at then)
    same_homes server = ap is_some (moves.homes server)

    then_links : then.links ≡ put_all name links next.outs
    then_links = (is_made (record world { links = links }) name (state.Master next.master) next.outs).links

    then_broken : then.broken ≡ world.broken
    then_broken = (is_made (record world { links = links }) name (state.Master next.master) next.outs).broken

    then_fed : (any : List ℕ) (front : Front) → front_at then any ≡ Some front → IsFedAt config then next.master any front
    then_fed any front there =
        let at : front_at world any ≡ Some front = sym (moves.fronts any) ∙ there in
        let was = feeds.each any front at in
        let so = each any front at in
        let sent : List LinkMsg = messages_to any next.outs in
        let up : on_link then.links any name ≡ on_link links any name =
        ap (λ (l : Links LinkMsg). on_link l any name) then_links ∙ puts_else name links next.outs any name (front_apart config world master nodes feeds any front at) in
        let down : on_link then.links name any ≡ on_link world.links name any ++ sent =
        ap (λ (l : Links LinkMsg). on_link l name any) then_links ∙ puts_own name links next.outs any ∙ ap (λ l. l ++ sent) (down_left any) in
        record {
          fed = subst (λ (b : Broken). IsFed next.master any (is_broken b name any) (is_up front.ups name) (on_link then.links any name) (on_link then.links name any) front.replica)
              (sym then_broken)
              (fed_moved next.master any (is_broken world.broken name any) (is_up front.ups name) (on_link links any name) (on_link then.links any name)
              (on_link world.links name any ++ sent) (on_link then.links name any) front.replica up down so.fed);
          knows = subst (λ d. KnowsBackends (home_at then) d front.replica) (sym down)
              (knows_still (home_at world) (home_at then) (on_link world.links name any ++ sent) front.replica same_homes
              (knows_more (home_at world) (on_link world.links name any) sent front.replica was.knows so.told));
        }

    pub master_then_feeds : FeedsHold config then next.master
    master_then_feeds =
        let later = kept_still (home_at world) (home_at then) next.master.table same_homes kept in
        record {
          each = then_fed;
          streams = streams;
          nobodys = nobodys;
          spelled = spelled;
          backends = each_kept (home_at then) next.master.table later;
          kept = later;
        }

  -- ---- a client from outside

  outside_told : (input : NodeInput) → IsOfClient input → (any : List ℕ) → messages_to any (master_does master input).outs ≡ []
  outside_told (Opened conn) is any = no_message any conn (master_does master (Opened conn)).outs (connects_alone master conn).own
  outside_told (Piece conn bytes) is any = no_message any conn (master_does master (Piece conn bytes)).outs (bytes_alone master conn bytes).own
  outside_told (Hung conn) is any = refl
  outside_told (From from message) is any = absurd is

  outside_fed : (input : NodeInput) → IsOfClient input → (any : List ℕ) (broken reached : Bool) (up down : List LinkMsg) (replica : Replica)
      → IsFed master any broken reached up down replica
      → IsFed (master_does master input).master any broken reached up (down ++ messages_to any (master_does master input).outs) replica
  outside_fed (Opened conn) is any broken reached up down replica fed = (clients_keep_it master any broken reached up down replica fed).connects conn
  outside_fed (Piece conn bytes) is any broken reached up down replica fed = (clients_keep_it master any broken reached up down replica fed).says conn bytes
  outside_fed (Hung conn) is any broken reached up down replica fed =
      subst (λ d. IsFed (master_does master (Hung conn)).master any broken reached up d replica) (sym (append-nil down))
      ((clients_keep_it master any broken reached up down replica fed).ends conn)
  outside_fed (From from message) is any broken reached up down replica fed = absurd is

  pub master_serves_feeds : (input : NodeInput) → IsOfClient input → FeedsHold config (with_master world name (master_does master input)) (master_does master input).master
  master_serves_feeds input is =
      let same = outside_same master input is in
      master_then_feeds world.links (master_does master input) (λ any. refl)
      (λ any front at. record {
        fed = outside_fed input is any (is_broken world.broken name any) (is_up front.ups name) (on_link world.links any name) (on_link world.links name any) front.replica
            (feeds.each any front at).fed;
        told = subst (AllByRecursion (TellsBackends (home_at world))) (sym (outside_told input is any)) tt;
      })
      (subst (λ s. IsInOrder (slice_cmp nat_cmp) s) (sym same.0) feeds.streams) (subst TellNobody (sym same.0) feeds.nobodys)
      (subst CanBeTold (sym same.1) feeds.spelled) (subst (AreKeptAtBackends (home_at world)) (sym same.1) feeds.kept)

  -- ---- a line of a backend

  module _ (given : Given) (store : Store) (many : ManyHold (murder_of world master) given store) (node : List ℕ) (home : BackNode) (at : home_at world node ≡ Some home)
      (message : LinkMsg) (rest : List LinkMsg) (first : on_link world.links node name ≡ message ∷ rest) where
    abbrev says : Served
    says = node_says master node message

    -- a place at a backend
    abbrev AtOne : Location → Type 0
    AtOne place = IsSome (home_at world place.server)

    talk : HasTalk master node home (message ∷ rest) (on_link world.links master.me node) given
    talk = subst (λ (u : List LinkMsg). HasTalk master node home u (on_link world.links master.me node) given)
        (ap (on_link world.links node) nodes.me ∙ first) (many.each node home at).talk

    line : IsFirst command_message message rest talk.ups
    line = first_of command_message message rest talk.ups talk.written.up_is

    its : IsItsLine master node message line.it
    its = its_line master node home rest (on_link world.links master.me node) given message talk line

    abbrev reply : Reply
    reply = reply_to master.table (Backend node) (line.it).1

    abbrev planned : Planned
    planned = replied master (Backend node) (line.it).0 reply

    says_it : says ≡ let_out planned
    says_it = says_reply master node message line.it its

    -- it names the backend's own place, if it names one
    own : NamesOnly home.flows.me (line.it).1
    own = (subst (AreOfPlace home.flows.me) line.are talk.own_place).0

    -- which is at a backend
    there : IsSome (home_at world (home.flows.me).server)
    there = ap is_some (ap (home_at world) talk.each.named ∙ at)

    makes : (change : MasterRecord) → reply.entry ≡ Some change → MakesChange master.table (line.it).1 change
    makes change e = makes_change master.table (Backend node) change (line.it).1 e

    at_line : (Q : Location → Type 0) → Q home.flows.me → (change : MasterRecord) → reply.entry ≡ Some change → LineNames Q (change_line change)
    at_line Q is change e = own_change Q home.flows.me master.table (line.it).1 change (makes change e) own is

    has : HasArguments (line.it).1
    has = line_has ((command_line exact).text line.it) line.it (is_line ((command_line exact).text line.it) line.it (command_read line.it its.spelled))

    -- what a frontend is told of the change

    changed_told : (any : List ℕ) (made : Option MasterRecord) → reply.entry ≡ made → (stream_of master any ≡ None) ⊎ (stream_of master any ≡ Some update_tag)
        → AllByRecursion (TellsBackends (home_at world)) (messages_to any (change_outs master.streams master.watchers made))
    unfolding change_outs
    changed_told any None e streams = tt
    changed_told any (Some change) e (inl none) =
        subst (AllByRecursion (TellsBackends (home_at world))) (sym (change_untold master any (Some change) none)) tt
    changed_told any (Some change) e (inr under) =
        subst (AllByRecursion (TellsBackends (home_at world))) (sym (change_told master any update_tag change feeds.streams under)) (
          line_tells (home_at world) update_tag (change_line change)
              (response_spelled update_tag (change_line change) update_tagged (change_parts master.table (line.it).1 change (makes change e) has))
              (at_line AtOne there change e),
          tt,
        )

    sent_is : (any : List ℕ) → node ≢ any → messages_to any says.outs ≡ messages_to any (change_outs master.streams master.watchers reply.entry)
    unfolding replied
    sent_is any ne =
        ap (λ (s : Served). messages_to any s.outs) says_it
        ∙ reply_messages master any (Backend node) (line.it).0 reply
        ∙ ap (λ l. l ++ messages_to any (change_outs master.streams master.watchers reply.entry)) (no_answers any (Backend node) (line.it).0 reply.answers ne)

    streams_same : says.master.streams ≡ master.streams
    unfolding replied
    streams_same = ap (λ (s : Served). s.master.streams) says_it

    table_is : says.master.table ≡ table_with master.table reply.entry
    unfolding replied
    table_is = ap (λ (s : Served). s.master.table) says_it

    -- where all records are at such places, and the backend's own is one, they still are then
    pub master_takes_placed : (Q : Location → Type 0) → Q home.flows.me → ArePlaced Q master.table → ArePlaced Q says.master.table
    master_takes_placed Q is all = subst (ArePlaced Q) (sym table_is) (made_placed Q master.table (line.it).1 reply.entry makes (at_line Q is) all)

    home_left : (any : List ℕ) → on_link (without_first world.links node name) name any ≡ on_link world.links name any
    home_left any = taken_else world.links node name name any (inl (λ e. home_apart config world master nodes feeds node home at (sym e)))

    told_so : (any : List ℕ) (front : Front) → front_at world any ≡ Some front
        → IsToldSo (home_at world) master says any (is_broken world.broken name any) (is_up front.ups name) (on_link (without_first world.links node name) any name)
        (on_link world.links name any) front.replica
    told_so any front is =
        let was = feeds.each any front is in
        let ne : any ≢ node = front_no_home config world master nodes feeds any node front home is at in
        let other : node ≢ any = λ e. ne (sym e) in
        let cut : Bool = is_broken world.broken name any in
        let reached : Bool = is_up front.ups name in
        record {
          fed = subst (λ u. IsFed says.master any cut reached u (on_link world.links name any ++ messages_to any says.outs) front.replica)
              (sym (taken_else world.links node name any name (inl ne)))
              (others_keep_it master any node cut reached (on_link world.links any name) (on_link world.links name any) message front.replica feeds.streams other was.fed);
          told = subst (AllByRecursion (TellsBackends (home_at world))) (sym (sent_is any other))
              (changed_told any reply.entry refl (fed_stream master any cut reached (on_link world.links any name) (on_link world.links name any) front.replica was.fed));
        }

    pub master_takes_feeds : FeedsHold config (with_master (taken_from_link world node name) name (node_says master node message)) (node_says master node message).master
    master_takes_feeds =
        master_then_feeds (without_first world.links node name) says home_left told_so (says_order master node message feeds.streams)
        (subst TellNobody (sym streams_same) feeds.nobodys) (says_told master node message feeds.spelled)
        (master_takes_placed AtOne there feeds.kept)
