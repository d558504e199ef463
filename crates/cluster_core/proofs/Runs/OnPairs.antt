-- A message is on its way only between linked nodes, as long as the records of the frontends name backends.
use Rattle.std.proofs.Common.{◌≡◌, ◌≢◌, ◌⊎◌, inl, inr, ℕ, Bool, true, false, cond, ◌||◌, List, [], ◌∷◌, ◌++◌, drop, take, Option, None, Some, refl, sym, ◌∙◌, ap, subst, All, Contains, append_assoc}
use Rattle.std.specs.Prelude.{⊤}
use Rattle.std.specs.Option.{IsSome}
use Rattle.std.specs.Ordering.{nat_cmp, is_eq}
use Rattle.std.specs.Cmp.Lexicographic.{slice_cmp}
use Rattle.std.proofs.Math.Logic.{⊎_elim}
use Rattle.std.proofs.lemmas.List.{append-nil}
use Rattle.std.proofs.lemmas.List.Elements.{All-contains, All-contains_itself, All-head, All-tail, All-weaker}
use Rattle.std.proofs.lemmas.Option.{same_Some}
use Rattle.back_node.specs.declared.node.BackNode.{BackNode}
use Rattle.back_node.proofs.Said.{none_owed_at_start}
use Rattle.cluster_core.specs.declared.world.Client.{Client}
use Rattle.cluster_core.specs.World.{are_parted, cuts_if, joins_if, may_cut, may_join, may_part, home_of, master_of, carry, carry_all, client_at, client_does, comes_to, deliver_first, first_state, front_at, home_at, no_world, node_at, not_lost, opens, place_of, start, stepped, steps_by, taken_from_link, takes, told_up, with_client, with_node, with_nodes, with_ups, with_acted}
use Rattle.feed_core.specs.Feed.{Recs}
use Rattle.feed_core.specs.Routes.{server_at}
use Rattle.front_core.specs.declared.front.Front.{Front}
use Rattle.front_core.specs.Front.{deliver, new_front, up_from, ways_of, with_up}
use Rattle.front_core.proofs.OwnOuts.{AreLetOut, IsLetOut, MayAsk}
use Rattle.imap_talk.specs.Heard.{Heard}
use Rattle.link_msg.specs.declared.answer.AnswerBody.TheVariants.{Moved}
use Rattle.link_msg.specs.declared.answer.BackAnswer.{BackAnswer}
use Rattle.link_msg.specs.declared.message.LinkMsg.{LinkMsg}
use Rattle.link_msg.specs.declared.message.LinkMsg.TheVariants.{Up, End, Line, Ask, Answer}
use Rattle.link_msg.specs.declared.out.Out.{Out}
use Rattle.link_msg.specs.declared.out.Out.TheVariants.{Client as to_client, Close, Link as to_node, Mark as mark_out, Told as tell}
use Rattle.link_queue.specs.Broken.{Broken, breaking, is_broken, mending}
use Rattle.link_queue.specs.Links.{Links, cut_short, on_link, same_link, sent, without_first}
use Rattle.link_queue.proofs.BrokenLaws.{is_broken-breaking, is_broken-mending, none_broken}
use Rattle.link_queue.proofs.Wires.{same_names, on_link-cut, on_link-sent, on_link-taken}
use Rattle.master_core.specs.Boot.{booted}
use Rattle.mur_base.proofs.MapLaws.{names_apart, same_or_other, value_at-with_entry, value_at-with_entry-other}
use Rattle.mur_config.specs.declared.config.Config.{Config}
use Rattle.mur_config.specs.declared.node.Kind.{Kind}
use Rattle.mur_config.specs.declared.node.Kind.TheVariants.{Master as master_kind, Frontend, Backend as backend_kind}
use Rattle.mur_config.specs.declared.node.Link.{Link}
use Rattle.mur_config.specs.declared.node.Node.{Node}
use Rattle.mur_config.specs.Nodes.{AreNodes, links_of}
use Rattle.node_step.specs.declared.input.NodeInput.{NodeInput}
use Rattle.node_step.specs.declared.input.NodeInput.TheVariants.{Opened, Piece, Hung, From}
use Rattle.node_step.specs.declared.node.NodeState.{NodeState}
use Rattle.node_step.specs.declared.node.NodeState.TheVariants as state
use Rattle.node_step.specs.NodeStep.{as_front, back_takes, front_takes, master_takes, takes as node_takes}
use Rattle.node_step.proofs.NodeKinds.{a_front, back_is}
use Rattle.node_step.proofs.MasterOuts.{SpeaksFrom}
use Rattle.node_step.proofs.OwnOuts.{ComesFrom, HasOwn, KeepsKind, LetsOut, MayBeAnswered, MayMark, MaySend, MovesOn, takes_lets}
use Rattle.schedule_text.specs.declared.event.Event.{Event}
use Rattle.schedule_text.specs.declared.event.Event.TheVariants.{Open, Data, Hang, Deliver, Cut, Join}
use Rattle.cluster_core.specs.declared.world.World.{World}
use Rattle.cluster_core.specs.Flow.{run_steps, steps_of_run}
use Rattle.cluster_core.specs.Headline.OneNode.{GoesOverLinks}
use Rattle.cluster_core.specs.Headline.OneStore.{AreEmpty}
use Rattle.cluster_core.proofs.Runs.QuietNodes.{AnyClient}
use Rattle.cluster_core.proofs.Connections.AsksFirst.{home_is_so}
use Rattle.cluster_core.proofs.Connections.KeepsLaw.{KeepsLaw, NamesBackends}
use Rattle.cluster_core.proofs.Starts.Kinds.{HasNode}
use Rattle.cluster_core.proofs.Runs.LinkedNodes.{Joined, backends_joined, backend_with_master, front_with_any, front_with_backend, front_with_master, the_first}
use Rattle.cluster_core.proofs.Runs.NeverMoved.{may_cut_parts, may_join_broken, none_moved}
use Rattle.cluster_core.proofs.Runs.NotLost.{let_left}
use Rattle.cluster_core.proofs.Runs.OneNodeLaw.{comes_broken, given_links, may_cut_apart}
use Rattle.cluster_core.proofs.Runs.OwnNodes.{OfEachNode, comes_of_each}

-- ---- where frontends ask

-- the records of each frontend name backends, and so does each answer that comes to one and sends its command on
record AskBackends (world : World) : Type 0 where
  known : (node : List ℕ) (front : Front) → front_at world node ≡ Some front → NamesBackends (home_at world) front.replica.records
  moved : (from to : List ℕ) (front : Front) (answer : BackAnswer) (rest : List LinkMsg) (server : List ℕ) → front_at world to ≡ Some front
      → on_link world.links from to ≡ Answer answer ∷ rest → answer.body ≡ Moved server → IsSome (home_at world server)

-- the records of each frontend do
abbrev pub KnowBackends : World → Type 0
KnowBackends world = (node : List ℕ) (front : Front) → front_at world node ≡ Some front → NamesBackends (home_at world) front.replica.records

-- by the law of a run
pub know_by_law : (config : Config) (heard : ℕ → Heard) (world : World) → KeepsLaw config heard world → KnowBackends world
know_by_law config heard world law = λ node front at. (((law.feeds).each node front at).knows).has

-- so it is after each of these steps of a run
abbrev pub KnowBackendsSoFar : Config → List Event → Type 0
KnowBackendsSoFar config steps = (before later : List Event) → steps ≡ before ++ later → KnowBackends (run_steps (start config) before)

-- no answer sends a command on
asks_too : (config : Config) (steps : List Event) → AreNodes config.nodes → KnowBackends (run_steps (start config) steps)
    → AskBackends (run_steps (start config) steps)
asks_too config steps are known = record {
  known = known;
  moved = λ from to front answer rest server at first moved. absurd (none_moved config steps are from to answer rest server first moved);
}

-- over a link of this node, whatever is sent
abbrev pub OverLink : List Link → List ℕ → List ℕ → LinkMsg → Type 0
OverLink pairs node other message = Joined pairs node other

-- nothing is on its way from one node to another, or they are linked
abbrev pub AreOn : List Link → Links LinkMsg → Type 0
AreOn pairs links = (from to : List ℕ) → (on_link links from to ≡ []) ⊎ Joined pairs from to

-- only links between linked nodes are broken
abbrev pub AreBrokenOn : List Link → Broken → Type 0
AreBrokenOn pairs broken = (from to : List ℕ) → is_broken broken from to ≡ true → Joined pairs from to

-- ---- what a node lets out

sent_by : (pairs : List Link) (links : Links LinkMsg) (node other : List ℕ) (message : LinkMsg) (from to : List ℕ) (same : Bool)
    → same_link from to node other ≡ same → Joined pairs node other → (on_link links from to ≡ []) ⊎ Joined pairs from to
    → (on_link (sent links node other message) from to ≡ []) ⊎ Joined pairs from to
sent_by pairs links node other message from to true h joined was =
    let is = same_names from to node other h in
    inr (subst (λ f. Joined pairs f to) (sym is.0) (subst (λ t. Joined pairs node t) (sym is.1) joined))
sent_by pairs links node other message from to false h joined was = ⊎_elim
    (λ empty. inl (on_link-sent links node other from to message ∙ ap (λ s. on_link links from to ++ cond s (message ∷ []) []) h
    ∙ append-nil (on_link links from to) ∙ empty))
    (λ there. inr there)
    was

module _ (pairs : List Link) (own : ℕ → Type 0) (marks : Type 0) (node : List ℕ) where
  carry_on : (world : World) (out : Out) → IsLetOut own (OverLink pairs node) marks out → AreOn pairs world.links → AreOn pairs (carry node world out).links
  unfolding carry
  carry_on world (to_client conn bytes) may on = subst (λ l. AreOn pairs l) (sym (given_links world conn bytes (client_at world conn))) on
  carry_on world (Close conn) may on = on
  carry_on world (mark_out ask counts) may on = on
  carry_on world (tell ask how) may on = on
  carry_on world (to_node other message) may on = λ from to.
      sent_by pairs world.links node other message from to (same_link from to node other) refl may (on from to)

  carry_all_on : (world : World) (outs : List Out) → AreLetOut own (OverLink pairs node) marks outs → AreOn pairs world.links
      → AreOn pairs (carry_all node world outs).links
  unfolding carry_all
  carry_all_on world [] may on = on
  carry_all_on world (out ∷ outs) may on = carry_all_on (carry node world out) outs may.1 (carry_on world out may.0 on)

-- ---- the nodes

-- a node of the configuration is of its kind there, with the master and the first backend of the configuration
abbrev pub IsNodeOf : Config → List ℕ → NodeState → Type 0
IsNodeOf config node (state.Front front) = HasNode config.nodes Frontend node × ((front.master ≡ master_of config) × (front.first ≡ home_of config))
IsNodeOf config node (state.Back home) = HasNode config.nodes backend_kind node × (home.flows.master ≡ master_of config)
IsNodeOf config node (state.Master master) = HasNode config.nodes master_kind node

-- it owes answers, and tells changes, over its links alone
pub record IsLinked (config : Config) (node : List ℕ) (it : NodeState) : Type 0 where
  pub is_of : IsNodeOf config node it
  pub owes : HasOwn AnyClient (OverLink (links_of config.nodes) node) it

kind_stays : (config : Config) (node : List ℕ) (was now : NodeState) → KeepsKind was now → IsNodeOf config node was → IsNodeOf config node now
kind_stays config node (state.Front was) (state.Front now) keeps is = (is.0, (keeps.0 ∙ is.1.0, keeps.1 ∙ is.1.1))
kind_stays config node (state.Back was) (state.Back now) keeps is = (is.0, keeps ∙ is.1)
kind_stays config node (state.Master was) (state.Master now) keeps is = is
kind_stays config node (state.Front was) (state.Back now) keeps is = absurd keeps
kind_stays config node (state.Front was) (state.Master now) keeps is = absurd keeps
kind_stays config node (state.Back was) (state.Front now) keeps is = absurd keeps
kind_stays config node (state.Back was) (state.Master now) keeps is = absurd keeps
kind_stays config node (state.Master was) (state.Front now) keeps is = absurd keeps
kind_stays config node (state.Master was) (state.Back now) keeps is = absurd keeps

module _ (config : Config) (are : AreNodes config.nodes) where
  abbrev pairs : List Link
  pairs = links_of config.nodes

  abbrev AreLinked : World → Type 0
  AreLinked world = OfEachNode (IsLinked config) world

  node_lets : (node : List ℕ) (it : NodeState) (input : NodeInput) → IsLinked config node it → ComesFrom AnyClient (OverLink pairs node) input
      → MaySend (OverLink pairs node) it input → LetsOut AnyClient (OverLink pairs node) (MayMark it) it (node_takes it input)
  node_lets node it input is from sends = takes_lets AnyClient (OverLink pairs node) it input is.owes from sends

  -- what comes to a node, if it may come and the node may send for it
  pub record MayCome (world : World) (node : List ℕ) (input : NodeInput) : Type 0 where
    pub from : ComesFrom AnyClient (OverLink pairs node) input
    pub sends : (it : NodeState) → node_at world node ≡ Some it → MaySend (OverLink pairs node) it input

  comes_linked : (world : World) (node : List ℕ) (input : NodeInput) → AreLinked world → MayCome world node input
      → AreLinked (comes_to world node input (node_at world node))
  comes_linked world node input each may = comes_of_each (IsLinked config) world node input (node_at world node) refl each
      (λ it there. (let lets = node_lets node it input (each node it there) may.from (may.sends it there) in
      record { is_of = kind_stays config node it (node_takes it input).state lets.kind (each node it there).is_of; owes = lets.has }))

  comes_on : (world : World) (node : List ℕ) (input : NodeInput) (found : Option NodeState) → node_at world node ≡ found → AreLinked world
      → MayCome world node input
      → AreOn pairs world.links → AreOn pairs (comes_to world node input found).links
  unfolding comes_to
  comes_on world node input None there each may on = on
  comes_on world node input (Some it) there each may on =
      carry_all_on pairs AnyClient (MayMark it) node (with_acted world node (node_takes it input)) (not_lost world.broken node (node_takes it input).outs)
      (let_left AnyClient (OverLink pairs node) (MayMark it) world.broken node (node_takes it input).outs
      (node_lets node it input (each node it there) may.from (may.sends it there)).outs) on

  -- ---- where a node may send

  some_backend : (world : World) (server : List ℕ) (found : Option BackNode) → home_at world server ≡ found → IsSome found → AreLinked world
      → HasNode config.nodes backend_kind server
  some_backend world server None at some each = absurd (let no : false ≡ true = some in cc)
  some_backend world server (Some home) at some each = (each server (state.Back home) (back_is (node_at world server) home at)).is_of.0

  is_backend : (world : World) (server : List ℕ) → IsSome (home_at world server) → AreLinked world → HasNode config.nodes backend_kind server
  is_backend world server some each = some_backend world server (home_at world server) refl some each

  may_ask : (world : World) (node : List ℕ) (front : Front) → AreLinked world → IsNodeOf config node (state.Front front)
      → NamesBackends (home_at world) front.replica.records → MayAsk (OverLink pairs node) (ways_of front)
  may_ask world node front each is known = record {
    master = λ bytes. subst (Joined pairs node) (sym is.1.0) (front_with_master config node are is.0);
    named = λ ask server at. front_with_backend config node server are is.0 (is_backend world server (known ask.name server at) each);
    made = λ ask creates. home_is_so (Joined pairs node) front.replica.records front.first ask.name
        (λ name server at. front_with_backend config node server are is.0 (is_backend world server (known name server at) each))
        (subst (Joined pairs node) (sym is.1.1) (front_with_backend config node (home_of config) are is.0 (the_first config are)));
  }

  -- where a message sends a command on
  abbrev MovesToBackends : World → NodeInput → Type 0
  MovesToBackends world (From name (Answer answer)) = (server : List ℕ) → answer.body ≡ Moved server → IsSome (home_at world server)
  MovesToBackends world input = ⊤

  moves_on : (world : World) (node : List ℕ) (front : Front) (input : NodeInput) → AreLinked world → HasNode config.nodes Frontend node
      → MovesToBackends world input → MovesOn (OverLink pairs node) input
  moves_on world node front (Opened conn) each has moves = tt
  moves_on world node front (Piece conn bytes) each has moves = tt
  moves_on world node front (Hung conn) each has moves = tt
  moves_on world node front (From name (Answer answer)) each has moves =
      λ server is ask. front_with_backend config node server are has (is_backend world server (moves server is) each)
  moves_on world node front (From name Up) each has moves = tt
  moves_on world node front (From name End) each has moves = tt
  moves_on world node front (From name (Line bytes)) each has moves = tt
  moves_on world node front (From name (Ask ask)) each has moves = tt

  may_send : (world : World) (node : List ℕ) (it : NodeState) (input : NodeInput) → node_at world node ≡ Some it → AreLinked world
      → ((front : Front) → front_at world node ≡ Some front → NamesBackends (home_at world) front.replica.records × MovesToBackends world input)
      → MaySend (OverLink pairs node) it input
  may_send world node (state.Front front) input there each asks =
      let is = (each node (state.Front front) there).is_of in
      let known = asks front (ap as_front there ∙ a_front front) in
      (may_ask world node front each is known.0, moves_on world node front input each is.0 known.1)
  may_send world node (state.Back home) input there each asks =
      let is = (each node (state.Back home) there).is_of in
      λ bytes. subst (Joined pairs node) (sym is.1) (backend_with_master config node are is.0)
  may_send world node (state.Master master) input there each asks = tt

  client_may : (world : World) (node : List ℕ) (input : NodeInput) → ComesFrom AnyClient (OverLink pairs node) input → MovesToBackends world input
      → AreLinked world → ((front : Front) → front_at world node ≡ Some front → NamesBackends (home_at world) front.replica.records) → MayCome world node input
  client_may world node input from moves each known = record {
    from = from;
    sends = λ it there. may_send world node it input there each (λ front at. (known front at, moves));
  }

  -- ---- an event

  abbrev HasBoth : World → Type 0
  HasBoth world = AreLinked world × AreOn pairs world.links × AreBrokenOn pairs world.broken

  comes_both : (world : World) (node : List ℕ) (input : NodeInput) → MayCome world node input → HasBoth world
      → HasBoth (comes_to world node input (node_at world node))
  comes_both world node input may both = (
    comes_linked world node input both.0 may,
    comes_on world node input (node_at world node) refl both.0 may both.1,
    subst (AreBrokenOn pairs) (sym (comes_broken world node input (node_at world node))) both.2,
  )

  opens_both : (world : World) (node : List ℕ) (conn : ℕ) (found : Option Client) → AskBackends world → HasBoth world → HasBoth (opens world node conn found)
  unfolding opens
  opens_both world node conn (Some client) asks both = both
  opens_both world node conn None asks both =
      comes_both (with_client world node conn) node (Opened conn)
      (client_may (with_client world node conn) node (Opened conn) tt tt both.0 (asks.known node)) both

  data_both : (world : World) (conn : ℕ) (bytes : List ℕ) (found : Option Client) → AskBackends world → HasBoth world
      → HasBoth (client_does world (Piece conn bytes) found)
  unfolding client_does
  data_both world conn bytes None asks both = both
  data_both world conn bytes (Some client) asks both =
      comes_both world client.at (Piece conn bytes) (client_may world client.at (Piece conn bytes) tt tt both.0 (asks.known client.at)) both

  hang_both : (world : World) (conn : ℕ) (found : Option Client) → AskBackends world → HasBoth world → HasBoth (client_does world (Hung conn) found)
  unfolding client_does
  hang_both world conn None asks both = both
  hang_both world conn (Some client) asks both =
      comes_both world client.at (Hung conn) (client_may world client.at (Hung conn) tt tt both.0 (asks.known client.at)) both

  taken_by : (links : Links LinkMsg) (from to a b : List ℕ) (same : Bool) → same_link a b from to ≡ same
      → (on_link links a b ≡ []) ⊎ Joined pairs a b → (on_link (without_first links from to) a b ≡ []) ⊎ Joined pairs a b
  taken_by links from to a b true h was = ⊎_elim
      (λ empty. inl (on_link-taken links from to a b ∙ ap (λ s. cond s (drop 1 (on_link links a b)) (on_link links a b)) h ∙ ap (λ q. drop 1 q) empty))
      (λ there. inr there)
      was
  taken_by links from to a b false h was = ⊎_elim
      (λ empty. inl (on_link-taken links from to a b ∙ ap (λ s. cond s (drop 1 (on_link links a b)) (on_link links a b)) h ∙ empty))
      (λ there. inr there)
      was

  -- a message that is on its way came from a linked node
  came_from : (links : Links LinkMsg) (from to : List ℕ) (message : LinkMsg) (rest : List LinkMsg) → on_link links from to ≡ message ∷ rest
      → (on_link links from to ≡ []) ⊎ Joined pairs from to → Joined pairs to from
  came_from links from to message rest first was =
      ⊎_elim (λ empty. absurd (let no : message ∷ rest ≡ [] = sym first ∙ empty in cc)) (λ there. (there.1, there.0)) was

  speaks : (node from : List ℕ) (message : LinkMsg) → Joined pairs node from → SpeaksFrom (OverLink pairs node) from message
  speaks node from (Line line) there = λ bytes. there
  speaks node from (Ask ask) there = λ answer. there
  speaks node from Up there = tt
  speaks node from End there = tt
  speaks node from (Answer answer) there = tt

  message_moves : (world : World) (from to : List ℕ) (front : Front) (message : LinkMsg) (rest : List LinkMsg) → on_link world.links from to ≡ message ∷ rest
      → AskBackends world → front_at world to ≡ Some front → MovesToBackends world (From from message)
  message_moves world from to front (Answer answer) rest first asks at = λ server is. asks.moved from to front answer rest server at first is
  message_moves world from to front Up rest first asks at = tt
  message_moves world from to front End rest first asks at = tt
  message_moves world from to front (Line bytes) rest first asks at = tt
  message_moves world from to front (Ask ask) rest first asks at = tt

  deliver_both : (world : World) (from to : List ℕ) (queue : List LinkMsg) → on_link world.links from to ≡ queue → AskBackends world → HasBoth world
      → HasBoth (deliver_first world from to queue)
  unfolding deliver_first
  deliver_both world from to [] first asks both = both
  deliver_both world from to (message ∷ rest) first asks both =
      let taken = taken_from_link world from to in
      comes_both taken to (From from message)
      (record {
        from = speaks to from message (came_from world.links from to message rest first (both.1 from to));
        sends = λ it there. may_send taken to it (From from message) there both.0
            (λ front at. (asks.known to front at, message_moves world from to front message rest first asks at));
      })
      (both.0, λ a b. taken_by world.links from to a b (same_link a b from to) refl (both.1 a b), both.2)

  -- a link breaks, or comes up

  parted_joined : (one other : List ℕ) (it another : NodeState) → one ≢ other → IsLinked config one it → IsLinked config other another
      → are_parted it another ≡ true → Joined pairs one other
  unfolding are_parted
  parted_joined one other (state.Front front) (state.Back home) ne is also may = front_with_backend config one other are is.is_of.0 also.is_of.0
  parted_joined one other (state.Back home) (state.Front front) ne is also may =
      let joined = front_with_backend config other one are also.is_of.0 is.is_of.0 in (joined.1, joined.0)
  parted_joined one other (state.Back home) (state.Back another) ne is also may = backends_joined config one other is.is_of.0 also.is_of.0 ne
  parted_joined one other (state.Front front) (state.Front another) ne is also may = cc
  parted_joined one other (state.Front front) (state.Master it) ne is also may = front_with_any config one other are is.is_of.0 also.is_of
  parted_joined one other (state.Master it) (state.Front front) ne is also may =
      let joined = front_with_any config other one are also.is_of.0 is.is_of in (joined.1, joined.0)
  parted_joined one other (state.Back home) (state.Master it) ne is also may = cc
  parted_joined one other (state.Master it) (state.Back home) ne is also may = cc
  parted_joined one other (state.Master it) (state.Master another) ne is also may = cc

  part_joined : (one other : List ℕ) (it another : Option NodeState) → one ≢ other → ((s : NodeState) → it ≡ Some s → IsLinked config one s)
      → ((s : NodeState) → another ≡ Some s → IsLinked config other s) → may_part it another ≡ true → Joined pairs one other
  unfolding may_part
  part_joined one other (Some it) (Some another) ne is also may = parted_joined one other it another ne (is it refl) (also another refl) may
  part_joined one other (Some it) None ne is also may = cc
  part_joined one other None another ne is also may = cc

  cut_joined : (world : World) (one other : List ℕ) → AreLinked world → may_cut world one other ≡ true → Joined pairs one other
  cut_joined world one other each may =
      part_joined one other (node_at world one) (node_at world other)
      (λ e. (let no : false ≡ true = sym (may_cut_apart world one other may) ∙ ap (λ n. is_eq (slice_cmp nat_cmp one n)) (sym e) ∙ names_apart.itself one in cc))
      (each one) (each other) (may_cut_parts world one other may)

  short_by : (links : Links LinkMsg) (one other from to : List ℕ) (k : ℕ) (same : Bool) → same_link from to one other ≡ same → Joined pairs one other
      → (on_link links from to ≡ []) ⊎ Joined pairs from to → (on_link (cut_short links one other k End) from to ≡ []) ⊎ Joined pairs from to
  short_by links one other from to k true h joined was =
      let is = same_names from to one other h in
      inr (subst (λ f. Joined pairs f to) (sym is.0) (subst (λ t. Joined pairs one t) (sym is.1) joined))
  short_by links one other from to k false h joined was = ⊎_elim
      (λ empty. inl (on_link-cut links one other from to k End
      ∙ ap (λ s. cond s (take k (on_link links from to) ++ End ∷ []) (on_link links from to)) h ∙ empty))
      (λ there. inr there)
      was

  short_on : (links : Links LinkMsg) (one other : List ℕ) (k : ℕ) → Joined pairs one other → AreOn pairs links
      → AreOn pairs (cut_short links one other k End)
  short_on links one other k joined on = λ from to. short_by links one other from to k (same_link from to one other) refl joined (on from to)

  breaks_by : (broken : Broken) (one other from to : List ℕ) (same : Bool) → same_link from to one other ≡ same → Joined pairs one other
      → (is_broken broken from to ≡ true → Joined pairs from to) → (same || is_broken broken from to) ≡ true → Joined pairs from to
  breaks_by broken one other from to true h joined was is =
      let names = same_names from to one other h in
      subst (λ f. Joined pairs f to) (sym names.0) (subst (λ t. Joined pairs one t) (sym names.1) joined)
  breaks_by broken one other from to false h joined was is = was is

  breaks_on : (broken : Broken) (one other : List ℕ) → Joined pairs one other → AreBrokenOn pairs broken → AreBrokenOn pairs (breaking broken one other)
  breaks_on broken one other joined on = λ from to is.
      breaks_by broken one other from to (same_link from to one other) refl joined (on from to) (sym (is_broken-breaking broken one other from to) ∙ is)

  mends_on : (broken : Broken) (one other : List ℕ) → AreBrokenOn pairs broken → AreBrokenOn pairs (mending broken one other)
  mends_on broken one other on = λ from to is.
      on from to (still (same_link from to one other) (is_broken broken from to) (sym (is_broken-mending broken one other from to) ∙ is))
    where
      still : (same was : Bool) → cond same false was ≡ true → was ≡ true
      still true was e = cc
      still false was e = e

  cut_both : (world : World) (one other : List ℕ) (k l : ℕ) (may : Bool) → may_cut world one other ≡ may → HasBoth world
      → HasBoth (cuts_if may world one other k l)
  unfolding cuts_if
  cut_both world one other k l true e both =
      let joined = cut_joined world one other both.0 e in
      let back : Joined pairs other one = (joined.1, joined.0) in (
        both.0,
        short_on (cut_short world.links one other k End) other one l back (short_on world.links one other k joined both.1),
        breaks_on (breaking world.broken one other) other one back (breaks_on world.broken one other joined both.2),
      )
  cut_both world one other k l false e both = both

  join_both : (world : World) (one other : List ℕ) (may : Bool) → may_join world one other ≡ may → HasBoth world → HasBoth (joins_if may world one other)
  unfolding joins_if
  join_both world one other true e both =
      let joined = both.2 one other (may_join_broken world one other e) in
      let back : Joined pairs other one = (joined.1, joined.0) in (
        both.0,
        (λ from to. sent_by pairs (sent world.links one other Up) other one Up from to (same_link from to other one) refl back
            (sent_by pairs world.links one other Up from to (same_link from to one other) refl joined (both.1 from to))),
        mends_on (mending world.broken one other) other one (mends_on world.broken one other both.2),
      )
  join_both world one other false e both = both

  takes_both : (world : World) (event : Event) → AskBackends world → HasBoth world → HasBoth (takes world event)
  unfolding takes
  takes_both world (Open node conn) asks both = opens_both world node conn (client_at world conn) asks both
  takes_both world (Data conn bytes) asks both = data_both world conn bytes (client_at world conn) asks both
  takes_both world (Hang conn) asks both = hang_both world conn (client_at world conn) asks both
  takes_both world (Deliver from to) asks both = deliver_both world from to (on_link world.links from to) refl asks both
  takes_both world (Cut one other k l) asks both = cut_both world one other k l (may_cut world one other) refl both
  takes_both world (Join one other) asks both = join_both world one other (may_join world one other) refl both
  takes_both world event asks both = both

  asks_counted : (world : World) → AskBackends world → AskBackends (stepped world)
  asks_counted world asks = record { known = asks.known; moved = asks.moved }

  -- along a run from here
  run_both : (world : World) (steps : List Event)
      → ((before later : List Event) → steps ≡ before ++ later → AskBackends (run_steps world before)) → HasBoth world → HasBoth (run_steps world steps)
  unfolding run_steps
  run_both world [] asks both = both
  run_both world (event ∷ steps) asks both =
      run_both (steps_by world event) steps (λ before later parts. asks (event ∷ before) later (ap (λ l. event ∷ l) parts))
      (takes_both (stepped world) event (asks_counted world (asks [] (event ∷ steps) refl)) both)

  -- ---- the start

  -- no frontend has a record yet
  abbrev HasNoRecords : NodeState → Type 0
  HasNoRecords (state.Front front) = front.replica.records ≡ []
  HasNoRecords (state.Back home) = ⊤
  HasNoRecords (state.Master master) = ⊤

  abbrev HaveNoRecords : World → Type 0
  HaveNoRecords world = OfEachNode (λ node it. HasNoRecords it) world

  up_records : (front : Front) (is_master : Bool) → front.replica.records ≡ [] → (up_from is_master front).front.replica.records ≡ []
  unfolding up_from
  up_records front true none = refl
  up_records front false none = none

  ups_records : (it : NodeState) (from : List ℕ) → HasNoRecords it → HasNoRecords (node_takes it (From from Up)).state
  unfolding node_takes front_takes back_takes master_takes deliver
  ups_records (state.Front front) from none = up_records (with_up front from) _ none
  ups_records (state.Back home) from none = tt
  ups_records (state.Master master) from none = tt

  names_none : (world : World) (recs : Recs) → recs ≡ [] → NamesBackends (home_at world) recs
  names_none world recs none name server at = (let no : None ≡ Some server = sym (ap (λ r. server_at r name) none) ∙ at in cc)

  front_is_there : (found : Option NodeState) (front : Front) → as_front found ≡ Some front → found ≡ Some (state.Front front)
  unfolding as_front
  front_is_there (Some (state.Front it)) front e = cc
  front_is_there (Some (state.Back home)) front e = cc
  front_is_there (Some (state.Master master)) front e = cc
  front_is_there None front e = cc

  ups_both : (world : World) (links : List Link) → HaveNoRecords world → HasBoth world → HasBoth (with_ups world links)
  unfolding with_ups
  ups_both world [] none both = both
  ups_both world (link ∷ links) none both =
      ups_both (told_up world link) links
      (comes_of_each (λ node it. HasNoRecords it) world link.to (From link.from Up) (node_at world link.to) refl none
      (λ it there. ups_records it link.from (none link.to it there)))
      (comes_both world link.to (From link.from Up)
      (client_may world link.to (From link.from Up) tt tt both.0
      (λ front at. names_none world front.replica.records
      (none link.to (state.Front front) (front_is_there (node_at world link.to) front at)))) both)

  first_linked : (node : Node) (kind : Kind) → node.kind ≡ kind → Contains config.nodes node → IsLinked config node.name (first_state config node kind)
  unfolding first_state booted new_front
  first_linked node master_kind k among =
      record { is_of = record { node = node; among = among; kind_is = k; named = refl }; owes = record { watchers = tt; streams = tt } }
  first_linked node Frontend k among =
      record { is_of = (record { node = node; among = among; kind_is = k; named = refl }, (refl, refl)); owes = λ conn connection at. tt }
  first_linked node backend_kind k among = record {
    is_of = (record { node = node; among = among; kind_is = k; named = refl }, refl);
    owes = none_owed_at_start (MayBeAnswered (OverLink pairs node.name)) (place_of node) (master_of config);
  }

  first_records : (node : Node) (kind : Kind) → HasNoRecords (first_state config node kind)
  unfolding first_state new_front
  first_records node master_kind = tt
  first_records node Frontend = refl
  first_records node backend_kind = tt

  node_of_each : (P : List ℕ → NodeState → Type 0) (world : World) (node : Node) → P node.name (first_state config node node.kind) → OfEachNode P world
      → OfEachNode P (with_node config world node)
  node_of_each P world node is each other it there = ⊎_elim
      (λ (e : other ≡ node.name).
      (let same : first_state config node node.kind ≡ it = same_Some (first_state config node node.kind) it
      (sym (value_at-with_entry (slice_cmp nat_cmp) names_apart world.nodes node.name (first_state config node node.kind))
      ∙ subst (λ n. node_at (with_node config world node) n ≡ Some it) e there) in
      subst (λ n. P n it) (sym e) (subst (P node.name) same is)))
      (λ (ne : other ≢ node.name).
      each other it (sym (value_at-with_entry-other (slice_cmp nat_cmp) names_apart world.nodes node.name other
      (first_state config node node.kind) ne) ∙ there))
      (same_or_other (slice_cmp nat_cmp) names_apart other node.name)

  nodes_of_each : (P : List ℕ → NodeState → Type 0) (world : World) (nodes : List Node)
      → All (λ (node : Node). P node.name (first_state config node node.kind)) nodes
      → OfEachNode P world → OfEachNode P (with_nodes config world nodes)
  unfolding with_nodes
  nodes_of_each P world [] all each = each
  nodes_of_each P world (node ∷ nodes) all each =
      nodes_of_each P (with_node config world node) nodes (All-tail (λ (n : Node). P n.name (first_state config n n.kind)) node nodes all)
      (node_of_each P world node (All-head (λ (n : Node). P n.name (first_state config n n.kind)) node nodes all) each)

  nodes_links : (world : World) (nodes : List Node) → (with_nodes config world nodes).links ≡ world.links
  unfolding with_nodes
  nodes_links world [] = refl
  nodes_links world (node ∷ nodes) = nodes_links (with_node config world node) nodes

  nodes_broken : (world : World) (nodes : List Node) → (with_nodes config world nodes).broken ≡ world.broken
  unfolding with_nodes
  nodes_broken world [] = refl
  nodes_broken world (node ∷ nodes) = nodes_broken (with_node config world node) nodes

  none_sent : AreOn pairs no_world.links
  unfolding on_link
  none_sent from to = inl refl

  no_node : (P : List ℕ → NodeState → Type 0) → OfEachNode P no_world
  no_node P node it there = cc

  start_both : HasBoth (start config)
  unfolding start
  start_both =
      ups_both (with_nodes config no_world config.nodes) (links_of config.nodes)
      (nodes_of_each (λ node it. HasNoRecords it) no_world config.nodes (λ k d h. first_records _ _) (no_node (λ node it. HasNoRecords it))) (
        nodes_of_each (IsLinked config) no_world config.nodes
            (All-weaker (Contains config.nodes) (λ (node : Node). IsLinked config node.name (first_state config node node.kind))
            (λ node among. first_linked node node.kind refl among) config.nodes (All-contains_itself config.nodes)) (no_node (IsLinked config)),
        subst (AreOn pairs) (sym (nodes_links no_world config.nodes)) none_sent,
        subst (AreBrokenOn pairs) (sym (nodes_broken no_world config.nodes))
            (λ from to is. absurd (let no : false ≡ true = sym (none_broken from to) ∙ is in cc)),
      )

  -- ---- a run

  pub on_pairs : (steps : List Event) → KnowBackendsSoFar config steps → AreOn pairs (run_steps (start config) steps).links
  on_pairs steps known =
      (run_both (start config) steps (λ before later parts. asks_too config before are (known before later parts)) start_both).1

-- after each single step of a run a message is on its way only between linked nodes
pub goes_over_links : (config : Config) (events : List Event) → AreNodes config.nodes → KnowBackendsSoFar config (steps_of_run config events)
    → GoesOverLinks config events
goes_over_links config events are asks before later parts from to some =
    ⊎_elim (λ empty. absurd (some empty)) (λ joined. joined.0)
    (on_pairs config are before (λ front back is. asks front (back ++ later) (parts ∙ ap (λ l. l ++ later) is ∙ append_assoc front back later)) from to)

-- nothing is on its way on this link
abbrev pub IsIdle : World → Link → Type 0
IsIdle world link = on_link world.links link.from link.to ≡ []

-- if nothing is on its way between linked nodes, nothing is on its way
pub all_empty : (config : Config) (steps : List Event) → AreNodes config.nodes → KnowBackendsSoFar config steps
    → All (IsIdle (run_steps (start config) steps)) (links_of config.nodes) → AreEmpty (run_steps (start config) steps)
all_empty config steps are asks idle = λ from to. ⊎_elim
    (λ empty. empty)
    (λ joined. All-contains (IsIdle (run_steps (start config) steps)) (links_of config.nodes) (record { from = from; to = to }) idle joined.0)
    (on_pairs config are steps asks from to)
