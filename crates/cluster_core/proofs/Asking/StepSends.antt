-- What a step sends on each link: what the node that works in it lets out there, for what comes to it; on a broken link nothing.
use Rattle.std.proofs.Common.{◌≡◌, ℕ, true, false, cond, List, [], ◌∷◌, ◌++◌, Option, None, Some, refl, sym, ◌∙◌, ap, subst, append-nil, append_assoc}
use Rattle.std.specs.Prelude.{⊤, slice_get}
use Rattle.std.specs.Ordering.{nat_cmp}
use Rattle.std.specs.List.{flat_map}
use Rattle.std.specs.Cmp.Lexicographic.{slice_cmp}
use Rattle.link_msg.specs.declared.message.LinkMsg.{LinkMsg}
use Rattle.link_msg.specs.declared.out.Out.{Out}
use Rattle.link_msg.specs.declared.out.Out.TheVariants.{Client as to_client, Close, Link as to_node, Mark as mark_out, Told as tell}
use Rattle.link_queue.specs.Broken.{Broken, is_broken}
use Rattle.link_queue.specs.Links.{Links, on_link, same_link}
use Rattle.link_queue.proofs.Wires.{on_link-sent, on_link-taken}
use Rattle.many_links.specs.Murder.{put_all, put_out}
use Rattle.mur_base.specs.Map.{value_at}
use Rattle.mur_base.proofs.MapLaws.{names_apart, value_at-with_value}
use Rattle.node_step.specs.declared.input.NodeInput.{NodeInput}
use Rattle.node_step.specs.declared.input.NodeInput.TheVariants.{Opened, Piece, Hung, From}
use Rattle.node_step.specs.declared.node.NodeState.{NodeState}
use Rattle.node_step.specs.NodeStep.{takes as node_takes}
use Rattle.schedule_text.specs.declared.event.Event.{Event}
use Rattle.schedule_text.specs.declared.event.Event.TheVariants.{Open, Data, Hang, Deliver}
use Rattle.cluster_core.specs.declared.world.Client.{Client}
use Rattle.cluster_core.specs.declared.world.World.{World}
use Rattle.cluster_core.specs.Headline.Asks.{taken_by}
use Rattle.cluster_core.specs.Headline.OneNode.{leaves_on, node_of, worker}
use Rattle.cluster_core.specs.World.{client_at, client_does, comes_to, deliver_first, node_at, opens, stepped, steps_by, taken_from_link, takes, with_client, with_written}
use Rattle.cluster_core.proofs.Asking.NodeAsks.{taken_in}
use Rattle.cluster_core.proofs.Nodes.Carried.{is_made}
use Rattle.cluster_core.proofs.Nodes.Thins.{acts_cut, acts_thinned}
use Rattle.cluster_core.proofs.Runs.OneNodeLaw.{nothing_first}

-- ---- on a link

-- what outputs of a node send to a server
abbrev pub sent_to : List ℕ → List ℕ → Out → List LinkMsg
sent_to node server (to_node other message) = cond (same_link node server node other) (message ∷ []) []
sent_to node server out = []

abbrev pub all_sent : List ℕ → List ℕ → List Out → List LinkMsg
all_sent node server outs = flat_map (sent_to node server) outs

put_sends : (node server : List ℕ) (links : Links LinkMsg) (out : Out)
    → on_link (put_out node links out) node server ≡ on_link links node server ++ sent_to node server out
unfolding put_out
put_sends node server links (to_node other message) = on_link-sent links node other node server message
put_sends node server links (to_client conn bytes) = sym (append-nil (on_link links node server))
put_sends node server links (Close conn) = sym (append-nil (on_link links node server))
put_sends node server links (mark_out ask counts) = sym (append-nil (on_link links node server))
put_sends node server links (tell ask how) = sym (append-nil (on_link links node server))

pub all_put : (node server : List ℕ) (links : Links LinkMsg) (outs : List Out)
    → on_link (put_all node links outs) node server ≡ on_link links node server ++ all_sent node server outs
unfolding put_all
all_put node server links [] = sym (append-nil (on_link links node server))
all_put node server links (out ∷ outs) =
    all_put node server (put_out node links out) outs
    ∙ ap (λ q. q ++ all_sent node server outs) (put_sends node server links out)
    ∙ append_assoc (on_link links node server) (sent_to node server out) (all_sent node server outs)

-- ---- a step

-- an input is what this event brings
abbrev pub IsBrought : Event → List ℕ → NodeInput → Type 0
IsBrought event node (From name message) = event ≡ Deliver name node
IsBrought event node (Hung conn) = event ≡ Hang conn
IsBrought event node input = ⊤

-- the node worked in the step and sent so, or nothing came to it
pub data StepSends (world : World) (event : Event) (node : List ℕ) (next : World) : Type 0 where
  rests : taken_by event world ≡ None → node_at next node ≡ node_at world node
      → ((server : List ℕ) → on_link next.links node server ≡ leaves_on event node server (on_link world.links node server)) → StepSends world event node next
  is_away : node_at world node ≡ None → node_at next node ≡ None
      → ((server : List ℕ) → on_link next.links node server ≡ leaves_on event node server (on_link world.links node server)) → StepSends world event node next
  sends : (it : NodeState) (input : NodeInput) → node_at world node ≡ Some it → IsBrought event node input → taken_by event world ≡ taken_in input
      → node_at next node ≡ Some (node_takes it input).state
      → ((server : List ℕ) → is_broken world.broken node server ≡ false → on_link next.links node server
      ≡ leaves_on event node server (on_link world.links node server) ++ all_sent node server (node_takes it input).outs)
      → ((server : List ℕ) → is_broken world.broken node server ≡ true
      → on_link next.links node server ≡ leaves_on event node server (on_link world.links node server))
      → StepSends world event node next

-- what comes to a node, in a world that has the nodes and what the event left on the links
comes_sends : (world begun : World) (event : Event) (node : List ℕ) (input : NodeInput) (found : Option NodeState) → node_at begun node ≡ found
    → begun.nodes ≡ world.nodes → begun.broken ≡ world.broken
    → ((server : List ℕ) → on_link begun.links node server ≡ leaves_on event node server (on_link world.links node server))
    → IsBrought event node input → taken_by event world ≡ taken_in input → StepSends world event node (comes_to begun node input found)
unfolding comes_to
comes_sends world begun event node input None there nodes broken left brought taken =
    is_away (ap (λ n. value_at (slice_cmp nat_cmp) n node) (sym nodes) ∙ there) there left
comes_sends world begun event node input (Some it) there nodes broken left brought taken =
    let acted = node_takes it input in
    let made = is_made (with_written begun node acted.entry) node acted.state acted.outs in
    let is = acts_thinned begun node acted in
    sends it input (ap (λ n. value_at (slice_cmp nat_cmp) n node) (sym nodes) ∙ there) brought taken
    (ap (λ n. value_at (slice_cmp nat_cmp) n node) (is.nodes ∙ made.nodes)
    ∙ value_at-with_value (slice_cmp nat_cmp) names_apart begun.nodes node acted.state it there)
    (λ server whole.
    is.whole node server (ap (λ (b : Broken). is_broken b node server) (made.broken ∙ broken) ∙ whole)
    ∙ ap (λ (l : Links LinkMsg). on_link l node server) made.links
    ∙ all_put node server begun.links acted.outs ∙ ap (λ q. q ++ all_sent node server acted.outs) (left server))
    (λ server cut. acts_cut begun node acted server (ap (λ (b : Broken). is_broken b node server) broken ∙ cut) ∙ left server)

module _ (world : World) where
  abbrev begun : World
  begun = stepped world

  opens_sends : (node : List ℕ) (conn : ℕ) (found : Option Client) → StepSends world (Open node conn) node (opens begun node conn found)
  unfolding opens
  opens_sends node conn (Some there) = rests refl refl (λ server. refl)
  opens_sends node conn None =
      comes_sends world (with_client begun node conn) (Open node conn) node (Opened conn) (node_at begun node) refl refl refl (λ server. refl) tt refl

  client_sends : (event : Event) (node : List ℕ) (input : NodeInput) (found : Option Client) → node_of found ≡ Some node
      → ((server : List ℕ) → leaves_on event node server (on_link world.links node server) ≡ on_link world.links node server)
      → IsBrought event node input → taken_by event world ≡ taken_in input → StepSends world event node (client_does begun input found)
  unfolding client_does
  client_sends event node input None is left brought taken = cc
  client_sends event node input (Some client) is left brought taken =
      let same : client.at ≡ node = cc in
      subst (λ n. StepSends world event node (comes_to begun n input (node_at begun n))) (sym same)
      (comes_sends world begun event node input (node_at begun node) refl refl refl (λ server. sym (left server)) brought taken)

  deliver_sends : (from to : List ℕ) (queue : List LinkMsg) → on_link world.links from to ≡ queue
      → StepSends world (Deliver from to) to (deliver_first begun from to queue)
  unfolding deliver_first
  deliver_sends from to [] first =
      rests (ap (λ q. slice_get q 0) first) refl (λ server. nothing_first world.links from to to server (same_link to server from to) refl first)
  deliver_sends from to (message ∷ rest) first =
      comes_sends world (taken_from_link begun from to) (Deliver from to) to (From from message) (node_at begun to) refl refl refl
      (λ server. on_link-taken world.links from to to server) refl (ap (λ q. slice_get q 0) first)

  takes_sends : (event : Event) (node : List ℕ) → worker world event ≡ Some node → StepSends world event node (takes begun event)
  unfolding takes
  takes_sends (Open at conn) node is =
      let same : at ≡ node = cc in
      subst (λ n. StepSends world (Open at conn) n (opens begun at conn (client_at begun conn))) same (opens_sends at conn (client_at begun conn))
  takes_sends (Data conn bytes) node is = client_sends (Data conn bytes) node (Piece conn bytes) (client_at begun conn) is (λ server. refl) tt refl
  takes_sends (Hang conn) node is = client_sends (Hang conn) node (Hung conn) (client_at begun conn) is (λ server. refl) refl refl
  takes_sends (Deliver from to) node is =
      let same : to ≡ node = cc in
      subst (λ n. StepSends world (Deliver from to) n (takes begun (Deliver from to))) same (deliver_sends from to (on_link world.links from to) refl)
  takes_sends event node is = cc

pub step_sends : (world : World) (event : Event) (node : List ℕ) → worker world event ≡ Some node → StepSends world event node (steps_by world event)
step_sends world event node is = takes_sends world event node is
