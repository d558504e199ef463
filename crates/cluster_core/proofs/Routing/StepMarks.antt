-- Which marks a step makes: those of the node that works in it, for what comes to that node, and what that node is then.
use Rattle.std.proofs.Common.{◌≡◌, ℕ, ◌+◌, List, [], ◌∷◌, ◌++◌, Option, None, Some, refl, ◌∙◌, ap, subst}
use Rattle.std.specs.Ordering.{nat_cmp}
use Rattle.std.specs.Cmp.Lexicographic.{slice_cmp}
use Rattle.link_msg.specs.declared.message.LinkMsg.{LinkMsg}
use Rattle.link_queue.specs.Links.{on_link}
use Rattle.mur_base.specs.Map.{value_at}
use Rattle.mur_base.proofs.MapLaws.{names_apart, value_at-with_value}
use Rattle.node_step.specs.declared.input.NodeInput.{NodeInput}
use Rattle.node_step.specs.declared.input.NodeInput.TheVariants.{Opened, Piece, Hung, From}
use Rattle.node_step.specs.declared.node.NodeState.{NodeState}
use Rattle.node_step.specs.NodeStep.{takes as node_takes}
use Rattle.schedule_text.specs.declared.event.Event.{Event}
use Rattle.schedule_text.specs.declared.event.Event.TheVariants.{Open, Data, Hang, Deliver, Cut, Join}
use Rattle.cluster_core.specs.declared.world.Client.{Client}
use Rattle.cluster_core.specs.declared.world.World.{World}
use Rattle.cluster_core.specs.Headline.OneNode.{node_of, worker}
use Rattle.cluster_core.specs.World.{client_at, client_does, comes_to, deliver_first, may_cut, may_join, node_at, opens, stepped, steps_by, taken_from_link, takes, with_client}
use Rattle.cluster_core.proofs.Nodes.Carried.{is_made, marks_made}
use Rattle.cluster_core.proofs.Nodes.Comes.{IsOfClient, wrote}
use Rattle.cluster_core.proofs.Nodes.Relinks.{cut_relinks, join_relinks}
use Rattle.cluster_core.proofs.Nodes.Thins.{acts_thinned}

-- what comes to a node in a step: a message that was the first on its link, or what a client does
pub data ComesBy (world : World) (event : Event) (node : List ℕ) : NodeInput → Type 0 where
  a_message : (from : List ℕ) (message : LinkMsg) (rest : List LinkMsg) → event ≡ Deliver from node → on_link world.links from node ≡ message ∷ rest
      → ComesBy world event node (From from message)
  of_client : (input : NodeInput) → worker world event ≡ Some node → IsOfClient input → ComesBy world event node input

pub data StepMarks (world : World) (event : Event) (next : World) : Type 0 where
  no_marks : next.marks ≡ world.marks → StepMarks world event next
  works : (node : List ℕ) (it : NodeState) (input : NodeInput) → node_at world node ≡ Some it → ComesBy world event node input
      → node_at next node ≡ Some (node_takes it input).state
      → next.marks ≡ world.marks ++ marks_made (world.steps + 1) (node_takes it input).outs → StepMarks world event next

-- ---- what comes to a node

data NodeMarks (world : World) (node : List ℕ) (input : NodeInput) (next : World) : Type 0 where
  nobody_is_there : next.marks ≡ world.marks → NodeMarks world node input next
  it_acts : (it : NodeState) → node_at world node ≡ Some it → node_at next node ≡ Some (node_takes it input).state
      → next.marks ≡ world.marks ++ marks_made world.steps (node_takes it input).outs → NodeMarks world node input next

comes_marks : (world : World) (node : List ℕ) (input : NodeInput) (found : Option NodeState) → node_at world node ≡ found
    → NodeMarks world node input (comes_to world node input found)
unfolding comes_to
comes_marks world node input None there = nobody_is_there refl
comes_marks world node input (Some it) there =
    let acted = node_takes it input in
    let thin = acts_thinned world node acted in
    let made = is_made (wrote world node it input) node acted.state acted.outs in
    it_acts it there
    (ap (λ n. value_at (slice_cmp nat_cmp) n node) (thin.nodes ∙ made.nodes)
    ∙ value_at-with_value (slice_cmp nat_cmp) names_apart world.nodes node acted.state it there)
    (thin.marks ∙ made.marks)

-- in a world that has the nodes, the marks and the count of the step of this one
step_of : (world begun : World) (event : Event) (node : List ℕ) (input : NodeInput) (next : World) → begun.nodes ≡ world.nodes → begun.marks ≡ world.marks
    → begun.steps ≡ world.steps + 1 → ComesBy world event node input → NodeMarks begun node input next → StepMarks world event next
step_of world begun event node input next nodes marks steps comes (nobody_is_there none) = no_marks (none ∙ marks)
step_of world begun event node input next nodes marks steps comes (it_acts it there then its) =
    works node it input (subst (λ n. node_at (record world { nodes = n }) node ≡ Some it) nodes there) comes then
    (its ∙ ap (λ m. m ++ marks_made begun.steps (node_takes it input).outs) marks ∙ ap (λ s. world.marks ++ marks_made s (node_takes it input).outs) steps)

module _ (world : World) where
  abbrev begun : World
  begun = stepped world

  opens_marks : (node : List ℕ) (conn : ℕ) (found : Option Client) → StepMarks world (Open node conn) (opens begun node conn found)
  unfolding opens
  opens_marks node conn (Some there) = no_marks refl
  opens_marks node conn None =
      step_of world (with_client begun node conn) (Open node conn) node (Opened conn) _ refl refl refl (of_client (Opened conn) refl tt)
      (comes_marks (with_client begun node conn) node (Opened conn) (node_at begun node) refl)

  client_marks : (event : Event) (input : NodeInput) (found : Option Client) → worker world event ≡ node_of found → IsOfClient input
      → StepMarks world event (client_does begun input found)
  unfolding client_does
  client_marks event input None at of = no_marks refl
  client_marks event input (Some client) at of =
      step_of world begun event client.at input _ refl refl refl (of_client input at of)
      (comes_marks begun client.at input (node_at begun client.at) refl)

  deliver_marks : (from to : List ℕ) (queue : List LinkMsg) → on_link world.links from to ≡ queue
      → StepMarks world (Deliver from to) (deliver_first begun from to queue)
  unfolding deliver_first
  deliver_marks from to [] first = no_marks refl
  deliver_marks from to (message ∷ rest) first =
      step_of world (taken_from_link begun from to) (Deliver from to) to (From from message) _ refl refl refl (a_message from message rest refl first)
      (comes_marks (taken_from_link begun from to) to (From from message) (node_at begun to) refl)

  takes_marks : (event : Event) → StepMarks world event (takes begun event)
  unfolding takes
  takes_marks (Open node conn) = opens_marks node conn (client_at begun conn)
  takes_marks (Data conn bytes) = client_marks (Data conn bytes) (Piece conn bytes) (client_at begun conn) refl tt
  takes_marks (Hang conn) = client_marks (Hang conn) (Hung conn) (client_at begun conn) refl tt
  takes_marks (Deliver from to) = deliver_marks from to (on_link begun.links from to) refl
  takes_marks (Cut one other kept kept_back) = no_marks (cut_relinks (may_cut begun one other) begun one other kept kept_back).marks
  takes_marks (Join one other) = no_marks (join_relinks (may_join begun one other) begun one other).marks
  takes_marks event = no_marks refl

pub step_marks : (world : World) (event : Event) → StepMarks world event (steps_by world event)
step_marks world event = takes_marks world event
