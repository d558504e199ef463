-- A command that has begun at its frontend stays begun, and its client stays there: so once a node takes a message of a command, its frontend doesn't answer
-- it alone any more.
use Rattle.std.proofs.Common.{◌≡◌, ℕ, Bool, true, false, List, [], ◌∷◌, Option, None, Some, refl, sym, ◌∙◌, ap, subst, arith}
use Rattle.std.specs.Ordering.{nat_cmp}
use Rattle.std.specs.Cmp.Lexicographic.{slice_cmp}
use Rattle.link_msg.specs.declared.message.LinkMsg.{LinkMsg}
use Rattle.link_queue.specs.Links.{on_link}
use Rattle.mur_base.specs.Map.{value_at}
use Rattle.mur_base.specs.declared.point.AskId.{AskId}
use Rattle.node_step.specs.declared.input.NodeInput.{NodeInput}
use Rattle.node_step.specs.declared.input.NodeInput.TheVariants.{Opened, Piece, Hung, From}
use Rattle.node_step.specs.declared.node.NodeState.{NodeState}
use Rattle.node_step.specs.declared.node.NodeState.TheVariants as state
use Rattle.schedule_text.specs.declared.event.Event.{Event}
use Rattle.schedule_text.specs.declared.event.Event.TheVariants.{Open, Data, Hang, Deliver, Cut, Join}
use Rattle.cluster_core.specs.declared.world.Client.{Client}
use Rattle.front_core.specs.declared.connection.Connection.{Connection}
use Rattle.front_core.specs.declared.front.Front.{Front}
use Rattle.cluster_core.specs.declared.world.World.{World}
use Rattle.cluster_core.specs.Flow.{run_steps}
use Rattle.cluster_core.specs.Headline.OneNode.{ChangesLinks, OneNodeWorks, WorksBy, connected, node_of, relinks, worker}
use Rattle.cluster_core.specs.World.{client_at, client_does, comes_to, deliver_first, may_cut, may_join, node_at, opens, stepped, steps_by, taken_from_link, takes, with_client}
use Rattle.cluster_core.proofs.Nodes.Relinks.{cut_relinks, join_relinks}
use Rattle.cluster_core.proofs.Runs.OneNodeLaw.{one_node_each}
use Rattle.cluster_core.proofs.Runs.OwnNodes.{OfEachNode, comes_of_each}
use Rattle.cluster_core.proofs.Routing.FrontTells.{AnswersAlone, HasBegun, begun}
use Rattle.cluster_core.proofs.Routing.NodeMarks.{HasBegunAt, more_begin}

-- where no node works, each client is as it was
no_client_changes : (changes : Bool) (event : Event) (world next : World) → ChangesLinks changes event world next → (conn : ℕ)
    → client_at next conn ≡ client_at world conn
no_client_changes true event world next only conn = ap (λ (w : World). client_at w conn) only.rest
no_client_changes false event world next same conn = ap (λ (w : World). client_at w conn) same

module _ (node : List ℕ) (conn number : ℕ) where
  -- at this node so many commands of the connection have begun
  abbrev pub HaveBegun : World → Type 0
  HaveBegun world = OfEachNode (λ other it. other ≡ node → HasBegunAt it conn number) world

  come : (world : World) (other : List ℕ) (input : NodeInput) → HaveBegun world → HaveBegun (comes_to world other input (node_at world other))
  come world other input each =
      comes_of_each (λ any it. any ≡ node → HasBegunAt it conn number) world other input (node_at world other) refl each
      (λ it there same. more_begin it input conn number (each other it there same))

  opened : (world : World) (other : List ℕ) (opening : ℕ) (found : Option Client) → HaveBegun world → HaveBegun (opens world other opening found)
  unfolding opens
  opened world other opening (Some there) each = each
  opened world other opening None each = come (with_client world other opening) other (Opened opening) each

  client_did : (world : World) (input : NodeInput) (found : Option Client) → HaveBegun world → HaveBegun (client_does world input found)
  unfolding client_does
  client_did world input None each = each
  client_did world input (Some client) each = come world client.at input each

  delivered : (world : World) (from to : List ℕ) (queue : List LinkMsg) → HaveBegun world → HaveBegun (deliver_first world from to queue)
  unfolding deliver_first
  delivered world from to [] each = each
  delivered world from to (message ∷ rest) each = come (taken_from_link world from to) to (From from message) each

  took : (world : World) (event : Event) → HaveBegun world → HaveBegun (takes world event)
  unfolding takes
  took world (Open other opening) each = opened world other opening (client_at world opening) each
  took world (Data by bytes) each = client_did world (Piece by bytes) (client_at world by) each
  took world (Hang by) each = client_did world (Hung by) (client_at world by) each
  took world (Deliver from to) each = delivered world from to (on_link world.links from to) each
  took world (Cut one other kept kept_back) each = λ any it there.
      each any it (ap (λ n. value_at (slice_cmp nat_cmp) n any) (sym (cut_relinks (may_cut world one other) world one other kept kept_back).nodes) ∙ there)
  took world (Join one other) each = λ any it there.
      each any it (ap (λ n. value_at (slice_cmp nat_cmp) n any) (sym (join_relinks (may_join world one other) world one other).nodes) ∙ there)
  took world event each = each

  stay_begun : (world : World) (steps : List Event) → HaveBegun world → HaveBegun (run_steps world steps)
  unfolding run_steps
  stay_begun world [] each = each
  stay_begun world (event ∷ steps) each = stay_begun (steps_by world event) steps (took (stepped world) event each)

  -- ---- its client stays there

  abbrev IsThere : World → Type 0
  IsThere world = node_of (client_at world conn) ≡ Some node

  is_connected : (event : Event) → connected event conn (Some node) ≡ Some node
  is_connected (Open other opening) = refl
  is_connected event = refl

  stays_by : (event : Event) (works : Option (List ℕ)) (world next : World) → WorksBy event works world next → IsThere world → IsThere next
  stays_by event None world next changes there = ap node_of (no_client_changes (relinks world event) event world next changes conn) ∙ there
  stays_by event (Some worker) world next only there = only.clients conn ∙ ap (connected event conn) there ∙ is_connected event

  one_step : (world : World) (event : Event) → OneNodeWorks event world (steps_by world event)
  unfolding run_steps
  one_step world event = one_node_each world (event ∷ []) [] event [] refl

  stays_there : (world : World) (steps : List Event) → IsThere world → IsThere (run_steps world steps)
  unfolding run_steps
  stays_there world [] there = there
  stays_there world (event ∷ steps) there =
      stays_there (steps_by world event) steps (stays_by event (worker world event) world (steps_by world event) (one_step world event).works there)

-- ---- a command that has begun

-- it has begun at the node at which its client is connected
pub record IsBegun (world : World) (id : AskId) : Type 0 where
  pub node : List ℕ
  pub front : Front
  pub at : node_at world node ≡ Some (state.Front front)
  pub client : node_of (client_at world id.conn) ≡ Some node
  pub has : HasBegun front id.conn id.command

-- a frontend answers it alone there
pub record IsAlone (world : World) (id : AskId) : Type 0 where
  pub node : List ℕ
  pub front : Front
  pub at : node_at world node ≡ Some (state.Front front)
  pub client : node_of (client_at world id.conn) ≡ Some node
  pub alone : AnswersAlone front id

same_some : {one other : List ℕ} → Some one ≡ Some other → one ≡ other
same_some e = cc

same_node : {one other : NodeState} → Some one ≡ Some other → one ≡ other
same_node e = cc

same_connection : {one other : Connection} → Some one ≡ Some other → one ≡ other
same_connection e = cc

not_alone : (front : Front) (id : AskId) → HasBegun front id.conn id.command → AnswersAlone front id → ⊥
not_alone front id has alone =
    let same : has.connection ≡ alone.connection = same_connection (sym has.at ∙ alone.at) in
    absurd (omega (arith, has.most, alone.beyond, ap begun same))

pub never_alone : (world : World) (steps : List Event) (id : AskId) → IsBegun world id → IsAlone (run_steps world steps) id → ⊥
never_alone world steps id is alone =
    let there : node_of (client_at (run_steps world steps) id.conn) ≡ Some is.node = stays_there is.node id.conn id.command world steps is.client in
    let same : alone.node ≡ is.node = same_some (sym alone.client ∙ there) in
    not_alone alone.front id
    (stay_begun is.node id.conn id.command world steps
    (λ other it at own. subst (λ i. HasBegunAt i id.conn id.command) (same_node (sym is.at ∙ ap (node_at world) (sym own) ∙ at)) is.has)
    alone.node (state.Front alone.front) alone.at same)
    alone.alone
