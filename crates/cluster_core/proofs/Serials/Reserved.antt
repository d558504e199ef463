-- A CREATE whose RESERVE the master answered OK, up to the answer to its ACTIVATE (RFC 3656, 4.1 and 4.9): the OK is on its way to the CREATE's backend, or the
-- backend has made the mailbox. A step of any other node, or of a client, leaves it there.
use Rattle.std.proofs.Common.{◌≡◌, ◌≢◌, ◌⊎◌, inl, inr, ℕ, Bool, true, false, cond, List, [], ◌∷◌, ◌++◌, drop, Option, None, Some, refl, sym, ◌∙◌, ap, subst}
use Rattle.std.proofs.Common.{append-nil}
use Rattle.std.specs.Ordering.{nat_cmp}
use Rattle.std.specs.Cmp.Lexicographic.{slice_cmp}
use Rattle.std.specs.List.{filter}
use Rattle.back_node.specs.Acted.{BackActed}
use Rattle.back_node.specs.declared.node.BackNode.{BackNode}
use Rattle.link_msg.specs.declared.message.LinkMsg.{LinkMsg}
use Rattle.link_queue.specs.Links.{on_link, same_link}
use Rattle.link_queue.proofs.Wires.{same_names}
use Rattle.many_links.specs.Murder.{put_all}
use Rattle.mupdate_codec.specs.declared.command.MResponse.{MResponse}
use Rattle.mur_base.proofs.MapLaws.{names_apart, same_or_other}
use Rattle.name_commands.specs.Moves.{heard_move, is_sent}
use Rattle.name_commands.specs.Places.{IsResponse, answer_message}
use Rattle.name_flows.specs.declared.flow.Flow.{Flow}
use Rattle.name_flows.specs.declared.flow.Stage.TheVariants.{Making}
use Rattle.name_flows.specs.Running.{flow_at}
use Rattle.node_step.specs.declared.input.NodeInput.{NodeInput}
use Rattle.node_step.specs.declared.input.NodeInput.TheVariants.{Opened, Piece, Hung, From}
use Rattle.node_step.specs.declared.node.NodeState.TheVariants as state
use Rattle.node_step.specs.NodeStep.{as_back, back_takes, takes}
use Rattle.node_step.proofs.NodeKinds.{back_is}
use Rattle.node_step.specs.declared.node.NodeState.{NodeState}
use Rattle.schedule_text.specs.declared.event.Event.{Event}
use Rattle.schedule_text.specs.declared.event.Event.TheVariants.{Deliver}
use Rattle.cluster_core.specs.declared.world.World.{World}
use Rattle.cluster_core.specs.Headline.OneNode.{ChangesLinks, OnlyWorks, WasSent, WorksBy, leaves_on, relinked, relinks, worker}
use Rattle.cluster_core.specs.World.{acts, comes, comes_to, home_at, node_at, not_lost, written, Disks}
use Rattle.cluster_core.proofs.Nodes.Carried.{is_made, made}
use Rattle.cluster_core.proofs.Nodes.Comes.{IsOfClient, home_moved, with_home}

comes_at : (world : World) (node : List ℕ) (input : NodeInput) (it : NodeState) → node_at world node ≡ Some it
    → comes world node input ≡ acts world node (takes it input)
unfolding comes_to
comes_at world node input it there = ap (comes_to world node input) there

-- ---- messages on their way

abbrev pub IsAmong : LinkMsg → List LinkMsg → Type 0
IsAmong message [] = ⊥
IsAmong message (first ∷ rest) = (first ≡ message) ⊎ IsAmong message rest

among_more : (message : LinkMsg) (queue more : List LinkMsg) → IsAmong message queue → IsAmong message (queue ++ more)
among_more message [] more among = absurd among
among_more message (first ∷ rest) more (inl same) = inl same
among_more message (first ∷ rest) more (inr later) = inr (among_more message rest more later)

module _ (is : LinkMsg → Bool) (message : LinkMsg) where
  kept_by : (first : LinkMsg) (rest : List LinkMsg) (b : Bool) → is first ≡ b → (IsAmong message rest → IsAmong message (filter is rest))
      → is message ≡ true → (first ≡ message) ⊎ IsAmong message rest → IsAmong message (cond b (first ∷ filter is rest) (filter is rest))
  kept_by first rest true e later own (inl same) = inl same
  kept_by first rest true e later own (inr among) = inr (later among)
  kept_by first rest false e later own (inl same) = absurd (let no : true ≡ false = sym own ∙ sym (ap is same) ∙ e in cc)
  kept_by first rest false e later own (inr among) = later among

  -- one of a kind is among those of the kind
  pub among_kept : (queue : List LinkMsg) → is message ≡ true → IsAmong message queue → IsAmong message (filter is queue)
  among_kept [] own among = among
  among_kept (first ∷ rest) own among = kept_by first rest (is first) refl (among_kept rest own) own among

  left_by : (first : LinkMsg) (rest : List LinkMsg) (b : Bool) → (IsAmong message (filter is rest) → IsAmong message rest)
      → IsAmong message (cond b (first ∷ filter is rest) (filter is rest)) → (first ≡ message) ⊎ IsAmong message rest
  left_by first rest true later (inl same) = inl same
  left_by first rest true later (inr among) = inr (later among)
  left_by first rest false later among = inr (later among)

  pub kept_among : (queue : List LinkMsg) → IsAmong message (filter is queue) → IsAmong message queue
  kept_among [] among = among
  kept_among (first ∷ rest) among = left_by first rest (is first) (kept_among rest) among

-- ---- the CREATE

abbrev pub making : Flow → Flow
making flow = record flow { stage = Making }

-- its flow on this name, by what is on the way from the master
pub data HasReserved (name : List ℕ) (flow : Flow) (down : List LinkMsg) : Type 0 where
  hears_ok : (it : MResponse) → IsAmong (answer_message flow it) down → IsResponse flow it → heard_move name flow it ≡ Some (is_sent name (making flow))
      → HasReserved name flow down
  makes : flow.stage ≡ Making → HasReserved name flow down

-- one of this connection's is so far
pub record IsReserved (master : List ℕ) (world : World) (conn : ℕ) : Type 0 where
  pub server : List ℕ
  pub node : BackNode
  pub there : home_at world server ≡ Some node
  pub name : List ℕ
  pub flow : Flow
  pub runs : flow_at node.flows name ≡ Some flow
  pub own : (flow.ask).conn ≡ conn
  pub reserved : HasReserved name flow (on_link world.links master server)

reserved_more : (name : List ℕ) (flow : Flow) (down more : List LinkMsg) → HasReserved name flow down → HasReserved name flow (down ++ more)
reserved_more name flow down more (hears_ok it among known heard) = hears_ok it (among_more (answer_message flow it) down more among) known heard
reserved_more name flow down more (makes stage) = makes stage

-- so it is whatever stands on the disks
pub reserved_so : (master : List ℕ) (world : World) (disks : Disks) (conn : ℕ) → IsReserved master world conn → IsReserved master (record world { disks = disks }) conn
reserved_so master world disks conn is = record {
  server = is.server;
  node = is.node;
  there = is.there;
  name = is.name;
  flow = is.flow;
  runs = is.runs;
  own = is.own;
  reserved = is.reserved;
}

-- ---- steps that leave it

-- what is not taken off a link
leaves_all : (event : Event) (world : World) (one other : List ℕ) (queue : List LinkMsg) → (worker world event ≡ Some other → ⊥)
    → leaves_on event one other queue ≡ queue
leaves_all (Deliver from to) world one other queue apart = by (same_link one other from to) refl
  where
    by : (same : Bool) → same_link one other from to ≡ same → cond same (drop 1 queue) queue ≡ queue
    by true e = absurd (apart (ap (λ (n : List ℕ). Some n) (sym (same_names one other from to e).1)))
    by false e = refl
leaves_all event world one other queue apart = refl

-- what is on the way stays, and more may come behind it
abbrev ComesBehind : List LinkMsg → List LinkMsg → Type 0
ComesBehind queue next = (more : List LinkMsg) × (next ≡ queue ++ more)

behind_all : (queue next : List LinkMsg) → next ≡ queue → ComesBehind queue next
behind_all queue next same = ([], same ∙ sym (append-nil queue))

module _ (master : List ℕ) (world : World) (conn : ℕ) (is : IsReserved master world conn) where
  abbrev down : World → List LinkMsg
  down any = on_link any.links master is.server

  stays : (next : World) → home_at next is.server ≡ home_at world is.server → ComesBehind (down world) (down next) → IsReserved master next conn
  stays next same behind = record {
    server = is.server;
    node = is.node;
    there = same ∙ is.there;
    name = is.name;
    flow = is.flow;
    runs = is.runs;
    own = is.own;
    reserved = subst (HasReserved is.name is.flow) (sym behind.1) (reserved_more is.name is.flow (down world) behind.0 is.reserved);
  }

  module _ (event : Event) (next : World) (apart : worker world event ≡ Some is.server → ⊥) where
    sent_behind : (node : List ℕ) → OnlyWorks event node world next → (node ≡ master) ⊎ (node ≢ master) → ComesBehind (down world) (down next)
    sent_behind node works (inl same) =
        let sent = subst (λ n. WasSent (leaves_on event n is.server (on_link world.links n is.server)) (on_link next.links n is.server)) same
        (works.sends is.server) in
        (sent.more, sent.behind ∙ ap (λ (q : List LinkMsg). q ++ sent.more) (leaves_all event world master is.server (down world) apart))
    sent_behind node works (inr ne) =
        behind_all (down world) (down next)
        (works.stays master is.server (λ e. ne (sym e)) ∙ leaves_all event world master is.server (down world) apart)

    -- the link from the master is left, whichever links break or come up
    abbrev KeepsDown : Type 0
    KeepsDown = (relinks world event ≡ true → relinked event master is.server (down world) ≡ down world)

    relinks_beside : (changes : Bool) → relinks world event ≡ changes → KeepsDown → ChangesLinks changes event world next → IsReserved master next conn
    relinks_beside true e keeps only =
        stays next (ap (λ (w : World). home_at w is.server) only.rest)
        (behind_all (down world) (down next) (only.queues master is.server ∙ keeps e))
    relinks_beside false e keeps same =
        stays next (ap (λ (w : World). home_at w is.server) same)
        (behind_all (down world) (down next) (ap (λ (w : World). on_link w.links master is.server) same))

    works_beside : (at : Option (List ℕ)) → (at ≡ Some is.server → ⊥) → KeepsDown → WorksBy event at world next → IsReserved master next conn
    works_beside None other keeps works = relinks_beside (relinks world event) refl keeps works
    works_beside (Some node) other keeps works =
        stays next (ap as_back (works.nodes is.server (λ e. other (ap (λ (n : List ℕ). Some n) (sym e)))))
        (sent_behind node works (same_or_other (slice_cmp nat_cmp) names_apart node master))

    -- another node works, or none
    pub beside : KeepsDown → WorksBy event (worker world event) world next → IsReserved master next conn
    beside keeps works = works_beside (worker world event) apart keeps works

  -- what a client does at its backend
  idle_comes : (input : NodeInput) → IsOfClient input → comes world is.server input ≡ made world is.server (state.Back is.node) []
  unfolding takes back_takes not_lost written
  idle_comes (Opened c) of = comes_at world is.server (Opened c) (state.Back is.node) (back_is (node_at world is.server) is.node is.there)
  idle_comes (Piece c bytes) of = comes_at world is.server (Piece c bytes) (state.Back is.node) (back_is (node_at world is.server) is.node is.there)
  idle_comes (Hung c) of = comes_at world is.server (Hung c) (state.Back is.node) (back_is (node_at world is.server) is.node is.there)
  idle_comes (From name message) of = absurd of

  pub client_leaves : (input : NodeInput) → IsOfClient input → IsReserved master (comes world is.server input) conn
  unfolding put_all
  client_leaves input of =
      let idle : BackActed = record { state = is.node; entry = None; outs = [] } in
      let next : World = with_home world is.server idle in
      subst (λ (w : World). IsReserved master w conn) (sym (idle_comes input of))
      (stays next ((home_moved world is.server is.node idle is.there).own ∙ sym is.there)
      (behind_all (down world) (down next) (ap (λ l. on_link l master is.server) (is_made world is.server (state.Back is.node) []).links)))
