-- What comes to a node keeps what every world of a run holds, and so does each event.
use Rattle.std.proofs.Common.{◌≡◌, ◌≢◌, ◌⊎◌, inl, inr, ℕ, Bool, true, false, List, [], Option, None, Some, refl, sym, ◌∙◌, ap, subst}
use Rattle.std.specs.Ordering.{nat_cmp}
use Rattle.std.specs.Cmp.Lexicographic.{slice_cmp}
use Rattle.feed_links.specs.Lines.{messages_to, stream_of}
use Rattle.feed_links.proofs.Begun.{others_leave}
use Rattle.feed_links.proofs.FeedLaw.{no_message, other_sender}
use Rattle.feed_links.proofs.Names.{value_at-without_key-other}
use Rattle.front_core.specs.declared.front.Front.{Front}
use Rattle.back_node.specs.declared.node.BackNode.{BackNode}
use Rattle.link_msg.specs.declared.message.LinkMsg.{LinkMsg}
use Rattle.link_msg.specs.declared.message.LinkMsg.TheVariants.{Up, End, Line, Ask, Answer}
use Rattle.master_core.specs.declared.master.Master.{Master}
use Rattle.master_core.specs.declared.sender.Sender.TheVariants as sender
use Rattle.master_core.specs.Linked.{node_says, sender_by, sender_of}
use Rattle.master_core.specs.Outside.{Stepped as Served}
use Rattle.master_core.specs.Streams.{without}
use Rattle.master_core.proofs.OutsideAlone.{bytes_alone, connects_alone}
use Rattle.mur_base.specs.Map.{value_at}
use Rattle.node_step.specs.declared.input.NodeInput.{NodeInput}
use Rattle.node_step.specs.declared.input.NodeInput.TheVariants.{Opened, Piece, Hung, From}
use Rattle.node_step.specs.declared.node.NodeState.{NodeState}
use Rattle.node_step.specs.declared.node.NodeState.TheVariants as state
use Rattle.node_step.specs.NodeStep.{as_back, as_front, as_master}
use Rattle.cluster_core.specs.declared.world.World.{World}
use Rattle.cluster_core.specs.World.{comes, master_at, node_at}
use Rattle.node_step.proofs.NodeKinds.{a_back, a_front}
use Rattle.cluster_core.proofs.Nodes.AllCome.{all_come, front_all_come, home_all_come, master_all_come, none_all_come}
use Rattle.cluster_core.proofs.Nodes.Comes.{front_does, home_does, master_does, a_master, wrote}
use Rattle.cluster_core.proofs.Nodes.Thins.{comes_thinned}
use Rattle.cluster_core.proofs.Points.Outside.{AreThey, IsIts, says_watched}
use Rattle.cluster_core.proofs.Keeps.Always.{HoldsAlways, IsWell, made_holds, thinned_always}
use Rattle.cluster_core.proofs.Keeps.Watchers.{bytes_watch, connects_watch, leaves_watch}

-- a client that does something is connected to the node, and a node that says something to a master is another one
abbrev pub InputFits : World → List ℕ → NodeInput → Type 0
InputFits world node (Opened conn) = IsIts node world.clients conn
InputFits world node (Piece conn bytes) = IsIts node world.clients conn
InputFits world node (Hung conn) = IsIts node world.clients conn
InputFits world node (From name message) = (master : Master) → master_at world node ≡ Some master → (name ≢ node) ⊎ (message ≡ Up)

-- ---- the master

ended_stream : (master : Master) (node other : List ℕ) (b : Bool) → other ≢ node → stream_of (without master (sender_by b other)) node ≡ stream_of master node
unfolding without
ended_stream master node other true ne = value_at-without_key-other master.streams other node (λ e. ne (sym e))
ended_stream master node other false ne = value_at-without_key-other master.streams other node (λ e. ne (sym e))

-- what another node says leaves the master without a stream to itself, and sends it nothing
says_else : (master : Master) (node other : List ℕ) (message : LinkMsg) → other ≢ node → stream_of master node ≡ None
    → (stream_of (node_says master other message).master node ≡ None) × (messages_to node (node_says master other message).outs ≡ [])
unfolding node_says
says_else master node other (Line bytes) ne none =
    let leaves = others_leave master (sender_of master other) bytes node (other_sender node other _ ne) in (leaves.stream ∙ none, leaves.nothing none)
says_else master node other End ne none = (ended_stream master node other _ ne ∙ none, refl)
says_else master node other Up ne none = (none, refl)
says_else master node other (Ask ask) ne none = (none, refl)
says_else master node other (Answer answer) ne none = (none, refl)

says_well : (world : World) (node : List ℕ) (master : Master) (name : List ℕ) (message : LinkMsg) → IsWell world node [] master
    → (name ≢ node) ⊎ (message ≡ Up) → IsWell world node (node_says master name message).outs (node_says master name message).master
unfolding node_says
says_well world node master name message is (inl ne) =
    let else = says_else master node name message ne is.no_stream in
    record {
      watchers = subst (AreThey (IsIts node world.clients)) (sym (says_watched master name message)) is.watchers;
      no_stream = else.0;
      selfless = is.selfless;
      sends_others = else.1;
    }
says_well world node master name message is (inr up) =
    subst (λ (m : LinkMsg). IsWell world node (node_says master name m).outs (node_says master name m).master) (sym up) is

left_well : (world : World) (node : List ℕ) (master : Master) (conn : ℕ) → IsWell world node [] master → IsIts node world.clients conn
    → IsWell world node [] (without master (sender.Outside conn))
unfolding without
left_well world node master conn is its = record {
  watchers = leaves_watch (IsIts node world.clients) conn its master is.watchers;
  no_stream = is.no_stream;
  selfless = is.selfless;
  sends_others = refl;
}

master_well : (world : World) (node : List ℕ) (master : Master) (input : NodeInput) → master_at world node ≡ Some master → IsWell world node [] master
    → InputFits world node input → IsWell world node (master_does master input).outs (master_does master input).master
master_well world node master (From name message) at is fits = says_well world node master name message is (fits master at)
master_well world node master (Opened conn) at is fits =
    let alone = connects_alone master conn in
    record {
      watchers = connects_watch (IsIts node world.clients) conn fits master is.watchers;
      no_stream = ap (λ s. value_at (slice_cmp nat_cmp) s node) alone.beside.streams ∙ is.no_stream;
      selfless = is.selfless;
      sends_others = no_message node conn (master_does master (Opened conn)).outs alone.own;
    }
master_well world node master (Piece conn bytes) at is fits =
    let alone = bytes_alone master conn bytes in
    record {
      watchers = bytes_watch (IsIts node world.clients) conn fits master bytes is.watchers;
      no_stream = ap (λ s. value_at (slice_cmp nat_cmp) s node) alone.beside.streams ∙ is.no_stream;
      selfless = is.selfless;
      sends_others = no_message node conn (master_does master (Piece conn bytes)).outs alone.own;
    }
master_well world node master (Hung conn) at is fits = left_well world node master conn is fits

-- ---- any node

-- what is written changes nothing of it
wrote_holds : (world : World) (node : List ℕ) (it : NodeState) (input : NodeInput) → HoldsAlways world → HoldsAlways (wrote world node it input)
wrote_holds world node it input holds = record {
  masters = λ any master at. (let is = holds.masters any master at in record { watchers = is.watchers; no_stream = is.no_stream; selfless = is.selfless });
  senders = holds.senders;
  cut = holds.cut;
}

no_master_front : (front : Front) (master : Master) → as_master (Some (state.Front front)) ≡ Some master → ⊥
unfolding as_master
no_master_front front master e = cc

no_master_back : (home : BackNode) (master : Master) → as_master (Some (state.Back home)) ≡ Some master → ⊥
unfolding as_master
no_master_back home master e = cc

the_master : (one other : Master) → as_master (Some (state.Master one)) ≡ Some other → one ≡ other
unfolding as_master
the_master one other e = cc

module _ (world : World) (node : List ℕ) (input : NodeInput) (holds : HoldsAlways world) (fits : InputFits world node input) where
  by_node : (found : Option NodeState) → node_at world node ≡ found → HoldsAlways (all_come world node input)
  by_node None there = subst HoldsAlways (sym (none_all_come world node input there)) holds
  by_node (Some (state.Front front)) there =
      subst HoldsAlways (sym (front_all_come world node input front (ap as_front there ∙ a_front front)))
      (made_holds world node (state.Front front) (state.Front (front_does front input).front) (front_does front input).outs there refl holds
      (λ master e. absurd (no_master_front (front_does front input).front master e)))
  by_node (Some (state.Back home)) there =
      subst HoldsAlways (sym (home_all_come world node input home (ap as_back there ∙ a_back home)))
      (made_holds (wrote world node (state.Back home) input) node (state.Back home) (state.Back (home_does home input).state) (home_does home input).outs there refl
      (wrote_holds world node (state.Back home) input holds)
      (λ master e. absurd (no_master_back (home_does home input).state master e)))
  by_node (Some (state.Master master)) there =
      let next : Served = master_does master input in
      let at : master_at world node ≡ Some master = ap as_master there ∙ a_master master in
      let is = holds.masters node master at in
      let put : World = wrote world node (state.Master master) input in
      let well : IsWell put node next.outs next.master = master_well put node master input at
      (record { watchers = is.watchers; no_stream = is.no_stream; selfless = is.selfless; sends_others = refl }) fits in
      subst HoldsAlways (sym (master_all_come world node input master at))
      (made_holds put node (state.Master master) (state.Master next.master) next.outs there refl (wrote_holds world node (state.Master master) input holds)
      (λ later e. subst (IsWell put node next.outs) (the_master next.master later e) well))

pub comes_holds : (world : World) (node : List ℕ) (input : NodeInput) → HoldsAlways world → InputFits world node input → HoldsAlways (comes world node input)
comes_holds world node input holds fits =
    thinned_always (all_come world node input) (comes world node input) (comes_thinned world node input) (by_node world node input holds fits (node_at world node) refl)
