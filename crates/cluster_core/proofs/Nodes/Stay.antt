-- The nodes stay what they are in each step of a frontend, of a backend and of the master.
use Rattle.std.proofs.Common.{◌≡◌, ◌≢◌, ℕ, nat_eq, Bool, true, false, is_some, List, None, Some, refl, sym, ap, subst, ◌∙◌}
use Rattle.std.specs.List.{list_any}
use Rattle.std.specs.Ordering.{nat_cmp}
use Rattle.std.specs.Cmp.Lexicographic.{pointwise, slice_cmp}
use Rattle.std.proofs.Math.Logic.{⊎_elim}
use Rattle.std.proofs.lemmas.Option.{same_Some}
use Rattle.back_node.specs.declared.node.BackNode.{BackNode}
use Rattle.back_node.specs.Acted.{BackActed}
use Rattle.cluster_core.specs.World.{home_of, master_of, front_at, home_at, node_at}
use Rattle.feed_links.proofs.BackendsStay.{says_backends}
use Rattle.front_core.specs.declared.front.Front.{Front}
use Rattle.feed_links.proofs.Steps.{StepIs, is_bad, is_taken, step_is}
use Rattle.link_msg.specs.declared.message.LinkMsg.{LinkMsg}
use Rattle.link_msg.specs.declared.message.LinkMsg.TheVariants.{Up, End, Line, Ask, Answer}
use Rattle.master_core.specs.declared.master.Master.{Master}
use Rattle.master_core.specs.declared.sender.Sender.{Sender}
use Rattle.master_core.specs.declared.sender.Sender.TheVariants.{Backend, Frontend, Outside}
use Rattle.master_core.specs.declared.streams.StreamStep.{StreamStep}
use Rattle.master_core.specs.declared.streams.StreamStep.TheVariants as stream
use Rattle.master_core.specs.Linked.{node_says, sender_by, sender_of}
use Rattle.master_core.specs.Replies.{reply_to}
use Rattle.master_core.specs.Step.{Planned, bad_step, replied, settled}
use Rattle.master_core.specs.Streams.{stream_step, streaming, without}
use Rattle.master_core.proofs.OutsideAlone.{bytes_alone, connects_alone, ends_alone}
use Rattle.mur_base.specs.Map.{value_at}
use Rattle.mur_base.proofs.MapLaws.{names_apart, same_or_other}
use Rattle.mupdate_codec.specs.declared.tag.Tag.{Tag}
use Rattle.mur_config.specs.declared.config.Config.{Config}
use Rattle.node_step.specs.declared.input.NodeInput.{NodeInput}
use Rattle.node_step.specs.declared.input.NodeInput.TheVariants.{Opened, Piece, Hung, From}
use Rattle.node_step.specs.NodeStep.{as_back, as_front, as_master}
use Rattle.cluster_core.specs.declared.world.World.{World}
use Rattle.cluster_core.proofs.Connections.KeepsLaw.{AreNodesOf, IsFrontOf}
use Rattle.cluster_core.proofs.Nodes.Comes.{FrontMoved, HomeMoved, MasterMoved, front_does, front_moved, home_moved, master_does, master_moved, with_front, with_home, with_master}
use Rattle.cluster_core.proofs.Nodes.Known.{KeepsSelf, front_self}

-- a frontend of the next world that was one before
front_still : (config : Config) (world next : World) (master later : Master) (any : List ℕ) (front : Front) → IsFrontOf config world master any front
    → home_at next any ≡ None → later.backends ≡ master.backends → IsFrontOf config next later any front
front_still config world next master later any front had none same = record {
  master_is = had.master_is;
  first_is = had.first_is;
  setting_is = had.setting_is;
  no_master = had.no_master;
  no_home = none;
  no_backend = ap (λ b. list_any (pointwise nat_eq any) b) same ∙ had.no_backend;
}

-- ---- a frontend in another state

module _ (config : Config) (world next : World) (master : Master) (nodes : AreNodesOf config world master) (node : List ℕ) (was later : Front)
    (at : front_at world node ≡ Some was) (self : KeepsSelf was later) (moved : FrontMoved world node later next) where
  front_was : IsFrontOf config world master node was
  front_was = nodes.fronts node was at

  own_front : IsFrontOf config next master node later
  own_front = record {
    master_is = self.master ∙ front_was.master_is;
    first_is = self.first ∙ front_was.first_is;
    setting_is = self.setting ∙ front_was.setting_is;
    no_master = front_was.no_master;
    no_home = moved.homes node ∙ front_was.no_home;
    no_backend = front_was.no_backend;
  }

  other_front : (any : List ℕ) (front : Front) → any ≢ node → front_at next any ≡ Some front → IsFrontOf config next master any front
  other_front any front ne there =
      let had = nodes.fronts any front (sym (moved.fronts any ne) ∙ there) in
      front_still config world next master master any front had (moved.homes any ∙ had.no_home) refl

  pub front_cores : AreNodesOf config next master
  front_cores = record {
    me = nodes.me;
    is_there = moved.masters (master_of config) ∙ nodes.is_there;
    only = λ any other there. nodes.only any other (sym (moved.masters any) ∙ there);
    fronts = λ any front there. ⊎_elim
        (λ (e : any ≡ node).
        (let is : later ≡ front = same_Some later front (sym moved.own ∙ ap (front_at next) (sym e) ∙ there) in
        subst (λ n. IsFrontOf config next master n front) (sym e) (subst (λ f. IsFrontOf config next master node f) is own_front)))
        (λ (ne : any ≢ node). other_front any front ne there)
        (same_or_other (slice_cmp nat_cmp) names_apart any node);
    frontends = λ any. ⊎_elim
        (λ (e : any ≡ node). ap is_some (ap (front_at next) e ∙ moved.own) ∙ sym (ap is_some (ap (front_at world) e ∙ at)) ∙ nodes.frontends any)
        (λ (ne : any ≢ node). ap is_some (moved.fronts any ne) ∙ nodes.frontends any)
        (same_or_other (slice_cmp nat_cmp) names_apart any node);
    homes = λ any. ap is_some (moved.homes any) ∙ nodes.homes any;
    backends = nodes.backends;
    first_there = nodes.first_there;
  }

-- ---- a backend

module _ (config : Config) (world next : World) (master : Master) (nodes : AreNodesOf config world master) (node : List ℕ) (was later : BackNode)
    (at : home_at world node ≡ Some was) (moved : HomeMoved world node later next) where
  no_home_still : (any : List ℕ) → home_at world any ≡ None → home_at next any ≡ None
  no_home_still any none = ⊎_elim
      (λ (e : any ≡ node). absurd (let no : None ≡ Some was = sym none ∙ ap (home_at world) e ∙ at in cc))
      (λ (ne : any ≢ node). moved.homes any ne ∙ none)
      (same_or_other (slice_cmp nat_cmp) names_apart any node)

  still_front : (any : List ℕ) (front : Front) → front_at next any ≡ Some front → IsFrontOf config next master any front
  still_front any front there =
      let had = nodes.fronts any front (sym (moved.fronts any) ∙ there) in
      front_still config world next master master any front had (no_home_still any had.no_home) refl

  pub home_nodes : AreNodesOf config next master
  home_nodes = record {
    me = nodes.me;
    is_there = moved.masters (master_of config) ∙ nodes.is_there;
    only = λ any other there. nodes.only any other (sym (moved.masters any) ∙ there);
    fronts = still_front;
    frontends = λ any. ap is_some (moved.fronts any) ∙ nodes.frontends any;
    homes = λ any. ⊎_elim
        (λ (e : any ≡ node). ap is_some (ap (home_at next) e ∙ moved.own) ∙ sym (ap is_some (ap (home_at world) e ∙ at)) ∙ nodes.homes any)
        (λ (ne : any ≢ node). ap is_some (moved.homes any ne) ∙ nodes.homes any)
        (same_or_other (slice_cmp nat_cmp) names_apart any node);
    backends = nodes.backends;
    first_there = nodes.first_there;
  }

-- ---- the master

-- it stays the master that it is, with its backends
pub record KeepsMaster (was now : Master) : Type 0 where
  pub me : now.me ≡ was.me
  pub backends : now.backends ≡ was.backends

module _ (config : Config) (world next : World) (was later : Master) (nodes : AreNodesOf config world was) (self : KeepsMaster was later)
    (moved : MasterMoved world (master_of config) later next) where
  front_there : (any : List ℕ) (front : Front) → front_at next any ≡ Some front → IsFrontOf config next later any front
  front_there any front there =
      let had = nodes.fronts any front (sym (moved.fronts any) ∙ there) in
      front_still config world next was later any front had (moved.homes any ∙ had.no_home) self.backends

  pub master_nodes : AreNodesOf config next later
  master_nodes = record {
    me = self.me ∙ nodes.me;
    is_there = moved.own;
    only = λ any other there. ⊎_elim
        (λ (e : any ≡ master_of config). e)
        (λ (ne : any ≢ master_of config). nodes.only any other (sym (moved.masters any ne) ∙ there))
        (same_or_other (slice_cmp nat_cmp) names_apart any (master_of config));
    fronts = front_there;
    frontends = λ any. ap is_some (moved.fronts any) ∙ nodes.frontends any;
    homes = λ any. ap is_some (moved.homes any) ∙ nodes.homes any ∙ ap (λ b. list_any (pointwise nat_eq any) b) (sym self.backends);
    backends = self.backends ∙ nodes.backends;
    first_there = ap (λ b. list_any (pointwise nat_eq (home_of config)) b) self.backends ∙ nodes.first_there;
  }

-- whatever it takes

settled_me : (planned : Planned) (from : Sender) (tag : Tag) (step : StreamStep) → (settled planned from tag step).master.me ≡ planned.master.me
unfolding settled streaming without
settled_me planned from tag stream.Stays = refl
settled_me planned (Backend node) tag stream.Begins = refl
settled_me planned (Frontend node) tag stream.Begins = refl
settled_me planned (Outside conn) tag stream.Begins = refl
settled_me planned (Backend node) tag stream.Ends = refl
settled_me planned (Frontend node) tag stream.Ends = refl
settled_me planned (Outside conn) tag stream.Ends = refl

step_me : (master : Master) (from : Sender) (next : Planned) → StepIs master from next → next.master.me ≡ master.me
unfolding bad_step replied
step_me master from next (is_bad tag tagged) = refl
step_me master from next (is_taken tag it tagged has may) = settled_me (replied master from tag (reply_to master.table from it)) from tag (stream_step it)

ended_me : (master : Master) (other : List ℕ) (b : Bool) → (without master (sender_by b other)).me ≡ master.me
unfolding without
ended_me master other true = refl
ended_me master other false = refl

says_me : (master : Master) (other : List ℕ) (message : LinkMsg) → (node_says master other message).master.me ≡ master.me
unfolding node_says
says_me master other (Line bytes) = step_me master (sender_of master other) _ (step_is master (sender_of master other) bytes)
says_me master other End = ended_me master other (list_any (pointwise nat_eq other) master.backends)
says_me master other Up = refl
says_me master other (Ask ask) = refl
says_me master other (Answer answer) = refl

pub master_self : (master : Master) (input : NodeInput) → KeepsMaster master (master_does master input).master
master_self master (Opened conn) = record { me = (connects_alone master conn).beside.me; backends = (connects_alone master conn).beside.backends }
master_self master (Piece conn bytes) = record { me = (bytes_alone master conn bytes).beside.me; backends = (bytes_alone master conn bytes).beside.backends }
master_self master (Hung conn) = record { me = (ends_alone master conn).beside.me; backends = (ends_alone master conn).beside.backends }
master_self master (From name message) = record { me = says_me master name message; backends = says_backends master name message }

-- ---- in the world

-- AreNodesOf in the next world, whatever comes to a frontend, to a backend or to the master
pub front_keeps_nodes : (config : Config) (world : World) (master : Master) (node : List ℕ) (front : Front) (input : NodeInput)
    → AreNodesOf config world master → front_at world node ≡ Some front → AreNodesOf config (with_front world node (front_does front input)) master
front_keeps_nodes config world master node front input nodes at =
    front_cores config world (with_front world node (front_does front input)) master nodes node front (front_does front input).front at (front_self front input)
    (front_moved world node front (front_does front input) at)

pub home_keeps_nodes : (config : Config) (world : World) (master : Master) (node : List ℕ) (home : BackNode) (next : BackActed) → AreNodesOf config world master
    → home_at world node ≡ Some home → AreNodesOf config (with_home world node next) master
home_keeps_nodes config world master node home next nodes at =
    home_nodes config world (with_home world node next) master nodes node home next.state at (home_moved world node home next at)

pub master_keeps_nodes : (config : Config) (world : World) (master : Master) (input : NodeInput) → AreNodesOf config world master
    → AreNodesOf config (with_master world (master_of config) (master_does master input)) (master_does master input).master
master_keeps_nodes config world master input nodes =
    master_nodes config world (with_master world (master_of config) (master_does master input)) master (master_does master input).master nodes (master_self master input)
    (master_moved world (master_of config) master (master_does master input) nodes.is_there)

-- the law is of the nodes alone
pub same_nodes : (config : Config) (world next : World) (master : Master) → next.nodes ≡ world.nodes → AreNodesOf config world master → AreNodesOf config next master
same_nodes config world next master same nodes =
    let at : (any : List ℕ) → node_at next any ≡ node_at world any = λ any. ap (λ n. value_at (slice_cmp nat_cmp) n any) same in
    record {
      me = nodes.me;
      is_there = ap as_master (at (master_of config)) ∙ nodes.is_there;
      only = λ any other there. nodes.only any other (sym (ap as_master (at any)) ∙ there);
      fronts = λ any front there. (let had = nodes.fronts any front (sym (ap as_front (at any)) ∙ there) in
          front_still config world next master master any front had (ap as_back (at any) ∙ had.no_home) refl);
      frontends = λ any. ap (λ found. is_some (as_front found)) (at any) ∙ nodes.frontends any;
      homes = λ any. ap (λ found. is_some (as_back found)) (at any) ∙ nodes.homes any;
      backends = nodes.backends;
      first_there = nodes.first_there;
    }
