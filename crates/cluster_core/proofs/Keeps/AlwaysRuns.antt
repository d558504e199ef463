-- Each world of a run holds what every world of a run holds: the first one does, and each event keeps it.
use Rattle.std.proofs.Common.{◌≡◌, ◌≢◌, ◌⊎◌, inl, inr, ◌||◌, ℕ, Bool, true, false, cond, List, [], ◌∷◌, ◌++◌, take, Option, None, Some, refl, sym, ◌∙◌, ap, subst}
use Rattle.std.specs.Prelude.{drop}
use Rattle.std.proofs.Math.Logic.{⊎_elim}
use Rattle.std.specs.Ordering.{nat_cmp}
use Rattle.std.specs.Cmp.Lexicographic.{slice_cmp}
use Rattle.std.proofs.lemmas.List.Elements.{All-nil}
use Rattle.cluster_core.specs.World.{cuts_if, joins_if, may_cut, may_join, node_at, with_cut, with_join, backends_of, client_at, client_does, deliver_first, first_state, master_at, no_world, opens, start, stepped, steps_by, taken_from_link, takes, told_up, with_client, with_node, with_nodes, with_ups}
use Rattle.cluster_core.specs.declared.world.Client.{Client}
use Rattle.link_msg.specs.declared.message.LinkMsg.{LinkMsg}
use Rattle.link_queue.proofs.BrokenLaws.{is_broken-breaking, is_broken-mending, none_broken}
use Rattle.link_queue.specs.Broken.{Broken, breaking, is_broken, mending}
use Rattle.link_queue.specs.Links.{Links, cut_short, on_link, same_link, without_first}
use Rattle.link_queue.proofs.Wires.{on_link-cut, on_link-taken, same_names}
use Rattle.master_core.specs.declared.master.Master.{Master}
use Rattle.master_core.specs.Boot.{booted}
use Rattle.mur_base.specs.Map.{value_at}
use Rattle.mur_base.proofs.MapLaws.{names_apart, numbers_apart, same_or_other, value_at-with_entry, value_at-with_entry-other}
use Rattle.mur_config.specs.declared.config.Config.{Config}
use Rattle.mur_config.specs.declared.node.Kind.{Kind}
use Rattle.mur_config.specs.declared.node.Kind.TheVariants.{Master as master_kind, Frontend, Backend as backend_kind}
use Rattle.mur_config.specs.declared.node.Link.{Link}
use Rattle.mur_config.specs.declared.node.Node.{Node}
use Rattle.mur_config.specs.Nodes.{links_of}
use Rattle.node_step.specs.declared.input.NodeInput.TheVariants.{Opened, Piece, Hung, From}
use Rattle.node_step.specs.NodeStep.{as_master}
use Rattle.link_msg.specs.declared.message.LinkMsg.TheVariants.{End, Up}
use Rattle.node_record.specs.Table.{empty_table}
use Rattle.schedule_text.specs.declared.event.Event.{Event}
use Rattle.schedule_text.specs.declared.event.Event.TheVariants.{Open, Data, Hang, Deliver, Cut, Join, Crash, Arm, Start, Flow, Heal}
use Rattle.cluster_core.specs.declared.world.World.{World}
use Rattle.cluster_core.specs.Flow.{run_steps}
use Rattle.cluster_core.proofs.Links.Events.{another_both}
use Rattle.cluster_core.proofs.Links.Tells.{ArePartedAt, cut_parted, kind_of, one_there, parted_back, parted_still}
use Rattle.cluster_core.proofs.Points.Outside.{AreThey, IsIts, they_keep}
use Rattle.cluster_core.proofs.Keeps.Always.{HoldsAlways}
use Rattle.cluster_core.proofs.Keeps.AlwaysSteps.{comes_holds}
use Rattle.cluster_core.proofs.Runs.NeverMoved.{may_join_broken}

-- ---- a message is taken off a link

none_left : (links : Links LinkMsg) (from to a b : List ℕ) → on_link links a b ≡ [] → on_link (without_first links from to) a b ≡ []
none_left links from to a b none =
    on_link-taken links from to a b ∙ ap (λ (q : List LinkMsg). cond (same_link a b from to) (drop 1 q) q) none ∙ by (same_link a b from to)
  where
    empty : List LinkMsg
    empty = []

    by : (same : Bool) → cond same (drop 1 empty) empty ≡ empty
    by true = refl
    by false = refl

taken_holds : (world : World) (from to : List ℕ) → HoldsAlways world → HoldsAlways (taken_from_link world from to)
taken_holds world from to holds = record {
  masters = λ node master at.
      (let is = holds.masters node master at in
      record { watchers = is.watchers; no_stream = is.no_stream; selfless = none_left world.links from to node node is.selfless });
  senders = λ node other none. none_left world.links from to node other (holds.senders node other none);
  cut = holds.cut;
}

-- ---- a client comes

module _ (world : World) (node : List ℕ) (conn : ℕ) (new : client_at world conn ≡ None) where
  still_its : (any : List ℕ) (other : ℕ) → IsIts any world.clients other → IsIts any (with_client world node conn).clients other
  still_its any other its =
      let ne : other ≢ conn = (λ e. (let gone : Client = record { at = any; given = its.0 } in let no : None ≡ Some gone = sym new ∙ ap (client_at world) (sym e) ∙ its.1 in cc)) in
      (its.0, value_at-with_entry-other nat_cmp numbers_apart world.clients conn other (record { at = node; given = [] }) ne ∙ its.1)

  client_holds : HoldsAlways world → HoldsAlways (with_client world node conn)
  client_holds holds = record {
    masters = λ any master at.
        (let is = holds.masters any master at in
        record {
          watchers = they_keep (IsIts any world.clients) (IsIts any (with_client world node conn).clients) (still_its any) master.watchers is.watchers;
          no_stream = is.no_stream;
          selfless = is.selfless;
        });
    senders = holds.senders;
    cut = holds.cut;
  }

-- ---- an event

opens_holds : (world : World) (node : List ℕ) (conn : ℕ) (found : Option Client) → client_at world conn ≡ found → HoldsAlways world
    → HoldsAlways (opens world node conn found)
unfolding opens
opens_holds world node conn (Some there) at holds = holds
opens_holds world node conn None at holds =
    comes_holds (with_client world node conn) node (Opened conn) (client_holds world node conn at holds)
    ([], value_at-with_entry nat_cmp numbers_apart world.clients conn (record { at = node; given = [] }))

piece_holds : (world : World) (conn : ℕ) (bytes : List ℕ) (found : Option Client) → client_at world conn ≡ found → HoldsAlways world
    → HoldsAlways (client_does world (Piece conn bytes) found)
unfolding client_does
piece_holds world conn bytes None at holds = holds
piece_holds world conn bytes (Some client) at holds = comes_holds world client.at (Piece conn bytes) holds (client.given, at)

hung_holds : (world : World) (conn : ℕ) (found : Option Client) → client_at world conn ≡ found → HoldsAlways world
    → HoldsAlways (client_does world (Hung conn) found)
unfolding client_does
hung_holds world conn None at holds = holds
hung_holds world conn (Some client) at holds = comes_holds world client.at (Hung conn) holds (client.given, at)

deliver_holds : (world : World) (from to : List ℕ) (found : List LinkMsg) → on_link world.links from to ≡ found → HoldsAlways world
    → HoldsAlways (deliver_first world from to found)
unfolding deliver_first
deliver_holds world from to [] first holds = holds
deliver_holds world from to (message ∷ rest) first holds =
    comes_holds (taken_from_link world from to) to (From from message) (taken_holds world from to holds)
    (λ master at. inl (λ e.
    (let no : [] ≡ message ∷ rest = sym (holds.masters to master at).selfless ∙ ap (λ f. on_link world.links f to) (sym e) ∙ first in cc)))

stepped_holds : (world : World) → HoldsAlways world → HoldsAlways (stepped world)
stepped_holds world holds = record {
  masters = λ node master at.
      (let is = holds.masters node master at in record { watchers = is.watchers; no_stream = is.no_stream; selfless = is.selfless });
  senders = holds.senders;
  cut = holds.cut;
}

-- a link breaks, or comes up

-- nothing more is on a link that isn't one of these
module _ (world : World) (one other : List ℕ) (parted : ArePartedAt world one other) (apart : one ≢ other) where
  back : ArePartedAt world other one
  back = parted_back world one other parted

  not_self : (node a b : List ℕ) → a ≢ b → same_link node node a b ≡ false
  not_self node a b ne = by (same_link node node a b) refl
    where
      by : (same : Bool) → same_link node node a b ≡ same → same_link node node a b ≡ false
      by false e = e
      by true e = (let at = same_names node node a b e in absurd (ne (sym at.0 ∙ at.1)))

  not_none : (node to a b : List ℕ) → node_at world node ≡ None → node_at world a ≢ None → same_link node to a b ≡ false
  not_none node to a b none there = by (same_link node to a b) refl
    where
      by : (same : Bool) → same_link node to a b ≡ same → same_link node to a b ≡ false
      by false e = e
      by true e = (let at = same_names node to a b e in absurd (there (ap (node_at world) (sym at.0) ∙ none)))

  other_apart : other ≢ one
  other_apart e = apart (sym e)

  -- with these on links, and these links broken
  module _ (next : World) (nodes : next.nodes ≡ world.nodes) (clients : next.clients ≡ world.clients)
      (left : (a b : List ℕ) → same_link a b one other ≡ false → same_link a b other one ≡ false → on_link next.links a b ≡ on_link world.links a b)
      (lost : (a b : List ℕ) → is_broken next.broken a b ≡ true → (is_broken world.broken a b ≡ true) ⊎ ((same_link a b one other ≡ true) ⊎ (same_link a b other one ≡ true)))
      (holds : HoldsAlways world) where
    same_at : (any : List ℕ) → node_at next any ≡ node_at world any
    same_at any = ap (λ n. value_at (slice_cmp nat_cmp) n any) nodes

    still : (a b : List ℕ) → ArePartedAt world a b → ArePartedAt next a b
    still a b was = parted_still world next (λ any. ap kind_of (same_at any)) a b was

    as_link : (a b from to : List ℕ) → ArePartedAt world from to → from ≢ to → same_link a b from to ≡ true → ArePartedAt next a b × (a ≢ b)
    as_link a b from to was ne same =
        let at = same_names a b from to same in
        (still a b (subst (λ x. ArePartedAt world x b) (sym at.0) (subst (ArePartedAt world from) (sym at.1) was)), λ e. ne (sym at.0 ∙ e ∙ at.1))

    by_lost : (a b : List ℕ) → (is_broken world.broken a b ≡ true) ⊎ ((same_link a b one other ≡ true) ⊎ (same_link a b other one ≡ true)) → ArePartedAt next a b × (a ≢ b)
    by_lost a b (inl was) = (let had = holds.cut a b was in (still a b had.0, had.1))
    by_lost a b (inr (inl same)) = as_link a b one other parted apart same
    by_lost a b (inr (inr same)) = as_link a b other one back other_apart same

    linked_holds : HoldsAlways next
    linked_holds = record {
      masters = λ node master at.
          (let is = holds.masters node master (ap as_master (sym (same_at node)) ∙ at) in
          record {
            watchers = subst (λ cs. AreThey (IsIts node cs) master.watchers) (sym clients) is.watchers;
            no_stream = is.no_stream;
            selfless = left node node (not_self node one other apart) (not_self node other one other_apart) ∙ is.selfless;
          });
      senders = λ node to none.
          (let nobody : node_at world node ≡ None = sym (same_at node) ∙ none in
          left node to (not_none node to one other nobody (one_there world one other parted)) (not_none node to other one nobody (one_there world other one back))
          ∙ holds.senders node to nobody);
      cut = λ a b gone. by_lost a b (lost a b gone);
    }

or_by : (one two three : Bool) → (one || (two || three)) ≡ true → (three ≡ true) ⊎ ((two ≡ true) ⊎ (one ≡ true))
or_by true two three e = inr (inr refl)
or_by false true three e = inr (inl refl)
or_by false false three e = inl e

not_by : (same was : Bool) → cond same false was ≡ true → was ≡ true
not_by true was e = cc
not_by false was e = e

cuts_hold : (world : World) (one other : List ℕ) (kept left : ℕ) (may : Bool) → may_cut world one other ≡ may → HoldsAlways world
    → HoldsAlways (cuts_if may world one other kept left)
unfolding cuts_if
cuts_hold world one other kept left false e holds = holds
cuts_hold world one other kept left true e holds =
    let may = cut_parted world one other e in
    let half : Links LinkMsg = cut_short world.links one other kept End in
    linked_holds world one other may.0 may.1 (with_cut world one other kept left) refl refl
    (λ a b first second.
    on_link-cut half other one a b left End
    ∙ ap (λ s. cond s (take left (on_link half a b) ++ End ∷ []) (on_link half a b)) second
    ∙ on_link-cut world.links one other a b kept End
    ∙ ap (λ s. cond s (take kept (on_link world.links a b) ++ End ∷ []) (on_link world.links a b)) first)
    (λ a b lost. or_by (same_link a b other one) (same_link a b one other) (is_broken world.broken a b)
    (sym (is_broken-breaking (breaking world.broken one other) other one a b
    ∙ ap (λ t. same_link a b other one || t) (is_broken-breaking world.broken one other a b)) ∙ lost))
    holds

joins_hold : (world : World) (one other : List ℕ) (may : Bool) → may_join world one other ≡ may → HoldsAlways world → HoldsAlways (joins_if may world one other)
unfolding joins_if
joins_hold world one other false e holds = holds
joins_hold world one other true e holds =
    let was = holds.cut one other (may_join_broken world one other e) in
    linked_holds world one other was.0 was.1 (with_join world one other) refl refl
    (λ a b first second. another_both world.links one other Up a b first second)
    (λ a b lost. inl (not_by (same_link a b one other) (is_broken world.broken a b)
    (sym (is_broken-mending world.broken one other a b)
    ∙ not_by (same_link a b other one) (is_broken (mending world.broken one other) a b) (sym (is_broken-mending (mending world.broken one other) other one a b) ∙ lost))))
    holds

takes_holds : (world : World) (event : Event) → HoldsAlways world → HoldsAlways (takes world event)
unfolding takes
takes_holds world (Open node conn) holds = opens_holds world node conn (client_at world conn) refl holds
takes_holds world (Data conn bytes) holds = piece_holds world conn bytes (client_at world conn) refl holds
takes_holds world (Hang conn) holds = hung_holds world conn (client_at world conn) refl holds
takes_holds world (Deliver from to) holds = deliver_holds world from to (on_link world.links from to) refl holds
takes_holds world (Cut one other kept left) holds = cuts_hold world one other kept left (may_cut world one other) refl holds
takes_holds world (Join one other) holds = joins_hold world one other (may_join world one other) refl holds
takes_holds world (Crash node image kept) holds = holds
takes_holds world (Arm node call image kept) holds = holds
takes_holds world (Start node) holds = holds
takes_holds world (Flow n) holds = holds
takes_holds world Heal holds = holds

pub step_holds : (world : World) (event : Event) → HoldsAlways world → HoldsAlways (steps_by world event)
step_holds world event holds = takes_holds (stepped world) event (stepped_holds world holds)

steps_hold : (world : World) (steps : List Event) → HoldsAlways world → HoldsAlways (run_steps world steps)
unfolding run_steps
steps_hold world [] holds = holds
steps_hold world (event ∷ steps) holds = steps_hold (steps_by world event) steps (step_holds world event holds)

-- ---- the first world

-- its masters have just begun, and nothing is on its way
record IsNew (world : World) : Type 0 where
  whole : world.broken ≡ []
  links : world.links ≡ []
  masters : (node : List ℕ) (master : Master) → master_at world node ≡ Some master → (master.watchers ≡ []) × (master.streams ≡ [])

new_state : (config : Config) (node : Node) (kind : Kind) (master : Master) → as_master (Some (first_state config node kind)) ≡ Some master
    → (master.watchers ≡ []) × (master.streams ≡ [])
unfolding first_state as_master booted
new_state config node master_kind master e =
    (let same : booted node.name (backends_of config.nodes) empty_table ≡ master = cc in
    (ap (λ (m : Master). m.watchers) (sym same), ap (λ (m : Master). m.streams) (sym same)))
new_state config node Frontend master e = cc
new_state config node backend_kind master e = cc

node_new : (config : Config) (world : World) (node : Node) → IsNew world → IsNew (with_node config world node)
node_new config world node new = record {
  whole = new.whole;
  links = new.links;
  masters = λ any master at. ⊎_elim
      (λ (e : any ≡ node.name). new_state config node node.kind master
      (ap as_master (sym (ap (value_at (slice_cmp nat_cmp) (with_node config world node).nodes) e
      ∙ value_at-with_entry (slice_cmp nat_cmp) names_apart world.nodes node.name (first_state config node node.kind))) ∙ at))
      (λ (ne : any ≢ node.name). new.masters any master
      (ap as_master (sym (value_at-with_entry-other (slice_cmp nat_cmp) names_apart world.nodes node.name any (first_state config node node.kind) ne)) ∙ at))
      (same_or_other (slice_cmp nat_cmp) names_apart any node.name);
}

nodes_new : (config : Config) (world : World) (nodes : List Node) → IsNew world → IsNew (with_nodes config world nodes)
unfolding with_nodes
nodes_new config world [] new = new
nodes_new config world (node ∷ nodes) new = nodes_new config (with_node config world node) nodes (node_new config world node new)

no_master : (node : List ℕ) (master : Master) → master_at no_world node ≡ Some master → ⊥
unfolding as_master
no_master node master e = cc

nothing_new : IsNew no_world
nothing_new = record { whole = refl; links = refl; masters = λ node master at. absurd (no_master node master at) }

empty_link : (links : Links LinkMsg) (a b : List ℕ) → links ≡ [] → on_link links a b ≡ []
unfolding on_link
empty_link links a b none = ap (λ (l : Links LinkMsg). on_link l a b) none

new_holds : (world : World) → IsNew world → HoldsAlways world
new_holds world new = record {
  masters = λ node master at.
      (let is = new.masters node master at in
      record {
        watchers = subst (AreThey (IsIts node world.clients)) (sym is.0) (All-nil _);
        no_stream = ap (λ s. value_at (slice_cmp nat_cmp) s node) is.1;
        selfless = empty_link world.links node node new.links;
      });
  senders = λ node other none. empty_link world.links node other new.links;
  cut = λ one other lost.
      absurd (let no : false ≡ true = sym (none_broken one other) ∙ ap (λ (b : Broken). is_broken b one other) (sym new.whole) ∙ lost in cc);
}

ups_hold : (world : World) (links : List Link) → HoldsAlways world → HoldsAlways (with_ups world links)
unfolding with_ups
ups_hold world [] holds = holds
ups_hold world (link ∷ links) holds =
    ups_hold (told_up world link) links (comes_holds world link.to (From link.from Up) holds (λ master at. inr refl))

pub start_holds : (config : Config) → HoldsAlways (start config)
unfolding start
start_holds config = ups_hold (with_nodes config no_world config.nodes) (links_of config.nodes)
    (new_holds (with_nodes config no_world config.nodes) (nodes_new config no_world config.nodes nothing_new))

-- EACH WORLD OF A RUN HOLDS IT
pub run_holds : (config : Config) (steps : List Event) → HoldsAlways (run_steps (start config) steps)
run_holds config steps = steps_hold (start config) steps (start_holds config)
