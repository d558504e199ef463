-- In no run an answer is on its way that tells of a server to which a mailbox has moved: no mailbox moves.
use Rattle.std.proofs.Common.{◌≡◌, ◌≢◌, ℕ, zero, suc, ◌&&◌, ◌||◌, Bool, true, false, not, cond, is_some, List, [], ◌∷◌, ◌++◌, drop, take, Option, None, Some, refl, sym, ◌∙◌, ap, subst, All, Contains}
use Rattle.std.specs.List.{AllByRecursion}
use Rattle.std.specs.Ordering.{nat_cmp, is_eq}
use Rattle.std.specs.Cmp.Lexicographic.{slice_cmp}
use Rattle.std.proofs.Math.Logic.{⊎_elim}
use Rattle.std.proofs.lemmas.List.Elements.{All-contains_itself, All-head, All-nil, All-tail}
use Rattle.std.proofs.lemmas.Option.{same_Some}
use Rattle.cluster_core.specs.declared.world.Client.{Client}
use Rattle.feed_links.proofs.FeedLaw.{both}
use Rattle.front_core.proofs.OwnOuts.{IsLetOut}
use Rattle.link_msg.specs.declared.answer.AnswerBody.TheVariants.{Moved}
use Rattle.link_msg.specs.declared.answer.BackAnswer.{BackAnswer}
use Rattle.link_msg.specs.declared.message.LinkMsg.{LinkMsg}
use Rattle.link_msg.specs.declared.message.LinkMsg.TheVariants.{Up, End, Answer}
use Rattle.link_msg.specs.declared.out.Out.{Out}
use Rattle.link_msg.specs.declared.out.Out.TheVariants.{Client as to_client, Close, Link as to_node, Mark as mark_out, Told as tell}
use Rattle.link_queue.specs.Broken.{Broken, breaking, is_broken, mending}
use Rattle.link_queue.specs.Links.{Links, cut_short, on_link, same_link, sent, without_first}
use Rattle.link_queue.proofs.BrokenLaws.{is_broken-breaking, is_broken-mending, none_broken}
use Rattle.link_queue.proofs.Wires.{on_link-cut, on_link-sent, on_link-taken, same_names}
use Rattle.mur_base.specs.Map.{value_at, with_entry}
use Rattle.mur_base.proofs.MapLaws.{names_apart, same_or_other, value_at-with_entry, value_at-with_entry-other}
use Rattle.mur_config.specs.declared.config.Config.{Config}
use Rattle.mur_config.specs.declared.node.Kind.{Kind}
use Rattle.mur_config.specs.declared.node.Kind.TheVariants.{Master as master_kind, Frontend, Backend as backend_kind}
use Rattle.mur_config.specs.declared.node.Link.{Link}
use Rattle.mur_config.specs.declared.node.Node.{Node}
use Rattle.mur_config.specs.Nodes.{AreNodes, links_of}
use Rattle.node_step.specs.declared.input.NodeInput.{NodeInput}
use Rattle.node_step.specs.declared.input.NodeInput.TheVariants.{Opened, Piece, Hung, From}
use Rattle.node_step.specs.declared.node.NodeState.{NodeState}
use Rattle.node_step.specs.declared.node.NodeState.TheVariants as state
use Rattle.node_step.specs.NodeStep.{as_back, takes as node_takes}
use Rattle.node_step.proofs.OwnOuts.{MayMark}
use Rattle.schedule_text.specs.declared.event.Event.{Event}
use Rattle.schedule_text.specs.declared.event.Event.TheVariants.{Open, Data, Hang, Deliver, Cut, Join}
use Rattle.cluster_core.specs.declared.world.World.{World}
use Rattle.cluster_core.specs.Flow.{run_steps}
use Rattle.cluster_core.specs.World.{are_parted, carry, carry_all, client_at, client_does, comes, comes_to, cuts_if, deliver_first, first_state, home_at, is_nothing, joins_if, master_of, may_cut, may_join, may_part, no_world, node_at, not_lost, opens, start, stepped, steps_by, taken_from_link, takes, told_up, with_client, with_node, with_nodes, with_ups, with_acted}
use Rattle.cluster_core.proofs.Links.Tells.{comes_kinds, kind_of}
use Rattle.cluster_core.proofs.Runs.LinkedNodes.{apart_kinds, the_master}
use Rattle.cluster_core.proofs.Runs.NotLost.{let_left}
use Rattle.cluster_core.proofs.Runs.OneNodeLaw.{comes_broken, given_links}
use Rattle.cluster_core.proofs.Runs.OwnNodes.{OfEachNode, comes_of_each}
use Rattle.cluster_core.proofs.Runs.QuietFlows.{LooksForNone}
use Rattle.cluster_core.proofs.Runs.QuietNodes.{AnyClient, AreQuietOuts, InputIsQuiet, IsAmongHomes, IsQuiet, IsQuietOn, NodeIsFresh, NodeIsQuiet, NotMasters, QuietTo, fresh_is_quiet, outs_quiet, quiet_on, same_quiet, stays_quiet, ups_fresh, ups_outs}

-- all that is on its way is so, from where and wherever to
abbrev pub AreAllOn : (List ℕ → List ℕ → LinkMsg → Type 0) → Links LinkMsg → Type 0
AreAllOn P links = (from to : List ℕ) → AllByRecursion (P from to) (on_link links from to)

abbrev pub AreQuietOn : List ℕ → (List ℕ → Bool) → Links LinkMsg → Type 0
AreQuietOn master homes links = AreAllOn (IsQuietOn master homes) links

-- what holds of all that is on its way, by what holds of each
pub all_so : (P Q : List ℕ → List ℕ → LinkMsg → Type 0) (links : Links LinkMsg) → ((from to : List ℕ) (message : LinkMsg) → P from to message → Q from to message)
    → AreAllOn P links → AreAllOn Q links
all_so P Q links goes on = λ from to. by from to (on_link links from to) (on from to)
  where
    by : (from to : List ℕ) (queue : List LinkMsg) → AllByRecursion (P from to) queue → AllByRecursion (Q from to) queue
    by from to [] all = tt
    by from to (message ∷ queue) all = (goes from to message all.0, by from to queue all.1)

-- and what nodes say alone
abbrev pub Said : List ℕ → List ℕ → LinkMsg → Type 0
Said from to message = IsQuiet message

-- ---- what a node lets out

pub one_more : (P : LinkMsg → Type 0) (queue : List LinkMsg) (message : LinkMsg) (same : Bool) → (same ≡ true → P message) → AllByRecursion P queue
    → AllByRecursion P (queue ++ cond same (message ∷ []) [])
one_more P queue message true is all = both P queue (message ∷ []) all (is refl, tt)
one_more P queue message false is all = both P queue [] all tt

module _ (P : List ℕ → List ℕ → LinkMsg → Type 0) (said : (from to : List ℕ) (message : LinkMsg) → IsQuiet message → P from to message) where
  carry_quiet : (marks : Type 0) (node : List ℕ) (world : World) (out : Out) → IsLetOut AnyClient QuietTo marks out → AreAllOn P world.links
      → AreAllOn P (carry node world out).links
  unfolding carry
  carry_quiet marks node world (to_client conn bytes) is on = subst (AreAllOn P) (sym (given_links world conn bytes (client_at world conn))) on
  carry_quiet marks node world (Close conn) is on = on
  carry_quiet marks node world (mark_out ask counts) is on = on
  carry_quiet marks node world (tell ask how) is on = on
  carry_quiet marks node world (to_node other message) is on = λ from to.
      subst (AllByRecursion (P from to)) (sym (on_link-sent world.links node other from to message))
      (one_more (P from to) (on_link world.links from to) message (same_link from to node other) (λ _. said from to message is) (on from to))

  carry_all_quiet : (marks : Type 0) (node : List ℕ) (world : World) (outs : List Out) → AreQuietOuts marks outs → AreAllOn P world.links
      → AreAllOn P (carry_all node world outs).links
  unfolding carry_all
  carry_all_quiet marks node world [] are on = on
  carry_all_quiet marks node world (out ∷ outs) are on =
      carry_all_quiet marks node (carry node world out) outs are.1 (carry_quiet marks node world out are.0 on)

  pub comes_links : (world : World) (node : List ℕ) (input : NodeInput) (found : Option NodeState)
      → ((it : NodeState) → found ≡ Some it → AreQuietOuts (MayMark it) (node_takes it input).outs) → AreAllOn P world.links
      → AreAllOn P (comes_to world node input found).links
  unfolding comes_to
  comes_links world node input None lets on = on
  comes_links world node input (Some it) lets on =
      carry_all_quiet (MayMark it) node (with_acted world node (node_takes it input)) (not_lost world.broken node (node_takes it input).outs)
      (let_left AnyClient QuietTo (MayMark it) world.broken node (node_takes it input).outs (lets it refl)) on

-- ---- a world

-- which nodes are backends
abbrev pub homes_of : World → List ℕ → Bool
homes_of world node = is_some (home_at world node)

-- no link of the master with a backend is broken
abbrev pub AreWhole : List ℕ → (List ℕ → Bool) → Broken → Type 0
AreWhole master homes broken = (node : List ℕ) → homes node ≡ true → (is_broken broken master node ≡ false) × (is_broken broken node master ≡ false)

pub record WorldIsQuiet (master : List ℕ) (world : World) : Type 0 where
  pub nodes : OfEachNode (NodeIsQuiet master) world
  pub links : AreQuietOn master (homes_of world) world.links
  pub whole : AreWhole master (homes_of world) world.broken
  -- before any link breaks nothing tells of one
  pub calm : world.broken ≡ [] → AreAllOn Said world.links

-- behind a link that breaks, or comes up, something is noted
some_entry : {X : Type 0} (es : List (List ℕ × X)) (k : List ℕ) (v : X) → with_entry (slice_cmp nat_cmp) es k v ≢ []
some_entry {X} es k v none =
    let found : Some v ≡ None = sym (value_at-with_entry (slice_cmp nat_cmp) names_apart es k v) ∙ ap (λ l. value_at (slice_cmp nat_cmp) l k) none in
    cc

pub some_break : (broken : Broken) (one other : List ℕ) → breaking broken one other ≢ []
unfolding breaking
some_break broken one other = some_entry broken one _

pub some_mend : (broken : Broken) (one other : List ℕ) → mending broken one other ≢ []
unfolding mending
some_mend broken one other = some_entry broken one _

-- a link that breaks doesn't join the master with a backend
parted_apart : (master : List ℕ) (homes : List ℕ → Bool) (one other : List ℕ) (it another : NodeState) → NodeIsQuiet master one it → NodeIsQuiet master other another
    → homes one ≡ is_some (as_back (Some it)) → homes other ≡ is_some (as_back (Some another)) → are_parted it another ≡ true → NotMasters master homes one other
unfolding are_parted as_back
parted_apart master homes one other (state.Front front) (state.Back home) is also e f may =
    record { from_apart = λ _. is; to_apart = λ _. also.apart }
parted_apart master homes one other (state.Back home) (state.Front front) is also e f may =
    record { from_apart = λ _. is.apart; to_apart = λ _. also }
parted_apart master homes one other (state.Back home) (state.Back another) is also e f may =
    record { from_apart = λ _. is.apart; to_apart = λ _. also.apart }
parted_apart master homes one other (state.Front front) (state.Master it) is also e f may =
    record { from_apart = λ _. is; to_apart = λ at. absurd (let no : false ≡ true = sym e ∙ at in cc) }
parted_apart master homes one other (state.Master it) (state.Front front) is also e f may =
    record { from_apart = λ at. absurd (let no : false ≡ true = sym f ∙ at in cc); to_apart = λ _. also }
parted_apart master homes one other (state.Front front) (state.Front another) is also e f may = cc
parted_apart master homes one other (state.Back home) (state.Master it) is also e f may = cc
parted_apart master homes one other (state.Master it) (state.Back home) is also e f may = cc
parted_apart master homes one other (state.Master it) (state.Master another) is also e f may = cc

may_part_apart : (master : List ℕ) (homes : List ℕ → Bool) (one other : List ℕ) (it another : Option NodeState)
    → ((s : NodeState) → it ≡ Some s → NodeIsQuiet master one s) → ((s : NodeState) → another ≡ Some s → NodeIsQuiet master other s)
    → homes one ≡ is_some (as_back it) → homes other ≡ is_some (as_back another) → may_part it another ≡ true → NotMasters master homes one other
unfolding may_part
may_part_apart master homes one other (Some it) (Some another) is also e f may =
    parted_apart master homes one other it another (is it refl) (also another refl) e f may
may_part_apart master homes one other (Some it) None is also e f may = cc
may_part_apart master homes one other None another is also e f may = cc

first_true : (one two : Bool) → one && two ≡ true → one ≡ true
first_true true two e = refl
first_true false two e = cc

pub may_cut_parts : (world : World) (one other : List ℕ) → may_cut world one other ≡ true → may_part (node_at world one) (node_at world other) ≡ true
unfolding may_cut
may_cut_parts world one other may =
    first_true (may_part (node_at world one) (node_at world other)) (not (is_eq (slice_cmp nat_cmp one other)))
    (first_true (may_part (node_at world one) (node_at world other) && not (is_eq (slice_cmp nat_cmp one other)))
    (not (is_broken world.broken one other)) may)

pub may_join_broken : (world : World) (one other : List ℕ) → may_join world one other ≡ true → is_broken world.broken one other ≡ true
unfolding may_join
may_join_broken world one other may =
    first_true (is_broken world.broken one other) (is_nothing (on_link world.links one other))
    (first_true (is_broken world.broken one other && is_nothing (on_link world.links one other)) (is_nothing (on_link world.links other one)) may)

pub cut_apart : (master : List ℕ) (world : World) (one other : List ℕ) → OfEachNode (NodeIsQuiet master) world → may_cut world one other ≡ true
    → NotMasters master (homes_of world) one other
cut_apart master world one other each may =
    may_part_apart master (homes_of world) one other (node_at world one) (node_at world other) (each one) (each other) refl refl
    (may_cut_parts world one other may)

-- in the other direction
pub not_back : (master : List ℕ) (homes : List ℕ → Bool) (one other : List ℕ) → NotMasters master homes one other → NotMasters master homes other one
not_back master homes one other not = record { from_apart = not.to_apart; to_apart = not.from_apart }

-- a backend is one of them
pub among_homes : (world : World) (node : List ℕ) (it : NodeState) → node_at world node ≡ Some it → IsAmongHomes (homes_of world) node it
unfolding as_back
among_homes world node (state.Front front) there = tt
among_homes world node (state.Back home) there = ap (λ found. is_some (as_back found)) there
among_homes world node (state.Master it) there = tt

-- each node stays what it is
pub is_home_kind : Option Kind → Bool
is_home_kind (Some backend_kind) = true
is_home_kind other = false

pub home_by_kind : (it : Option NodeState) → is_some (as_back it) ≡ is_home_kind (kind_of it)
unfolding as_back is_home_kind
home_by_kind None = refl
home_by_kind (Some (state.Front front)) = refl
home_by_kind (Some (state.Back home)) = refl
home_by_kind (Some (state.Master master)) = refl

pub homes_stay : (world : World) (node : List ℕ) (input : NodeInput) (name : List ℕ) → homes_of (comes world node input) name ≡ homes_of world name
homes_stay world node input name =
    home_by_kind (node_at (comes world node input) name) ∙ ap is_home_kind (comes_kinds world node input name) ∙ sym (home_by_kind (node_at world name))

module _ (master : List ℕ) where
  comes_quiet : (world : World) (node : List ℕ) (input : NodeInput) → InputIsQuiet master (homes_of world) node input → WorldIsQuiet master world
      → WorldIsQuiet master (comes world node input)
  comes_quiet world node input is quiet =
      let next : World = comes world node input in
      let outs : (it : NodeState) → node_at world node ≡ Some it → AreQuietOuts (MayMark it) (node_takes it input).outs =
      λ it there. outs_quiet master (homes_of world) node it input (quiet.nodes node it there) (among_homes world node it there) is in
      record {
        nodes = comes_of_each (NodeIsQuiet master) world node input (node_at world node) refl quiet.nodes
            (λ it there. stays_quiet master (homes_of world) node it input (quiet.nodes node it there) (among_homes world node it there) is);
        links = all_so (IsQuietOn master (homes_of world)) (IsQuietOn master (homes_of next)) next.links
            (same_quiet master (homes_of world) (homes_of next) (homes_stay world node input))
            (comes_links (IsQuietOn master (homes_of world)) (quiet_on master (homes_of world)) world node input (node_at world node) outs quiet.links);
        calm = λ none. comes_links Said (λ from to message said. said) world node input (node_at world node) outs
            (quiet.calm (sym (comes_broken world node input (node_at world node)) ∙ none));
        whole = λ name home.
            subst (λ b. (is_broken b master name ≡ false) × (is_broken b name master ≡ false)) (sym (comes_broken world node input (node_at world node)))
            (quiet.whole name (sym (homes_stay world node input name) ∙ home));
      }

  opens_quiet : (world : World) (node : List ℕ) (conn : ℕ) (found : Option Client) → WorldIsQuiet master world
      → WorldIsQuiet master (opens world node conn found)
  unfolding opens
  opens_quiet world node conn (Some there) quiet = quiet
  opens_quiet world node conn None quiet =
      comes_quiet (with_client world node conn) node (Opened conn) tt (record { nodes = quiet.nodes; links = quiet.links; whole = quiet.whole; calm = quiet.calm })

  data_quiet : (world : World) (conn : ℕ) (bytes : List ℕ) (found : Option Client) → WorldIsQuiet master world
      → WorldIsQuiet master (client_does world (Piece conn bytes) found)
  unfolding client_does
  data_quiet world conn bytes None quiet = quiet
  data_quiet world conn bytes (Some client) quiet = comes_quiet world client.at (Piece conn bytes) tt quiet

  hang_quiet : (world : World) (conn : ℕ) (found : Option Client) → WorldIsQuiet master world → WorldIsQuiet master (client_does world (Hung conn) found)
  unfolding client_does
  hang_quiet world conn None quiet = quiet
  hang_quiet world conn (Some client) quiet = comes_quiet world client.at (Hung conn) tt quiet

  pub behind_first : (P : LinkMsg → Type 0) (queue : List LinkMsg) → AllByRecursion P queue → AllByRecursion P (drop 1 queue)
  behind_first P [] all = tt
  behind_first P (message ∷ queue) all = all.1

  pub either_queue : (P : LinkMsg → Type 0) (one other : List LinkMsg) (same : Bool) → (same ≡ true → AllByRecursion P one) → AllByRecursion P other
      → AllByRecursion P (cond same one other)
  either_queue P one other true here all = here refl
  either_queue P one other false here all = all

  pub taken_all : (P : List ℕ → List ℕ → LinkMsg → Type 0) (links : Links LinkMsg) (from to : List ℕ) → AreAllOn P links
      → AreAllOn P (without_first links from to)
  taken_all P links from to on = λ a b.
      subst (AllByRecursion (P a b)) (sym (on_link-taken links from to a b))
      (either_queue (P a b) (drop 1 (on_link links a b)) (on_link links a b) (same_link a b from to)
      (λ _. behind_first (P a b) (on_link links a b) (on a b)) (on a b))

  pub taken_quiet : (world : World) (from to : List ℕ) → WorldIsQuiet master world → WorldIsQuiet master (taken_from_link world from to)
  taken_quiet world from to quiet = record {
    nodes = quiet.nodes;
    links = taken_all (IsQuietOn master (homes_of world)) world.links from to quiet.links;
    whole = quiet.whole;
    calm = λ none. taken_all Said world.links from to (quiet.calm none);
  }

  deliver_quiet : (world : World) (from to : List ℕ) (queue : List LinkMsg) → on_link world.links from to ≡ queue → WorldIsQuiet master world
      → WorldIsQuiet master (deliver_first world from to queue)
  unfolding deliver_first
  deliver_quiet world from to [] first quiet = quiet
  deliver_quiet world from to (message ∷ rest) first quiet =
      comes_quiet (taken_from_link world from to) to (From from message) (subst (AllByRecursion (IsQuietOn master (homes_of world) from to)) first (quiet.links from to)).0
      (taken_quiet world from to quiet)

  -- a link breaks

  pub kept_quiet : (P : LinkMsg → Type 0) (k : ℕ) (queue : List LinkMsg) → AllByRecursion P queue → AllByRecursion P (take k queue)
  kept_quiet P zero queue all = tt
  kept_quiet P (suc k) [] all = tt
  kept_quiet P (suc k) (message ∷ queue) all = (all.0, kept_quiet P k queue all.1)

  -- what a link tells of itself may be on its way on it
  on_it : (homes : List ℕ → Bool) (one other a b : List ℕ) → NotMasters master homes one other → same_link a b one other ≡ true → NotMasters master homes a b
  on_it homes one other a b not same =
      let is = same_names a b one other same in
      subst (λ x. NotMasters master homes x b) (sym is.0) (subst (NotMasters master homes one) (sym is.1) not)

  short_quiet : (homes : List ℕ → Bool) (links : Links LinkMsg) (one other : List ℕ) (k : ℕ) → NotMasters master homes one other → AreQuietOn master homes links
      → AreQuietOn master homes (cut_short links one other k End)
  short_quiet homes links one other k not on = λ a b.
      subst (AllByRecursion (IsQuietOn master homes a b)) (sym (on_link-cut links one other a b k End))
      (either_queue (IsQuietOn master homes a b) (take k (on_link links a b) ++ End ∷ []) (on_link links a b) (same_link a b one other)
      (λ h. both (IsQuietOn master homes a b) (take k (on_link links a b)) (End ∷ []) (kept_quiet (IsQuietOn master homes a b) k (on_link links a b) (on a b))
      (on_it homes one other a b not h, tt)) (on a b))

  -- a link that isn't the master's with this backend
  not_its : (homes : List ℕ → Bool) (one other node : List ℕ) → NotMasters master homes one other → homes node ≡ true
      → (same_link master node one other ≡ false) × (same_link node master one other ≡ false)
  not_its homes one other node not home = (
    no_link (λ is. not.from_apart (ap homes (sym is.1) ∙ home) (sym is.0)) (same_link master node one other) refl,
    no_link (λ is. not.to_apart (ap homes (sym is.0) ∙ home) (sym is.1)) (same_link node master one other) refl,
  )
    where
      no_link : {a b : List ℕ} → ((a ≡ one) × (b ≡ other) → ⊥) → (same : Bool) → same_link a b one other ≡ same → same_link a b one other ≡ false
      no_link none true e = absurd (none (same_names _ _ one other e))
      no_link none false e = e

  breaks_whole : (homes : List ℕ → Bool) (broken : Broken) (one other : List ℕ) → NotMasters master homes one other → AreWhole master homes broken
      → AreWhole master homes (breaking broken one other)
  breaks_whole homes broken one other apart whole node home =
      let not = not_its homes one other node apart home in (
        is_broken-breaking broken one other master node ∙ ap (λ t. t || is_broken broken master node) not.0 ∙ (whole node home).0,
        is_broken-breaking broken one other node master ∙ ap (λ t. t || is_broken broken node master) not.1 ∙ (whole node home).1,
      )

  mends_whole : (homes : List ℕ → Bool) (broken : Broken) (one other : List ℕ) → AreWhole master homes broken → AreWhole master homes (mending broken one other)
  mends_whole homes broken one other whole node home = (
    is_broken-mending broken one other master node ∙ still_whole (same_link master node one other) (is_broken broken master node) (whole node home).0,
    is_broken-mending broken one other node master ∙ still_whole (same_link node master one other) (is_broken broken node master) (whole node home).1,
  )
    where
      still_whole : (same was : Bool) → was ≡ false → cond same false was ≡ false
      still_whole true was e = refl
      still_whole false was e = e

  cut_quiet : (world : World) (one other : List ℕ) (k l : ℕ) (may : Bool) → may_cut world one other ≡ may → WorldIsQuiet master world
      → WorldIsQuiet master (cuts_if may world one other k l)
  unfolding cuts_if
  cut_quiet world one other k l true e quiet =
      let homes : List ℕ → Bool = homes_of world in
      let apart = cut_apart master world one other quiet.nodes e in
      let back = not_back master homes one other apart in
      record {
        nodes = quiet.nodes;
        links = short_quiet homes (cut_short world.links one other k End) other one l back (short_quiet homes world.links one other k apart quiet.links);
        whole = breaks_whole homes (breaking world.broken one other) other one back (breaks_whole homes world.broken one other apart quiet.whole);
        calm = λ none. absurd (some_break (breaking world.broken one other) other one none);
      }
  cut_quiet world one other k l false e quiet = quiet

  -- and comes up

  sent_quiet : (homes : List ℕ → Bool) (links : Links LinkMsg) (one other : List ℕ) → NotMasters master homes one other → AreQuietOn master homes links
      → AreQuietOn master homes (sent links one other Up)
  sent_quiet homes links one other not on = λ a b.
      subst (AllByRecursion (IsQuietOn master homes a b)) (sym (on_link-sent links one other a b Up))
      (one_more (IsQuietOn master homes a b) (on_link links a b) Up (same_link a b one other) (on_it homes one other a b not) (on a b))

  pub join_apart : (world : World) (one other : List ℕ) → is_broken world.broken one other ≡ true → AreWhole master (homes_of world) world.broken
      → NotMasters master (homes_of world) one other
  join_apart world one other broken whole = record {
    from_apart = λ home e. (let no : true ≡ false = sym broken ∙ ap (λ n. is_broken world.broken n other) e ∙ (whole other home).0 in cc);
    to_apart = λ home e. (let no : true ≡ false = sym broken ∙ ap (is_broken world.broken one) e ∙ (whole one home).1 in cc);
  }

  join_quiet : (world : World) (one other : List ℕ) (may : Bool) → may_join world one other ≡ may → WorldIsQuiet master world
      → WorldIsQuiet master (joins_if may world one other)
  unfolding joins_if
  join_quiet world one other true e quiet =
      let homes : List ℕ → Bool = homes_of world in
      let apart = join_apart world one other (may_join_broken world one other e) quiet.whole in
      record {
        nodes = quiet.nodes;
        links = sent_quiet homes (sent world.links one other Up) other one (not_back master homes one other apart)
            (sent_quiet homes world.links one other apart quiet.links);
        whole = mends_whole homes (mending world.broken one other) other one (mends_whole homes world.broken one other quiet.whole);
        calm = λ none. absurd (some_mend (mending world.broken one other) other one none);
      }
  join_quiet world one other false e quiet = quiet

  -- whatever happens

  takes_quiet : (world : World) (event : Event) → WorldIsQuiet master world → WorldIsQuiet master (takes world event)
  unfolding takes
  takes_quiet world (Open node conn) quiet = opens_quiet world node conn (client_at world conn) quiet
  takes_quiet world (Data conn bytes) quiet = data_quiet world conn bytes (client_at world conn) quiet
  takes_quiet world (Hang conn) quiet = hang_quiet world conn (client_at world conn) quiet
  takes_quiet world (Deliver from to) quiet = deliver_quiet world from to (on_link world.links from to) refl quiet
  takes_quiet world (Cut one other k l) quiet = cut_quiet world one other k l (may_cut world one other) refl quiet
  takes_quiet world (Join one other) quiet = join_quiet world one other (may_join world one other) refl quiet
  takes_quiet world event quiet = quiet

  -- each step keeps it
  pub step_quiet : (world : World) (event : Event) → WorldIsQuiet master world → WorldIsQuiet master (steps_by world event)
  step_quiet world event quiet = takes_quiet (stepped world) event (record { nodes = quiet.nodes; links = quiet.links; whole = quiet.whole; calm = quiet.calm })

  run_quiet : (world : World) (steps : List Event) → WorldIsQuiet master world → WorldIsQuiet master (run_steps world steps)
  unfolding run_steps
  run_quiet world [] quiet = quiet
  run_quiet world (event ∷ steps) quiet = run_quiet (steps_by world event) steps (step_quiet world event quiet)

-- ---- the start

record WorldIsFresh (master : List ℕ) (world : World) : Type 0 where
  nodes : OfEachNode (NodeIsFresh master) world
  links : AreAllOn Said world.links
  broken : world.broken ≡ []

module _ (config : Config) (are : AreNodes config.nodes) where
  abbrev master : List ℕ
  master = master_of config

  -- a node of another kind isn't the master
  not_master : (node : Node) → Contains config.nodes node → node.kind ≢ master_kind → node.name ≢ master
  not_master node among ne =
      apart_kinds config.nodes node.kind master_kind node.name master are.names (record { node = node; among = among; kind_is = refl; named = refl })
      (the_master config are) ne

  first_fresh : (node : Node) (kind : Kind) → Contains config.nodes node → node.kind ≡ kind → NodeIsFresh master node.name (first_state config node kind)
  unfolding first_state
  first_fresh node master_kind among k = tt
  first_fresh node Frontend among k = not_master node among (λ e. (let no : Frontend ≡ master_kind = sym k ∙ e in cc))
  first_fresh node backend_kind among k = record {
    apart = not_master node among (λ e. (let no : backend_kind ≡ master_kind = sym k ∙ e in cc));
    master_is = refl;
    empty = refl;
    idle = refl;
    lines = All-nil LooksForNone;
  }

  node_fresh : (world : World) (node : Node) → Contains config.nodes node → OfEachNode (NodeIsFresh master) world
      → OfEachNode (NodeIsFresh master) (with_node config world node)
  node_fresh world node among each other it there = ⊎_elim
      (λ (e : other ≡ node.name).
      (let same : first_state config node node.kind ≡ it = same_Some (first_state config node node.kind) it
      (sym (value_at-with_entry (slice_cmp nat_cmp) names_apart world.nodes node.name (first_state config node node.kind))
      ∙ subst (λ n. node_at (with_node config world node) n ≡ Some it) e there) in
      subst (λ n. NodeIsFresh master n it) (sym e) (subst (NodeIsFresh master node.name) same (first_fresh node node.kind among refl))))
      (λ (ne : other ≢ node.name).
      each other it (sym (value_at-with_entry-other (slice_cmp nat_cmp) names_apart world.nodes node.name other (first_state config node node.kind) ne) ∙ there))
      (same_or_other (slice_cmp nat_cmp) names_apart other node.name)

  nodes_fresh : (world : World) (nodes : List Node) → All (Contains config.nodes) nodes → WorldIsFresh master world
      → WorldIsFresh master (with_nodes config world nodes)
  unfolding with_nodes
  nodes_fresh world [] all fresh = fresh
  nodes_fresh world (node ∷ nodes) all fresh =
      nodes_fresh (with_node config world node) nodes (All-tail (Contains config.nodes) node nodes all) (record {
        nodes = node_fresh world node (All-head (Contains config.nodes) node nodes all) fresh.nodes;
        links = fresh.links;
        broken = fresh.broken;
      })

  ups_are_fresh : (world : World) (links : List Link) → WorldIsFresh master world → WorldIsFresh master (with_ups world links)
  unfolding with_ups
  ups_are_fresh world [] fresh = fresh
  ups_are_fresh world (link ∷ links) fresh = ups_are_fresh (told_up world link) links (record {
    nodes = comes_of_each (NodeIsFresh master) world link.to (From link.from Up) (node_at world link.to) refl fresh.nodes
        (λ it there. ups_fresh master link.to it link.from (fresh.nodes link.to it there));
    links = comes_links Said (λ from to message said. said) world link.to (From link.from Up) (node_at world link.to)
        (λ it there. ups_outs master link.to it link.from (fresh.nodes link.to it there)) fresh.links;
    broken = comes_broken world link.to (From link.from Up) (node_at world link.to) ∙ fresh.broken;
  })

  nothing_yet : WorldIsFresh master no_world
  unfolding on_link
  nothing_yet = record { nodes = λ node it there. cc; links = λ from to. tt; broken = refl }

  pub start_quiet : WorldIsQuiet master (start config)
  unfolding start
  start_quiet =
      let fresh = ups_are_fresh (with_nodes config no_world config.nodes) (links_of config.nodes)
      (nodes_fresh no_world config.nodes (All-contains_itself config.nodes) nothing_yet) in
      record {
        nodes = λ node it there. fresh_is_quiet master node it (fresh.nodes node it there);
        links = all_so Said (IsQuietOn master (homes_of (start config))) (start config).links (quiet_on master (homes_of (start config))) fresh.links;
        calm = λ _. fresh.links;
        whole = subst (AreWhole master (homes_of (start config))) (sym fresh.broken) (λ node home. (none_broken master node, none_broken node master));
      }

-- ---- a run

-- after whatever steps
pub never_moved : (config : Config) (steps : List Event) → AreNodes config.nodes → WorldIsQuiet (master_of config) (run_steps (start config) steps)
never_moved config steps are = run_quiet (master_of config) (start config) steps (start_quiet config are)

moved_is_loud : (master : List ℕ) (homes : List ℕ → Bool) (from to : List ℕ) (answer : BackAnswer) (server : List ℕ) → answer.body ≡ Moved server
    → IsQuietOn master homes from to (Answer answer) → ⊥
moved_is_loud master homes from to answer server moved is = subst (λ body. IsQuietOn master homes from to (Answer (record answer { body = body }))) moved is

-- the first message of a link is no answer that tells so
pub quiet_moves_none : (master : List ℕ) (world : World) (from to : List ℕ) (answer : BackAnswer) (rest : List LinkMsg) (server : List ℕ)
    → WorldIsQuiet master world → on_link world.links from to ≡ Answer answer ∷ rest → answer.body ≢ Moved server
quiet_moves_none master world from to answer rest server quiet first moved =
    moved_is_loud master (homes_of world) from to answer server moved (subst (AllByRecursion (IsQuietOn master (homes_of world) from to)) first (quiet.links from to)).0

pub none_moved : (config : Config) (steps : List Event) → AreNodes config.nodes → (from to : List ℕ) (answer : BackAnswer) (rest : List LinkMsg)
    (server : List ℕ) → on_link (run_steps (start config) steps).links from to ≡ Answer answer ∷ rest → answer.body ≢ Moved server
none_moved config steps are from to answer rest server first =
    quiet_moves_none (master_of config) (run_steps (start config) steps) from to answer rest server (never_moved config steps are) first
