-- What comes to a node makes of a world what it makes of it where nothing is lost, but for messages that were to go on broken links.
use Rattle.std.proofs.Common.{◌≡◌, ◌≢◌, ℕ, Bool, true, false, if◌then◌else◌, List, [], ◌∷◌, ◌++◌, Option, None, Some, refl, sym, ap, subst, ◌∙◌, nat_eq, append-nil}
use Rattle.std.proofs.Math.Logic.{⊎_elim}
use Rattle.std.specs.Cmp.Lexicographic.{pointwise, same_text, slice_cmp}
use Rattle.std.specs.Ordering.{nat_cmp}
use Rattle.cluster_core.specs.World.{acts, client_at, client_does, comes, comes_to, deliver_first, is_lost, node_at, not_lost, opens, taken_from_link, takes, with_acted, with_client, with_written}
use Rattle.cluster_core.specs.declared.world.Client.{Client}
use Rattle.cluster_core.specs.declared.world.World.{World}
use Rattle.feed_links.proofs.Parts.{IsCutShort, nothing_lost}
use Rattle.feed_links.specs.Lines.{message_to, messages_to}
use Rattle.link_msg.specs.declared.message.LinkMsg.{LinkMsg}
use Rattle.link_msg.specs.declared.out.Out.{Out}
use Rattle.link_msg.specs.declared.out.Out.TheVariants.{Client as to_client, Close, Link as to_node, Mark as mark, Told as tell}
use Rattle.link_queue.specs.Broken.{Broken, is_broken}
use Rattle.link_queue.specs.Links.{Links, on_link}
use Rattle.many_links.proofs.Carried.{puts_else, puts_own}
use Rattle.mur_base.proofs.MapLaws.{names_apart, same_or_other}
use Rattle.node_step.specs.NodeStep.{Acted, takes as node_takes}
use Rattle.node_step.specs.declared.input.NodeInput.{NodeInput}
use Rattle.node_step.specs.declared.input.NodeInput.TheVariants.{Opened, Piece, Hung, From}
use Rattle.node_step.specs.declared.node.NodeState.{NodeState}
use Rattle.schedule_text.specs.declared.event.Event.{Event}
use Rattle.schedule_text.specs.declared.event.Event.TheVariants.{Open, Data, Hang, Deliver, Cut, Join}
use Rattle.cluster_core.proofs.Links.Thinned.{IsThinned, same_thinned}
use Rattle.cluster_core.proofs.Nodes.AllCome.{all_come, all_come_to, all_first, all_of_client, all_open, all_takes}
use Rattle.cluster_core.proofs.Nodes.Carried.{IsCarried, all_carried, given_all, given_out, made, mark_made, marks_made}

-- ---- what is lost of the outputs of a node

kept_first : (kept lost : List LinkMsg) → IsCutShort kept (kept ++ lost)
kept_first kept lost = record {
  kept = kept;
  lost = lost;
  behind = [];
  whole_is = ap (λ l. kept ++ l) (sym (append-nil lost));
  part_is = sym (append-nil kept);
  ends = tt;
}

module _ (broken : Broken) (node : List ℕ) where
  -- an output that is no message goes out
  rest_given : (clients : List (ℕ × Client)) (outs : List Out) → given_all clients (not_lost broken node outs) ≡ given_all clients outs
  unfolding not_lost given_all given_out is_lost
  rest_given clients [] = refl
  rest_given clients (to_node other message ∷ outs) = by (rest_given clients outs) (is_broken broken node other)
    where
      by : given_all clients (not_lost broken node outs) ≡ given_all clients outs → (gone : Bool) → given_all clients (if gone then not_lost broken node outs else to_node other message ∷ not_lost broken node outs) ≡ given_all clients outs
      by rest true = rest
      by rest false = rest
  rest_given clients (to_client conn bytes ∷ outs) = rest_given (given_out clients (to_client conn bytes)) outs
  rest_given clients (Close conn ∷ outs) = rest_given clients outs
  rest_given clients (mark ask counts ∷ outs) = rest_given clients outs
  rest_given clients (tell ask how ∷ outs) = rest_given clients outs

  rest_marked : (step : ℕ) (outs : List Out) → marks_made step (not_lost broken node outs) ≡ marks_made step outs
  unfolding not_lost is_lost
  rest_marked step [] = refl
  rest_marked step (to_node other message ∷ outs) = by (rest_marked step outs) (is_broken broken node other)
    where
      by : marks_made step (not_lost broken node outs) ≡ marks_made step outs → (gone : Bool) → marks_made step (if gone then not_lost broken node outs else to_node other message ∷ not_lost broken node outs) ≡ marks_made step outs
      by rest true = rest
      by rest false = rest
  rest_marked step (to_client conn bytes ∷ outs) = rest_marked step outs
  rest_marked step (Close conn ∷ outs) = rest_marked step outs
  rest_marked step (mark ask counts ∷ outs) = ap (λ l. mark_made step (mark ask counts) ++ l) (rest_marked step outs)
  rest_marked step (tell ask how ∷ outs) = ap (λ l. mark_made step (tell ask how) ++ l) (rest_marked step outs)

  -- of the messages to another node
  module _ (other : List ℕ) where
    -- on a link that isn't broken
    not_there : (whole : is_broken broken node other ≡ false) (out : Out) → is_lost broken node out ≡ true → message_to other out ≡ []
    unfolding is_lost
    not_there whole (to_node to message) lost = by (pointwise nat_eq to other) refl
      where
        by : (same : Bool) → pointwise nat_eq to other ≡ same → (if same then message ∷ [] else []) ≡ []
        by true e = absurd (let no : true ≡ false = sym lost ∙ ap (is_broken broken node) (same_text to other (sym e)) ∙ whole in cc)
        by false e = refl
    not_there whole (to_client conn bytes) lost = cc
    not_there whole (Close conn) lost = cc
    not_there whole (mark ask counts) lost = cc
    not_there whole (tell ask how) lost = cc

    pub all_sent : is_broken broken node other ≡ false → (outs : List Out) → messages_to other (not_lost broken node outs) ≡ messages_to other outs
    unfolding not_lost
    all_sent whole [] = refl
    all_sent whole (out ∷ outs) = by (all_sent whole outs) (is_lost broken node out) refl
      where
        by : messages_to other (not_lost broken node outs) ≡ messages_to other outs → (gone : Bool) → is_lost broken node out ≡ gone
            → messages_to other (if gone then not_lost broken node outs else out ∷ not_lost broken node outs) ≡ messages_to other (out ∷ outs)
        by rest true e = rest ∙ ap (λ l. l ++ messages_to other outs) (sym (not_there whole out e))
        by rest false e = ap (λ l. message_to other out ++ l) rest

    -- on one that is broken
    is_there : (cut : is_broken broken node other ≡ true) (out : Out) → is_lost broken node out ≡ false → message_to other out ≡ []
    unfolding is_lost
    is_there cut (to_node to message) kept = by (pointwise nat_eq to other) refl
      where
        by : (same : Bool) → pointwise nat_eq to other ≡ same → (if same then message ∷ [] else []) ≡ []
        by true e = absurd (let no : false ≡ true = sym kept ∙ ap (is_broken broken node) (same_text to other (sym e)) ∙ cut in cc)
        by false e = refl
    is_there cut (to_client conn bytes) kept = refl
    is_there cut (Close conn) kept = refl
    is_there cut (mark ask counts) kept = refl
    is_there cut (tell ask how) kept = refl

    pub none_sent : is_broken broken node other ≡ true → (outs : List Out) → messages_to other (not_lost broken node outs) ≡ []
    unfolding not_lost
    none_sent cut [] = refl
    none_sent cut (out ∷ outs) = by (none_sent cut outs) (is_lost broken node out) refl
      where
        by : messages_to other (not_lost broken node outs) ≡ [] → (gone : Bool) → is_lost broken node out ≡ gone → messages_to other (if gone then not_lost broken node outs else out ∷ not_lost broken node outs) ≡ []
        by rest true e = rest
        by rest false e = ap (λ l. l ++ messages_to other (not_lost broken node outs)) (is_there cut out e) ∙ rest

-- ---- the step of a node

module _ (world : World) (node : List ℕ) (acted : Acted) where
  abbrev put : World
  put = with_acted world node acted

  abbrev outs : List Out
  outs = not_lost world.broken node acted.outs

  full : IsCarried node put acted.outs (made (with_written world node acted.entry) node acted.state acted.outs)
  full = all_carried node put acted.outs

  real : IsCarried node put outs (acts world node acted)
  real = all_carried node put outs

  full_own : (other : List ℕ)
      → on_link (made (with_written world node acted.entry) node acted.state acted.outs).links node other ≡ on_link world.links node other ++ messages_to other acted.outs
  full_own other = ap (λ (l : Links LinkMsg). on_link l node other) full.links ∙ puts_own node world.links acted.outs other

  real_own : (other : List ℕ) → on_link (acts world node acted).links node other ≡ on_link world.links node other ++ messages_to other outs
  real_own other = ap (λ (l : Links LinkMsg). on_link l node other) real.links ∙ puts_own node world.links outs other

  full_else : (a b : List ℕ) → a ≢ node → on_link (made (with_written world node acted.entry) node acted.state acted.outs).links a b ≡ on_link world.links a b
  full_else a b ne = ap (λ (l : Links LinkMsg). on_link l a b) full.links ∙ puts_else node world.links acted.outs a b ne

  real_else : (a b : List ℕ) → a ≢ node → on_link (acts world node acted).links a b ≡ on_link world.links a b
  real_else a b ne = ap (λ (l : Links LinkMsg). on_link l a b) real.links ∙ puts_else node world.links outs a b ne

  abbrev all : World
  all = made (with_written world node acted.entry) node acted.state acted.outs

  -- on a broken link from the node nothing more is
  pub acts_cut : (b : List ℕ) → is_broken world.broken node b ≡ true → on_link (acts world node acted).links node b ≡ on_link world.links node b
  acts_cut b cut =
      real_own b ∙ ap (λ (l : List LinkMsg). on_link world.links node b ++ l) (none_sent world.broken node b cut acted.outs) ∙ append-nil (on_link world.links node b)

  own_whole : (b : List ℕ) → is_broken world.broken node b ≡ false → on_link (acts world node acted).links node b ≡ on_link all.links node b
  own_whole b whole =
      real_own b ∙ ap (λ (l : List LinkMsg). on_link world.links node b ++ l) (all_sent world.broken node b whole acted.outs) ∙ sym (full_own b)

  whole_at : (a b : List ℕ) → is_broken world.broken a b ≡ false → on_link (acts world node acted).links a b ≡ on_link all.links a b
  whole_at a b = ⊎_elim
      (λ (e : a ≡ node). subst (λ x. is_broken world.broken x b ≡ false → on_link (acts world node acted).links x b ≡ on_link all.links x b) (sym e) (own_whole b))
      (λ (ne : a ≢ node). (λ whole. real_else a b ne ∙ sym (full_else a b ne)))
      (same_or_other (slice_cmp nat_cmp) names_apart a node)

  own_short : (b : List ℕ) (cut : Bool) → is_broken world.broken node b ≡ cut → IsCutShort (on_link (acts world node acted).links node b) (on_link all.links node b)
  own_short b true e =
      subst (λ l. IsCutShort l (on_link all.links node b)) (sym (acts_cut b e))
      (subst (IsCutShort (on_link world.links node b)) (sym (full_own b)) (kept_first (on_link world.links node b) (messages_to b acted.outs)))
  own_short b false e = subst (λ l. IsCutShort l (on_link all.links node b)) (sym (own_whole b e)) (nothing_lost (on_link all.links node b))

  short_at : (a b : List ℕ) → IsCutShort (on_link (acts world node acted).links a b) (on_link all.links a b)
  short_at a b = ⊎_elim
      (λ (e : a ≡ node). subst (λ x. IsCutShort (on_link (acts world node acted).links x b) (on_link all.links x b)) (sym e) (own_short b (is_broken world.broken node b) refl))
      (λ (ne : a ≢ node). subst (λ l. IsCutShort l (on_link all.links a b)) (full_else a b ne ∙ sym (real_else a b ne)) (nothing_lost (on_link all.links a b)))
      (same_or_other (slice_cmp nat_cmp) names_apart a node)

  pub acts_thinned : IsThinned all (acts world node acted)
  acts_thinned = record {
    nodes = real.nodes ∙ sym full.nodes;
    disks = real.disks ∙ sym full.disks;
    clients = real.clients ∙ rest_given world.broken node put.clients acted.outs ∙ sym full.clients;
    broken = real.broken ∙ sym full.broken;
    marks = real.marks ∙ ap (λ m. put.marks ++ m) (rest_marked world.broken node put.steps acted.outs) ∙ sym full.marks;
    steps = real.steps ∙ sym full.steps;
    short = short_at;
    whole = λ a b e. whole_at a b (ap (λ (broken : Broken). is_broken broken a b) (sym full.broken) ∙ e);
  }

  -- so much more is on its links where nothing is lost
  pub own_sent : (b : List ℕ) → on_link all.links node b ≡ on_link world.links node b ++ messages_to b acted.outs
  own_sent b = full_own b

  pub else_same : (a b : List ℕ) → a ≢ node → on_link (acts world node acted).links a b ≡ on_link all.links a b
  else_same a b ne = real_else a b ne ∙ sym (full_else a b ne)

-- ---- what comes to a node, and what an event brings it

thinned_by : (world : World) (node : List ℕ) (input : NodeInput) (found : Option NodeState) → IsThinned (all_come_to world node input found) (comes_to world node input found)
unfolding all_come_to comes_to
thinned_by world node input None = same_thinned world
thinned_by world node input (Some it) = acts_thinned world node (node_takes it input)

pub comes_thinned : (world : World) (node : List ℕ) (input : NodeInput) → IsThinned (all_come world node input) (comes world node input)
comes_thinned world node input = thinned_by world node input (node_at world node)

-- of the links of other nodes
else_by : (world : World) (node : List ℕ) (input : NodeInput) (found : Option NodeState) (a b : List ℕ) → a ≢ node
    → on_link (comes_to world node input found).links a b ≡ on_link (all_come_to world node input found).links a b
unfolding all_come_to comes_to
else_by world node input None a b ne = refl
else_by world node input (Some it) a b ne = else_same world node (node_takes it input) a b ne

pub comes_else : (world : World) (node : List ℕ) (input : NodeInput) (a b : List ℕ) → a ≢ node
    → on_link (comes world node input).links a b ≡ on_link (all_come world node input).links a b
comes_else world node input a b ne = else_by world node input (node_at world node) a b ne

-- of a broken link of its own
pub record CutOwn (world : World) (node b : List ℕ) (input : NodeInput) (it : NodeState) : Type 0 where
  pub left : on_link (comes world node input).links node b ≡ on_link world.links node b
  pub sent : on_link (all_come world node input).links node b ≡ on_link world.links node b ++ messages_to b (node_takes it input).outs

pub cut_own : (world : World) (node b : List ℕ) (input : NodeInput) (it : NodeState) → node_at world node ≡ Some it → is_broken world.broken node b ≡ true
    → CutOwn world node b input it
unfolding all_come_to comes_to
cut_own world node b input it there cut = record {
  left = ap (λ found. on_link (comes_to world node input found).links node b) there ∙ acts_cut world node (node_takes it input) b cut;
  sent = ap (λ found. on_link (all_come_to world node input found).links node b) there ∙ own_sent world node (node_takes it input) b;
}

opens_thinned : (world : World) (node : List ℕ) (conn : ℕ) (found : Option Client) → IsThinned (all_open world node conn found) (opens world node conn found)
unfolding all_open opens
opens_thinned world node conn None = comes_thinned (with_client world node conn) node (Opened conn)
opens_thinned world node conn (Some there) = same_thinned world

does_thinned : (world : World) (input : NodeInput) (found : Option Client) → IsThinned (all_of_client world input found) (client_does world input found)
unfolding all_of_client client_does
does_thinned world input None = same_thinned world
does_thinned world input (Some client) = comes_thinned world client.at input

first_thinned : (world : World) (from to : List ℕ) (found : List LinkMsg) → IsThinned (all_first world from to found) (deliver_first world from to found)
unfolding all_first deliver_first
first_thinned world from to [] = same_thinned world
first_thinned world from to (message ∷ rest) = comes_thinned (taken_from_link world from to) to (From from message)

-- no link breaks or comes up
abbrev pub IsNoCut : Event → Type 0
IsNoCut (Cut one other kept kept_back) = ⊥
IsNoCut (Join one other) = ⊥
IsNoCut event = Unit {0}

pub takes_thinned : (world : World) (event : Event) → IsNoCut event → IsThinned (all_takes world event) (takes world event)
unfolding all_takes takes
takes_thinned world (Open node conn) is = opens_thinned world node conn (client_at world conn)
takes_thinned world (Data conn bytes) is = does_thinned world (Piece conn bytes) (client_at world conn)
takes_thinned world (Hang conn) is = does_thinned world (Hung conn) (client_at world conn)
takes_thinned world (Deliver from to) is = first_thinned world from to (on_link world.links from to)
takes_thinned world (Cut one other kept kept_back) is = absurd is
takes_thinned world (Join one other) is = absurd is
takes_thinned world event is = same_thinned world
