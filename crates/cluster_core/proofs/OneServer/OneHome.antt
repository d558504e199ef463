-- Each name has at most one writable home among the rows that are shown: each name is listed once, and of the backends just one has it open.
use Rattle.std.proofs.Common.{◌≡◌, ◌≢◌, ℕ, suc, ◌+◌, ◌≤◌, ◌&&◌, Bool, true, false, cond, List, [], ◌∷◌, ◌++◌, Option, None, Some, refl, sym, ◌∙◌, ap, subst, arith}
use Rattle.std.specs.Prelude.{All, AllPairs, count_by}
use Rattle.std.specs.Ordering.{nat_cmp}
use Rattle.std.specs.Cmp.Lexicographic.{slice_cmp}
use Rattle.std.specs.Str.{bytes_eq}
use Rattle.std.proofs.lemmas.List.Elements.{All-head, All-tail}
use Rattle.std.proofs.lemmas.List.Kept.{AllPairs-cons}
use Rattle.std.proofs.lemmas.List.Sums.{sum_by-append}
use Rattle.backend_core.specs.HomeLaws.{is_open}
use Rattle.mur_base.specs.Map.{value_at}
use Rattle.mur_base.specs.declared.home.Phase.{Phase}
use Rattle.mur_base.specs.declared.home.Phase.TheVariants.{Creating, Open as open_here, Closing, Receiving, Ready, Pointer}
use Rattle.mur_config.specs.declared.config.Config.{Config}
use Rattle.mur_config.specs.declared.node.Kind.{Kind}
use Rattle.mur_config.specs.declared.node.Kind.TheVariants.{Master, Frontend, Backend as backend_kind}
use Rattle.mur_config.specs.declared.node.Node.{Node}
use Rattle.mur_config.specs.Nodes.{AreNodes}
use Rattle.mur_config.proofs.NodesApart.{head_apart, tail_apart}
use Rattle.node_record.specs.declared.held.Held.{Held}
use Rattle.imap_talk.specs.Heard.{Heard}
use Rattle.cluster_core.specs.declared.cluster.HomeRow.{HomeRow}
use Rattle.cluster_core.specs.Headline.HomeLaw.{is_writable_home, HasOneHomeEach}
use Rattle.cluster_core.specs.World.{backends_of, layout_of, or_backend}
use Rattle.cluster_core.specs.declared.world.World.{World}
use Rattle.cluster_core.specs.Headline.OpenAt.{IsOpenAt, OpensAtOneNode}
use Rattle.cluster_core.specs.Shown.{held_at_node, home_row, home_rows, home_rows_of, names_at, row_if, rows_of_all}
use Rattle.cluster_core.proofs.Starts.Kinds.{all_named}
use Rattle.cluster_core.proofs.Connections.KeepsLaw.{KeepsLaw}
use Rattle.cluster_core.proofs.OneServer.NamesHeld.{is_name, names_cons, names_rise, nothing_rises, once_among, same_bytes}
use Rattle.cluster_core.proofs.OneServer.OpenLaw.{open_at_one}

-- ---- the backends of a configuration are each listed once

abbrev pub AreApart : List (List ℕ) → Type 0
AreApart names = AllPairs (λ (one other : List ℕ). one ≢ other) names

apart_by : (node : Node) (kind : Kind) (names : List (List ℕ)) → All (λ n. node.name ≢ n) names → AreApart names
    → AreApart (or_backend kind node.name names)
unfolding or_backend
apart_by node Master names its all = all
apart_by node Frontend names its all = all
apart_by node backend_kind names its all = AllPairs-cons (λ (one other : List ℕ). one ≢ other) node.name names its all

pub backends_apart : (nodes : List Node) → AllPairs (λ (one other : Node). one.name ≢ other.name) nodes → AreApart (backends_of nodes)
unfolding backends_of
backends_apart [] pairs = λ i j d h k. absurd (omega arith)
backends_apart (node ∷ nodes) pairs =
    apart_by node node.kind (backends_of nodes) (all_named (λ n. node.name ≢ n) nodes (head_apart node nodes pairs))
    (backends_apart nodes (tail_apart node nodes pairs))

-- ---- the writable homes of a name among rows

rows_both : (p : HomeRow → Bool) (xs ys : List HomeRow) → count_by p (xs ++ ys) ≡ count_by p xs + count_by p ys
rows_both p xs ys = sum_by-append (λ y. cond (p y) 1 0) xs ys

open_phase : (phase : Phase) → is_open phase ≡ true → phase ≡ open_here
unfolding is_open
open_phase open_here e = refl
open_phase Creating e = cc
open_phase Closing e = cc
open_phase Receiving e = cc
open_phase Ready e = cc
open_phase (Pointer server) e = cc

one_only : (p : HomeRow → Bool) (row : HomeRow) → count_by p (row ∷ []) ≡ cond (p row) 1 0
one_only p row = omega arith

not_counted : (b : Bool) → b ≡ false → ◌≡◌ {A = ℕ} (cond b 1 0) 0
not_counted b e = ap {B = ℕ} (λ c. cond c 1 0) e

counted_once : (b : Bool) → cond b 1 0 ≤ 1
counted_once true = omega arith
counted_once false = omega arith

-- another name has no home of this one
not_named : (writable named : Bool) → named ≡ false → (writable && named) ≡ false
not_named true named h = h
not_named false named h = refl

other_row : (name other node : List ℕ) (found : Option Held) → bytes_eq other name ≡ false → count_by (is_writable_home name) (row_if other node found) ≡ 0
other_row name other node None h = refl
other_row name other node (Some held) h =
    one_only (is_writable_home name) (home_row other node held) ∙ not_counted _ (not_named (is_open held.phase) (bytes_eq other name) h)

other_rows : (world : World) (name other : List ℕ) (nodes : List (List ℕ)) → bytes_eq other name ≡ false
    → count_by (is_writable_home name) (home_rows_of world other nodes) ≡ 0
unfolding home_rows_of
other_rows world name other [] h = refl
other_rows world name other (node ∷ nodes) h =
    let found = value_at (slice_cmp nat_cmp) (held_at_node world node) other in
    omega (
      arith,
      rows_both (is_writable_home name) (row_if other node found) (home_rows_of world other nodes),
      other_row name other node found h,
      other_rows world name other nodes h,
    )

-- a row of the name is of a node that has it open, or is no writable home
unless_open : (writable named : Bool) → (writable ≡ true → ⊥) → (writable && named) ≡ false
unless_open true named shut = absurd (shut refl)
unless_open false named shut = refl

row_by : (world : World) (name node : List ℕ) (found : Option Held) → value_at (slice_cmp nat_cmp) (held_at_node world node) name ≡ found
    → (IsOpenAt world name node → ⊥) → count_by (is_writable_home name) (row_if name node found) ≡ 0
row_by world name node None at closed = refl
row_by world name node (Some held) at closed =
    one_only (is_writable_home name) (home_row name node held)
    ∙ not_counted _ (unless_open (is_open held.phase) (bytes_eq name name)
    (λ e. closed (record { held = held; at = at; is_open = open_phase held.phase e })))

one_row : (name node : List ℕ) (found : Option Held) → count_by (is_writable_home name) (row_if name node found) ≤ 1
one_row name node None = omega arith
one_row name node (Some held) =
    omega (arith, one_only (is_writable_home name) (home_row name node held), counted_once (is_writable_home name (home_row name node held)))

-- where no node has it open
none_open : (world : World) (name : List ℕ) (nodes : List (List ℕ)) → All (λ n. IsOpenAt world name n → ⊥) nodes
    → count_by (is_writable_home name) (home_rows_of world name nodes) ≡ 0
unfolding home_rows_of
none_open world name [] all = refl
none_open world name (node ∷ nodes) all =
    let found = value_at (slice_cmp nat_cmp) (held_at_node world node) name in
    omega (
      arith,
      rows_both (is_writable_home name) (row_if name node found) (home_rows_of world name nodes),
      row_by world name node found refl (All-head (λ n. IsOpenAt world name n → ⊥) node nodes all),
      none_open world name nodes (All-tail (λ n. IsOpenAt world name n → ⊥) node nodes all),
    )

-- a node has it open, or not
data OpenOrNot (world : World) (name node : List ℕ) : Type 0 where
  is_open_at : IsOpenAt world name node → OpenOrNot world name node
  is_closed_at : (IsOpenAt world name node → ⊥) → OpenOrNot world name node

closed_phase : (held : Held) → is_open held.phase ≡ false → held.phase ≡ open_here → ⊥
unfolding is_open
closed_phase held shut e = (let both : true ≡ false = ap is_open (sym e) ∙ shut in cc)

open_by : (world : World) (name node : List ℕ) (held : Held) → value_at (slice_cmp nat_cmp) (held_at_node world node) name ≡ Some held
    → (b : Bool) → is_open held.phase ≡ b → OpenOrNot world name node
open_by world name node held at true e = is_open_at (record { held = held; at = at; is_open = open_phase held.phase e })
open_by world name node held at false e = is_closed_at (λ is.
    let both : Some held ≡ Some is.held = sym at ∙ is.at in
    let same : held ≡ is.held = cc in closed_phase held e (ap (λ (h : Held). h.phase) same ∙ is.is_open))

open_or_not : (world : World) (name node : List ℕ) (found : Option Held) → value_at (slice_cmp nat_cmp) (held_at_node world node) name ≡ found
    → OpenOrNot world name node
open_or_not world name node None at = is_closed_at (λ is. (let both : None ≡ Some is.held = sym at ∙ is.at in cc))
open_or_not world name node (Some held) at = open_by world name node held at (is_open held.phase) refl

one_by : (world : World) (name : List ℕ) → OpensAtOneNode world → (node : List ℕ) (nodes : List (List ℕ)) → AreApart (node ∷ nodes)
    → (found : Option Held) → value_at (slice_cmp nat_cmp) (held_at_node world node) name ≡ found → OpenOrNot world name node
    → count_by (is_writable_home name) (home_rows_of world name nodes) ≤ 1
    → count_by (is_writable_home name) (row_if name node found ++ home_rows_of world name nodes) ≤ 1
one_by world name opens node nodes apart found at (is_open_at is) later = omega (
  arith,
  rows_both (is_writable_home name) (row_if name node found) (home_rows_of world name nodes),
  one_row name node found,
  none_open world name nodes (λ k d h. λ other. apart 0 (suc k) d (omega arith) (omega (arith, h)) (opens name node _ is other)),
)
one_by world name opens node nodes apart found at (is_closed_at shut) later = omega (
  arith,
  rows_both (is_writable_home name) (row_if name node found) (home_rows_of world name nodes),
  row_by world name node found at shut,
  later,
)

one_open : (world : World) (name : List ℕ) → OpensAtOneNode world → (nodes : List (List ℕ)) → AreApart nodes
    → count_by (is_writable_home name) (home_rows_of world name nodes) ≤ 1
unfolding home_rows_of
one_open world name opens [] apart = omega arith
one_open world name opens (node ∷ nodes) apart =
    let found = value_at (slice_cmp nat_cmp) (held_at_node world node) name in
    one_by world name opens node nodes apart found refl (open_or_not world name node found refl)
    (one_open world name opens nodes (λ i j d h k. apart (suc i) (suc j) d (omega (arith, h)) (omega (arith, k))))

-- ---- of all names

module _ (config : Config) (world : World) (name : List ℕ) (few : count_by (is_writable_home name) (home_rows_of world name (backends_of config.nodes)) ≤ 1)
  where
    abbrev homes_among : List (List ℕ) → ℕ
    homes_among names = count_by (is_writable_home name) (rows_of_all (layout_of config) world names)

    homes_first : (other : List ℕ) (names : List (List ℕ))
        → homes_among (other ∷ names) ≡ count_by (is_writable_home name) (home_rows_of world other (backends_of config.nodes)) + homes_among names
    unfolding rows_of_all
    homes_first other names =
        rows_both (is_writable_home name) (home_rows_of world other (backends_of config.nodes)) (rows_of_all (layout_of config) world names)

    none_by : (other : List ℕ) (names : List (List ℕ)) (b : Bool) → bytes_eq other name ≡ b → count_by (is_name name) (other ∷ names) ≡ 0
        → (count_by (is_name name) names ≡ 0 → homes_among names ≡ 0) → homes_among (other ∷ names) ≡ 0
    none_by other names true h none later = absurd (omega (arith, none, names_cons (is_name name) other names, ap {B = ℕ} (λ b. cond b 1 0) h))
    none_by other names false h none later = omega (
      arith,
      homes_first other names,
      other_rows world name other (backends_of config.nodes) h,
      later (omega (arith, none, names_cons (is_name name) other names)),
    )

    none_among : (names : List (List ℕ)) → count_by (is_name name) names ≡ 0 → homes_among names ≡ 0
    unfolding rows_of_all
    none_among [] none = refl
    none_among (other ∷ names) none = none_by other names (bytes_eq other name) refl none (none_among names)

    few_by : (other : List ℕ) (names : List (List ℕ)) (b : Bool) → bytes_eq other name ≡ b → count_by (is_name name) (other ∷ names) ≤ 1
        → (count_by (is_name name) names ≤ 1 → homes_among names ≤ 1) → homes_among (other ∷ names) ≤ 1
    few_by other names true h one later = omega (
      arith,
      homes_first other names,
      subst (λ n. count_by (is_writable_home name) (home_rows_of world n (backends_of config.nodes)) ≤ 1) (sym (same_bytes other name h)) few,
      none_among names (omega (arith, one, names_cons (is_name name) other names, ap {B = ℕ} (λ b. cond b 1 0) h)),
    )
    few_by other names false h one later = omega (
      arith,
      homes_first other names,
      other_rows world name other (backends_of config.nodes) h,
      later (omega (arith, one, names_cons (is_name name) other names)),
    )

    few_among : (names : List (List ℕ)) → count_by (is_name name) names ≤ 1 → homes_among names ≤ 1
    unfolding rows_of_all
    few_among [] one = omega arith
    few_among (other ∷ names) one = few_by other names (bytes_eq other name) refl one (few_among names)

-- where no two nodes have one name open
pub has_one_home : (config : Config) (world : World) → AreNodes config.nodes → OpensAtOneNode world → HasOneHomeEach (layout_of config) world
unfolding home_rows
has_one_home config world are opens = λ name.
    few_among config world name (one_open world name opens (backends_of config.nodes) (backends_apart config.nodes are.names))
    (names_at world [] (backends_of config.nodes))
    (once_among name (names_at world [] (backends_of config.nodes)) (names_rise world (backends_of config.nodes) [] nothing_rises))

-- the home law, by the law of a world
pub one_home_each : (config : Config) (heard : ℕ → Heard) (world : World) → AreNodes config.nodes → KeepsLaw config heard world
    → HasOneHomeEach (layout_of config) world × OpensAtOneNode world
one_home_each config heard world are law =
    let opens = open_at_one config heard world law in (has_one_home config world are opens, opens)
