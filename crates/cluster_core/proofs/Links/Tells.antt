-- Which nodes' links may break, by what each is. It stays that whatever comes to a node.
use Rattle.std.proofs.Common.{◌≡◌, ◌≢◌, ◌&&◌, ℕ, Bool, true, false, not, List, Option, None, Some, refl, sym, ◌∙◌, ap}
use Rattle.std.proofs.Math.Logic.{⊎_elim}
use Rattle.std.specs.Cmp.Lexicographic.{slice_cmp}
use Rattle.std.specs.Ordering.{is_eq, nat_cmp}
use Rattle.cluster_core.specs.World.{are_parted, comes, may_cut, may_part, node_at}
use Rattle.cluster_core.specs.declared.world.World.{World}
use Rattle.link_queue.specs.Broken.{is_broken}
use Rattle.mur_base.proofs.MapLaws.{names_apart, same_or_other}
use Rattle.mur_base.specs.Map.{value_at}
use Rattle.mur_config.specs.declared.node.Kind.{Kind}
use Rattle.mur_config.specs.declared.node.Kind.TheVariants.{Master as master_kind, Frontend, Backend}
use Rattle.node_step.specs.NodeStep.{back_takes, front_takes, master_takes, takes as node_takes}
use Rattle.node_step.specs.declared.input.NodeInput.{NodeInput}
use Rattle.node_step.specs.declared.input.NodeInput.TheVariants.{Opened, Piece, Hung, From}
use Rattle.node_step.specs.declared.node.NodeState.{NodeState}
use Rattle.node_step.specs.declared.node.NodeState.TheVariants as state
use Rattle.cluster_core.proofs.Nodes.AllCome.{all_come, all_come_by, none_all_come}
use Rattle.cluster_core.proofs.Nodes.Carried.{made}
use Rattle.cluster_core.proofs.Nodes.Comes.{made_here, made_other, wrote}
use Rattle.cluster_core.proofs.Nodes.Thins.{comes_thinned}

-- a link between these may break
abbrev pub ArePartedAt : World → List ℕ → List ℕ → Type 0
ArePartedAt world from to = may_part (node_at world from) (node_at world to) ≡ true

-- ---- what a node is

abbrev pub kind_of : Option NodeState → Option Kind
kind_of None = None
kind_of (Some (state.Front front)) = Some Frontend
kind_of (Some (state.Back home)) = Some Backend
kind_of (Some (state.Master master)) = Some master_kind

are_kinds : Option Kind → Option Kind → Bool
are_kinds (Some Frontend) (Some Backend) = true
are_kinds (Some Backend) (Some Frontend) = true
are_kinds (Some Frontend) (Some master_kind) = true
are_kinds (Some master_kind) (Some Frontend) = true
are_kinds (Some Backend) (Some Backend) = true
are_kinds one other = false

part_by : (one other : Option NodeState) → may_part one other ≡ are_kinds (kind_of one) (kind_of other)
unfolding may_part are_parted are_kinds
part_by None other = refl
part_by (Some (state.Front front)) None = refl
part_by (Some (state.Back home)) None = refl
part_by (Some (state.Master master)) None = refl
part_by (Some (state.Front front)) (Some (state.Front also)) = refl
part_by (Some (state.Front front)) (Some (state.Back also)) = refl
part_by (Some (state.Front front)) (Some (state.Master also)) = refl
part_by (Some (state.Back home)) (Some (state.Front also)) = refl
part_by (Some (state.Back home)) (Some (state.Back also)) = refl
part_by (Some (state.Back home)) (Some (state.Master also)) = refl
part_by (Some (state.Master master)) (Some (state.Front also)) = refl
part_by (Some (state.Master master)) (Some (state.Back also)) = refl
part_by (Some (state.Master master)) (Some (state.Master also)) = refl

swapped : (one other : Option Kind) → are_kinds one other ≡ true → are_kinds other one ≡ true
unfolding are_kinds
swapped (Some Frontend) (Some Backend) e = refl
swapped (Some Backend) (Some Frontend) e = refl
swapped (Some Backend) (Some Backend) e = refl
swapped (Some Frontend) (Some Frontend) e = cc
swapped (Some Frontend) (Some master_kind) e = refl
swapped (Some master_kind) (Some Frontend) e = refl
swapped (Some Backend) (Some master_kind) e = cc
swapped (Some master_kind) (Some Backend) e = cc
swapped (Some master_kind) (Some master_kind) e = cc
swapped (Some Frontend) None e = cc
swapped (Some Backend) None e = cc
swapped (Some master_kind) None e = cc
swapped None other e = cc

-- in either direction
pub parted_back : (world : World) (one other : List ℕ) → ArePartedAt world one other → ArePartedAt world other one
parted_back world one other parted =
    part_by (node_at world other) (node_at world one)
    ∙ swapped (kind_of (node_at world one)) (kind_of (node_at world other)) (sym (part_by (node_at world one) (node_at world other)) ∙ parted)

-- where the nodes are of the kinds that they were
pub parted_still : (world next : World) → ((any : List ℕ) → kind_of (node_at next any) ≡ kind_of (node_at world any)) → (one other : List ℕ)
    → ArePartedAt world one other → ArePartedAt next one other
parted_still world next same one other parted =
    part_by (node_at next one) (node_at next other)
    ∙ ap (λ k. are_kinds k (kind_of (node_at next other))) (same one) ∙ ap (are_kinds (kind_of (node_at world one))) (same other)
    ∙ sym (part_by (node_at world one) (node_at world other)) ∙ parted

-- it is there
pub one_there : (world : World) (one other : List ℕ) → ArePartedAt world one other → node_at world one ≢ None
unfolding may_part
one_there world one other parted none =
    (let no : false ≡ true = sym (ap (λ n. may_part n (node_at world other)) none) ∙ parted in cc)

-- ---- whatever comes to a node

kept_kind : (it : NodeState) (input : NodeInput) → kind_of (Some (node_takes it input).state) ≡ kind_of (Some it)
unfolding node_takes front_takes back_takes master_takes
kept_kind (state.Front front) (Opened conn) = refl
kept_kind (state.Front front) (Piece conn bytes) = refl
kept_kind (state.Front front) (Hung conn) = refl
kept_kind (state.Front front) (From name message) = refl
kept_kind (state.Back home) (Opened conn) = refl
kept_kind (state.Back home) (Piece conn bytes) = refl
kept_kind (state.Back home) (Hung conn) = refl
kept_kind (state.Back home) (From name message) = refl
kept_kind (state.Master master) (Opened conn) = refl
kept_kind (state.Master master) (Piece conn bytes) = refl
kept_kind (state.Master master) (Hung conn) = refl
kept_kind (state.Master master) (From name message) = refl

kinds_by : (world : World) (node : List ℕ) (input : NodeInput) (found : Option NodeState) → node_at world node ≡ found → (any : List ℕ)
    → kind_of (node_at (all_come world node input) any) ≡ kind_of (node_at world any)
kinds_by world node input None there any = ap (λ (w : World). kind_of (node_at w any)) (none_all_come world node input there)
kinds_by world node input (Some it) there any =
    ap (λ (w : World). kind_of (node_at w any)) (all_come_by world node input it there)
    ∙ ⊎_elim
    (λ (e : any ≡ node).
    ap (λ n. kind_of (node_at (made (wrote world node it input) node (node_takes it input).state (node_takes it input).outs) n)) e ∙ ap kind_of (made_here (wrote world node it input) node (node_takes it input).state (node_takes it input).outs it there)
    ∙ kept_kind it input ∙ ap kind_of (sym there) ∙ ap (λ n. kind_of (node_at world n)) (sym e))
    (λ (ne : any ≢ node). ap kind_of (made_other (wrote world node it input) node (node_takes it input).state (node_takes it input).outs any ne))
    (same_or_other (slice_cmp nat_cmp) names_apart any node)

pub comes_kinds : (world : World) (node : List ℕ) (input : NodeInput) (any : List ℕ) → kind_of (node_at (comes world node input) any) ≡ kind_of (node_at world any)
comes_kinds world node input any =
    ap (λ n. kind_of (value_at (slice_cmp nat_cmp) n any)) (comes_thinned world node input).nodes ∙ kinds_by world node input (node_at world node) refl any

-- ---- which links may be cut

pub cut_parted : (world : World) (one other : List ℕ) → may_cut world one other ≡ true → ArePartedAt world one other × (one ≢ other)
unfolding may_cut
cut_parted world one other may = by (may_part (node_at world one) (node_at world other)) (is_eq (slice_cmp nat_cmp one other)) refl (not (is_broken world.broken one other)) may
  where
    apart : is_eq (slice_cmp nat_cmp one other) ≡ false → one ≢ other
    apart e same = (let no : false ≡ true = sym e ∙ ap (λ n. is_eq (slice_cmp nat_cmp one n)) (sym same) ∙ names_apart.itself one in cc)

    by : (part same : Bool) → is_eq (slice_cmp nat_cmp one other) ≡ same → (more : Bool) → (part && not same && more) ≡ true → (part ≡ true) × (one ≢ other)
    by true false e more k = (refl, apart e)
    by true true e more k = cc
    by false same e more k = cc
