-- The names that some node has are listed, each once.
use Rattle.std.proofs.Common.{◌≡◌, ℕ, zero, suc, ◌+◌, ◌≤◌, ◌<◌, Bool, true, false, cond, nat_eq, List, [], ◌∷◌, length, get_or, Some, refl, sym, ◌∙◌, ap, subst, arith}
use Rattle.std.specs.Prelude.{All, Contains, count_by}
use Rattle.std.specs.List.{fold}
use Rattle.std.specs.List.Sorted.{IsStrictlySortedBy}
use Rattle.std.specs.Map.{keys_of}
use Rattle.std.specs.Str.{bytes_eq}
use Rattle.std.specs.declared.cmp.Ordering.{Ordering}
use Rattle.std.specs.declared.cmp.Ordering.TheVariants.{Less, Equal, Greater}
use Rattle.std.specs.Ordering.{is_eq, nat_cmp, match_ordering, ordering_reverse}
use Rattle.std.specs.BTreeSet.{insert_key}
use Rattle.std.specs.Cmp.Lexicographic.{pointwise, slice_cmp}
use Rattle.std.proofs.lemmas.Bool.Decides.{nat_tests}
use Rattle.std.proofs.lemmas.Cmp.{tied_itself, nat_list_cmp_total}
use Rattle.std.proofs.lemmas.List.Elements.{All-head, All-tail, All-cons, All-weaker, recursion_from_All}
use Rattle.std.proofs.lemmas.List.Sums.{sum_by-append}
use Rattle.std.proofs.lemmas.Map.Lookups.{exact_bytes}
use Rattle.std.proofs.lemmas.Map.Text.{is_eq-slice_cmp}
use Rattle.std.proofs.lemmas.Map.Views.{All-after_first, All-insert_key}
use Rattle.node_record.specs.declared.held.Held.{Held}
use Rattle.mur_base.specs.Map.{value_at}
use Rattle.mur_base.proofs.MapLaws.{names_apart}
use Rattle.cluster_core.specs.declared.world.World.{World}
use Rattle.cluster_core.specs.Shown.{names_at, held_at_node}

-- whether a name is this one
abbrev pub is_name : List ℕ → List ℕ → Bool
is_name name other = bytes_eq other name

pub names_cons : (p : List ℕ → Bool) (x : List ℕ) (xs : List (List ℕ)) → count_by p (x ∷ xs) ≡ cond (p x) 1 0 + count_by p xs
names_cons p x xs = sum_by-append (λ y. cond (p y) 1 0) (x ∷ []) xs ∙ ap (λ n. n + count_by p xs) (omega arith)

-- texts that compare equal are the same
pub same_bytes : (xs ys : List ℕ) → pointwise nat_eq xs ys ≡ true → xs ≡ ys
same_bytes [] [] h = refl
same_bytes [] (y ∷ ys) h = cc
same_bytes (x ∷ xs) [] h = cc
same_bytes (x ∷ xs) (y ∷ ys) h =
    let heads : x ≡ y = grind (arith, nat_tests) in
    let tails = same_bytes xs ys (grind (arith, nat_tests)) in cc

later_by : (name first other : List ℕ) (names : List (List ℕ)) → first ≡ name → slice_cmp nat_cmp first other ≡ Less → (b : Bool) → bytes_eq other name ≡ b
    → count_by (is_name name) names ≡ 0 → count_by (is_name name) (other ∷ names) ≡ 0
later_by name first other names same less false h later = omega (arith, names_cons (is_name name) other names, ap {B = ℕ} (λ b. cond b 1 0) h, later)
later_by name first other names same less true h later =
    let key : other ≡ first = same_bytes other name h ∙ sym same in
    let tied : slice_cmp nat_cmp first other ≡ Equal = ap (slice_cmp nat_cmp first) key ∙ tied_itself nat_list_cmp_total first in
    cc

-- no later name is the first
none_later : (name first : List ℕ) (names : List (List ℕ)) → first ≡ name → All (λ q. slice_cmp nat_cmp first q ≡ Less) names
    → count_by (is_name name) names ≡ 0
none_later name first [] same below = refl
none_later name first (other ∷ names) same below =
    later_by name first other names same (All-head (λ q. slice_cmp nat_cmp first q ≡ Less) other names below) (bytes_eq other name) refl
    (none_later name first names same (All-tail (λ q. slice_cmp nat_cmp first q ≡ Less) other names below))

once_by : (name first : List ℕ) (names : List (List ℕ)) → All (λ q. slice_cmp nat_cmp first q ≡ Less) names → (b : Bool) → bytes_eq first name ≡ b
    → count_by (is_name name) names ≤ 1
    → count_by (is_name name) (first ∷ names) ≤ 1
once_by name first names below false h later = omega (arith, names_cons (is_name name) first names, ap {B = ℕ} (λ b. cond b 1 0) h, later)
once_by name first names below true h later =
    omega (arith, names_cons (is_name name) first names, ap {B = ℕ} (λ b. cond b 1 0) h, none_later name first names (same_bytes first name h) below)

-- a name stands once among names that rise
pub once_among : (name : List ℕ) (names : List (List ℕ)) → IsStrictlySortedBy (slice_cmp nat_cmp) names → count_by (is_name name) names ≤ 1
unfolding IsStrictlySortedBy
once_among name [] sorted = omega arith
once_among name (first ∷ names) sorted =
    once_by name first names (All-after_first (slice_cmp nat_cmp) first names sorted) (bytes_eq first name) refl (once_among name names sorted.1)

insert_by : (key first : List ℕ) (names : List (List ℕ)) → IsStrictlySortedBy (slice_cmp nat_cmp) (first ∷ names)
    → IsStrictlySortedBy (slice_cmp nat_cmp) (insert_key (slice_cmp nat_cmp) names key)
    → (o : Ordering) → slice_cmp nat_cmp key first ≡ o
    → IsStrictlySortedBy (slice_cmp nat_cmp) (match_ordering o (key ∷ first ∷ names) (first ∷ names) (first ∷ insert_key (slice_cmp nat_cmp) names key))
unfolding IsStrictlySortedBy
insert_by key first names sorted later Less h = (
  recursion_from_All (λ q. slice_cmp nat_cmp key q ≡ Less) (first ∷ names)
      (All-cons (λ q. slice_cmp nat_cmp key q ≡ Less) first names h
      (All-weaker (λ q. slice_cmp nat_cmp first q ≡ Less) (λ q. slice_cmp nat_cmp key q ≡ Less) (λ q l. nat_list_cmp_total.trans key first q h l) names
      (All-after_first (slice_cmp nat_cmp) first names sorted))),
  sorted,
)
insert_by key first names sorted later Equal h = sorted
insert_by key first names sorted later Greater h = (
  recursion_from_All (λ q. slice_cmp nat_cmp first q ≡ Less) (insert_key (slice_cmp nat_cmp) names key)
      (All-insert_key (slice_cmp nat_cmp) key (λ q. slice_cmp nat_cmp first q ≡ Less) names (All-after_first (slice_cmp nat_cmp) first names sorted)
      (nat_list_cmp_total.antisymm first key ∙ ap ordering_reverse h)),
  later,
)

insert_rises : (key : List ℕ) (names : List (List ℕ)) → IsStrictlySortedBy (slice_cmp nat_cmp) names
    → IsStrictlySortedBy (slice_cmp nat_cmp) (insert_key (slice_cmp nat_cmp) names key)
unfolding IsStrictlySortedBy
insert_rises key [] sorted = (tt, tt)
insert_rises key (first ∷ names) sorted = insert_by key first names sorted (insert_rises key names sorted.1) (slice_cmp nat_cmp key first) refl

fold_rises : (keys names : List (List ℕ)) → IsStrictlySortedBy (slice_cmp nat_cmp) names
    → IsStrictlySortedBy (slice_cmp nat_cmp) (fold (insert_key (slice_cmp nat_cmp)) names keys)
fold_rises [] names sorted = sorted
fold_rises (key ∷ keys) names sorted = fold_rises keys (insert_key (slice_cmp nat_cmp) names key) (insert_rises key names sorted)

pub names_rise : (world : World) (nodes names : List (List ℕ)) → IsStrictlySortedBy (slice_cmp nat_cmp) names
    → IsStrictlySortedBy (slice_cmp nat_cmp) (names_at world names nodes)
unfolding names_at
names_rise world [] names sorted = sorted
names_rise world (node ∷ nodes) names sorted =
    names_rise world nodes (fold (insert_key (slice_cmp nat_cmp)) names (keys_of (held_at_node world node)))
    (fold_rises (keys_of (held_at_node world node)) names sorted)

pub nothing_rises : IsStrictlySortedBy (slice_cmp nat_cmp) []
unfolding IsStrictlySortedBy
nothing_rises = tt

-- ---- each name that a node has is among them

pub one_here : (p : List ℕ → Bool) (x : List ℕ) (xs : List (List ℕ)) → p x ≡ true → 1 ≤ count_by p (x ∷ xs)
one_here p x xs h = omega (arith, names_cons p x xs, ap {B = ℕ} (λ b. cond b 1 0) h)

keeps_by : (p : List ℕ → Bool) (key first : List ℕ) (names : List (List ℕ)) → count_by p names ≤ count_by p (insert_key (slice_cmp nat_cmp) names key)
    → (o : Ordering)
    → count_by p (first ∷ names) ≤ count_by p (match_ordering o (key ∷ first ∷ names) (first ∷ names) (first ∷ insert_key (slice_cmp nat_cmp) names key))
keeps_by p key first names later Less = omega (arith, names_cons p key (first ∷ names))
keeps_by p key first names later Equal = omega arith
keeps_by p key first names later Greater =
    omega (arith, later, names_cons p first names, names_cons p first (insert_key (slice_cmp nat_cmp) names key))

insert_keeps : (p : List ℕ → Bool) (key : List ℕ) (names : List (List ℕ)) → count_by p names ≤ count_by p (insert_key (slice_cmp nat_cmp) names key)
insert_keeps p key [] = omega arith
insert_keeps p key (first ∷ names) = keeps_by p key first names (insert_keeps p key names) (slice_cmp nat_cmp key first)

has_by : (name key first : List ℕ) (names : List (List ℕ)) → bytes_eq key name ≡ true
    → 1 ≤ count_by (is_name name) (insert_key (slice_cmp nat_cmp) names key) → (o : Ordering) → slice_cmp nat_cmp key first ≡ o
    → 1 ≤ count_by (is_name name) (match_ordering o (key ∷ first ∷ names) (first ∷ names) (first ∷ insert_key (slice_cmp nat_cmp) names key))
has_by name key first names is later Less h = one_here (is_name name) key (first ∷ names) is
has_by name key first names is later Equal h =
    one_here (is_name name) first names (subst (λ k. bytes_eq k name ≡ true) (exact_bytes key first h) is)
has_by name key first names is later Greater h =
    omega (arith, later, names_cons (is_name name) first (insert_key (slice_cmp nat_cmp) names key))

insert_has : (name key : List ℕ) (names : List (List ℕ)) → bytes_eq key name ≡ true
    → 1 ≤ count_by (is_name name) (insert_key (slice_cmp nat_cmp) names key)
insert_has name key [] is = one_here (is_name name) key [] is
insert_has name key (first ∷ names) is = has_by name key first names is (insert_has name key names is) (slice_cmp nat_cmp key first) refl

fold_keeps : (p : List ℕ → Bool) (keys names : List (List ℕ)) → count_by p names ≤ count_by p (fold (insert_key (slice_cmp nat_cmp)) names keys)
fold_keeps p [] names = omega arith
fold_keeps p (key ∷ keys) names =
    omega (arith, insert_keeps p key names, fold_keeps p keys (insert_key (slice_cmp nat_cmp) names key))

fold_by : (name key : List ℕ) (keys names : List (List ℕ)) (b : Bool) → bytes_eq key name ≡ b → 1 ≤ count_by (is_name name) (key ∷ keys)
    → (1 ≤ count_by (is_name name) keys
    → 1 ≤ count_by (is_name name) (fold (insert_key (slice_cmp nat_cmp)) (insert_key (slice_cmp nat_cmp) names key) keys))
    → 1 ≤ count_by (is_name name) (fold (insert_key (slice_cmp nat_cmp)) (insert_key (slice_cmp nat_cmp) names key) keys)
fold_by name key keys names true h some later =
    omega (arith, insert_has name key names h, fold_keeps (is_name name) keys (insert_key (slice_cmp nat_cmp) names key))
fold_by name key keys names false h some later =
    later (omega (arith, some, names_cons (is_name name) key keys, ap {B = ℕ} (λ b. cond b 1 0) h))

fold_has : (name : List ℕ) (keys names : List (List ℕ)) → 1 ≤ count_by (is_name name) keys
    → 1 ≤ count_by (is_name name) (fold (insert_key (slice_cmp nat_cmp)) names keys)
fold_has name [] names some = absurd (omega (arith, some))
fold_has name (key ∷ keys) names some =
    fold_by name key keys names (bytes_eq key name) refl some (fold_has name keys (insert_key (slice_cmp nat_cmp) names key))

names_keep : (world : World) (p : List ℕ → Bool) (nodes names : List (List ℕ)) → count_by p names ≤ count_by p (names_at world names nodes)
unfolding names_at
names_keep world p [] names = omega arith
names_keep world p (node ∷ nodes) names = omega (
  arith,
  fold_keeps p (keys_of (held_at_node world node)) names,
  names_keep world p nodes (fold (insert_key (slice_cmp nat_cmp)) names (keys_of (held_at_node world node))),
)

listed_at : (world : World) (name node : List ℕ) (nodes names : List (List ℕ)) (k : ℕ) → k < length nodes → get_or nodes k node ≡ node
    → 1 ≤ count_by (is_name name) (keys_of (held_at_node world node)) → 1 ≤ count_by (is_name name) (names_at world names nodes)
unfolding names_at
listed_at world name node [] names k within at some = absurd (omega (arith, within))
listed_at world name node (first ∷ nodes) names zero within at some = omega (
  arith,
  fold_has name (keys_of (held_at_node world first)) names
      (subst (λ n. 1 ≤ count_by (is_name name) (keys_of (held_at_node world n))) (sym at) some),
  names_keep world (is_name name) nodes (fold (insert_key (slice_cmp nat_cmp)) names (keys_of (held_at_node world first))),
)
listed_at world name node (first ∷ nodes) names (suc k) within at some =
    listed_at world name node nodes (fold (insert_key (slice_cmp nat_cmp)) names (keys_of (held_at_node world first))) k (omega (arith, within)) at some

-- what a node has is listed
pub is_listed : (world : World) (name node : List ℕ) (nodes names : List (List ℕ)) → Contains nodes node
    → 1 ≤ count_by (is_name name) (keys_of (held_at_node world node)) → 1 ≤ count_by (is_name name) (names_at world names nodes)
is_listed world name node nodes names there some = listed_at world name node nodes names there.0 there.1 there.2 some

pub bytes_itself : (name : List ℕ) → bytes_eq name name ≡ true
bytes_itself name = sym (is_eq-slice_cmp name name) ∙ names_apart.itself name

key_by : (name : List ℕ) (entry : List ℕ × Held) (entries : List (List ℕ × Held)) (held : Held) (b : Bool) → is_eq (slice_cmp nat_cmp name entry.0) ≡ b
    → value_at (slice_cmp nat_cmp) (entry ∷ entries) name ≡ Some held
    → (value_at (slice_cmp nat_cmp) entries name ≡ Some held → 1 ≤ count_by (is_name name) (keys_of entries))
    → 1 ≤ count_by (is_name name) (keys_of (entry ∷ entries))
key_by name entry entries held true h there later =
    one_here (is_name name) entry.0 (keys_of entries) (subst (λ k. bytes_eq k name ≡ true) (names_apart.exact name entry.0 h) (bytes_itself name))
key_by name entry entries held false h there later =
    let more : value_at (slice_cmp nat_cmp) entries name ≡ Some held = rw h at there in
    omega (arith, later more, names_cons (is_name name) entry.0 (keys_of entries))

-- a name under which something is found is a key
pub key_has : (name : List ℕ) (entries : List (List ℕ × Held)) (held : Held) → value_at (slice_cmp nat_cmp) entries name ≡ Some held
    → 1 ≤ count_by (is_name name) (keys_of entries)
key_has name [] held at = cc
key_has name (entry ∷ entries) held at =
    key_by name entry entries held (is_eq (slice_cmp nat_cmp name entry.0)) refl at (key_has name entries held)
