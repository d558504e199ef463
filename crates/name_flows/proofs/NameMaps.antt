-- Look-ups by name in a map that a name was taken from.
use Rattle.std.proofs.Common.{◌≡◌, ◌≢◌, ℕ, Bool, true, false, cond, List, Option, None, refl, ap, ◌∙◌}
use Rattle.std.specs.BTreeMap.{is_at}
use Rattle.std.specs.Cmp.{eq_by_cmp_equiv}
use Rattle.std.specs.Map.{keys_of}
use Rattle.std.specs.Ordering.{is_eq, nat_cmp}
use Rattle.std.specs.Cmp.Lexicographic.{slice_cmp}
use Rattle.std.proofs.lemmas.Cmp.{nat_list_cmp_total}
use Rattle.std.proofs.lemmas.Map.{lookup-remove_entry}
use Rattle.std.proofs.lemmas.Map.Keys.{IsDistinct-from_sorted}
use Rattle.mur_base.specs.Map.{value_at, without_key, IsInOrder}
use Rattle.mur_base.proofs.MapLaws.{names_apart, not_equal}

value_at-without_key : {X : Type 0} (es : List (List ℕ × X)) (k q : List ℕ) → IsInOrder (slice_cmp nat_cmp) es
    → value_at (slice_cmp nat_cmp) (without_key (slice_cmp nat_cmp) es k) q
    ≡ cond (is_eq (slice_cmp nat_cmp k q)) None (value_at (slice_cmp nat_cmp) es q)
value_at-without_key es k q sorted =
    lookup-remove_entry (eq_by_cmp_equiv nat_list_cmp_total) (is_at (slice_cmp nat_cmp k))
    (λ x y h. ap (λ z. is_eq (slice_cmp nat_cmp z y)) (names_apart.exact k x h)) q es
    (IsDistinct-from_sorted (slice_cmp nat_cmp) (keys_of es) sorted)

-- the name itself isn't found any more
pub value_at-without_key-same : {X : Type 0} (es : List (List ℕ × X)) (k : List ℕ) → IsInOrder (slice_cmp nat_cmp) es
    → value_at (slice_cmp nat_cmp) (without_key (slice_cmp nat_cmp) es k) k ≡ None
value_at-without_key-same es k sorted = value_at-without_key es k k sorted ∙ ap (λ b. cond b None (value_at (slice_cmp nat_cmp) es k)) (names_apart.itself k)

-- another name finds what it found
pub value_at-without_key-other : {X : Type 0} (es : List (List ℕ × X)) (k q : List ℕ) → k ≢ q → IsInOrder (slice_cmp nat_cmp) es
    → value_at (slice_cmp nat_cmp) (without_key (slice_cmp nat_cmp) es k) q ≡ value_at (slice_cmp nat_cmp) es q
value_at-without_key-other es k q ne sorted =
    value_at-without_key es k q sorted ∙ ap (λ b. cond b None (value_at (slice_cmp nat_cmp) es q)) (not_equal (slice_cmp nat_cmp) names_apart k q ne)
