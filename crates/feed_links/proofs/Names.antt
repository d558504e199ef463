-- Names that are the same and that aren't, and keys that go.
use Rattle.std.proofs.Common.{◌≡◌, ◌≢◌, ℕ, Bool, true, false, nat_eq, cond, List, [], ◌∷◌, None, Some, refl, sym, ap, ◌∙◌, subst, arith}
use Rattle.std.specs.declared.cmp.Ordering.TheVariants.{Less}
use Rattle.std.specs.List.{AllByRecursion}
use Rattle.std.specs.List.Sorted.{IsStrictlySortedBy}
use Rattle.std.specs.Map.{keys_of}
use Rattle.std.specs.Ordering.{is_eq, nat_cmp}
use Rattle.std.specs.Cmp.Lexicographic.{pointwise, same_text, slice_cmp}
use Rattle.std.proofs.lemmas.Bool.Decides.{nat_tests}
use Rattle.mur_base.specs.Map.{value_at, without_key, IsInOrder}
use Rattle.mur_base.proofs.MapLaws.{names_apart, not_equal}

pub same_name : (name : List ℕ) → pointwise nat_eq name name ≡ true
same_name [] = refl
same_name (c ∷ name) = grind (arith, nat_tests, same_name name)

pub other_name : (one other : List ℕ) → one ≢ other → pointwise nat_eq one other ≡ false
other_name one other ne = by (pointwise nat_eq one other) refl
  where
    by : (same : Bool) → pointwise nat_eq one other ≡ same → pointwise nat_eq one other ≡ false
    by true e = absurd (ne (same_text one other (sym e)))
    by false e = e

-- a name that another is below isn't that one
pub apart_below : (name other : List ℕ) → slice_cmp nat_cmp name other ≡ Less → other ≢ name
apart_below name other less same =
    let itself : is_eq (slice_cmp nat_cmp name name) ≡ true = names_apart.itself name in
    let below : is_eq (slice_cmp nat_cmp name name) ≡ false = ap is_eq (subst (λ n. slice_cmp nat_cmp name n ≡ Less) same less) in cc

module _ {X : Type 0} where
  gone_by : (e : List ℕ × X) (es : List (List ℕ × X)) (k q : List ℕ) → q ≢ k
      → value_at (slice_cmp nat_cmp) (without_key (slice_cmp nat_cmp) es k) q ≡ value_at (slice_cmp nat_cmp) es q
      → (b : Bool) → is_eq (slice_cmp nat_cmp k e.0) ≡ b
      → value_at (slice_cmp nat_cmp) (without_key (slice_cmp nat_cmp) (e ∷ es) k) q ≡ value_at (slice_cmp nat_cmp) (e ∷ es) q
  gone_by e es k q ne more true h =
      let same : k ≡ e.0 = names_apart.exact k e.0 h in
      let other : is_eq (slice_cmp nat_cmp q e.0) ≡ false = subst (λ n. is_eq (slice_cmp nat_cmp q n) ≡ false) same (not_equal (slice_cmp nat_cmp) names_apart q k ne) in
      rw (h, other) refl
  gone_by e es k q ne more false h = rw h (ap (λ found. cond (is_eq (slice_cmp nat_cmp q e.0)) (Some e.1) found) more)

  -- another key finds what it found once a key is gone
  pub value_at-without_key-other : (es : List (List ℕ × X)) (k q : List ℕ) → q ≢ k
      → value_at (slice_cmp nat_cmp) (without_key (slice_cmp nat_cmp) es k) q ≡ value_at (slice_cmp nat_cmp) es q
  value_at-without_key-other [] k q ne = refl
  value_at-without_key-other (e ∷ es) k q ne = gone_by e es k q ne (value_at-without_key-other es k q ne) (is_eq (slice_cmp nat_cmp k e.0)) refl

  abbrev AreAbove : List ℕ → List (List ℕ × X) → Type 0
  AreAbove name es = AllByRecursion (λ k. slice_cmp nat_cmp name k ≡ Less) (keys_of es)

  -- a name below all isn't among them
  not_above : (name : List ℕ) (es : List (List ℕ × X)) → AreAbove name es → value_at (slice_cmp nat_cmp) es name ≡ None
  not_above name [] all = refl
  not_above name (e ∷ es) all = rw (ap is_eq all.0) (not_above name es all.1)

  itself_gone : (e : List ℕ × X) (es : List (List ℕ × X)) (k : List ℕ) (b : Bool) → is_eq (slice_cmp nat_cmp k e.0) ≡ b → AreAbove e.0 es
      → value_at (slice_cmp nat_cmp) (without_key (slice_cmp nat_cmp) es k) k ≡ None
      → value_at (slice_cmp nat_cmp) (without_key (slice_cmp nat_cmp) (e ∷ es) k) k ≡ None
  itself_gone e es k true h above later =
      rw h (subst (λ n. value_at (slice_cmp nat_cmp) es n ≡ None) (sym (names_apart.exact k e.0 h)) (not_above e.0 es above))
  itself_gone e es k false h above later = rw (h, h) later

  -- a key that is gone finds nothing
  pub value_at-without_key : (es : List (List ℕ × X)) (k : List ℕ) → IsInOrder (slice_cmp nat_cmp) es
      → value_at (slice_cmp nat_cmp) (without_key (slice_cmp nat_cmp) es k) k ≡ None
  unfolding IsStrictlySortedBy
  value_at-without_key [] k order = refl
  value_at-without_key (e ∷ es) k order = itself_gone e es k (is_eq (slice_cmp nat_cmp k e.0)) refl order.0 (value_at-without_key es k order.1)

  above_by : (name : List ℕ) (e : List ℕ × X) (es rest : List (List ℕ × X)) (b : Bool) → AreAbove name (e ∷ es) → AreAbove name rest
      → AreAbove name (cond b es (e ∷ rest))
  above_by name e es rest true all more = all.1
  above_by name e es rest false all more = (all.0, more)

  above_kept : (name k : List ℕ) (es : List (List ℕ × X)) → AreAbove name es → AreAbove name (without_key (slice_cmp nat_cmp) es k)
  above_kept name k [] all = tt
  above_kept name k (e ∷ es) all =
      above_by name e es (without_key (slice_cmp nat_cmp) es k) (is_eq (slice_cmp nat_cmp k e.0)) all (above_kept name k es all.1)

  order_by : (e : List ℕ × X) (es rest : List (List ℕ × X)) (b : Bool) → IsInOrder (slice_cmp nat_cmp) (e ∷ es) → AreAbove e.0 rest
      → IsInOrder (slice_cmp nat_cmp) rest → IsInOrder (slice_cmp nat_cmp) (cond b es (e ∷ rest))
  unfolding IsStrictlySortedBy
  order_by e es rest true order above more = order.1
  order_by e es rest false order above more = (above, more)

  -- without a key the order stays
  pub order_kept : (k : List ℕ) (es : List (List ℕ × X)) → IsInOrder (slice_cmp nat_cmp) es → IsInOrder (slice_cmp nat_cmp) (without_key (slice_cmp nat_cmp) es k)
  unfolding IsStrictlySortedBy
  order_kept k [] order = tt
  order_kept k (e ∷ es) order =
      order_by e es (without_key (slice_cmp nat_cmp) es k) (is_eq (slice_cmp nat_cmp k e.0)) order (above_kept e.0 k es order.0) (order_kept k es order.1)

  -- what holds of all entries holds of the one that is found
  found_by : (P : List ℕ × X → Type 0) (e : List ℕ × X) (es : List (List ℕ × X)) (k : List ℕ) (v : X) → AllByRecursion P (e ∷ es)
      → (value_at (slice_cmp nat_cmp) es k ≡ Some v → P (k, v))
      → (b : Bool) → is_eq (slice_cmp nat_cmp k e.0) ≡ b → value_at (slice_cmp nat_cmp) (e ∷ es) k ≡ Some v → P (k, v)
  found_by P e es k v all more true h there =
      let is : Some e.1 ≡ Some v = sym (ap (λ b. cond b (Some e.1) (value_at (slice_cmp nat_cmp) es k)) h) ∙ there in
      let same : e.1 ≡ v = cc in
      subst (λ n. P (n, v)) (sym (names_apart.exact k e.0 h)) (subst (λ x. P (e.0, x)) same all.0)
  found_by P e es k v all more false h there = more (sym (ap (λ b. cond b (Some e.1) (value_at (slice_cmp nat_cmp) es k)) h) ∙ there)

  pub found_has : (P : List ℕ × X → Type 0) (es : List (List ℕ × X)) (k : List ℕ) (v : X) → AllByRecursion P es → value_at (slice_cmp nat_cmp) es k ≡ Some v
      → P (k, v)
  found_has P [] k v all there = cc
  found_has P (e ∷ es) k v all there =
      found_by P e es k v all (λ h. found_has P es k v all.1 h) (is_eq (slice_cmp nat_cmp k e.0)) refl there
