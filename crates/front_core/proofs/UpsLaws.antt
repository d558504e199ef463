-- To which nodes the links are up, behind one that comes up and one that goes down.
use Rattle.std.proofs.Common.{◌≡◌, ◌≢◌, ℕ, Bool, true, false, cond, is_some, List, [], ◌∷◌, None, Some, refl, sym, ◌∙◌, ap, subst}
use Rattle.std.specs.declared.cmp.Ordering.TheVariants.{Less}
use Rattle.std.specs.List.{AllByRecursion}
use Rattle.std.specs.List.Sorted.{IsStrictlySortedBy}
use Rattle.std.specs.Map.{keys_of}
use Rattle.std.specs.Ordering.{nat_cmp, is_eq}
use Rattle.std.specs.Cmp.Lexicographic.{slice_cmp}
use Rattle.std.proofs.Math.Logic.{⊎_elim}
use Rattle.mur_base.specs.Map.{IsInOrder, value_at, without_key}
use Rattle.mur_base.proofs.MapLaws.{names_apart, not_equal, same_or_other, value_at-with_entry, value_at-with_entry-other}
use Rattle.front_core.specs.Ups.{Ups, coming_up, going_down, is_up}

-- ---- one comes up

pub up_comes : (ups : Ups) (node : List ℕ) → is_up (coming_up ups node) node ≡ true
unfolding is_up
up_comes ups node = ap is_some (value_at-with_entry (slice_cmp nat_cmp) names_apart ups node tt)

pub others_coming : (ups : Ups) (node other : List ℕ) → other ≢ node → is_up (coming_up ups node) other ≡ is_up ups other
unfolding is_up
others_coming ups node other ne = ap is_some (value_at-with_entry-other (slice_cmp nat_cmp) names_apart ups node other tt ne)

pub coming_keeps : (ups : Ups) (node other : List ℕ) → is_up ups other ≡ true → is_up (coming_up ups node) other ≡ true
coming_keeps ups node other up = ⊎_elim
    (λ (e : other ≡ node). subst (λ n. is_up (coming_up ups node) n ≡ true) (sym e) (up_comes ups node))
    (λ (ne : other ≢ node). others_coming ups node other ne ∙ up)
    (same_or_other (slice_cmp nat_cmp) names_apart other node)

-- ---- one goes down

gone_by : (e : List ℕ × Unit {0}) (es : Ups) (k q : List ℕ) → q ≢ k
    → value_at (slice_cmp nat_cmp) (without_key (slice_cmp nat_cmp) es k) q ≡ value_at (slice_cmp nat_cmp) es q
    → (b : Bool) → is_eq (slice_cmp nat_cmp k e.0) ≡ b
    → value_at (slice_cmp nat_cmp) (without_key (slice_cmp nat_cmp) (e ∷ es) k) q ≡ value_at (slice_cmp nat_cmp) (e ∷ es) q
gone_by e es k q ne more true h =
    let same : k ≡ e.0 = names_apart.exact k e.0 h in
    let other : is_eq (slice_cmp nat_cmp q e.0) ≡ false = subst (λ n. is_eq (slice_cmp nat_cmp q n) ≡ false) same (not_equal (slice_cmp nat_cmp) names_apart q k ne) in
    rw (h, other) refl
gone_by e es k q ne more false h = rw h (ap (λ found. cond (is_eq (slice_cmp nat_cmp q e.0)) (Some e.1) found) more)

found_still : (es : Ups) (k q : List ℕ) → q ≢ k → value_at (slice_cmp nat_cmp) (without_key (slice_cmp nat_cmp) es k) q ≡ value_at (slice_cmp nat_cmp) es q
found_still [] k q ne = refl
found_still (e ∷ es) k q ne = gone_by e es k q ne (found_still es k q ne) (is_eq (slice_cmp nat_cmp k e.0)) refl

pub others_going : (ups : Ups) (node other : List ℕ) → other ≢ node → is_up (going_down ups node) other ≡ is_up ups other
unfolding is_up
others_going ups node other ne = ap is_some (found_still ups node other ne)

-- a name below all isn't among them
not_above : (name : List ℕ) (es : Ups) → AllByRecursion (λ k. slice_cmp nat_cmp name k ≡ Less) (keys_of es) → value_at (slice_cmp nat_cmp) es name ≡ None
not_above name [] all = refl
not_above name (e ∷ es) all =
    rw (ap is_eq all.0) (not_above name es all.1)

gone_at : (e : List ℕ × Unit {0}) (es : Ups) (k : List ℕ) (same : Bool) → is_eq (slice_cmp nat_cmp k e.0) ≡ same
    → AllByRecursion (λ q. slice_cmp nat_cmp e.0 q ≡ Less) (keys_of es)
    → value_at (slice_cmp nat_cmp) (without_key (slice_cmp nat_cmp) es k) k ≡ None
    → value_at (slice_cmp nat_cmp) (without_key (slice_cmp nat_cmp) (e ∷ es) k) k ≡ None
gone_at e es k true h above later =
    let is : k ≡ e.0 = names_apart.exact k e.0 h in
    rw h (subst (λ n. value_at (slice_cmp nat_cmp) es n ≡ None) (sym is) (not_above e.0 es above))
gone_at e es k false h above later = rw (h, h) later

gone : (es : Ups) (k : List ℕ) → IsInOrder (slice_cmp nat_cmp) es → value_at (slice_cmp nat_cmp) (without_key (slice_cmp nat_cmp) es k) k ≡ None
unfolding IsStrictlySortedBy
gone [] k order = refl
gone (e ∷ es) k order = gone_at e es k (is_eq (slice_cmp nat_cmp k e.0)) refl order.0 (gone es k order.1)

-- one that went down isn't up
pub down_goes : (ups : Ups) (node : List ℕ) → IsInOrder (slice_cmp nat_cmp) ups → is_up (going_down ups node) node ≡ false
unfolding is_up
down_goes ups node order = ap is_some (gone ups node order)
