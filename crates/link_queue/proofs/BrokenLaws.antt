-- Which links are broken behind one that breaks, or that is whole again.
use Rattle.std.proofs.Common.{◌≡◌, ◌≢◌, ◌&&◌, ◌||◌, ℕ, Bool, true, false, not, cond, List, [], ◌∷◌, ◌++◌, Option, None, Some, filter, refl, sym, ◌∙◌, ap, subst}
use Rattle.std.specs.List.{list_any}
use Rattle.std.specs.Ordering.{nat_cmp, is_eq}
use Rattle.std.specs.Cmp.Lexicographic.{slice_cmp}
use Rattle.std.specs.BTreeMap.{is_at}
use Rattle.std.proofs.Math.Logic.{⊎_elim}
use Rattle.mur_base.specs.Map.{value_at, with_entry}
use Rattle.mur_base.proofs.MapLaws.{names_apart, not_equal, same_or_other, value_at-with_entry, value_at-with_entry-other}
use Rattle.link_queue.specs.Broken.{Broken, breaking, is_broken, is_other, leads_nowhere, loses, lost_from, lost_or_none, mending}
use Rattle.link_queue.specs.Links.{same_link}

-- where nothing was broken
pub none_broken : (from to : List ℕ) → is_broken [] from to ≡ false
unfolding is_broken
none_broken from to = refl

-- ---- the nodes to which broken links lead from one

lost_as_read : (found : Option (List (List ℕ))) (to : List ℕ) → loses found to ≡ leads_nowhere (lost_or_none found) to
lost_as_read None to = refl
lost_as_read (Some lost) to = refl

-- one more

either_way : (one two three : Bool) → (one || (two || three)) ≡ (two || (one || three))
either_way true true three = refl
either_way true false three = refl
either_way false two three = refl

one_more : (lost : List (List ℕ)) (to b : List ℕ) → leads_nowhere (lost ++ to ∷ []) b ≡ (is_eq (slice_cmp nat_cmp b to) || leads_nowhere lost b)
one_more [] to b = refl
one_more (x ∷ lost) to b =
    ap (λ t. is_eq (slice_cmp nat_cmp b x) || t) (one_more lost to b)
    ∙ either_way (is_eq (slice_cmp nat_cmp b x)) (is_eq (slice_cmp nat_cmp b to)) (leads_nowhere lost b)

-- one less

less_by : (x to b : List ℕ) (lost : List (List ℕ)) (same here : Bool) → is_eq (slice_cmp nat_cmp to x) ≡ same → is_eq (slice_cmp nat_cmp b to) ≡ here
    → leads_nowhere (filter (is_other to) lost) b ≡ cond here false (leads_nowhere lost b)
    → leads_nowhere (cond (not same) (x ∷ filter (is_other to) lost)
    (filter (is_other to) lost)) b
    ≡ cond here false (leads_nowhere (x ∷ lost) b)
less_by x to b lost true true h k more = more
less_by x to b lost true false h k more =
    let same : to ≡ x = names_apart.exact to x h in
    more ∙ sym (ap (λ t. t || leads_nowhere lost b) (ap (λ n. is_eq (slice_cmp nat_cmp b n)) (sym same) ∙ k))
less_by x to b lost false true h k more =
    let same : b ≡ to = names_apart.exact b to k in
    ap (λ n. is_eq (slice_cmp nat_cmp n x) || leads_nowhere (filter (is_other to) lost) b) same
    ∙ ap (λ t. t || leads_nowhere (filter (is_other to) lost) b) h ∙ more
less_by x to b lost false false h k more = ap (λ t. is_eq (slice_cmp nat_cmp b x) || t) more

one_less : (lost : List (List ℕ)) (to b : List ℕ)
    → leads_nowhere (filter (is_other to) lost) b
    ≡ cond (is_eq (slice_cmp nat_cmp b to)) false (leads_nowhere lost b)
one_less [] to b = by (is_eq (slice_cmp nat_cmp b to))
  where
    by : (here : Bool) → false ≡ cond here false false
    by true = refl
    by false = refl
one_less (x ∷ lost) to b =
    less_by x to b lost (is_eq (slice_cmp nat_cmp to x)) (is_eq (slice_cmp nat_cmp b to)) refl refl (one_less lost to b)

-- ---- the links

-- what is lost from one node changes
changed_from : (broken : Broken) (from a b : List ℕ) (lost : List (List ℕ))
    → loses (value_at (slice_cmp nat_cmp) (with_entry (slice_cmp nat_cmp) broken from lost) a) b
    ≡ cond (is_eq (slice_cmp nat_cmp a from)) (leads_nowhere lost b) (loses (value_at (slice_cmp nat_cmp) broken a) b)
changed_from broken from a b lost = ⊎_elim
    (λ (e : a ≡ from). let same : is_eq (slice_cmp nat_cmp a from) ≡ true = subst (λ x. is_eq (slice_cmp nat_cmp a x) ≡ true) e (names_apart.itself a) in
    ap (λ found. loses found b) (subst (λ x. value_at (slice_cmp nat_cmp) (with_entry (slice_cmp nat_cmp) broken from lost) x ≡ Some lost) (sym e)
    (value_at-with_entry (slice_cmp nat_cmp) names_apart broken from lost))
    ∙ sym (ap (λ c. cond c (leads_nowhere lost b) (loses (value_at (slice_cmp nat_cmp) broken a) b)) same))
    (λ (ne : a ≢ from). ap (λ found. loses found b) (value_at-with_entry-other (slice_cmp nat_cmp) names_apart broken from a lost ne)
    ∙ sym (ap (λ c. cond c (leads_nowhere lost b) (loses (value_at (slice_cmp nat_cmp) broken a) b)) (not_equal (slice_cmp nat_cmp) names_apart a from ne)))
    (same_or_other (slice_cmp nat_cmp) names_apart a from)

lost_there : (broken : Broken) (from a b : List ℕ) → is_eq (slice_cmp nat_cmp a from) ≡ true
    → leads_nowhere (lost_from broken from) b ≡ loses (value_at (slice_cmp nat_cmp) broken a) b
lost_there broken from a b at =
    sym (lost_as_read (value_at (slice_cmp nat_cmp) broken from) b)
    ∙ ap (λ n. loses (value_at (slice_cmp nat_cmp) broken n) b) (sym (names_apart.exact a from at))

broken_by : (broken : Broken) (from to a b : List ℕ) (at : Bool) → is_eq (slice_cmp nat_cmp a from) ≡ at
    → cond at (is_eq (slice_cmp nat_cmp b to) || leads_nowhere (lost_from broken from) b) (loses (value_at (slice_cmp nat_cmp) broken a) b)
    ≡ ((at && is_eq (slice_cmp nat_cmp b to)) || loses (value_at (slice_cmp nat_cmp) broken a) b)
broken_by broken from to a b true h = ap (λ t. is_eq (slice_cmp nat_cmp b to) || t) (lost_there broken from a b h)
broken_by broken from to a b false h = refl

-- a link that breaks is broken, and so is each that was
pub is_broken-breaking : (broken : Broken) (from to a b : List ℕ)
    → is_broken (breaking broken from to) a b ≡ (same_link a b from to || is_broken broken a b)
unfolding is_broken breaking
is_broken-breaking broken from to a b =
    changed_from broken from a b (lost_from broken from ++ to ∷ [])
    ∙ ap (λ t. cond (is_eq (slice_cmp nat_cmp a from)) t (loses (value_at (slice_cmp nat_cmp) broken a) b)) (one_more (lost_from broken from) to b)
    ∙ broken_by broken from to a b (is_eq (slice_cmp nat_cmp a from)) refl

mended_by : (broken : Broken) (from to a b : List ℕ) (at : Bool) → is_eq (slice_cmp nat_cmp a from) ≡ at
    → cond at (cond (is_eq (slice_cmp nat_cmp b to)) false (leads_nowhere (lost_from broken from) b)) (loses (value_at (slice_cmp nat_cmp) broken a) b)
    ≡ cond (at && is_eq (slice_cmp nat_cmp b to)) false (loses (value_at (slice_cmp nat_cmp) broken a) b)
mended_by broken from to a b true h = ap (λ t. cond (is_eq (slice_cmp nat_cmp b to)) false t) (lost_there broken from a b h)
mended_by broken from to a b false h = refl

-- a link that is mended is whole, and no other
pub is_broken-mending : (broken : Broken) (from to a b : List ℕ)
    → is_broken (mending broken from to) a b ≡ cond (same_link a b from to) false (is_broken broken a b)
unfolding is_broken mending
is_broken-mending broken from to a b =
    changed_from broken from a b (filter (is_other to) (lost_from broken from))
    ∙ ap (λ t. cond (is_eq (slice_cmp nat_cmp a from)) t (loses (value_at (slice_cmp nat_cmp) broken a) b)) (one_less (lost_from broken from) to b)
    ∙ mended_by broken from to a b (is_eq (slice_cmp nat_cmp a from)) refl
