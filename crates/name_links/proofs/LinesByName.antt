-- Lines kept by the names that they are about: what they are to one name.
use Rattle.std.proofs.Common.{◌≡◌, ◌≢◌, ◌⊎◌, inl, inr, ℕ, Bool, true, false, cond, List, [], ◌∷◌, ◌++◌, map, filter, Option, None, Some, refl, sym, ap, subst, ◌∙◌, append-nil}
use Rattle.std.specs.declared.cmp.Ordering.{Ordering}
use Rattle.std.specs.declared.cmp.Ordering.TheVariants.{Less, Equal, Greater}
use Rattle.std.specs.List.{AllByRecursion, flat_map, fold}
use Rattle.std.specs.List.Sorted.{IsStrictlySortedBy}
use Rattle.std.specs.Map.{keys_of}
use Rattle.std.specs.Ordering.{is_eq, nat_cmp, match_ordering}
use Rattle.std.specs.Cmp.Lexicographic.{slice_cmp}
use Rattle.mur_base.specs.Map.{value_at, without_key, IsInOrder}
use Rattle.mur_base.proofs.MapLaws.{names_apart, same_or_other, not_equal}
use Rattle.home_law.specs.Items.{Item}
use Rattle.home_law.specs.ManyNames.{Mailbox}
use Rattle.node_record.specs.declared.held.Held.{Held}
use Rattle.node_record.specs.Held.{Names, forgotten}
use Rattle.name_flows.specs.declared.sent.SentLine.{SentLine}
use Rattle.name_flows.specs.Listed.{LinesByName, with_line, line_in, name_in}
use Rattle.name_flows.specs.OneName.{line_items}
use Rattle.name_flows.proofs.NameMaps.{value_at-without_key-same, value_at-without_key-other}
use Rattle.name_links.specs.LinkIs.{IsTagged}

abbrev pub says : Mailbox → LinesByName → List Item
says n lines = flat_map (line_items n) (map line_in lines)

-- a line is nothing to other names than this one
abbrev pub IsAboutIt : List ℕ × SentLine → Type 0
IsAboutIt e = (m : Mailbox) → e.0 ≢ m → line_items m e.1 ≡ []

abbrev pub Each : (List ℕ × SentLine → Type 0) → LinesByName → Type 0
Each P lines = AllByRecursion P lines

pub differs : (n k : Mailbox) → is_eq (slice_cmp nat_cmp n k) ≡ false → k ≢ n
differs n k e same =
    let itself : is_eq (slice_cmp nat_cmp n n) ≡ true = names_apart.itself n in
    let other : is_eq (slice_cmp nat_cmp n n) ≡ false = subst (λ z. is_eq (slice_cmp nat_cmp n z) ≡ false) same e in cc

not_there : {X : Type 0} (t : Bool) (x : X) (rest : Option X) → cond t (Some x) rest ≡ None → (t ≡ false) × (rest ≡ None)
not_there true x rest e = cc
not_there false x rest e = (refl, e)

-- a name without a line is told nothing
pub says_none : (n : Mailbox) (lines : LinesByName) → Each IsAboutIt lines → value_at (slice_cmp nat_cmp) lines n ≡ None → says n lines ≡ []
says_none n [] about e = refl
says_none n (first ∷ lines) about e =
    let parts = not_there (is_eq (slice_cmp nat_cmp n first.0)) first.1 (value_at (slice_cmp nat_cmp) lines n) e in
    ap (λ (xs : List Item). xs ++ says n lines) (about.0 n (differs n first.0 parts.0)) ∙ says_none n lines about.1 parts.1

-- a line is put in

module _ (k : Mailbox) (line : SentLine) where
  each_by : (P : List ℕ × SentLine → Type 0) → P (k, line) → (first : List ℕ × SentLine) (lines : LinesByName) → Each P (first ∷ lines) → Each P (with_line lines k line)
      → (o : Ordering) → slice_cmp nat_cmp k first.0 ≡ o
      → Each P (match_ordering o ((k, line) ∷ first ∷ lines) ((first.0, line) ∷ lines) (first ∷ with_line lines k line))
  each_by P p first lines all more Less e = (p, all)
  each_by P p first lines all more Equal e = (subst (λ (z : List ℕ). P (z, line)) (names_apart.exact k first.0 (ap is_eq e)) p, all.1)
  each_by P p first lines all more Greater e = (all.0, more)

  pub each_put : (P : List ℕ × SentLine → Type 0) → P (k, line) → (lines : LinesByName) → Each P lines → Each P (with_line lines k line)
  each_put P p [] all = (p, tt)
  each_put P p (first ∷ lines) all = each_by P p first lines all (each_put P p lines all.1) (slice_cmp nat_cmp k first.0) refl

  other_by : (n : Mailbox) → k ≢ n → IsAboutIt (k, line) → (first : List ℕ × SentLine) (lines : LinesByName) → IsAboutIt first → says n (with_line lines k line) ≡ says n lines
      → (o : Ordering) → slice_cmp nat_cmp k first.0 ≡ o
      → says n (match_ordering o ((k, line) ∷ first ∷ lines) ((first.0, line) ∷ lines) (first ∷ with_line lines k line)) ≡ says n (first ∷ lines)
  other_by n ne p first lines about ih Less e = ap (λ (xs : List Item). xs ++ says n (first ∷ lines)) (p n ne)
  other_by n ne p first lines about ih Equal e =
      let same : k ≡ first.0 = names_apart.exact k first.0 (ap is_eq e) in
      ap (λ (xs : List Item). xs ++ says n lines) (p n ne ∙ sym (about n (λ f. ne (same ∙ f))))
  other_by n ne p first lines about ih Greater e = ap (λ (xs : List Item). line_items n first.1 ++ xs) ih

  -- to another name it is nothing
  pub says_put-other : (n : Mailbox) → k ≢ n → IsAboutIt (k, line) → (lines : LinesByName) → Each IsAboutIt lines → says n (with_line lines k line) ≡ says n lines
  says_put-other n ne p [] about = ap (λ (xs : List Item). xs ++ []) (p n ne)
  says_put-other n ne p (first ∷ lines) about = other_by n ne p first lines about.0 (says_put-other n ne p lines about.1) (slice_cmp nat_cmp k first.0) refl

  same_by : (first : List ℕ × SentLine) (lines : LinesByName) → Each IsAboutIt (first ∷ lines) → value_at (slice_cmp nat_cmp) (first ∷ lines) k ≡ None
      → says k (with_line lines k line) ≡ line_items k line
      → (o : Ordering) → slice_cmp nat_cmp k first.0 ≡ o
      → says k (match_ordering o ((k, line) ∷ first ∷ lines) ((first.0, line) ∷ lines) (first ∷ with_line lines k line)) ≡ line_items k line
  same_by first lines about e ih Less f = ap (λ (xs : List Item). line_items k line ++ xs) (says_none k (first ∷ lines) about e) ∙ append-nil (line_items k line)
  same_by first lines about e ih Equal f =
      let there : is_eq (slice_cmp nat_cmp k first.0) ≡ true = ap is_eq f in
      let gone : is_eq (slice_cmp nat_cmp k first.0) ≡ false = (not_there (is_eq (slice_cmp nat_cmp k first.0)) first.1 (value_at (slice_cmp nat_cmp) lines k) e).0 in cc
  same_by first lines about e ih Greater f =
      let gone = not_there (is_eq (slice_cmp nat_cmp k first.0)) first.1 (value_at (slice_cmp nat_cmp) lines k) e in
      ap (λ (xs : List Item). xs ++ says k (with_line lines k line)) (about.0 k (differs k first.0 gone.0)) ∙ ih

  -- its own name, which had none, is told it
  pub says_put-same : (lines : LinesByName) → Each IsAboutIt lines → value_at (slice_cmp nat_cmp) lines k ≡ None → says k (with_line lines k line) ≡ line_items k line
  says_put-same [] about e = append-nil (line_items k line)
  says_put-same (first ∷ lines) about e =
      same_by first lines about e (says_put-same lines about.1 (not_there (is_eq (slice_cmp nat_cmp k first.0)) first.1 (value_at (slice_cmp nat_cmp) lines k) e).1) (slice_cmp nat_cmp k first.0) refl

pub lines_tagged : (lines : LinesByName) → Each (λ e. IsTagged e.1) lines → AllByRecursion IsTagged (map line_in lines)
lines_tagged [] all = tt
lines_tagged (first ∷ lines) all = (all.0, lines_tagged lines all.1)

-- ---- names of a map's entries

unfoldable pub is_in : Mailbox → List Mailbox → Bool
is_in n [] = false
is_in n (k ∷ ks) = cond (is_eq (slice_cmp nat_cmp n k)) true (is_in n ks)

-- whether the entry of a name passes
abbrev pub passes : (List ℕ × Held → Bool) → Mailbox → Option Held → Bool
passes p n None = false
passes p n (Some it) = p (n, it)

less_other : (o : Ordering) → o ≡ Less → is_eq o ≡ false
less_other o e = ap is_eq e

absent_by : (p : List ℕ × Held → Bool) (n : Mailbox) (e : List ℕ × Held) (es : Names) (t : Bool) → slice_cmp nat_cmp n e.0 ≡ Less
    → is_in n (map name_in (filter p es)) ≡ false → is_in n (map name_in (cond t (e ∷ filter p es) (filter p es))) ≡ false
unfolding is_in
absent_by p n e es true l ih = rw (less_other (slice_cmp nat_cmp n e.0) l) ih
absent_by p n e es false l ih = ih

pub absent : (p : List ℕ × Held → Bool) (n : Mailbox) (es : Names) → AllByRecursion (λ k. slice_cmp nat_cmp n k ≡ Less) (keys_of es) → is_in n (map name_in (filter p es)) ≡ false
unfolding is_in
absent p n [] all = refl
absent p n (e ∷ es) all = absent_by p n e es (p e) all.0 (absent p n es all.1)

own_by : (p : List ℕ × Held → Bool) (e : List ℕ × Held) (es : Names) (t : Bool) → is_in e.0 (map name_in (filter p es)) ≡ false
    → is_in e.0 (map name_in (cond t (e ∷ filter p es) (filter p es))) ≡ t
unfolding is_in
own_by p e es true ih = rw (names_apart.itself e.0) refl
own_by p e es false ih = ih

others_by : (p : List ℕ × Held → Bool) (n : Mailbox) (e : List ℕ × Held) (es : Names) (t : Bool) → n ≢ e.0
    → is_in n (map name_in (cond t (e ∷ filter p es) (filter p es))) ≡ is_in n (map name_in (filter p es))
unfolding is_in
others_by p n e es true ne = rw (not_equal (slice_cmp nat_cmp) names_apart n e.0 ne) refl
others_by p n e es false ne = refl

in_by : (p : List ℕ × Held → Bool) (n : Mailbox) (e : List ℕ × Held) (es : Names) → IsInOrder (slice_cmp nat_cmp) (e ∷ es)
    → is_in n (map name_in (filter p es)) ≡ passes p n (value_at (slice_cmp nat_cmp) es n)
    → (n ≡ e.0) ⊎ (n ≢ e.0) → is_in n (map name_in (filter p (e ∷ es))) ≡ passes p n (value_at (slice_cmp nat_cmp) (e ∷ es) n)
unfolding IsStrictlySortedBy
in_by p n e es order ih (inl same) =
    subst (λ (k : Mailbox). is_in k (map name_in (filter p (e ∷ es))) ≡ passes p k (value_at (slice_cmp nat_cmp) (e ∷ es) k)) (sym same)
    (own_by p e es (p e) (absent p e.0 es order.0) ∙ sym (ap (λ (t : Bool). passes p e.0 (cond t (Some e.1) (value_at (slice_cmp nat_cmp) es e.0))) (names_apart.itself e.0)))
in_by p n e es order ih (inr ne) =
    others_by p n e es (p e) ne ∙ ih
    ∙ sym (ap (λ (t : Bool). passes p n (cond t (Some e.1) (value_at (slice_cmp nat_cmp) es n))) (not_equal (slice_cmp nat_cmp) names_apart n e.0 ne))

-- a name is among those that pass if its entry does
pub is_in_passing : (p : List ℕ × Held → Bool) (n : Mailbox) (es : Names) → IsInOrder (slice_cmp nat_cmp) es
    → is_in n (map name_in (filter p es)) ≡ passes p n (value_at (slice_cmp nat_cmp) es n)
unfolding is_in IsStrictlySortedBy
is_in_passing p n [] order = refl
is_in_passing p n (e ∷ es) order = in_by p n e es order (is_in_passing p n es order.1) (same_or_other (slice_cmp nat_cmp) names_apart n e.0)

-- ---- names that are forgotten

module _ {X : Type 0} where
  less_kept_by : (first : Mailbox) (e : List ℕ × X) (es rest : List (List ℕ × X)) (t : Bool) → AllByRecursion (λ k. slice_cmp nat_cmp first k ≡ Less) (keys_of (e ∷ es))
      → AllByRecursion (λ k. slice_cmp nat_cmp first k ≡ Less) (keys_of rest) → AllByRecursion (λ k. slice_cmp nat_cmp first k ≡ Less) (keys_of (cond t es (e ∷ rest)))
  less_kept_by first e es rest true all more = all.1
  less_kept_by first e es rest false all more = (all.0, more)

  less_kept : (first k : Mailbox) (es : List (List ℕ × X)) → AllByRecursion (λ k. slice_cmp nat_cmp first k ≡ Less) (keys_of es)
      → AllByRecursion (λ k. slice_cmp nat_cmp first k ≡ Less) (keys_of (without_key (slice_cmp nat_cmp) es k))
  less_kept first k [] all = tt
  less_kept first k (e ∷ es) all = less_kept_by first e es (without_key (slice_cmp nat_cmp) es k) (is_eq (slice_cmp nat_cmp k e.0)) all (less_kept first k es all.1)

  order_kept_by : (e : List ℕ × X) (es rest : List (List ℕ × X)) (t : Bool) → IsInOrder (slice_cmp nat_cmp) (e ∷ es)
      → AllByRecursion (λ k. slice_cmp nat_cmp e.0 k ≡ Less) (keys_of rest) → IsInOrder (slice_cmp nat_cmp) rest → IsInOrder (slice_cmp nat_cmp) (cond t es (e ∷ rest))
  unfolding IsStrictlySortedBy
  order_kept_by e es rest true order less more = order.1
  order_kept_by e es rest false order less more = (less, more)

  -- without an entry the order stays
  pub order_kept : (k : Mailbox) (es : List (List ℕ × X)) → IsInOrder (slice_cmp nat_cmp) es → IsInOrder (slice_cmp nat_cmp) (without_key (slice_cmp nat_cmp) es k)
  unfolding IsStrictlySortedBy
  order_kept k [] order = tt
  order_kept k (e ∷ es) order = order_kept_by e es (without_key (slice_cmp nat_cmp) es k) (is_eq (slice_cmp nat_cmp k e.0)) order (less_kept e.0 k es order.0) (order_kept k es order.1)

none_if : (t : Bool) → (let o : Option Held = None in cond t o None ≡ o)
none_if true = refl
none_if false = refl

gone_by : (n k : Mailbox) (ks : List Mailbox) (es : Names) → IsInOrder (slice_cmp nat_cmp) es
    → value_at (slice_cmp nat_cmp) (fold forgotten (forgotten es k) ks) n ≡ cond (is_in n ks) None (value_at (slice_cmp nat_cmp) (forgotten es k) n)
    → (k ≡ n) ⊎ (k ≢ n) → value_at (slice_cmp nat_cmp) (fold forgotten (forgotten es k) ks) n ≡ cond (is_in n (k ∷ ks)) None (value_at (slice_cmp nat_cmp) es n)
unfolding is_in
gone_by n k ks es order ih (inl same) =
    ih ∙ ap (λ (o : Option Held). cond (is_in n ks) None o) (subst (λ (z : Mailbox). value_at (slice_cmp nat_cmp) (forgotten es k) z ≡ None) same (value_at-without_key-same es k order)) ∙ none_if (is_in n ks)
    ∙ sym (ap (λ (t : Bool). cond (cond t true (is_in n ks)) None (value_at (slice_cmp nat_cmp) es n)) (subst (λ (z : Mailbox). is_eq (slice_cmp nat_cmp z k) ≡ true) same (names_apart.itself k)))
gone_by n k ks es order ih (inr ne) =
    ih ∙ ap (λ (o : Option Held). cond (is_in n ks) None o) (value_at-without_key-other es k n ne order)
    ∙ sym (ap (λ (t : Bool). cond (cond t true (is_in n ks)) None (value_at (slice_cmp nat_cmp) es n)) (not_equal (slice_cmp nat_cmp) names_apart n k (λ e. ne (sym e))))

pub gone : (n : Mailbox) (ks : List Mailbox) (es : Names) → IsInOrder (slice_cmp nat_cmp) es
    → value_at (slice_cmp nat_cmp) (fold forgotten es ks) n ≡ cond (is_in n ks) None (value_at (slice_cmp nat_cmp) es n)
unfolding is_in
gone n [] es order = refl
gone n (k ∷ ks) es order = gone_by n k ks es order (gone n ks (forgotten es k) (order_kept k es order)) (same_or_other (slice_cmp nat_cmp) names_apart k n)
