-- The levels of a name that are looked up are those that stand above it.
use Rattle.std.proofs.Common.{◌≡◌, ◌≢◌, ◌⊎◌, inl, inr, ℕ, ◌+◌, ◌<◌, ◌≤◌, Bool, true, false, ◌&&◌, nat_eq, nat_le}
use Rattle.std.proofs.Common.{List, [], ◌∷◌, ◌++◌, length, get_or, take, drop, refl, sym, ap, ◌∙◌, subst, arith}
use Rattle.std.specs.List.{starts_with}
use Rattle.std.specs.Str.{bytes_eq}
use Rattle.std.proofs.lemmas.Bool.{and_left, and_right, false_from_ne_true, eq-eqb, ne_eqb, le-leb, lt-leb, leb-true, cases_eq, cases_order}
use Rattle.std.proofs.lemmas.List.{append-nil, append_assoc, length-append, length_push, take_at}
use Rattle.std.proofs.lemmas.List.{drop_more, take_more}
use Rattle.std.proofs.lemmas.Slice.Eq.{bytes_eq-Decides}
use Rattle.std.specs.Ordering.{nat_cmp}
use Rattle.std.specs.Cmp.Lexicographic.{slice_cmp}
use Rattle.mur_base.specs.Ascii.{dot}
use Rattle.mur_base.proofs.InboxLaw.{starts_with-parts}
use Rattle.mur_base.proofs.MapLaws.{names_apart, same_or_other}
use Rattle.name_listing.specs.Listing.{is_above, is_among}
use Rattle.name_listing.specs.Found.{levels_from}
use Rattle.name_listing.specs.Told.{StandsAbove}

pub same_text : (x : List ℕ) → bytes_eq x x ≡ true
same_text x = (bytes_eq-Decides x x).1 refl

pub other_text : (x y : List ℕ) → x ≢ y → bytes_eq x y ≡ false
other_text x y ne = false_from_ne_true _ (λ same. ne ((bytes_eq-Decides x y).0 same))

pub starts_with-front : (front rest : List ℕ) → starts_with nat_eq (front ++ rest) front ≡ true
starts_with-front [] rest = refl
starts_with-front (b ∷ front) rest = rw (eq-eqb b b refl) (starts_with-front front rest)

-- what stands above a name is a front of it, behind which a separator stands
pub stands_above : (level name : List ℕ) → is_above level name ≡ true → StandsAbove level name
unfolding is_above
stands_above level name h =
    let rest = drop (length (level ++ dot ∷ [])) name in
    (rest, starts_with-parts name (level ++ dot ∷ []) h ∙ append_assoc level (dot ∷ []) rest)

pub above_from : (level name : List ℕ) → StandsAbove level name → is_above level name ≡ true
unfolding is_above
above_from level name below =
    ap (λ n. starts_with nat_eq n (level ++ dot ∷ [])) (below.1 ∙ sym (append_assoc level (dot ∷ []) below.0))
    ∙ starts_with-front (level ++ dot ∷ []) below.0

either_way : (a b : ℕ) → nat_eq a b ≡ nat_eq b a
either_way a b = elim (cases_eq a b) [
  | inl same ↦ eq-eqb a b same ∙ sym (eq-eqb b a (sym same))
  | inr differ ↦ ne_eqb a b differ ∙ sym (ne_eqb b a (λ same. differ (sym same)))
]

and_true : (b : Bool) → (b && true) ≡ b
and_true true = refl
and_true false = refl

-- a front stands above a name where a separator follows
pub front_above : (front : List ℕ) (b : ℕ) (rest : List ℕ) → is_above front (front ++ b ∷ rest) ≡ nat_eq b dot
unfolding is_above
front_above [] b rest = and_true (nat_eq dot b) ∙ either_way dot b
front_above (c ∷ front) b rest = rw (eq-eqb c c refl) (front_above front b rest)

-- a name has one level of a length above it
one_length : (front rest x : List ℕ) → length front ≡ length x → is_above x (front ++ rest) ≡ true → x ≡ front
one_length front rest x same h =
    let below = stands_above x (front ++ rest) h in
    sym (take_at x (dot ∷ below.0) (length front) (sym same)) ∙ sym (ap (take (length front)) below.1) ∙ take_at front rest (length front) refl

-- what stands above a name is shorter
pub above_is_shorter : (level name : List ℕ) → length name ≤ length level → is_above level name ≡ false
above_is_shorter level name long = false_from_ne_true _ (λ h.
    let below = stands_above level name h in
    let sizes = ap length below.1 ∙ length-append level (dot ∷ below.0) in omega (arith, sizes, long))

none_left : (front x : List ℕ) (b : Bool) → nat_le (length front) (length x) ≡ b
    → (nat_le (length front) (length x) && is_above x front) ≡ false
none_left front x false h = and_left _ _ h
none_left front x true h = and_right _ _ (above_is_shorter x front (leb-true (length front) (length x) h))

there : (front : List ℕ) (b : ℕ) (rest : List ℕ) (d : Bool) → nat_eq b dot ≡ d
    → (is_among (levels_from (front ++ b ∷ []) rest) front ≡ nat_le (length (front ++ b ∷ [])) (length front) && is_above front ((front ++ b ∷ []) ++ rest))
    → is_among (levels_from front (b ∷ rest)) front ≡ nat_le (length front) (length front) && is_above front (front ++ b ∷ rest)
unfolding is_among levels_from
there front b rest true d later = rw (d, same_text front, front_above front b rest, d, le-leb (length front) (length front) (omega arith)) refl
there front b rest false d later =
    let short : nat_le (length (front ++ b ∷ [])) (length front) ≡ false = lt-leb _ _ (rw (length_push front b) (omega arith)) in
    rw (d, front_above front b rest, d) (later ∙ and_left _ _ short ∙ sym (and_right _ _ refl))

not_there : (front : List ℕ) (b : ℕ) (rest x : List ℕ) (d : Bool) → nat_eq b dot ≡ d → x ≢ front
    → is_among (levels_from front (b ∷ rest)) x ≡ is_among (levels_from (front ++ b ∷ []) rest) x
unfolding is_among levels_from
not_there front b rest x true d ne = rw (d, other_text x front ne) refl
not_there front b rest x false d ne = rw d refl

same_tests : (front rest x : List ℕ) (b : ℕ) → x ≢ front → (above : Bool) → is_above x (front ++ rest) ≡ above
    → (nat_le (length (front ++ b ∷ [])) (length x) && above) ≡ (nat_le (length front) (length x) && above)
same_tests front rest x b ne false h = and_right _ _ refl ∙ sym (and_right _ _ refl)
same_tests front rest x b ne true h =
    rw (length_push front b) (elim (cases_order (length front) (length x)) [
      | inl same ↦ absurd (ne (one_length front rest x same h))
      | inr (inl less) ↦ rw (le-leb (length front) (length x) (omega arith), le-leb (length front + 1) (length x) (omega arith)) refl
      | inr (inr more) ↦ rw (lt-leb (length front) (length x) (omega arith), lt-leb (length front + 1) (length x) (omega arith)) refl
    ])

elsewhere : (front : List ℕ) (b : ℕ) (rest x : List ℕ) → x ≢ front
    → (is_among (levels_from (front ++ b ∷ []) rest) x ≡ nat_le (length (front ++ b ∷ [])) (length x) && is_above x ((front ++ b ∷ []) ++ rest))
    → is_among (levels_from front (b ∷ rest)) x ≡ nat_le (length front) (length x) && is_above x (front ++ b ∷ rest)
elsewhere front b rest x ne later =
    not_there front b rest x (nat_eq b dot) refl ne ∙ later
    ∙ ap (λ name. nat_le (length (front ++ b ∷ [])) (length x) && is_above x name) (append_assoc front (b ∷ []) rest)
    ∙ same_tests front (b ∷ rest) x b ne (is_above x (front ++ b ∷ rest)) refl

levels_by : (front : List ℕ) (b : ℕ) (rest x : List ℕ) → (x ≡ front) ⊎ (x ≢ front)
    → (is_among (levels_from (front ++ b ∷ []) rest) x ≡ nat_le (length (front ++ b ∷ [])) (length x) && is_above x ((front ++ b ∷ []) ++ rest))
    → is_among (levels_from front (b ∷ rest)) x ≡ nat_le (length front) (length x) && is_above x (front ++ b ∷ rest)
levels_by front b rest x (inl same) later =
    subst (λ y. is_among (levels_from front (b ∷ rest)) y ≡ nat_le (length front) (length y) && is_above y (front ++ b ∷ rest)) (sym same)
    (there front b rest (nat_eq b dot) refl (subst (λ y. is_among (levels_from (front ++ b ∷ []) rest) y
    ≡ nat_le (length (front ++ b ∷ [])) (length y) && is_above y ((front ++ b ∷ []) ++ rest)) same later))
levels_by front b rest x (inr ne) later = elsewhere front b rest x ne later

levels_behind : (rest front x : List ℕ) → is_among (levels_from front rest) x ≡ nat_le (length front) (length x) && is_above x (front ++ rest)
unfolding is_among levels_from
levels_behind [] front x = sym (rw (append-nil front) (none_left front x (nat_le (length front) (length x)) refl))
levels_behind (b ∷ rest) front x =
    levels_by front b rest x (same_or_other (slice_cmp nat_cmp) names_apart x front) (levels_behind rest (front ++ b ∷ []) x)

-- the levels that are looked up are those above the name
pub levels_above : (name x : List ℕ) → is_among (levels_from [] name) x ≡ is_above x name
levels_above name x = levels_behind name [] x ∙ rw (le-leb 0 (length x) (omega arith)) refl

-- a separator more
pub level_more : (name : List ℕ) (i : ℕ) → i < length name → nat_eq (get_or name i 0) dot ≡ true
    → levels_from (take i name) (drop i name) ≡ take i name ∷ levels_from (take (i + 1) name) (drop (i + 1) name)
unfolding levels_from
level_more name i h e = rw (drop_more name i 0 h, take_more name i 0 h, e) refl

-- another byte
pub level_same : (name : List ℕ) (i : ℕ) → i < length name → nat_eq (get_or name i 0) dot ≡ false
    → levels_from (take i name) (drop i name) ≡ levels_from (take (i + 1) name) (drop (i + 1) name)
unfolding levels_from
level_same name i h e = rw (drop_more name i 0 h, take_more name i 0 h, e) refl
