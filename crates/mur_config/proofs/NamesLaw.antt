-- Names differ where each is new among those before it.
use Rattle.std.proofs.Common.{◌≡◌, ℕ, Bool, true, false, ◌||◌, ◌&&◌, not, List, [], ◌∷◌, Bor, Ordering, Less, Equal, Greater, nat_cmp, is_eq, map}
use Rattle.std.proofs.Common.{refl, sym, ap, ◌∙◌}
use Rattle.std.specs.BTreeMap.{is_at}
use Rattle.std.specs.BTreeSet.{insert_key}
use Rattle.std.specs.Cmp.Lexicographic.{slice_cmp}
use Rattle.std.specs.List.{list_any, list_all}
use Rattle.std.specs.Ordering.{match_ordering}
use Rattle.std.specs.Str.{bytes_eq}
use Rattle.std.proofs.lemmas.Map.Text.{is_eq-slice_cmp}
use Rattle.std.proofs.lemmas.Slice.Eq.{bytes_eq-Decides}
use Rattle.mur_base.proofs.UsersLaw.{not_true}
use Rattle.mur_config.specs.Names.{names_differ}
use Rattle.mur_config.proofs.Texts.{bytes_eq_both_ways}

abbrev pub text_cmp : Bor (List ℕ) → Bor (List ℕ) → Ordering
text_cmp one other = slice_cmp nat_cmp one.now other.now

-- a text is among those that were seen
abbrev pub is_seen : List (Bor (List ℕ)) → List ℕ → Bool
is_seen seen name = list_any (λ (key : Bor (List ℕ)). bytes_eq name key.now) seen

-- none of the names was seen
abbrev pub are_new : List (Bor (List ℕ)) → List (List ℕ) → Bool
are_new seen names = list_all (λ (name : List ℕ). not (is_seen seen name)) names

-- names that were not seen, and differ
abbrev pub are_new_apart : List (Bor (List ℕ)) → List (List ℕ) → Bool
are_new_apart seen names = are_new seen names && names_differ names

pub contains-is : (seen : List (Bor (List ℕ))) (key : Bor (List ℕ)) → list_any (is_at (text_cmp key)) seen ≡ is_seen seen key.now
contains-is [] key = refl
contains-is (first ∷ seen) key = rw (is_eq-slice_cmp key.now first.now, contains-is seen key) refl

or_twice : (a b : Bool) → (a || b) ≡ (a || (a || b))
or_twice true b = refl
or_twice false b = refl

or_swap : (a b c : Bool) → (a || (b || c)) ≡ (b || (a || c))
or_swap true true c = refl
or_swap true false c = refl
or_swap false true c = refl
or_swap false false c = refl

seen-insert_at : (o : Ordering) (seen : List (Bor (List ℕ))) (first key : Bor (List ℕ)) (name : List ℕ) → slice_cmp nat_cmp key.now first.now ≡ o
    → is_seen (insert_key text_cmp seen key) name ≡ (bytes_eq name key.now || is_seen seen name)
    → is_seen (match_ordering o (key ∷ first ∷ seen) (first ∷ seen) (first ∷ insert_key text_cmp seen key)) name
    ≡ (bytes_eq name key.now || is_seen (first ∷ seen) name)
seen-insert_at Less seen first key name is rest = refl
seen-insert_at Equal seen first key name is rest =
    let same : key.now ≡ first.now = (bytes_eq-Decides key.now first.now).0 (sym (is_eq-slice_cmp key.now first.now) ∙ ap is_eq is) in
    rw same (or_twice (bytes_eq name first.now) (is_seen seen name))
seen-insert_at Greater seen first key name is rest =
    ap (λ (x : Bool). bytes_eq name first.now || x) rest ∙ or_swap (bytes_eq name first.now) (bytes_eq name key.now) (is_seen seen name)

pub is_seen-insert_key : (seen : List (Bor (List ℕ))) (key : Bor (List ℕ)) (name : List ℕ)
    → is_seen (insert_key text_cmp seen key) name ≡ (bytes_eq name key.now || is_seen seen name)
is_seen-insert_key [] key name = refl
is_seen-insert_key (first ∷ seen) key name = seen-insert_at _ seen first key name refl (is_seen-insert_key seen key name)

regrouped : (a b c d : Bool) → (not (a || b) && (not c && d)) ≡ (not (a || c) && (not b && d))
regrouped true b c d = refl
regrouped false true true d = refl
regrouped false true false d = refl
regrouped false false true d = refl
regrouped false false false d = refl

pub are_new-insert_key : (seen : List (Bor (List ℕ))) (key : Bor (List ℕ)) (names : List (List ℕ))
    → are_new (insert_key text_cmp seen key) names ≡ (not (list_any (bytes_eq key.now) names) && are_new seen names)
are_new-insert_key seen key [] = refl
are_new-insert_key seen key (name ∷ names) =
    rw (is_seen-insert_key seen key name, are_new-insert_key seen key names, bytes_eq_both_ways name key.now)
    (regrouped (bytes_eq key.now name) (is_seen seen name) (list_any (bytes_eq key.now) names) (are_new seen names))

moved : (a b c : Bool) → (a && (b && c)) ≡ ((b && a) && c)
moved true true c = refl
moved true false c = refl
moved false true c = refl
moved false false c = refl

-- a new name is put among those that were seen
pub new_is_seen : (seen : List (Bor (List ℕ))) (key : Bor (List ℕ)) (names : List (List ℕ)) → is_seen seen key.now ≡ false
    → are_new_apart seen (key.now ∷ names) ≡ are_new_apart (insert_key text_cmp seen key) names
unfolding names_differ
new_is_seen seen key names new =
    rw (new, are_new-insert_key seen key names) (moved (are_new seen names) (not (list_any (bytes_eq key.now) names)) (names_differ names))

-- a name that was seen
pub seen_again : (seen : List (Bor (List ℕ))) (key : Bor (List ℕ)) (names : List (List ℕ)) → is_seen seen key.now ≡ true
    → are_new_apart seen (key.now ∷ names) ≡ false
seen_again seen key names again = rw again refl

all_new : (names : List (List ℕ)) → are_new [] names ≡ true
all_new [] = refl
all_new (name ∷ names) = all_new names

pub none_seen : (names : List (List ℕ)) → are_new_apart [] names ≡ names_differ names
none_seen names = rw (all_new names) refl

not_false : (test : Bool) → not test ≡ false → test ≡ true
not_false true h = refl
not_false false h = cc

-- the items that are left, of which the first has a new name
pub goes_on : {X : Type 0} (name_of : X → List ℕ) (seen now : List (Bor (List ℕ))) (key : Bor (List ℕ)) (before rest : List X) (x : X) (whole added : Bool)
    → before ≡ x ∷ rest → key.now ≡ name_of x → added ≡ not (list_any (is_at (text_cmp key)) seen) → added ≡ true → now ≡ insert_key text_cmp seen key
    → are_new_apart seen (map name_of before) ≡ whole → are_new_apart now (map name_of rest) ≡ whole
goes_on {X} name_of seen now key before rest x whole added at named is new_one inserted so_far =
    let new : is_seen seen key.now ≡ false = sym (contains-is seen key) ∙ not_true (list_any (is_at (text_cmp key)) seen) (sym is ∙ new_one) in
    ap (λ (keys : List (Bor (List ℕ))). are_new_apart keys (map name_of rest)) inserted
    ∙ (sym (new_is_seen seen key (map name_of rest) new)
    ∙ (ap (λ (name : List ℕ). are_new_apart seen (name ∷ map name_of rest)) named
    ∙ (sym (ap (λ (items : List X). are_new_apart seen (map name_of items)) at) ∙ so_far)))

-- the first of them has a name that was seen
pub stops : {X : Type 0} (name_of : X → List ℕ) (seen : List (Bor (List ℕ))) (key : Bor (List ℕ)) (before rest : List X) (x : X) (whole added : Bool)
    → before ≡ x ∷ rest → key.now ≡ name_of x → added ≡ not (list_any (is_at (text_cmp key)) seen) → added ≡ false
    → are_new_apart seen (map name_of before) ≡ whole → false ≡ whole
stops {X} name_of seen key before rest x whole added at named is old so_far =
    let again : is_seen seen key.now ≡ true = sym (contains-is seen key) ∙ not_false (list_any (is_at (text_cmp key)) seen) (sym is ∙ old) in
    sym (seen_again seen key (map name_of rest) again)
    ∙ (ap (λ (name : List ℕ). are_new_apart seen (name ∷ map name_of rest)) named
    ∙ (sym (ap (λ (items : List X). are_new_apart seen (map name_of items)) at) ∙ so_far))

-- none is left
pub ends : {X : Type 0} (name_of : X → List ℕ) (seen : List (Bor (List ℕ))) (before : List X) (whole : Bool)
    → before ≡ [] → are_new_apart seen (map name_of before) ≡ whole → true ≡ whole
unfolding names_differ
ends {X} name_of seen before whole at so_far = sym (ap (λ (items : List X). are_new_apart seen (map name_of items)) at) ∙ so_far

-- none was seen yet
pub begins : {X : Type 0} (name_of : X → List ℕ) (seen : List (Bor (List ℕ))) (items : List X) → seen ≡ []
    → are_new_apart seen (map name_of items) ≡ names_differ (map name_of items)
begins name_of seen items empty =
    ap (λ (keys : List (Bor (List ℕ))). are_new_apart keys (map name_of items)) empty ∙ none_seen (map name_of items)
