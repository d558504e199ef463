-- How a list of what each member is comes about, one member behind the other.
use Rattle.std.proofs.Common.{◌≡◌, ℕ, List, [], ◌∷◌, ◌++◌, ◌+◌, ◌<◌, length, get_or, drop, Option, None, Some, option_map, option_and_then, refl, sym, ap, ◌∙◌, append_assoc}
use Rattle.std.proofs.lemmas.List.{append-nil, at_drop_more}
use Rattle.serde_json.specs.Data.{Data}
use Rattle.serde_json.specs.View.{view, items_view}
use Rattle.serde_json.specs.declared.value.Value.{Value}
use Rattle.mur_config.specs.Json.{each_item, each_of}

-- what was made, with what the members that are left are, is the whole
abbrev pub IsSoFar : {S T : Type 0} → (S → Option T) → List T → List S → Option (List T) → Type 0
IsSoFar {S} {T} is made left whole = option_map (λ (others : List T). made ++ others) (each_of is left) ≡ whole

pub items_at : {X : Type 0} (xs : List X) (i : ℕ) (x : X) → i < length xs → x ≡ get_or xs i x → drop i xs ≡ x ∷ drop (i + 1) xs
items_at {X} xs i x h is = at_drop_more (λ (items : List X). items) xs i x h ∙ ap (λ (y : X). y ∷ drop (i + 1) xs) (sym is)

none_made : {T : Type 0} (whole : Option (List T)) → option_map (λ (others : List T). [] ++ others) whole ≡ whole
none_made None = refl
none_made (Some others) = refl

pub begins : {S T : Type 0} (is : S → Option T) (made : List T) (xs : List S) → made ≡ [] → IsSoFar is made xs (each_of is xs)
begins is made xs empty = rw empty (none_made (each_of is xs))

one_more : {T : Type 0} (made : List T) (one : T) (others : Option (List T))
    → option_map (λ (others : List T). (made ++ one ∷ []) ++ others) others
    ≡ option_map (λ (others : List T). made ++ others) (option_map (λ (others : List T). one ∷ others) others)
one_more made one None = refl
one_more made one (Some others) = ap Some (append_assoc made (one ∷ []) others)

pub goes_on : {S T : Type 0} (is : S → Option T) (made now : List T) (before rest : List S) (x : S) (one : T) (whole : Option (List T))
    → before ≡ x ∷ rest → is x ≡ Some one → now ≡ made ++ one ∷ [] → IsSoFar is made before whole → IsSoFar is now rest whole
unfolding each_of
goes_on is made now before rest x one whole at made_one more so_far =
    rw more (one_more made one (each_of is rest) ∙ rw (at, made_one) at so_far)

pub stops : {S T : Type 0} (is : S → Option T) (made : List T) (before rest : List S) (x : S) (whole : Option (List T))
    → before ≡ x ∷ rest → is x ≡ None → IsSoFar is made before whole → None ≡ whole
unfolding each_of
stops is made before rest x whole at no_one so_far = rw (at, no_one) at so_far

pub ends : {S T : Type 0} (is : S → Option T) (made : List T) (before : List S) (whole : Option (List T))
    → before ≡ [] → IsSoFar is made before whole → Some made ≡ whole
unfolding each_of
ends is made before whole at so_far = ap Some (sym (append-nil made)) ∙ rw at at so_far

-- the items of an array, as the values that they are
pub each_item-each_of : {T : Type 0} (is : Data → Option T) (values : List Value) → each_item is (items_view values) ≡ each_of (λ (value : Value). is (view value)) values
unfolding each_item each_of
each_item-each_of is [] = refl
each_item-each_of {T} is (value ∷ values) =
    ap (λ (others : Option (List T)). option_and_then (λ (one : T). option_map (λ (others : List T). one ∷ others) others) (is (view value)))
    (each_item-each_of is values)
