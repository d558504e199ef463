-- A list that is made of what each item of another one says, one item after the other.
use Rattle.std.proofs.Common.{◌≡◌, List, [], ◌∷◌, ◌++◌, sym, subst, ◌∙◌, append_assoc}
use Rattle.std.specs.List.{flat_map}
use Rattle.std.proofs.lemmas.List.{append-nil}

pub one_more : {X Y : Type 0} (f : X → List Y) (left rest : List X) (item : X) (taken more all : List Y) → left ≡ item ∷ rest
    → more ≡ taken ++ f item → taken ++ flat_map f left ≡ all → more ++ flat_map f rest ≡ all
one_more {X} {Y} f left rest item taken more all is now holds =
    rw now
    (append_assoc taken (f item) (flat_map f rest) ∙ subst (λ (items : List X). taken ++ flat_map f items ≡ all) is holds)

pub no_more : {X Y : Type 0} (f : X → List Y) (left : List X) (taken all : List Y) → left ≡ [] → taken ++ flat_map f left ≡ all → taken ≡ all
no_more {X} {Y} f left taken all is holds =
    sym (append-nil taken) ∙ subst (λ (items : List X). taken ++ flat_map f items ≡ all) is holds
