-- How the kinds of lines are put behind one another.
use Rattle.std.proofs.Common.{◌≡◌, ◌∙◌, ℕ, List, [], ◌∷◌, ◌++◌, map, sym, append_assoc}
use Rattle.std.proofs.lemmas.List.{append-nil}

pub one_more : {X : Type 0} (f : List ℕ → X) (kinds now all : List X) (left rest : List (List ℕ)) (line : List ℕ) → left ≡ line ∷ rest
    → now ≡ kinds ++ f line ∷ [] → kinds ++ map f left ≡ all → now ++ map f rest ≡ all
one_more {X} f kinds now all left rest line is more so_far =
    rw more (append_assoc kinds (f line ∷ []) (map f rest) ∙ rw is at so_far)

pub no_more : {X : Type 0} (f : List ℕ → X) (kinds all : List X) (left : List (List ℕ)) → left ≡ [] → kinds ++ map f left ≡ all → kinds ≡ all
no_more {X} f kinds all left is so_far = sym (append-nil kinds) ∙ rw is at so_far
