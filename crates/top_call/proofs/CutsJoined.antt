-- The pieces of a text, joined, are the text, and none is empty.
use Rattle.std.proofs.Common.{◌≡◌, ℕ, ◌<◌, Bool, true, false, nat_eq, List, [], ◌∷◌, length, refl, ap, ◌∙◌, arith}
use Rattle.std.specs.Prelude.{All}
use Rattle.std.specs.List.{flat_map}
use Rattle.std.proofs.lemmas.List.Elements.{All-nil, All-cons, All-tail}
use Rattle.mur_base.specs.Names.{with_first}
use Rattle.schedule_text.specs.Cuts.{cuts_of}

abbrev itself : List ℕ → List ℕ
itself piece = piece

join_first : (b : ℕ) (pieces : List (List ℕ)) → flat_map itself (with_first b pieces) ≡ b ∷ flat_map itself pieces
unfolding with_first
join_first b [] = refl
join_first b (piece ∷ pieces) = refl

join_by : (b : ℕ) (text : List ℕ) → flat_map itself (cuts_of text) ≡ text → (feed : Bool) → nat_eq b 10 ≡ feed
    → flat_map itself (cuts_of (b ∷ text)) ≡ b ∷ text
unfolding cuts_of
join_by b text ih true e = rw e (ap (λ (it : List ℕ). b ∷ it) ih)
join_by b text ih false e = rw e (join_first b (cuts_of text) ∙ ap (λ (it : List ℕ). b ∷ it) ih)

pub join_cuts : (text : List ℕ) → flat_map itself (cuts_of text) ≡ text
unfolding cuts_of
join_cuts [] = refl
join_cuts (b ∷ text) = join_by b text (join_cuts text) (nat_eq b 10) refl

abbrev HasBytes : List ℕ → Type 0
HasBytes piece = 0 < length piece

first_something : (b : ℕ) (pieces : List (List ℕ)) → All HasBytes pieces → All HasBytes (with_first b pieces)
unfolding with_first
first_something b [] each = All-cons HasBytes (b ∷ []) [] (omega arith) each
first_something b (piece ∷ pieces) each = All-cons HasBytes (b ∷ piece) pieces (omega arith) (All-tail HasBytes piece pieces each)

something_by : (b : ℕ) (text : List ℕ) → All HasBytes (cuts_of text) → (feed : Bool) → nat_eq b 10 ≡ feed → All HasBytes (cuts_of (b ∷ text))
unfolding cuts_of
something_by b text each true e = rw e (All-cons HasBytes (b ∷ []) (cuts_of text) (omega arith) each)
something_by b text each false e = rw e (first_something b (cuts_of text) each)

pub cuts_something : (text : List ℕ) → All HasBytes (cuts_of text)
unfolding cuts_of
cuts_something [] = All-nil HasBytes
cuts_something (b ∷ text) = something_by b text (cuts_something text) (nat_eq b 10) refl
