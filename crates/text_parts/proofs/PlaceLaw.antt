-- What is read as a server is the name of a node.
use Rattle.std.proofs.Common.{◌≡◌, ℕ, ◌-◌, ◌<◌, ◌≤◌, List, [], ◌∷◌, length, Bool, true, false, ◌&&◌, nat_lt, nat_le, nat_eq, not, cond, None, Some, Ok, refl, arith, leb-true, le-leb, max, min}
use Rattle.std.proofs.lemmas.Bool.Decides.{nat_tests}
use Rattle.std.specs.List.{list_all}
use Rattle.mur_base.specs.Names.{is_short_name_byte, has_short_name_bytes, short_name_fault}
use Rattle.mur_base.specs.declared.limits.TheConstants.{SHORT_NAME_LIMIT}
use Rattle.mur_base.specs.declared.name.NameFault.TheVariants.{Empty, TooLong, BadByte}
use Rattle.grammar.specs.Exact.{Good, any}
use Rattle.grammar.specs.Part.{exactly}
use Rattle.grammar.specs.Runs.{some}
use Rattle.grammar.proofs.Conditions.{and_both, and_left, and_right}
use Rattle.grammar.proofs.RepetitionLaw.{good_exactly}
use Rattle.text_parts.specs.Locations.{run_within, short_names}
use Rattle.text_parts.proofs.LocationsLaw.{exactly_length}

is_node : (s : List ℕ) → list_all is_short_name_byte s ≡ true → 0 < length s → length s ≤ 64 → short_name_fault s ≡ None
unfolding short_name_fault has_short_name_bytes
is_node s all some few =
    let there : nat_eq (length s) 0 ≡ false = grind (arith, nat_tests) in
    let short : nat_lt SHORT_NAME_LIMIT (length s) ≡ false = grind (arith, nat_tests) in
    rw (there, short, all) refl

some_length : (s : List ℕ) → some s ≡ true → 0 < length s
some_length [] h = cc
some_length (c ∷ s) h = omega arith

pub short_is_node : (s : List ℕ) → short_names.whole s ≡ true → short_name_fault s ≡ None
short_is_node s h =
    let begins = and_left _ _ h in
    is_node s (and_left _ _ begins) (some_length s (and_right (list_all is_short_name_byte s && nat_le (length s) SHORT_NAME_LIMIT) _ h))
    (leb-true _ _ (and_right (list_all is_short_name_byte s) _ begins))

pub server_is_node : (least most : ℕ) (s : List ℕ) → 1 ≤ least → most ≤ 64 → (run_within least most is_short_name_byte).whole s ≡ true → short_name_fault s ≡ None
server_is_node least most s low high h =
    let begins = and_left _ _ h in
    let few : length s ≤ most = leb-true _ _ (and_right (list_all is_short_name_byte s) _ begins) in
    let many : least ≤ length s = leb-true _ _ (and_right (list_all is_short_name_byte s && nat_le (length s) most) _ h) in
    is_node s (and_left _ _ begins) (omega arith) (omega arith)

-- the name of a node has so few bytes of names
pub node_is_short : (s : List ℕ) → short_name_fault s ≡ None → short_names.whole s ≡ true
unfolding short_name_fault has_short_name_bytes
node_is_short [] n = absurd (cc)
node_is_short (c ∷ s) n =
    by_tests (nat_eq (length (c ∷ s)) 0) (nat_lt SHORT_NAME_LIMIT (length (c ∷ s))) (list_all is_short_name_byte (c ∷ s)) refl refl refl n
  where
    by_tests : (none long all : Bool) → nat_eq (length (c ∷ s)) 0 ≡ none → nat_lt SHORT_NAME_LIMIT (length (c ∷ s)) ≡ long → list_all is_short_name_byte (c ∷ s) ≡ all
        → cond none (Some Empty) (cond long (Some TooLong) (cond (not all) (Some BadByte) None)) ≡ None → short_names.whole (c ∷ s) ≡ true
    by_tests true long all e l a n = absurd (cc)
    by_tests false true all e l a n = absurd (cc)
    by_tests false false false e l a n = absurd (cc)
    by_tests false false true e l a n = and_both _ _ (and_both _ _ a (le-leb _ _ (grind (arith, nat_tests, l)))) refl

-- what is read as so many bytes of names is the name of a node
pub exact_is_node : (n : ℕ) (bytes v rest : List ℕ) → 1 ≤ n → n ≤ 64 → (exactly is_short_name_byte n).at bytes ≡ Ok (v, rest) → short_name_fault v ≡ None
unfolding is_short_name_byte
exact_is_node n bytes v rest some few e =
    let good : Good ℕ any (exactly is_short_name_byte n) = good_exactly is_short_name_byte any 97 refl n in
    let found = good.sound bytes rest v e in
    let parts = exactly_length is_short_name_byte n found.0 v found.2 in
    is_node v parts.1 (omega (arith, parts.0, some)) (omega (arith, parts.0, few))
