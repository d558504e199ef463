-- In a map each entry is the one that its key finds.
use Rattle.std.proofs.Common.{◌≡◌, ℕ, true, false, List, [], ◌∷◌, Some, refl, ap, subst}
use Rattle.std.specs.Prelude.{All}
use Rattle.std.specs.List.Sorted.{IsStrictlySortedBy}
use Rattle.std.specs.Map.{keys_of}
use Rattle.std.specs.Ordering.{is_eq, nat_cmp}
use Rattle.std.specs.declared.cmp.Ordering.TheVariants.{Less}
use Rattle.std.proofs.lemmas.List.Elements.{All-nil, All-cons, All-head, All-tail, All-weaker}
use Rattle.std.proofs.lemmas.Map.Views.{All-after_first}
use Rattle.mur_base.specs.Map.{value_at, IsInOrder}
use Rattle.mur_base.proofs.MapLaws.{numbers_apart, not_equal}
use Rattle.cluster_core.specs.declared.world.Client.{Client}
use Rattle.cluster_core.specs.declared.world.World.{World}
use Rattle.cluster_core.specs.Shown.{given_by, given_to}

abbrev IsBelow : ℕ → ℕ → Type 0
IsBelow key other = nat_cmp key other ≡ Less

abbrev FoundIn : List (ℕ × Client) → ℕ × Client → Type 0
FoundIn entries entry = value_at nat_cmp entries entry.0 ≡ Some entry.1

not_itself : (key : ℕ) → nat_cmp key key ≡ Less → ⊥
not_itself key below = let same : is_eq (nat_cmp key key) ≡ true = numbers_apart.itself key in let less : is_eq (nat_cmp key key) ≡ false = ap is_eq below in cc

apart_above : (key other : ℕ) → IsBelow key other → is_eq (nat_cmp other key) ≡ false
apart_above key other below = not_equal nat_cmp numbers_apart other key (λ e. not_itself key (subst (λ o. nat_cmp key o ≡ Less) e below))

behind : (entry : ℕ × Client) (entries rest : List (ℕ × Client)) → All (IsBelow entry.0) (keys_of rest) → All (FoundIn entries) rest
    → All (FoundIn (entry ∷ entries)) rest
behind entry entries [] below found = All-nil (FoundIn (entry ∷ entries))
behind entry entries (first ∷ rest) below found =
    All-cons (FoundIn (entry ∷ entries)) first rest
    (rw (apart_above entry.0 first.0 (All-head (IsBelow entry.0) first.0 (keys_of rest) below)) (All-head (FoundIn entries) first rest found))
    (behind entry entries rest (All-tail (IsBelow entry.0) first.0 (keys_of rest) below) (All-tail (FoundIn entries) first rest found))

all_found : (entries : List (ℕ × Client)) → IsInOrder nat_cmp entries → All (FoundIn entries) entries
unfolding IsStrictlySortedBy
all_found [] sorted = All-nil (FoundIn [])
all_found (entry ∷ entries) sorted =
    All-cons (FoundIn (entry ∷ entries)) entry entries (rw (numbers_apart.itself entry.0) refl)
    (behind entry entries entries (All-after_first nat_cmp entry.0 (keys_of entries) sorted) (all_found entries sorted.1))

pub clients_found : (world : World) → IsInOrder nat_cmp world.clients
    → All (λ (client : ℕ × Client). given_to world client.0 ≡ (client.1).given) world.clients
unfolding given_to
clients_found world sorted =
    All-weaker (FoundIn world.clients) (λ (client : ℕ × Client). given_to world client.0 ≡ (client.1).given) (λ client found. ap given_by found)
    world.clients (all_found world.clients sorted)
