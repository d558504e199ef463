-- Each entry of the clients is what is found at its connection.
use Rattle.std.proofs.Common.{◌≡◌, ℕ, false, cond, List, [], ◌∷◌, Some, ◌∙◌, ap, subst}
use Rattle.std.specs.List.{AllByRecursion}
use Rattle.std.specs.Map.{keys_of}
use Rattle.std.specs.Ordering.{is_eq, nat_cmp}
use Rattle.std.specs.declared.cmp.Ordering.TheVariants.{Less}
use Rattle.std.proofs.lemmas.Map.Keys.{sorted_head, sorted_tail}
use Rattle.mur_base.specs.Map.{value_at, IsInOrder}
use Rattle.mur_base.proofs.MapLaws.{numbers_apart, not_equal}
use Rattle.cluster_core.specs.declared.world.Client.{Client}
use Rattle.cluster_core.specs.declared.world.World.{World}
use Rattle.cluster_core.specs.Shown.{given_by, given_to}

abbrev Clients : Type 0
Clients = List (ℕ × Client)

abbrev IsFound : Clients → ℕ × Client → Type 0
IsFound clients entry = value_at nat_cmp clients entry.0 ≡ Some entry.1

-- clients of a world
abbrev pub AreFound : World → Clients → Type 0
AreFound world clients = AllByRecursion (IsFound world.clients) clients

apart : (low high : ℕ) → nat_cmp low high ≡ Less → is_eq (nat_cmp high low) ≡ false
apart low high less = not_equal nat_cmp numbers_apart high low (λ (same : high ≡ low).
    let no : is_eq (nat_cmp low low) ≡ false = ap is_eq (subst (λ (conn : ℕ). nat_cmp low conn ≡ Less) same less) in
    let yes = numbers_apart.itself low in cc)

behind : (entry : ℕ × Client) (all rest : Clients) → AllByRecursion (λ conn. nat_cmp entry.0 conn ≡ Less) (keys_of rest)
    → AllByRecursion (IsFound all) rest → AllByRecursion (IsFound (entry ∷ all)) rest
behind entry all [] above found = tt
behind entry all (one ∷ rest) above found =
    (ap (λ here. cond here (Some entry.1) (value_at nat_cmp all one.0)) (apart entry.0 one.0 above.0) ∙ found.0, behind entry all rest above.1 found.1)

pub each_found : (clients : Clients) → IsInOrder nat_cmp clients → AllByRecursion (IsFound clients) clients
each_found [] ordered = tt
each_found (entry ∷ clients) ordered =
    let rest = each_found clients (sorted_tail nat_cmp entry.0 (keys_of clients) ordered) in (
      ap (λ here. cond here (Some entry.1) (value_at nat_cmp clients entry.0)) (numbers_apart.itself entry.0),
      behind entry clients clients (sorted_head nat_cmp entry.0 (keys_of clients) ordered) rest,
    )

-- so what its connection was given is its own
pub given_is : (world : World) (entry : ℕ × Client) → IsFound world.clients entry → given_to world entry.0 ≡ (entry.1).given
unfolding given_to
given_is world entry found = ap given_by found
