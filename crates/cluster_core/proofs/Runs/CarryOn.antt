-- Steps of the loop that carries outputs out.
use Rattle.std.proofs.Common.{◌≡◌, ℕ, ◌+◌, Bool, true, false, if◌then◌else◌, List, [], ◌∷◌, length, refl, sym, ◌∙◌, ap, arith, subst}
use Rattle.link_msg.specs.declared.out.Out.{Out}
use Rattle.cluster_core.specs.declared.world.World.{World}
use Rattle.cluster_core.specs.World.{carry, carry_all, carry_or_lose, is_lost, not_lost}
use Rattle.cluster_core.proofs.Nodes.Carried.{one_carried}

pub empty_by_length : {X : Type 0} (xs : List X) → length xs ≡ 0 → xs ≡ []
empty_by_length [] h = refl
empty_by_length (x ∷ xs) h = absurd (omega arith)

pub shorter : {X : Type 0} (xs ys : List X) (x : X) (m n : ℕ) → m ≡ length xs → xs ≡ x ∷ ys → n + 1 ≡ m → n ≡ length ys
shorter xs ys x m n h e k = omega (arith, ap length e)

-- what is left to carry out of the outputs of a step
abbrev pub carries : List ℕ → World → List Out → World
carries node world outs = carry_all node world (not_lost world.broken node outs)

-- an output is carried out, or lost

goes_by : (node : List ℕ) (world : World) (out : Out) (rest : List Out) (lost : Bool) → is_lost world.broken node out ≡ lost
    → carries node world (out ∷ rest) ≡ carry_all node world (if lost then not_lost world.broken node rest else out ∷ not_lost world.broken node rest)
unfolding not_lost
goes_by node world out rest lost is =
    ap (λ b. carry_all node world (if b then not_lost world.broken node rest else out ∷ not_lost world.broken node rest)) is

left_by : (node : List ℕ) (world : World) (out : Out) (rest : List Out) (lost : Bool) → is_lost world.broken node out ≡ lost
    → carries node (if lost then world else carry node world out) rest ≡ carries node world (out ∷ rest)
unfolding carry_all
left_by node world out rest true is = sym (goes_by node world out rest true is)
left_by node world out rest false is =
    ap (λ broken. carry_all node (carry node world out) (not_lost broken node rest)) (one_carried node world out).broken
    ∙ sym (goes_by node world out rest false is)

pub carried_on : (node : List ℕ) (world next : World) (out : Out) (all rest : List Out) → all ≡ out ∷ rest → next ≡ carry_or_lose node world out
    → carries node next rest ≡ carries node world all
carried_on node world next out all rest e h =
    ap (λ w. carries node w rest) h ∙ left_by node world out rest (is_lost world.broken node out) refl ∙ ap (carries node world) (sym e)

nothing_left : (node : List ℕ) (world : World) → world ≡ carries node world []
unfolding carry_all not_lost
nothing_left node world = refl

pub carried_end : (node : List ℕ) (world : World) (left : List Out) → length left ≡ 0 → world ≡ carries node world left
carried_end node world left h = subst (λ l. world ≡ carries node world l) (sym (empty_by_length left h)) (nothing_left node world)
