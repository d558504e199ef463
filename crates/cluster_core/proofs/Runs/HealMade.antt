-- What a heal does is the same whatever joins were made before, and it takes at most one step for each link.
use Rattle.std.proofs.Common.{◌≡◌, ℕ, ◌+◌, ◌≤◌, ◌<◌, ◌^◌, Bool, true, false, List, [], ◌∷◌, length, Result, Ok, Err, OnOk, ◌∙◌, ap, subst, arith}
use Rattle.mur_config.specs.declared.node.Link.{Link}
use Rattle.schedule_text.specs.Brings.{most_links, steps_of}
use Rattle.schedule_text.specs.declared.event.Event.TheVariants.{Heal, Join}
use Rattle.cluster_core.specs.declared.world.World.{World}
use Rattle.cluster_core.specs.Flow.{Healing, heal_by, heal_link, heal_links}
use Rattle.cluster_core.specs.Room.{HasRoom}
use Rattle.cluster_core.specs.World.{may_join, steps_by}
use Rattle.cluster_core.proofs.Runs.RoomLaw.{step_steps}

-- no join so far
abbrev pub unhealed : World → Healing
unhealed world = record { world = world; made = [] }

by_alike : (link : Link) (may : Bool) (one other : Healing) → one.world ≡ other.world → (heal_by may one link).world ≡ (heal_by may other link).world
unfolding heal_by
by_alike link true one other same = ap (λ w. steps_by w (Join link.from link.to)) same
by_alike link false one other same = same

link_alike : (link : Link) (one other : Healing) → one.world ≡ other.world → (heal_link one link).world ≡ (heal_link other link).world
unfolding heal_link
link_alike link one other same =
    ap (λ (w : World). (heal_by (may_join w link.from link.to) one link).world) same
    ∙ by_alike link (may_join other.world link.from link.to) one other same

links_alike : (links : List Link) (one other : Healing) → one.world ≡ other.world → (heal_links one links).world ≡ (heal_links other links).world
unfolding heal_links
links_alike [] one other same = same
links_alike (link ∷ links) one other same = links_alike links (heal_link one link) (heal_link other link) (link_alike link one other same)

-- a link more is over
pub heal_goes_on : (all rest : List Link) (link : Link) (world next end : World) → all ≡ link ∷ rest → next ≡ (heal_link (unhealed world) link).world
    → (heal_links (unhealed world) all).world ≡ end → (heal_links (unhealed next) rest).world ≡ end
unfolding heal_links
heal_goes_on all rest link world next end e n whole =
    links_alike rest (unhealed next) (heal_link (unhealed world) link) n ∙ subst (λ l. (heal_links (unhealed world) l).world ≡ end) e whole

-- none is left
pub heal_over : (left : List Link) (world end : World) → left ≡ [] → (heal_links (unhealed world) left).world ≡ end → world ≡ end
unfolding heal_links
heal_over left world end none whole = subst (λ l. (heal_links (unhealed world) l).world ≡ end) none whole

-- for each link that is left there is a step
pub heal_room : (all rest : List Link) (link : Link) (steps later : ℕ) → all ≡ link ∷ rest → later ≤ steps + 1 → steps + length all < 2 ^ 64
    → later + length rest < 2 ^ 64
heal_room all rest link steps later e few room = omega (arith, few, room, ap length e)

-- a join is one step
pub join_counts : {X E : Type 0} (result : Result X E) (world next : World) (one other : List ℕ) → OnOk result (next ≡ steps_by world (Join one other))
    → OnOk result (next.steps ≤ world.steps + 1)
join_counts (Ok x) world next one other e = omega (arith, ap (λ (w : World). w.steps) e, step_steps world (Join one other))
join_counts (Err x) world next one other e = tt

-- there are as many steps as a configuration has links at most
pub heal_fits : (world : World) (links all : List Link) → HasRoom world Heal → length all ≤ most_links → links ≡ all → world.steps + length links < 2 ^ 64
unfolding steps_of
heal_fits world links all room few same = omega (arith, room.steps, few, ap length same)
