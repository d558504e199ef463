-- A step leaves every other name as it was, and the order of the names.
use Rattle.std.proofs.Common.{◌≡◌, ◌≢◌, ℕ, List, ◌∙◌, ap, sym, subst}
use Rattle.std.specs.Ordering.{nat_cmp}
use Rattle.std.specs.Cmp.Lexicographic.{slice_cmp}
use Rattle.mur_base.proofs.MapLaws.{names_apart, value_at-with_value-other}
use Rattle.mur_base.proofs.MapOrder.{with_value-in_order}
use Rattle.link_msg.specs.declared.ask.FrontAsk.{FrontAsk}
use Rattle.backend_core.specs.declared.backend.Backend.{Backend}
use Rattle.backend_core.specs.HomeStep.{held_at}
use Rattle.backend_core.specs.HomeLaws.{HasNamesInOrder}
use Rattle.backend_core.specs.Step.{home_step}
use Rattle.backend_core.proofs.Leaves.{Leaves, stays, turns, leaves}

pub other_by : (home : Backend) (name other : List ℕ) (after : Backend) → other ≢ name → Leaves home name after → held_at after other ≡ held_at home other
other_by home name other after ne (stays is) = ap (λ (h : Backend). held_at h other) is
other_by home name other after ne (turns held content found opened follows below is) =
    ap (λ (h : Backend). held_at h other) is
    ∙ value_at-with_value-other (slice_cmp nat_cmp) names_apart home.held name other (record held { content = content }) ne

-- another name keeps what the home has of it
pub others_stay : (home : Backend) (ask : FrontAsk) (other : List ℕ) → other ≢ ask.name → held_at (home_step home ask).home other ≡ held_at home other
others_stay home ask other ne = other_by home ask.name other (home_step home ask).home ne (leaves home ask)

order_by : (home : Backend) (name : List ℕ) (after : Backend) → HasNamesInOrder home → Leaves home name after → HasNamesInOrder after
order_by home name after ordered (stays is) = subst HasNamesInOrder (sym is) ordered
order_by home name after ordered (turns held content found opened follows below is) =
    subst HasNamesInOrder (sym is)
    (with_value-in_order (slice_cmp nat_cmp) home.held name (record held { content = content }) ordered)

pub order_stays : (home : Backend) (ask : FrontAsk) → HasNamesInOrder home → HasNamesInOrder (home_step home ask).home
order_stays home ask ordered = order_by home ask.name (home_step home ask).home ordered (leaves home ask)
