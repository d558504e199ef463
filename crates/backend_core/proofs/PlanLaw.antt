-- A step of a backend for an ask is the operation that was asked for, with its answer to who asked.
use Rattle.std.proofs.Common.{◌≡◌, ℕ, List, Option, None, Some, refl, ◌∙◌, ap}
use Rattle.mur_base.specs.declared.point.AskId.{AskId}
use Rattle.link_msg.specs.declared.ask.FrontAsk.{FrontAsk}
use Rattle.backend_core.specs.declared.backend.Backend.{Backend}
use Rattle.backend_core.specs.declared.op_plan.OpPlan.{OpPlan}
use Rattle.backend_core.specs.AskPlan.{ask_plan}
use Rattle.backend_core.specs.HomeLaws.{RisesAt}
use Rattle.backend_core.specs.HomeStep.{HomeStep}
use Rattle.backend_core.specs.Plan.{answer_outs, owes, plan_of, settles}
use Rattle.backend_core.specs.Step.{home_step}
use Rattle.backend_core.proofs.StepLaw.{carried_if, plan_does}

settled_home : (home : Backend) (from : List ℕ) (id : AskId) (plan : Option OpPlan) → (settles home (owes from id plan)).home ≡ (carried_if home plan).home
settled_home home from id None = refl
settled_home home from id (Some plan) = refl

settled_outs : (home : Backend) (from : List ℕ) (id : AskId) (plan : Option OpPlan)
    → (settles home (owes from id plan)).outs ≡ answer_outs from id (carried_if home plan).counts (carried_if home plan).body
unfolding answer_outs
settled_outs home from id None = refl
settled_outs home from id (Some plan) = refl

pub plan_leaves : (home : Backend) (from : List ℕ) (ask : FrontAsk) → RisesAt home ask.name
    → (plan_of home from ask).home ≡ (home_step home ask).home
unfolding plan_of
plan_leaves home from ask rising =
    settled_home home from ask.id (ask_plan home ask) ∙ ap (λ (s : HomeStep). s.home) (plan_does home ask rising)

pub plan_tells : (home : Backend) (from : List ℕ) (ask : FrontAsk) → RisesAt home ask.name
    → (plan_of home from ask).outs ≡ answer_outs from ask.id (home_step home ask).counts (home_step home ask).body
unfolding plan_of
plan_tells home from ask rising =
    settled_outs home from ask.id (ask_plan home ask)
    ∙ ap (λ (s : HomeStep). answer_outs from ask.id s.counts s.body) (plan_does home ask rising)
