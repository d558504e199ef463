-- What a step of a backend keeps of each mailbox, from what it keeps of the one that was asked for.
use Rattle.std.proofs.Math.Logic.{⊎_elim}
use Rattle.std.proofs.Common.{◌≡◌, ◌≢◌, ℕ, List, Option, None, Some, sym, ◌∙◌, subst}
use Rattle.std.specs.Ordering.{nat_cmp}
use Rattle.std.specs.Cmp.Lexicographic.{slice_cmp}
use Rattle.mur_base.proofs.MapLaws.{names_apart, same_or_other}
use Rattle.mur_base.specs.declared.point.AskId.{AskId}
use Rattle.link_msg.specs.declared.ask.FrontAsk.{FrontAsk}
use Rattle.node_record.specs.declared.held.Held.{Held}
use Rattle.backend_core.specs.declared.backend.Backend.{Backend}
use Rattle.backend_core.specs.declared.op_plan.OpPlan.{OpPlan}
use Rattle.backend_core.specs.AskPlan.{ask_plan}
use Rattle.backend_core.specs.HomeStep.{held_at}
use Rattle.backend_core.specs.OpPlan.{home_after}
use Rattle.backend_core.specs.Plan.{owes, plan_of, settles}
use Rattle.backend_core.proofs.Others.{other_by}
use Rattle.backend_core.proofs.PlanLeaves.{Writes, WritesIf, left_by, plan_writes}

-- each mailbox of a home is so
abbrev Each : (Held → Type 0) → Backend → Type 0
Each Is home = (name : List ℕ) (held : Held) → held_at home name ≡ Some held → Is held

-- so is the mailbox of the name that was asked for, whatever is left of it
abbrev KeepsMine : (Held → Type 0) → Backend → Type 0
KeepsMine Is home = (name : List ℕ) (after : Backend) → Writes home name after → (held : Held) → held_at after name ≡ Some held → Is held

keeps_by : (Is : Held → Type 0) (home : Backend) (name : List ℕ) (plan : Option OpPlan) (from : List ℕ) (id : AskId) → Each Is home → KeepsMine Is home
    → WritesIf home name plan → Each Is (settles home (owes from id plan)).home
keeps_by Is home name None from id each mine left = each
keeps_by Is home name (Some plan) from id each mine left = λ other held there.
    ⊎_elim
    (λ (e : other ≡ name). mine name (home_after home plan.entries) left held
    (subst (λ n. held_at (home_after home plan.entries) n ≡ Some held) e there))
    (λ (ne : other ≢ name). each other held (sym (other_by home name other (home_after home plan.entries) ne (left_by home name (home_after home plan.entries) left)) ∙ there))
    (same_or_other (slice_cmp nat_cmp) names_apart other name)

pub plan_keeps : (Is : Held → Type 0) (home : Backend) (from : List ℕ) (ask : FrontAsk) → Each Is home → KeepsMine Is home
    → Each Is (plan_of home from ask).home
unfolding plan_of
plan_keeps Is home from ask each mine = keeps_by Is home ask.name (ask_plan home ask) from ask.id each mine (plan_writes home ask)
