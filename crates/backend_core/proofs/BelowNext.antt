-- Each mailbox of a home has its UIDs below its UIDNEXT: so it is at a booted home, and every step keeps it.
use Rattle.std.proofs.Math.Logic.{⊎_elim}
use Rattle.std.proofs.Common.{◌≡◌, ◌≢◌, ℕ, List, None, Some, sym, ◌∙◌, ap, subst}
use Rattle.std.specs.Ordering.{nat_cmp}
use Rattle.std.specs.Cmp.Lexicographic.{slice_cmp}
use Rattle.mur_base.proofs.MapLaws.{names_apart, same_or_other, value_at-with_value}
use Rattle.mur_base.specs.declared.home.Location.{Location}
use Rattle.link_msg.specs.declared.ask.FrontAsk.{FrontAsk}
use Rattle.backend_core.specs.declared.backend.Backend.{Backend}
use Rattle.node_record.specs.declared.held.Held.{Held}
use Rattle.backend_core.specs.HomeStep.{held_at}
use Rattle.mail_store.specs.Kept.{AreUidsBelowNext}
use Rattle.backend_core.specs.HomeLaws.{HasUidsBelowNext}
use Rattle.backend_core.specs.Plan.{booted, plan_of}
use Rattle.backend_core.specs.Step.{home_step}
use Rattle.backend_core.proofs.Leaves.{Leaves, stays, turns, leaves}
use Rattle.backend_core.proofs.Others.{others_stay}
use Rattle.backend_core.proofs.PlanKeeps.{plan_keeps}
use Rattle.backend_core.proofs.PlanLeaves.{left_by}

pub booted_below : (me : Location) → HasUidsBelowNext (booted me)
booted_below me = λ name held there. let no : None ≡ Some held = there in cc

-- the mailbox of the name that was asked for
mine_by : (home : Backend) (name : List ℕ) (after : Backend) (held : Held) → HasUidsBelowNext home → held_at after name ≡ Some held
    → Leaves home name after → AreUidsBelowNext held.content
mine_by home name after held below there (stays is) = below name held (ap (λ (h : Backend). held_at h name) (sym is) ∙ there)
mine_by home name after held below there (turns old content was opened follows keeps is) =
    let later = record old { content = content } in
    let found = value_at-with_value (slice_cmp nat_cmp) names_apart home.held name later old was in
    let one : later ≡ held = cc (found, ap (λ (h : Backend). held_at h name) (sym is) ∙ there) in
    subst (λ (h : Held). AreUidsBelowNext h.content) one (keeps (below name old was))

pub step_stays_below : (home : Backend) (ask : FrontAsk) → HasUidsBelowNext home → HasUidsBelowNext (home_step home ask).home
step_stays_below home ask below = λ name held there.
    ⊎_elim
    (λ (e : name ≡ ask.name). mine_by home ask.name (home_step home ask).home held below
    (subst (λ n. held_at (home_step home ask).home n ≡ Some held) e there) (leaves home ask))
    (λ (ne : name ≢ ask.name). below name held (sym (others_stay home ask name ne) ∙ there))
    (same_or_other (slice_cmp nat_cmp) names_apart name ask.name)

pub plan_stays_below : (home : Backend) (from : List ℕ) (ask : FrontAsk) → HasUidsBelowNext home → HasUidsBelowNext (plan_of home from ask).home
plan_stays_below home from ask below =
    plan_keeps (λ (held : Held). AreUidsBelowNext held.content) home from ask below
    (λ name after left held there. mine_by home name after held below there (left_by home name after left))
