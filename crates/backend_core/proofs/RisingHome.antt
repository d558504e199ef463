-- The messages of each mailbox of a home stand in rising order of UID: so it is at a booted home, and every step keeps it.
use Rattle.std.proofs.Common.{◌≡◌, ℕ, List, None, Some, sym, ◌∙◌, ap, subst}
use Rattle.std.specs.Ordering.{nat_cmp}
use Rattle.std.specs.Cmp.Lexicographic.{slice_cmp}
use Rattle.mur_base.proofs.MapLaws.{names_apart, value_at-with_value}
use Rattle.mur_base.specs.declared.home.Location.{Location}
use Rattle.link_msg.specs.declared.ask.FrontAsk.{FrontAsk}
use Rattle.mail_message.specs.Boxes.{content_after_all, IsRising}
use Rattle.node_record.specs.declared.held.Held.{Held}
use Rattle.backend_core.specs.declared.backend.Backend.{Backend}
use Rattle.backend_core.specs.HomeLaws.{HasRisingUids}
use Rattle.backend_core.specs.HomeStep.{held_at}
use Rattle.backend_core.specs.Plan.{booted, plan_of}
use Rattle.backend_core.proofs.PlanKeeps.{plan_keeps}
use Rattle.backend_core.proofs.PlanLeaves.{Writes, writes_nothing, writes_changes}
use Rattle.backend_core.proofs.RisesOn.{changes_rise}

pub booted_rises : (me : Location) → HasRisingUids (booted me)
booted_rises me = λ name held there. let no : None ≡ Some held = there in cc

mine_by : (home : Backend) (name : List ℕ) (after : Backend) (held : Held) → HasRisingUids home → Writes home name after → held_at after name ≡ Some held
    → IsRising held.content.messages
mine_by home name after held rising (writes_nothing is) there = rising name held (ap (λ (h : Backend). held_at h name) (sym is) ∙ there)
mine_by home name after held rising (writes_changes old changes was opened follows below is) there =
    let later : Held = record old { content = content_after_all old.content changes } in
    let found = value_at-with_value (slice_cmp nat_cmp) names_apart home.held name later old was in
    let one : later ≡ held = cc (found, ap (λ (h : Backend). held_at h name) (sym is) ∙ there) in
    subst (λ (h : Held). IsRising h.content.messages) one (changes_rise old.content changes (rising name old was))

pub plan_rises : (home : Backend) (from : List ℕ) (ask : FrontAsk) → HasRisingUids home → HasRisingUids (plan_of home from ask).home
plan_rises home from ask rising =
    plan_keeps (λ (held : Held). IsRising held.content.messages) home from ask rising (λ name after left held there. mine_by home name after held rising left there)
