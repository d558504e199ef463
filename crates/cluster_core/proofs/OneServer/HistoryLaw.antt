-- The history of a run, read off its marks: legal for what the clients were told and what can't be taken back, in the order of its steps, and in time.
use Rattle.std.proofs.Common.{ℕ, ◌≤◌}
use Rattle.std.specs.Prelude.{AllPairs}
use Rattle.mark_history.proofs.MomentLaw.{later_are_in_time, loses_the_open, none_is_later, steps_rise}
use Rattle.mark_history.proofs.SettledTalk.{legal_settled, settled_talk}
use Rattle.mark_history.specs.Marked.{IsLegalTo}
use Rattle.mark_history.specs.Moments.{GoOn}
use Rattle.mur_base.specs.declared.point.Point.{Point}
use Rattle.mur_config.specs.declared.config.Config.{Config}
use Rattle.imap_talk.specs.Heard.{Heard}
use Rattle.cluster_core.specs.Headline.Points.{AreMadeBy, LosesTheNext}
use Rattle.cluster_core.specs.LawSetting.{law_setting}
use Rattle.cluster_core.specs.declared.world.World.{World}
use Rattle.cluster_core.specs.Headline.OneStore.{StandsInTime}
use Rattle.cluster_core.specs.History.{history_of}
use Rattle.cluster_core.proofs.Connections.KeepsLaw.{KeepsLaw}

-- what the law says of the history of its world
pub record HistoryIs (config : Config) (heard : ℕ → Heard) (world : World) (law : KeepsLaw config heard world) : Type 0 where
  pub legal : IsLegalTo (law_setting config) (settled_talk world.marks law.story) (history_of world) law.story.course.store
  pub lost_next : LosesTheNext (settled_talk world.marks law.story) (history_of world)
  pub made_by_now : AreMadeBy world.steps (history_of world)
  pub steps_rise : AllPairs (λ (earlier later : Point). earlier.step ≤ later.step) (history_of world)

pub history_is : (config : Config) (heard : ℕ → Heard) (world : World) (law : KeepsLaw config heard world) → HistoryIs config heard world law
unfolding history_of
history_is config heard world law = record {
  legal = legal_settled (law_setting config) world.steps world.marks law.story law.is_told.marked;
  lost_next = loses_the_open (law_setting config) world.steps world.marks law.story law.is_told.marked;
  made_by_now = none_is_later (law_setting config) world.steps world.marks law.story law.is_told.marked;
  steps_rise = steps_rise (law_setting config) world.steps world.marks law.story law.is_told.marked;
}

-- and of that of a world to which it leads
abbrev pub StandsInTimeLater : Config → (now later : ℕ → Heard) → World → World → Type 0
StandsInTimeLater config now later world whole = (law : KeepsLaw config now world) → KeepsLaw config later whole
    → GoOn world.steps world.marks whole.marks → StandsInTime (settled_talk world.marks law.story) world.steps (history_of whole)

pub stands_in_time : (config : Config) (now later : ℕ → Heard) (world whole : World) → StandsInTimeLater config now later world whole
unfolding history_of
stands_in_time config now later world whole law last on =
    let its = later_are_in_time (law_setting config) world.steps whole.steps world.marks whole.marks law.story last.story law.is_told.marked last.is_told.marked on in
    record { behind_command = its.behind; before_reply = its.before }
