-- The master's OK to the NOOP that was sent for a command: it goes on by the records of then.
use Rattle.std.specs.Prelude.{ℕ, List}
use Rattle.feed_core.specs.Feed.{Recs}
use Rattle.mur_base.specs.declared.point.AskId.{AskId}
use Rattle.mur_model.specs.declared.session.Sess.{Sess}
use Rattle.ask_routes.specs.declared.next.Why.{Why}
use Rattle.ask_routes.specs.Ways.{ask_for, behind_ok}
use Rattle.asking_core.specs.declared.waiting.Waiting.{Waiting}
use Rattle.asking_core.specs.Answered.{WentOn, goes_on}

unfoldable pub cleared : Recs → List ℕ → List ℕ → AskId → Sess → Waiting → Why → WentOn
cleared recs master first id session it why = goes_on master id session it (behind_ok recs first (ask_for it.name it.asking.op) why)
