use Rattle.std.proofs.Common.{drop}
use Rattle.mur_config.specs.Config.{user_of_draft}
use Rattle.mur_config.specs.Json.{each_of}
use Rattle.mur_config.proofs.EachLaw.{IsSoFar}
use Rattle.mur_config.proofs.values.users_of.Given as goal

abbrev pub invariant-loop-draft : goal.invariant-loop-draft
invariant-loop-draft l = IsSoFar user_of_draft l.users (drop l.draft-index l.drafts) (each_of user_of_draft l.drafts)
