-- Stamps as nodes give them, and how great they get.
use Rattle.std.specs.Prelude.{◌≡◌, ℕ, ◌+◌, ◌≤◌, max, List, [], ◌∷◌, None}
use Rattle.std.specs.List.{AllByRecursion}
use Rattle.record_merge.specs.declared.logged.Logged.{Logged}
use Rattle.record_merge.specs.declared.logged.MergedStep.{MergedStep}
use Rattle.record_merge.specs.declared.logged.Sent.{Sent}
use Rattle.record_merge.specs.Rules.{Rules}
use Rattle.record_merge.specs.Logs.{IsMerged, log_at}
use Rattle.record_merge.specs.RunsAsLogged.{IsClosed}

-- no stamp is above the number of steps up to its own, if there were so many before
abbrev pub AreStampsWithin : {I : Type 0} → ℕ → List (MergedStep I) → Type 0
AreStampsWithin {I = I} count [] = Unit {0}
AreStampsWithin {I = I} count (step ∷ merged) = (step.entry.stamp ≤ count + 1) × AreStampsWithin (count + 1) merged

module _ {S I O M : Type 0} (rules : Rules S I O M) where
  -- each stamp is one more than the greater of the last one and the one that its step heard, and a client's input heard none
  abbrev pub CountsFrom : ℕ → List (Logged I) → Type 0
  CountsFrom last [] = Unit {0}
  CountsFrom last (entry ∷ log) =
      (entry.stamp ≡ max last entry.heard + 1) × (rules.taken entry.input ≡ None → entry.heard ≡ 0) × CountsFrom entry.stamp log

  -- no stamp passes the number of steps of all logs, if what was on a link at the start has the stamp 0
  abbrev pub StampsCount : Type 0
  StampsCount = (logs : List (List (Logged I))) (merged : List (MergedStep I)) (state : ℕ → S) (waiting : ℕ → ℕ → List (Sent M))
      → AllByRecursion (CountsFrom 0) logs → IsMerged logs merged
      → ((from to : ℕ) → AllByRecursion (λ (sent : Sent M). sent.stamp ≡ 0) (waiting from to))
      → IsClosed rules waiting state (log_at logs) → AreStampsWithin 0 merged
