-- The run of merged logs, and of which logs.
use Rattle.std.specs.Prelude.{◌≡◌, ℕ, List, ◌++◌, map}
use Rattle.record_merge.specs.declared.logged.Logged.{Logged}
use Rattle.record_merge.specs.declared.logged.MergedStep.{MergedStep}
use Rattle.record_merge.specs.declared.logged.Sent.{Sent}
use Rattle.record_merge.specs.Rules.{Rules}
use Rattle.record_merge.specs.Logs.{AreLogs, IsMerged, log_at}
use Rattle.record_merge.specs.Replay.{taken_from, logged_inputs, replayed, outputs_of, sent_to}
use Rattle.record_merge.specs.Run.{Service, happenings_of, run_service}

abbrev pub IsBeginning : {M : Type 0} → List (Sent M) → List (Sent M) → Type 0
IsBeginning {M = M} taken sent = (rest : List (Sent M)) × (taken ++ rest ≡ sent)

module _ {S I O M : Type 0} (rules : Rules S I O M) where
  -- What each log took from another node is a beginning of what was on the link at the start, and then of what the replay of the
  -- other node's log sends.
  abbrev pub IsClosed : (ℕ → ℕ → List (Sent M)) → (ℕ → S) → (ℕ → List (Logged I)) → Type 0
  IsClosed waiting state log = (from to : ℕ)
      → IsBeginning (taken_from rules from (log to)) (waiting from to ++ sent_to rules to (state from) (log from))

  -- the links have these messages
  abbrev pub HasOnItsWay : Service S I O M → (ℕ → ℕ → List (Sent M)) → Type 0
  HasOnItsWay service waiting = (from to : ℕ) → service.link from to ≡ map (λ (sent : Sent M). sent.message) (waiting from to)

  -- each node took the inputs of its log in their order, is as its log's replay, and gave its outputs
  pub record RunsAsLogged (begun : Service S I O M) (log : ℕ → List (Logged I)) (end : Service S I O M) : Type 0 where
    pub state : (node : ℕ) → end.state node ≡ replayed rules (begun.state node) (log node)
    pub took : (node : ℕ) → end.took node ≡ begun.took node ++ logged_inputs (log node)
    pub gave : (node : ℕ) → end.gave node ≡ begun.gave node ++ outputs_of rules (begun.state node) (log node)

  -- merged logs run as logged
  abbrev pub MergedRuns : Type 0
  MergedRuns = (logs : List (List (Logged I))) (merged : List (MergedStep I)) (begun : Service S I O M) (waiting : ℕ → ℕ → List (Sent M))
      → AreLogs logs → IsMerged logs merged → HasOnItsWay begun waiting → IsClosed waiting begun.state (log_at logs)
      → RunsAsLogged begun (log_at logs) (run_service rules begun (happenings_of rules merged))
