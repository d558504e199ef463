-- The replay of one node's log: its state, its outputs and its messages after the inputs of the log.
use Rattle.std.specs.Prelude.{ℕ, ◌==◌, if◌then◌else◌, List, [], ◌∷◌, ◌++◌, map, Option, None, Some}
use Rattle.record_merge.specs.declared.logged.Logged.{Logged}
use Rattle.record_merge.specs.declared.logged.Sent.{Sent}
use Rattle.record_merge.specs.Rules.{Rules}

-- messages with the stamp of the step that sends them
abbrev pub stamped : {M : Type 0} → ℕ → List M → List (Sent M)
stamped stamp [] = []
stamped stamp (message ∷ messages) = record { stamp = stamp; message = message } ∷ stamped stamp messages

abbrev pub logged_inputs : {I : Type 0} → List (Logged I) → List I
logged_inputs log = map (λ entry. entry.input) log

-- the message of an input, with the stamp that it heard, if the node at a place sent it
abbrev pub heard_by : {M : Type 0} → ℕ → ℕ → Option (ℕ × M) → List (Sent M)
heard_by from stamp None = []
heard_by from stamp (Some taken) = if from == taken.0 then record { stamp = stamp; message = taken.1 } ∷ [] else []

module _ {S I O M : Type 0} (rules : Rules S I O M) where
  -- the messages that a log took from the node at a place
  abbrev pub taken_from : ℕ → List (Logged I) → List (Sent M)
  taken_from from [] = []
  taken_from from (entry ∷ log) = heard_by from entry.heard (rules.taken entry.input) ++ taken_from from log

  abbrev pub replayed : S → List (Logged I) → S
  replayed state [] = state
  replayed state (entry ∷ log) = replayed (rules.after state entry.input) log

  abbrev pub outputs_of : S → List (Logged I) → List O
  outputs_of state [] = []
  outputs_of state (entry ∷ log) = rules.outputs state entry.input ++ outputs_of (rules.after state entry.input) log

  -- the messages that the replay sends to the node at a place
  abbrev pub sent_to : ℕ → S → List (Logged I) → List (Sent M)
  sent_to to state [] = []
  sent_to to state (entry ∷ log) =
      stamped entry.stamp (rules.messages_for to (rules.outputs state entry.input)) ++ sent_to to (rules.after state entry.input) log
