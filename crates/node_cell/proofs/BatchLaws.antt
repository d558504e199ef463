-- Steps that are measured one after the other.
use Rattle.std.proofs.Common.{◌≡◌, ◌⊎◌, ℕ, ◌+◌, ◌<◌, ◌≤◌, ◌^◌, List, [], ◌∷◌, length, ◌++◌, sym, ◌∙◌, ap, inl, inr, arith}
use Rattle.std.specs.Prelude.{All}
use Rattle.node_step.specs.declared.node.NodeState.{NodeState}
use Rattle.record_merge.specs.declared.logged.Logged.{Logged}
use Rattle.node_cell.specs.declared.turn.Turn.{Turn}
use Rattle.node_cell.specs.Replayed.{entries_after, state_after}
use Rattle.node_step.specs.declared.input.NodeInput.{NodeInput}
use Rattle.node_cell.specs.Batch.{HasRoomToTakeAll, last_stamp, steps_behind, turns_of}
use Rattle.node_cell.specs.Lines.{line_length, log_length}
use Rattle.node_cell.specs.Stamps.{logged_behind, next_stamp}
use Rattle.node_cell.proofs.LogLaws.{log_length-cons, log_none}

-- stamps only rise
pub stamp_grows : (last : ℕ) (inputs : List (ℕ × NodeInput)) → last ≤ last_stamp last inputs
stamp_grows last [] = omega arith
stamp_grows last (it ∷ inputs) = let more = stamp_grows (next_stamp last it.0) inputs in omega (arith, more)

-- what is left of the inputs, behind a step with this stamp
pub record IsMeasured (name : List ℕ) (last left : ℕ) (inputs : List (ℕ × NodeInput)) (stamp room : ℕ) (rest : List (ℕ × NodeInput)) : Type 0 where
  pub stamps : last_stamp stamp rest ≡ last_stamp last inputs
  pub fits : stamp < 2 ^ 64
  pub lines : log_length name (steps_behind stamp rest) + left ≡ log_length name (steps_behind last inputs) + room

module _ (name : List ℕ) (last left : ℕ) (inputs : List (ℕ × NodeInput)) where
  pub stamp_passes : (stamp room : ℕ) (rest behind : List (ℕ × NodeInput)) (it : ℕ × NodeInput) → IsMeasured name last left inputs stamp room rest
      → rest ≡ it ∷ behind → 2 ^ 64 ≤ next_stamp stamp it.0
      → (2 ^ 64 ≤ last_stamp last inputs) ⊎ (left < log_length name (steps_behind last inputs))
  stamp_passes stamp room rest behind it is first great =
      let grows = stamp_grows (next_stamp stamp it.0) behind in
      let same = ap (last_stamp stamp) first in
      let all = is.stamps in
      inl (omega (arith, grows, same, all, great))

  pub line_passes : (stamp room : ℕ) (rest behind : List (ℕ × NodeInput)) (it : ℕ × NodeInput) → IsMeasured name last left inputs stamp room rest
      → rest ≡ it ∷ behind → room < line_length name it.1
      → (2 ^ 64 ≤ last_stamp last inputs) ⊎ (left < log_length name (steps_behind last inputs))
  line_passes stamp room rest behind it is first less =
      let same = ap (λ (r : List (ℕ × NodeInput)). log_length name (steps_behind stamp r)) first in
      let cons = log_length-cons name (logged_behind stamp it.0 it.1) (steps_behind (next_stamp stamp it.0) behind) in
      let all = is.lines in
      inr (omega (arith, same, cons, all, less))

  pub measured_on : (stamp room next less : ℕ) (rest behind : List (ℕ × NodeInput)) (it : ℕ × NodeInput) → IsMeasured name last left inputs stamp room rest
      → rest ≡ it ∷ behind → next ≡ next_stamp stamp it.0 → next < 2 ^ 64 → line_length name it.1 + less ≡ room
      → IsMeasured name last left inputs next less behind
  measured_on stamp room next less rest behind it is first stamped fits fewer =
      let same = ap (λ (r : List (ℕ × NodeInput)). log_length name (steps_behind stamp r)) first in
      let cons = log_length-cons name (logged_behind stamp it.0 it.1) (steps_behind (next_stamp stamp it.0) behind) in
      let now = ap (λ (s : ℕ). log_length name (steps_behind s behind)) stamped in
      let all = is.lines in
      record {
        stamps = ap (λ (s : ℕ). last_stamp s behind) stamped ∙ sym (ap (last_stamp stamp) first) ∙ is.stamps;
        fits = fits;
        lines = omega (arith, same, cons, now, all, fewer);
      }

  pub measured_all : (stamp room : ℕ) (rest : List (ℕ × NodeInput)) → IsMeasured name last left inputs stamp room rest → length rest ≡ 0
      → (stamp ≡ last_stamp last inputs) × (log_length name (steps_behind last inputs) + room ≡ left)
  measured_all stamp room [] is none =
      let empty = log_none name in
      let all = is.lines in
      (is.stamps, omega (arith, empty, all))
  measured_all stamp room (it ∷ rest) is none = absurd (omega (arith, none))

-- ---- steps that are taken one after the other

-- what was done of several steps, and what is left of the inputs
pub record IsOnTheWay (begun : NodeState) (first : ℕ) (inputs : List (ℕ × NodeInput)) (it : NodeState) (last : ℕ) (steps : List (Logged NodeInput))
    (entries : List (List ℕ)) (turns : List Turn) (rest : List (ℕ × NodeInput)) : Type 0 where
  pub room : HasRoomToTakeAll it rest
  pub stamp : last_stamp last rest ≡ last_stamp first inputs
  pub state : state_after it (steps_behind last rest) ≡ state_after begun (steps_behind first inputs)
  pub taken : steps ++ steps_behind last rest ≡ steps_behind first inputs
  pub written : entries ++ entries_after it (steps_behind last rest) ≡ entries_after begun (steps_behind first inputs)
  pub given : turns ++ turns_of it (steps_behind last rest) ≡ turns_of begun (steps_behind first inputs)
  pub short : All (λ entry. length entry ≤ 2 ^ 30) entries

-- no stamp on the way passes its type
pub stamp_fits : (last end : ℕ) (rest behind : List (ℕ × NodeInput)) (it : ℕ × NodeInput) → rest ≡ it ∷ behind → last_stamp last rest ≡ end → end < 2 ^ 64
    → next_stamp last it.0 < 2 ^ 64
stamp_fits last end rest behind it first all fits =
    let grows = stamp_grows (next_stamp last it.0) behind in
    let same = ap (last_stamp last) first in
    omega (arith, grows, same, all, fits)
