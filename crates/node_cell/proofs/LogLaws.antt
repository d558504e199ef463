-- A log with one step more.
use Rattle.std.proofs.Common.{◌≡◌, ◌≢◌, ◌⊎◌, IfNone, IfSome, Err, IsErrOf, IsNone, is_some, ℕ, ◌+◌, ◌<◌, ◌≤◌, ◌^◌, List, [], ◌∷◌, ◌++◌, Option, None, Some, length-append, refl, sym, ◌∙◌, ap, subst, inl, inr, arith}
use Rattle.mur_base.specs.declared.limits.TheConstants.{LOG_LIMIT}
use Rattle.node_step.specs.NodeStep.{takes}
use Rattle.node_step.specs.declared.input.NodeInput.{NodeInput}
use Rattle.node_step.specs.declared.node.NodeState.{NodeState}
use Rattle.record_merge.specs.declared.logged.Logged.{Logged}
use Rattle.schedule_text.specs.Printed.{event_text, schedule_text}
use Rattle.node_cell.specs.Batch.{AreNext, IsFullForAll, last_stamp, steps_behind}
use Rattle.node_cell.specs.declared.fault.CellFault.{CellFault}
use Rattle.node_cell.specs.declared.fault.CellFault.TheVariants.{LogFull}
use Rattle.node_cell.specs.Full.{IsFull, IsNext}
use Rattle.node_cell.specs.Lines.{event_of, line_length, log_length}
use Rattle.node_cell.specs.Replayed.{state_after}
use Rattle.node_cell.specs.Stamps.{StampsTo, logged_behind, next_stamp}

pub log_length-one : (name : List ℕ) (log : List (Logged NodeInput)) (entry : Logged NodeInput)
    → log_length name (log ++ entry ∷ []) ≡ log_length name log + line_length name entry.input
unfolding log_length line_length schedule_text
log_length-one name [] entry = simp length-append (omega arith)
log_length-one name (first ∷ log) entry =
    let rest = log_length-one name log entry in
    simp length-append (omega (arith, rest))

pub log_length-cons : (name : List ℕ) (entry : Logged NodeInput) (log : List (Logged NodeInput))
    → log_length name (entry ∷ log) ≡ line_length name entry.input + log_length name log
unfolding log_length line_length schedule_text
log_length-cons name entry log = length-append (event_text (event_of name entry.input)) _

pub log_none : (name : List ℕ) → log_length name [] ≡ 0
unfolding log_length schedule_text
log_none name = refl

log_length-nil : (name : List ℕ) (more : List (Logged NodeInput)) → log_length name more ≡ log_length name [] + log_length name more
unfolding log_length schedule_text
log_length-nil name more = omega arith

pub log_length-append : (name : List ℕ) (log more : List (Logged NodeInput)) → log_length name (log ++ more) ≡ log_length name log + log_length name more
log_length-append name [] more = log_length-nil name more
log_length-append name (first ∷ log) more =
    let rest = log_length-append name log more in
    let whole = log_length-cons name first (log ++ more) in
    let front = log_length-cons name first log in
    omega (arith, rest, whole, front)

pub state-one : (it : NodeState) (log : List (Logged NodeInput)) (entry : Logged NodeInput)
    → state_after it (log ++ entry ∷ []) ≡ (takes (state_after it log) entry.input).state
state-one it [] entry = refl
state-one it (first ∷ log) entry = state-one (takes it first.input).state log entry

pub stamps-one : (low : ℕ) (log : List (Logged NodeInput)) (last heard : ℕ) (input : NodeInput) → StampsTo low log last
    → StampsTo low (log ++ logged_behind last heard input ∷ []) (next_stamp last heard)
stamps-one low [] last heard input is = (ap (λ (n : ℕ). next_stamp n heard) (sym is), refl)
stamps-one low (first ∷ log) last heard input is = (is.0, stamps-one first.stamp log last heard input is.1)

-- a log whose next line passes the limit
pub full_by_line : (name : List ℕ) (log : List (Logged NodeInput)) (last heard room : ℕ) (input : NodeInput) → log_length name log + room ≡ LOG_LIMIT
    → room < line_length name input → IsFull name log last heard input
full_by_line name log last heard room input limited less =
    let one = log_length-one name log (logged_behind last heard input) in inr (omega arith)

pub next_by : (name : List ℕ) (log : List (Logged NodeInput)) (last heard room stamp rest : ℕ) (input : NodeInput)
    → log_length name log + room ≡ LOG_LIMIT → stamp ≡ next_stamp last heard → stamp < 2 ^ 64 → line_length name input + rest ≡ room
    → IsNext name log last heard input stamp rest
next_by name log last heard room stamp rest input limited is fits left =
    let one = log_length-one name log (logged_behind last heard input) in
    record { next = is; fits = fits; left = omega arith }

-- ---- a cell behind a turn

-- its log, where the entry has these parts
pub log_on : (log more : List (Logged NodeInput)) (last heard next : ℕ) (input taken : NodeInput)
    → more ≡ log ++ record { stamp = next; heard = heard; input = taken } ∷ [] → next ≡ next_stamp last heard → taken ≡ input
    → more ≡ log ++ logged_behind last heard input ∷ []
log_on log more last heard next input taken is stamp same =
    is ∙ ap (λ (s : ℕ). log ++ record { stamp = s; heard = heard; input = taken } ∷ []) stamp
    ∙ ap (λ (i : NodeInput). log ++ logged_behind last heard i ∷ []) same

pub replays_on : (begun it now : NodeState) (log more : List (Logged NodeInput)) (last heard : ℕ) (input : NodeInput) → it ≡ state_after begun log
    → now ≡ (takes it input).state → more ≡ log ++ logged_behind last heard input ∷ [] → now ≡ state_after begun more
replays_on begun it now log more last heard input was acted is =
    acted ∙ ap (λ (s : NodeState). (takes s input).state) was ∙ sym (state-one begun log (logged_behind last heard input)) ∙ sym (ap (state_after begun) is)

pub stamps_on : (log more : List (Logged NodeInput)) (last heard next : ℕ) (input : NodeInput) → StampsTo 0 log last → next ≡ next_stamp last heard
    → more ≡ log ++ logged_behind last heard input ∷ [] → StampsTo 0 more next
stamps_on log more last heard next input were stamp is =
    subst (λ (m : List (Logged NodeInput)). StampsTo 0 m next) (sym is)
    (subst (λ (s : ℕ). StampsTo 0 (log ++ logged_behind last heard input ∷ []) s) (sym stamp) (stamps-one 0 log last heard input were))

pub limited_on : (name : List ℕ) (log more : List (Logged NodeInput)) (last heard next room : ℕ) (input : NodeInput)
    → IsNext name log last heard input next room → more ≡ log ++ logged_behind last heard input ∷ [] → log_length name more + room ≡ LOG_LIMIT
limited_on name log more last heard next room input step is = ap (λ (m : List (Logged NodeInput)). log_length name m + room) is ∙ step.left

-- a cell that was stopped answers its fault
pub not_stopped_full : (T : Type 0) (stored : Option CellFault) (fault : CellFault) → stored ≢ Some LogFull → stored ≡ Some fault
    → IsErrOf {T = T} (Err fault) LogFull → ⊥
not_stopped_full T stored fault never is answers = let same : fault ≡ LogFull = cc in never (is ∙ ap Some same)

pub is_ready : (stored : Option CellFault) → stored ≡ None → IsNone stored
is_ready stored ready = ap is_some ready

-- ---- a cell as it starts

pub replays_first : (begun it : NodeState) (log : List (Logged NodeInput)) → begun ≡ it → log ≡ [] → it ≡ state_after begun log
replays_first begun it log same empty = sym same ∙ sym (ap (state_after begun) empty)

pub stamps_first : (log : List (Logged NodeInput)) → log ≡ [] → StampsTo 0 log 0
stamps_first log empty = subst (λ (l : List (Logged NodeInput)). StampsTo 0 l 0) (sym empty) refl

pub limited_first : (name : List ℕ) (log : List (Logged NodeInput)) → log ≡ [] → log_length name log + LOG_LIMIT ≡ LOG_LIMIT
unfolding log_length schedule_text
limited_first name log empty = ap (λ (l : List (Logged NodeInput)). log_length name l + LOG_LIMIT) empty

-- ---- a cell behind several turns

pub state-all : (it : NodeState) (log more : List (Logged NodeInput)) → state_after it (log ++ more) ≡ state_after (state_after it log) more
state-all it [] more = refl
state-all it (first ∷ log) more = state-all (takes it first.input).state log more

stamps-behind : (last : ℕ) (inputs : List (ℕ × NodeInput)) → StampsTo last (steps_behind last inputs) (last_stamp last inputs)
stamps-behind last [] = refl
stamps-behind last (it ∷ inputs) = (refl, stamps-behind (next_stamp last it.0) inputs)

pub stamps-all : (low : ℕ) (log : List (Logged NodeInput)) (last : ℕ) (inputs : List (ℕ × NodeInput)) → StampsTo low log last
    → StampsTo low (log ++ steps_behind last inputs) (last_stamp last inputs)
stamps-all low [] last inputs is = subst (λ (n : ℕ). StampsTo n (steps_behind last inputs) (last_stamp last inputs)) (sym is) (stamps-behind last inputs)
stamps-all low (first ∷ log) last inputs is = (is.0, stamps-all first.stamp log last inputs is.1)

pub all_replays_on : (begun it now : NodeState) (log more steps : List (Logged NodeInput)) → it ≡ state_after begun log → now ≡ state_after it steps
    → more ≡ log ++ steps → now ≡ state_after begun more
all_replays_on begun it now log more steps was acted is =
    acted ∙ ap (λ (s : NodeState). state_after s steps) was ∙ sym (state-all begun log steps) ∙ sym (ap (state_after begun) is)

pub log_all_on : (log more given steps : List (Logged NodeInput)) → more ≡ log ++ given → given ≡ steps → more ≡ log ++ steps
log_all_on log more given steps is same = is ∙ ap (λ (s : List (Logged NodeInput)). log ++ s) same

pub all_stamps_on : (log more : List (Logged NodeInput)) (last next : ℕ) (inputs : List (ℕ × NodeInput)) → StampsTo 0 log last
    → next ≡ last_stamp last inputs → more ≡ log ++ steps_behind last inputs → StampsTo 0 more next
all_stamps_on log more last next inputs were stamp is =
    subst (λ (m : List (Logged NodeInput)). StampsTo 0 m next) (sym is)
    (subst (λ (s : ℕ). StampsTo 0 (log ++ steps_behind last inputs) s) (sym stamp) (stamps-all 0 log last inputs were))

pub all_limited_on : (name : List ℕ) (log more : List (Logged NodeInput)) (last next room : ℕ) (inputs : List (ℕ × NodeInput))
    → AreNext name log last inputs next room → more ≡ log ++ steps_behind last inputs → log_length name more + room ≡ LOG_LIMIT
all_limited_on name log more last next room inputs steps is = ap (λ (m : List (Logged NodeInput)). log_length name m + room) is ∙ steps.left

pub full_for_all : (name : List ℕ) (log : List (Logged NodeInput)) (last room : ℕ) (inputs : List (ℕ × NodeInput)) → log_length name log + room ≡ LOG_LIMIT
    → (2 ^ 64 ≤ last_stamp last inputs) ⊎ (room < log_length name (steps_behind last inputs)) → IsFullForAll name log last inputs
full_for_all name log last room inputs limited (inl great) = inl great
full_for_all name log last room inputs limited (inr less) =
    let whole = log_length-append name log (steps_behind last inputs) in inr (omega (arith, whole, less, limited))

pub all_next_by : (name : List ℕ) (log : List (Logged NodeInput)) (last room : ℕ) (inputs : List (ℕ × NodeInput)) (next : ℕ × ℕ)
    → log_length name log + room ≡ LOG_LIMIT → (next.0 ≡ last_stamp last inputs) × (next.0 < 2 ^ 64)
    → log_length name (steps_behind last inputs) + next.1 ≡ room → AreNext name log last inputs next.0 next.1
all_next_by name log last room inputs next limited stamped left =
    let whole = log_length-append name log (steps_behind last inputs) in
    record { next = stamped.0; fits = stamped.1; left = omega (arith, whole, limited, left) }

-- ---- both answers of a measure

pub none_by : (name : List ℕ) (log : List (Logged NodeInput)) (last room : ℕ) (inputs : List (ℕ × NodeInput)) (next : Option (ℕ × ℕ))
    → log_length name log + room ≡ LOG_LIMIT
    → IfNone next ((2 ^ 64 ≤ last_stamp last inputs) ⊎ (room < log_length name (steps_behind last inputs))) → IfNone next (IsFullForAll name log last inputs)
none_by name log last room inputs None limited why = full_for_all name log last room inputs limited why
none_by name log last room inputs (Some next) limited why = why

pub some_by : (name : List ℕ) (log : List (Logged NodeInput)) (last room : ℕ) (inputs : List (ℕ × NodeInput)) (next : Option (ℕ × ℕ))
    → log_length name log + room ≡ LOG_LIMIT
    → IfSome next (λ next. (next.0 ≡ last_stamp last inputs) × (next.0 < 2 ^ 64))
    → IfSome next (λ next. log_length name (steps_behind last inputs) + next.1 ≡ room)
    → IfSome next (λ next. AreNext name log last inputs next.0 next.1)
some_by name log last room inputs None limited stamped left = stamped
some_by name log last room inputs (Some next) limited stamped left = all_next_by name log last room inputs next limited stamped left
