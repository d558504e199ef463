-- The answers to the lines that no client waits for: ACTIVATE and DELETE of a resync, and FIND (RFC 3656, 4.1, 4.4 and 4.5).
use Rattle.std.specs.Prelude.{ℕ, Bool, true, false, ◌&&◌, not, if◌then◌else◌, List, [], ◌∷◌, Option, None, Some}
use Rattle.node_record.specs.declared.backend.BackendRecord.TheVariants as entry
use Rattle.node_record.specs.Held.{Names, held_at}
use Rattle.name_flows.specs.declared.flows.Flows.{Flows}
use Rattle.name_flows.specs.declared.gives.Gives.{Gives}
use Rattle.name_flows.specs.Phases.{is_creating, is_closing}
use Rattle.name_flows.specs.Running.{has_flow, forget}
use Rattle.name_flows.specs.Steps.{FlowStep, given, silent, changing}

abbrev pub forgotten_if : Bool → List ℕ → Gives
forgotten_if true name = record { entry = Some (forget name); sends = []; answers = [] }
forgotten_if false name = record { entry = None; sends = []; answers = [] }

-- the OK of a resync's ACTIVATE: a mailbox that is closed here is open again, unless a flow runs on the name
abbrev pub again_ok : Flows → Names → List ℕ → FlowStep
again_ok flows held name =
    if is_closing (held_at held name) && not (has_flow flows name) then changing flows (entry.Opened name) [] else silent flows

-- the OK of a DELETE that no client waits for: what was made here is forgotten
abbrev pub wipe_ok : Flows → Names → List ℕ → FlowStep
wipe_ok flows held name = given flows (forgotten_if (is_creating (held_at held name)) name)

-- a record is told in answer to FIND: a mailbox that is closed here has moved to its server
abbrev pub find_line_step : Flows → Names → List ℕ → List ℕ → FlowStep
find_line_step flows held name server =
    if is_closing (held_at held name) then changing (record flows { found = true }) (entry.Pointer name server) []
    else silent (record flows { found = true })

-- FIND's OK: where no record was told, a mailbox that is closed here is no more
abbrev pub find_ok : Flows → Names → List ℕ → Bool → FlowStep
find_ok flows held name found = given flows (forgotten_if (not found && is_closing (held_at held name)) name)
