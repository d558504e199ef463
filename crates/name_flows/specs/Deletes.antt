-- The answers to the lines of a DELETE (RFC 3656, 4.3 and 4.4).
use Rattle.std.specs.Prelude.{ℕ, if◌then◌else◌, List, [], ◌∷◌, Option, None, Some}
use Rattle.link_msg.specs.declared.outcome.Outcome.TheVariants.{None as nothing}
use Rattle.mupdate_codec.specs.declared.tag.Tag.{Tag}
use Rattle.node_record.specs.declared.backend.BackendRecord.TheVariants as entry
use Rattle.name_flows.specs.declared.flow.Stage.TheVariants.{Deactivating, Deleting}
use Rattle.name_flows.specs.declared.flows.Flows.{Flows}
use Rattle.name_flows.specs.declared.gives.Gives.{Gives}
use Rattle.name_flows.specs.declared.sent.Sent.TheVariants.{Delete}
use Rattle.name_flows.specs.Running.{flow_at, is_at, goes_on, ended, answers_for, done, forget}
use Rattle.name_flows.specs.Steps.{FlowStep, given, silent, changing}

-- the mailbox is closed, and DELETE sent
abbrev pub closes : Tag → List ℕ → Gives
closes tag name = record {
  entry = Some (entry.Closing name);
  sends = record { tag = tag; what = Delete name } ∷ [];
  answers = [];
}

-- DEACTIVATE's OK
unfoldable pub deactivate_ok : Flows → Tag → List ℕ → FlowStep
deactivate_ok flows tag name = if is_at flows name Deactivating then given (goes_on flows name Deleting) (closes tag name) else silent flows

-- DELETE's OK: the mailbox is forgotten
unfoldable pub delete_ok : Flows → List ℕ → FlowStep
delete_ok flows name =
    if is_at flows name Deleting then changing (ended flows name) (forget name) (answers_for (done nothing) (flow_at flows name))
    else silent flows
