-- APPEND at a mailbox's home (RFC 9051, 6.3.12).
use Rattle.std.specs.Prelude.{ℕ, ◌+◌, List, [], ◌∷◌, length, Option, None, Some}
use Rattle.mail_message.specs.declared.message.Message.{Message}
use Rattle.mail_message.specs.Boxes.{Content}
use Rattle.mail_store.specs.declared.fault.StoreFault.{StoreFault}
use Rattle.mail_store.specs.Append.{append_fault, appended, uids_from}
use Rattle.link_msg.specs.declared.outcome.Outcome.TheVariants.{Uids, Limit}
use Rattle.node_record.specs.declared.backend.BackendRecord.TheVariants.{Added}
use Rattle.backend_core.specs.declared.backend.Backend.{Backend}
use Rattle.backend_core.specs.declared.op_plan.OpPlan.{OpPlan}
use Rattle.backend_core.specs.declared.op_plan.Telling.TheVariants.{Now}
use Rattle.node_record.specs.declared.held.Held.{Held}
use Rattle.backend_core.specs.HomeStep.{HomeStep, BoxStep}
use Rattle.backend_core.specs.OpPlan.{entry_of, plans, tells_at_once}
use Rattle.backend_core.specs.Response.{bare_snapshot, done}
use Rattle.backend_core.specs.Served.{served}

-- the messages stand behind the others, unless a limit would be passed
unfoldable pub append_within_limits : Content → List Message → Option StoreFault → BoxStep
append_within_limits content messages (Some fault) = record { content = content; response = done Limit (bare_snapshot content) }
append_within_limits content messages None = record {
  content = appended content messages;
  response = done (Uids (uids_from content.next messages)) (bare_snapshot (appended content messages));
}

unfoldable pub append_step : Backend → List ℕ → Option ℕ → List Message → Option Held → HomeStep
append_step home name selected messages found =
    served home name selected (λ content. append_within_limits content messages (append_fault content messages)) found

-- the messages with the UIDs from one on
abbrev pub with_uids : ℕ → List Message → List Message
with_uids uid [] = []
with_uids uid (message ∷ messages) = record message { uid = uid } ∷ with_uids (uid + 1) messages

-- what is written: the messages with their UIDs, unless a limit would be passed
unfoldable pub adds_within_limits : List ℕ → Content → List Message → Option StoreFault → OpPlan
adds_within_limits name content messages (Some fault) = tells_at_once (done Limit (bare_snapshot content))
adds_within_limits name content messages None = record {
  entries = entry_of (Added name) (with_uids content.next messages);
  telling = Now (done (Uids (uids_from content.next messages))
      (record { serial = content.serial; next = content.next + length messages; size = 0; rows = [] }));
}

unfoldable pub append_plan : List ℕ → Option ℕ → List Message → Option Held → OpPlan
append_plan name selected messages found =
    plans selected (λ content. adds_within_limits name content messages (append_fault content messages)) found
