-- What an operation of a home writes to its disk, and what is then told of it.
use Rattle.std.specs.Prelude.{ℕ, List, [], ◌∷◌, Option, None, Some}
use Rattle.std.specs.List.{fold}
use Rattle.mail_message.specs.Boxes.{Content, snapshot_of}
use Rattle.link_msg.specs.declared.outcome.Outcome.{Outcome}
use Rattle.node_record.specs.declared.backend.BackendRecord.{BackendRecord}
use Rattle.node_record.specs.declared.held.Held.{Held}
use Rattle.node_record.specs.Held.{held_after}
use Rattle.backend_core.specs.declared.backend.Backend.{Backend}
use Rattle.backend_core.specs.declared.op_plan.OpPlan.{OpPlan}
use Rattle.backend_core.specs.declared.op_plan.Telling.{Telling}
use Rattle.backend_core.specs.declared.op_plan.Telling.TheVariants.{Now, Look}
use Rattle.backend_core.specs.declared.response.Response.{Response}
use Rattle.backend_core.specs.HomeStep.{held_at}
use Rattle.backend_core.specs.Refusal.{refusal}
use Rattle.backend_core.specs.Response.{done, not_now}

-- a home after entries of its disk
abbrev pub home_after : Backend → List BackendRecord → Backend
home_after home entries = record home { held = fold held_after home.held entries }

-- an entry about some things, and none where there is nothing
unfoldable pub entry_of : {A : Type 0} → (List A → BackendRecord) → List A → List BackendRecord
entry_of entry [] = []
entry_of entry (first ∷ rest) = entry (first ∷ rest) ∷ []

unfoldable pub looked : Outcome → Option Held → Response
looked outcome None = not_now
looked outcome (Some held) = done outcome (snapshot_of held.content)

-- what is told, by the home after the entries
unfoldable pub told_after : Backend → Telling → Response
told_after home (Now response) = response
told_after home (Look name outcome) = looked outcome (held_at home name)

-- nothing is written, and this is told
abbrev pub tells_at_once : Response → OpPlan
tells_at_once response = record { entries = []; telling = Now response }

-- nothing is written, and the mailbox is looked at
abbrev pub looks : List ℕ → Outcome → OpPlan
looks name outcome = record { entries = []; telling = Look name outcome }

-- an operation on the messages of a mailbox, by what is answered instead
unfoldable pub plans_unless : OpPlan → Option Response → OpPlan
plans_unless plan (Some response) = tells_at_once response
plans_unless plan None = plan

-- the same by what the home has of the name
unfoldable pub plans : Option ℕ → (Content → OpPlan) → Option Held → OpPlan
plans selected plan None = tells_at_once not_now
plans selected plan (Some held) = plans_unless (plan held.content) (refusal selected held)
