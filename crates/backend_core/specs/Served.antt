-- An operation on the messages of a mailbox, which is carried out where the name is Open here and the asking session has selected no other.
use Rattle.std.specs.Prelude.{ℕ, List, Option, None, Some}
use Rattle.mail_message.specs.Boxes.{Content}
use Rattle.backend_core.specs.declared.backend.Backend.{Backend}
use Rattle.node_record.specs.declared.held.Held.{Held}
use Rattle.backend_core.specs.declared.response.Response.{Response}
use Rattle.backend_core.specs.HomeStep.{HomeStep, BoxStep, answers, changes}
use Rattle.backend_core.specs.Refusal.{refusal}
use Rattle.backend_core.specs.Response.{not_now}

-- by what is answered instead, where it isn't carried out
unfoldable pub served_unless : Backend → List ℕ → Held → BoxStep → Option Response → HomeStep
served_unless home name held step (Some response) = answers home response
served_unless home name held step None = changes home name held step

-- by what the home has of the name
unfoldable pub served : Backend → List ℕ → Option ℕ → (Content → BoxStep) → Option Held → HomeStep
served home name selected operation None = answers home not_now
served home name selected operation (Some held) = served_unless home name held (operation held.content) (refusal selected held)
