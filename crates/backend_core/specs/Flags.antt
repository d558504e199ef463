-- Other flags for messages, as STORE gives them (RFC 9051, 6.4.6).
use Rattle.std.specs.Prelude.{ℕ, Bool, true, false, not, List, Option, None, Some}
use Rattle.std.specs.List.{filter}
use Rattle.mail_message.specs.declared.mode.Mode.{Mode}
use Rattle.mail_message.specs.FlagSets.{Flags}
use Rattle.mail_message.specs.SameFlags.{is_same_flags}
use Rattle.mail_message.specs.declared.message.Message.{Message}
use Rattle.mail_message.specs.declared.message.Row.{Row}
use Rattle.mail_message.specs.Boxes.{Content, message_at, snapshot_of}
use Rattle.mail_store.specs.Store.{rows_stored, stored, has_too_many_flags}
use Rattle.link_msg.specs.declared.outcome.Outcome.TheVariants.{Rows, Limit}
use Rattle.node_record.specs.declared.backend.BackendRecord.TheVariants.{Flagged}
use Rattle.backend_core.specs.declared.backend.Backend.{Backend}
use Rattle.backend_core.specs.declared.op_plan.OpPlan.{OpPlan}
use Rattle.backend_core.specs.declared.op_plan.Telling.TheVariants.{Look}
use Rattle.node_record.specs.declared.held.Held.{Held}
use Rattle.backend_core.specs.HomeStep.{HomeStep, BoxStep}
use Rattle.backend_core.specs.OpPlan.{entry_of, looks, plans}
use Rattle.backend_core.specs.Response.{done}
use Rattle.backend_core.specs.Served.{served}

-- by whether some message would have too many keywords
unfoldable pub flags_unless : Content → List ℕ → Mode → Flags → Bool → BoxStep
flags_unless content uids mode flags true = record { content = content; response = done Limit (snapshot_of content) }
flags_unless content uids mode flags false = record {
  content = stored content uids mode flags;
  response = done (Rows (rows_stored content uids mode flags)) (snapshot_of (stored content uids mode flags));
}

abbrev pub flags_to : Content → List ℕ → Mode → Flags → BoxStep
flags_to content uids mode flags = flags_unless content uids mode flags (has_too_many_flags (rows_stored content uids mode flags))

unfoldable pub flags_step : Backend → List ℕ → Option ℕ → List ℕ → Mode → Flags → Option Held → HomeStep
flags_step home name selected uids mode flags found = served home name selected (λ content. flags_to content uids mode flags) found

-- a row has other flags than a message, if there is one
unfoldable pub differs_from : Row → Option Message → Bool
differs_from row None = false
differs_from row (Some message) = not (is_same_flags message.flags row.flags)

abbrev pub differs : Content → Row → Bool
differs content row = differs_from row (message_at content.messages row.uid)

-- the rows that differ from what the mailbox has
abbrev pub differing : Content → List Row → List Row
differing content rows = filter (differs content) rows

-- what is written of rows that are told: those that differ
abbrev pub rows_plan : List ℕ → Content → List Row → OpPlan
rows_plan name content rows = record { entries = entry_of (Flagged name) (differing content rows); telling = Look name (Rows rows) }

-- unless some message would have too many keywords
unfoldable pub relabels_unless : List ℕ → Content → List ℕ → Mode → Flags → Bool → OpPlan
relabels_unless name content uids mode flags true = looks name Limit
relabels_unless name content uids mode flags false = rows_plan name content (rows_stored content uids mode flags)

abbrev pub relabels_to : List ℕ → Content → List ℕ → Mode → Flags → OpPlan
relabels_to name content uids mode flags =
    relabels_unless name content uids mode flags (has_too_many_flags (rows_stored content uids mode flags))

unfoldable pub flags_plan : List ℕ → Option ℕ → List ℕ → Mode → Flags → Option Held → OpPlan
flags_plan name selected uids mode flags found = plans selected (λ content. relabels_to name content uids mode flags) found
