-- What an ask for messages writes changes the messages of a mailbox that is open.
use Rattle.std.proofs.Common.{◌≡◌, ℕ, List, [], ◌∷◌, Option, None, Some}
use Rattle.std.specs.List.{AllByRecursion}
use Rattle.link_msg.specs.declared.ask.FrontAsk.{FrontAsk}
use Rattle.node_record.specs.declared.backend.BackendRecord.{BackendRecord}
use Rattle.node_record.specs.declared.backend.BackendRecord.TheVariants.{Added, Flagged, Gone}
use Rattle.node_record.specs.Held.{Names}
use Rattle.backend_core.specs.declared.backend.Backend.{Backend}
use Rattle.backend_core.specs.AskPlan.{ask_plan}
use Rattle.backend_core.specs.Plan.{owes}
use Rattle.back_node.specs.Takes.{name_kind, only_entry}
use Rattle.back_node.proofs.OnlyEntry.{IsOfOpen, message_entries}
use Rattle.name_links.specs.OneLink.{IsMessageStep}

is_step : (held : Names) (entry : BackendRecord) → IsOfOpen held entry → IsMessageStep held entry
is_step held (Added name messages) opened = opened
is_step held (Flagged name rows) opened = opened
is_step held (Gone name uids) opened = opened
is_step held entry opened = absurd opened

-- the one entry of a step, if there is one
abbrev pub IsStepIf : Names → Option BackendRecord → Type 0
IsStepIf held None = Unit {0}
IsStepIf held (Some entry) = IsMessageStep held entry

only_step : (held : Names) (entries : List BackendRecord) → AllByRecursion (IsOfOpen held) entries → IsStepIf held (only_entry entries)
only_step held [] opened = tt
only_step held (entry ∷ entries) opened = is_step held entry opened.0

pub message_steps : (home : Backend) (from : List ℕ) (ask : FrontAsk) → name_kind ask.op ≡ None
    → IsStepIf home.held (only_entry (owes from ask.id (ask_plan home ask)).entries)
message_steps home from ask none = only_step home.held (owes from ask.id (ask_plan home ask)).entries (message_entries home from ask none).opened
