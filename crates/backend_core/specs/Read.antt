-- A read of messages (RFC 9051, 6.4.5): they are told as they were before; a FETCH of BODY[] then gives \Seen to each.
use Rattle.std.specs.Prelude.{ℕ, Bool, true, false, List, [], Option}
use Rattle.mail_message.specs.declared.flag_name.FlagName.TheVariants.{System}
use Rattle.mail_message.specs.declared.mode.Mode.TheVariants.{Add}
use Rattle.mail_message.specs.declared.system_flags.SystemFlag.TheVariants.{Seen}
use Rattle.mail_message.specs.FlagSets.{Flags, no_flags, with_flag}
use Rattle.mail_message.specs.Boxes.{Content, messages_at, snapshot_of}
use Rattle.mail_store.specs.Store.{rows_stored, stored}
use Rattle.link_msg.specs.declared.outcome.Outcome.TheVariants.{Messages}
use Rattle.node_record.specs.declared.backend.BackendRecord.{BackendRecord}
use Rattle.node_record.specs.declared.backend.BackendRecord.TheVariants.{Flagged}
use Rattle.backend_core.specs.declared.backend.Backend.{Backend}
use Rattle.backend_core.specs.declared.op_plan.OpPlan.{OpPlan}
use Rattle.backend_core.specs.declared.op_plan.Telling.TheVariants.{Look}
use Rattle.backend_core.specs.Flags.{differing}
use Rattle.node_record.specs.declared.held.Held.{Held}
use Rattle.backend_core.specs.HomeStep.{HomeStep, BoxStep}
use Rattle.backend_core.specs.OpPlan.{entry_of, plans}
use Rattle.backend_core.specs.Response.{done}
use Rattle.backend_core.specs.Served.{served}

-- \Seen alone
abbrev pub seen_flag : Flags
seen_flag = with_flag no_flags (System Seen)

-- the mailbox behind the read, by whether the messages get \Seen
unfoldable pub read_in : Content → List ℕ → Bool → Content
read_in content uids true = stored content uids Add seen_flag
read_in content uids false = content

abbrev pub read_to : Content → List ℕ → Bool → BoxStep
read_to content uids sees = record {
  content = read_in content uids sees;
  response = done (Messages (messages_at content.messages uids)) (snapshot_of (read_in content uids sees));
}

unfoldable pub read_step : Backend → List ℕ → Option ℕ → List ℕ → Bool → Option Held → HomeStep
read_step home name selected uids sees found = served home name selected (λ content. read_to content uids sees) found

-- what is written: the messages that get \Seen and haven't had it
unfoldable pub seen_entries : List ℕ → Content → List ℕ → Bool → List BackendRecord
seen_entries name content uids true = entry_of (Flagged name) (differing content (rows_stored content uids Add seen_flag))
seen_entries name content uids false = []

abbrev pub read_from : List ℕ → Content → List ℕ → Bool → OpPlan
read_from name content uids sees = record {
  entries = seen_entries name content uids sees;
  telling = Look name (Messages (messages_at content.messages uids));
}

unfoldable pub read_plan : List ℕ → Option ℕ → List ℕ → Bool → Option Held → OpPlan
read_plan name selected uids sees found = plans selected (λ content. read_from name content uids sees) found
