-- EXPUNGE at a home of mailboxes (RFC 9051, 6.4.3 and 6.4.9): the messages with \Deleted go, of all or of those with some UIDs.
use Rattle.std.specs.Prelude.{ℕ, List, Option}
use Rattle.mail_message.specs.Boxes.{Content, snapshot_of}
use Rattle.mail_store.specs.Expunge.{expunged, expunged_uids}
use Rattle.link_msg.specs.declared.outcome.Outcome.TheVariants.{Uids}
use Rattle.node_record.specs.declared.backend.BackendRecord.TheVariants.{Gone}
use Rattle.backend_core.specs.declared.backend.Backend.{Backend}
use Rattle.backend_core.specs.declared.op_plan.OpPlan.{OpPlan}
use Rattle.backend_core.specs.declared.op_plan.Telling.TheVariants.{Look}
use Rattle.node_record.specs.declared.held.Held.{Held}
use Rattle.backend_core.specs.HomeStep.{HomeStep, BoxStep}
use Rattle.backend_core.specs.OpPlan.{entry_of, plans}
use Rattle.backend_core.specs.Response.{done}
use Rattle.backend_core.specs.Served.{served}

abbrev pub expunge_to : Content → Option (List ℕ) → BoxStep
expunge_to content only = record {
  content = expunged content only;
  response = done (Uids (expunged_uids content only)) (snapshot_of (expunged content only));
}

unfoldable pub expunge_step : Backend → List ℕ → Option ℕ → Option (List ℕ) → Option Held → HomeStep
expunge_step home name selected only found = served home name selected (λ content. expunge_to content only) found

-- what is written: the UIDs of the messages that go
abbrev pub removes : List ℕ → Content → Option (List ℕ) → OpPlan
removes name content only = record {
  entries = entry_of (Gone name) (expunged_uids content only);
  telling = Look name (Uids (expunged_uids content only));
}

unfoldable pub expunge_plan : List ℕ → Option ℕ → Option (List ℕ) → Option Held → OpPlan
expunge_plan name selected only found = plans selected (λ content. removes name content only) found
