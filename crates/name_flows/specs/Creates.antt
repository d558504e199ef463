-- The answers to the lines of a CREATE (RFC 3656, 4.1 and 4.9).
use Rattle.std.specs.Prelude.{ℕ, ◌^◌, Bool, nat_eq, nat_lt, if◌then◌else◌, List, [], ◌∷◌, codes, Option, None, Some}
use Rattle.std.specs.Cmp.Lexicographic.{pointwise}
use Rattle.mur_base.specs.Number.{number_of}
use Rattle.mail_message.specs.FirstAcl.{first_acl}
use Rattle.link_msg.specs.declared.answer.AnswerBody.{AnswerBody}
use Rattle.link_msg.specs.declared.answer.AnswerBody.TheVariants.{NotNow}
use Rattle.link_msg.specs.declared.outcome.Outcome.TheVariants.{None as nothing, Exists, Limit}
use Rattle.mupdate_codec.specs.declared.tag.Tag.{Tag}
use Rattle.node_record.specs.declared.backend.BackendRecord.TheVariants as entry
use Rattle.name_flows.specs.declared.flow.Stage.TheVariants.{Reserving, Making}
use Rattle.name_flows.specs.declared.flows.Flows.{Flows}
use Rattle.name_flows.specs.declared.sent.Sent.TheVariants.{Make, Wipe}
use Rattle.name_flows.specs.Lines.{unasked_line}
use Rattle.name_flows.specs.Running.{flow_at, is_at, goes_on, ended, answers_for, done, forget}
use Rattle.name_flows.specs.Steps.{FlowStep, silent, changing, finished}

abbrev pub serial_of : Option ℕ → Option ℕ
serial_of None = None
serial_of (Some n) = if nat_lt n (2 ^ 32) then Some n else None

-- the UIDVALIDITY that RESERVE's OK tells, in decimal
unfoldable pub serial_in : List ℕ → Option ℕ
serial_in text = serial_of (number_of text)

abbrev pub is_text : List ℕ → List ℕ → Bool
is_text one other = pointwise nat_eq one other

-- RESERVE's NO tells why: the name is active; or it is reserved, or the master has no UIDVALIDITY left, and then what becomes of it isn't known yet
unfoldable pub reserve_refused : List ℕ → AnswerBody
reserve_refused text = if is_text text (codes "1 exists") then done Exists else NotNow

-- the mailbox is made, empty, and ACTIVATE sent
abbrev pub makes : Flows → Tag → List ℕ → ℕ → FlowStep
makes flows tag name serial = record {
  flows = goes_on flows name Making;
  entry = Some (entry.Make name serial (first_acl name));
  sends = record { tag = tag; what = Make name } ∷ [];
  answers = [];
}

abbrev pub reserved_by : Flows → Tag → List ℕ → Option ℕ → FlowStep
reserved_by flows tag name None = finished flows name NotNow
reserved_by flows tag name (Some serial) = makes flows tag name serial

-- RESERVE's OK
unfoldable pub reserve_ok : Flows → Tag → List ℕ → List ℕ → FlowStep
reserve_ok flows tag name text = if is_at flows name Reserving then reserved_by flows tag name (serial_in text) else silent flows

-- RESERVE's NO
unfoldable pub reserve_no : Flows → List ℕ → List ℕ → FlowStep
reserve_no flows name text = if is_at flows name Reserving then finished flows name (reserve_refused text) else silent flows

-- ACTIVATE's OK: the mailbox is open
unfoldable pub make_ok : Flows → List ℕ → FlowStep
make_ok flows name =
    if is_at flows name Making then changing (ended flows name) (entry.Opened name) (answers_for (done nothing) (flow_at flows name))
    else silent flows

abbrev pub full : Flows → List ℕ → FlowStep
full flows name = record {
  flows = ended flows name;
  entry = Some (forget name);
  sends = unasked_line (Wipe name) ∷ [];
  answers = answers_for (done Limit) (flow_at flows name);
}

-- ACTIVATE's NO, since there are as many mailboxes as there may be: the new one is forgotten, and the name isn't reserved any longer
unfoldable pub make_no : Flows → List ℕ → FlowStep
make_no flows name = if is_at flows name Making then full flows name else silent flows
