-- LIST's OK: a resync ends. Only this backend changes the records that name it, and the master took all its earlier lines before: so the answer
-- is final.
use Rattle.std.specs.Prelude.{ℕ, Bool, true, false, ◌&&◌, not, is_some, List, [], ◌∷◌, ◌++◌, codes, filter, map, Option, None, Some}
use Rattle.std.specs.List.{fold}
use Rattle.std.specs.Ordering.{nat_cmp}
use Rattle.std.specs.Cmp.Lexicographic.{slice_cmp}
use Rattle.mur_base.specs.Map.{value_at, with_entry}
use Rattle.link_msg.specs.declared.answer.AnswerBody.{AnswerBody}
use Rattle.mupdate_codec.specs.declared.tag.Tag.TheVariants.{Text}
use Rattle.node_record.specs.declared.backend.BackendRecord.{BackendRecord}
use Rattle.node_record.specs.declared.backend.BackendRecord.TheVariants as entry
use Rattle.node_record.specs.declared.held.Held.{Held}
use Rattle.node_record.specs.Held.{Names}
use Rattle.name_flows.specs.declared.ask.NameAsk.{NameAsk}
use Rattle.name_flows.specs.declared.ask.Told.{Told}
use Rattle.name_flows.specs.declared.flows.Flows.{Flows}
use Rattle.name_flows.specs.declared.resync.Resync.{Resync}
use Rattle.name_flows.specs.declared.sent.Sent.TheVariants.{Find}
use Rattle.name_flows.specs.declared.sent.SentLine.{SentLine}
use Rattle.name_flows.specs.AnswerOrder.{in_command_order}
use Rattle.name_flows.specs.Asked.{refusal, begun_flow, begun_line}
use Rattle.name_flows.specs.Phases.{is_creating_phase, is_closing_phase}
use Rattle.name_flows.specs.Running.{answer_to}
use Rattle.name_flows.specs.Steps.{FlowStep, silent}

-- the names that were listed
abbrev pub ListedNames : Type 0
ListedNames = List (List ℕ × Unit {0})

abbrev pub is_unlisted : ListedNames → List ℕ → Bool
is_unlisted listed name = not (is_some (value_at (slice_cmp nat_cmp) listed name))

-- a mailbox that was made here, and isn't active: its name wasn't listed
abbrev pub is_unmade : ListedNames → List ℕ × Held → Bool
is_unmade listed e = is_creating_phase (e.1).phase && is_unlisted listed e.0

-- a mailbox that is closed here, and whose name wasn't listed
abbrev pub is_lost : ListedNames → List ℕ × Held → Bool
is_lost listed e = is_closing_phase (e.1).phase && is_unlisted listed e.0

abbrev pub name_in : List ℕ × Held → List ℕ
name_in e = e.0

abbrev pub forget_all : List (List ℕ) → Option BackendRecord
forget_all [] = None
forget_all (name ∷ names) = Some (entry.Forget (name ∷ names))

-- the line that looks for a name (RFC 3656, 4.5)
abbrev pub find_line : List ℕ → SentLine
find_line name = record { tag = Text (codes "r2"); what = Find name }

-- lines by the name that they are about: they are sent in the order of their names
abbrev pub LinesByName : Type 0
LinesByName = List (List ℕ × SentLine)

abbrev pub with_line : LinesByName → List ℕ → SentLine → LinesByName
with_line lines name line = with_entry (slice_cmp nat_cmp) lines name line

abbrev pub with_find : LinesByName → List ℕ × Held → LinesByName
with_find lines e = with_line lines e.0 (find_line e.0)

abbrev pub line_in : List ℕ × SentLine → SentLine
line_in e = e.1

-- what those that waited come to, one after the other
pub record Round : Type 0 where
  pub flows : Flows
  pub lines : LinesByName
  pub answers : List Told

abbrev pub round_by : Round → NameAsk → Option AnswerBody → Round
round_by it ask (Some body) = record it { answers = it.answers ++ answer_to ask.front ask.id body ∷ [] }
round_by it ask None = record it { flows = begun_flow it.flows ask; lines = with_line it.lines ask.name (begun_line ask) }

abbrev pub round : Names → Round → NameAsk → Round
round held it ask = round_by it ask (refusal it.flows held ask.name ask.kind)

-- they are tested in the order of asking, and answered in that of their commands
abbrev pub after_round : Option BackendRecord → Round → FlowStep
after_round change it = record { flows = it.flows; entry = change; sends = map line_in it.lines; answers = in_command_order it.answers }

-- What was made here and wasn't listed is forgotten, and what is closed here and wasn't listed is looked for. Then those that waited are tested.
abbrev pub ended_resync : Flows → Names → Resync → FlowStep
ended_resync flows held it =
    after_round (forget_all (map name_in (filter (is_unmade it.listed) held)))
    (fold (round held) (record { flows = flows; lines = fold with_find [] (filter (is_lost it.listed) held); answers = [] }) it.waiting)

abbrev pub list_ok_by : Flows → Names → Option Resync → FlowStep
list_ok_by flows held None = silent flows
list_ok_by flows held (Some it) = ended_resync flows held it

abbrev pub list_ok : Flows → Names → FlowStep
list_ok flows held = list_ok_by (record flows { resync = None }) held flows.resync
