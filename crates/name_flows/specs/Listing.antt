-- A resync: LIST of the names at this server (RFC 3656, 4.6), and the lines that answer it.
use Rattle.std.specs.Prelude.{ℕ, Bool, true, false, ◌||◌, if◌then◌else◌, List, [], ◌∷◌, codes, Option, None, Some}
use Rattle.std.specs.Ordering.{nat_cmp}
use Rattle.std.specs.Cmp.Lexicographic.{slice_cmp}
use Rattle.mur_base.specs.Map.{with_entry}
use Rattle.mupdate_codec.specs.declared.tag.Tag.TheVariants.{Text}
use Rattle.node_record.specs.declared.backend.BackendRecord.TheVariants as entry
use Rattle.node_record.specs.Held.{Names, held_at}
use Rattle.name_flows.specs.declared.flows.Flows.{Flows}
use Rattle.name_flows.specs.declared.gives.Gives.{Gives}
use Rattle.name_flows.specs.declared.resync.Resync.{Resync}
use Rattle.name_flows.specs.declared.sent.Sent.TheVariants.{List as list, Again, Wipe}
use Rattle.name_flows.specs.declared.sent.SentLine.{SentLine}
use Rattle.name_flows.specs.Lines.{unasked_line}
use Rattle.name_flows.specs.Link.{waiting_in}
use Rattle.name_flows.specs.Phases.{is_creating, is_open, is_closing}
use Rattle.name_flows.specs.Steps.{FlowStep, given, sending}

-- the line with which a resync begins
abbrev pub resync_line : SentLine
resync_line = record { tag = Text (codes "l"); what = list }

abbrev pub begun_resync : Flows → Flows
begun_resync flows = record flows { up = true; resync = Some (record { listed = []; waiting = waiting_in flows.resync }) }

-- the link comes up: a resync begins
abbrev pub up_step : Flows → FlowStep
up_step flows = sending (begun_resync flows) resync_line

abbrev pub noted_in : Option Resync → List ℕ → Option Resync
noted_in None name = None
noted_in (Some it) name = Some (record it { listed = with_entry (slice_cmp nat_cmp) it.listed name tt })

-- the name was listed
abbrev pub noted : Flows → List ℕ → Flows
noted flows name = record flows { resync = noted_in flows.resync name }

-- The name is listed as active here: what was made or closed here is open.
abbrev pub active_listed : Names → List ℕ → Gives
active_listed held name =
    if is_creating (held_at held name) || is_closing (held_at held name) then record { entry = Some (entry.Opened name); sends = []; answers = [] }
    else record { entry = None; sends = []; answers = [] }

-- The name is listed as reserved here: a mailbox that is open or closed here is activated again, any other name deleted.
abbrev pub reserved_listed : Names → List ℕ → Gives
reserved_listed held name = record {
  entry = None;
  sends = unasked_line (if is_open (held_at held name) || is_closing (held_at held name) then Again name else Wipe name) ∷ [];
  answers = [];
}

-- a line in answer to LIST
abbrev pub listed_step : Flows → Names → List ℕ → Bool → FlowStep
listed_step flows held name true = given (noted flows name) (active_listed held name)
listed_step flows held name false = given (noted flows name) (reserved_listed held name)
