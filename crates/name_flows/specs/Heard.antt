-- A response of the master comes (RFC 3656, 3). It answers the first of the lines whose last answer hasn't come.
use Rattle.std.specs.Prelude.{ℕ, Bool, true, false, nat_eq, if◌then◌else◌, List, [], ◌∷◌, Option, None, Some}
use Rattle.std.specs.Cmp.Lexicographic.{pointwise}
use Rattle.mur_base.specs.declared.home.Location.{Location}
use Rattle.mupdate_codec.specs.declared.command.MResponse.{MResponse}
use Rattle.mupdate_codec.specs.declared.command.MResponse.TheVariants as response
use Rattle.mupdate_codec.specs.declared.tag.Tag.{Tag}
use Rattle.mupdate_codec.specs.declared.tag.Tag.TheVariants.{Star, Text}
use Rattle.node_record.specs.Held.{Names}
use Rattle.name_flows.specs.declared.flows.Flows.{Flows}
use Rattle.name_flows.specs.declared.sent.Sent.{Sent}
use Rattle.name_flows.specs.declared.sent.Sent.TheVariants.{List as list, Reserve, Make, Again, Deactivate, Delete, Wipe, Find}
use Rattle.name_flows.specs.declared.sent.SentLine.{SentLine}
use Rattle.name_flows.specs.Creates.{reserve_ok, reserve_no, make_ok, make_no}
use Rattle.name_flows.specs.Deletes.{deactivate_ok, delete_ok}
use Rattle.name_flows.specs.Finds.{again_ok, wipe_ok, find_line_step, find_ok}
use Rattle.name_flows.specs.Listing.{listed_step}
use Rattle.name_flows.specs.Listed.{list_ok}
use Rattle.name_flows.specs.Steps.{FlowStep, silent}

abbrev pub is_same_tag : Tag → Tag → Bool
is_same_tag Star Star = true
is_same_tag (Text one) (Text other) = pointwise nat_eq one other
is_same_tag one other = false

-- a response under this tag answers the first line
unfoldable pub is_answer : List SentLine → Tag → Bool
is_answer [] tag = false
is_answer (line ∷ lines) tag = is_same_tag line.tag tag

abbrev pub first_line : List SentLine → Option SentLine
first_line [] = None
first_line (line ∷ lines) = Some line

abbrev pub behind_first : List SentLine → List SentLine
behind_first [] = []
behind_first (line ∷ lines) = lines

-- the last answer to the first line has come
abbrev pub taken : Flows → Flows
taken flows = record flows { sent = behind_first flows.sent; found = false }

abbrev pub what_in : Option SentLine → Option Sent
what_in None = None
what_in (Some line) = Some line.what

-- OK to a line; `found`: a record was told before
unfoldable pub ok_of : Flows → Names → Bool → Tag → List ℕ → Sent → FlowStep
ok_of flows held found tag text list = list_ok flows held
ok_of flows held found tag text (Reserve name) = reserve_ok flows tag name text
ok_of flows held found tag text (Make name) = make_ok flows name
ok_of flows held found tag text (Again name) = again_ok flows held name
ok_of flows held found tag text (Deactivate name) = deactivate_ok flows tag name
ok_of flows held found tag text (Delete name) = delete_ok flows name
ok_of flows held found tag text (Wipe name) = wipe_ok flows held name
ok_of flows held found tag text (Find name) = find_ok flows held name found

-- NO to a line: no other line is refused
unfoldable pub no_of : Flows → List ℕ → Sent → FlowStep
no_of flows text (Reserve name) = reserve_no flows name text
no_of flows text (Make name) = make_no flows name
no_of flows text what = silent flows

abbrev pub ok_by : Flows → Names → Bool → List ℕ → Option SentLine → FlowStep
ok_by flows held found text None = silent flows
ok_by flows held found text (Some line) = ok_of flows held found line.tag text line.what

abbrev pub ok_step : Flows → Names → List ℕ → FlowStep
ok_step flows held text = ok_by (taken flows) held flows.found text (first_line flows.sent)

abbrev pub no_by : Flows → List ℕ → Option SentLine → FlowStep
no_by flows text None = silent flows
no_by flows text (Some line) = no_of flows text line.what

abbrev pub no_step : Flows → List ℕ → FlowStep
no_step flows text = no_by (taken flows) text (first_line flows.sent)

-- the line of a record (RFC 3656, 3.5 and 3.6): its name is listed, or the name that was looked for is there
abbrev pub record_of : Flows → Names → List ℕ → Location → Bool → Option Sent → FlowStep
record_of flows held name place is_active (Some list) = listed_step flows held name is_active
record_of flows held name place is_active (Some (Find sought)) = find_line_step flows held sought place.server
record_of flows held name place is_active what = silent flows

abbrev pub record_step : Flows → Names → List ℕ → Location → Bool → FlowStep
record_step flows held name place is_active = record_of flows held name place is_active (what_in (first_line flows.sent))

-- BAD answers a line as NO does
abbrev pub response_step : Flows → Names → MResponse → FlowStep
response_step flows held (response.Mailbox name place acl) = record_step flows held name place true
response_step flows held (response.Reserve name place) = record_step flows held name place false
response_step flows held (response.Delete name) = silent flows
response_step flows held (response.Ok text) = ok_step flows held text
response_step flows held (response.No text) = no_step flows text
response_step flows held (response.Bad text) = no_step flows text

-- a response under another tag changes nothing
unfoldable pub heard_step : Flows → Names → Tag → MResponse → FlowStep
heard_step flows held tag it = if is_answer flows.sent tag then response_step flows held it else silent flows
