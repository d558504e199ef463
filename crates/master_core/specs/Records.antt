-- The lines that tell of a record (RFC 3656, 3.5 and 3.6).
use Rattle.std.specs.Prelude.{ℕ, Bool, true, List, [], ◌∷◌, nat_eq, Option, None, Some}
use Rattle.std.specs.List.{starts_with}
use Rattle.mur_base.specs.declared.home.Location.{Location}
use Rattle.mupdate_codec.specs.declared.command.MResponse.{MResponse}
use Rattle.mupdate_codec.specs.declared.command.MResponse.TheVariants as response
use Rattle.node_record.specs.declared.table.State.{State}
use Rattle.node_record.specs.declared.table.State.TheVariants.{Bare, Kept, Active}
use Rattle.node_record.specs.declared.table.Record.{Record}
use Rattle.text_parts.specs.Locations.{location_text}

-- one line: MAILBOX where the name is active, RESERVE where it is reserved

abbrev pub line_in : List ℕ → Location → State → MResponse
line_in name place (Bare serial) = response.Reserve name place
line_in name place (Kept acl) = response.Reserve name place
line_in name place (Active acl) = response.Mailbox name place acl

abbrev pub record_line : List ℕ → Record → MResponse
record_line name it = line_in name it.place it.state

-- all lines: MAILBOX where there is an access list, and then RESERVE where the name is reserved

abbrev pub lines_in : List ℕ → Location → State → List MResponse
lines_in name place (Bare serial) = response.Reserve name place ∷ []
lines_in name place (Kept acl) = response.Mailbox name place acl ∷ response.Reserve name place ∷ []
lines_in name place (Active acl) = response.Mailbox name place acl ∷ []

abbrev pub record_lines : List ℕ × Record → List MResponse
record_lines entry = lines_in entry.0 (entry.1).place (entry.1).state

-- the line of a record whose text of its location begins with the prefix, if one is asked for
abbrev pub has_prefix : Option (List ℕ) → Location → Bool
has_prefix None place = true
has_prefix (Some prefix) place = starts_with nat_eq (location_text place) prefix

abbrev pub listed_line : List ℕ × Record → MResponse
listed_line entry = record_line entry.0 entry.1

abbrev pub is_listed : Option (List ℕ) → List ℕ × Record → Bool
is_listed prefix entry = has_prefix prefix (entry.1).place

-- the line of a record, if there is one
abbrev pub found_line : List ℕ → Option Record → List MResponse
found_line name None = []
found_line name (Some it) = record_line name it ∷ []
