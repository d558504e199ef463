-- The records that the lines of a stream make (RFC 3656, 4.11).
use Rattle.std.specs.Prelude.{◌≡◌, ℕ, Bool, true, false, List, [], Option, None, Some, Result, Err, MatchResult}
use Rattle.std.specs.List.{fold}
use Rattle.std.specs.Ordering.{nat_cmp}
use Rattle.std.specs.Cmp.Lexicographic.{slice_cmp}
use Rattle.mur_base.specs.declared.home.Location.{Location}
use Rattle.mur_base.specs.Map.{value_at, with_entry, with_value, without_key}
use Rattle.mupdate_codec.specs.declared.command.MResponse.{MResponse}
use Rattle.mupdate_codec.specs.declared.command.MResponse.TheVariants as response
use Rattle.feed_core.specs.declared.fault.FeedFault.{FeedFault}
use Rattle.feed_core.specs.declared.fault.FeedFault.TheVariants.{NoFeedLine, Memory}
use Rattle.feed_core.specs.declared.rec.Rec.{Rec}
use Rattle.feed_core.specs.declared.rec.Rec.TheVariants.{Active, Reserved}
use Rattle.feed_core.specs.declared.replica.Replica.{Replica}

-- records by name
abbrev pub Recs : Type 0
Recs = List (List ℕ × Rec)

abbrev pub rec_at : Recs → List ℕ → Option Rec
rec_at recs name = value_at (slice_cmp nat_cmp) recs name

abbrev pub place_in : Rec → Location
place_in (Active place acl) = place
place_in (Reserved place acl) = place

abbrev pub acl_in : Rec → Option (List ℕ)
acl_in (Active place acl) = Some acl
acl_in (Reserved place acl) = acl

-- a name is a mailbox if it has an access list: it is active, or was
abbrev pub is_mailbox : Rec → Bool
is_mailbox (Active place acl) = true
is_mailbox (Reserved place None) = false
is_mailbox (Reserved place (Some acl)) = true

-- the record is reserved at a place, and keeps its access list
abbrev pub reserved : Location → Rec → Rec
reserved place it = Reserved place (acl_in it)

abbrev pub put : Recs → List ℕ → Rec → Recs
put recs name it = with_entry (slice_cmp nat_cmp) recs name it

abbrev pub reserved_in : Recs → List ℕ → Location → Option Rec → Recs
reserved_in recs name place None = put recs name (Reserved place None)
reserved_in recs name place (Some it) = with_value (slice_cmp nat_cmp) recs name (reserved place it)

-- MAILBOX makes the name active, RESERVE reserves it, DELETE takes its record away, and no other line changes a record
abbrev pub recs_after : Recs → MResponse → Recs
recs_after recs (response.Mailbox name place acl) = put recs name (Active place acl)
recs_after recs (response.Reserve name place) = reserved_in recs name place (rec_at recs name)
recs_after recs (response.Delete name) = without_key (slice_cmp nat_cmp) recs name
recs_after recs line = recs

-- from the first OK on, which is that of UPDATE, the records of its moment are all there
abbrev pub whole_after : Bool → MResponse → Bool
whole_after whole (response.Ok text) = true
whole_after whole line = whole

abbrev pub replica_after : Replica → MResponse → Replica
replica_after replica line = record { records = recs_after replica.records line; whole = whole_after replica.whole line }

abbrev pub empty_replica : Replica
empty_replica = record { records = []; whole = false }

-- what becomes of a line: it is taken, unless memory is wanting and the replica stays as it was
abbrev pub IsTaken : Replica → MResponse → Replica → Result Unit FeedFault → Type 0
IsTaken old line new result = MatchResult result (λ _. new ≡ replica_after old line) (λ fault. (fault ≡ Memory) × (new ≡ old))

-- but NO and BAD stand in no stream: they are refused, and the replica stays as it was
abbrev pub TakesLine : Replica → MResponse → Replica → Result Unit FeedFault → Type 0
TakesLine old (response.No text) new result = (result ≡ Err NoFeedLine) × (new ≡ old)
TakesLine old (response.Bad text) new result = (result ≡ Err NoFeedLine) × (new ≡ old)
TakesLine old line new result = IsTaken old line new result

-- the records after several lines
abbrev pub fed : Recs → List MResponse → Recs
fed recs lines = fold recs_after recs lines
