-- The output of a run: what clients were given, the history, the master's records, the mailboxes, and a last line. Each line ends with an LF.
use Rattle.std.specs.Prelude.{ℕ, List, [], ◌++◌, length, codes}
use Rattle.std.specs.List.{flat_map}
use Rattle.std.specs.Fmt.{decimal}
use Rattle.mur_base.specs.declared.point.Point.{Point}
use Rattle.mur_base.specs.declared.point.What.{What}
use Rattle.mur_base.specs.declared.point.What.TheVariants.{Reply, Read, Lost, Reserved, Unreached}
use Rattle.mur_base.specs.declared.home.Location.{Location}
use Rattle.mur_base.specs.declared.home.Phase.{Phase}
use Rattle.mur_base.specs.declared.home.Phase.TheVariants.{Creating, Open as open_here, Closing, Receiving, Ready, Pointer}
use Rattle.cluster_core.specs.declared.cluster.HomeRow.{HomeRow}
use Rattle.cluster_core.specs.declared.world.Client.{Client}
use Rattle.cluster_core.specs.Headline.Outside.{table_at}
use Rattle.cluster_core.specs.History.{history_of}
use Rattle.cluster_core.specs.Shown.{home_rows}
use Rattle.cluster_core.specs.World.{ClusterState}
use Rattle.node_record.specs.declared.table.Record.{Record}
use Rattle.node_record.specs.declared.table.State.{State}
use Rattle.node_record.specs.declared.table.State.TheVariants.{Bare, Kept, Active}
use Rattle.node_record.specs.Table.{Records}
use Rattle.schedule_text.specs.Cuts.{cuts_of}
use Rattle.schedule_text.specs.Text.{text_of, name_text_of}

-- `to C TEXT`: a piece of what the client of a connection was given
unfoldable pub to_line : ℕ → List ℕ → List ℕ
to_line conn piece = codes "to " ++ decimal conn ++ codes " " ++ text_of piece ++ codes "\n"

-- what the client of a connection was given, cut after each LF
unfoldable pub given_lines : ℕ → List ℕ → List ℕ
given_lines conn given = flat_map (to_line conn) (cuts_of given)

abbrev pub client_lines : ℕ × Client → List ℕ
client_lines client = given_lines client.0 (client.1).given

unfoldable pub unreached_text : List ℕ → List ℕ
unreached_text node = codes "refused unreached " ++ node

unfoldable pub what_text : What → List ℕ
what_text Reply = codes "reply"
what_text Read = codes "read"
what_text Lost = codes "lost"
what_text Reserved = codes "refused reserved"
what_text (Unreached node) = unreached_text node

-- `point STEP C.K WHAT`
unfoldable pub point_line : Point → List ℕ
point_line point =
    codes "point " ++ decimal point.step ++ codes " " ++ decimal (point.ask).conn ++ codes "." ++ decimal (point.ask).command ++ codes " "
    ++ what_text point.what ++ codes "\n"

-- how far the master is with a name (RFC 3656, 3.5 and 3.6)
abbrev pub state_word : State → List ℕ
state_word (Bare serial) = codes "reserved"
state_word (Kept acl) = codes "reserved"
state_word (Active acl) = codes "active"

unfoldable pub location_text : Location → List ℕ
location_text place = place.server ++ codes "!" ++ place.partition

-- `master NAME active SERVER!PARTITION`, or with `reserved`: a record of the master's table
unfoldable pub record_line : List ℕ × Record → List ℕ
record_line entry =
    codes "master " ++ name_text_of entry.0 ++ codes " " ++ state_word (entry.1).state ++ codes " " ++ location_text (entry.1).place ++ codes "\n"

-- the word of a phase, and the UIDVALIDITY, the UIDNEXT and how many messages there are
unfoldable pub row_counts_text : List ℕ → HomeRow → List ℕ
row_counts_text phase row = phase ++ codes " " ++ decimal row.serial ++ codes " " ++ decimal row.next ++ codes " " ++ decimal row.count ++ codes "\n"

unfoldable pub pointer_text : List ℕ → List ℕ
pointer_text server = codes "pointer " ++ server ++ codes "\n"

-- how far a node is with a mailbox that it has
unfoldable pub phase_text : HomeRow → Phase → List ℕ
phase_text row Creating = row_counts_text (codes "creating") row
phase_text row open_here = row_counts_text (codes "open") row
phase_text row Closing = row_counts_text (codes "closing") row
phase_text row Ready = row_counts_text (codes "ready") row
phase_text row Receiving = row_counts_text (codes "receiving") row
phase_text row (Pointer server) = pointer_text server

-- `box NAME NODE PHASE UIDVALIDITY UIDNEXT COUNT`, or `box NAME NODE pointer SERVER`: a mailbox at a node that has it
unfoldable pub row_text : HomeRow → List ℕ
row_text row = codes "box " ++ name_text_of row.name ++ codes " " ++ row.backend ++ codes " " ++ phase_text row row.phase

-- what is coming in isn't shown
unfoldable pub line_by_phase : HomeRow → Phase → List ℕ
line_by_phase row Receiving = []
line_by_phase row Creating = row_text row
line_by_phase row open_here = row_text row
line_by_phase row Closing = row_text row
line_by_phase row Ready = row_text row
line_by_phase row (Pointer server) = row_text row

unfoldable pub box_line : HomeRow → List ℕ
box_line row = line_by_phase row row.phase

-- `end STEPS POINTS`
unfoldable pub end_line : ℕ → ℕ → List ℕ
end_line steps points = codes "end " ++ decimal steps ++ codes " " ++ decimal points ++ codes "\n"

-- the records of the master's table
abbrev pub records_of : ClusterState → Records
records_of now = (table_at now.world now.layout.master).records

-- clients in rising order of connections, points in order, records and mailboxes in byte order of names
unfoldable pub lines_of : ClusterState → List Point → List HomeRow → List ℕ
lines_of now points rows =
    flat_map client_lines now.world.clients
    ++ (flat_map point_line points ++ (flat_map record_line (records_of now) ++ (flat_map box_line rows ++ end_line now.world.steps (length points))))

unfoldable pub output_of : ClusterState → List ℕ
output_of now = lines_of now (history_of now.world) (home_rows now.layout now.world)
