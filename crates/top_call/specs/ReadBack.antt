-- The text of a run is read back: its lines tell, one for one, all that the clients were given, the history, the mailboxes and the counts.
use Rattle.std.specs.Prelude.{◌≡◌, ◌≢◌, ℕ, ◌^◌, ◌<◌, List, [], ◌∷◌, ◌++◌, length, get_or, All, Some, codes}
use Rattle.std.specs.List.{flat_map}
use Rattle.mur_base.specs.Ascii.{lf, space}
use Rattle.mur_base.specs.Number.{number_of}
use Rattle.mur_base.specs.declared.point.Point.{Point}
use Rattle.mur_base.specs.declared.point.What.{What}
use Rattle.mur_base.specs.declared.point.What.TheVariants.{Reply, Read, Lost, Reserved, Unreached}
use Rattle.mur_base.specs.declared.home.Phase.{Phase}
use Rattle.mur_base.specs.declared.home.Phase.TheVariants.{Creating, Open as open_here, Closing, Receiving, Ready, Pointer}
use Rattle.cluster_core.specs.declared.cluster.HomeRow.{HomeRow}
use Rattle.cluster_core.specs.declared.world.Client.{Client}
use Rattle.cluster_core.specs.declared.layout.Layout.{Layout}
use Rattle.cluster_core.specs.declared.world.World.{World}
use Rattle.cluster_core.specs.Headline.Outside.{table_at}
use Rattle.cluster_core.specs.History.{history_of}
use Rattle.cluster_core.specs.Shown.{given_to, home_rows}
use Rattle.node_record.specs.declared.table.Record.{Record}
use Rattle.node_record.specs.declared.table.State.{State}
use Rattle.node_record.specs.declared.table.State.TheVariants.{Bare, Kept, Active}
use Rattle.schedule_text.specs.Text.{bytes_of}
use Rattle.text_parts.specs.Locations.{bang}

-- a word that is read as this number, which is one of 64 bits as the code's numbers are
abbrev pub ReadsNumber : List ℕ → ℕ → Type 0
ReadsNumber word n = n < 2 ^ 64 → number_of word ≡ Some n

-- a word that is read as these bytes
abbrev pub ReadsBytes : List ℕ → List ℕ → Type 0
ReadsBytes word bytes = ((k : ℕ) → get_or bytes k 0 < 2 ^ 8) → bytes_of word ≡ Some bytes

-- a text is one line of each item, in their order
pub data TellsEach {X : Type 0} (IsLine : X → List ℕ → Type 0) : List X → List ℕ → Type 0 where
  no_line : TellsEach IsLine [] []
  a_line : (item : X) (items : List X) (line rest : List ℕ) → IsLine item line → TellsEach IsLine items rest
      → TellsEach IsLine (item ∷ items) (line ++ rest)

-- `to CONN TEXT`: this number and these bytes
pub record IsToLine (conn : ℕ) (piece line : List ℕ) : Type 0 where
  pub number : List ℕ
  pub text : List ℕ
  pub words : line ≡ codes "to " ++ number ++ codes " " ++ text ++ codes "\n"
  pub of_conn : ReadsNumber number conn
  pub of_piece : ReadsBytes text piece

-- the lines of one connection: what they tell, joined, is all that its client was given. No line tells nothing
pub record TellsClient (client : ℕ × Client) (text : List ℕ) : Type 0 where
  pub pieces : List (List ℕ)
  pub lines : TellsEach (IsToLine client.0) pieces text
  pub all : flat_map (λ (piece : List ℕ). piece) pieces ≡ (client.1).given
  pub something : All (λ (piece : List ℕ). 0 < length piece) pieces

-- what a point says of its command
abbrev pub SaysWhat : What → List ℕ → Type 0
SaysWhat Reply words = words ≡ codes "reply"
SaysWhat Read words = words ≡ codes "read"
SaysWhat Lost words = words ≡ codes "lost"
SaysWhat Reserved words = words ≡ codes "refused reserved"
SaysWhat (Unreached node) words = words ≡ codes "refused unreached " ++ node

-- `point STEP CONN.COMMAND WHAT`
pub record IsPointLine (point : Point) (line : List ℕ) : Type 0 where
  pub step : List ℕ
  pub conn : List ℕ
  pub command : List ℕ
  pub what : List ℕ
  pub words : line ≡ codes "point " ++ step ++ codes " " ++ conn ++ codes "." ++ command ++ codes " " ++ what ++ codes "\n"
  pub at_step : ReadsNumber step point.step
  pub of_conn : ReadsNumber conn (point.ask).conn
  pub of_command : ReadsNumber command (point.ask).command
  pub is : SaysWhat point.what what

abbrev pub SaysState : State → List ℕ → Type 0
SaysState (Bare serial) word = word ≡ codes "reserved"
SaysState (Kept acl) word = word ≡ codes "reserved"
SaysState (Active acl) word = word ≡ codes "active"

-- a byte that ends neither a word nor the front of a place nor a line
abbrev pub GoesOn : ℕ → Type 0
GoesOn c = (c ≢ space) × (c ≢ bang) × (c ≢ lf)

-- `master NAME STATE SERVER!PARTITION`; the name is one word, and one `!` stands in the place, so the line is read in one way
pub record IsRecordLine (entry : List ℕ × Record) (line : List ℕ) : Type 0 where
  pub name : List ℕ
  pub state : List ℕ
  pub words : line ≡ codes "master " ++ name ++ codes " " ++ state ++ codes " " ++ (entry.1).place.server ++ codes "!" ++ (entry.1).place.partition
      ++ codes "\n"
  pub named : ReadsBytes name entry.0
  pub one_word : All (λ (c : ℕ). c ≢ space) name
  pub says : SaysState (entry.1).state state
  pub server : All GoesOn (entry.1).place.server
  pub partition : All GoesOn (entry.1).place.partition

-- a phase by its word, and UIDVALIDITY, UIDNEXT and how many messages there are
pub record SaysCounts (phase : List ℕ) (row : HomeRow) (state : List ℕ) : Type 0 where
  pub serial : List ℕ
  pub next : List ℕ
  pub count : List ℕ
  pub words : state ≡ phase ++ codes " " ++ serial ++ codes " " ++ next ++ codes " " ++ count
  pub of_serial : ReadsNumber serial row.serial
  pub of_next : ReadsNumber next row.next
  pub of_count : ReadsNumber count row.count

-- `box NAME NODE STATE`, where the state is said so; the name is one word
pub record IsRowLine (Says : List ℕ → Type 0) (row : HomeRow) (line : List ℕ) : Type 0 where
  pub name : List ℕ
  pub state : List ℕ
  pub words : line ≡ codes "box " ++ name ++ codes " " ++ row.backend ++ codes " " ++ state ++ codes "\n"
  pub named : ReadsBytes name row.name
  pub one_word : All (λ (c : ℕ). c ≢ space) name
  pub says : Says state

-- by the phase: what is coming in has no line
abbrev pub IsLineAt : Phase → HomeRow → List ℕ → Type 0
IsLineAt Receiving row line = line ≡ []
IsLineAt Creating row line = IsRowLine (SaysCounts (codes "creating") row) row line
IsLineAt open_here row line = IsRowLine (SaysCounts (codes "open") row) row line
IsLineAt Closing row line = IsRowLine (SaysCounts (codes "closing") row) row line
IsLineAt Ready row line = IsRowLine (SaysCounts (codes "ready") row) row line
IsLineAt (Pointer server) row line = IsRowLine (λ state. state ≡ codes "pointer " ++ server) row line

abbrev pub IsBoxLine : HomeRow → List ℕ → Type 0
IsBoxLine row line = IsLineAt row.phase row line

-- `end STEPS POINTS`
pub record IsEndLine (steps points : ℕ) (line : List ℕ) : Type 0 where
  pub first : List ℕ
  pub second : List ℕ
  pub words : line ≡ codes "end " ++ first ++ codes " " ++ second ++ codes "\n"
  pub of_steps : ReadsNumber first steps
  pub of_points : ReadsNumber second points

-- the text of a run: what the clients were given, the history, the master's records, the mailboxes at the nodes that have them, how many steps and
-- points. Each client is the one that its number finds
pub record TellsRun (text : List ℕ) (layout : Layout) (world : World) : Type 0 where
  pub to_text : List ℕ
  pub point_text : List ℕ
  pub record_text : List ℕ
  pub box_text : List ℕ
  pub end_text : List ℕ
  pub whole : text ≡ to_text ++ (point_text ++ (record_text ++ (box_text ++ end_text)))
  pub clients : TellsEach TellsClient world.clients to_text
  pub found : All (λ (client : ℕ × Client). given_to world client.0 ≡ (client.1).given) world.clients
  pub points : TellsEach IsPointLine (history_of world) point_text
  pub records : TellsEach IsRecordLine (table_at world layout.master).records record_text
  pub boxes : TellsEach IsBoxLine (home_rows layout world) box_text
  pub ends : IsEndLine world.steps (length (history_of world)) end_text
