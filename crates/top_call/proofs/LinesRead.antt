-- Each line of the output is read back as what it is of.
use Rattle.std.proofs.Common.{◌≡◌, ℕ, List, [], ◌∷◌, ◌++◌, refl, sym, ◌∙◌, ap, subst, append_assoc}
use Rattle.std.specs.Prelude.{All, codes}
use Rattle.std.specs.List.{flat_map}
use Rattle.std.specs.Fmt.{decimal}
use Rattle.std.proofs.lemmas.List.Elements.{All-head, All-tail}
use Rattle.mur_base.specs.declared.point.Point.{Point}
use Rattle.mur_base.specs.declared.point.What.{What}
use Rattle.mur_base.specs.declared.point.What.TheVariants.{Reply, Read, Lost, Reserved, Unreached}
use Rattle.mur_base.specs.declared.home.Phase.{Phase}
use Rattle.mur_base.specs.declared.home.Phase.TheVariants.{Creating, Open as open_here, Closing, Receiving, Ready, Pointer}
use Rattle.mur_config.specs.declared.config.Config.{Config}
use Rattle.mur_config.specs.Nodes.{AreNodes}
use Rattle.cluster_core.specs.declared.cluster.HomeRow.{HomeRow}
use Rattle.cluster_core.specs.declared.world.Client.{Client}
use Rattle.cluster_core.specs.Headline.Records.{StandsAtBackend}
use Rattle.cluster_core.proofs.Starts.Places.{named_place}
use Rattle.node_record.specs.declared.table.Record.{Record}
use Rattle.node_record.specs.declared.table.State.{State}
use Rattle.node_record.specs.declared.table.State.TheVariants.{Bare, Kept, Active}
use Rattle.schedule_text.specs.Cuts.{cuts_of}
use Rattle.schedule_text.specs.Text.{text_of, name_text_of}
use Rattle.top_call.specs.Output.{to_line, client_lines, given_lines, point_line, what_text, unreached_text, row_counts_text, pointer_text, phase_text, row_text, line_by_phase}
use Rattle.top_call.specs.Output.{box_line, end_line, location_text, record_line, state_word}
use Rattle.top_call.specs.ReadBack.{TellsEach, no_line, a_line, IsToLine, TellsClient, IsPointLine, SaysWhat, SaysCounts, IsRowLine, IsLineAt, IsBoxLine}
use Rattle.top_call.specs.ReadBack.{IsEndLine, IsRecordLine, SaysState}
use Rattle.top_call.proofs.CutsJoined.{join_cuts, cuts_something}
use Rattle.mur_base.proofs.DecimalReadBack.{number_of-decimal}
use Rattle.top_call.proofs.OneWord.{one_word}
use Rattle.top_call.proofs.PlaceRead.{short_goes_on}
use Rattle.top_call.proofs.SpellingRead.{text_read, name_text_read}

pub tells_each : {X : Type 0} (IsLine : X → List ℕ → Type 0) (line_of : X → List ℕ) → ((item : X) → IsLine item (line_of item)) → (items : List X)
    → TellsEach IsLine items (flat_map line_of items)
tells_each IsLine line_of is [] = no_line
tells_each IsLine line_of is (item ∷ items) =
    a_line item items (line_of item) (flat_map line_of items) (is item) (tells_each IsLine line_of is items)

-- where each item is such
pub tells_all : {X : Type 0} (P : X → Type 0) (IsLine : X → List ℕ → Type 0) (line_of : X → List ℕ) → ((item : X) → P item → IsLine item (line_of item))
    → (items : List X) → All P items → TellsEach IsLine items (flat_map line_of items)
tells_all P IsLine line_of is [] all = no_line
tells_all P IsLine line_of is (item ∷ items) all =
    a_line item items (line_of item) (flat_map line_of items) (is item (All-head P item items all))
    (tells_all P IsLine line_of is items (All-tail P item items all))

to_line_read : (conn : ℕ) (piece : List ℕ) → IsToLine conn piece (to_line conn piece)
unfolding to_line
to_line_read conn piece = record {
  number = decimal conn;
  text = text_of piece;
  words = refl;
  of_conn = number_of-decimal conn;
  of_piece = text_read piece;
}

pub client_read : (client : ℕ × Client) → TellsClient client (client_lines client)
unfolding given_lines
client_read client = record {
  pieces = cuts_of (client.1).given;
  lines = tells_each (IsToLine client.0) (to_line client.0) (to_line_read client.0) (cuts_of (client.1).given);
  all = join_cuts (client.1).given;
  something = cuts_something (client.1).given;
}

what_said : (what : What) → SaysWhat what (what_text what)
unfolding what_text unreached_text
what_said Reply = refl
what_said Read = refl
what_said Lost = refl
what_said Reserved = refl
what_said (Unreached node) = refl

pub point_line_read : (point : Point) → IsPointLine point (point_line point)
unfolding point_line
point_line_read point = record {
  step = decimal point.step;
  conn = decimal (point.ask).conn;
  command = decimal (point.ask).command;
  what = what_text point.what;
  words = refl;
  at_step = number_of-decimal point.step;
  of_conn = number_of-decimal (point.ask).conn;
  of_command = number_of-decimal (point.ask).command;
  is = what_said point.what;
}

state_said : (state : State) → SaysState state (state_word state)
state_said (Bare serial) = refl
state_said (Kept acl) = refl
state_said (Active acl) = refl

pub record_line_read : (config : Config) → AreNodes config.nodes → (entry : List ℕ × Record) → StandsAtBackend config entry
    → IsRecordLine entry (record_line entry)
unfolding record_line location_text
record_line_read config are entry stands = record {
  name = name_text_of entry.0;
  state = state_word (entry.1).state;
  words = placed (codes "master " ++ name_text_of entry.0 ++ codes " " ++ state_word (entry.1).state ++ codes " ") (entry.1).place.server
      (entry.1).place.partition;
  named = name_text_read entry.0;
  one_word = one_word entry.0;
  says = state_said (entry.1).state;
  server = short_goes_on (entry.1).place.server (named_place config are (entry.1).place stands.place).server;
  partition = short_goes_on (entry.1).place.partition (named_place config are (entry.1).place stands.place).partition;
}
  where
    placed : (front server partition : List ℕ) → front ++ (server ++ codes "!" ++ partition) ++ codes "\n" ≡ front ++ server ++ codes "!" ++ partition
        ++ codes "\n"
    placed front server partition =
        ap (λ (x : List ℕ). x ++ codes "\n") (sym (append_assoc front (server ++ codes "!") partition)
        ∙ ap (λ (x : List ℕ). x ++ partition) (sym (append_assoc front server (codes "!"))))

-- the state, without the LF
counts_state : List ℕ → HomeRow → List ℕ
counts_state phase row = phase ++ codes " " ++ decimal row.serial ++ codes " " ++ decimal row.next ++ codes " " ++ decimal row.count

counts_said : (phase : List ℕ) (row : HomeRow) → SaysCounts phase row (counts_state phase row)
unfolding counts_state
counts_said phase row = record {
  serial = decimal row.serial;
  next = decimal row.next;
  count = decimal row.count;
  words = refl;
  of_serial = number_of-decimal row.serial;
  of_next = number_of-decimal row.next;
  of_count = number_of-decimal row.count;
}

row_front : HomeRow → List ℕ
row_front row = codes "box " ++ name_text_of row.name ++ codes " " ++ row.backend ++ codes " "

row_read : (Says : List ℕ → Type 0) (row : HomeRow) (state : List ℕ) → Says state → IsRowLine Says row (row_front row ++ (state ++ codes "\n"))
unfolding row_front
row_read Says row state says = record {
  name = name_text_of row.name;
  state = state;
  words = sym (append_assoc (row_front row) state (codes "\n"));
  named = name_text_read row.name;
  one_word = one_word row.name;
  says = says;
}

counts_read : (phase : List ℕ) (row : HomeRow) → IsRowLine (SaysCounts phase row) row (row_front row ++ row_counts_text phase row)
unfolding counts_state row_counts_text
counts_read phase row = row_read (SaysCounts phase row) row (counts_state phase row) (counts_said phase row)

line_read : (row : HomeRow) (phase : Phase) → row.phase ≡ phase → IsLineAt phase row (line_by_phase row phase)
unfolding line_by_phase row_text phase_text pointer_text row_front
line_read row Receiving is = refl
line_read row Creating is =
    subst (λ (p : Phase). IsLineAt Creating row (row_front row ++ phase_text row p)) (sym is) (counts_read (codes "creating") row)
line_read row open_here is =
    subst (λ (p : Phase). IsLineAt open_here row (row_front row ++ phase_text row p)) (sym is) (counts_read (codes "open") row)
line_read row Closing is =
    subst (λ (p : Phase). IsLineAt Closing row (row_front row ++ phase_text row p)) (sym is) (counts_read (codes "closing") row)
line_read row Ready is =
    subst (λ (p : Phase). IsLineAt Ready row (row_front row ++ phase_text row p)) (sym is) (counts_read (codes "ready") row)
line_read row (Pointer server) is =
    subst (λ (p : Phase). IsLineAt (Pointer server) row (row_front row ++ phase_text row p)) (sym is)
    (row_read (λ (state : List ℕ). state ≡ codes "pointer " ++ server) row (codes "pointer " ++ server) refl)

pub box_line_read : (row : HomeRow) → IsBoxLine row (box_line row)
unfolding box_line
box_line_read row = line_read row row.phase refl

pub end_line_read : (steps points : ℕ) → IsEndLine steps points (end_line steps points)
unfolding end_line
end_line_read steps points = record {
  first = decimal steps;
  second = decimal points;
  words = refl;
  of_steps = number_of-decimal steps;
  of_points = number_of-decimal points;
}
