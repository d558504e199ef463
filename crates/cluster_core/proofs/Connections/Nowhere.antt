-- A connection of which nothing is on its way, but what is left of commands that are over: each later command of it is nowhere.
use Rattle.std.proofs.Common.{◌≡◌, ℕ, ◌≤◌, Bool, true, false, List, [], ◌∷◌, None, filter, refl, sym, ◌∙◌, ap, arith}
use Rattle.feed_core.specs.declared.replica.Replica.{Replica}
use Rattle.front_core.proofs.OneConnection.Places.{IsPlaced, about_command, is_about, later_none, line_on, of_connection, own_about}
use Rattle.link_msg.specs.declared.message.LinkMsg.{LinkMsg}
use Rattle.link_msg.specs.declared.message.LinkMsg.TheVariants.{Up, End, Line, Ask, Answer}
use Rattle.link_queue.specs.Links.{Links, on_link}
use Rattle.many_links.specs.Murder.{Nodes}
use Rattle.mur_base.specs.declared.point.AskId.{AskId}
use Rattle.route_links.specs.Barriers.{AreOfOthers, IsOfOther}
use Rattle.cluster_core.proofs.Commands.InPlace.{IsInNone, IsInPlace, ShowEach}
use Rattle.cluster_core.proofs.Commands.Place.{Place as place}

message_of_other : (id : AskId) (message : LinkMsg) → is_about id.command (of_connection id.conn) message ≡ false → IsOfOther id message
message_of_other id (Line bytes) apart = λ is.
    let own : is_about id.command (of_connection id.conn) (Line bytes) ≡ true =
    own_about id.command (of_connection id.conn) (Line bytes) (ap about_command is) (line_on id.command bytes id is (omega arith)) in
    let no : true ≡ false = sym own ∙ apart in cc
message_of_other id Up apart = tt
message_of_other id End apart = tt
message_of_other id (Ask ask) apart = tt
message_of_other id (Answer answer) apart = tt

record NoneFirst (is : LinkMsg → Bool) (message : LinkMsg) (messages : List LinkMsg) : Type 0 where
  first : is message ≡ false
  rest : filter is messages ≡ []

none_first : (is : LinkMsg → Bool) (message : LinkMsg) (messages : List LinkMsg) (own : Bool) → is message ≡ own → filter is (message ∷ messages) ≡ []
    → NoneFirst is message messages
none_first is message messages true e none = absurd (let no : message ∷ filter is messages ≡ [] = sym (rw e refl) ∙ none in cc)
none_first is message messages false e none = record { first = e; rest = (let same : filter is (message ∷ messages) ≡ filter is messages = rw e refl in sym same ∙ none) }

-- of messages none of which is about the command, no line is of it
pub all_of_others : (id : AskId) (messages : List LinkMsg) → filter (is_about id.command (of_connection id.conn)) messages ≡ [] → AreOfOthers id messages
all_of_others id [] none = tt
all_of_others id (message ∷ messages) none =
    let first = none_first (is_about id.command (of_connection id.conn)) message messages (is_about id.command (of_connection id.conn) message) refl none in
    (message_of_other id message first.first, all_of_others id messages first.rest)

nowhere_by : (master : List ℕ) (nodes : Nodes) (links : Links LinkMsg) (front : List ℕ) (replica : Replica) (conn first command : ℕ) → first ≤ command
    → IsPlaced first (of_connection conn) links None → ShowEach master nodes links conn place.nowhere
    → IsInPlace master nodes links front replica (record { conn = conn; command = command }) place.nowhere
nowhere_by master nodes links front replica conn first command le none shows =
    let id : AskId = record { conn = conn; command = command } in
    let later = later_none first command (of_connection conn) links le none in
    record {
      message = later;
      shows = shows;
      barrier = record {
        up_others = all_of_others id (on_link links front master) (later front master);
        down_others = all_of_others id (on_link links master front) (later master front);
      };
      there = tt;
    }

pub in_nowhere : (master : List ℕ) (nodes : Nodes) (links : Links LinkMsg) (front : List ℕ) (replica : Replica) (conn command : ℕ)
    → IsInNone master nodes links conn → IsInPlace master nodes links front replica (record { conn = conn; command = command }) place.nowhere
in_nowhere master nodes links front replica conn command none =
    nowhere_by master nodes links front replica conn 0 command (omega arith) none.message none.shows

-- where a command is nowhere, so is each later one of the connection
pub nowhere_too : (master : List ℕ) (nodes : Nodes) (links : Links LinkMsg) (front : List ℕ) (replica : Replica) (id : AskId) (command : ℕ) → id.command ≤ command
    → IsInPlace master nodes links front replica id place.nowhere
    → IsInPlace master nodes links front replica (record { conn = id.conn; command = command }) place.nowhere
nowhere_too master nodes links front replica id command le is =
    nowhere_by master nodes links front replica id.conn id.command command le is.message is.shows
