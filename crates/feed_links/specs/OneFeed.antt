-- One feed: what a frontend has sent to the master, what is on its way back, and the frontend's replica.
use Rattle.std.specs.Prelude.{◌≡◌, ◌≢◌, ◌⊎◌, ℕ, ◌+◌, ◌≤◌, Bool, true, false, List, [], ◌∷◌, ◌++◌, Option, None, Some}
use Rattle.std.specs.List.{AllByRecursion}
use Rattle.feed_core.specs.declared.replica.Replica.{Replica}
use Rattle.feed_core.specs.Feed.{empty_replica}
use Rattle.feed_core.specs.Stream.{is_update_tag, update_line, update_tag}
use Rattle.link_msg.specs.declared.message.LinkMsg.{LinkMsg}
use Rattle.link_msg.specs.declared.message.LinkMsg.TheVariants.{Up, End, Line}
use Rattle.master_core.specs.declared.master.Master.{Master}
use Rattle.master_core.specs.declared.sender.Sender.TheVariants.{Outside}
use Rattle.master_core.specs.Linked.{node_says}
use Rattle.master_core.specs.Outside.{Stepped, bytes_in, connect}
use Rattle.master_core.specs.Streams.{without}
use Rattle.mupdate_codec.specs.declared.command.MCommand.TheVariants as command
use Rattle.mupdate_codec.specs.declared.tag.Tag.{Tag}
use Rattle.mupdate_codec.specs.Whole.{command_in}
use Rattle.feed_links.specs.Lines.{messages_to, stream_of, HasStreams}
use Rattle.feed_links.specs.Replicas.{hears, hears_all, replica_of, AreNoNews}
use Rattle.feed_links.specs.Spelled.{CanBeTold}

-- a frontend waits for an OK, under another tag than its UPDATE's
pub record IsNoop (message : LinkMsg) : Type 0 where
  pub bytes : List ℕ
  pub tag : Tag
  pub is : message ≡ Line bytes
  pub read : command_in bytes ≡ Some (tag, command.Noop)
  pub other : is_update_tag tag ≡ false

abbrev pub AreNoops : List LinkMsg → Type 0
AreNoops messages = AllByRecursion IsNoop messages

-- nothing but Up
abbrev pub IsUp : LinkMsg → Type 0
IsUp message = message ≡ Up

abbrev pub AreUps : List LinkMsg → Type 0
AreUps messages = AllByRecursion IsUp messages

-- before UPDATE, NOOPs, or the Up of a link that comes up
abbrev pub IsNoopOrUp : LinkMsg → Type 0
IsNoopOrUp message = IsNoop message ⊎ IsUp message

abbrev pub AreNoopsOrUps : List LinkMsg → Type 0
AreNoopsOrUps messages = AllByRecursion IsNoopOrUp messages

-- where a link goes up or down
abbrev pub IsUpOrEnd : LinkMsg → Type 0
IsUpOrEnd message = IsUp message ⊎ (message ≡ End)

abbrev pub AreUpsOrEnds : List LinkMsg → Type 0
AreUpsOrEnds messages = AllByRecursion IsUpOrEnd messages

-- a frontend lets out nothing else to the master: its UPDATE, NOOPs, and where the link goes up or down
pub data IsFrontsOwn (message : LinkMsg) : Type 0 where
  its_noop : IsNoop message → IsFrontsOwn message
  its_update : message ≡ Line update_line → IsFrontsOwn message
  its_link : IsUpOrEnd message → IsFrontsOwn message

abbrev pub AreFrontsOwn : List LinkMsg → Type 0
AreFrontsOwn messages = AllByRecursion IsFrontsOwn messages

-- the master sends nodes nothing but lines
abbrev pub IsLine : LinkMsg → Type 0
IsLine message = (bytes : List ℕ) × (message ≡ Line bytes)

abbrev pub AreLines : List LinkMsg → Type 0
AreLines messages = AllByRecursion IsLine messages

-- on its way from the master over a link that has broken: lines, and one End
abbrev pub IsLineOrEnd : LinkMsg → Type 0
IsLineOrEnd message = IsLine message ⊎ (message ≡ End)

abbrev pub AreLinesOrEnds : List LinkMsg → Type 0
AreLinesOrEnds messages = AllByRecursion IsLineOrEnd messages

-- how often the link ends
abbrev pub ends_in : LinkMsg → ℕ
ends_in End = 1
ends_in message = 0

unfoldable pub ends_of : List LinkMsg → ℕ
ends_of [] = 0
ends_of (message ∷ messages) = ends_in message + ends_of messages

-- a stream is one under the tag of UPDATE
abbrev pub HasUpdateTag : Option Tag → Type 0
HasUpdateTag None = Unit {0}
HasUpdateTag (Some tag) = tag ≡ update_tag

-- HOW A FEED STANDS, by whether the link is broken, and by whether the frontend has it as up (`reached`). The frontend's UPDATE is on its way, and its replica is
-- empty; or it has a stream, and once it has taken what is on its way back its replica has all of the table; or the link comes up, and Up is on its way to it.
-- Of a link that has broken nothing is said of the replica.
pub data IsFed (master : Master) (node : List ℕ) (broken reached : Bool) (up down : List LinkMsg) (replica : Replica) : Type 0 where
  asks : broken ≡ false → reached ≡ true → (before behind : List LinkMsg) → up ≡ before ++ Line update_line ∷ behind → AreNoopsOrUps before
      → AreNoops behind → AreLines down → AreNoNews down → replica ≡ empty_replica → stream_of master node ≡ None
      → IsFed master node broken reached up down replica
  is_told : broken ≡ false → reached ≡ true → AreNoops up → AreLines down → hears_all replica down ≡ replica_of master.table
      → stream_of master node ≡ Some update_tag → IsFed master node broken reached up down replica
  comes_up : broken ≡ false → reached ≡ false → AreUps up → down ≡ Up ∷ [] → stream_of master node ≡ None
      → IsFed master node broken reached up down replica
  -- it broke before the frontend took its Up
  breaks_early : broken ≡ true → reached ≡ false → AreUpsOrEnds up → (ends : List LinkMsg) → down ≡ Up ∷ ends → AllByRecursion (λ message. message ≡ End) ends
      → ends_of ends ≤ 1 → stream_of master node ≡ None → IsFed master node broken reached up down replica
  is_parted : broken ≡ true → AreFrontsOwn up → AreLinesOrEnds down → ends_of down ≤ 1 → HasUpdateTag (stream_of master node)
      → IsFed master node broken reached up down replica

-- the frontend sends NOOP
abbrev pub NoopsKeepIt : Type 0
NoopsKeepIt = (master : Master) (node : List ℕ) (broken reached : Bool) (up down more : List LinkMsg) (replica : Replica) → AreNoops more
    → reached ≡ true → IsFed master node broken reached up down replica → IsFed master node broken reached (up ++ more) down replica

-- it takes the first message on its way back, a line
abbrev pub HearsKeepsIt : Type 0
HearsKeepsIt = (master : Master) (node : List ℕ) (broken reached : Bool) (up down : List LinkMsg) (bytes : List ℕ) (replica : Replica)
    → IsFed master node broken reached up (Line bytes ∷ down) replica → IsFed master node broken reached up down (hears replica (Line bytes))

-- the link ends only where it has broken; and then nothing is said of the replica
abbrev pub EndKeepsIt : Type 0
EndKeepsIt = (master : Master) (node : List ℕ) (broken reached : Bool) (up down : List LinkMsg) (replica : Replica)
    → IsFed master node broken reached up (End ∷ down) replica → (broken ≡ true) × IsFed master node broken false up down replica

-- the link comes up only where the frontend has it as down: its replica is empty from here on, and it sends UPDATE
abbrev pub UpKeepsIt : Type 0
UpKeepsIt = (master : Master) (node : List ℕ) (broken reached : Bool) (up down : List LinkMsg) (replica : Replica)
    → IsFed master node broken reached up (Up ∷ down) replica
    → (reached ≡ false) × (AreUpsOrEnds up × (AllByRecursion (λ message. message ≡ End) down × IsFed master node broken true (up ++ Line update_line ∷ []) down empty_replica))

-- it still is so after a step of the master
abbrev pub IsFedAfter : Stepped → List ℕ → Bool → Bool → List LinkMsg → List LinkMsg → Replica → Type 0
IsFedAfter next node broken reached up down replica = IsFed next.master node broken reached up (down ++ messages_to node next.outs) replica

-- the master takes the first message of the frontend
abbrev pub TakesKeepsIt : Type 0
TakesKeepsIt = (master : Master) (node : List ℕ) (reached : Bool) (up down : List LinkMsg) (message : LinkMsg) (replica : Replica) → HasStreams master
    → CanBeTold master.table → IsFed master node false reached (message ∷ up) down replica → IsFedAfter (node_says master node message) node false reached up down replica

-- and over a link that has broken, where nothing that it sends comes to the frontend
abbrev pub LateKeepsIt : Type 0
LateKeepsIt = (master : Master) (node : List ℕ) (reached : Bool) (up down : List LinkMsg) (message : LinkMsg) (replica : Replica) → HasStreams master
    → IsFed master node true reached (message ∷ up) down replica → IsFed (node_says master node message).master node true reached up down replica

-- it takes a message of another node, backend or frontend, whatever that is
abbrev pub OthersKeepIt : Type 0
OthersKeepIt = (master : Master) (node other : List ℕ) (broken reached : Bool) (up down : List LinkMsg) (message : LinkMsg) (replica : Replica)
    → HasStreams master → other ≢ node → IsFed master node broken reached up down replica
    → IsFedAfter (node_says master other message) node broken reached up down replica

-- a client from outside connects, sends bytes, or closes its connection
pub record ClientsKeep (master : Master) (node : List ℕ) (broken reached : Bool) (up down : List LinkMsg) (replica : Replica) : Type 0 where
  pub connects : (conn : ℕ) → IsFedAfter (connect master conn) node broken reached up down replica
  pub says : (conn : ℕ) (bytes : List ℕ) → IsFedAfter (bytes_in master conn bytes) node broken reached up down replica
  pub ends : (conn : ℕ) → IsFed (without master (Outside conn)) node broken reached up down replica

abbrev pub ClientsKeepIt : Type 0
ClientsKeepIt = (master : Master) (node : List ℕ) (broken reached : Bool) (up down : List LinkMsg) (replica : Replica)
    → IsFed master node broken reached up down replica → ClientsKeep master node broken reached up down replica

-- the link breaks: End stands behind all that is on its way
abbrev pub BreaksKeepIt : Type 0
BreaksKeepIt = (master : Master) (node : List ℕ) (reached : Bool) (up down : List LinkMsg) (replica : Replica) → IsFed master node false reached up down replica
    → IsFed master node true reached (up ++ End ∷ []) (down ++ End ∷ []) replica

-- it comes up again, where both have taken their End
abbrev pub MendsKeepIt : Type 0
MendsKeepIt = (master : Master) (node : List ℕ) (replica : Replica) → stream_of master node ≡ None
    → IsFed master node false false (Up ∷ []) (Up ∷ []) replica

-- the master sends nodes nothing but lines
abbrev pub SendsLines : Type 0
SendsLines = (master : Master) (other node : List ℕ) (message : LinkMsg) → AreLines (messages_to node (node_says master other message).outs)
