-- Whom a frontend asks: for a mailbox the server of its record; for a new one the server of the nearest name above that has a record, or else the first
-- backend. Its records are what the master has told it (RFC 3656, 4.11). To the master it sends its UPDATE, and a NOOP only for a command that can't be
-- decided by those: the OK to it comes behind all that the master told before (RFC 3656, 4.8).
use Rattle.std.specs.Prelude.{◌≡◌, ◌≢◌, ℕ, ◌+◌, List, [], ◌∷◌, ◌++◌, slice_get, Option, None, Some, All, ⊤}
use Rattle.ask_routes.specs.Barrier.{noop_line}
use Rattle.ask_routes.specs.declared.next.Why.TheVariants.{Missing, NotNow}
use Rattle.asking_core.specs.declared.waiting.At.TheVariants.{Barrier}
use Rattle.asking_core.specs.declared.waiting.Waiting.{Waiting}
use Rattle.feed_core.specs.Above.{HasAbove, NoneAbove}
use Rattle.feed_core.specs.Feed.{Recs, place_in, rec_at}
use Rattle.feed_core.specs.Stream.{update_line}
use Rattle.feed_core.specs.declared.rec.Rec.{Rec}
use Rattle.front_core.specs.declared.connection.Connection.{Connection}
use Rattle.front_core.specs.declared.connection.Stage.{Stage}
use Rattle.front_core.specs.declared.connection.Stage.TheVariants.{Lists, Waits}
use Rattle.front_core.specs.declared.front.Front.{Front}
use Rattle.front_core.specs.Front.{connection_at}
use Rattle.imap_types.specs.declared.command.Tag.{Tag}
use Rattle.imap_types.specs.declared.op.Op.TheVariants.{Create}
use Rattle.link_msg.specs.declared.answer.AnswerBody.TheVariants as answer
use Rattle.link_msg.specs.declared.ask.FrontAsk.{FrontAsk}
use Rattle.link_msg.specs.declared.message.LinkMsg.{LinkMsg}
use Rattle.link_msg.specs.declared.message.LinkMsg.TheVariants.{Up, Line, Ask, Answer}
use Rattle.link_queue.specs.Links.{on_link}
use Rattle.mur_base.specs.declared.point.AskId.{AskId}
use Rattle.mur_config.specs.declared.config.Config.{Config}
use Rattle.mur_config.specs.declared.node.Kind.TheVariants.{Backend}
use Rattle.mur_config.specs.declared.node.Node.{Node}
use Rattle.mur_model.specs.declared.commands.list.Listing.{Listing}
use Rattle.schedule_text.specs.declared.event.Event.{Event}
use Rattle.schedule_text.specs.declared.event.Event.TheVariants.{Deliver}
use Rattle.cluster_core.specs.declared.world.World.{World}
use Rattle.cluster_core.specs.Flow.{run_steps, steps_of_run}
use Rattle.cluster_core.specs.Headline.OneNode.{leaves_on, worker}
use Rattle.cluster_core.specs.World.{front_at, start}

-- of the backends among these nodes the one of this name stands first
pub record IsFirstBackend (nodes : List Node) (name : List ℕ) : Type 0 where
  pub before : List Node
  pub node : Node
  pub later : List Node
  pub parts : nodes ≡ before ++ node ∷ later
  pub named : node.name ≡ name
  pub is_backend : node.kind ≡ Backend
  pub none_before : All (λ (other : Node). other.kind ≢ Backend) before

-- the server to ask, by these records and among these nodes
pub data IsRightlyAsked (nodes : List Node) (recs : Recs) (ask : FrontAsk) (server : List ℕ) : Type 0 where
  -- the record of the name is at the server
  by_record : (it : Rec) → rec_at recs ask.name ≡ Some it → server ≡ (place_in it).server → IsRightlyAsked nodes recs ask server
  -- a mailbox is to be made (RFC 9051, 6.3.4), and the record of the nearest name above that has one is at the server
  by_name_above : ask.op ≡ Create → (it : Rec) → HasAbove recs ask.name it → server ≡ (place_in it).server → IsRightlyAsked nodes recs ask server
  -- or no name above has a record, and the server is the first backend
  by_no_name : ask.op ≡ Create → NoneAbove recs ask.name 0 → IsFirstBackend nodes server → IsRightlyAsked nodes recs ask server

-- why a command waits for the master's OK, where this message was taken and these are the records
pub data IsNeeded (taken : Option LinkMsg) (recs : Recs) (id : AskId) (stage : Stage) : Type 0 where
  -- it is a LIST, which needs the names of all mailboxes (RFC 9051, 6.3.9)
  to_list : (tag : Tag) (listing : Listing) → stage ≡ Lists tag listing → IsNeeded taken recs id stage
  -- it needs a mailbox, which it doesn't make, and the mailbox's name has no record
  is_unknown : (tag : Tag) (it : Waiting) → stage ≡ Waits tag it → it.at ≡ Barrier Missing → rec_at recs it.name ≡ None → it.asking.op ≢ Create
      → IsNeeded taken recs id stage
  -- the server that it had asked has just answered that it can't serve the mailbox at present
  is_put_off : (tag : Tag) (it : Waiting) → stage ≡ Waits tag it → it.at ≡ Barrier NotNow
      → taken ≡ Some (Answer (record { id = id; body = answer.NotNow })) → IsNeeded taken recs id stage

-- the next command of a connection waits so
pub record WaitsForMaster (taken : Option LinkMsg) (front : Front) (id : AskId) : Type 0 where
  pub connection : Connection
  pub there : connection_at front id.conn ≡ Some connection
  pub number : id.command ≡ connection.answered + 1
  pub needed : IsNeeded taken front.replica.records id connection.stage

-- a line of a frontend: its UPDATE, as the link comes up, or the NOOP of a command that waits so
pub data IsRightLine (taken : Option LinkMsg) (front : Front) (bytes : List ℕ) : Type 0 where
  is_update : bytes ≡ update_line → taken ≡ Some Up → IsRightLine taken front bytes
  is_noop : (id : AskId) → bytes ≡ noop_line id → WaitsForMaster taken front id → IsRightLine taken front bytes

-- a message to a server is an ask of this frontend that is rightly sent there, or no ask; its lines go to the master, rightly
abbrev pub IsRightlySent : List Node → Option LinkMsg → Option Front → List ℕ → LinkMsg → Type 0
IsRightlySent nodes taken found server (Ask ask) = (front : Front) × (found ≡ Some front) × IsRightlyAsked nodes front.replica.records ask server
IsRightlySent nodes taken found server (Line bytes) =
    (front : Front) → found ≡ Some front → (server ≡ front.master) × IsRightLine taken front bytes
IsRightlySent nodes taken found server message = ⊤

-- the message that an event takes from its link
abbrev pub taken_by : Event → World → Option LinkMsg
taken_by (Deliver from to) world = slice_get (on_link world.links from to) 0
taken_by event world = None

-- each message that the node that works in a step sends to another is rightly sent: no node but a frontend asks
abbrev pub AsksRightly : List Node → Event → World → World → Type 0
AsksRightly nodes event before after = (node server : List ℕ) (sent : List LinkMsg) → worker before event ≡ Some node
    → on_link after.links node server ≡ leaves_on event node server (on_link before.links node server) ++ sent
    → All (IsRightlySent nodes (taken_by event before) (front_at after node) server) sent

-- and that in each single step of a run
abbrev pub AsksByRecords : Config → List Event → Type 0
AsksByRecords config events = (before : List Event) (event : Event) (later : List Event) → steps_of_run config events ≡ before ++ event ∷ later
    → AsksRightly config.nodes event (run_steps (start config) before) (run_steps (start config) (before ++ event ∷ []))
