-- One node works in a step, as one machine does in a network: it takes what came to it, writes to its disk, sends, and gives bytes to its own clients. Where
-- a link breaks or comes up no node works.
use Rattle.std.specs.Prelude.{◌≡◌, ◌≢◌, ℕ, ◌+◌, ◌==◌, Bool, true, false, ◌||◌, if◌then◌else◌, List, [], ◌∷◌, ◌++◌, drop, take, Contains, Option, None, Some}
use Rattle.link_msg.specs.declared.message.LinkMsg.{LinkMsg}
use Rattle.link_msg.specs.declared.message.LinkMsg.TheVariants.{Up, End}
use Rattle.link_queue.specs.Broken.{is_broken}
use Rattle.mur_config.specs.declared.config.Config.{Config}
use Rattle.mur_config.specs.Nodes.{AreNodes, links_of}
use Rattle.schedule_text.specs.declared.event.Event.{Event}
use Rattle.schedule_text.specs.declared.event.Event.TheVariants.{Open, Data, Hang, Deliver, Cut, Join}
use Rattle.cluster_core.specs.declared.world.Client.{Client}
use Rattle.cluster_core.specs.declared.layout.Layout.{Layout}
use Rattle.cluster_core.specs.declared.world.World.{World}
use Rattle.cluster_core.specs.Flow.{run_steps, steps_of_event, steps_of_run}
use Rattle.link_queue.specs.Links.{same_link, on_link}
use Rattle.cluster_core.specs.World.{start, client_at, disk_at, may_cut, may_join, node_at}

-- the node at which a client is connected
abbrev pub node_of : Option Client → Option (List ℕ)
node_of None = None
node_of (Some client) = Some client.at

-- the node that works in an event: the one of the connection, or the one that a message goes to
abbrev pub worker : World → Event → Option (List ℕ)
worker world (Open node conn) = Some node
worker world (Data conn bytes) = node_of (client_at world conn)
worker world (Hang conn) = node_of (client_at world conn)
worker world (Deliver from to) = Some to
worker world event = None

-- where a client is connected behind an event: an opening connects it at its node, unless it is connected
abbrev pub connected : Event → ℕ → Option (List ℕ) → Option (List ℕ)
connected (Open node opened) conn None = if conn == opened then Some node else None
connected event conn at = at

-- what an event leaves on a link: a delivery takes the first message of its own
abbrev pub leaves_on : Event → List ℕ → List ℕ → List LinkMsg → List LinkMsg
leaves_on (Deliver from to) one other queue = if same_link one other from to then drop 1 queue else queue
leaves_on event one other queue = queue

-- a link was sent messages, or none
pub record WasSent (before after : List LinkMsg) : Type 0 where
  pub more : List LinkMsg
  pub behind : after ≡ before ++ more

-- every other node is as it was, its disk too, and each client where it was; on each link stands what the event left there, and
-- behind it, on a link that begins at this node, what it sent
pub record OnlyWorks (event : Event) (node : List ℕ) (before after : World) : Type 0 where
  pub nodes : (other : List ℕ) → other ≢ node → node_at after other ≡ node_at before other
  pub disks : (other : List ℕ) → other ≢ node → disk_at after other ≡ disk_at before other
  pub clients : (conn : ℕ) → node_of (client_at after conn) ≡ connected event conn (node_of (client_at before conn))
  pub stays : (from to : List ℕ) → from ≢ node → on_link after.links from to ≡ leaves_on event from to (on_link before.links from to)
  pub sends : (to : List ℕ) → WasSent (leaves_on event node to (on_link before.links node to)) (on_link after.links node to)
  -- what it sends on a broken link is lost
  pub lost : (to : List ℕ) → is_broken before.broken node to ≡ true → on_link after.links node to ≡ leaves_on event node to (on_link before.links node to)
  pub broken : after.broken ≡ before.broken

-- ---- a link breaks, or comes up

abbrev pub are_both : List ℕ → List ℕ → List ℕ → List ℕ → Bool
are_both one other from to = same_link from to one other || same_link from to other one

-- whether it does in this event
abbrev pub relinks : World → Event → Bool
relinks world (Cut one other kept kept_back) = may_cut world one other
relinks world (Join one other) = may_join world one other
relinks world event = false

-- what a link from one node to another is sent where it comes up
abbrev pub up_on : List ℕ → List ℕ → List ℕ → List ℕ → List LinkMsg
up_on one other from to = if same_link from to one other then Up ∷ [] else []

-- what stands on a link then: of one that breaks so many messages, and End behind them; on one that comes up Up
abbrev pub relinked : Event → List ℕ → List ℕ → List LinkMsg → List LinkMsg
relinked (Cut one other kept kept_back) from to queue =
    if same_link from to one other then take kept queue ++ End ∷ []
    else if same_link from to other one then take kept_back queue ++ End ∷ []
    else queue
relinked (Join one other) from to queue = (queue ++ up_on one other from to) ++ up_on other one from to
relinked event from to queue = queue

-- and whether it is broken
abbrev pub is_broken_then : Event → List ℕ → List ℕ → Bool → Bool
is_broken_then (Cut one other kept kept_back) from to was = are_both one other from to || was
is_broken_then (Join one other) from to was = if are_both one other from to then false else was
is_broken_then event from to was = was

-- the links alone are other ones
pub record OnlyLinksChange (event : Event) (before after : World) : Type 0 where
  pub rest : after ≡ record before { steps = after.steps; links = after.links; broken = after.broken }
  pub queues : (from to : List ℕ) → on_link after.links from to ≡ relinked event from to (on_link before.links from to)
  pub broken : (from to : List ℕ) → is_broken after.broken from to ≡ is_broken_then event from to (is_broken before.broken from to)

-- where no link changes either, nothing does but the count of steps
abbrev pub ChangesLinks : Bool → Event → World → World → Type 0
ChangesLinks true event before after = OnlyLinksChange event before after
ChangesLinks false event before after = after ≡ record before { steps = after.steps }

abbrev pub WorksBy : Event → Option (List ℕ) → World → World → Type 0
WorksBy event None before after = ChangesLinks (relinks before event) event before after
WorksBy event (Some node) before after = OnlyWorks event node before after

pub record OneNodeWorks (event : Event) (before after : World) : Type 0 where
  pub counted : after.steps ≡ before.steps + 1
  pub works : WorksBy event (worker before event) before after

-- in each of these single steps one node works
abbrev pub OneNodeWorksEach : World → List Event → Type 0
OneNodeWorksEach world steps = (before : List Event) (event : Event) (later : List Event) → steps ≡ before ++ event ∷ later
    → OneNodeWorks event (run_steps world before) (run_steps world (before ++ event ∷ []))

-- after each single step of a run a message is on its way only between two nodes that the configuration links
abbrev pub GoesOverLinks : Config → List Event → Type 0
GoesOverLinks config events = (before later : List Event) → steps_of_run config events ≡ before ++ later → (from to : List ℕ)
    → on_link (run_steps (start config) before).links from to ≢ [] → Contains (links_of config.nodes) (record { from = from; to = to })

-- a client that is connected at another node is as it was, and so was given nothing
abbrev pub ServesItsOwn : Event → World → World → Type 0
ServesItsOwn event before after = (conn : ℕ) (client : Client) → client_at before conn ≡ Some client → worker before event ≢ Some client.at
    → client_at after conn ≡ Some client

-- in each of these single steps the node that works gives bytes to its own clients alone
abbrev pub ServesItsOwnEach : World → List Event → Type 0
ServesItsOwnEach world steps = (before : List Event) (event : Event) (later : List Event) → steps ≡ before ++ event ∷ later
    → ServesItsOwn event (run_steps world before) (run_steps world (before ++ event ∷ []))

-- and so it does in those of this event, whatever steps led here, in whatever configuration
abbrev pub ServesItsOwnBehind : Layout → World → Event → Type 0
ServesItsOwnBehind layout world event = (config : Config) (steps : List Event) → AreNodes config.nodes → world ≡ run_steps (start config) steps
    → ServesItsOwnEach world (steps_of_event layout world event)
