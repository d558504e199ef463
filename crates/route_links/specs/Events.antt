-- What each event makes of a command's barrier. What is sent stands behind what was sent before, and each end takes the first message.
use Rattle.std.specs.Prelude.{◌≡◌, ◌≢◌, ℕ, Bool, false, List, [], ◌∷◌, ◌++◌}
use Rattle.std.specs.List.{AllByRecursion}
use Rattle.feed_core.specs.declared.replica.Replica.{Replica}
use Rattle.feed_core.specs.Feed.{empty_replica}
use Rattle.feed_core.specs.Stream.{update_line}
use Rattle.feed_links.specs.Lines.{messages_to, HasStreams}
use Rattle.feed_links.specs.OneFeed.{AreUpsOrEnds, IsFed}
use Rattle.feed_links.specs.Replicas.{hears, replica_of}
use Rattle.link_msg.specs.declared.message.LinkMsg.{LinkMsg}
use Rattle.link_msg.specs.declared.message.LinkMsg.TheVariants.{Up, End, Line}
use Rattle.master_core.specs.declared.master.Master.{Master}
use Rattle.master_core.specs.Linked.{node_says}
use Rattle.master_core.specs.Outside.{Stepped, bytes_in, connect}
use Rattle.mur_base.specs.declared.point.AskId.{AskId}
use Rattle.node_record.specs.Table.{MailboxTable}
use Rattle.route_links.specs.Answered.{IsNumbered, noop_of}
use Rattle.route_links.specs.Barriers.{IsOkOf, Place, nowhere, asked, answered, IsBarrierAt}

-- ---- at the frontend

-- its link to the master comes up, and it sends UPDATE: no command has a barrier
abbrev pub First : Type 0
First = (ask : AskId) (replica : Replica) → IsBarrierAt ask nowhere (Line update_line ∷ []) [] replica

-- it sends the NOOP of the command
abbrev pub Begins : Type 0
Begins = (ask : AskId) (up down : List LinkMsg) (replica : Replica) → IsBarrierAt ask nowhere up down replica
    → IsBarrierAt ask asked (up ++ noop_of ask ∷ []) down replica

-- it sends that of another command
abbrev pub SendsOther : Type 0
SendsOther = (ask other : AskId) (at : Place) (up down : List LinkMsg) (replica : Replica) → IsNumbered other → other ≢ ask
    → IsBarrierAt ask at up down replica → IsBarrierAt ask at (up ++ noop_of other ∷ []) down replica

-- it takes a message that it doesn't read as the OK
abbrev pub Hears : Type 0
Hears = (ask : AskId) (at : Place) (up down : List LinkMsg) (message : LinkMsg) (replica : Replica) → IsNumbered ask → (IsOkOf ask message → ⊥)
    → IsBarrierAt ask at up (message ∷ down) replica → IsBarrierAt ask at up down (hears replica message)

-- it takes one that it reads as the OK: the barrier was answered, the replica has all of the table of then, and the barrier is over
pub record IsDecided (ask : AskId) (at : Place) (up down : List LinkMsg) (replica : Replica) : Type 0 where
  pub table : MailboxTable
  pub at_is : at ≡ answered table
  pub has_all : replica ≡ replica_of table
  pub over : IsBarrierAt ask nowhere up down replica

abbrev pub Decides : Type 0
Decides = (ask : AskId) (at : Place) (up down : List LinkMsg) (message : LinkMsg) (replica : Replica) → IsOkOf ask message
    → IsBarrierAt ask at up (message ∷ down) replica → IsDecided ask at up down replica

-- its link to the master comes up again: no line of the command is on its way, and it sends UPDATE
abbrev pub ComesUp : Type 0
ComesUp = (ask : AskId) (at : Place) (up down : List LinkMsg) (replica : Replica) → IsNumbered ask → AreUpsOrEnds up
    → AllByRecursion (λ message. message ≡ End) down → IsBarrierAt ask at up (Up ∷ down) replica
    → (at ≡ nowhere) × IsBarrierAt ask nowhere (up ++ Line update_line ∷ []) down empty_replica

-- ---- the link breaks

-- End stands behind all that is on its way
abbrev pub Breaks : Type 0
Breaks = (ask : AskId) (at : Place) (up down : List LinkMsg) (replica : Replica) → IsBarrierAt ask at up down replica
    → IsBarrierAt ask at (up ++ End ∷ []) (down ++ End ∷ []) replica

-- ---- at the master

-- where the barrier is after a step of the master
abbrev pub IsAtAfter : AskId → Place → Stepped → List ℕ → List LinkMsg → List LinkMsg → Replica → Type 0
IsAtAfter ask at next node up down replica = IsBarrierAt ask at up (down ++ messages_to node next.outs) replica

-- over a link that is whole it takes the NOOP of the command, which was on its way: from here on the table of this step is waited for
abbrev pub TakesNoop : Type 0
TakesNoop = (ask : AskId) (at : Place) (master : Master) (node : List ℕ) (reached : Bool) (up down : List LinkMsg) (replica : Replica) → IsNumbered ask
    → IsFed master node false reached (noop_of ask ∷ up) down replica → IsBarrierAt ask at (noop_of ask ∷ up) down replica
    → (at ≡ asked) × IsAtAfter ask (answered master.table) (node_says master node (noop_of ask)) node up down replica

-- and another message of the frontend
abbrev pub Takes : Type 0
Takes = (ask : AskId) (at : Place) (master : Master) (node : List ℕ) (reached : Bool) (up down : List LinkMsg) (message : LinkMsg) (replica : Replica)
    → message ≢ noop_of ask → IsFed master node false reached (message ∷ up) down replica → IsBarrierAt ask at (message ∷ up) down replica
    → IsAtAfter ask at (node_says master node message) node up down replica

-- it takes a message of another node, backend or frontend, whatever that is
abbrev pub OthersAreTaken : Type 0
OthersAreTaken = (ask : AskId) (at : Place) (master : Master) (node other : List ℕ) (broken reached : Bool) (up down : List LinkMsg) (message : LinkMsg)
    (replica : Replica) → HasStreams master → other ≢ node → IsFed master node broken reached up down replica → IsBarrierAt ask at up down replica
    → IsAtAfter ask at (node_says master other message) node up down replica

-- a client from outside connects, or sends bytes
pub record ClientsLeave (ask : AskId) (at : Place) (master : Master) (node : List ℕ) (up down : List LinkMsg) (replica : Replica) : Type 0 where
  pub connects : (conn : ℕ) → IsAtAfter ask at (connect master conn) node up down replica
  pub says : (conn : ℕ) (bytes : List ℕ) → IsAtAfter ask at (bytes_in master conn bytes) node up down replica

abbrev pub ClientsComeAndGo : Type 0
ClientsComeAndGo = (ask : AskId) (at : Place) (master : Master) (node : List ℕ) (up down : List LinkMsg) (replica : Replica)
    → IsBarrierAt ask at up down replica → ClientsLeave ask at master node up down replica
