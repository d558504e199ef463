-- Where the barrier of a command is: nowhere, on its way to the master, or answered. The messages between a frontend and the master are `up` and `down`.
use Rattle.std.specs.Prelude.{◌≡◌, ◌≢◌, ◌⊎◌, List, ◌∷◌, ◌++◌, Some}
use Rattle.std.specs.List.{AllByRecursion}
use Rattle.ask_routes.specs.Barrier.{barrier_answered}
use Rattle.feed_core.specs.declared.replica.Replica.{Replica}
use Rattle.feed_links.specs.OneFeed.{IsNoop}
use Rattle.feed_links.specs.Replicas.{hears_all, replica_of}
use Rattle.link_msg.specs.declared.message.LinkMsg.{LinkMsg}
use Rattle.link_msg.specs.declared.message.LinkMsg.TheVariants.{End, Line}
use Rattle.mupdate_codec.specs.Asks.{line_ask}
use Rattle.mur_base.specs.declared.point.AskId.{AskId}
use Rattle.node_record.specs.Table.{MailboxTable}
use Rattle.route_links.specs.Answered.{noop_of, ok_of}

-- the frontend reads the message as the OK of the command
abbrev pub IsOkOf : AskId → LinkMsg → Type 0
IsOkOf ask (Line bytes) = barrier_answered bytes ≡ Some ask
IsOkOf ask message = ⊥

-- the message is no line of the command, by its tag
abbrev pub IsOfOther : AskId → LinkMsg → Type 0
IsOfOther ask (Line bytes) = line_ask bytes ≢ Some ask
IsOfOther ask message = Unit {0}

abbrev pub AreOfOthers : AskId → List LinkMsg → Type 0
AreOfOthers ask messages = AllByRecursion (IsOfOther ask) messages

-- no line of the command is on its way
pub record HasNoBarrier (ask : AskId) (up down : List LinkMsg) : Type 0 where
  pub up_others : AreOfOthers ask up
  pub down_others : AreOfOthers ask down

-- behind its NOOP: NOOPs, and End where the link has broken
abbrev pub IsNoopOrEnd : LinkMsg → Type 0
IsNoopOrEnd message = IsNoop message ⊎ (message ≡ End)

abbrev pub AreNoopsOrEnds : List LinkMsg → Type 0
AreNoopsOrEnds messages = AllByRecursion IsNoopOrEnd messages

-- its NOOP is on its way, the only line of it; no UPDATE stands behind it, so the frontend's stands before it or was taken
pub record AsksMaster (ask : AskId) (up down : List LinkMsg) : Type 0 where
  pub before : List LinkMsg
  pub behind : List LinkMsg
  pub up_is : up ≡ before ++ noop_of ask ∷ behind
  pub before_others : AreOfOthers ask before
  pub behind_others : AreOfOthers ask behind
  pub behind_noops : AreNoopsOrEnds behind
  pub down_others : AreOfOthers ask down

-- the master took it when it had this table: its OK is on its way, the only line of it, and once the frontend has taken all that stands before the OK, its
-- replica has all of this table
pub record AwaitsOk (ask : AskId) (table : MailboxTable) (up down : List LinkMsg) (replica : Replica) : Type 0 where
  pub before : List LinkMsg
  pub behind : List LinkMsg
  pub down_is : down ≡ before ++ ok_of ask ∷ behind
  pub before_others : AreOfOthers ask before
  pub behind_others : AreOfOthers ask behind
  pub told : hears_all replica before ≡ replica_of table
  pub up_others : AreOfOthers ask up

pub data Place : Type 0 where
  nowhere : Place
  asked : Place
  answered : MailboxTable → Place

-- THE BARRIER OF A COMMAND IS AT A PLACE
abbrev pub IsBarrierAt : AskId → Place → List LinkMsg → List LinkMsg → Replica → Type 0
IsBarrierAt ask nowhere up down replica = HasNoBarrier ask up down
IsBarrierAt ask asked up down replica = AsksMaster ask up down
IsBarrierAt ask (answered table) up down replica = AwaitsOk ask table up down replica
