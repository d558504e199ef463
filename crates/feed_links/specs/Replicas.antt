-- The replica that has all of the master's table, and what a frontend's replica makes of messages.
use Rattle.std.specs.Prelude.{◌≡◌, ℕ, true, List, map, None, Some}
use Rattle.std.specs.List.{fold, AllByRecursion}
use Rattle.feed_core.specs.declared.rec.Rec.{Rec}
use Rattle.feed_core.specs.declared.rec.Rec.TheVariants as feed
use Rattle.feed_core.specs.declared.replica.Replica.{Replica}
use Rattle.feed_core.specs.Feed.{Recs}
use Rattle.feed_core.specs.Stream.{heard}
use Rattle.link_msg.specs.declared.message.LinkMsg.{LinkMsg}
use Rattle.link_msg.specs.declared.message.LinkMsg.TheVariants.{Line}
use Rattle.mur_base.specs.declared.home.Location.{Location}
use Rattle.node_record.specs.declared.table.Record.{Record}
use Rattle.node_record.specs.declared.table.State.{State}
use Rattle.node_record.specs.declared.table.State.TheVariants as state
use Rattle.node_record.specs.Table.{MailboxTable}

-- what a frontend has of a record: its place, and its access list if it has one
abbrev pub rec_by : Location → State → Rec
rec_by place (state.Bare serial) = feed.Reserved place None
rec_by place (state.Kept acl) = feed.Reserved place (Some acl)
rec_by place (state.Active acl) = feed.Active place acl

abbrev pub rec_of : Record → Rec
rec_of it = rec_by it.place it.state

abbrev pub rec_entry : List ℕ × Record → List ℕ × Rec
rec_entry entry = (entry.0, rec_of entry.1)

abbrev pub recs_of : MailboxTable → Recs
recs_of table = map rec_entry table.records

-- the replica that has all of a table
abbrev pub replica_of : MailboxTable → Replica
replica_of table = record { records = recs_of table; whole = true }

-- a frontend takes a message of the master: a line of its stream changes its replica, and nothing else does
abbrev pub hears : Replica → LinkMsg → Replica
hears replica (Line bytes) = heard replica bytes
hears replica message = replica

-- and it takes several
abbrev pub hears_all : Replica → List LinkMsg → Replica
hears_all replica messages = fold hears replica messages

-- no replica takes anything of the message
abbrev pub IsNoNews : LinkMsg → Type 0
IsNoNews message = (any : Replica) → hears any message ≡ any

abbrev pub AreNoNews : List LinkMsg → Type 0
AreNoNews messages = AllByRecursion IsNoNews messages
