-- Streams follow the table (RFC 3656, 4.11), whatever line comes to the master from whomever.
use Rattle.std.specs.Prelude.{◌≡◌, ℕ, false, List, [], None, Some}
use Rattle.feed_core.specs.Feed.{empty_replica}
use Rattle.feed_core.specs.Stream.{is_update_tag, update_tag}
use Rattle.master_core.specs.declared.master.Master.{Master}
use Rattle.master_core.specs.declared.sender.Sender.{Sender}
use Rattle.master_core.specs.Step.{Planned, line_step}
use Rattle.mupdate_codec.specs.declared.command.MCommand.TheVariants as command
use Rattle.mupdate_codec.specs.declared.tag.Tag.{Tag}
use Rattle.mupdate_codec.specs.Whole.{command_in}
use Rattle.feed_links.specs.Lines.{messages_to, IsOf, IsOfAnother, stream_of, HasStreams}
use Rattle.feed_links.specs.Replicas.{hears_all, replica_of, AreNoNews}
use Rattle.feed_links.specs.Spelled.{CanBeTold}

-- a node with a stream that has all of the table, and takes what a step sends it, has all of the table after the step
abbrev pub StreamsFollow : Type 0
StreamsFollow = (master : Master) (from : Sender) (line node : List ℕ) → HasStreams master → stream_of master node ≡ Some update_tag
    → (let next : Planned = line_step master from line in hears_all (replica_of master.table) (messages_to node next.outs) ≡ replica_of next.master.table)

-- a node without a stream asks by UPDATE: what it is sent makes of an empty replica the whole table, and from here on it has a stream
pub record BeginsStream (master : Master) (node : List ℕ) (next : Planned) : Type 0 where
  pub table : next.master.table ≡ master.table
  pub told : hears_all empty_replica (messages_to node next.outs) ≡ replica_of master.table
  pub stream : stream_of next.master node ≡ Some update_tag

abbrev pub UpdateBegins : Type 0
UpdateBegins = (master : Master) (from : Sender) (line node : List ℕ) → CanBeTold master.table → IsOf node from
    → command_in line ≡ Some (update_tag, command.Update) → stream_of master node ≡ None → BeginsStream master node (line_step master from line)

-- a line of another sender leaves a node's stream, and a node without one is sent nothing
pub record LeavesNode (master : Master) (node : List ℕ) (next : Planned) : Type 0 where
  pub stream : stream_of next.master node ≡ stream_of master node
  pub nothing : stream_of master node ≡ None → messages_to node next.outs ≡ []

abbrev pub OthersLeave : Type 0
OthersLeave = (master : Master) (from : Sender) (line node : List ℕ) → IsOfAnother node from → LeavesNode master node (line_step master from line)

-- a node waits for an OK (NOOP) under another tag: its stream stays, and the answer tells its replica nothing
pub record TellsNoNews (master : Master) (node : List ℕ) (next : Planned) : Type 0 where
  pub table : next.master.table ≡ master.table
  pub stream : stream_of next.master node ≡ stream_of master node
  pub nothing : AreNoNews (messages_to node next.outs)

abbrev pub NoopTellsNothing : Type 0
NoopTellsNothing = (master : Master) (from : Sender) (line node : List ℕ) (tag : Tag) → IsOf node from → command_in line ≡ Some (tag, command.Noop)
    → is_update_tag tag ≡ false → TellsNoNews master node (line_step master from line)

-- the table can be told after a step if it could before, and the streams stay in order
abbrev pub TablesCanBeTold : Type 0
TablesCanBeTold = (master : Master) (from : Sender) (line : List ℕ) → CanBeTold master.table → CanBeTold (line_step master from line).master.table

abbrev pub StreamsStayInOrder : Type 0
StreamsStayInOrder = (master : Master) (from : Sender) (line : List ℕ) → HasStreams master → HasStreams (line_step master from line).master
