-- One step of the master: it takes a line, changes its table, and lets outputs go.
use Rattle.std.specs.Prelude.{ℕ, ◌&&◌, not, List, [], ◌∷◌, ◌++◌, map, Option, None, Some, if◌then◌else◌}
use Rattle.link_msg.specs.declared.counts.Counts.{Counts}
use Rattle.link_msg.specs.declared.out.Out.{Out}
use Rattle.link_msg.specs.declared.out.Out.TheVariants.{Mark}
use Rattle.mur_base.specs.declared.point.AskId.{AskId}
use Rattle.mupdate_codec.specs.declared.command.MCommand.{MCommand}
use Rattle.mupdate_codec.specs.declared.command.MResponse.{MResponse}
use Rattle.mupdate_codec.specs.declared.tag.Tag.{Tag}
use Rattle.mupdate_codec.specs.Asks.{ask_id_of}
use Rattle.node_record.specs.declared.master.MasterRecord.{MasterRecord}
use Rattle.node_record.specs.Table.{MailboxTable, table_after}
use Rattle.master_core.specs.declared.master.Master.{Master}
use Rattle.master_core.specs.declared.reply.Reply.{Reply}
use Rattle.master_core.specs.declared.sender.Sender.{Sender}
use Rattle.master_core.specs.declared.sender.Sender.TheVariants as sender
use Rattle.master_core.specs.declared.streams.StreamStep.{StreamStep}
use Rattle.master_core.specs.declared.streams.StreamStep.TheVariants as stream
use Rattle.master_core.specs.Changes.{text_of, change_outs}
use Rattle.mupdate_codec.specs.Whole.{command_in}
use Rattle.master_core.specs.Lines.{tag_before}
use Rattle.master_core.specs.Replies.{reply_to, bad_reply}
use Rattle.master_core.specs.Senders.{sent_to}
use Rattle.master_core.specs.Streams.{is_stream, streaming, without, close_outs, may_follow_update, stream_step}

-- the master after a line, the entry of its disk, and the outputs
pub record Planned : Type 0 where
  pub master : Master
  pub entry : Option MasterRecord
  pub outs : List Out

-- the table after an entry, if there is one
abbrev pub table_with : MailboxTable → Option MasterRecord → MailboxTable
table_with table None = table
table_with table (Some entry) = table_after table entry

-- an answer under the command's tag
abbrev pub answered : Sender → Tag → MResponse → Out
answered from tag it = sent_to from (text_of tag it)

abbrev pub mark_of : Option AskId → Option Counts → List Out
mark_of (Some ask) (Some counts) = Mark ask counts ∷ []
mark_of ask counts = []

-- a step counts for the client's command that the tag of a node's line tells; a tag from outside tells of none
abbrev pub mark_outs : Sender → Tag → Option Counts → List Out
mark_outs (sender.Backend node) tag counts = mark_of (ask_id_of tag) counts
mark_outs (sender.Frontend node) tag counts = mark_of (ask_id_of tag) counts
mark_outs (sender.Outside conn) tag counts = []

-- the answers to the sender, the change at each stream, and the mark
abbrev pub reply_outs : Master → Sender → Tag → Reply → List Out
reply_outs master from tag reply =
    map (answered from tag) reply.answers ++ (change_outs master.streams master.watchers reply.entry ++ mark_outs from tag reply.counts)

-- the reply is given, and its change made
unfoldable pub replied : Master → Sender → Tag → Reply → Planned
replied master from tag reply = record {
  master = record master { table = table_with master.table reply.entry };
  entry = reply.entry;
  outs = reply_outs master from tag reply;
}

-- the sender's stream after a command
unfoldable pub settled : Planned → Sender → Tag → StreamStep → Planned
settled planned from tag stream.Stays = planned
settled planned from tag stream.Begins = record planned { master = streaming planned.master from tag }
settled planned from tag stream.Ends = record planned { master = without planned.master from; outs = planned.outs ++ close_outs from }

unfoldable pub bad_step : Master → Sender → Tag → Planned
bad_step master from tag = replied master from tag bad_reply

unfoldable pub command_step : Master → Sender → Tag → MCommand → Planned
command_step master from tag it =
    if is_stream master from && not (may_follow_update it) then bad_step master from tag
    else settled (replied master from tag (reply_to master.table from it)) from tag (stream_step it)

unfoldable pub line_by : Master → Sender → List ℕ → Option (Tag × MCommand) → Planned
line_by master from line None = bad_step master from (tag_before line)
line_by master from line (Some it) = command_step master from it.0 it.1

unfoldable pub line_step : Master → Sender → List ℕ → Planned
line_step master from line = line_by master from line (command_in line)

-- the outputs of a step come after others
abbrev pub after : List Out → Planned → Planned
after outs planned = record planned { outs = outs ++ planned.outs }
