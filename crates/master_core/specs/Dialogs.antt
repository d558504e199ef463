-- The dialog with a client from outside: it is greeted, and then each line of its bytes is answered, by the table at that line alone (RFC
-- 3656, 2 to 4).
use Rattle.std.specs.Prelude.{ℕ, Bool, true, false, ◌&&◌, not, List, [], ◌++◌, Option, None, Some, if◌then◌else◌}
use Rattle.std.specs.List.{flat_map, fold}
use Rattle.mupdate_codec.specs.declared.command.MCommand.{MCommand}
use Rattle.mupdate_codec.specs.declared.command.MResponse.{MResponse}
use Rattle.mupdate_codec.specs.declared.tag.Tag.{Tag}
use Rattle.node_record.specs.Table.{MailboxTable}
use Rattle.master_core.specs.declared.sender.Sender.TheVariants as sender
use Rattle.master_core.specs.declared.streams.StreamStep.{StreamStep}
use Rattle.master_core.specs.declared.streams.StreamStep.TheVariants as stream
use Rattle.master_core.specs.Changes.{text_of}
use Rattle.master_core.specs.Cutting.{Cut, cut_from}
use Rattle.master_core.specs.Greeting.{greeting}
use Rattle.mupdate_codec.specs.Whole.{command_in}
use Rattle.master_core.specs.Lines.{tag_before}
use Rattle.master_core.specs.Replies.{bad_reply, reply_to}
use Rattle.master_core.specs.Streams.{may_follow_update, stream_step}

-- the bytes of a line that hasn't ended, whether the client has sent UPDATE, whether its dialog has ended, and all bytes that it was given
pub record Dialog : Type 0 where
  pub begun : List ℕ
  pub streams : Bool
  pub ended : Bool
  pub given : List ℕ

-- who connects is given the greeting
unfoldable pub greeted : List ℕ → Dialog
greeted me = record { begun = []; streams = false; ended = false; given = greeting me }

-- each answer is a line under the command's tag
abbrev pub answers_text : Tag → List MResponse → List ℕ
answers_text tag answers = flat_map (text_of tag) answers

abbrev pub answered_with : Dialog → Tag → List MResponse → Dialog
answered_with dialog tag answers = record dialog { given = dialog.given ++ answers_text tag answers }

abbrev pub dialog_ended : Dialog → Dialog
dialog_ended dialog = record dialog { ended = true }

abbrev pub dialog_after : Dialog → StreamStep → Dialog
dialog_after dialog stream.Stays = dialog
dialog_after dialog stream.Begins = record dialog { streams = true }
dialog_after dialog stream.Ends = dialog_ended dialog

-- a command is answered by the table, or BAD where it may not follow UPDATE
unfoldable pub command_told : MailboxTable → ℕ → Dialog → Tag → MCommand → Dialog
command_told table conn dialog tag it =
    if dialog.streams && not (may_follow_update it) then answered_with dialog tag bad_reply.answers
    else dialog_after (answered_with dialog tag (reply_to table (sender.Outside conn) it).answers) (stream_step it)

-- a line that is no command is answered BAD, and the dialog goes on
unfoldable pub told_by : MailboxTable → ℕ → Dialog → List ℕ → Option (Tag × MCommand) → Dialog
told_by table conn dialog line None = answered_with dialog (tag_before line) bad_reply.answers
told_by table conn dialog line (Some it) = command_told table conn dialog it.0 it.1

-- nothing is answered after LOGOUT
unfoldable pub line_told : MailboxTable → ℕ → Dialog → List ℕ → Dialog
line_told table conn dialog line = if dialog.ended then dialog else told_by table conn dialog line (command_in line)

abbrev pub cut_told : MailboxTable → ℕ → Dialog → Cut → Dialog
cut_told table conn dialog cut = fold (line_told table conn) (record dialog { begun = cut.begun }) cut.lines

-- more bytes come: the lines that end in them are answered in their order
unfoldable pub bytes_told : MailboxTable → ℕ → Dialog → List ℕ → Dialog
bytes_told table conn dialog piece = if dialog.ended then dialog else cut_told table conn dialog (cut_from dialog.begun piece)
