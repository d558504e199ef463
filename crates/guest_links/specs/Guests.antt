-- A client from outside: its dialog with the master, and its UPDATE (RFC 3656, 4.11), from which on it is told each change of the table.
use Rattle.std.specs.Prelude.{ℕ, List, ◌++◌, [], Option, None, Some, if◌then◌else◌}
use Rattle.std.specs.List.{fold}
use Rattle.master_core.specs.declared.streams.StreamStep.{StreamStep}
use Rattle.master_core.specs.declared.streams.StreamStep.TheVariants as stream
use Rattle.master_core.specs.Changes.{change_line, text_of}
use Rattle.master_core.specs.Cutting.{Cut, cut_from}
use Rattle.master_core.specs.Dialogs.{Dialog, greeted, dialog_ended, line_told}
use Rattle.master_core.specs.Streams.{stream_step}
use Rattle.mupdate_codec.specs.declared.command.MCommand.{MCommand}
use Rattle.mupdate_codec.specs.declared.tag.Tag.{Tag}
use Rattle.mupdate_codec.specs.Whole.{command_in}
use Rattle.node_record.specs.declared.master.MasterRecord.{MasterRecord}
use Rattle.node_record.specs.Table.{MailboxTable}

-- the tag of an UPDATE, and all bytes that its client was given before the answer
pub record Watch : Type 0 where
  pub tag : Tag
  pub before : List ℕ

-- its dialog, and its UPDATE if it has sent one
pub record Guest : Type 0 where
  pub dialog : Dialog
  pub watch : Option Watch

-- who connects is greeted
abbrev pub arrived : List ℕ → Guest
arrived me = record { dialog = greeted me; watch = None }

-- the tag under which it is told changes, if it is: from its UPDATE on, until its dialog has ended

abbrev pub tag_in : Option Watch → Option Tag
tag_in None = None
tag_in (Some watch) = Some watch.tag

abbrev pub tag_of : Guest → Option Tag
tag_of guest = if guest.dialog.ended then None else tag_in guest.watch

-- its first UPDATE makes it a watcher; a second is answered BAD, and changes nothing

abbrev pub first_of : Option Watch → Watch → Option Watch
first_of None watch = Some watch
first_of (Some first) watch = Some first

abbrev pub watch_after : Dialog → Option Watch → Tag → StreamStep → Option Watch
watch_after dialog watch tag stream.Stays = watch
watch_after dialog watch tag stream.Begins = first_of watch (record { tag = tag; before = dialog.given })
watch_after dialog watch tag stream.Ends = watch

abbrev pub watch_by : Dialog → Option Watch → Option (Tag × MCommand) → Option Watch
watch_by dialog watch None = watch
watch_by dialog watch (Some it) = watch_after dialog watch it.0 (stream_step it.1)

-- it sends a line to a master with this table
abbrev pub line_taken : MailboxTable → ℕ → Guest → List ℕ → Guest
line_taken table conn guest line = record {
  dialog = line_told table conn guest.dialog line;
  watch = watch_by guest.dialog guest.watch (command_in line);
}

abbrev pub with_begun : Dialog → List ℕ → Dialog
with_begun dialog begun = record dialog { begun = begun }

abbrev pub lines_taken : MailboxTable → ℕ → Guest → Cut → Guest
lines_taken table conn guest cut = fold (line_taken table conn) (record { dialog = with_begun guest.dialog cut.begun; watch = guest.watch }) cut.lines

-- it sends bytes: the lines that end in them are taken in their order
unfoldable pub bytes_taken : MailboxTable → ℕ → Guest → List ℕ → Guest
bytes_taken table conn guest piece = if guest.dialog.ended then guest else lines_taken table conn guest (cut_from guest.dialog.begun piece)

-- it closes its connection
abbrev pub left : Guest → Guest
left guest = record { dialog = dialog_ended guest.dialog; watch = guest.watch }

-- the line that tells a watcher of a change, under the tag of its UPDATE
abbrev pub told_of : Option MasterRecord → Option Tag → List ℕ
told_of (Some change) (Some tag) = text_of tag (change_line change)
told_of change tag = []

abbrev pub given_more : Dialog → List ℕ → Dialog
given_more dialog bytes = record dialog { given = dialog.given ++ bytes }

-- a node's step changes the table, or doesn't
abbrev pub told_change : Option MasterRecord → Guest → Guest
told_change change guest = record { dialog = given_more guest.dialog (told_of change (tag_of guest)); watch = guest.watch }
