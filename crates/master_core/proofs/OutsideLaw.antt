-- An outside connection leaves the table as it was.
use Rattle.std.proofs.Common.{◌≡◌, ℕ, true, false, ◌&&◌, not, cond, List, [], ◌∷◌, ◌++◌, Option, None, Some, refl, ap, ◌∙◌}
use Rattle.std.specs.List.{fold}
use Rattle.mupdate_codec.specs.declared.command.MCommand.{MCommand}
use Rattle.mupdate_codec.specs.declared.command.MCommand.TheVariants as command
use Rattle.mupdate_codec.specs.declared.tag.Tag.{Tag}
use Rattle.node_record.specs.Table.{MailboxTable}
use Rattle.master_core.specs.declared.master.Master.{Master}
use Rattle.master_core.specs.declared.outside.Outside.{Outside}
use Rattle.master_core.specs.declared.outside.Outside.TheVariants as outside
use Rattle.master_core.specs.declared.reply.Reply.{Reply}
use Rattle.master_core.specs.declared.sender.Sender.{Sender}
use Rattle.master_core.specs.declared.sender.Sender.TheVariants as sender
use Rattle.master_core.specs.declared.streams.StreamStep.{StreamStep}
use Rattle.master_core.specs.declared.streams.StreamStep.TheVariants as stream
use Rattle.master_core.specs.Refusals.{reserve_refusal, activate_refusal, deactivate_refusal, delete_refusal}
use Rattle.master_core.specs.Replies.{reply_to, bad_reply, reserve_reply, activate_reply, deactivate_reply, delete_reply, find_reply, list_reply, update_reply, noop_reply, logout_reply}
use Rattle.master_core.specs.Cutting.{cut_from}
use Rattle.mupdate_codec.specs.Whole.{command_in}
use Rattle.master_core.specs.Lines.{tag_before}
use Rattle.master_core.specs.Outside.{Stepped, still, outside_at, is_open, line_comes, lines_come, with_begun, bytes_at, bytes_in}
use Rattle.master_core.specs.Step.{Planned, table_with, replied, settled, bad_step, command_step, line_by, line_step}
use Rattle.master_core.specs.Streams.{is_stream, streaming, without, may_follow_update, stream_step}

-- no reply to it changes the table
pub no_entry : (table : MailboxTable) (conn : ℕ) (it : MCommand) → (reply_to table (sender.Outside conn) it).entry ≡ None
unfolding reply_to reserve_reply activate_reply deactivate_reply delete_reply find_reply list_reply update_reply noop_reply logout_reply reserve_refusal activate_refusal deactivate_refusal delete_refusal
no_entry table conn (command.Reserve name place) = refl
no_entry table conn (command.Activate name place acl) = refl
no_entry table conn (command.Deactivate name place) = refl
no_entry table conn (command.Delete name) = refl
no_entry table conn (command.Find name) = refl
no_entry table conn (command.List prefix) = refl
no_entry table conn command.Update = refl
no_entry table conn command.Noop = refl
no_entry table conn command.Logout = refl

-- a step that leaves the table as it was, and writes nothing
pub record Leaves (master : Master) (planned : Planned) : Type 0 where
  pub entry : planned.entry ≡ None
  pub table : planned.master.table ≡ master.table

replied_leaves : (master : Master) (from : Sender) (tag : Tag) (reply : Reply) → reply.entry ≡ None → Leaves master (replied master from tag reply)
unfolding replied
replied_leaves master from tag reply e = record { entry = e; table = ap (table_with master.table) e }

settled_leaves : (master : Master) (planned : Planned) (from : Sender) (tag : Tag) (step : StreamStep) → Leaves master planned → Leaves master (settled planned from tag step)
unfolding settled streaming without
settled_leaves master planned from tag stream.Stays l = l
settled_leaves master planned (sender.Backend node) tag stream.Begins l = record { entry = l.entry; table = l.table }
settled_leaves master planned (sender.Frontend node) tag stream.Begins l = record { entry = l.entry; table = l.table }
settled_leaves master planned (sender.Outside conn) tag stream.Begins l = record { entry = l.entry; table = l.table }
settled_leaves master planned (sender.Backend node) tag stream.Ends l = record { entry = l.entry; table = l.table }
settled_leaves master planned (sender.Frontend node) tag stream.Ends l = record { entry = l.entry; table = l.table }
settled_leaves master planned (sender.Outside conn) tag stream.Ends l = record { entry = l.entry; table = l.table }

bad_leaves : (master : Master) (from : Sender) (tag : Tag) → Leaves master (bad_step master from tag)
unfolding bad_step bad_reply
bad_leaves master from tag = replied_leaves master from tag bad_reply refl

command_leaves : (master : Master) (conn : ℕ) (tag : Tag) (it : MCommand) → Leaves master (command_step master (sender.Outside conn) tag it)
unfolding command_step
command_leaves master conn tag it =
    elim (is_stream master (sender.Outside conn) && not (may_follow_update it))
    as (λ b. Leaves master (cond b (bad_step master (sender.Outside conn) tag) (settled (replied master (sender.Outside conn) tag (reply_to master.table (sender.Outside conn) it)) (sender.Outside conn) tag (stream_step it)))) [
      | true ↦ bad_leaves master (sender.Outside conn) tag
      | false ↦ settled_leaves master (replied master (sender.Outside conn) tag (reply_to master.table (sender.Outside conn) it)) (sender.Outside conn) tag (stream_step it)
          (replied_leaves master (sender.Outside conn) tag (reply_to master.table (sender.Outside conn) it) (no_entry master.table conn it))
    ]

pub line_leaves : (master : Master) (conn : ℕ) (line : List ℕ) → Leaves master (line_step master (sender.Outside conn) line)
unfolding line_step line_by
line_leaves master conn line = by_command (command_in line)
  where
    by_command : (it : Option (Tag × MCommand)) → Leaves master (line_by master (sender.Outside conn) line it)
    by_command None = bad_leaves master (sender.Outside conn) (tag_before line)
    by_command (Some it) = command_leaves master conn it.0 it.1

-- its bytes leave the table as it was

one_line : (conn : ℕ) (so_far : Stepped) (line : List ℕ) → (line_comes conn so_far line).master.table ≡ so_far.master.table
unfolding line_comes
one_line conn so_far line =
    elim (is_open so_far.master conn)
    as (λ b. (let after : Stepped = cond b (record { master = (line_step so_far.master (sender.Outside conn) line).master; outs = so_far.outs ++ (line_step so_far.master (sender.Outside conn) line).outs }) so_far in after).master.table ≡ so_far.master.table)
    [ true ↦ (line_leaves so_far.master conn line).table | false ↦ refl ]

all_lines : (conn : ℕ) (so_far : Stepped) (lines : List (List ℕ)) → (fold (line_comes conn) so_far lines).master.table ≡ so_far.master.table
all_lines conn so_far [] = refl
all_lines conn so_far (line ∷ lines) = all_lines conn (line_comes conn so_far line) lines ∙ one_line conn so_far line

pub bytes_leave : (master : Master) (conn : ℕ) (piece : List ℕ) → (bytes_in master conn piece).master.table ≡ master.table
unfolding bytes_in bytes_at lines_come
bytes_leave master conn piece = by_outside (outside_at master conn)
  where
    by_outside : (it : Option Outside) → (bytes_at master conn piece it).master.table ≡ master.table
    by_outside None = refl
    by_outside (Some outside.Ended) = refl
    by_outside (Some (outside.Open None)) = refl
    by_outside (Some (outside.Open (Some begun))) =
        all_lines conn (still (with_begun master conn (cut_from begun piece).begun)) (cut_from begun piece).lines
