-- What a frontend's UPDATE does at the master (RFC 3656, 4.11): the frontend is sent all lines of all records, and then OK.
use Rattle.std.proofs.Common.{◌≡◌, ℕ, Bool, true, false, nat_eq, List, [], ◌∷◌, ◌++◌, map, Option, None, Some, refl, sym, ap, ◌∙◌, append-nil}
use Rattle.std.specs.Prelude.{⊤, ◌&&◌, not, is_some, if◌then◌else◌}
use Rattle.std.specs.List.{flat_map, list_any}
use Rattle.std.specs.Ordering.{nat_cmp}
use Rattle.std.specs.Cmp.Lexicographic.{pointwise, slice_cmp}
use Rattle.link_msg.specs.declared.message.LinkMsg.TheVariants.{Line}
use Rattle.link_msg.specs.declared.out.Out.{Out}
use Rattle.mupdate_codec.specs.declared.command.MCommand.{MCommand}
use Rattle.mupdate_codec.specs.declared.command.MCommand.TheVariants as command
use Rattle.mupdate_codec.specs.declared.command.MResponse.{MResponse}
use Rattle.mupdate_codec.specs.declared.command.MResponse.TheVariants as response
use Rattle.mupdate_codec.specs.declared.tag.Tag.{Tag}
use Rattle.mupdate_codec.specs.Asks.{ask_id_of}
use Rattle.mupdate_codec.specs.Whole.{command_in}
use Rattle.mur_base.specs.Map.{value_at}
use Rattle.mur_base.specs.declared.point.AskId.{AskId}
use Rattle.node_record.specs.Table.{MailboxTable}
use Rattle.master_core.specs.declared.master.Master.{Master}
use Rattle.master_core.specs.declared.sender.Sender.{Sender}
use Rattle.master_core.specs.declared.sender.Sender.TheVariants.{Frontend}
use Rattle.master_core.specs.Changes.{change_outs}
use Rattle.master_core.specs.Linked.{sender_by, let_out, node_says}
use Rattle.master_core.specs.Outside.{Stepped}
use Rattle.master_core.specs.Records.{record_lines}
use Rattle.master_core.specs.Replies.{done, reply_to, update_reply}
use Rattle.master_core.specs.Step.{Planned, answered, mark_of, replied, settled, bad_step, command_step, line_by, line_step}
use Rattle.master_core.specs.Streams.{is_stream, streaming, stream_step}

-- all lines of a table, and OK
abbrev pub table_lines : MailboxTable → List MResponse
table_lines table = flat_map record_lines table.records ++ response.Ok done ∷ []

unmarked : (ask : Option AskId) → mark_of ask None ≡ []
unmarked None = refl
unmarked (Some ask) = refl

-- a frontend that has no stream yet
update_taken : (master : Master) (node : List ℕ) (tag : Tag) → is_some (value_at (slice_cmp nat_cmp) master.streams node) ≡ false
    → let_out (command_step master (Frontend node) tag command.Update)
    ≡ record { master = streaming master (Frontend node) tag; outs = map (answered (Frontend node) tag) (table_lines master.table) }
unfolding command_step is_stream replied settled streaming reply_to update_reply change_outs
update_taken master node tag none =
    let asked : List MResponse = table_lines master.table in
    let taken : Planned = settled (replied master (Frontend node) tag (reply_to master.table (Frontend node) command.Update)) (Frontend node) tag (stream_step command.Update) in
    ap (λ b. let_out (if b && true then bad_step master (Frontend node) tag else taken)) none
    ∙ ap (λ marks. record { master = streaming master (Frontend node) tag; outs = map (answered (Frontend node) tag) asked ++ marks }) (unmarked (ask_id_of tag))
    ∙ ap (λ outs. record { master = streaming master (Frontend node) tag; outs = outs }) (append-nil (map (answered (Frontend node) tag) asked))

pub update_begins : (master : Master) (node line : List ℕ) (tag : Tag) → list_any (pointwise nat_eq node) master.backends ≡ false
    → command_in line ≡ Some (tag, command.Update) → value_at (slice_cmp nat_cmp) master.streams node ≡ None
    → node_says master node (Line line)
    ≡ record { master = streaming master (Frontend node) tag; outs = map (answered (Frontend node) tag) (table_lines master.table) }
unfolding node_says line_step line_by
update_begins master node line tag front read none =
    ap (λ b. let_out (line_step master (sender_by b node) line)) front
    ∙ ap (λ it. let_out (line_by master (Frontend node) line it)) read
    ∙ update_taken master node tag (ap is_some none)
