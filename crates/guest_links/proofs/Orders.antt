-- The watchers stay in order, whatever comes to the master.
use Rattle.std.proofs.Common.{ℕ, Bool, true, false, cond, List, [], ◌∷◌, ◌++◌, Option, None, Some}
use Rattle.std.specs.List.{fold}
use Rattle.std.specs.Ordering.{nat_cmp}
use Rattle.std.proofs.lemmas.Cmp.{nat_cmp_total}
use Rattle.feed_links.proofs.Steps.{StepIs, is_bad, is_taken, step_is}
use Rattle.link_msg.specs.declared.message.LinkMsg.{LinkMsg}
use Rattle.link_msg.specs.declared.message.LinkMsg.TheVariants.{Up, End, Line, Ask, Answer}
use Rattle.master_core.specs.declared.master.Master.{Master}
use Rattle.master_core.specs.declared.outside.Outside.{Outside}
use Rattle.master_core.specs.declared.outside.Outside.TheVariants as outside
use Rattle.master_core.specs.declared.sender.Sender.{Sender}
use Rattle.master_core.specs.declared.sender.Sender.TheVariants as sender
use Rattle.master_core.specs.declared.streams.StreamStep.{StreamStep}
use Rattle.master_core.specs.declared.streams.StreamStep.TheVariants as stream
use Rattle.master_core.specs.Cutting.{cut_from}
use Rattle.master_core.specs.Linked.{sender_of, node_says}
use Rattle.master_core.specs.Outside.{Stepped, still, outside_at, is_open, connect, connect_at, line_comes, lines_come, with_begun, bytes_at, bytes_in}
use Rattle.master_core.specs.Replies.{reply_to}
use Rattle.master_core.specs.Step.{Planned, replied, settled, bad_step, line_step}
use Rattle.master_core.specs.Streams.{stream_step, streaming, without}
use Rattle.mupdate_codec.specs.declared.tag.Tag.{Tag}
use Rattle.mur_base.proofs.MapOrder.{with_entry-in_order}
use Rattle.guest_links.specs.Happenings.{connects, says, leaves, sends, step_of}
use Rattle.guest_links.specs.Served.{HasWatchers, WatchersStayInOrder}
use Rattle.guest_links.proofs.Numbers.{order_without}

pub begun_order : (master : Master) (conn : ℕ) (tag : Tag) → HasWatchers master → HasWatchers (streaming master (sender.Outside conn) tag)
unfolding streaming
begun_order master conn tag order = with_entry-in_order nat_cmp nat_cmp_total master.watchers conn tag order

pub ended_order : (master : Master) (from : Sender) → HasWatchers master → HasWatchers (without master from)
unfolding without
ended_order master (sender.Backend node) order = order
ended_order master (sender.Frontend node) order = order
ended_order master (sender.Outside conn) order = order_without conn master.watchers order

settled_order : (planned : Planned) (from : Sender) (tag : Tag) (step : StreamStep) → HasWatchers planned.master
    → HasWatchers (settled planned from tag step).master
unfolding settled streaming
settled_order planned from tag stream.Stays order = order
settled_order planned (sender.Backend node) tag stream.Begins order = order
settled_order planned (sender.Frontend node) tag stream.Begins order = order
settled_order planned (sender.Outside conn) tag stream.Begins order = with_entry-in_order nat_cmp nat_cmp_total planned.master.watchers conn tag order
settled_order planned from tag stream.Ends order = ended_order planned.master from order

step_order : (master : Master) (from : Sender) (next : Planned) → HasWatchers master → StepIs master from next → HasWatchers next.master
unfolding bad_step replied
step_order master from next order (is_bad tag tagged) = order
step_order master from next order (is_taken tag it tagged has may) =
    settled_order (replied master from tag (reply_to master.table from it)) from tag (stream_step it) order

pub line_order : (master : Master) (from : Sender) (line : List ℕ) → HasWatchers master → HasWatchers (line_step master from line).master
line_order master from line order = step_order master from _ order (step_is master from line)

abbrev later : Stepped → Planned → Stepped
later so_far next = record { master = next.master; outs = so_far.outs ++ next.outs }

comes_by : (conn : ℕ) (so_far : Stepped) (line : List ℕ) (b : Bool) → HasWatchers so_far.master
    → HasWatchers (cond b (later so_far (line_step so_far.master (sender.Outside conn) line)) so_far).master
comes_by conn so_far line true order = line_order so_far.master (sender.Outside conn) line order
comes_by conn so_far line false order = order

comes_order : (conn : ℕ) (so_far : Stepped) (line : List ℕ) → HasWatchers so_far.master → HasWatchers (line_comes conn so_far line).master
unfolding line_comes
comes_order conn so_far line order = comes_by conn so_far line (is_open so_far.master conn) order

lines_order : (conn : ℕ) (so_far : Stepped) (lines : List (List ℕ)) → HasWatchers so_far.master → HasWatchers (fold (line_comes conn) so_far lines).master
lines_order conn so_far [] order = order
lines_order conn so_far (line ∷ lines) order = lines_order conn (line_comes conn so_far line) lines (comes_order conn so_far line order)

bytes_order : (master : Master) (conn : ℕ) (piece : List ℕ) → HasWatchers master → HasWatchers (bytes_in master conn piece).master
unfolding bytes_in bytes_at lines_come
bytes_order master conn piece order = by (outside_at master conn)
  where
    by : (found : Option Outside) → HasWatchers (bytes_at master conn piece found).master
    by None = order
    by (Some outside.Ended) = order
    by (Some (outside.Open None)) = order
    by (Some (outside.Open (Some begun))) =
        lines_order conn (still (with_begun master conn (cut_from begun piece).begun)) (cut_from begun piece).lines order

connect_order : (master : Master) (conn : ℕ) → HasWatchers master → HasWatchers (connect master conn).master
unfolding connect connect_at
connect_order master conn order = by (outside_at master conn)
  where
    by : (found : Option Outside) → HasWatchers (connect_at master conn found).master
    by (Some there) = order
    by None = order

says_order : (master : Master) (node : List ℕ) (message : LinkMsg) → HasWatchers master → HasWatchers (node_says master node message).master
unfolding node_says
says_order master node (Line bytes) order = line_order master (sender_of master node) bytes order
says_order master node End order = ended_order master (sender_of master node) order
says_order master node Up order = order
says_order master node (Ask ask) order = order
says_order master node (Answer answer) order = order

pub watchers_stay_in_order : WatchersStayInOrder
unfolding step_of
watchers_stay_in_order master (connects conn) order = connect_order master conn order
watchers_stay_in_order master (says conn bytes) order = bytes_order master conn bytes order
watchers_stay_in_order master (leaves conn) order = ended_order master (sender.Outside conn) order
watchers_stay_in_order master (sends node message) order = says_order master node message order
