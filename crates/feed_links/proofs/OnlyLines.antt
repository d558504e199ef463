-- The master sends nodes nothing but lines.
use Rattle.std.proofs.Common.{ℕ, Bool, true, false, nat_eq, List, [], ◌∷◌, ◌++◌, map, Option, None, Some, refl, sym, ap, ◌∙◌, subst, append-nil}
use Rattle.std.specs.Prelude.{if◌then◌else◌}
use Rattle.std.specs.Cmp.Lexicographic.{pointwise}
use Rattle.std.proofs.Math.Logic.{⊎_elim}
use Rattle.std.proofs.lemmas.List.Concat.{flat_map-append}
use Rattle.link_msg.specs.declared.message.LinkMsg.{LinkMsg}
use Rattle.link_msg.specs.declared.message.LinkMsg.TheVariants.{Up, End, Line, Ask, Answer}
use Rattle.link_msg.specs.declared.out.Out.TheVariants.{Link}
use Rattle.master_core.specs.declared.master.Master.{Master}
use Rattle.master_core.specs.declared.reply.Reply.{Reply}
use Rattle.master_core.specs.declared.sender.Sender.{Sender}
use Rattle.master_core.specs.Changes.{node_told, watcher_told, change_line, change_outs}
use Rattle.master_core.specs.Linked.{sender_of, node_says}
use Rattle.master_core.specs.Replies.{reply_to, bad_reply}
use Rattle.master_core.specs.Step.{Planned, answered, reply_outs, replied, bad_step}
use Rattle.master_core.specs.Streams.{stream_step}
use Rattle.mupdate_codec.specs.declared.command.MResponse.{MResponse}
use Rattle.mupdate_codec.specs.declared.tag.Tag.{Tag}
use Rattle.node_record.specs.declared.master.MasterRecord.{MasterRecord}
use Rattle.feed_links.specs.Lines.{message_to, messages_to, IsOf, IsOfAnother}
use Rattle.feed_links.specs.OneFeed.{AreLines, SendsLines}
use Rattle.feed_links.proofs.Messages.{told_line, whose, own_answers, no_answers, none_to_watchers, reply_messages, settled_messages}
use Rattle.feed_links.proofs.Steps.{StepIs, is_bad, is_taken, step_is}

pub lines_and : (one two : List LinkMsg) → AreLines one → AreLines two → AreLines (one ++ two)
lines_and [] two first second = second
lines_and (x ∷ one) two first second = (first.0, lines_and one two first.1 second)

are_lines : (tag : Tag) (answers : List MResponse) → AreLines (map (told_line tag) answers)
are_lines tag [] = tt
are_lines tag (it ∷ answers) = ((_, refl), are_lines tag answers)

answers_lines : (node : List ℕ) (from : Sender) (tag : Tag) (answers : List MResponse) → AreLines (messages_to node (map (answered from tag) answers))
answers_lines node from tag answers = ⊎_elim
    (λ (own : IsOf node from). subst AreLines (sym (own_answers node from tag answers own)) (are_lines tag answers))
    (λ (other : IsOfAnother node from). subst AreLines (sym (no_answers node from tag answers other)) tt)
    (whose node from)

one_by : (bytes : List ℕ) (same : Bool) → AreLines (if same then Line bytes ∷ [] else [])
one_by bytes true = ((bytes, refl), tt)
one_by bytes false = tt

told_lines : (node : List ℕ) (it : MResponse) (streams : List (List ℕ × Tag)) → AreLines (messages_to node (map (node_told it) streams))
told_lines node it [] = tt
told_lines node it (e ∷ streams) =
    lines_and (message_to node (Link e.0 (told_line e.1 it))) (messages_to node (map (node_told it) streams)) (one_by _ (pointwise nat_eq e.0 node))
    (told_lines node it streams)

changes_lines : (node : List ℕ) (master : Master) (made : Option MasterRecord) → AreLines (messages_to node (change_outs master.streams master.watchers made))
unfolding change_outs
changes_lines node master None = tt
changes_lines node master (Some change) =
    subst AreLines
    (sym (flat_map-append (message_to node) (map (node_told (change_line change)) master.streams) (map (watcher_told (change_line change)) master.watchers)
    ∙ ap (λ l. messages_to node (map (node_told (change_line change)) master.streams) ++ l) (none_to_watchers node (change_line change) master.watchers)
    ∙ append-nil (messages_to node (map (node_told (change_line change)) master.streams))))
    (told_lines node (change_line change) master.streams)

reply_lines : (master : Master) (node : List ℕ) (from : Sender) (tag : Tag) (reply : Reply) → AreLines (messages_to node (reply_outs master from tag reply))
reply_lines master node from tag reply =
    subst AreLines (sym (reply_messages master node from tag reply))
    (lines_and (messages_to node (map (answered from tag) reply.answers)) (messages_to node (change_outs master.streams master.watchers reply.entry))
    (answers_lines node from tag reply.answers) (changes_lines node master reply.entry))

step_lines : (master : Master) (node : List ℕ) (from : Sender) (next : Planned) → StepIs master from next → AreLines (messages_to node next.outs)
unfolding bad_step replied
step_lines master node from next (is_bad tag tagged) = reply_lines master node from tag bad_reply
step_lines master node from next (is_taken tag it tagged has may) =
    subst AreLines (sym (settled_messages node (replied master from tag (reply_to master.table from it)) from tag (stream_step it)))
    (reply_lines master node from tag (reply_to master.table from it))

pub sends_lines : SendsLines
unfolding node_says
sends_lines master other node (Line bytes) = step_lines master node (sender_of master other) _ (step_is master (sender_of master other) bytes)
sends_lines master other node End = tt
sends_lines master other node Up = tt
sends_lines master other node (Ask ask) = tt
sends_lines master other node (Answer answer) = tt
