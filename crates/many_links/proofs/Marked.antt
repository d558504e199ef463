-- For which command a step of the master counts that takes a line of a node: that of the line's tag, if the reply counts.
use Rattle.std.proofs.Common.{◌≡◌, ℕ, List, [], ◌∷◌, ◌++◌, map, Option, None, Some, refl, ap, ◌∙◌}
use Rattle.std.proofs.lemmas.List.Concat.{flat_map-append}
use Rattle.link_msg.specs.declared.counts.Counts.{Counts}
use Rattle.link_msg.specs.declared.out.Out.{Out}
use Rattle.master_core.specs.declared.master.Master.{Master}
use Rattle.master_core.specs.declared.reply.Reply.{Reply}
use Rattle.master_core.specs.declared.sender.Sender.{Sender}
use Rattle.master_core.specs.declared.sender.Sender.TheVariants.{Backend, Frontend, Outside}
use Rattle.master_core.specs.Changes.{change_line, change_outs, node_told, watcher_told}
use Rattle.master_core.specs.Step.{answered, mark_outs, reply_outs}
use Rattle.mupdate_codec.specs.declared.command.MResponse.{MResponse}
use Rattle.mupdate_codec.specs.declared.tag.Tag.{Tag}
use Rattle.mur_base.specs.declared.point.AskId.{AskId}
use Rattle.node_record.specs.declared.master.MasterRecord.{MasterRecord}
use Rattle.many_links.specs.Marks.{mark_in, marks_in}

answers_unmarked : (from : Sender) (tag : Tag) (answers : List MResponse) → marks_in (map (answered from tag) answers) ≡ []
answers_unmarked from tag [] = refl
answers_unmarked (Backend node) tag (it ∷ answers) = answers_unmarked (Backend node) tag answers
answers_unmarked (Frontend node) tag (it ∷ answers) = answers_unmarked (Frontend node) tag answers
answers_unmarked (Outside conn) tag (it ∷ answers) = answers_unmarked (Outside conn) tag answers

nodes_unmarked : (it : MResponse) (streams : List (List ℕ × Tag)) → marks_in (map (node_told it) streams) ≡ []
nodes_unmarked it [] = refl
nodes_unmarked it (stream ∷ streams) = nodes_unmarked it streams

watchers_unmarked : (it : MResponse) (watchers : List (ℕ × Tag)) → marks_in (map (watcher_told it) watchers) ≡ []
watchers_unmarked it [] = refl
watchers_unmarked it (watcher ∷ watchers) = watchers_unmarked it watchers

changes_unmarked : (streams : List (List ℕ × Tag)) (watchers : List (ℕ × Tag)) (made : Option MasterRecord) → marks_in (change_outs streams watchers made) ≡ []
unfolding change_outs
changes_unmarked streams watchers None = refl
changes_unmarked streams watchers (Some it) =
    flat_map-append mark_in (map (node_told (change_line it)) streams) (map (watcher_told (change_line it)) watchers)
    ∙ ap (λ (l : List (AskId × Counts)). l ++ marks_in (map (watcher_told (change_line it)) watchers)) (nodes_unmarked (change_line it) streams)
    ∙ watchers_unmarked (change_line it) watchers

pub reply_marks : (master : Master) (from : Sender) (tag : Tag) (reply : Reply)
    → marks_in (reply_outs master from tag reply) ≡ marks_in (mark_outs from tag reply.counts)
reply_marks master from tag reply =
    let changes : List Out = change_outs master.streams master.watchers reply.entry in
    let marks : List Out = mark_outs from tag reply.counts in
    flat_map-append mark_in (map (answered from tag) reply.answers) (changes ++ marks)
    ∙ ap (λ (l : List (AskId × Counts)). l ++ marks_in (changes ++ marks)) (answers_unmarked from tag reply.answers)
    ∙ flat_map-append mark_in changes marks
    ∙ ap (λ (l : List (AskId × Counts)). l ++ marks_in marks) (changes_unmarked master.streams master.watchers reply.entry)
