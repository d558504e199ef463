-- What a node with a stream is sent makes of the replica of the table that of the table after the step.
use Rattle.std.proofs.Common.{◌≡◌, ℕ, Bool, true, false, ◌&&◌, not, List, [], ◌∷◌, ◌++◌, map, is_some, Option, None, Some, refl, sym, ap, ◌∙◌, append-nil, arith, codes}
use Rattle.std.proofs.Math.Logic.{⊎_elim}
use Rattle.feed_core.specs.Stream.{update_tag}
use Rattle.feed_core.proofs.StreamLaw.{heard_line}
use Rattle.master_core.specs.declared.master.Master.{Master}
use Rattle.master_core.specs.declared.reply.Reply.{Reply}
use Rattle.master_core.specs.declared.sender.Sender.{Sender}
use Rattle.master_core.specs.declared.sender.Sender.TheVariants.{Backend, Frontend, Outside}
use Rattle.master_core.specs.Changes.{change_line, change_outs}
use Rattle.master_core.specs.Replies.{reply_to, bad, bad_reply, noop_reply, logout_reply}
use Rattle.master_core.specs.Step.{Planned, answered, reply_outs, replied, bad_step, table_with}
use Rattle.master_core.specs.Streams.{is_stream, may_follow_update, stream_step}
use Rattle.mupdate_codec.specs.declared.command.MCommand.{MCommand}
use Rattle.mupdate_codec.specs.declared.command.MCommand.TheVariants as command
use Rattle.mupdate_codec.specs.declared.command.MResponse.{MResponse}
use Rattle.mupdate_codec.specs.declared.command.MResponse.TheVariants as response
use Rattle.mupdate_codec.specs.declared.tag.Tag.{Tag}
use Rattle.mupdate_codec.specs.Characters.{is_mupdate_tag_byte}
use Rattle.node_record.specs.declared.master.MasterRecord.{MasterRecord}
use Rattle.node_record.specs.Table.{MailboxTable}
use Rattle.feed_links.specs.Lines.{messages_to, IsOf, IsOfAnother, HasStreams, stream_of}
use Rattle.feed_links.specs.Replicas.{hears_all, replica_of}
use Rattle.feed_links.specs.Streams.{StreamsFollow}
use Rattle.feed_links.proofs.Arguments.{HasArguments, IsSpelledTag, tag_spelled}
use Rattle.feed_links.proofs.Changes.{MakesChange, reserves, activates, deactivates, deletes, makes_change, change_heard}
use Rattle.feed_links.proofs.Hearing.{IsQuiet, quiet_heard, text_spelled}
use Rattle.feed_links.proofs.Messages.{whose, own_answers, no_answers, change_told, reply_messages, settled_messages}
use Rattle.feed_links.proofs.Printed.{HasParts, response_spelled}
use Rattle.feed_links.proofs.Steps.{StepIs, is_bad, is_taken, step_is, settled_table}

pub update_tagged : IsSpelledTag update_tag
unfolding is_mupdate_tag_byte
update_tagged = tag_spelled _ refl

-- the line of a change can be written
pub change_parts : (table : MailboxTable) (it : MCommand) (change : MasterRecord) → MakesChange table it change → HasArguments it → HasParts (change_line change)
change_parts table it change (reserves name place serial none) has = has
change_parts table it change (activates name place acl) has = has
change_parts table it change (deactivates name place was there) has = has
change_parts table it change (deletes name) has = has

-- what a node with a stream is told of the change that a reply makes
change_follows : (master : Master) (node : List ℕ) (it : MCommand) (made : Option MasterRecord) → HasStreams master → stream_of master node ≡ Some update_tag
    → HasArguments it → ((change : MasterRecord) → made ≡ Some change → MakesChange master.table it change)
    → hears_all (replica_of master.table) (messages_to node (change_outs master.streams master.watchers made)) ≡ replica_of (table_with master.table made)
unfolding change_outs
change_follows master node it None order there has makes = refl
change_follows master node it (Some change) order there has makes =
    ap (hears_all (replica_of master.table)) (change_told master node update_tag change order there)
    ∙ heard_line (replica_of master.table) (change_line change)
    (response_spelled update_tag (change_line change) update_tagged (change_parts master.table it change (makes change refl) has))
    ∙ change_heard master.table it change (makes change refl)

-- another sender's command
other_follows : (master : Master) (from : Sender) (node : List ℕ) (tag : Tag) (it : MCommand) → HasStreams master → stream_of master node ≡ Some update_tag
    → HasArguments it → IsOfAnother node from
    → hears_all (replica_of master.table) (messages_to node (reply_outs master from tag (reply_to master.table from it)))
    ≡ replica_of (table_with master.table (reply_to master.table from it).entry)
other_follows master from node tag it order there has another =
    let reply : Reply = reply_to master.table from it in
    ap (hears_all (replica_of master.table)) (reply_messages master node from tag reply
    ∙ ap (λ l. l ++ messages_to node (change_outs master.streams master.watchers reply.entry)) (no_answers node from tag reply.answers another))
    ∙ change_follows master node it reply.entry order there has (λ change. makes_change master.table from change it)

-- OK and BAD, and no change
quiet_follows : (master : Master) (from : Sender) (node : List ℕ) (tag : Tag) (it : MResponse) (reply : Reply) → IsSpelledTag tag → IsQuiet it
    → reply.entry ≡ None → reply.answers ≡ it ∷ []
    → hears_all (replica_of master.table) (messages_to node (reply_outs master from tag reply)) ≡ replica_of (table_with master.table reply.entry)
unfolding change_outs
quiet_follows master from node tag it reply tagged quiet none answers =
    ap (hears_all (replica_of master.table)) (reply_messages master node from tag reply
    ∙ ap (λ made. messages_to node (map (answered from tag) reply.answers) ++ messages_to node (change_outs master.streams master.watchers made)) none
    ∙ append-nil (messages_to node (map (answered from tag) reply.answers))
    ∙ ap (λ l. messages_to node (map (answered from tag) l)) answers)
    ∙ ⊎_elim
    (λ (own : IsOf node from). ap (hears_all (replica_of master.table)) (own_answers node from tag (it ∷ []) own) ∙ quiet_heard master.table tag it tagged quiet)
    (λ (other : IsOfAnother node from). ap (hears_all (replica_of master.table)) (no_answers node from tag (it ∷ []) other))
    (whose node from)
    ∙ ap (λ made. replica_of (table_with master.table made)) (sym none)

-- a node with a stream has sent UPDATE
has_stream : (master : Master) (from : Sender) (node : List ℕ) (tag : Tag) → IsOf node from → stream_of master node ≡ Some tag → is_stream master from ≡ true
unfolding is_stream
has_stream master (Backend other) node tag same there = ap (λ n. is_some (stream_of master n)) same ∙ ap is_some there
has_stream master (Frontend other) node tag same there = ap (λ n. is_some (stream_of master n)) same ∙ ap is_some there
has_stream master (Outside conn) node tag none there = absurd none

-- so it has sent NOOP or LOGOUT
only_after : (streams may : Bool) → streams ≡ true → (streams && not may) ≡ false → may ≡ true
only_after true true e h = refl
only_after true false e h = cc
only_after false may e h = cc

own_follows : (master : Master) (from : Sender) (node : List ℕ) (tag : Tag) (it : MCommand) → IsSpelledTag tag → may_follow_update it ≡ true
    → hears_all (replica_of master.table) (messages_to node (reply_outs master from tag (reply_to master.table from it)))
    ≡ replica_of (table_with master.table (reply_to master.table from it).entry)
unfolding reply_to noop_reply logout_reply
own_follows master from node tag command.Noop tagged may =
    quiet_follows master from node tag (response.Ok (codes "done")) noop_reply tagged (text_spelled (codes "done") (omega arith)) refl refl
own_follows master from node tag command.Logout tagged may =
    quiet_follows master from node tag (response.Ok (codes "bye")) logout_reply tagged (text_spelled (codes "bye") (omega arith)) refl refl
own_follows master from node tag (command.Reserve name place) tagged may = cc
own_follows master from node tag (command.Activate name place acl) tagged may = cc
own_follows master from node tag (command.Deactivate name place) tagged may = cc
own_follows master from node tag (command.Delete name) tagged may = cc
own_follows master from node tag (command.Find name) tagged may = cc
own_follows master from node tag (command.List prefix) tagged may = cc
own_follows master from node tag command.Update tagged may = cc

reply_follows : (master : Master) (from : Sender) (node : List ℕ) (tag : Tag) (it : MCommand) → HasStreams master → stream_of master node ≡ Some update_tag
    → IsSpelledTag tag → HasArguments it → (is_stream master from && not (may_follow_update it)) ≡ false
    → hears_all (replica_of master.table) (messages_to node (reply_outs master from tag (reply_to master.table from it)))
    ≡ replica_of (table_with master.table (reply_to master.table from it).entry)
reply_follows master from node tag it order there tagged has may = ⊎_elim
    (λ (own : IsOf node from). own_follows master from node tag it tagged
    (only_after (is_stream master from) (may_follow_update it) (has_stream master from node update_tag own there) may))
    (λ (other : IsOfAnother node from). other_follows master from node tag it order there has other)
    (whose node from)

follows_by : (master : Master) (from : Sender) (node : List ℕ) (next : Planned) → HasStreams master → stream_of master node ≡ Some update_tag
    → StepIs master from next → hears_all (replica_of master.table) (messages_to node next.outs) ≡ replica_of next.master.table
unfolding replied bad_step bad_reply
follows_by master from node next order there (is_bad tag tagged) =
    quiet_follows master from node tag bad bad_reply tagged (text_spelled (codes "syntax") (omega arith)) refl refl
follows_by master from node next order there (is_taken tag it tagged has may) =
    let reply : Reply = reply_to master.table from it in
    ap (hears_all (replica_of master.table)) (settled_messages node (replied master from tag reply) from tag (stream_step it))
    ∙ reply_follows master from node tag it order there tagged has may
    ∙ ap replica_of (sym (settled_table (replied master from tag reply) from tag (stream_step it)))

pub streams_follow : StreamsFollow
streams_follow master from line node order there = follows_by master from node _ order there (step_is master from line)
