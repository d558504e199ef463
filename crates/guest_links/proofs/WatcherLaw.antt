-- Whatever happens at the master, what a watcher was given is the table.
use Rattle.std.proofs.Common.{◌≡◌, ℕ, Bool, true, false, nat_eq, cond, List, [], ◌∷◌, Option, None, Some, refl, sym, ap, ◌∙◌, subst}
use Rattle.std.specs.Prelude.{⊤}
use Rattle.feed_links.specs.Spelled.{CanBeTold}
use Rattle.feed_links.proofs.Arguments.{HasArguments}
use Rattle.feed_links.proofs.Changes.{MakesChange, makes_change}
use Rattle.feed_links.proofs.FeedLaw.{says_told}
use Rattle.feed_links.proofs.Steps.{StepIs, is_bad, is_taken, step_is}
use Rattle.link_msg.specs.declared.message.LinkMsg.{LinkMsg}
use Rattle.link_msg.specs.declared.message.LinkMsg.TheVariants.{Up, End, Line, Ask, Answer}
use Rattle.master_core.specs.declared.master.Master.{Master}
use Rattle.master_core.specs.declared.sender.Sender.{Sender}
use Rattle.master_core.specs.Linked.{node_entry, sender_of}
use Rattle.master_core.specs.Replies.{reply_to, bad_reply}
use Rattle.master_core.specs.Step.{Planned, replied, bad_step, table_with}
use Rattle.master_core.specs.Streams.{stream_step}
use Rattle.mupdate_codec.specs.declared.command.MCommand.{MCommand}
use Rattle.node_record.specs.declared.master.MasterRecord.{MasterRecord}
use Rattle.node_record.specs.Table.{MailboxTable}
use Rattle.guest_links.specs.Guests.{Guest, arrived, bytes_taken, left, told_change}
use Rattle.guest_links.specs.Happenings.{Happening, connects, says, leaves, sends, step_of, change_of, seen_after, master_from, seen_from}
use Rattle.guest_links.specs.Reading.{HasTheTable, WatchersHaveTheTable}
use Rattle.guest_links.specs.Served.{HasWatchers, IsSeen, given_to}
use Rattle.guest_links.proofs.NodeLines.{taken_entry}
use Rattle.guest_links.proofs.Orders.{watchers_stay_in_order}
use Rattle.guest_links.proofs.OwnLines.{bytes_keep}
use Rattle.guest_links.proofs.Reading.{WatcherKeeps, no_watcher, same_keeps, change_keeps}
use Rattle.guest_links.proofs.ServedLaw.{each_step_serves, changes_are_of_the_table, next_seen, given_on}

-- a change is that of a command that was read
record IsRead (table : MailboxTable) (change : MasterRecord) : Type 0 where
  it : MCommand
  makes : MakesChange table it change
  arguments : HasArguments it

read_by : (master : Master) (from : Sender) (next : Planned) (change : MasterRecord) → StepIs master from next → next.entry ≡ Some change
    → IsRead master.table change
unfolding bad_step replied bad_reply
read_by master from next change (is_bad tag tagged) e = cc
read_by master from next change (is_taken tag it tagged has may) e = record {
  it = it;
  makes = makes_change master.table from change it (sym (taken_entry master from tag (reply_to master.table from it) (stream_step it)) ∙ e);
  arguments = has;
}

change_read : (master : Master) (node : List ℕ) (message : LinkMsg) (change : MasterRecord) → node_entry master node message ≡ Some change
    → IsRead master.table change
change_read master node (Line bytes) change e = read_by master (sender_of master node) _ change (step_is master (sender_of master node) bytes) e
change_read master node End change e = cc
change_read master node Up change e = cc
change_read master node (Ask ask) change e = cc
change_read master node (Answer answer) change e = cc

told_keeps : (table : MailboxTable) (guest : Guest) (made : Option MasterRecord) → ((change : MasterRecord) → made ≡ Some change → IsRead table change)
    → WatcherKeeps table guest → WatcherKeeps (table_with table made) (told_change made guest)
told_keeps table guest None is keeps = same_keeps table guest keeps
told_keeps table guest (Some change) is keeps =
    let read = is change refl in change_keeps table guest read.it change read.makes read.arguments keeps

abbrev pub SeenKeeps : MailboxTable → Option Guest → Type 0
SeenKeeps table None = ⊤
SeenKeeps table (Some guest) = WatcherKeeps table guest

-- by the table before the step and its change
keeps_by : (master : Master) (conn : ℕ) (seen : Option Guest) (happening : Happening) → HasWatchers master → CanBeTold master.table → IsSeen master conn seen
    → SeenKeeps master.table seen → SeenKeeps (table_with master.table (change_of master happening)) (next_seen master conn seen happening)
unfolding seen_after
keeps_by master conn None (connects other) order can is keeps = by (nat_eq conn other)
  where
    by : (b : Bool) → SeenKeeps master.table (cond b (Some (arrived master.me)) None)
    by true = no_watcher master.table (arrived master.me).dialog None refl
    by false = tt
keeps_by master conn None (says other bytes) order can is keeps = tt
keeps_by master conn None (leaves other) order can is keeps = tt
keeps_by master conn None (sends node message) order can is keeps = tt
keeps_by master conn (Some guest) (connects other) order can is keeps = keeps
keeps_by master conn (Some guest) (says other bytes) order can is keeps = by (nat_eq conn other)
  where
    by : (b : Bool) → WatcherKeeps master.table (cond b (bytes_taken master.table conn guest bytes) guest)
    by true = bytes_keep master conn guest bytes order can is keeps
    by false = keeps
keeps_by master conn (Some guest) (leaves other) order can is keeps = by (nat_eq conn other)
  where
    by : (b : Bool) → WatcherKeeps master.table (cond b (left guest) guest)
    by true = λ on watch has. cc
    by false = keeps
keeps_by master conn (Some guest) (sends node message) order can is keeps =
    told_keeps master.table guest (node_entry master node message) (change_read master node message) keeps

pub step_keeps : (master : Master) (conn : ℕ) (seen : Option Guest) (happening : Happening) → HasWatchers master → CanBeTold master.table → IsSeen master conn seen
    → SeenKeeps master.table seen → SeenKeeps (step_of master happening).master.table (next_seen master conn seen happening)
step_keeps master conn seen happening order can is keeps =
    subst (λ table. SeenKeeps table (next_seen master conn seen happening)) (sym (changes_are_of_the_table master happening))
    (keeps_by master conn seen happening order can is keeps)

-- and the table can be told after it
pub step_told : (master : Master) (happening : Happening) → CanBeTold master.table → CanBeTold (step_of master happening).master.table
unfolding step_of
step_told master (connects conn) can = subst CanBeTold (sym (changes_are_of_the_table master (connects conn))) can
step_told master (says conn bytes) can = subst CanBeTold (sym (changes_are_of_the_table master (says conn bytes))) can
step_told master (leaves conn) can = subst CanBeTold (sym (changes_are_of_the_table master (leaves conn))) can
step_told master (sends node message) can = says_told master node message can

keeps_on : (master : Master) (conn : ℕ) (seen : Option Guest) (happenings : List Happening) → HasWatchers master → CanBeTold master.table
    → IsSeen master conn seen
    → SeenKeeps master.table seen → SeenKeeps (master_from master happenings).table (seen_from master conn seen happenings)
unfolding master_from seen_from
keeps_on master conn seen [] order can is keeps = keeps
keeps_on master conn seen (happening ∷ more) order can is keeps =
    keeps_on (step_of master happening).master conn (next_seen master conn seen happening) more (watchers_stay_in_order master happening order)
    (step_told master happening can) (each_step_serves master conn seen happening order is).is (step_keeps master conn seen happening order can is keeps)

pub watchers_have_the_table : WatchersHaveTheTable
watchers_have_the_table master conn happenings order can none dialog watch seen on =
    let guest : Guest = record { dialog = dialog; watch = Some watch } in
    let keeps = subst (SeenKeeps (master_from master happenings).table) seen (keeps_on master conn None happenings order can none tt) in
    subst (HasTheTable (master_from master happenings).table watch) (sym (ap given_to seen) ∙ given_on master conn None happenings order none)
    (keeps on watch refl).has
