-- What a client is given behind its UPDATE makes the records of the table, line by line.
use Rattle.std.proofs.Common.{◌≡◌, ℕ, Bool, true, false, ◌&&◌, not, cond, List, [], ◌∷◌, ◌++◌, map, is_some, Option, None, Some, refl, sym, ap, ◌∙◌, subst}
use Rattle.std.proofs.Common.{append-nil, append_assoc, arith, codes}
use Rattle.std.specs.List.{flat_map, fold, AllByRecursion}
use Rattle.std.specs.Ordering.{nat_cmp}
use Rattle.std.specs.Cmp.Lexicographic.{slice_cmp}
use Rattle.std.proofs.lemmas.Grind.{fold-append}
use Rattle.feed_core.specs.Feed.{Recs, recs_after, fed}
use Rattle.feed_links.specs.Replicas.{recs_of}
use Rattle.feed_links.specs.Spelled.{CanBeTold}
use Rattle.feed_links.proofs.Arguments.{HasArguments, IsSpelledTag, line_tagged, before_spelled}
use Rattle.feed_links.proofs.Changes.{MakesChange, change_heard}
use Rattle.feed_links.proofs.Following.{change_parts}
use Rattle.feed_links.proofs.Hearing.{IsQuiet, text_spelled}
use Rattle.feed_links.proofs.Printed.{response_spelled}
use Rattle.feed_links.proofs.TableLines.{records_fed, table_written}
use Rattle.master_core.specs.declared.sender.Sender.TheVariants as sender
use Rattle.master_core.specs.declared.streams.StreamStep.TheVariants as stream
use Rattle.master_core.specs.Changes.{change_line, text_of}
use Rattle.master_core.specs.Dialogs.{Dialog, answered_with, answers_text, dialog_after, command_told, told_by}
use Rattle.master_core.specs.Lines.{tag_before}
use Rattle.master_core.specs.Records.{record_lines}
use Rattle.master_core.specs.Replies.{bad, bad_reply, done, reply_to, noop_reply, update_reply}
use Rattle.master_core.specs.Streams.{may_follow_update, stream_step}
use Rattle.master_core.proofs.UpdateLaw.{table_lines}
use Rattle.mupdate_codec.specs.declared.command.MCommand.{MCommand}
use Rattle.mupdate_codec.specs.declared.command.MCommand.TheVariants as command
use Rattle.mupdate_codec.specs.declared.command.MResponse.{MResponse}
use Rattle.mupdate_codec.specs.declared.command.MResponse.TheVariants as response
use Rattle.mupdate_codec.specs.declared.tag.Tag.{Tag}
use Rattle.mupdate_codec.specs.Responses.{IsSpelledResponse}
use Rattle.mupdate_codec.specs.Whole.{command_in}
use Rattle.mupdate_codec.proofs.WholeLaw.{is_line}
use Rattle.mur_base.specs.Map.{IsInOrder}
use Rattle.node_record.specs.declared.master.MasterRecord.{MasterRecord}
use Rattle.node_record.specs.Table.{MailboxTable, table_after}
use Rattle.guest_links.specs.Guests.{Guest, Watch, tag_in, tag_of, first_of, watch_after, watch_by, told_of, told_change}
use Rattle.guest_links.specs.Reading.{reads, IsToldUnder, IsUnder, HasTheTable}
use Rattle.guest_links.proofs.Spelling.{Responses, under, lines_both, answers_lines}
use Rattle.guest_links.proofs.Watches.{watch_stays, no_watch, some_watch}

-- the responses of several answers, as their reader takes them
reads_answers : (recs : Recs) (tag : Tag) (answers : List MResponse) → fold reads recs (map (under tag) answers) ≡ fed recs answers
reads_answers recs tag [] = refl
reads_answers recs tag (it ∷ answers) = reads_answers (recs_after recs it) tag answers

all_both : (P : Tag × MResponse → Type 0) (one two : Responses) → AllByRecursion P one → AllByRecursion P two → AllByRecursion P (one ++ two)
all_both P [] two a b = b
all_both P (it ∷ one) two a b = (a.0, all_both P one two a.1 b)

its_tag : (tag : Tag) (it : MResponse) → IsToldUnder tag tag it
its_tag tag (response.Ok text) = tt
its_tag tag (response.No text) = tt
its_tag tag (response.Bad text) = tt
its_tag tag (response.Mailbox name place acl) = refl
its_tag tag (response.Reserve name place) = refl
its_tag tag (response.Delete name) = refl

all_under : (tag : Tag) (answers : List MResponse) → AllByRecursion (IsUnder tag) (map (under tag) answers)
all_under tag [] = tt
all_under tag (it ∷ answers) = (its_tag tag it, all_under tag answers)

-- more lines
has_more : (old new : MailboxTable) (watch : Watch) (all : List ℕ) (tag : Tag) (answers : List MResponse) → AllByRecursion (IsSpelledResponse tag) answers
    → AllByRecursion (IsUnder watch.tag) (map (under tag) answers) → fed (recs_of old) answers ≡ recs_of new
    → HasTheTable old watch all → HasTheTable new watch (all ++ answers_text tag answers)
has_more old new watch all tag answers spelled unders fed_so has =
    let makes = has.makes in
    let later : Responses = map (under tag) answers in
    record {
      since = has.since ++ answers_text tag answers;
      is = ap (λ bytes. bytes ++ answers_text tag answers) has.is ∙ append_assoc watch.before has.since (answers_text tag answers);
      makes = record {
        responses = makes.responses ++ later;
        lines = lines_both has.since (answers_text tag answers) makes.responses later makes.lines (answers_lines tag answers spelled);
        made = fold-append reads [] makes.responses later ∙ ap (λ recs. fold reads recs later) makes.made ∙ reads_answers (recs_of old) tag answers ∙ fed_so;
        tagged = all_both (IsUnder watch.tag) makes.responses later makes.tagged unders;
      };
    }

-- the answer to UPDATE

table_fed : (table : MailboxTable) → IsInOrder (slice_cmp nat_cmp) table.records → fed [] (table_lines table) ≡ recs_of table
table_fed table order = fold-append recs_after [] (flat_map record_lines table.records) (response.Ok done ∷ []) ∙ records_fed table order

module _ (tag : Tag) (tagged : IsSpelledTag tag) where
  abbrev mine : List ℕ → Watch
  mine before = record { tag = tag; before = before }

  update_has : (table : MailboxTable) (before : List ℕ) → CanBeTold table
      → HasTheTable table (mine before) (before ++ answers_text tag (table_lines table))
  update_has table before can = record {
    since = answers_text tag (table_lines table);
    is = refl;
    makes = record {
      responses = map (under tag) (table_lines table);
      lines = answers_lines tag (table_lines table) (table_written tag tagged table can);
      made = reads_answers [] tag (table_lines table) ∙ table_fed table can.order;
      tagged = all_under tag (table_lines table);
    };
  }

  -- OK and BAD
  quiet_has : (table : MailboxTable) (watch : Watch) (all : List ℕ) (it : MResponse) → IsQuiet it → HasTheTable table watch all
      → HasTheTable table watch (all ++ answers_text tag (it ∷ []))
  quiet_has table watch all (response.Ok text) quiet has =
      has_more table table watch all tag (response.Ok text ∷ []) (response_spelled tag (response.Ok text) tagged quiet, tt) (tt, tt) refl has
  quiet_has table watch all (response.Bad text) quiet has =
      has_more table table watch all tag (response.Bad text ∷ []) (response_spelled tag (response.Bad text) tagged quiet, tt) (tt, tt) refl has
  quiet_has table watch all (response.Mailbox name place acl) quiet has = absurd quiet
  quiet_has table watch all (response.Reserve name place) quiet has = absurd quiet
  quiet_has table watch all (response.Delete name) quiet has = absurd quiet
  quiet_has table watch all (response.No text) quiet has = absurd quiet

  -- the line of a change

  change_has : (table : MailboxTable) (before all : List ℕ) (it : MCommand) (change : MasterRecord) → MakesChange table it change → HasArguments it
      → HasTheTable table (mine before) all
      → HasTheTable (table_after table change) (mine before) (all ++ text_of tag (change_line change))
  change_has table before all it change makes arguments has =
      subst (λ text. HasTheTable (table_after table change) (mine before) (all ++ text)) (append-nil (text_of tag (change_line change)))
      (has_more table (table_after table change) (mine before) all tag (change_line change ∷ [])
      (response_spelled tag (change_line change) tagged (change_parts table it change makes arguments), tt) (all_under tag (change_line change ∷ []))
      (ap (λ replica. replica.records) (change_heard table it change makes)) has)

-- a client with an UPDATE has the table
pub record Keeps (table : MailboxTable) (watch : Watch) (all : List ℕ) : Type 0 where
  pub tagged : IsSpelledTag watch.tag
  pub has : HasTheTable table watch all

abbrev pub WatcherKeeps : MailboxTable → Guest → Type 0
WatcherKeeps table guest = guest.dialog.ended ≡ false → (watch : Watch) → guest.watch ≡ Some watch → Keeps table watch guest.dialog.given

abbrev guest_with : Dialog → Option Watch → Guest
guest_with dialog watch = record { dialog = dialog; watch = watch }

pub no_watcher : (table : MailboxTable) (dialog : Dialog) (watch : Option Watch) → watch ≡ None → WatcherKeeps table (guest_with dialog watch)
no_watcher table dialog watch none = λ on it is. absurd (let never : None ≡ Some it = sym none ∙ is in cc)

-- its line

quiet_keeps : (table : MailboxTable) (guest : Guest) (tag : Tag) (it : MResponse) → IsSpelledTag tag → IsQuiet it → WatcherKeeps table guest
    → WatcherKeeps table (guest_with (answered_with guest.dialog tag (it ∷ [])) guest.watch)
quiet_keeps table guest tag it tagged quiet keeps = λ on watch is. (let old = keeps on watch is in
    record { tagged = old.tagged; has = quiet_has tag tagged table watch guest.dialog.given it quiet old.has })

bad_keeps : (table : MailboxTable) (guest : Guest) (tag : Tag) → IsSpelledTag tag → WatcherKeeps table guest
    → WatcherKeeps table (guest_with (answered_with guest.dialog tag bad_reply.answers) guest.watch)
unfolding bad_reply
bad_keeps table guest tag tagged keeps = quiet_keeps table guest tag bad tagged (text_spelled (codes "syntax") (omega arith)) keeps

same_watch : (one other : Watch) → (let o : Option Watch = Some one in o ≡ Some other) → one ≡ other
same_watch one other e = cc

new_keeps : (table : MailboxTable) (guest : Guest) (tag : Tag) → CanBeTold table → IsSpelledTag tag → guest.watch ≡ None
    → WatcherKeeps table (guest_with (dialog_after (answered_with guest.dialog tag (table_lines table)) stream.Begins)
    (first_of guest.watch (record { tag = tag; before = guest.dialog.given })))
new_keeps table guest tag can tagged none = λ on watch is. (
    let new : Watch = record { tag = tag; before = guest.dialog.given } in
    subst (λ w. Keeps table w (guest.dialog.given ++ answers_text tag (table_lines table)))
    (same_watch new watch (sym (ap (λ found. first_of found new) none) ∙ is))
    (record { tagged = tagged; has = update_has tag tagged table guest.dialog.given can }))

-- no client without UPDATE is a watcher
unwatched : (table : MailboxTable) (conn : ℕ) (guest : Guest) (tag : Tag) (it : MCommand) → guest.watch ≡ None
    → WatcherKeeps table (guest_with (answered_with guest.dialog tag (reply_to table (sender.Outside conn) it).answers) guest.watch)
unwatched table conn guest tag it none = no_watcher table (answered_with guest.dialog tag (reply_to table (sender.Outside conn) it).answers) guest.watch none

taken_keeps : (table : MailboxTable) (conn : ℕ) (guest : Guest) (tag : Tag) (it : MCommand) → CanBeTold table → IsSpelledTag tag
    → (is_some guest.watch && not (may_follow_update it)) ≡ false → WatcherKeeps table guest
    → WatcherKeeps table (guest_with (dialog_after (answered_with guest.dialog tag (reply_to table (sender.Outside conn) it).answers) (stream_step it))
    (watch_after guest.dialog guest.watch tag (stream_step it)))
unfolding reply_to noop_reply update_reply
taken_keeps table conn guest tag command.Update can tagged may keeps = new_keeps table guest tag can tagged (no_watch guest.watch false may refl)
taken_keeps table conn guest tag command.Noop can tagged may keeps =
    quiet_keeps table guest tag (response.Ok done) tagged (text_spelled done (omega arith)) keeps
taken_keeps table conn guest tag command.Logout can tagged may keeps = λ on watch is. cc
taken_keeps table conn guest tag (command.Reserve name place) can tagged may keeps =
    unwatched table conn guest tag (command.Reserve name place) (no_watch guest.watch false may refl)
taken_keeps table conn guest tag (command.Activate name place acl) can tagged may keeps =
    unwatched table conn guest tag (command.Activate name place acl) (no_watch guest.watch false may refl)
taken_keeps table conn guest tag (command.Deactivate name place) can tagged may keeps =
    unwatched table conn guest tag (command.Deactivate name place) (no_watch guest.watch false may refl)
taken_keeps table conn guest tag (command.Delete name) can tagged may keeps =
    unwatched table conn guest tag (command.Delete name) (no_watch guest.watch false may refl)
taken_keeps table conn guest tag (command.Find name) can tagged may keeps =
    unwatched table conn guest tag (command.Find name) (no_watch guest.watch false may refl)
taken_keeps table conn guest tag (command.List prefix) can tagged may keeps =
    unwatched table conn guest tag (command.List prefix) (no_watch guest.watch false may refl)

module _ (table : MailboxTable) (conn : ℕ) (guest : Guest) (can : CanBeTold table) (streams : is_some guest.watch ≡ guest.dialog.streams)
    (keeps : WatcherKeeps table guest) where
  told : Tag → MCommand → Bool → Dialog
  told tag it b = cond b (answered_with guest.dialog tag bad_reply.answers)
      (dialog_after (answered_with guest.dialog tag (reply_to table (sender.Outside conn) it).answers) (stream_step it))

  by_test : (tag : Tag) (it : MCommand) → IsSpelledTag tag → (b : Bool) → (is_some guest.watch && not (may_follow_update it)) ≡ b
      → WatcherKeeps table (guest_with (told tag it b) (watch_after guest.dialog guest.watch tag (stream_step it)))
  unfolding told
  by_test tag it tagged true e =
      subst (λ watch. WatcherKeeps table (guest_with (answered_with guest.dialog tag bad_reply.answers) watch))
      (sym (watch_stays guest.dialog guest.watch tag (stream_step it) (some_watch (is_some guest.watch) (may_follow_update it) e)))
      (bad_keeps table guest tag tagged keeps)
  by_test tag it tagged false e = taken_keeps table conn guest tag it can tagged e keeps

  command_keeps : (tag : Tag) (it : MCommand) → IsSpelledTag tag
      → WatcherKeeps table (guest_with (command_told table conn guest.dialog tag it) (watch_after guest.dialog guest.watch tag (stream_step it)))
  unfolding command_told told
  command_keeps tag it tagged =
      subst (λ s. WatcherKeeps table (guest_with (told tag it (s && not (may_follow_update it))) (watch_after guest.dialog guest.watch tag
      (stream_step it)))) streams
      (by_test tag it tagged (is_some guest.watch && not (may_follow_update it)) refl)

  found_keeps : (line : List ℕ) (found : Option (Tag × MCommand)) → command_in line ≡ found
      → WatcherKeeps table (guest_with (told_by table conn guest.dialog line found) (watch_by guest.dialog guest.watch found))
  unfolding told_by
  found_keeps line None read = bad_keeps table guest (tag_before line) (before_spelled line) keeps
  found_keeps line (Some it) read = command_keeps it.0 it.1 (line_tagged line it (is_line line it read))

  pub line_keeps : (line : List ℕ)
      → WatcherKeeps table (guest_with (told_by table conn guest.dialog line (command_in line)) (watch_by guest.dialog guest.watch (command_in line)))
  line_keeps line = found_keeps line (command_in line) refl

-- a change

pub same_keeps : (table : MailboxTable) (guest : Guest) → WatcherKeeps table guest → WatcherKeeps table (told_change None guest)
same_keeps table guest keeps = λ on watch is. (let old = keeps on watch is in
    record { tagged = old.tagged; has = subst (HasTheTable table watch) (sym (append-nil guest.dialog.given)) old.has })

tag_is : (guest : Guest) (watch : Watch) → guest.dialog.ended ≡ false → guest.watch ≡ Some watch → tag_of guest ≡ Some watch.tag
tag_is guest watch on is = ap (λ b. cond b None (tag_in guest.watch)) on ∙ ap tag_in is

pub change_keeps : (table : MailboxTable) (guest : Guest) (it : MCommand) (change : MasterRecord) → MakesChange table it change → HasArguments it
    → WatcherKeeps table guest → WatcherKeeps (table_after table change) (told_change (Some change) guest)
change_keeps table guest it change makes arguments keeps = λ on watch is. (let old = keeps on watch is in
    record {
      tagged = old.tagged;
      has = subst (λ tag. HasTheTable (table_after table change) watch (guest.dialog.given ++ told_of (Some change) tag)) (sym (tag_is guest watch on is))
          (change_has watch.tag old.tagged table watch.before guest.dialog.given it change makes arguments old.has);
    })
