-- What a client's own bytes do: its lines are answered as its dialog says, UPDATE makes it a watcher, and LOGOUT ends it.
use Rattle.std.proofs.Common.{◌≡◌, ℕ, Bool, true, false, ◌&&◌, not, cond, List, [], ◌∷◌, ◌++◌, is_some, Option, None, Some, refl, sym, ap, ◌∙◌, subst}
use Rattle.std.proofs.Common.{append-nil, append_assoc}
use Rattle.std.specs.Prelude.{◌||◌}
use Rattle.std.specs.List.{fold}
use Rattle.std.specs.Ordering.{nat_cmp}
use Rattle.link_msg.specs.declared.out.Out.TheVariants.{Close}
use Rattle.master_core.specs.declared.master.Master.{Master}
use Rattle.master_core.specs.declared.outside.Outside.{Outside}
use Rattle.master_core.specs.declared.outside.Outside.TheVariants as outside
use Rattle.master_core.specs.declared.reply.Reply.{Reply}
use Rattle.master_core.specs.declared.sender.Sender.TheVariants as sender
use Rattle.master_core.specs.declared.streams.StreamStep.{StreamStep}
use Rattle.master_core.specs.declared.streams.StreamStep.TheVariants as stream
use Rattle.feed_links.specs.Spelled.{CanBeTold}
use Rattle.master_core.specs.Cutting.{Cut, cut_from}
use Rattle.master_core.specs.Dialogs.{Dialog, answered_with, dialog_after, command_told, told_by, line_told, bytes_told, cut_told, answers_text}
use Rattle.master_core.specs.Linked.{let_out}
use Rattle.master_core.specs.Lines.{tag_before}
use Rattle.master_core.specs.Outside.{Stepped, still, is_open_at, line_comes, lines_come, with_begun as begun_at, bytes_at, bytes_in}
use Rattle.master_core.specs.Replies.{reply_to, bad_reply}
use Rattle.master_core.specs.Step.{Planned, replied, settled, bad_step, command_step, line_by, line_step}
use Rattle.master_core.specs.Streams.{is_stream, streaming, ended_if, without, may_follow_update, stream_step}
use Rattle.master_core.proofs.OutsideAlone.{answers_alone}
use Rattle.master_core.proofs.OutsideLaw.{no_entry, line_leaves}
use Rattle.mupdate_codec.specs.declared.command.MCommand.{MCommand}
use Rattle.mupdate_codec.specs.declared.tag.Tag.{Tag}
use Rattle.mupdate_codec.specs.Whole.{command_in}
use Rattle.mur_base.specs.Map.{value_at}
use Rattle.mur_base.proofs.MapLaws.{numbers_apart, value_at-with_entry, value_at-with_value}
use Rattle.node_record.specs.Table.{MailboxTable}
use Rattle.guest_links.specs.Guests.{Guest, Watch, tag_in, tag_of, first_of, watch_after, watch_by, line_taken, with_begun, lines_taken, bytes_taken, left}
use Rattle.guest_links.specs.Outputs.{given_by, ClosesLast}
use Rattle.guest_links.specs.Served.{HasWatchers, IsGuestOf, IsServed, DialogIsTheMasters, outside_of}
use Rattle.guest_links.proofs.Numbers.{gone, same_number}
use Rattle.guest_links.proofs.Orders.{line_order}
use Rattle.guest_links.proofs.Outputs.{Gives, own_answers, given_both, closes_both, last_both}
use Rattle.guest_links.proofs.Reading.{WatcherKeeps, line_keeps}
use Rattle.guest_links.proofs.Watches.{watch_stays, begins_alone, no_watch, some_watch}

abbrev IsGuestServed : ℕ → Stepped → Guest → Guest → Type 0
IsGuestServed conn next guest later = IsServed conn next (Some guest) (Some later) later.dialog.ended

abbrev guest_with : Dialog → Option Watch → Guest
guest_with dialog watch = record { dialog = dialog; watch = watch }

-- a reply that changes nothing
replied_served : (master : Master) (conn : ℕ) (guest : Guest) (tag : Tag) (reply : Reply) → reply.entry ≡ None → guest.dialog.ended ≡ false
    → IsGuestOf master conn guest
    → IsGuestServed conn (let_out (replied master (sender.Outside conn) tag reply)) guest
    (guest_with (answered_with guest.dialog tag reply.answers) guest.watch)
unfolding replied
replied_served master conn guest tag reply none on is =
    let gives : Gives conn (replied master (sender.Outside conn) tag reply).outs (answers_text tag reply.answers) =
    subst (λ outs. Gives conn outs (answers_text tag reply.answers)) (sym (answers_alone master conn tag reply none)) (own_answers conn tag reply.answers) in
    record {
      is = record { outside = is.outside; watcher = is.watcher; streams = is.streams };
      given = ap (λ bytes. guest.dialog.given ++ bytes) (sym gives.given);
      closed = gives.closed ∙ sym on;
      last = gives.last;
    }

-- a guest that goes on is told changes under the tag of its UPDATE
pub on_tag : (guest : Guest) → guest.dialog.ended ≡ false → tag_of guest ≡ tag_in guest.watch
on_tag guest on = ap (λ b. cond b None (tag_in guest.watch)) on

-- a close, or LOGOUT
pub left_is : (master : Master) (conn : ℕ) (guest : Guest) → HasWatchers master → IsGuestOf master conn guest
    → IsGuestOf (without master (sender.Outside conn)) conn (left guest)
unfolding without
left_is master conn guest order is = record {
  outside = ap (λ found. value_at nat_cmp (ended_if master.outside conn found) conn) is.outside
      ∙ value_at-with_value nat_cmp numbers_apart master.outside conn outside.Ended (outside_of guest.dialog) is.outside;
  watcher = gone master.watchers conn order;
  streams = λ on. cc;
}

-- what the command makes of the sender's stream
settled_served : (conn : ℕ) (planned : Planned) (guest mid : Guest) (before : Dialog) (tag : Tag) (step : StreamStep) → HasWatchers planned.master
    → mid.dialog.ended ≡ false → (step ≡ stream.Begins → mid.watch ≡ None) → IsGuestServed conn (let_out planned) guest mid
    → IsGuestServed conn (let_out (settled planned (sender.Outside conn) tag step)) guest
    (guest_with (dialog_after mid.dialog step) (watch_after before mid.watch tag step))
unfolding settled streaming ClosesLast
settled_served conn planned guest mid before tag stream.Stays order on fresh served = served
settled_served conn planned guest mid before tag stream.Begins order on fresh served =
    let new : Watch = record { tag = tag; before = before.given } in
    let first : first_of mid.watch new ≡ Some new = ap (λ watch. first_of watch new) (fresh refl) in
    record {
      is = record {
        outside = served.is.outside;
        watcher = value_at-with_entry nat_cmp numbers_apart planned.master.watchers conn tag
            ∙ sym (on_tag (guest_with (dialog_after mid.dialog stream.Begins) (first_of mid.watch new)) on ∙ ap tag_in first);
        streams = λ goes_on. ap is_some first;
      };
      given = served.given;
      closed = served.closed;
      last = served.last;
    }
settled_served conn planned guest mid before tag stream.Ends order on fresh served = record {
  is = left_is planned.master conn mid order served.is;
  given = served.given ∙ ap (λ bytes. guest.dialog.given ++ bytes) (sym (given_both conn planned.outs (Close conn ∷ [])
      ∙ append-nil (given_by conn planned.outs)));
  closed = closes_both conn planned.outs (Close conn ∷ []) (served.closed ∙ on) ∙ ap (λ b. b || false) (same_number conn);
  last = last_both conn planned.outs (Close conn ∷ []) (served.closed ∙ on) ((λ shut. refl), tt);
}

bad_served : (master : Master) (conn : ℕ) (guest : Guest) (tag : Tag) → guest.dialog.ended ≡ false → IsGuestOf master conn guest
    → IsGuestServed conn (let_out (bad_step master (sender.Outside conn) tag)) guest (guest_with (answered_with guest.dialog tag bad_reply.answers) guest.watch)
unfolding bad_step bad_reply
bad_served master conn guest tag on is = replied_served master conn guest tag bad_reply refl on is

module _ (master : Master) (conn : ℕ) (guest : Guest) (order : HasWatchers master) (on : guest.dialog.ended ≡ false) (is : IsGuestOf master conn guest) where
  watches_alike : is_some (value_at nat_cmp master.watchers conn) ≡ is_some guest.watch
  watches_alike = ap is_some (is.watcher ∙ on_tag guest on) ∙ by guest.watch
    where
      by : (watch : Option Watch) → is_some (tag_in watch) ≡ is_some watch
      by None = refl
      by (Some watch) = refl

  module _ (tag : Tag) (it : MCommand) where
    reply : Reply
    reply = reply_to master.table (sender.Outside conn) it

    stepped : Bool → Planned
    stepped b =
        cond b (bad_step master (sender.Outside conn) tag) (settled (replied master (sender.Outside conn) tag reply) (sender.Outside conn) tag (stream_step it))

    told : Bool → Dialog
    told b = cond b (answered_with guest.dialog tag bad_reply.answers) (dialog_after (answered_with guest.dialog tag reply.answers) (stream_step it))

    by_test : (b : Bool) → (is_some guest.watch && not (may_follow_update it)) ≡ b
        → IsGuestServed conn (let_out (stepped b)) guest (guest_with (told b) (watch_after guest.dialog guest.watch tag (stream_step it)))
    unfolding stepped told reply replied
    by_test true e =
        subst (λ watch. IsGuestServed conn (let_out (bad_step master (sender.Outside conn) tag)) guest
        (guest_with (answered_with guest.dialog tag bad_reply.answers) watch))
        (sym (watch_stays guest.dialog guest.watch tag (stream_step it) (some_watch (is_some guest.watch) (may_follow_update it) e)))
        (bad_served master conn guest tag on is)
    by_test false e =
        settled_served conn (replied master (sender.Outside conn) tag reply) guest
        (guest_with (answered_with guest.dialog tag reply.answers) guest.watch) guest.dialog tag
        (stream_step it) order on (λ begins. no_watch guest.watch (may_follow_update it) e (begins_alone it begins))
        (replied_served master conn guest tag reply (no_entry master.table conn it) on is)

    command_served : IsGuestServed conn (let_out (command_step master (sender.Outside conn) tag it)) guest
        (guest_with (command_told master.table conn guest.dialog tag it) (watch_after guest.dialog guest.watch tag (stream_step it)))
    unfolding command_step command_told is_stream stepped told reply
    command_served =
        subst (λ s. IsGuestServed conn (let_out (stepped (s && not (may_follow_update it)))) guest
        (guest_with (told (guest.dialog.streams && not (may_follow_update it))) (watch_after guest.dialog guest.watch tag (stream_step it))))
        (sym watches_alike)
        (subst (λ s. IsGuestServed conn (let_out (stepped (is_some guest.watch && not (may_follow_update it)))) guest
        (guest_with (told (s && not (may_follow_update it))) (watch_after guest.dialog guest.watch tag (stream_step it)))) (is.streams on)
        (by_test (is_some guest.watch && not (may_follow_update it)) refl))

  found_served : (line : List ℕ) (found : Option (Tag × MCommand))
      → IsGuestServed conn (let_out (line_by master (sender.Outside conn) line found)) guest
      (guest_with (told_by master.table conn guest.dialog line found) (watch_by guest.dialog guest.watch found))
  unfolding line_by told_by
  found_served line None = bad_served master conn guest (tag_before line) on is
  found_served line (Some it) = command_served it.0 it.1

  line_served : (line : List ℕ) → IsGuestServed conn (let_out (line_step master (sender.Outside conn) line)) guest
      (guest_with (told_by master.table conn guest.dialog line (command_in line)) (watch_by guest.dialog guest.watch (command_in line)))
  unfolding line_step
  line_served line = found_served line (command_in line)

-- the master and its outputs so far are those of the dialog so far
record HasGone (table : MailboxTable) (conn : ℕ) (first : Guest) (so_far : Stepped) (guest : Guest) : Type 0 where
  order : HasWatchers so_far.master
  same_table : so_far.master.table ≡ table
  served : IsGuestServed conn so_far first guest
  keeps : CanBeTold table → WatcherKeeps table first → WatcherKeeps table guest

more_served : (conn : ℕ) (so_far : Stepped) (next : Planned) (first guest later : Guest) → guest.dialog.ended ≡ false → IsGuestServed conn so_far first guest
    → IsGuestServed conn (let_out next) guest later
    → IsGuestServed conn (record { master = next.master; outs = so_far.outs ++ next.outs }) first later
more_served conn so_far next first guest later on one two = record {
  is = two.is;
  given = two.given ∙ ap (λ g. g ++ given_by conn next.outs) one.given ∙ append_assoc first.dialog.given (given_by conn so_far.outs) (given_by conn next.outs)
      ∙ ap (λ b. first.dialog.given ++ b) (sym (given_both conn so_far.outs next.outs));
  closed = closes_both conn so_far.outs next.outs (one.closed ∙ on) ∙ two.closed;
  last = last_both conn so_far.outs next.outs (one.closed ∙ on) two.last;
}

-- a dialog that has ended, whatever its client sends
over_is : (master : Master) (conn : ℕ) (guest : Guest) (watch : Option Watch) → guest.dialog.ended ≡ true → IsGuestOf master conn guest
    → IsGuestOf master conn (guest_with guest.dialog watch)
over_is master conn guest watch over is = record {
  outside = is.outside;
  watcher = is.watcher ∙ ap (λ b. cond b None (tag_in guest.watch)) over ∙ sym (ap (λ b. cond b None (tag_in watch)) over);
  streams = λ on. absurd (let never : true ≡ false = sym over ∙ on in cc);
}

one_line : (table : MailboxTable) (conn : ℕ) (first : Guest) (so_far : Stepped) (guest : Guest) (line : List ℕ) → HasGone table conn first so_far guest
    → HasGone table conn first (line_comes conn so_far line) (line_taken table conn guest line)
unfolding line_comes line_told
one_line table conn first so_far guest line gone =
    subst (λ (found : Option Outside). HasGone table conn first (by_test (is_open_at found)) (taken_test guest.dialog.ended)) (sym gone.served.is.outside)
    (by_case guest.dialog.ended refl)
  where
    next : Planned
    next = line_step so_far.master (sender.Outside conn) line

    watch : Option Watch
    watch = watch_by guest.dialog guest.watch (command_in line)

    by_test : Bool → Stepped
    by_test b = cond b (record { master = next.master; outs = so_far.outs ++ next.outs }) so_far

    taken_test : Bool → Guest
    taken_test b = guest_with (cond b guest.dialog (told_by table conn guest.dialog line (command_in line))) watch

    by_case : (b : Bool) → guest.dialog.ended ≡ b
        → HasGone table conn first (by_test (is_open_at (Some (cond b outside.Ended (outside.Open (Some guest.dialog.begun)))))) (taken_test b)
    by_case true over = record {
      order = gone.order;
      same_table = gone.same_table;
      served = record {
        is = over_is so_far.master conn guest watch over gone.served.is;
        given = gone.served.given;
        closed = gone.served.closed;
        last = gone.served.last;
      };
      keeps = λ can was on. absurd (let never : true ≡ false = sym over ∙ on in cc);
    }
    by_case false on = record {
      order = line_order so_far.master (sender.Outside conn) line gone.order;
      same_table = (line_leaves so_far.master conn line).table ∙ gone.same_table;
      served = more_served conn so_far next first guest (guest_with (told_by table conn guest.dialog line (command_in line)) watch) on gone.served
          (subst (λ t. IsGuestServed conn (let_out next) guest (guest_with (told_by t conn guest.dialog line (command_in line)) watch)) gone.same_table
          (line_served so_far.master conn guest gone.order on gone.served.is line));
      keeps = λ can was. line_keeps table conn guest can (gone.served.is.streams on) (gone.keeps can was) line;
    }

all_lines : (table : MailboxTable) (conn : ℕ) (first : Guest) (so_far : Stepped) (guest : Guest) (lines : List (List ℕ)) → HasGone table conn first so_far guest
    → HasGone table conn first (fold (line_comes conn) so_far lines) (fold (line_taken table conn) guest lines)
all_lines table conn first so_far guest [] gone = gone
all_lines table conn first so_far guest (line ∷ lines) gone =
    all_lines table conn first (line_comes conn so_far line) (line_taken table conn guest line) lines (one_line table conn first so_far guest line gone)

-- the line that has begun
begun_goes : (master : Master) (conn : ℕ) (guest : Guest) (begun : List ℕ) → HasWatchers master → guest.dialog.ended ≡ false → IsGuestOf master conn guest
    → HasGone master.table conn guest (still (begun_at master conn begun)) (guest_with (with_begun guest.dialog begun) guest.watch)
unfolding ClosesLast
begun_goes master conn guest begun order on is = record {
  order = order;
  same_table = refl;
  served = record {
    is = record {
      outside = value_at-with_value nat_cmp numbers_apart master.outside conn (outside.Open (Some begun)) (outside_of guest.dialog) is.outside
          ∙ sym (ap (λ b. Some (cond b outside.Ended (outside.Open (Some begun)))) on);
      watcher = is.watcher;
      streams = is.streams;
    };
    given = sym (append-nil guest.dialog.given);
    closed = sym on;
    last = tt;
  };
  keeps = λ can was. was;
}

-- its bytes come, and its dialog goes on
bytes_go : (master : Master) (conn : ℕ) (guest : Guest) (cut : Cut) → HasWatchers master → guest.dialog.ended ≡ false → IsGuestOf master conn guest
    → HasGone master.table conn guest (lines_come (begun_at master conn cut.begun) conn cut.lines) (lines_taken master.table conn guest cut)
unfolding lines_come
bytes_go master conn guest cut order on is =
    all_lines master.table conn guest (still (begun_at master conn cut.begun)) (guest_with (with_begun guest.dialog cut.begun) guest.watch) cut.lines
    (begun_goes master conn guest cut.begun order on is)

pub bytes_served : (master : Master) (conn : ℕ) (guest : Guest) (piece : List ℕ) → HasWatchers master → IsGuestOf master conn guest
    → IsServed conn (bytes_in master conn piece) (Some guest) (Some (bytes_taken master.table conn guest piece))
    ((bytes_taken master.table conn guest piece).dialog.ended && not guest.dialog.ended)
unfolding bytes_in bytes_at bytes_taken ClosesLast
bytes_served master conn guest piece order is =
    subst (λ (found : Option Outside). IsServed conn (bytes_at master conn piece found) (Some guest) (Some (taken_test guest.dialog.ended))
    ((taken_test guest.dialog.ended).dialog.ended && not guest.dialog.ended)) (sym is.outside) (by_case guest.dialog.ended refl)
  where
    taken_test : Bool → Guest
    taken_test b = cond b guest (lines_taken master.table conn guest (cut_from guest.dialog.begun piece))

    over_or_not : (b : Bool) → (b && not b) ≡ false
    over_or_not true = refl
    over_or_not false = refl

    on_then : (over was : Bool) → was ≡ false → over ≡ (over && not was)
    on_then true was on = sym (ap not on)
    on_then false was on = refl

    by_case : (b : Bool) → guest.dialog.ended ≡ b → (let found : Option Outside = Some (cond b outside.Ended (outside.Open (Some guest.dialog.begun))) in
        IsServed conn (bytes_at master conn piece found) (Some guest) (Some (taken_test b)) ((taken_test b).dialog.ended && not guest.dialog.ended))
    by_case true over = record { is = is; given = sym (append-nil guest.dialog.given); closed = sym (over_or_not guest.dialog.ended); last = tt }
    by_case false on =
        let all = bytes_go master conn guest (cut_from guest.dialog.begun piece) order on is in
        record {
          is = all.served.is;
          given = all.served.given;
          closed = all.served.closed ∙ on_then (taken_test false).dialog.ended guest.dialog.ended on;
          last = all.served.last;
        }

-- a watcher has the table after its bytes too
pub bytes_keep : (master : Master) (conn : ℕ) (guest : Guest) (piece : List ℕ) → HasWatchers master → CanBeTold master.table → IsGuestOf master conn guest
    → WatcherKeeps master.table guest → WatcherKeeps master.table (bytes_taken master.table conn guest piece)
unfolding bytes_taken
bytes_keep master conn guest piece order can is keeps = by guest.dialog.ended refl
  where
    by : (b : Bool) → guest.dialog.ended ≡ b
        → WatcherKeeps master.table (cond b guest (lines_taken master.table conn guest (cut_from guest.dialog.begun piece)))
    by true over = keeps
    by false on = (bytes_go master conn guest (cut_from guest.dialog.begun piece) order on is).keeps can keeps

-- the dialog is that of the master's own laws

fold_dialogs : (table : MailboxTable) (conn : ℕ) (guest : Guest) (lines : List (List ℕ))
    → (fold (line_taken table conn) guest lines).dialog ≡ fold (line_told table conn) guest.dialog lines
fold_dialogs table conn guest [] = refl
fold_dialogs table conn guest (line ∷ lines) = fold_dialogs table conn (line_taken table conn guest line) lines

pub dialog_is_the_masters : DialogIsTheMasters
unfolding bytes_taken bytes_told
dialog_is_the_masters table conn guest piece = by guest.dialog.ended
  where
    by : (b : Bool) → (cond b guest (lines_taken table conn guest (cut_from guest.dialog.begun piece))).dialog
        ≡ cond b guest.dialog (cut_told table conn guest.dialog (cut_from guest.dialog.begun piece))
    by true = refl
    by false =
        fold_dialogs table conn (guest_with (with_begun guest.dialog (cut_from guest.dialog.begun piece).begun) guest.watch)
        (cut_from guest.dialog.begun piece).lines
