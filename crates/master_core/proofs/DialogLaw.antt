-- What the master gives a client from outside is its dialog.
use Rattle.std.proofs.Common.{◌≡◌, ℕ, Bool, true, false, ◌&&◌, not, cond, List, [], ◌∷◌, ◌++◌, map, is_some, Option, None, Some, refl, sym, ap, ◌∙◌, subst}
use Rattle.std.proofs.Common.{append-nil, append_assoc}
use Rattle.std.specs.List.{flat_map, fold}
use Rattle.std.specs.Ordering.{nat_cmp}
use Rattle.std.proofs.lemmas.Grind.{flat_map-append}
use Rattle.std.proofs.lemmas.List.Folds.{flat_map-map}
use Rattle.link_msg.specs.declared.out.Out.{Out}
use Rattle.link_msg.specs.declared.out.Out.TheVariants.{Client, Close}
use Rattle.mupdate_codec.specs.declared.command.MCommand.{MCommand}
use Rattle.mupdate_codec.specs.declared.command.MResponse.{MResponse}
use Rattle.mupdate_codec.specs.declared.tag.Tag.{Tag}
use Rattle.mur_base.specs.Map.{value_at}
use Rattle.mur_base.proofs.MapLaws.{numbers_apart, value_at-with_entry, value_at-with_value}
use Rattle.node_record.specs.Table.{MailboxTable}
use Rattle.master_core.specs.declared.master.Master.{Master}
use Rattle.master_core.specs.declared.outside.Outside.{Outside}
use Rattle.master_core.specs.declared.outside.Outside.TheVariants as outside
use Rattle.master_core.specs.declared.reply.Reply.{Reply}
use Rattle.master_core.specs.declared.sender.Sender.TheVariants as sender
use Rattle.master_core.specs.declared.streams.StreamStep.{StreamStep}
use Rattle.master_core.specs.declared.streams.StreamStep.TheVariants as stream
use Rattle.master_core.specs.Cutting.{cut_from}
use Rattle.master_core.specs.Greeting.{greeting}
use Rattle.mupdate_codec.specs.Whole.{command_in}
use Rattle.master_core.specs.Lines.{tag_before}
use Rattle.master_core.specs.Outside.{Stepped, still, outside_at, connect, connect_at, is_open_at, line_comes, lines_come, with_begun, bytes_at, bytes_in}
use Rattle.master_core.specs.Replies.{reply_to, bad_reply}
use Rattle.master_core.specs.Step.{Planned, answered, replied, settled, bad_step, command_step, line_by, line_step}
use Rattle.master_core.specs.Streams.{is_stream, streaming, ended_if, without, may_follow_update, stream_step}
use Rattle.master_core.specs.Dialogs.{Dialog, greeted, answers_text, answered_with, dialog_ended, dialog_after, command_told, told_by, line_told, cut_told, bytes_told}
use Rattle.master_core.proofs.OutsideAlone.{IsBeside, answers_alone}
use Rattle.master_core.proofs.OutsideLaw.{no_entry, line_leaves}

-- the bytes that outputs give to clients
abbrev pub client_bytes : Out → List ℕ
client_bytes (Client conn bytes) = bytes
client_bytes out = []

abbrev pub bytes_of : List Out → List ℕ
bytes_of outs = flat_map client_bytes outs

abbrev pub connection_of : Bool → List ℕ → Outside
connection_of true begun = outside.Ended
connection_of false begun = outside.Open (Some begun)

-- the master has the connection of this dialog
pub record IsDialog (master : Master) (conn : ℕ) (dialog : Dialog) : Type 0 where
  pub outside : outside_at master conn ≡ Some (connection_of dialog.ended dialog.begun)
  pub streams : dialog.ended ≡ false → is_some (value_at nat_cmp master.watchers conn) ≡ dialog.streams

-- the dialog goes on so, and the client is given these outputs
pub record GoesOn (conn : ℕ) (next : Master) (outs : List Out) (dialog later : Dialog) : Type 0 where
  pub is_dialog : IsDialog next conn later
  pub given : later.given ≡ dialog.given ++ bytes_of outs

goes_more : (conn : ℕ) (two three : Master) (before outs : List Out) (dialog mid later : Dialog) → GoesOn conn two before dialog mid
    → GoesOn conn three outs mid later → GoesOn conn three (before ++ outs) dialog later
goes_more conn two three before outs dialog mid later first second = record {
  is_dialog = second.is_dialog;
  given = second.given ∙ ap (λ g. g ++ bytes_of outs) first.given ∙ append_assoc dialog.given (bytes_of before) (bytes_of outs)
      ∙ ap (λ b. dialog.given ++ b) (sym (flat_map-append client_bytes before outs));
}

-- a dialog that another connection's step leaves
pub dialog_stays : (conn other : ℕ) (master next : Master) (dialog : Dialog) → IsBeside conn master next → (other ≡ conn → ⊥) → IsDialog master other dialog
    → IsDialog next other dialog
dialog_stays conn other master next dialog beside ne is = record {
  outside = beside.outside other ne ∙ is.outside;
  streams = λ goes_on. ap is_some (beside.watchers other ne) ∙ is.streams goes_on;
}

answers_bytes : (conn : ℕ) (tag : Tag) (answers : List MResponse) → bytes_of (map (answered (sender.Outside conn) tag) answers) ≡ answers_text tag answers
answers_bytes conn tag answers = flat_map-map client_bytes (answered (sender.Outside conn) tag) answers

replied_goes : (master : Master) (conn : ℕ) (dialog : Dialog) (tag : Tag) (reply : Reply) → reply.entry ≡ None → IsDialog master conn dialog
    → GoesOn conn (replied master (sender.Outside conn) tag reply).master (replied master (sender.Outside conn) tag reply).outs dialog
    (answered_with dialog tag reply.answers)
unfolding replied
replied_goes master conn dialog tag reply e is = record {
  is_dialog = record { outside = is.outside; streams = is.streams };
  given = ap (λ b. dialog.given ++ b) (sym (ap bytes_of (answers_alone master conn tag reply e) ∙ answers_bytes conn tag reply.answers));
}

-- LOGOUT, or a close, ends the dialog
pub dialog_ends : (master : Master) (conn : ℕ) (dialog : Dialog) → IsDialog master conn dialog → IsDialog (without master (sender.Outside conn)) conn (dialog_ended dialog)
unfolding without
dialog_ends master conn dialog is = record {
  outside = ap (λ found. value_at nat_cmp (ended_if master.outside conn found) conn) is.outside
      ∙ value_at-with_value nat_cmp numbers_apart master.outside conn outside.Ended (connection_of dialog.ended dialog.begun) is.outside;
  streams = λ on. cc;
}

settled_goes : (conn : ℕ) (planned : Planned) (dialog mid : Dialog) (tag : Tag) (step : StreamStep) → mid.ended ≡ false
    → GoesOn conn planned.master planned.outs dialog mid
    → GoesOn conn (settled planned (sender.Outside conn) tag step).master (settled planned (sender.Outside conn) tag step).outs dialog (dialog_after mid step)
unfolding settled streaming
settled_goes conn planned dialog mid tag stream.Stays open_yet goes = goes
settled_goes conn planned dialog mid tag stream.Begins open_yet goes = record {
  is_dialog = record {
    outside = goes.is_dialog.outside;
    streams = λ on. ap is_some (value_at-with_entry nat_cmp numbers_apart planned.master.watchers conn tag);
  };
  given = goes.given;
}
settled_goes conn planned dialog mid tag stream.Ends open_yet goes =
    goes_more conn planned.master (without planned.master (sender.Outside conn)) planned.outs (Close conn ∷ []) dialog mid (dialog_ended mid) goes
    (record { is_dialog = dialog_ends planned.master conn mid goes.is_dialog; given = sym (append-nil mid.given) })

bad_goes : (master : Master) (conn : ℕ) (dialog : Dialog) (tag : Tag) → IsDialog master conn dialog
    → GoesOn conn (bad_step master (sender.Outside conn) tag).master (bad_step master (sender.Outside conn) tag).outs dialog
    (answered_with dialog tag bad_reply.answers)
unfolding bad_step bad_reply
bad_goes master conn dialog tag is = replied_goes master conn dialog tag bad_reply refl is

command_goes : (master : Master) (conn : ℕ) (dialog : Dialog) (tag : Tag) (it : MCommand) → dialog.ended ≡ false → IsDialog master conn dialog
    → GoesOn conn (command_step master (sender.Outside conn) tag it).master (command_step master (sender.Outside conn) tag it).outs dialog
    (command_told master.table conn dialog tag it)
unfolding command_step command_told is_stream
command_goes master conn dialog tag it on is =
    subst (λ (s : Bool). GoesOn conn (by_test (is_some (value_at nat_cmp master.watchers conn) && not (may_follow_update it))).master
    (by_test (is_some (value_at nat_cmp master.watchers conn) && not (may_follow_update it))).outs dialog (told_test (s && not (may_follow_update it))))
    (is.streams on) (by_case (is_some (value_at nat_cmp master.watchers conn) && not (may_follow_update it)))
  where
    reply : Reply
    reply = reply_to master.table (sender.Outside conn) it

    by_test : Bool → Planned
    by_test b = cond b (bad_step master (sender.Outside conn) tag) (settled (replied master (sender.Outside conn) tag reply) (sender.Outside conn) tag (stream_step it))

    told_test : Bool → Dialog
    told_test b = cond b (answered_with dialog tag bad_reply.answers) (dialog_after (answered_with dialog tag reply.answers) (stream_step it))

    by_case : (b : Bool) → GoesOn conn (by_test b).master (by_test b).outs dialog (told_test b)
    by_case true = bad_goes master conn dialog tag is
    by_case false = settled_goes conn (replied master (sender.Outside conn) tag reply) dialog (answered_with dialog tag reply.answers) tag (stream_step it) on
        (replied_goes master conn dialog tag reply (no_entry master.table conn it) is)

line_goes : (master : Master) (conn : ℕ) (dialog : Dialog) (line : List ℕ) → dialog.ended ≡ false → IsDialog master conn dialog
    → GoesOn conn (line_step master (sender.Outside conn) line).master (line_step master (sender.Outside conn) line).outs dialog
    (told_by master.table conn dialog line (command_in line))
unfolding line_step line_by told_by
line_goes master conn dialog line on is = by_command (command_in line)
  where
    by_command : (it : Option (Tag × MCommand))
        → GoesOn conn (line_by master (sender.Outside conn) line it).master (line_by master (sender.Outside conn) line it).outs dialog
        (told_by master.table conn dialog line it)
    by_command None = bad_goes master conn dialog (tag_before line) is
    by_command (Some it) = command_goes master conn dialog it.0 it.1 on is

-- the master and its outputs so far are those of the dialog so far
record HasGone (table : MailboxTable) (conn : ℕ) (first : Dialog) (so_far : Stepped) (dialog : Dialog) : Type 0 where
  same_table : so_far.master.table ≡ table
  goes : GoesOn conn so_far.master so_far.outs first dialog

one_line_goes : (table : MailboxTable) (conn : ℕ) (first : Dialog) (so_far : Stepped) (dialog : Dialog) (line : List ℕ) → HasGone table conn first so_far dialog
    → HasGone table conn first (line_comes conn so_far line) (line_told table conn dialog line)
unfolding line_comes line_told
one_line_goes table conn first so_far dialog line gone =
    subst (λ (found : Option Outside). HasGone table conn first (by_test (is_open_at found)) (told_test dialog.ended)) (sym gone.goes.is_dialog.outside)
    (by_case dialog.ended refl)
  where
    next : Planned
    next = line_step so_far.master (sender.Outside conn) line

    by_test : Bool → Stepped
    by_test b = cond b (record { master = next.master; outs = so_far.outs ++ next.outs }) so_far

    told_test : Bool → Dialog
    told_test b = cond b dialog (told_by table conn dialog line (command_in line))

    by_case : (b : Bool) → dialog.ended ≡ b → HasGone table conn first (by_test (is_open_at (Some (connection_of b dialog.begun)))) (told_test b)
    by_case true e = gone
    by_case false e = record {
      same_table = (line_leaves so_far.master conn line).table ∙ gone.same_table;
      goes = goes_more conn so_far.master next.master so_far.outs next.outs first dialog (told_by table conn dialog line (command_in line)) gone.goes
          (subst (λ t. GoesOn conn next.master next.outs dialog (told_by t conn dialog line (command_in line))) gone.same_table
          (line_goes so_far.master conn dialog line e gone.goes.is_dialog));
    }

lines_go : (table : MailboxTable) (conn : ℕ) (first : Dialog) (so_far : Stepped) (dialog : Dialog) (lines : List (List ℕ)) → HasGone table conn first so_far dialog
    → HasGone table conn first (fold (line_comes conn) so_far lines) (fold (line_told table conn) dialog lines)
lines_go table conn first so_far dialog [] gone = gone
lines_go table conn first so_far dialog (line ∷ lines) gone =
    lines_go table conn first (line_comes conn so_far line) (line_told table conn dialog line) lines (one_line_goes table conn first so_far dialog line gone)

begun_goes : (master : Master) (conn : ℕ) (dialog : Dialog) (begun : List ℕ) → dialog.ended ≡ false → IsDialog master conn dialog
    → HasGone master.table conn dialog (still (with_begun master conn begun)) (record dialog { begun = begun })
begun_goes master conn dialog begun on is = record {
  same_table = refl;
  goes = record {
    is_dialog = record {
      outside = value_at-with_value nat_cmp numbers_apart master.outside conn (outside.Open (Some begun)) (connection_of dialog.ended dialog.begun) is.outside
          ∙ ap (λ ended. Some (connection_of ended begun)) (sym on);
      streams = is.streams;
    };
    given = sym (append-nil dialog.given);
  };
}

-- bytes come
pub bytes_go : (master : Master) (conn : ℕ) (dialog : Dialog) (piece : List ℕ) → IsDialog master conn dialog
    → GoesOn conn (bytes_in master conn piece).master (bytes_in master conn piece).outs dialog (bytes_told master.table conn dialog piece)
unfolding bytes_in bytes_at lines_come bytes_told
bytes_go master conn dialog piece is =
    subst (λ (found : Option Outside). GoesOn conn (bytes_at master conn piece found).master (bytes_at master conn piece found).outs dialog (told_test dialog.ended))
    (sym is.outside) (by_case dialog.ended refl)
  where
    told_test : Bool → Dialog
    told_test b = cond b dialog (cut_told master.table conn dialog (cut_from dialog.begun piece))

    by_case : (b : Bool) → dialog.ended ≡ b → (let found : Option Outside = Some (connection_of b dialog.begun) in
        GoesOn conn (bytes_at master conn piece found).master (bytes_at master conn piece found).outs dialog (told_test b))
    by_case true e = record { is_dialog = is; given = sym (append-nil dialog.given) }
    by_case false e =
        (lines_go master.table conn dialog (still (with_begun master conn (cut_from dialog.begun piece).begun))
        (record dialog { begun = (cut_from dialog.begun piece).begun }) (cut_from dialog.begun piece).lines
        (begun_goes master conn dialog (cut_from dialog.begun piece).begun e is)).goes

-- who connects is greeted: the dialog begins
pub record Begins (me : List ℕ) (conn : ℕ) (next : Master) (outs : List Out) : Type 0 where
  pub is_dialog : IsDialog next conn (greeted me)
  pub given : (greeted me).given ≡ bytes_of outs

-- no connection of this number is there, nor a stream of it
pub record IsNoDialog (master : Master) (conn : ℕ) : Type 0 where
  pub outside : outside_at master conn ≡ None
  pub watchers : value_at nat_cmp master.watchers conn ≡ None

pub no_dialog_stays : (conn other : ℕ) (master next : Master) → IsBeside conn master next → (other ≡ conn → ⊥) → IsNoDialog master other → IsNoDialog next other
no_dialog_stays conn other master next beside ne none = record {
  outside = beside.outside other ne ∙ none.outside;
  watchers = beside.watchers other ne ∙ none.watchers;
}

pub dialog_begins : (master : Master) (conn : ℕ) → IsNoDialog master conn → Begins master.me conn (connect master conn).master (connect master conn).outs
unfolding connect connect_at greeted
dialog_begins master conn none =
    subst (λ (found : Option Outside). Begins master.me conn (connect_at master conn found).master (connect_at master conn found).outs) (sym none.outside)
    (record {
      is_dialog = record {
        outside = value_at-with_entry nat_cmp numbers_apart master.outside conn (outside.Open (Some []));
        streams = λ on. ap is_some none.watchers;
      };
      given = sym (append-nil (greeting master.me));
    })
