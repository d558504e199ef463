-- What a client from outside does at the master makes it a watcher, or makes it none; all others who watch are those who did.
use Rattle.std.proofs.Common.{ℕ, ◌&&◌, not, Bool, true, false, cond, List, [], ◌∷◌, ◌++◌, Option, None, Some}
use Rattle.std.specs.declared.cmp.Ordering.{Ordering}
use Rattle.std.specs.declared.cmp.Ordering.TheVariants.{Less, Equal, Greater}
use Rattle.std.specs.List.{fold}
use Rattle.std.specs.Ordering.{nat_cmp, is_eq, match_ordering}
use Rattle.std.proofs.lemmas.List.Elements.{All-cons, All-head, All-nil, All-tail}
use Rattle.master_core.specs.declared.master.Master.{Master}
use Rattle.master_core.specs.declared.outside.Outside.{Outside}
use Rattle.master_core.specs.declared.outside.Outside.TheVariants as outside
use Rattle.master_core.specs.declared.reply.Reply.{Reply}
use Rattle.master_core.specs.declared.sender.Sender.TheVariants as sender
use Rattle.master_core.specs.declared.streams.StreamStep.{StreamStep}
use Rattle.master_core.specs.declared.streams.StreamStep.TheVariants as stream
use Rattle.master_core.specs.Cutting.{cut_from}
use Rattle.master_core.specs.Lines.{tag_before}
use Rattle.master_core.specs.Outside.{Stepped, bytes_at, bytes_in, connect, connect_at, is_open, line_comes, lines_come, outside_at, still, with_begun}
use Rattle.master_core.specs.Replies.{bad_reply, reply_to}
use Rattle.master_core.specs.Step.{Planned, bad_step, command_step, line_by, line_step, replied, settled}
use Rattle.master_core.specs.Streams.{is_stream, may_follow_update, stream_step, streaming, without}
use Rattle.mupdate_codec.specs.declared.command.MCommand.{MCommand}
use Rattle.mupdate_codec.specs.declared.tag.Tag.{Tag}
use Rattle.mupdate_codec.specs.Whole.{command_in}
use Rattle.mur_base.specs.Map.{with_entry, without_key}
use Rattle.cluster_core.proofs.Points.Outside.{AreThey}

abbrev Watchers : Type 0
Watchers = List (ℕ × Tag)

module _ (P : ℕ → Type 0) where
  abbrev They : Watchers → Type 0
  They watchers = AreThey P watchers

  none : They []
  none = All-nil (λ (w : ℕ × Tag). P w.0)

  more : (w : ℕ × Tag) (ws : Watchers) → P w.0 → They ws → They (w ∷ ws)
  more w ws one all = All-cons (λ (x : ℕ × Tag). P x.0) w ws one all

  first : (w : ℕ × Tag) (ws : Watchers) → They (w ∷ ws) → P w.0
  first w ws all = All-head (λ (x : ℕ × Tag). P x.0) w ws all

  rest : (w : ℕ × Tag) (ws : Watchers) → They (w ∷ ws) → They ws
  rest w ws all = All-tail (λ (x : ℕ × Tag). P x.0) w ws all

  gone_by : (w : ℕ × Tag) (ws left : Watchers) (same : Bool) → They (w ∷ ws) → They left → They (cond same ws (w ∷ left))
  gone_by w ws left true all all_left = rest w ws all
  gone_by w ws left false all all_left = more w left (first w ws all) all_left

  pub gone_from : (conn : ℕ) (ws : Watchers) → They ws → They (without_key nat_cmp ws conn)
  gone_from conn [] all = none
  gone_from conn (w ∷ ws) all = gone_by w ws (without_key nat_cmp ws conn) (is_eq (nat_cmp conn w.0)) all (gone_from conn ws (rest w ws all))

  module _ (conn : ℕ) (its : P conn) where
    put_by : (w : ℕ × Tag) (ws later : Watchers) (tag : Tag) → They (w ∷ ws) → They later → (o : Ordering)
        → They (match_ordering o ((conn, tag) ∷ w ∷ ws) ((w.0, tag) ∷ ws) (w ∷ later))
    put_by w ws later tag all put Less = more (conn, tag) (w ∷ ws) its all
    put_by w ws later tag all put Equal = more (w.0, tag) ws (first w ws all) (rest w ws all)
    put_by w ws later tag all put Greater = more w later (first w ws all) put

    put_in : (tag : Tag) (ws : Watchers) → They ws → They (with_entry nat_cmp ws conn tag)
    put_in tag [] all = more (conn, tag) [] its none
    put_in tag (w ∷ ws) all = put_by w ws (with_entry nat_cmp ws conn tag) tag all (put_in tag ws (rest w ws all)) (nat_cmp conn w.0)

    replied_watch : (master : Master) (tag : Tag) (reply : Reply) → They master.watchers → They (replied master (sender.Outside conn) tag reply).master.watchers
    unfolding replied
    replied_watch master tag reply all = all

    settled_watch : (planned : Planned) (tag : Tag) (step : StreamStep) → They planned.master.watchers
        → They (settled planned (sender.Outside conn) tag step).master.watchers
    unfolding settled streaming without
    settled_watch planned tag stream.Stays all = all
    settled_watch planned tag stream.Begins all = put_in tag planned.master.watchers all
    settled_watch planned tag stream.Ends all = gone_from conn planned.master.watchers all

    command_watch : (master : Master) (tag : Tag) (it : MCommand) → They master.watchers → They (command_step master (sender.Outside conn) tag it).master.watchers
    unfolding command_step bad_step
    command_watch master tag it all = by (is_stream master (sender.Outside conn) && not (may_follow_update it))
      where
        reply : Reply
        reply = reply_to master.table (sender.Outside conn) it

        by : (bad : Bool)
            → (let planned : Planned = cond bad (replied master (sender.Outside conn) tag bad_reply) (settled (replied master (sender.Outside conn) tag reply) (sender.Outside conn) tag (stream_step it)) in
            They planned.master.watchers)
        by true = replied_watch master tag bad_reply all
        by false = settled_watch (replied master (sender.Outside conn) tag reply) tag (stream_step it) (replied_watch master tag reply all)

    line_watch : (master : Master) (line : List ℕ) (meant : Option (Tag × MCommand)) → They master.watchers
        → They (line_by master (sender.Outside conn) line meant).master.watchers
    unfolding line_by bad_step
    line_watch master line None all = replied_watch master (tag_before line) bad_reply all
    line_watch master line (Some it) all = command_watch master it.0 it.1 all

    one_line_watch : (so_far : Stepped) (line : List ℕ) → They so_far.master.watchers → They (line_comes conn so_far line).master.watchers
    unfolding line_comes line_step
    one_line_watch so_far line all = by (is_open so_far.master conn)
      where
        next : Planned
        next = line_by so_far.master (sender.Outside conn) line (command_in line)

        by : (opened : Bool) → (let after : Stepped = cond opened (record { master = next.master; outs = so_far.outs ++ next.outs }) so_far in They after.master.watchers)
        by true = line_watch so_far.master line (command_in line) all
        by false = all

    lines_watch : (so_far : Stepped) (lines : List (List ℕ)) → They so_far.master.watchers → They (fold (line_comes conn) so_far lines).master.watchers
    lines_watch so_far [] all = all
    lines_watch so_far (line ∷ lines) all = lines_watch (line_comes conn so_far line) lines (one_line_watch so_far line all)

    -- its bytes come
    pub bytes_watch : (master : Master) (piece : List ℕ) → They master.watchers → They (bytes_in master conn piece).master.watchers
    unfolding bytes_in bytes_at lines_come
    bytes_watch master piece all = by (outside_at master conn)
      where
        by : (it : Option Outside) → They (bytes_at master conn piece it).master.watchers
        by None = all
        by (Some outside.Ended) = all
        by (Some (outside.Open None)) = all
        by (Some (outside.Open (Some begun))) = lines_watch (still (with_begun master conn (cut_from begun piece).begun)) (cut_from begun piece).lines all

    -- it connects
    pub connects_watch : (master : Master) → They master.watchers → They (connect master conn).master.watchers
    unfolding connect connect_at
    connects_watch master all = by (outside_at master conn)
      where
        by : (it : Option Outside) → They (connect_at master conn it).master.watchers
        by None = all
        by (Some there) = all

    -- it leaves
    pub leaves_watch : (master : Master) → They master.watchers → They (without master (sender.Outside conn)).watchers
    unfolding without
    leaves_watch master all = gone_from conn master.watchers all
