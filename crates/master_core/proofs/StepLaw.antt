-- One step of the master, put together of its parts.
use Rattle.std.proofs.Common.{◌≡◌, ℕ, true, false, ◌&&◌, not, List, Option, refl, sym, ap, ◌∙◌, append_assoc}
use Rattle.link_msg.specs.declared.out.Out.{Out}
use Rattle.mupdate_codec.specs.declared.command.MCommand.{MCommand}
use Rattle.mupdate_codec.specs.declared.tag.Tag.{Tag}
use Rattle.master_core.specs.declared.master.Master.{Master}
use Rattle.node_record.specs.declared.master.MasterRecord.{MasterRecord}
use Rattle.master_core.specs.declared.reply.Reply.{Reply}
use Rattle.master_core.specs.declared.sender.Sender.{Sender}
use Rattle.master_core.specs.declared.streams.StreamStep.{StreamStep}
use Rattle.master_core.specs.declared.streams.StreamStep.TheVariants as stream
use Rattle.master_core.specs.Outside.{Stepped, is_open, line_comes}
use Rattle.master_core.specs.declared.sender.Sender.TheVariants as sender
use Rattle.master_core.specs.Replies.{reply_to}
use Rattle.master_core.specs.Step.{Planned, replied, settled, bad_step, command_step, line_step, after}
use Rattle.master_core.specs.Streams.{is_stream, may_follow_update, stream_step, close_outs}

-- the sender's stream changes alike, whatever went out before
pub settled_after : (outs : List Out) (planned : Planned) (from : Sender) (tag : Tag) (step : StreamStep)
    → settled (after outs planned) from tag step ≡ after outs (settled planned from tag step)
unfolding settled
settled_after outs planned from tag stream.Stays = refl
settled_after outs planned from tag stream.Begins = refl
settled_after outs planned from tag stream.Ends =
    ap (λ (o : List Out). record (settled planned from tag stream.Ends) { outs = o }) (append_assoc outs planned.outs (close_outs from))

-- a command that may not come
pub step_bad : (master : Master) (from : Sender) (tag : Tag) (it : MCommand) → is_stream master from ≡ true → may_follow_update it ≡ false
    → command_step master from tag it ≡ bad_step master from tag
unfolding command_step
step_bad master from tag it s m = rw (s, m) refl

-- one that may
pub step_taken : (master : Master) (from : Sender) (tag : Tag) (it : MCommand) → (is_stream master from && not (may_follow_update it)) ≡ false
    → command_step master from tag it ≡ settled (replied master from tag (reply_to master.table from it)) from tag (stream_step it)
unfolding command_step
step_taken master from tag it h = rw h refl

-- the parts of a step
pub command_done : (master : Master) (from : Sender) (tag : Tag) (it : MCommand) (outs : List Out) (reply : Reply) (step : StreamStep) (mid now : Planned)
    → (is_stream master from && not (may_follow_update it)) ≡ false → reply ≡ reply_to master.table from it → step ≡ stream_step it
    → mid ≡ after outs (replied master from tag reply) → now ≡ settled mid from tag step → now ≡ after outs (command_step master from tag it)
command_done master from tag it outs reply step mid now may reply_is step_is mid_is now_is =
    now_is ∙ ap (λ (p : Planned). settled p from tag step) mid_is ∙ settled_after outs (replied master from tag reply) from tag step
    ∙ ap (after outs)
    (ap (λ (r : Reply). settled (replied master from tag r) from tag step) reply_is
    ∙ ap (λ (s : StreamStep). settled (replied master from tag (reply_to master.table from it)) from tag s) step_is
    ∙ sym (step_taken master from tag it may))

abbrev pub planned_of : Master → Option MasterRecord → List Out → Planned
planned_of master entry outs = record { master = master; entry = entry; outs = outs }

-- a line of a connection that is open, and of one that isn't

abbrev stepped : Planned → Stepped
stepped planned = record { master = planned.master; outs = planned.outs }

pub line_taken : (conn : ℕ) (so_far : Stepped) (line : List ℕ) (now : Planned) → is_open so_far.master conn ≡ true
    → now ≡ after so_far.outs (line_step so_far.master (sender.Outside conn) line) → stepped now ≡ line_comes conn so_far line
unfolding line_comes
line_taken conn so_far line now there e = ap stepped e ∙ rw there refl

pub line_dropped : (conn : ℕ) (so_far : Stepped) (line : List ℕ) → is_open so_far.master conn ≡ false → so_far ≡ line_comes conn so_far line
unfolding line_comes
line_dropped conn so_far line closed = rw closed refl
