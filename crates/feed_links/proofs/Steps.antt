-- The step on a line is that of a command that was read and may come, or BAD.
use Rattle.std.proofs.Common.{◌≡◌, ℕ, Bool, true, false, ◌&&◌, not, cond, List, Option, None, Some, refl}
use Rattle.master_core.specs.declared.master.Master.{Master}
use Rattle.master_core.specs.declared.sender.Sender.{Sender}
use Rattle.master_core.specs.declared.sender.Sender.TheVariants.{Backend, Frontend, Outside}
use Rattle.master_core.specs.declared.streams.StreamStep.{StreamStep}
use Rattle.master_core.specs.declared.streams.StreamStep.TheVariants as stream
use Rattle.master_core.specs.Lines.{tag_before}
use Rattle.master_core.specs.Replies.{reply_to}
use Rattle.master_core.specs.Step.{Planned, replied, settled, bad_step, command_step, line_by, line_step}
use Rattle.master_core.specs.Streams.{is_stream, may_follow_update, stream_step, streaming, without}
use Rattle.mupdate_codec.specs.declared.command.MCommand.{MCommand}
use Rattle.mupdate_codec.specs.declared.tag.Tag.{Tag}
use Rattle.mupdate_codec.specs.Whole.{command_in}
use Rattle.mupdate_codec.proofs.WholeLaw.{is_line}
use Rattle.feed_links.proofs.Arguments.{HasArguments, IsSpelledTag, line_has, line_tagged, before_spelled}

abbrev pub taken : Master → Sender → Tag → MCommand → Planned
taken master from tag it = settled (replied master from tag (reply_to master.table from it)) from tag (stream_step it)

pub data StepIs (master : Master) (from : Sender) : Planned → Type 0 where
  is_bad : (tag : Tag) → IsSpelledTag tag → StepIs master from (bad_step master from tag)
  is_taken : (tag : Tag) (it : MCommand) → IsSpelledTag tag → HasArguments it → (is_stream master from && not (may_follow_update it)) ≡ false
      → StepIs master from (taken master from tag it)

by_test : (master : Master) (from : Sender) (tag : Tag) (it : MCommand) → IsSpelledTag tag → HasArguments it → (b : Bool)
    → (is_stream master from && not (may_follow_update it)) ≡ b → StepIs master from (cond b (bad_step master from tag) (taken master from tag it))
by_test master from tag it tagged has true e = is_bad tag tagged
by_test master from tag it tagged has false e = is_taken tag it tagged has e

by_command : (master : Master) (from : Sender) (line : List ℕ) (found : Option (Tag × MCommand)) → command_in line ≡ found
    → StepIs master from (line_by master from line found)
unfolding line_by command_step
by_command master from line None read = is_bad (tag_before line) (before_spelled line)
by_command master from line (Some it) read =
    let is = is_line line it read in
    by_test master from it.0 it.1 (line_tagged line it is) (line_has line it is) (is_stream master from && not (may_follow_update it.1)) refl

pub step_is : (master : Master) (from : Sender) (line : List ℕ) → StepIs master from (line_step master from line)
unfolding line_step
step_is master from line = by_command master from line (command_in line) refl

-- whether the sender's stream stays, begins or ends, the table is that of the reply

pub settled_table : (planned : Planned) (from : Sender) (tag : Tag) (step : StreamStep) → (settled planned from tag step).master.table ≡ planned.master.table
unfolding settled streaming without
settled_table planned from tag stream.Stays = refl
settled_table planned (Backend node) tag stream.Begins = refl
settled_table planned (Frontend node) tag stream.Begins = refl
settled_table planned (Outside conn) tag stream.Begins = refl
settled_table planned (Backend node) tag stream.Ends = refl
settled_table planned (Frontend node) tag stream.Ends = refl
settled_table planned (Outside conn) tag stream.Ends = refl
