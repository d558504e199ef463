-- No message changes which nodes are backends.
use Rattle.std.proofs.Common.{◌≡◌, ℕ, Bool, true, false, nat_eq, List, refl}
use Rattle.std.specs.List.{list_any}
use Rattle.std.specs.Cmp.Lexicographic.{pointwise}
use Rattle.link_msg.specs.declared.message.LinkMsg.{LinkMsg}
use Rattle.link_msg.specs.declared.message.LinkMsg.TheVariants.{Up, End, Line, Ask, Answer}
use Rattle.master_core.specs.declared.master.Master.{Master}
use Rattle.master_core.specs.declared.sender.Sender.{Sender}
use Rattle.master_core.specs.declared.sender.Sender.TheVariants.{Backend, Frontend, Outside}
use Rattle.master_core.specs.declared.streams.StreamStep.{StreamStep}
use Rattle.master_core.specs.declared.streams.StreamStep.TheVariants as stream
use Rattle.master_core.specs.Linked.{sender_by, sender_of, node_says}
use Rattle.master_core.specs.Replies.{reply_to}
use Rattle.master_core.specs.Step.{Planned, replied, settled, bad_step}
use Rattle.master_core.specs.Streams.{stream_step, streaming, without}
use Rattle.mupdate_codec.specs.declared.tag.Tag.{Tag}
use Rattle.feed_links.proofs.Steps.{StepIs, is_bad, is_taken, step_is}

settled_backends : (planned : Planned) (from : Sender) (tag : Tag) (step : StreamStep) → (settled planned from tag step).master.backends ≡ planned.master.backends
unfolding settled streaming without
settled_backends planned from tag stream.Stays = refl
settled_backends planned (Backend node) tag stream.Begins = refl
settled_backends planned (Frontend node) tag stream.Begins = refl
settled_backends planned (Outside conn) tag stream.Begins = refl
settled_backends planned (Backend node) tag stream.Ends = refl
settled_backends planned (Frontend node) tag stream.Ends = refl
settled_backends planned (Outside conn) tag stream.Ends = refl

step_backends : (master : Master) (from : Sender) (next : Planned) → StepIs master from next → next.master.backends ≡ master.backends
unfolding bad_step replied
step_backends master from next (is_bad tag tagged) = refl
step_backends master from next (is_taken tag it tagged has may) =
    settled_backends (replied master from tag (reply_to master.table from it)) from tag (stream_step it)

ended_backends : (master : Master) (other : List ℕ) (b : Bool) → (without master (sender_by b other)).backends ≡ master.backends
unfolding without
ended_backends master other true = refl
ended_backends master other false = refl

pub says_backends : (master : Master) (other : List ℕ) (message : LinkMsg) → (node_says master other message).master.backends ≡ master.backends
unfolding node_says
says_backends master other (Line bytes) = step_backends master (sender_of master other) _ (step_is master (sender_of master other) bytes)
says_backends master other End = ended_backends master other (list_any (pointwise nat_eq other) master.backends)
says_backends master other Up = refl
says_backends master other (Ask ask) = refl
says_backends master other (Answer answer) = refl
