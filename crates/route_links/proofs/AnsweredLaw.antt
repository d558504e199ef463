-- The master answers a NOOP in the step in which it takes it.
use Rattle.std.proofs.Common.{◌≡◌, ℕ, Bool, true, false, ◌&&◌, cond, nat_eq, List, [], ◌∷◌, ◌++◌, Option, Some, refl, ap, ◌∙◌}
use Rattle.std.specs.Prelude.{if◌then◌else◌}
use Rattle.std.specs.Cmp.Lexicographic.{pointwise}
use Rattle.std.specs.List.{list_any}
use Rattle.ask_routes.specs.Barrier.{noop_line}
use Rattle.feed_links.proofs.Names.{same_name}
use Rattle.feed_links.proofs.Steps.{taken}
use Rattle.feed_links.specs.Lines.{messages_to}
use Rattle.link_msg.specs.declared.counts.Counts.TheVariants.{IfAnswered}
use Rattle.link_msg.specs.declared.out.Out.TheVariants.{Link}
use Rattle.master_core.specs.declared.master.Master.{Master}
use Rattle.master_core.specs.declared.sender.Sender.{Sender}
use Rattle.master_core.specs.Changes.{change_outs}
use Rattle.master_core.specs.Linked.{let_out, sender_by, node_says}
use Rattle.master_core.specs.Outside.{Stepped}
use Rattle.master_core.specs.Replies.{reply_to, noop_reply}
use Rattle.master_core.specs.Step.{bad_step, command_step, line_by, line_step, mark_of, replied, settled}
use Rattle.master_core.specs.Streams.{is_stream}
use Rattle.mupdate_codec.specs.declared.command.MCommand.TheVariants as command
use Rattle.mupdate_codec.specs.declared.tag.Tag.{Tag}
use Rattle.mupdate_codec.specs.Asks.{ask_id_of, tag_of}
use Rattle.mupdate_codec.specs.Whole.{command_in}
use Rattle.mupdate_codec.proofs.AsksLaw.{ask_again}
use Rattle.mur_base.specs.declared.point.AskId.{AskId}
use Rattle.route_links.specs.Answered.{IsNumbered, noop_of, ok_of, NoopIsAnswered}
use Rattle.route_links.proofs.Tags.{noop_read}

no_test : (b : Bool) → (b && false) ≡ false
no_test true = refl
no_test false = refl

noop_taken : (master : Master) (from : Sender) (line : List ℕ) (tag : Tag) → command_in line ≡ Some (tag, command.Noop)
    → line_step master from line ≡ taken master from tag command.Noop
unfolding line_step line_by command_step
noop_taken master from line tag read =
    ap (line_by master from line) read
    ∙ ap (λ b. cond b (bad_step master from tag) (taken master from tag command.Noop)) (no_test (is_stream master from))

module _ (master : Master) (node : List ℕ) (ask : AskId) where
  -- what the step lets out, by the command that the tag tells
  abbrev marked : Option AskId → Stepped
  marked told = record { master = master; outs = Link node (ok_of ask) ∷ mark_of told (Some IfAnswered) }

  taken_by : (b : Bool) → let_out (taken master (sender_by b node) (tag_of ask) command.Noop) ≡ marked (ask_id_of (tag_of ask))
  unfolding settled replied reply_to noop_reply change_outs
  taken_by true = refl
  taken_by false = refl

pub noop_is_answered : NoopIsAnswered
unfolding node_says
noop_is_answered master node ask numbered =
    let b : Bool = list_any (pointwise nat_eq node) master.backends in
    ap let_out (noop_taken master (sender_by b node) (noop_line ask) (tag_of ask) (noop_read ask numbered))
    ∙ taken_by master node ask b
    ∙ ap (marked master node ask) (ask_again ask numbered.0 numbered.1)

-- so the node is sent the OK alone
pub only_ok : (master : Master) (node : List ℕ) (ask : AskId) → IsNumbered ask → messages_to node (node_says master node (noop_of ask)).outs ≡ ok_of ask ∷ []
only_ok master node ask numbered =
    ap (λ (s : Stepped). messages_to node s.outs) (noop_is_answered master node ask numbered)
    ∙ ap (λ b. (if b then ok_of ask ∷ [] else []) ++ []) (same_name node)
