-- What a node that is no backend sends the master leaves its table.
use Rattle.std.proofs.Common.{◌≡◌, ℕ, Bool, false, nat_eq, List, Option, None, Some, refl, sym, ap, subst, ◌∙◌}
use Rattle.std.specs.List.{list_any}
use Rattle.std.specs.Cmp.Lexicographic.{pointwise}
use Rattle.link_msg.specs.declared.message.LinkMsg.{LinkMsg}
use Rattle.link_msg.specs.declared.message.LinkMsg.TheVariants.{Up, End, Line, Ask, Answer}
use Rattle.master_core.specs.declared.master.Master.{Master}
use Rattle.master_core.specs.declared.sender.Sender.TheVariants.{Backend, Frontend}
use Rattle.master_core.specs.declared.streams.StreamStep.{StreamStep}
use Rattle.master_core.specs.declared.streams.StreamStep.TheVariants as stream
use Rattle.master_core.specs.Linked.{sender_by, node_says}
use Rattle.master_core.specs.Replies.{reply_to, bad_reply}
use Rattle.master_core.specs.Step.{Planned, table_with, replied, settled, bad_step, line_step}
use Rattle.master_core.specs.Streams.{stream_step, without}
use Rattle.master_core.proofs.ServersLaw.{by_line}
use Rattle.mupdate_codec.specs.declared.tag.Tag.{Tag}
use Rattle.node_record.specs.declared.master.MasterRecord.{MasterRecord}
use Rattle.feed_links.proofs.Steps.{StepIs, is_bad, is_taken, settled_table, step_is}

-- it writes no entry
pub none_written : (master : Master) (front line : List ℕ) (made : Option MasterRecord) → (line_step master (Frontend front) line).entry ≡ made → made ≡ None
none_written master front line None e = refl
none_written master front line (Some it) e =
    let by = by_line master (Frontend front) it line e in
    let no : Frontend front ≡ Backend by.node = by.is in cc

pub settled_entry : (planned : Planned) (front : List ℕ) (tag : Tag) (step : StreamStep) → (settled planned (Frontend front) tag step).entry ≡ planned.entry
unfolding settled
settled_entry planned front tag stream.Stays = refl
settled_entry planned front tag stream.Begins = refl
settled_entry planned front tag stream.Ends = refl

step_table : (master : Master) (front : List ℕ) (next : Planned) → StepIs master (Frontend front) next → next.entry ≡ None → next.master.table ≡ master.table
unfolding bad_step bad_reply replied
step_table master front _ (is_bad tag tagged) none = refl
step_table master front _ (is_taken tag it tagged has may) none =
    let planned : Planned = replied master (Frontend front) tag (reply_to master.table (Frontend front) it) in
    settled_table planned (Frontend front) tag (stream_step it)
    ∙ ap (λ (made : Option MasterRecord). table_with master.table made) (sym (settled_entry planned front tag (stream_step it)) ∙ none)

line_table : (master : Master) (front line : List ℕ) → (line_step master (Frontend front) line).master.table ≡ master.table
line_table master front line =
    step_table master front (line_step master (Frontend front) line) (step_is master (Frontend front) line)
    (none_written master front line (line_step master (Frontend front) line).entry refl)

ended_table : (master : Master) (front : List ℕ) → (without master (Frontend front)).table ≡ master.table
unfolding without
ended_table master front = refl

pub front_table : (master : Master) (front : List ℕ) (message : LinkMsg) → list_any (pointwise nat_eq front) master.backends ≡ false
    → (node_says master front message).master.table ≡ master.table
unfolding node_says
front_table master front (Line bytes) none =
    subst (λ (b : Bool). (line_step master (sender_by b front) bytes).master.table ≡ master.table) (sym none) (line_table master front bytes)
front_table master front End none = subst (λ (b : Bool). (without master (sender_by b front)).table ≡ master.table) (sym none) (ended_table master front)
front_table master front Up none = refl
front_table master front (Ask ask) none = refl
front_table master front (Answer answer) none = refl
