-- What a step of the master puts on the links.
use Rattle.std.proofs.Common.{◌≡◌, ◌≢◌, ℕ, Bool, true, false, cond, is_some, List, [], ◌∷◌, ◌++◌, map, Option, None, Some, refl, sym, ap, subst, ◌∙◌, append-nil}
use Rattle.std.specs.Ordering.{nat_cmp, is_eq}
use Rattle.std.specs.Cmp.Lexicographic.{slice_cmp}
use Rattle.std.proofs.lemmas.List.Concat.{flat_map-append}
use Rattle.mur_base.specs.Map.{value_at}
use Rattle.mur_base.proofs.MapLaws.{names_apart}
use Rattle.link_msg.specs.declared.counts.Counts.{Counts}
use Rattle.mupdate_codec.specs.declared.command.MCommand.{MCommand}
use Rattle.mupdate_codec.specs.declared.command.MCommand.TheVariants as command
use Rattle.mupdate_codec.specs.declared.command.MResponse.{MResponse}
use Rattle.mupdate_codec.specs.declared.tag.Tag.{Tag}
use Rattle.mupdate_codec.specs.Asks.{ask_id_of}
use Rattle.mur_base.specs.declared.point.AskId.{AskId}
use Rattle.node_record.specs.declared.master.MasterRecord.{MasterRecord}
use Rattle.master_core.specs.declared.master.Master.{Master}
use Rattle.master_core.specs.declared.reply.Reply.{Reply}
use Rattle.master_core.specs.declared.sender.Sender.TheVariants.{Backend}
use Rattle.master_core.specs.declared.streams.StreamStep.TheVariants as stream
use Rattle.master_core.specs.Changes.{text_of, node_told, watcher_told, change_line, change_outs}
use Rattle.mupdate_codec.specs.Whole.{command_in}
use Rattle.master_core.specs.Replies.{reply_to}
use Rattle.master_core.specs.Step.{answered, mark_of, mark_outs, reply_outs, replied, settled, command_step, line_by, line_step}
use Rattle.master_core.specs.Streams.{is_stream, stream_step}
use Rattle.home_law.specs.ManyNames.{SentLine}
use Rattle.home_law.proofs.SameName.{is_itself, is_another}
use Rattle.name_links.specs.Lines.{backend_line}
use Rattle.name_links.specs.Answers.{line_to, lines_to}

-- the sender's answers are for it alone
own_answers : (b : List ℕ) (tag : Tag) (answers : List MResponse) → lines_to b (map (answered (Backend b) tag) answers) ≡ map (text_of tag) answers
own_answers b tag [] = refl
own_answers b tag (it ∷ more) = rw (is_itself b) (ap (λ ls. text_of tag it ∷ ls) (own_answers b tag more))

no_answers : (b q : List ℕ) (tag : Tag) (answers : List MResponse) → b ≢ q → lines_to q (map (answered (Backend b) tag) answers) ≡ []
no_answers b q tag [] ne = refl
no_answers b q tag (it ∷ more) ne = rw (is_another b q ne) (no_answers b q tag more ne)

-- a change is told to streams
is_no_stream : (entry : List ℕ × Tag) (streams : List (List ℕ × Tag)) (q : List ℕ) → is_some (value_at (slice_cmp nat_cmp) (entry ∷ streams) q) ≡ false
    → (q ≢ entry.0) × (is_some (value_at (slice_cmp nat_cmp) streams q) ≡ false)
is_no_stream entry streams q e = by_test (is_eq (slice_cmp nat_cmp q entry.0)) refl e
  where
    apart : is_eq (slice_cmp nat_cmp q entry.0) ≡ false → q ≢ entry.0
    apart not_it same =
        let itself : is_eq (slice_cmp nat_cmp q q) ≡ true = names_apart.itself q in
        let other : is_eq (slice_cmp nat_cmp q q) ≡ false = subst (λ k. is_eq (slice_cmp nat_cmp q k) ≡ false) (sym same) not_it in cc

    by_test : (t : Bool) → is_eq (slice_cmp nat_cmp q entry.0) ≡ t → is_some (cond t (Some entry.1) (value_at (slice_cmp nat_cmp) streams q)) ≡ false
        → (q ≢ entry.0) × (is_some (value_at (slice_cmp nat_cmp) streams q) ≡ false)
    by_test true not_it e = cc
    by_test false not_it e = (apart not_it, e)

no_node_told : (streams : List (List ℕ × Tag)) (it : MResponse) (q : List ℕ) → is_some (value_at (slice_cmp nat_cmp) streams q) ≡ false
    → lines_to q (map (node_told it) streams) ≡ []
no_node_told [] it q none = refl
no_node_told (entry ∷ streams) it q none =
    let two = is_no_stream entry streams q none in
    rw (is_another entry.0 q (λ e. two.0 (sym e))) (no_node_told streams it q two.1)

no_watcher_told : (watchers : List (ℕ × Tag)) (it : MResponse) (q : List ℕ) → lines_to q (map (watcher_told it) watchers) ≡ []
no_watcher_told [] it q = refl
no_watcher_told (watcher ∷ watchers) it q = no_watcher_told watchers it q

no_change_told : (streams : List (List ℕ × Tag)) (watchers : List (ℕ × Tag)) (entry : Option MasterRecord) (q : List ℕ)
    → is_some (value_at (slice_cmp nat_cmp) streams q) ≡ false → lines_to q (change_outs streams watchers entry) ≡ []
unfolding change_outs
no_change_told streams watchers None q none = refl
no_change_told streams watchers (Some change) q none =
    flat_map-append (line_to q) (map (node_told (change_line change)) streams) (map (watcher_told (change_line change)) watchers)
    ∙ rw (no_node_told streams (change_line change) q none) (no_watcher_told watchers (change_line change) q)

no_marks : (ask : Option AskId) (counts : Option Counts) (q : List ℕ) → lines_to q (mark_of ask counts) ≡ []
no_marks None counts q = refl
no_marks (Some ask) None q = refl
no_marks (Some ask) (Some counts) q = refl

module _ (master : Master) (b : List ℕ) (tag : Tag) (reply : Reply) where
  reply_lines : (q : List ℕ) → is_stream master (Backend q) ≡ false
      → lines_to q (reply_outs master (Backend b) tag reply) ≡ lines_to q (map (answered (Backend b) tag) reply.answers)
  unfolding is_stream
  reply_lines q none =
      flat_map-append (line_to q) (map (answered (Backend b) tag) reply.answers) _
      ∙ ap (λ ls. lines_to q (map (answered (Backend b) tag) reply.answers) ++ ls)
      (flat_map-append (line_to q) (change_outs master.streams master.watchers reply.entry) (mark_outs (Backend b) tag reply.counts)
      ∙ rw (no_change_told master.streams master.watchers reply.entry q none) (no_marks (ask_id_of tag) reply.counts q))
      ∙ append-nil (lines_to q (map (answered (Backend b) tag) reply.answers))

-- a line of a backend begins and ends no stream
none_some : {A : Type 0} {B : Type 0} {x : B} → (let o : Option B = None in o ≡ Some x) → A
none_some e = cc

module _ (master : Master) (b : List ℕ) (tag : Tag) where
  stays : (it : MCommand) (line : SentLine) → backend_line b tag it ≡ Some line → stream_step it ≡ stream.Stays
  unfolding backend_line
  stays (command.Reserve m place) line e = refl
  stays (command.Activate m place acl) line e = refl
  stays (command.Deactivate m place) line e = refl
  stays (command.Delete m) line e = refl
  stays (command.Find m) line e = refl
  stays (command.List prefix) line e = refl
  stays command.Update line e = none_some e
  stays command.Noop line e = refl
  stays command.Logout line e = none_some e

  -- the step of a backend's line is the reply to its command
  command_is : (it : MCommand) (line : SentLine) → backend_line b tag it ≡ Some line → is_stream master (Backend b) ≡ false
      → command_step master (Backend b) tag it ≡ replied master (Backend b) tag (reply_to master.table (Backend b) it)
  unfolding command_step settled
  command_is it line e none = rw (none, stays it line e) refl

pub line_is_reply : (master : Master) (b bytes : List ℕ) (tag : Tag) (it : MCommand) (line : SentLine) → command_in bytes ≡ Some (tag, it)
    → backend_line b tag it ≡ Some line → is_stream master (Backend b) ≡ false
    → line_step master (Backend b) bytes ≡ replied master (Backend b) tag (reply_to master.table (Backend b) it)
unfolding line_step line_by
line_is_reply master b bytes tag it line read e none = rw read (command_is master b tag it line e none)

-- the lines for the backend that sent it, and for another
pub lines_to_sender : (master : Master) (b : List ℕ) (tag : Tag) (reply : Reply) → is_stream master (Backend b) ≡ false
    → lines_to b (replied master (Backend b) tag reply).outs ≡ map (text_of tag) reply.answers
unfolding replied
lines_to_sender master b tag reply none = reply_lines master b tag reply b none ∙ own_answers b tag reply.answers

pub lines_to_other : (master : Master) (b q : List ℕ) (tag : Tag) (reply : Reply) → b ≢ q → is_stream master (Backend q) ≡ false
    → lines_to q (replied master (Backend b) tag reply).outs ≡ []
unfolding replied
lines_to_other master b q tag reply ne none = reply_lines master b tag reply q none ∙ no_answers b q tag reply.answers ne
