-- What a step of the master puts on the link with a node.
use Rattle.std.proofs.Common.{◌≡◌, ◌≢◌, ◌⊎◌, inr, ℕ, Bool, true, false, nat_eq, cond, List, [], ◌∷◌, ◌++◌, map, Option, None, Some, refl, sym, ap, ◌∙◌, subst, append-nil}
use Rattle.std.specs.Prelude.{if◌then◌else◌}
use Rattle.std.specs.declared.cmp.Ordering.TheVariants.{Less}
use Rattle.std.specs.List.{AllByRecursion}
use Rattle.std.specs.List.Sorted.{IsStrictlySortedBy}
use Rattle.std.specs.Map.{keys_of}
use Rattle.std.specs.Ordering.{is_eq, nat_cmp}
use Rattle.std.specs.Cmp.Lexicographic.{pointwise, slice_cmp}
use Rattle.std.proofs.lemmas.List.Concat.{flat_map-append}
use Rattle.link_msg.specs.declared.counts.Counts.{Counts}
use Rattle.link_msg.specs.declared.message.LinkMsg.{LinkMsg}
use Rattle.link_msg.specs.declared.message.LinkMsg.TheVariants.{Line}
use Rattle.link_msg.specs.declared.out.Out.TheVariants.{Link}
use Rattle.master_core.specs.declared.master.Master.{Master}
use Rattle.master_core.specs.declared.reply.Reply.{Reply}
use Rattle.master_core.specs.declared.sender.Sender.{Sender}
use Rattle.master_core.specs.declared.sender.Sender.TheVariants.{Backend, Frontend, Outside}
use Rattle.master_core.specs.declared.streams.StreamStep.{StreamStep}
use Rattle.master_core.specs.declared.streams.StreamStep.TheVariants as stream
use Rattle.master_core.specs.Changes.{text_of, node_told, watcher_told, change_line, change_outs}
use Rattle.master_core.specs.Step.{Planned, answered, mark_of, mark_outs, reply_outs, settled}
use Rattle.master_core.specs.Streams.{close_outs}
use Rattle.mupdate_codec.specs.declared.command.MResponse.{MResponse}
use Rattle.mupdate_codec.specs.declared.tag.Tag.{Tag}
use Rattle.mupdate_codec.specs.Asks.{ask_id_of}
use Rattle.mur_base.specs.declared.point.AskId.{AskId}
use Rattle.mur_base.specs.Map.{value_at, IsInOrder}
use Rattle.mur_base.proofs.MapLaws.{names_apart, same_or_other}
use Rattle.node_record.specs.declared.master.MasterRecord.{MasterRecord}
use Rattle.feed_links.specs.Lines.{message_to, messages_to, IsOf, IsOfAnother, HasStreams, stream_of}
use Rattle.feed_links.proofs.Names.{same_name, other_name, apart_below}

-- a response as a message
abbrev pub told_line : Tag → MResponse → LinkMsg
told_line tag it = Line (text_of tag it)

-- a line is of a node or isn't
pub whose : (node : List ℕ) (from : Sender) → IsOf node from ⊎ IsOfAnother node from
whose node (Backend other) = same_or_other (slice_cmp nat_cmp) names_apart other node
whose node (Frontend other) = same_or_other (slice_cmp nat_cmp) names_apart other node
whose node (Outside conn) = inr tt

to_it : (node other : List ℕ) (message : LinkMsg) → other ≡ node → message_to node (Link other message) ≡ message ∷ []
to_it node other message same =
    ap (λ b. if b then message ∷ [] else []) (ap (λ o. pointwise nat_eq o node) same ∙ same_name node)

to_another : (node other : List ℕ) (message : LinkMsg) → other ≢ node → message_to node (Link other message) ≡ []
to_another node other message ne = ap (λ b. if b then message ∷ [] else []) (other_name other node ne)

-- answers

all_to_it : (node other : List ℕ) (tag : Tag) (answers : List MResponse) → other ≡ node
    → messages_to node (map (λ it. Link other (told_line tag it)) answers) ≡ map (told_line tag) answers
all_to_it node other tag [] same = refl
all_to_it node other tag (it ∷ answers) same =
    ap (λ l. l ++ messages_to node (map (λ it. Link other (told_line tag it)) answers)) (to_it node other (told_line tag it) same)
    ∙ ap (λ l. told_line tag it ∷ l) (all_to_it node other tag answers same)

all_to_another : (node other : List ℕ) (tag : Tag) (answers : List MResponse) → other ≢ node
    → messages_to node (map (λ it. Link other (told_line tag it)) answers) ≡ []
all_to_another node other tag [] ne = refl
all_to_another node other tag (it ∷ answers) ne =
    ap (λ l. l ++ messages_to node (map (λ it. Link other (told_line tag it)) answers)) (to_another node other (told_line tag it) ne)
    ∙ all_to_another node other tag answers ne

none_to_client : (node : List ℕ) (conn : ℕ) (tag : Tag) (answers : List MResponse) → messages_to node (map (answered (Outside conn) tag) answers) ≡ []
none_to_client node conn tag [] = refl
none_to_client node conn tag (it ∷ answers) = none_to_client node conn tag answers

pub own_answers : (node : List ℕ) (from : Sender) (tag : Tag) (answers : List MResponse) → IsOf node from
    → messages_to node (map (answered from tag) answers) ≡ map (told_line tag) answers
own_answers node (Backend other) tag answers same = all_to_it node other tag answers same
own_answers node (Frontend other) tag answers same = all_to_it node other tag answers same
own_answers node (Outside conn) tag answers none = absurd none

pub no_answers : (node : List ℕ) (from : Sender) (tag : Tag) (answers : List MResponse) → IsOfAnother node from
    → messages_to node (map (answered from tag) answers) ≡ []
no_answers node (Backend other) tag answers ne = all_to_another node other tag answers ne
no_answers node (Frontend other) tag answers ne = all_to_another node other tag answers ne
no_answers node (Outside conn) tag answers ne = none_to_client node conn tag answers

-- changes

pub none_to_watchers : (node : List ℕ) (it : MResponse) (watchers : List (ℕ × Tag)) → messages_to node (map (watcher_told it) watchers) ≡ []
none_to_watchers node it [] = refl
none_to_watchers node it (watcher ∷ watchers) = none_to_watchers node it watchers

module _ (node : List ℕ) (it : MResponse) where
  abbrev AreAbove : List (List ℕ × Tag) → Type 0
  AreAbove streams = AllByRecursion (λ k. slice_cmp nat_cmp node k ≡ Less) (keys_of streams)

  none_above : (streams : List (List ℕ × Tag)) → AreAbove streams → messages_to node (map (node_told it) streams) ≡ []
  none_above [] above = refl
  none_above (e ∷ streams) above =
      ap (λ l. l ++ messages_to node (map (node_told it) streams)) (to_another node e.0 (told_line e.1 it) (apart_below node e.0 above.0))
      ∙ none_above streams above.1

  abbrev found : List (List ℕ × Tag) → Option Tag
  found streams = value_at (slice_cmp nat_cmp) streams node

  once_by : (e : List ℕ × Tag) (streams : List (List ℕ × Tag)) (tag : Tag) → IsInOrder (slice_cmp nat_cmp) (e ∷ streams)
      → (found streams ≡ Some tag → messages_to node (map (node_told it) streams) ≡ told_line tag it ∷ [])
      → (same : Bool) → is_eq (slice_cmp nat_cmp node e.0) ≡ same → found (e ∷ streams) ≡ Some tag
      → messages_to node (map (node_told it) (e ∷ streams)) ≡ told_line tag it ∷ []
  unfolding IsStrictlySortedBy
  once_by e streams tag order more true h there =
      let same : node ≡ e.0 = names_apart.exact node e.0 h in
      let has : Some e.1 ≡ Some tag = sym (ap (λ b. cond b (Some e.1) (found streams)) h) ∙ there in
      let is : e.1 ≡ tag = cc in
      ap (λ l. message_to node (Link e.0 (told_line e.1 it)) ++ l)
      (none_above streams (subst (λ n. AllByRecursion (λ k. slice_cmp nat_cmp n k ≡ Less) (keys_of streams)) (sym same) order.0))
      ∙ ap (λ l. l ++ []) (to_it node e.0 (told_line e.1 it) (sym same)) ∙ ap (λ t. told_line t it ∷ []) is
  once_by e streams tag order more false h there =
      let ne : e.0 ≢ node = λ same. (let itself : is_eq (slice_cmp nat_cmp node node) ≡ true = names_apart.itself node in
      let other : is_eq (slice_cmp nat_cmp node node) ≡ false = subst (λ n. is_eq (slice_cmp nat_cmp node n) ≡ false) same h in cc) in
      ap (λ l. l ++ messages_to node (map (node_told it) streams)) (to_another node e.0 (told_line e.1 it) ne)
      ∙ more (sym (ap (λ b. cond b (Some e.1) (found streams)) h) ∙ there)

  -- a node with a stream is told once
  told_once : (streams : List (List ℕ × Tag)) (tag : Tag) → IsInOrder (slice_cmp nat_cmp) streams → found streams ≡ Some tag
      → messages_to node (map (node_told it) streams) ≡ told_line tag it ∷ []
  unfolding IsStrictlySortedBy
  told_once [] tag order there = cc
  told_once (e ∷ streams) tag order there =
      once_by e streams tag order (λ h. told_once streams tag order.1 h) (is_eq (slice_cmp nat_cmp node e.0)) refl there

  none_by : (e : List ℕ × Tag) (streams : List (List ℕ × Tag)) → (found streams ≡ None → messages_to node (map (node_told it) streams) ≡ [])
      → (same : Bool) → is_eq (slice_cmp nat_cmp node e.0) ≡ same → found (e ∷ streams) ≡ None → messages_to node (map (node_told it) (e ∷ streams)) ≡ []
  none_by e streams more true h none = absurd (let no : Some e.1 ≡ None = sym (ap (λ b. cond b (Some e.1) (found streams)) h) ∙ none in cc)
  none_by e streams more false h none =
      let ne : e.0 ≢ node = λ same. (let itself : is_eq (slice_cmp nat_cmp node node) ≡ true = names_apart.itself node in
      let other : is_eq (slice_cmp nat_cmp node node) ≡ false = subst (λ n. is_eq (slice_cmp nat_cmp node n) ≡ false) same h in cc) in
      ap (λ l. l ++ messages_to node (map (node_told it) streams)) (to_another node e.0 (told_line e.1 it) ne)
      ∙ more (sym (ap (λ b. cond b (Some e.1) (found streams)) h) ∙ none)

  -- and one without none
  none_told : (streams : List (List ℕ × Tag)) → found streams ≡ None → messages_to node (map (node_told it) streams) ≡ []
  none_told [] none = refl
  none_told (e ∷ streams) none = none_by e streams (λ h. none_told streams h) (is_eq (slice_cmp nat_cmp node e.0)) refl none

pub change_told : (master : Master) (node : List ℕ) (tag : Tag) (change : MasterRecord) → HasStreams master → stream_of master node ≡ Some tag
    → messages_to node (change_outs master.streams master.watchers (Some change)) ≡ told_line tag (change_line change) ∷ []
unfolding change_outs
change_told master node tag change order there =
    flat_map-append (message_to node) (map (node_told (change_line change)) master.streams) (map (watcher_told (change_line change)) master.watchers)
    ∙ ap (λ l. messages_to node (map (node_told (change_line change)) master.streams) ++ l) (none_to_watchers node (change_line change) master.watchers)
    ∙ append-nil (messages_to node (map (node_told (change_line change)) master.streams))
    ∙ told_once node (change_line change) master.streams tag order there

pub change_untold : (master : Master) (node : List ℕ) (entry : Option MasterRecord) → stream_of master node ≡ None
    → messages_to node (change_outs master.streams master.watchers entry) ≡ []
unfolding change_outs
change_untold master node None none = refl
change_untold master node (Some change) none =
    flat_map-append (message_to node) (map (node_told (change_line change)) master.streams) (map (watcher_told (change_line change)) master.watchers)
    ∙ ap (λ l. messages_to node (map (node_told (change_line change)) master.streams) ++ l) (none_to_watchers node (change_line change) master.watchers)
    ∙ append-nil (messages_to node (map (node_told (change_line change)) master.streams))
    ∙ none_told node (change_line change) master.streams none

-- marks and closes are no messages

no_mark : (node : List ℕ) (ask : Option AskId) (counts : Option Counts) → messages_to node (mark_of ask counts) ≡ []
no_mark node None counts = refl
no_mark node (Some ask) None = refl
no_mark node (Some ask) (Some counts) = refl

no_marks : (node : List ℕ) (from : Sender) (tag : Tag) (counts : Option Counts) → messages_to node (mark_outs from tag counts) ≡ []
no_marks node (Backend other) tag counts = no_mark node (ask_id_of tag) counts
no_marks node (Frontend other) tag counts = no_mark node (ask_id_of tag) counts
no_marks node (Outside conn) tag counts = refl

no_close : (node : List ℕ) (from : Sender) → messages_to node (close_outs from) ≡ []
no_close node (Backend other) = refl
no_close node (Frontend other) = refl
no_close node (Outside conn) = refl

-- a reply's messages
pub reply_messages : (master : Master) (node : List ℕ) (from : Sender) (tag : Tag) (reply : Reply)
    → messages_to node (reply_outs master from tag reply)
    ≡ messages_to node (map (answered from tag) reply.answers) ++ messages_to node (change_outs master.streams master.watchers reply.entry)
reply_messages master node from tag reply =
    let answers = map (answered from tag) reply.answers in
    let changes = change_outs master.streams master.watchers reply.entry in
    flat_map-append (message_to node) answers (changes ++ mark_outs from tag reply.counts)
    ∙ ap (λ l. messages_to node answers ++ l)
    (flat_map-append (message_to node) changes (mark_outs from tag reply.counts)
    ∙ ap (λ l. messages_to node changes ++ l) (no_marks node from tag reply.counts) ∙ append-nil (messages_to node changes))

pub settled_messages : (node : List ℕ) (planned : Planned) (from : Sender) (tag : Tag) (step : StreamStep)
    → messages_to node (settled planned from tag step).outs ≡ messages_to node planned.outs
unfolding settled
settled_messages node planned from tag stream.Stays = refl
settled_messages node planned from tag stream.Begins = refl
settled_messages node planned from tag stream.Ends =
    flat_map-append (message_to node) planned.outs (close_outs from) ∙ ap (λ l. messages_to node planned.outs ++ l) (no_close node from)
    ∙ append-nil (messages_to node planned.outs)
