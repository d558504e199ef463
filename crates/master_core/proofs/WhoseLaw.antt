-- Whose the lines are that the master sends nodes in one step: those of the client's command whose line it takes, or nobody's.
use Rattle.std.proofs.Common.{◌≡◌, ◌⊎◌, inl, inr, ℕ, ◌+◌, ◌-◌, suc, nat_eq, Bool, true, false, cond, List, [], ◌∷◌, take, map, Option, None, Some, refl, sym, ap, ◌∙◌, arith}
use Rattle.std.specs.Prelude.{All, position, ◌&&◌, not}
use Rattle.std.specs.List.{position_from}
use Rattle.std.specs.Ordering.{match_ordering, nat_cmp}
use Rattle.std.specs.declared.cmp.Ordering.{Ordering}
use Rattle.std.specs.declared.cmp.Ordering.TheVariants.{Less, Equal, Greater}
use Rattle.std.specs.BTreeMap.{is_at, insert_entry}
use Rattle.std.specs.Map.{remove_entry}
use Rattle.std.specs.Cmp.Lexicographic.{slice_cmp}
use Rattle.std.proofs.lemmas.Iterator.Adapters.{position_from-zero}
use Rattle.std.proofs.lemmas.List.Elements.{All-append, All-cons, All-head, All-nil, All-tail}
use Rattle.link_msg.specs.declared.counts.Counts.{Counts}
use Rattle.link_msg.specs.declared.message.LinkMsg.{LinkMsg}
use Rattle.link_msg.specs.declared.message.LinkMsg.TheVariants.{Up, End, Line, Ask, Answer}
use Rattle.link_msg.specs.declared.out.Out.TheVariants.{Close, Mark}
use Rattle.mur_base.specs.declared.point.AskId.{AskId}
use Rattle.mupdate_codec.specs.declared.command.MCommand.{MCommand}
use Rattle.mupdate_codec.specs.declared.command.MResponse.{MResponse}
use Rattle.mupdate_codec.specs.declared.tag.Tag.{Tag}
use Rattle.mupdate_codec.specs.declared.tag.Tag.TheVariants.{Star, Text}
use Rattle.mupdate_codec.specs.Asks.{ask_id_of, first_word, line_ask, split_dash}
use Rattle.mupdate_codec.specs.Tags.{mupdate_tag_text}
use Rattle.mupdate_codec.specs.Whole.{command_in}
use Rattle.mupdate_codec.proofs.LineAsks.{command_again, response_under, word_again}
use Rattle.mupdate_codec.proofs.WholeLaw.{is_line}
use Rattle.node_record.specs.declared.master.MasterRecord.{MasterRecord}
use Rattle.master_core.specs.declared.master.Master.{Master}
use Rattle.master_core.specs.declared.reply.Reply.{Reply}
use Rattle.master_core.specs.declared.sender.Sender.{Sender}
use Rattle.master_core.specs.declared.sender.Sender.TheVariants.{Backend, Frontend, Outside}
use Rattle.master_core.specs.declared.streams.StreamStep.{StreamStep}
use Rattle.master_core.specs.declared.streams.StreamStep.TheVariants as stream
use Rattle.master_core.specs.Changes.{change_line, change_outs, node_told, text_of, watcher_told}
use Rattle.master_core.specs.Lines.{is_tag, tag_before, tag_to}
use Rattle.master_core.specs.Linked.{node_says, sender_of}
use Rattle.master_core.specs.Replies.{bad_reply, reply_to}
use Rattle.master_core.specs.Step.{Planned, answered, bad_step, command_step, line_by, line_step, mark_of, mark_outs, replied, settled}
use Rattle.master_core.specs.Whose.{IsNobodys, IsOf, TellNobody, message_ask}
use Rattle.master_core.specs.Streams.{close_outs, is_stream, may_follow_update, stream_step, streaming, without}

-- lines under the tag are this command's, or nobody's
abbrev IsUnder : Option AskId → Tag → Type 0
IsUnder ask tag = (line_ask (mupdate_tag_text tag) ≡ ask) ⊎ IsNobodys tag

-- what a reply lets out

line_of : (ask : Option AskId) (tag : Tag) (it : MResponse) → IsUnder ask tag → (line_ask (text_of tag it) ≡ ask) ⊎ (line_ask (text_of tag it) ≡ None)
line_of ask tag it (inl is) = inl (response_under tag it ∙ is)
line_of ask tag it (inr none) = inr (response_under tag it ∙ none)

answer_of : (ask : Option AskId) (from : Sender) (tag : Tag) (it : MResponse) → IsUnder ask tag → IsOf ask (answered from tag it)
answer_of ask (Backend node) tag it under = line_of ask tag it under
answer_of ask (Frontend node) tag it under = line_of ask tag it under
answer_of ask (Outside conn) tag it under = tt

answers_of : (ask : Option AskId) (from : Sender) (tag : Tag) (answers : List MResponse) → IsUnder ask tag → All (IsOf ask) (map (answered from tag) answers)
answers_of ask from tag [] under = All-nil (IsOf ask)
answers_of ask from tag (it ∷ more) under =
    All-cons (IsOf ask) (answered from tag it) (map (answered from tag) more) (answer_of ask from tag it under) (answers_of ask from tag more under)

streams_of : (ask : Option AskId) (streams : List (List ℕ × Tag)) (line : MResponse) → TellNobody streams → All (IsOf ask) (map (node_told line) streams)
streams_of ask [] line none = All-nil (IsOf ask)
streams_of ask (s ∷ streams) line none =
    All-cons (IsOf ask) (node_told line s) (map (node_told line) streams)
    (inr (response_under s.1 line ∙ All-head (λ (x : List ℕ × Tag). IsNobodys x.1) s streams none))
    (streams_of ask streams line (All-tail (λ (x : List ℕ × Tag). IsNobodys x.1) s streams none))

watchers_of : (ask : Option AskId) (watchers : List (ℕ × Tag)) (line : MResponse) → All (IsOf ask) (map (watcher_told line) watchers)
watchers_of ask [] line = All-nil (IsOf ask)
watchers_of ask (w ∷ watchers) line =
    All-cons (IsOf ask) (watcher_told line w) (map (watcher_told line) watchers) tt (watchers_of ask watchers line)

changes_of : (ask : Option AskId) (streams : List (List ℕ × Tag)) (watchers : List (ℕ × Tag)) (change : Option MasterRecord) → TellNobody streams
    → All (IsOf ask) (change_outs streams watchers change)
unfolding change_outs
changes_of ask streams watchers None none = All-nil (IsOf ask)
changes_of ask streams watchers (Some change) none =
    All-append (IsOf ask) (map (node_told (change_line change)) streams) (map (watcher_told (change_line change)) watchers)
    (streams_of ask streams (change_line change) none) (watchers_of ask watchers (change_line change))

mark_by : (ask : Option AskId) (id : Option AskId) (counts : Option Counts) → All (IsOf ask) (mark_of id counts)
mark_by ask None counts = All-nil (IsOf ask)
mark_by ask (Some id) None = All-nil (IsOf ask)
mark_by ask (Some id) (Some counts) = All-cons (IsOf ask) (Mark id counts) [] tt (All-nil (IsOf ask))

marks_of : (ask : Option AskId) (from : Sender) (tag : Tag) (counts : Option Counts) → All (IsOf ask) (mark_outs from tag counts)
marks_of ask (Backend node) tag counts = mark_by ask (ask_id_of tag) counts
marks_of ask (Frontend node) tag counts = mark_by ask (ask_id_of tag) counts
marks_of ask (Outside conn) tag counts = All-nil (IsOf ask)

closed_of : (ask : Option AskId) (from : Sender) → All (IsOf ask) (close_outs from)
closed_of ask (Backend node) = All-nil (IsOf ask)
closed_of ask (Frontend node) = All-nil (IsOf ask)
closed_of ask (Outside conn) = All-cons (IsOf ask) (Close conn) [] tt (All-nil (IsOf ask))

-- the steps

replied_of : (ask : Option AskId) (master : Master) (from : Sender) (tag : Tag) (reply : Reply) → TellNobody master.streams → IsUnder ask tag
    → All (IsOf ask) (replied master from tag reply).outs
unfolding replied
replied_of ask master from tag reply none under =
    All-append (IsOf ask) (map (answered from tag) reply.answers) _ (answers_of ask from tag reply.answers under)
    (All-append (IsOf ask) (change_outs master.streams master.watchers reply.entry) (mark_outs from tag reply.counts)
    (changes_of ask master.streams master.watchers reply.entry none) (marks_of ask from tag reply.counts))

settled_of : (ask : Option AskId) (planned : Planned) (from : Sender) (tag : Tag) (step : StreamStep) → All (IsOf ask) planned.outs
    → All (IsOf ask) (settled planned from tag step).outs
unfolding settled
settled_of ask planned from tag stream.Stays are = are
settled_of ask planned from tag stream.Begins are = are
settled_of ask planned from tag stream.Ends are = All-append (IsOf ask) planned.outs (close_outs from) are (closed_of ask from)

command_of : (ask : Option AskId) (master : Master) (from : Sender) (tag : Tag) (it : MCommand) → TellNobody master.streams → IsUnder ask tag
    → All (IsOf ask) (command_step master from tag it).outs
unfolding command_step bad_step
command_of ask master from tag it none under = by (is_stream master from && not (may_follow_update it))
  where
    by : (bad : Bool) → All (IsOf ask) (cond bad (replied master from tag bad_reply) (settled (replied master from tag (reply_to master.table from it)) from tag (stream_step it))).outs
    by true = replied_of ask master from tag bad_reply none under
    by false =
        settled_of ask (replied master from tag (reply_to master.table from it)) from tag (stream_step it)
        (replied_of ask master from tag (reply_to master.table from it) none under)

-- the tag under which bytes are answered that are no command: their first word, or `*`

star_none : IsNobodys Star
unfolding line_ask mupdate_tag_text first_word ask_id_of split_dash
star_none = refl

-- what stands before the first space
record IsBefore (bytes : List ℕ) (i at : ℕ) : Type 0 where
  count : ℕ
  is : at ≡ i + count
  word : take count bytes ≡ first_word bytes

some_at : {one other : ℕ} → Some one ≡ Some other → one ≡ other
some_at e = cc

before_from : (bytes : List ℕ) (i at : ℕ) → position_from (λ b. nat_eq b 32) i bytes ≡ Some at → IsBefore bytes i at
unfolding first_word
before_from [] i at e = cc
before_from (b ∷ bytes) i at e =
    let is = by_test (nat_eq b 32) e (before_from bytes (i + 1) at) in record { count = is.0; is = is.1; word = is.2 }
  where
    by_test : (here : Bool) → cond here (Some i) (position_from (λ c. nat_eq c 32) (i + 1) bytes) ≡ Some at
        → (position_from (λ c. nat_eq c 32) (i + 1) bytes ≡ Some at → IsBefore bytes (i + 1) at)
        → (count : ℕ) × (at ≡ i + count) × (take count (b ∷ bytes) ≡ cond here [] (b ∷ first_word bytes))
    by_test true f again = (0, omega (arith, some_at f), refl)
    by_test false f again = let rest = again f in (suc rest.count, omega (arith, rest.is), ap (λ w. b ∷ w) rest.word)

word_at : (bytes : List ℕ) (at : ℕ) → position (λ b. nat_eq b 32) bytes ≡ Some at → take at bytes ≡ first_word bytes
word_at bytes at e =
    let before = before_from bytes 0 at (sym (position_from-zero (λ b. nat_eq b 32) bytes) ∙ e) in
    ap (λ n. take n bytes) (omega (arith, before.is)) ∙ before.word

tag_under : (line word : List ℕ) (fits : Bool) → word ≡ first_word line → IsUnder (line_ask line) (cond fits (Text word) Star)
unfolding mupdate_tag_text line_ask
tag_under line word true is =
    inl (ap (λ w. ask_id_of (Text (first_word w))) is ∙ ap (λ w. ask_id_of (Text w)) (word_again line))
tag_under line word false is = inr star_none

before_under : (line : List ℕ) → IsUnder (line_ask line) (tag_before line)
unfolding tag_before
before_under line = by (position (λ b. nat_eq b 32) line) refl
  where
    by : (found : Option ℕ) → position (λ b. nat_eq b 32) line ≡ found → IsUnder (line_ask line) (tag_to line found)
    by None e = inr star_none
    by (Some at) e = tag_under line (take at line) (is_tag (take at line)) (word_at line at e)

line_by_of : (master : Master) (from : Sender) (line : List ℕ) (meant : Option (Tag × MCommand)) → command_in line ≡ meant → TellNobody master.streams
    → All (IsOf (line_ask line)) (line_by master from line meant).outs
unfolding line_by bad_step
line_by_of master from line None e none = replied_of (line_ask line) master from (tag_before line) bad_reply none (before_under line)
line_by_of master from line (Some it) e none =
    command_of (line_ask line) master from it.0 it.1 none (inl (command_again line it (is_line line it e)))

-- whoever sends a line, whatever the table is: what goes to nodes for it is of the command whose line it is, or nobody's
pub line_says : (master : Master) (from : Sender) (line : List ℕ) → TellNobody master.streams → All (IsOf (line_ask line)) (line_step master from line).outs
unfolding line_step
line_says master from line none = line_by_of master from line (command_in line) refl none

pub message_says : (master : Master) (node : List ℕ) (message : LinkMsg) → TellNobody master.streams
    → All (IsOf (message_ask message)) (node_says master node message).outs
unfolding node_says
message_says master node (Line bytes) none = line_says master (sender_of master node) bytes none
message_says master node Up none = All-nil (IsOf None)
message_says master node End none = All-nil (IsOf None)
message_says master node (Ask ask) none = All-nil (IsOf None)
message_says master node (Answer answer) none = All-nil (IsOf None)

-- a line that is nobody's leaves each stream under a tag that is nobody's

module _ {K X : Type 0} (P : X → Type 0) where
  abbrev AreAll : List (K × X) → Type 0
  AreAll entries = All (λ (e : K × X). P e.1) entries

  with_all : (cmp : K → K → Ordering) (entries : List (K × X)) (key : K) (value : X) → P value → AreAll entries → AreAll (insert_entry cmp entries key value)
  with_all cmp [] key value is all = All-cons (λ (e : K × X). P e.1) (key, value) [] is (All-nil (λ (e : K × X). P e.1))
  with_all cmp (e ∷ entries) key value is all =
      by (cmp key e.0) (with_all cmp entries key value is (All-tail (λ (x : K × X). P x.1) e entries all))
    where
      by : (order : Ordering) → AreAll (insert_entry cmp entries key value)
          → AreAll (match_ordering order ((key, value) ∷ e ∷ entries) ((e.0, value) ∷ entries) (e ∷ insert_entry cmp entries key value))
      by Less rest = All-cons (λ (x : K × X). P x.1) (key, value) (e ∷ entries) is all
      by Equal rest = All-cons (λ (x : K × X). P x.1) (e.0, value) entries is (All-tail (λ (x : K × X). P x.1) e entries all)
      by Greater rest = All-cons (λ (x : K × X). P x.1) e (insert_entry cmp entries key value) (All-head (λ (x : K × X). P x.1) e entries all) rest

  without_all : (test : K → Bool) (entries : List (K × X)) → AreAll entries → AreAll (remove_entry test entries)
  without_all test [] all = all
  without_all test (e ∷ entries) all = by (test e.0) (without_all test entries (All-tail (λ (x : K × X). P x.1) e entries all))
    where
      by : (here : Bool) → AreAll (remove_entry test entries) → AreAll (cond here entries (e ∷ remove_entry test entries))
      by true rest = All-tail (λ (x : K × X). P x.1) e entries all
      by false rest = All-cons (λ (x : K × X). P x.1) e (remove_entry test entries) (All-head (λ (x : K × X). P x.1) e entries all) rest

streaming_none : (master : Master) (from : Sender) (tag : Tag) → TellNobody master.streams → IsNobodys tag → TellNobody (streaming master from tag).streams
unfolding streaming
streaming_none master (Backend node) tag none is = with_all IsNobodys (slice_cmp nat_cmp) master.streams node tag is none
streaming_none master (Frontend node) tag none is = with_all IsNobodys (slice_cmp nat_cmp) master.streams node tag is none
streaming_none master (Outside conn) tag none is = none

without_none : (master : Master) (from : Sender) → TellNobody master.streams → TellNobody (without master from).streams
unfolding without
without_none master (Backend node) none = without_all IsNobodys (is_at (slice_cmp nat_cmp node)) master.streams none
without_none master (Frontend node) none = without_all IsNobodys (is_at (slice_cmp nat_cmp node)) master.streams none
without_none master (Outside conn) none = none

settled_none : (planned : Planned) (from : Sender) (tag : Tag) (step : StreamStep) → TellNobody planned.master.streams → IsNobodys tag
    → TellNobody (settled planned from tag step).master.streams
unfolding settled
settled_none planned from tag stream.Stays none is = none
settled_none planned from tag stream.Begins none is = streaming_none planned.master from tag none is
settled_none planned from tag stream.Ends none is = without_none planned.master from none

command_none : (master : Master) (from : Sender) (tag : Tag) (it : MCommand) → TellNobody master.streams → IsNobodys tag
    → TellNobody (command_step master from tag it).master.streams
unfolding command_step bad_step replied
command_none master from tag it none is = by (is_stream master from && not (may_follow_update it))
  where
    by : (bad : Bool) → TellNobody (cond bad (replied master from tag bad_reply) (settled (replied master from tag (reply_to master.table from it)) from tag (stream_step it))).master.streams
    by true = none
    by false = settled_none (replied master from tag (reply_to master.table from it)) from tag (stream_step it) none is

line_by_none : (master : Master) (from : Sender) (line : List ℕ) (meant : Option (Tag × MCommand)) → command_in line ≡ meant → TellNobody master.streams
    → line_ask line ≡ None → TellNobody (line_by master from line meant).master.streams
unfolding line_by bad_step replied
line_by_none master from line None e none whose = none
line_by_none master from line (Some it) e none whose =
    command_none master from it.0 it.1 none (command_again line it (is_line line it e) ∙ whose)

pub line_tells_nobody : (master : Master) (from : Sender) (line : List ℕ) → TellNobody master.streams → line_ask line ≡ None
    → TellNobody (line_step master from line).master.streams
unfolding line_step
line_tells_nobody master from line none whose = line_by_none master from line (command_in line) refl none whose

pub message_tells_nobody : (master : Master) (node : List ℕ) (message : LinkMsg) → TellNobody master.streams → message_ask message ≡ None
    → TellNobody (node_says master node message).master.streams
unfolding node_says
message_tells_nobody master node (Line bytes) none whose = line_tells_nobody master (sender_of master node) bytes none whose
message_tells_nobody master node Up none whose = none
message_tells_nobody master node End none whose = without_none master (sender_of master node) none
message_tells_nobody master node (Ask ask) none whose = none
message_tells_nobody master node (Answer answer) none whose = none
