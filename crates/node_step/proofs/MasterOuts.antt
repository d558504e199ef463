-- What the master lets out: answers to who says a line, and each change of its table to the nodes and the clients that have sent UPDATE; bytes for its own
-- clients alone.
use Rattle.std.proofs.Common.{ℕ, nat_eq, Bool, true, false, ◌&&◌, not, cond, List, [], ◌∷◌, ◌++◌, map, Option, None, Some}
use Rattle.std.specs.Prelude.{⊤}
use Rattle.std.specs.List.{AllByRecursion, fold, list_any}
use Rattle.std.specs.BTreeMap.{insert_entry, is_at}
use Rattle.std.specs.Map.{remove_entry}
use Rattle.std.specs.Ordering.{is_eq, match_ordering, nat_cmp}
use Rattle.std.specs.Cmp.Lexicographic.{pointwise, slice_cmp}
use Rattle.std.specs.declared.cmp.Ordering.{Ordering}
use Rattle.std.specs.declared.cmp.Ordering.TheVariants.{Less, Equal, Greater}
use Rattle.front_core.proofs.OwnOuts.{AreLetOut, both_let}
use Rattle.link_msg.specs.declared.answer.BackAnswer.{BackAnswer}
use Rattle.link_msg.specs.declared.counts.Counts.{Counts}
use Rattle.link_msg.specs.declared.message.LinkMsg.{LinkMsg}
use Rattle.link_msg.specs.declared.message.LinkMsg.TheVariants.{Up, End, Line, Ask, Answer}
use Rattle.link_msg.specs.declared.out.Out.{Out}
use Rattle.master_core.specs.declared.master.Master.{Master}
use Rattle.master_core.specs.declared.outside.Outside.{Outside}
use Rattle.master_core.specs.declared.outside.Outside.TheVariants as outside
use Rattle.master_core.specs.declared.reply.Reply.{Reply}
use Rattle.master_core.specs.declared.sender.Sender.{Sender}
use Rattle.master_core.specs.declared.sender.Sender.TheVariants as sender
use Rattle.master_core.specs.declared.streams.StreamStep.{StreamStep}
use Rattle.master_core.specs.declared.streams.StreamStep.TheVariants as stream
use Rattle.master_core.specs.Changes.{change_line, change_outs, node_told, watcher_told}
use Rattle.master_core.specs.Cutting.{cut_from}
use Rattle.master_core.specs.Lines.{tag_before}
use Rattle.master_core.specs.Linked.{node_says, sender_by, sender_of}
use Rattle.master_core.specs.Outside.{Stepped, bytes_at, bytes_in, connect, connect_at, is_open, line_comes, lines_come, outside_at, still, with_begun}
use Rattle.master_core.specs.Replies.{bad_reply, reply_to}
use Rattle.master_core.specs.Step.{Planned, answered, bad_step, command_step, line_by, line_step, mark_of, mark_outs, replied, settled}
use Rattle.master_core.specs.Streams.{close_outs, is_stream, may_follow_update, stream_step, streaming, without}
use Rattle.mupdate_codec.specs.Asks.{ask_id_of}
use Rattle.mupdate_codec.specs.Whole.{command_in}
use Rattle.mupdate_codec.specs.declared.command.MCommand.{MCommand}
use Rattle.mupdate_codec.specs.declared.command.MResponse.{MResponse}
use Rattle.mupdate_codec.specs.declared.tag.Tag.{Tag}
use Rattle.mur_base.specs.Map.{with_entry, without_key}
use Rattle.mur_base.specs.declared.point.AskId.{AskId}
use Rattle.node_record.specs.declared.master.MasterRecord.{MasterRecord}

-- ---- the keys of a map

module _ {K X : Type 0} (P : K → Type 0) (cmp : K → K → Ordering) where
  -- each key is so
  abbrev pub AreKeys : List (K × X) → Type 0
  AreKeys entries = AllByRecursion (λ (e : K × X). P e.0) entries

  entry_by : (key : K) (value : X) (e : K × X) (es rest : List (K × X)) (o : Ordering) → P key → AreKeys (e ∷ es) → AreKeys rest
      → AreKeys (match_ordering o ((key, value) ∷ e ∷ es) ((e.0, value) ∷ es) (e ∷ rest))
  entry_by key value e es rest Less is all more = (is, all)
  entry_by key value e es rest Equal is all more = all
  entry_by key value e es rest Greater is all more = (all.0, more)

  pub keys_with : (entries : List (K × X)) (key : K) (value : X) → P key → AreKeys entries → AreKeys (with_entry cmp entries key value)
  keys_with [] key value is all = (is, tt)
  keys_with (e ∷ es) key value is all = entry_by key value e es (insert_entry cmp es key value) (cmp key e.0) is all (keys_with es key value is all.1)

  without_by : (e : K × X) (es rest : List (K × X)) (here : Bool) → AreKeys (e ∷ es) → AreKeys rest → AreKeys (cond here es (e ∷ rest))
  without_by e es rest true all more = all.1
  without_by e es rest false all more = (all.0, more)

  pub keys_without : (entries : List (K × X)) (key : K) → AreKeys entries → AreKeys (without_key cmp entries key)
  keys_without [] key all = tt
  keys_without (e ∷ es) key all = without_by e es (remove_entry (is_at (cmp key)) es) (is_eq (cmp key e.0)) all (keys_without es key all.1)

-- ---- who is told of changes

-- lines may be said to the node
abbrev pub MayBeTold : (List ℕ → LinkMsg → Type 0) → List ℕ → Type 0
MayBeTold may node = (bytes : List ℕ) → may node (Line bytes)

-- the clients and the nodes that have sent UPDATE
pub record TellsOwn (own : ℕ → Type 0) (may : List ℕ → LinkMsg → Type 0) (master : Master) : Type 0 where
  pub watchers : AllByRecursion (λ (e : ℕ × Tag). own e.0) master.watchers
  pub streams : AllByRecursion (λ (e : List ℕ × Tag). MayBeTold may e.0) master.streams

pub record MasterLets (own : ℕ → Type 0) (may : List ℕ → LinkMsg → Type 0) (master : Master) (let_out : List Out) : Type 0 where
  pub outs : AreLetOut own may ⊤ let_out
  pub tells : TellsOwn own may master

-- who says a line may be answered
abbrev pub MayAnswer : (ℕ → Type 0) → (List ℕ → LinkMsg → Type 0) → Sender → Type 0
MayAnswer own may (sender.Backend node) = MayBeTold may node
MayAnswer own may (sender.Frontend node) = MayBeTold may node
MayAnswer own may (sender.Outside conn) = own conn

-- who asks or says a line may be sent to
abbrev pub SpeaksFrom : (List ℕ → LinkMsg → Type 0) → List ℕ → LinkMsg → Type 0
SpeaksFrom may name (Line bytes) = MayBeTold may name
SpeaksFrom may name (Ask ask) = (answer : BackAnswer) → may name (Answer answer)
SpeaksFrom may name message = ⊤

-- who says a line may be answered
abbrev pub SaysFrom : (List ℕ → LinkMsg → Type 0) → List ℕ → LinkMsg → Type 0
SaysFrom may name (Line bytes) = MayBeTold may name
SaysFrom may name message = ⊤

module _ (own : ℕ → Type 0) (may : List ℕ → LinkMsg → Type 0) where
  abbrev AreLet : List Out → Type 0
  AreLet outs = AreLetOut own may ⊤ outs

  answers_let : (from : Sender) (tag : Tag) (answers : List MResponse) → MayAnswer own may from → AreLet (map (answered from tag) answers)
  answers_let from tag [] there = tt
  answers_let (sender.Backend node) tag (it ∷ answers) there = (there _, answers_let (sender.Backend node) tag answers there)
  answers_let (sender.Frontend node) tag (it ∷ answers) there = (there _, answers_let (sender.Frontend node) tag answers there)
  answers_let (sender.Outside conn) tag (it ∷ answers) there = (there, answers_let (sender.Outside conn) tag answers there)

  nodes_let : (it : MResponse) (streams : List (List ℕ × Tag)) → AllByRecursion (λ (e : List ℕ × Tag). MayBeTold may e.0) streams
      → AreLet (map (node_told it) streams)
  nodes_let it [] all = tt
  nodes_let it (e ∷ streams) all = (all.0 _, nodes_let it streams all.1)

  watchers_let : (it : MResponse) (watchers : List (ℕ × Tag)) → AllByRecursion (λ (e : ℕ × Tag). own e.0) watchers → AreLet (map (watcher_told it) watchers)
  watchers_let it [] all = tt
  watchers_let it (e ∷ watchers) all = (all.0, watchers_let it watchers all.1)

  change_let : (master : Master) (change : Option MasterRecord) → TellsOwn own may master → AreLet (change_outs master.streams master.watchers change)
  unfolding change_outs
  change_let master None tells = tt
  change_let master (Some change) tells =
      both_let own may ⊤ (map (node_told (change_line change)) master.streams) (map (watcher_told (change_line change)) master.watchers)
      (nodes_let (change_line change) master.streams tells.streams) (watchers_let (change_line change) master.watchers tells.watchers)

  mark_let : (ask : Option AskId) (counts : Option Counts) → AreLet (mark_of ask counts)
  mark_let (Some ask) (Some counts) = (tt, tt)
  mark_let (Some ask) None = tt
  mark_let None counts = tt

  marks_let : (from : Sender) (tag : Tag) (counts : Option Counts) → AreLet (mark_outs from tag counts)
  marks_let (sender.Backend node) tag counts = mark_let (ask_id_of tag) counts
  marks_let (sender.Frontend node) tag counts = mark_let (ask_id_of tag) counts
  marks_let (sender.Outside conn) tag counts = tt

  replied_let : (master : Master) (from : Sender) (tag : Tag) (reply : Reply) → MayAnswer own may from → TellsOwn own may master
      → MasterLets own may (replied master from tag reply).master (replied master from tag reply).outs
  unfolding replied
  replied_let master from tag reply there tells = record {
    outs = both_let own may ⊤ (map (answered from tag) reply.answers)
        (change_outs master.streams master.watchers reply.entry ++ mark_outs from tag reply.counts)
        (answers_let from tag reply.answers there)
        (both_let own may ⊤ (change_outs master.streams master.watchers reply.entry) (mark_outs from tag reply.counts)
        (change_let master reply.entry tells) (marks_let from tag reply.counts));
    tells = record { watchers = tells.watchers; streams = tells.streams };
  }

  streaming_tells : (master : Master) (from : Sender) (tag : Tag) → MayAnswer own may from → TellsOwn own may master
      → TellsOwn own may (streaming master from tag)
  unfolding streaming
  streaming_tells master (sender.Backend node) tag there tells =
      record { watchers = tells.watchers; streams = keys_with (MayBeTold may) (slice_cmp nat_cmp) master.streams node tag there tells.streams }
  streaming_tells master (sender.Frontend node) tag there tells =
      record { watchers = tells.watchers; streams = keys_with (MayBeTold may) (slice_cmp nat_cmp) master.streams node tag there tells.streams }
  streaming_tells master (sender.Outside conn) tag there tells =
      record { watchers = keys_with own nat_cmp master.watchers conn tag there tells.watchers; streams = tells.streams }

  pub without_tells : (master : Master) (from : Sender) → TellsOwn own may master → TellsOwn own may (without master from)
  unfolding without
  without_tells master (sender.Backend node) tells =
      record { watchers = tells.watchers; streams = keys_without (MayBeTold may) (slice_cmp nat_cmp) master.streams node tells.streams }
  without_tells master (sender.Frontend node) tells =
      record { watchers = tells.watchers; streams = keys_without (MayBeTold may) (slice_cmp nat_cmp) master.streams node tells.streams }
  without_tells master (sender.Outside conn) tells =
      record { watchers = keys_without own nat_cmp master.watchers conn tells.watchers; streams = tells.streams }

  close_let : (from : Sender) → AreLet (close_outs from)
  close_let (sender.Backend node) = tt
  close_let (sender.Frontend node) = tt
  close_let (sender.Outside conn) = (tt, tt)

  settled_let : (planned : Planned) (from : Sender) (tag : Tag) (step : StreamStep) → MayAnswer own may from → MasterLets own may planned.master planned.outs
      → MasterLets own may (settled planned from tag step).master (settled planned from tag step).outs
  unfolding settled
  settled_let planned from tag stream.Stays there lets = lets
  settled_let planned from tag stream.Begins there lets =
      record { outs = lets.outs; tells = streaming_tells planned.master from tag there lets.tells }
  settled_let planned from tag stream.Ends there lets =
      record { outs = both_let own may ⊤ planned.outs (close_outs from) lets.outs (close_let from); tells = without_tells planned.master from lets.tells }

  module _ (master : Master) (from : Sender) (there : MayAnswer own may from) (tells : TellsOwn own may master) where
    bad_let : (tag : Tag) → MasterLets own may (bad_step master from tag).master (bad_step master from tag).outs
    unfolding bad_step
    bad_let tag = replied_let master from tag bad_reply there tells

    command_let : (tag : Tag) (it : MCommand) → MasterLets own may (command_step master from tag it).master (command_step master from tag it).outs
    unfolding command_step
    command_let tag it = by_test (is_stream master from && not (may_follow_update it))
      where
        taken : Planned
        taken = settled (replied master from tag (reply_to master.table from it)) from tag (stream_step it)

        by_test : (b : Bool) → (let planned : Planned = cond b (bad_step master from tag) taken in MasterLets own may planned.master planned.outs)
        by_test true = bad_let tag
        by_test false = settled_let (replied master from tag (reply_to master.table from it)) from tag (stream_step it) there
            (replied_let master from tag (reply_to master.table from it) there tells)

    pub line_let : (line : List ℕ) → MasterLets own may (line_step master from line).master (line_step master from line).outs
    unfolding line_step line_by
    line_let line = by_command (command_in line)
      where
        by_command : (it : Option (Tag × MCommand)) → MasterLets own may (line_by master from line it).master (line_by master from line it).outs
        by_command None = bad_let (tag_before line)
        by_command (Some it) = command_let it.0 it.1

  -- ---- what a client does

  one_line_let : (conn : ℕ) (so_far : Stepped) (line : List ℕ) → own conn → MasterLets own may so_far.master so_far.outs
      → MasterLets own may (line_comes conn so_far line).master (line_comes conn so_far line).outs
  unfolding line_comes
  one_line_let conn so_far line there lets = by_open (is_open so_far.master conn)
    where
      is_next : Planned
      is_next = line_step so_far.master (sender.Outside conn) line

      by_open : (b : Bool)
          → (let after : Stepped = cond b (record { master = is_next.master; outs = so_far.outs ++ is_next.outs }) so_far in MasterLets own may after.master after.outs)
      by_open true =
          let more = line_let so_far.master (sender.Outside conn) there lets.tells line in
          record { outs = both_let own may ⊤ so_far.outs is_next.outs lets.outs more.outs; tells = more.tells }
      by_open false = lets

  lines_let : (conn : ℕ) (so_far : Stepped) (lines : List (List ℕ)) → own conn → MasterLets own may so_far.master so_far.outs
      → MasterLets own may (fold (line_comes conn) so_far lines).master (fold (line_comes conn) so_far lines).outs
  lines_let conn so_far [] there lets = lets
  lines_let conn so_far (line ∷ lines) there lets = lines_let conn (line_comes conn so_far line) lines there (one_line_let conn so_far line there lets)

  module _ (master : Master) (tells : TellsOwn own may master) where
    still_let : MasterLets own may (still master).master (still master).outs
    still_let = record { outs = tt; tells = tells }

    -- its bytes come
    pub bytes_let : (conn : ℕ) (piece : List ℕ) → own conn → MasterLets own may (bytes_in master conn piece).master (bytes_in master conn piece).outs
    unfolding bytes_in bytes_at lines_come
    bytes_let conn piece there = by_outside (outside_at master conn)
      where
        by_outside : (it : Option Outside) → MasterLets own may (bytes_at master conn piece it).master (bytes_at master conn piece it).outs
        by_outside None = still_let
        by_outside (Some outside.Ended) = still_let
        by_outside (Some (outside.Open None)) = still_let
        by_outside (Some (outside.Open (Some begun))) =
            lines_let conn (still (with_begun master conn (cut_from begun piece).begun)) (cut_from begun piece).lines there
            (record { outs = tt; tells = record { watchers = tells.watchers; streams = tells.streams } })

    -- it connects
    pub connect_let : (conn : ℕ) → own conn → MasterLets own may (connect master conn).master (connect master conn).outs
    unfolding connect connect_at
    connect_let conn there = by_outside (outside_at master conn)
      where
        by_outside : (it : Option Outside) → MasterLets own may (connect_at master conn it).master (connect_at master conn it).outs
        by_outside (Some it) = still_let
        by_outside None = record { outs = (there, tt); tells = record { watchers = tells.watchers; streams = tells.streams } }

    -- ---- what a node says

    sender_may : (b : Bool) (node : List ℕ) → MayBeTold may node → MayAnswer own may (sender_by b node)
    sender_may true node there = there
    sender_may false node there = there

    pub says_let : (node : List ℕ) (message : LinkMsg) → SaysFrom may node message
        → MasterLets own may (node_says master node message).master (node_says master node message).outs
    unfolding node_says
    says_let node (Line bytes) there =
        line_let master (sender_of master node) (sender_may (list_any (pointwise nat_eq node) master.backends) node there) tells bytes
    says_let node End there = record { outs = tt; tells = without_tells master (sender_of master node) tells }
    says_let node Up there = still_let
    says_let node (Ask ask) there = still_let
    says_let node (Answer answer) there = still_let
