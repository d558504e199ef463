-- Whom the master gives something where it takes a message of a node: clients that are connected to it, which it tells of changes.
use Rattle.std.proofs.Common.{◌≡◌, ◌≢◌, ℕ, ◌&&◌, not, Bool, true, false, cond, List, [], ◌∷◌, ◌++◌, map, Option, None, Some, refl, sym, ◌∙◌, ap, subst}
use Rattle.std.specs.Prelude.{All, ⊤}
use Rattle.std.specs.Ordering.{nat_cmp}
use Rattle.std.proofs.Math.Logic.{⊎_elim}
use Rattle.std.proofs.lemmas.Bool.{cases_eq}
use Rattle.std.proofs.lemmas.List.Elements.{All-append, All-cons, All-head, All-nil, All-tail}
use Rattle.cluster_core.specs.World.{master_of, taken_from_link}
use Rattle.cluster_core.specs.declared.world.Client.{Client}
use Rattle.link_msg.specs.declared.counts.Counts.{Counts}
use Rattle.link_msg.specs.declared.message.LinkMsg.{LinkMsg}
use Rattle.link_msg.specs.declared.message.LinkMsg.TheVariants.{Up, End, Line, Ask, Answer}
use Rattle.link_msg.specs.declared.out.Out.{Out}
use Rattle.link_msg.specs.declared.out.Out.TheVariants.{Client as to_client, Close, Link, Mark as mark, Told as tell}
use Rattle.master_core.specs.declared.master.Master.{Master}
use Rattle.master_core.specs.declared.reply.Reply.{Reply}
use Rattle.master_core.specs.declared.sender.Sender.{Sender}
use Rattle.master_core.specs.declared.sender.Sender.TheVariants.{Backend, Frontend, Outside}
use Rattle.master_core.specs.declared.streams.StreamStep.{StreamStep}
use Rattle.master_core.specs.declared.streams.StreamStep.TheVariants as stream
use Rattle.master_core.specs.Changes.{change_line, change_outs, node_told, watcher_told}
use Rattle.master_core.specs.Lines.{tag_before}
use Rattle.master_core.specs.Linked.{node_says, sender_by, sender_of}
use Rattle.master_core.specs.Replies.{bad_reply, reply_to}
use Rattle.master_core.specs.Step.{Planned, answered, bad_step, command_step, line_by, line_step, mark_of, mark_outs, replied, settled}
use Rattle.master_core.specs.Streams.{close_outs, is_stream, may_follow_update, stream_step, streaming, without}
use Rattle.mupdate_codec.specs.declared.command.MCommand.{MCommand}
use Rattle.mupdate_codec.specs.declared.command.MResponse.{MResponse}
use Rattle.mupdate_codec.specs.declared.tag.Tag.{Tag}
use Rattle.mupdate_codec.specs.Asks.{ask_id_of}
use Rattle.mupdate_codec.specs.Whole.{command_in}
use Rattle.mur_base.specs.Map.{value_at, with_value}
use Rattle.mur_base.proofs.MapLaws.{numbers_apart, value_at-with_value, value_at-with_value-other}
use Rattle.mur_base.specs.declared.point.AskId.{AskId}
use Rattle.mur_config.specs.declared.config.Config.{Config}
use Rattle.node_step.specs.declared.node.NodeState.TheVariants as state
use Rattle.node_record.specs.declared.master.MasterRecord.{MasterRecord}
use Rattle.cluster_core.specs.declared.world.World.{World}
use Rattle.cluster_core.proofs.Nodes.Carried.{given_all, given_by, given_out, is_made}
use Rattle.cluster_core.proofs.Nodes.Comes.{with_master}
use Rattle.cluster_core.proofs.Points.MasterStep.{ClientThen, as_before, is_given}

-- ---- to whom a step gives something

module _ (P : ℕ → Type 0) where
  abbrev pub GivesOnly : Out → Type 0
  GivesOnly (to_client conn bytes) = P conn
  GivesOnly (Close conn) = ⊤
  GivesOnly (Link node message) = ⊤
  GivesOnly (mark id counts) = ⊤
  GivesOnly (tell id how) = ⊤

  -- a node
  abbrev IsNode : Sender → Type 0
  IsNode (Backend node) = ⊤
  IsNode (Frontend node) = ⊤
  IsNode (Outside conn) = ⊥

  answer_gives : (from : Sender) (tag : Tag) (it : MResponse) → IsNode from → GivesOnly (answered from tag it)
  answer_gives (Backend node) tag it is = tt
  answer_gives (Frontend node) tag it is = tt
  answer_gives (Outside conn) tag it is = absurd is

  answers_give : (from : Sender) (tag : Tag) (answers : List MResponse) → IsNode from → All GivesOnly (map (answered from tag) answers)
  answers_give from tag [] is = All-nil GivesOnly
  answers_give from tag (it ∷ more) is =
      All-cons GivesOnly (answered from tag it) (map (answered from tag) more) (answer_gives from tag it is) (answers_give from tag more is)

  streams_give : (streams : List (List ℕ × Tag)) (line : MResponse) → All GivesOnly (map (node_told line) streams)
  streams_give [] line = All-nil GivesOnly
  streams_give (s ∷ streams) line = All-cons GivesOnly (node_told line s) (map (node_told line) streams) tt (streams_give streams line)

  abbrev pub AreThey : List (ℕ × Tag) → Type 0
  AreThey watchers = All (λ (w : ℕ × Tag). P w.0) watchers

  watchers_give : (watchers : List (ℕ × Tag)) (line : MResponse) → AreThey watchers → All GivesOnly (map (watcher_told line) watchers)
  watchers_give [] line are = All-nil GivesOnly
  watchers_give (w ∷ watchers) line are =
      All-cons GivesOnly (watcher_told line w) (map (watcher_told line) watchers) (All-head (λ (x : ℕ × Tag). P x.0) w watchers are)
      (watchers_give watchers line (All-tail (λ (x : ℕ × Tag). P x.0) w watchers are))

  changes_give : (streams : List (List ℕ × Tag)) (watchers : List (ℕ × Tag)) (change : Option MasterRecord) → AreThey watchers
      → All GivesOnly (change_outs streams watchers change)
  unfolding change_outs
  changes_give streams watchers None are = All-nil GivesOnly
  changes_give streams watchers (Some change) are =
      All-append GivesOnly (map (node_told (change_line change)) streams) (map (watcher_told (change_line change)) watchers)
      (streams_give streams (change_line change)) (watchers_give watchers (change_line change) are)

  mark_gives : (id : Option AskId) (counts : Option Counts) → All GivesOnly (mark_of id counts)
  mark_gives None counts = All-nil GivesOnly
  mark_gives (Some id) None = All-nil GivesOnly
  mark_gives (Some id) (Some counts) = All-cons GivesOnly (mark id counts) [] tt (All-nil GivesOnly)

  marks_give : (from : Sender) (tag : Tag) (counts : Option Counts) → All GivesOnly (mark_outs from tag counts)
  marks_give (Backend node) tag counts = mark_gives (ask_id_of tag) counts
  marks_give (Frontend node) tag counts = mark_gives (ask_id_of tag) counts
  marks_give (Outside conn) tag counts = All-nil GivesOnly

  closed_gives : (from : Sender) → IsNode from → All GivesOnly (close_outs from)
  closed_gives (Backend node) is = All-nil GivesOnly
  closed_gives (Frontend node) is = All-nil GivesOnly
  closed_gives (Outside conn) is = absurd is

  replied_gives : (master : Master) (from : Sender) (tag : Tag) (reply : Reply) → IsNode from → AreThey master.watchers
      → All GivesOnly (replied master from tag reply).outs
  unfolding replied
  replied_gives master from tag reply is are =
      All-append GivesOnly (map (answered from tag) reply.answers) _ (answers_give from tag reply.answers is)
      (All-append GivesOnly (change_outs master.streams master.watchers reply.entry) (mark_outs from tag reply.counts)
      (changes_give master.streams master.watchers reply.entry are) (marks_give from tag reply.counts))

  settled_gives : (planned : Planned) (from : Sender) (tag : Tag) (step : StreamStep) → IsNode from → All GivesOnly planned.outs
      → All GivesOnly (settled planned from tag step).outs
  unfolding settled
  settled_gives planned from tag stream.Stays is are = are
  settled_gives planned from tag stream.Begins is are = are
  settled_gives planned from tag stream.Ends is are = All-append GivesOnly planned.outs (close_outs from) are (closed_gives from is)

  command_gives : (master : Master) (from : Sender) (tag : Tag) (it : MCommand) → IsNode from → AreThey master.watchers
      → All GivesOnly (command_step master from tag it).outs
  unfolding command_step bad_step
  command_gives master from tag it is are = by (is_stream master from && not (may_follow_update it))
    where
      by : (bad : Bool)
          → All GivesOnly
          (cond bad (replied master from tag bad_reply) (settled (replied master from tag (reply_to master.table from it)) from tag (stream_step it))).outs
      by true = replied_gives master from tag bad_reply is are
      by false =
          settled_gives (replied master from tag (reply_to master.table from it)) from tag (stream_step it) is
          (replied_gives master from tag (reply_to master.table from it) is are)

  line_gives : (master : Master) (from : Sender) (line : List ℕ) (meant : Option (Tag × MCommand)) → IsNode from → AreThey master.watchers
      → All GivesOnly (line_by master from line meant).outs
  unfolding line_by bad_step
  line_gives master from line None is are = replied_gives master from (tag_before line) bad_reply is are
  line_gives master from line (Some it) is are = command_gives master from it.0 it.1 is are

  sender_is : (backend : Bool) (node : List ℕ) → IsNode (sender_by backend node)
  sender_is true node = tt
  sender_is false node = tt

  pub says_gives : (master : Master) (node : List ℕ) (message : LinkMsg) → AreThey master.watchers → All GivesOnly (node_says master node message).outs
  unfolding node_says line_step
  says_gives master node (Line bytes) are = line_gives master (sender_of master node) bytes (command_in bytes) (sender_is _ node) are
  says_gives master node Up are = All-nil GivesOnly
  says_gives master node End are = All-nil GivesOnly
  says_gives master node (Ask ask) are = All-nil GivesOnly
  says_gives master node (Answer answer) are = All-nil GivesOnly

-- ---- what that gives the clients

abbrev Clients : Type 0
Clients = List (ℕ × Client)

abbrev at_conn : Clients → ℕ → Option Client
at_conn clients conn = value_at nat_cmp clients conn

module _ (name : List ℕ) where
  -- a client that is connected to the node
  abbrev pub IsIts : Clients → ℕ → Type 0
  IsIts clients conn = (given : List ℕ) × (at_conn clients conn ≡ Some (record { at = name; given = given }))

  data Then (before after : Clients) (conn : ℕ) : Type 0 where
    alike : at_conn after conn ≡ at_conn before conn → Then before after conn
    more : (was now : List ℕ) → at_conn before conn ≡ Some (record { at = name; given = was })
        → at_conn after conn ≡ Some (record { at = name; given = now }) → Then before after conn

  follow : (one two three : Clients) (conn : ℕ) → Then one two conn → Then two three conn → Then one three conn
  follow one two three conn (alike e) (alike f) = alike (f ∙ e)
  follow one two three conn (alike e) (more was now f g) = more was now (sym e ∙ f) g
  follow one two three conn (more was now e f) (alike g) = more was now e (g ∙ f)
  follow one two three conn (more was now e f) (more mid then g h) = more was then e h

  its_then : (one two : Clients) (conn : ℕ) → Then one two conn → IsIts one conn → IsIts two conn
  its_then one two conn (alike e) its = (its.0, e ∙ its.1)
  its_then one two conn (more was now e f) its = (now, f)

  out_then : (clients : Clients) (out : Out) → GivesOnly (IsIts clients) out → (conn : ℕ) → Then clients (given_out clients out) conn
  unfolding given_out
  out_then clients (to_client c bytes) its conn =
      let was : Client = record { at = name; given = its.0 } in
      let now : Client = record { at = name; given = its.0 ++ bytes } in
      let is : given_out clients (to_client c bytes) ≡ with_value nat_cmp clients c now = ap (given_by clients c bytes) its.1 in
      subst (λ cs. Then clients cs conn) (sym is) (⊎_elim
      (λ (e : conn ≡ c). subst (λ k. Then clients (with_value nat_cmp clients c now) k) (sym e)
      (more its.0 (its.0 ++ bytes) its.1 (value_at-with_value nat_cmp numbers_apart clients c now was its.1)))
      (λ (ne : conn ≢ c). alike (value_at-with_value-other nat_cmp numbers_apart clients c conn now ne))
      (cases_eq conn c))
  out_then clients (Close c) its conn = alike refl
  out_then clients (Link node message) its conn = alike refl
  out_then clients (mark id counts) its conn = alike refl
  out_then clients (tell id how) its conn = alike refl

  all_keep : (one two : Clients) (outs : List Out) → ((conn : ℕ) → Then one two conn) → All (GivesOnly (IsIts one)) outs → All (GivesOnly (IsIts two)) outs
  all_keep one two [] then all = All-nil (GivesOnly (IsIts two))
  all_keep one two (out ∷ outs) then all =
      All-cons (GivesOnly (IsIts two)) out outs (by out (All-head (GivesOnly (IsIts one)) out outs all))
      (all_keep one two outs then (All-tail (GivesOnly (IsIts one)) out outs all))
    where
      by : (it : Out) → GivesOnly (IsIts one) it → GivesOnly (IsIts two) it
      by (to_client c bytes) its = its_then one two c (then c) its
      by (Close c) its = tt
      by (Link node message) its = tt
      by (mark id counts) its = tt
      by (tell id how) its = tt

  all_then : (clients : Clients) (outs : List Out) → All (GivesOnly (IsIts clients)) outs → (conn : ℕ) → Then clients (given_all clients outs) conn
  unfolding given_all
  all_then clients [] all conn = alike refl
  all_then clients (out ∷ outs) all conn =
      let one = out_then clients out (All-head (GivesOnly (IsIts clients)) out outs all) in
      follow clients (given_out clients out) (given_all (given_out clients out) outs) conn (one conn)
      (all_then (given_out clients out) outs
      (all_keep clients (given_out clients out) outs one (All-tail (GivesOnly (IsIts clients)) out outs all)) conn)

-- whom the master tells of changes are clients connected to it
abbrev pub WatchersAreIts : Config → World → Master → Type 0
WatchersAreIts config world master = AreThey (IsIts (master_of config) world.clients) master.watchers

abbrev pub MasterGivesItsOwn : Type 0
MasterGivesItsOwn = (config : Config) (world : World) (master : Master) (from : List ℕ) (message : LinkMsg) → WatchersAreIts config world master → (conn : ℕ)
    → ClientThen config world (with_master (taken_from_link world from (master_of config)) (master_of config) (node_says master from message)) conn

as_client : (config : Config) (world next : World) (conn : ℕ) → Then (master_of config) world.clients next.clients conn → ClientThen config world next conn
as_client config world next conn (alike e) = as_before e
as_client config world next conn (more was now e f) = is_given was now e f

pub master_gives_its_own : MasterGivesItsOwn
master_gives_its_own config world master from message are conn =
    let says = node_says master from message in
    let next : World = with_master (taken_from_link world from (master_of config)) (master_of config) says in
    as_client config world next conn
    (subst (λ cs. Then (master_of config) world.clients cs conn)
    (sym (is_made (taken_from_link world from (master_of config)) (master_of config) (state.Master says.master) says.outs).clients)
    (all_then (master_of config) world.clients says.outs (says_gives (IsIts (master_of config) world.clients) master from message are) conn))

-- ---- it stays so

abbrev WatchedAs : Master → Master → Type 0
WatchedAs master later = later.watchers ≡ master.watchers

settled_watched : (master : Master) (planned : Planned) (backend : Bool) (node : List ℕ) (tag : Tag) (step : StreamStep) → WatchedAs master planned.master
    → WatchedAs master (settled planned (sender_by backend node) tag step).master
unfolding settled streaming without
settled_watched master planned true node tag stream.Stays e = e
settled_watched master planned true node tag stream.Begins e = e
settled_watched master planned true node tag stream.Ends e = e
settled_watched master planned false node tag stream.Stays e = e
settled_watched master planned false node tag stream.Begins e = e
settled_watched master planned false node tag stream.Ends e = e

module _ (master : Master) (backend : Bool) (node : List ℕ) where
  abbrev from : Sender
  from = sender_by backend node

  replied_watched : (tag : Tag) (reply : Reply) → WatchedAs master (replied master from tag reply).master
  unfolding replied
  replied_watched tag reply = refl

  command_watched : (tag : Tag) (it : MCommand) → WatchedAs master (command_step master from tag it).master
  unfolding command_step bad_step
  command_watched tag it = by (is_stream master from && not (may_follow_update it))
    where
      by : (bad : Bool)
          → WatchedAs master
          (cond bad (replied master from tag bad_reply) (settled (replied master from tag (reply_to master.table from it)) from tag (stream_step it))).master
      by true = replied_watched tag bad_reply
      by false =
          settled_watched master (replied master from tag (reply_to master.table from it)) backend node tag (stream_step it)
          (replied_watched tag (reply_to master.table from it))

  line_watched : (line : List ℕ) (meant : Option (Tag × MCommand)) → WatchedAs master (line_by master from line meant).master
  unfolding line_by bad_step
  line_watched line None = replied_watched (tag_before line) bad_reply
  line_watched line (Some it) = command_watched it.0 it.1

ended_watched : (master : Master) (backend : Bool) (node : List ℕ) → WatchedAs master (without master (sender_by backend node))
unfolding without
ended_watched master true node = refl
ended_watched master false node = refl

pub says_watched : (master : Master) (node : List ℕ) (message : LinkMsg) → WatchedAs master (node_says master node message).master
unfolding node_says line_step
says_watched master node (Line bytes) = line_watched master _ node bytes (command_in bytes)
says_watched master node Up = refl
says_watched master node End = ended_watched master _ node
says_watched master node (Ask ask) = refl
says_watched master node (Answer answer) = refl

pub they_keep : (P Q : ℕ → Type 0) → ((conn : ℕ) → P conn → Q conn) → (watchers : List (ℕ × Tag)) → AreThey P watchers → AreThey Q watchers
they_keep P Q to [] are = All-nil (λ (w : ℕ × Tag). Q w.0)
they_keep P Q to (w ∷ watchers) are =
    All-cons (λ (x : ℕ × Tag). Q x.0) w watchers (to w.0 (All-head (λ (x : ℕ × Tag). P x.0) w watchers are))
    (they_keep P Q to watchers (All-tail (λ (x : ℕ × Tag). P x.0) w watchers are))
