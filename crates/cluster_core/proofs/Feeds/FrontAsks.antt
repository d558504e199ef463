-- The feeds after the master has taken a line of a frontend: its UPDATE, or a NOOP.
use Rattle.std.proofs.Common.{◌≡◌, ◌≢◌, ℕ, ◌&&◌, not, nat_eq, Bool, true, false, cond, is_some, List, [], ◌∷◌, ◌++◌, map, Option, None, Some, refl, sym, ap, ◌∙◌, subst, append-nil, inl, inr}
use Rattle.std.specs.List.{list_any, AllByRecursion}
use Rattle.std.specs.Ordering.{nat_cmp}
use Rattle.std.specs.Cmp.Lexicographic.{pointwise, slice_cmp}
use Rattle.std.proofs.Math.Logic.{⊎_elim}
use Rattle.cluster_core.specs.World.{comes, comes_to, front_at, home_at, master_of, node_at, not_lost, taken_from_link}
use Rattle.feed_core.specs.declared.replica.Replica.{Replica}
use Rattle.feed_core.specs.Stream.{update_line, update_tag}
use Rattle.feed_core.proofs.StreamLaw.{update_read}
use Rattle.feed_links.specs.Lines.{messages_to, stream_of}
use Rattle.feed_links.specs.OneFeed.{AreNoopsOrUps, IsFed, IsFrontsOwn, IsNoop, IsUp, IsUpOrEnd}
use Rattle.feed_links.specs.OneFeed.IsFed.{asks, is_told, comes_up, breaks_early, is_parted}
use Rattle.feed_links.specs.OneFeed.IsFrontsOwn.{its_noop, its_update, its_link}
use Rattle.feed_links.specs.Replicas.{AreNoNews}
use Rattle.feed_links.specs.Spelled.{CanBeTold}
use Rattle.feed_links.proofs.Begun.{noop_tells_nothing}
use Rattle.feed_links.proofs.FeedLaw.{late_keeps_it, others_keep_it, says_order, says_told, takes_keeps_it, whole_not}
use Rattle.feed_links.proofs.Following.{update_tagged}
use Rattle.feed_links.proofs.Messages.{no_answers, own_answers, reply_messages, settled_messages, told_line}
use Rattle.feed_links.proofs.Steps.{StepIs, is_bad, is_taken, step_is, taken}
use Rattle.feed_links.proofs.TableLines.{table_written}
use Rattle.front_core.proofs.OneConnection.Places.{of_no_command, update_nobodys}
use Rattle.front_core.specs.declared.front.Front.{Front}
use Rattle.front_core.specs.Ups.{is_up}
use Rattle.link_msg.specs.declared.message.LinkMsg.{LinkMsg}
use Rattle.link_msg.specs.declared.message.LinkMsg.TheVariants.{Up, End, Line, Ask, Answer}
use Rattle.link_queue.specs.Broken.{Broken, is_broken}
use Rattle.link_queue.specs.Links.{Links, on_link, without_first}
use Rattle.many_links.specs.Murder.{Nodes, put_all}
use Rattle.many_links.proofs.Carried.{puts_else, puts_own, taken_else, taken_first}
use Rattle.many_links.proofs.FrontTable.{front_table, none_written, settled_entry}
use Rattle.master_core.specs.declared.master.Master.{Master}
use Rattle.master_core.specs.declared.reply.Reply.{Reply}
use Rattle.master_core.specs.declared.sender.Sender.{Sender}
use Rattle.master_core.specs.declared.sender.Sender.TheVariants.{Frontend}
use Rattle.master_core.specs.declared.streams.StreamStep.TheVariants as stream
use Rattle.master_core.specs.Changes.{change_outs}
use Rattle.master_core.specs.Linked.{let_out, node_says, sender_by, sender_of}
use Rattle.master_core.specs.Outside.{Stepped as Served}
use Rattle.master_core.specs.Replies.{bad_reply, reply_to, update_reply}
use Rattle.master_core.specs.Step.{Planned, answered, bad_step, command_step, line_by, line_step, replied, settled}
use Rattle.master_core.specs.Streams.{is_stream, may_follow_update, stream_step}
use Rattle.master_core.specs.Whose.{TellNobody}
use Rattle.master_core.proofs.UpdateLaw.{table_lines}
use Rattle.master_core.proofs.WhoseLaw.{message_tells_nobody}
use Rattle.mupdate_codec.specs.declared.command.MCommand.{MCommand}
use Rattle.mupdate_codec.specs.declared.command.MCommand.TheVariants as command
use Rattle.mupdate_codec.specs.declared.tag.Tag.{Tag}
use Rattle.mupdate_codec.specs.Asks.{line_ask}
use Rattle.mupdate_codec.specs.Whole.{command_in}
use Rattle.mur_base.proofs.MapLaws.{names_apart, same_or_other}
use Rattle.mur_config.specs.declared.config.Config.{Config}
use Rattle.node_record.specs.declared.master.MasterRecord.{MasterRecord}
use Rattle.node_step.proofs.NodeKinds.{master_is}
use Rattle.node_step.specs.NodeStep.{master_takes, takes as node_takes}
use Rattle.node_step.specs.declared.input.NodeInput.TheVariants.{From}
use Rattle.node_step.specs.declared.node.NodeState.TheVariants as state
use Rattle.cluster_core.specs.declared.world.World.{World}
use Rattle.cluster_core.proofs.Connections.KeepsLaw.{AreKeptAtBackends, AreNodesOf, FeedsHold, IsFedAt, KnowsBackends, TellsBackends}
use Rattle.cluster_core.proofs.Feeds.AtMaster.{IsToldSo, master_then_feeds}
use Rattle.cluster_core.proofs.Feeds.Backends.{SameBackends, each_kept, kept_still, knows_still, lines_tell, no_news_tell, table_lines_at}
use Rattle.cluster_core.proofs.Feeds.Beside.{fed_linked, fed_moved, front_apart}
use Rattle.cluster_core.proofs.Nodes.Carried.{IsMade, is_made}
use Rattle.cluster_core.proofs.Nodes.Comes.{MasterMoved, master_moved, with_master, wrote}
use Rattle.cluster_core.proofs.Nodes.Thins.{all_sent, none_sent}

-- the step of the master on a command that a frontend may send
may_come : (master : Master) (f line : List ℕ) (tag : Tag) (it : MCommand) → command_in line ≡ Some (tag, it)
    → (is_stream master (Frontend f) && not (may_follow_update it)) ≡ false → line_step master (Frontend f) line ≡ taken master (Frontend f) tag it
unfolding line_step line_by command_step
may_come master f line tag it read may =
    ap (line_by master (Frontend f) line) read ∙ ap (λ b. cond b (bad_step master (Frontend f) tag) (taken master (Frontend f) tag it)) may

never : (b : Bool) → (b && false) ≡ false
never true = refl
never false = refl

no_stream_yet : (master : Master) (f : List ℕ) → stream_of master f ≡ None → is_stream master (Frontend f) ≡ false
unfolding is_stream
no_stream_yet master f none = ap (λ (t : Option Tag). is_some t) none

-- what it does: its streams are nobody's still, and the frontend is told of backends
pub record IsAsked (nodes : Nodes) (master : Master) (f : List ℕ) (message : LinkMsg) : Type 0 where
  pub nobodys : TellNobody (node_says master f message).master.streams
  pub told : AllByRecursion (TellsBackends nodes) (messages_to f (node_says master f message).outs)

module _ (nodes : Nodes) (master : Master) (f : List ℕ) (no_backend : list_any (pointwise nat_eq f) master.backends ≡ false)
    (nobodys : TellNobody master.streams) (spelled : CanBeTold master.table) (kept : AreKeptAtBackends nodes master.table) where
  sender_is : sender_of master f ≡ Frontend f
  sender_is = ap (λ b. sender_by b f) no_backend

  says_line : (bytes : List ℕ) (tag : Tag) (it : MCommand) → command_in bytes ≡ Some (tag, it) → (is_stream master (Frontend f) && not (may_follow_update it)) ≡ false
      → node_says master f (Line bytes) ≡ let_out (taken master (Frontend f) tag it)
  unfolding node_says
  says_line bytes tag it read may =
      ap (λ (from : Sender). let_out (line_step master from bytes)) sender_is ∙ ap (λ (p : Planned). let_out p) (may_come master f bytes tag it read may)

  -- a NOOP

  noop_streams : (tag : Tag) → (taken master (Frontend f) tag command.Noop).master.streams ≡ master.streams
  unfolding settled replied
  noop_streams tag = refl

  noop_asked : (noop_message : LinkMsg) → IsNoop noop_message → IsAsked nodes master f noop_message
  noop_asked message noop =
      let read = may_come master f noop.bytes noop.tag command.Noop noop.read (never (is_stream master (Frontend f))) in
      let is : node_says master f (Line noop.bytes) ≡ let_out (taken master (Frontend f) noop.tag command.Noop) =
      says_line noop.bytes noop.tag command.Noop noop.read (never (is_stream master (Frontend f))) in
      let tells = noop_tells_nothing master (Frontend f) noop.bytes f noop.tag refl noop.read noop.other in
      subst (IsAsked nodes master f) (sym noop.is)
      (record {
        nobodys = subst TellNobody (sym (ap (λ (s : Served). s.master.streams) is ∙ noop_streams noop.tag)) nobodys;
        told = subst (λ (s : Served). AllByRecursion (TellsBackends nodes) (messages_to f s.outs)) (sym is)
            (no_news_tell nodes (messages_to f (taken master (Frontend f) noop.tag command.Noop).outs)
            (subst (λ (p : Planned). AreNoNews (messages_to f p.outs)) read tells.nothing));
      })

  -- its UPDATE

  update_told : messages_to f (taken master (Frontend f) update_tag command.Update).outs ≡ map (told_line update_tag) (table_lines master.table)
  unfolding settled replied reply_to update_reply change_outs
  update_told =
      settled_messages f (replied master (Frontend f) update_tag (update_reply master.table)) (Frontend f) update_tag stream.Begins
      ∙ reply_messages master f (Frontend f) update_tag (update_reply master.table)
      ∙ append-nil (messages_to f (map (answered (Frontend f) update_tag) (table_lines master.table)))
      ∙ own_answers f (Frontend f) update_tag (table_lines master.table) refl

  update_asked : stream_of master f ≡ None → IsAsked nodes master f (Line update_line)
  update_asked no_stream =
      let may : (is_stream master (Frontend f) && not (may_follow_update command.Update)) ≡ false = ap (λ b. b && true) (no_stream_yet master f no_stream) in
      let is : node_says master f (Line update_line) ≡ let_out (taken master (Frontend f) update_tag command.Update) =
      says_line update_line update_tag command.Update update_read may in
      record {
        nobodys = message_tells_nobody master f (Line update_line) nobodys (of_no_command (line_ask update_line) update_nobodys);
        told = subst (λ (s : Served). AllByRecursion (TellsBackends nodes) (messages_to f s.outs)) (sym is)
            (subst (AllByRecursion (TellsBackends nodes)) (sym update_told)
            (lines_tell nodes update_tag (table_lines master.table) (table_written update_tag update_tagged master.table spelled)
            (table_lines_at nodes master.table kept)));
      }

  -- where its link comes up or ends

  up_asked : (message : LinkMsg) → IsUp message → IsAsked nodes master f message
  unfolding node_says
  up_asked message is = subst (IsAsked nodes master f) (sym is) (record { nobodys = nobodys; told = tt })

  link_nobodys : (message : LinkMsg) → IsUpOrEnd message → TellNobody (node_says master f message).master.streams
  link_nobodys message (inl is) = subst (λ m. TellNobody (node_says master f m).master.streams) (sym is) (message_tells_nobody master f Up nobodys refl)
  link_nobodys message (inr is) = subst (λ m. TellNobody (node_says master f m).master.streams) (sym is) (message_tells_nobody master f End nobodys refl)

  -- so is each message of a frontend that is fed over a link that is whole

  asked_by : (before behind up : List LinkMsg) (message : LinkMsg) → message ∷ up ≡ before ++ Line update_line ∷ behind → AreNoopsOrUps before
      → stream_of master f ≡ None → IsAsked nodes master f message
  asked_by [] behind up message is noops none = (let first : message ≡ Line update_line = cc in subst (IsAsked nodes master f) (sym first) (update_asked none))
  asked_by (b ∷ before) behind up message is (inl noop, noops) none =
      (let first : message ≡ b = cc in subst (IsAsked nodes master f) (sym first) (noop_asked b noop))
  asked_by (b ∷ before) behind up message is (inr up_is, noops) none =
      (let first : message ≡ b = cc in subst (IsAsked nodes master f) (sym first) (up_asked b up_is))

  pub is_asked : (reached : Bool) (up down : List LinkMsg) (message : LinkMsg) (replica : Replica) → IsFed master f false reached (message ∷ up) down replica
      → IsAsked nodes master f message
  is_asked reached up down message replica (asks whole there before behind is one two lines none empty no_stream) = asked_by before behind up message is one no_stream
  is_asked reached up down message replica (is_told whole there are lines told stream) = noop_asked message are.0
  is_asked reached up down message replica (comes_up whole unreached ups is no_stream) = up_asked message ups.0
  is_asked reached up down message replica (breaks_early gone unreached ups ends is are less no_stream) = whole_not false gone refl
  is_asked reached up down message replica (is_parted gone own lines less tag) = whole_not false gone refl

  -- over a broken one its streams are nobody's still

  own_nobodys : (message : LinkMsg) → IsFrontsOwn message → TellNobody (node_says master f message).master.streams
  own_nobodys message (its_noop noop) = (noop_asked message noop).nobodys
  own_nobodys message (its_update is) =
      subst (λ m. TellNobody (node_says master f m).master.streams) (sym is)
      (message_tells_nobody master f (Line update_line) nobodys (of_no_command (line_ask update_line) update_nobodys))
  own_nobodys message (its_link is) = link_nobodys message is

  pub late_nobodys : (reached : Bool) (up down : List LinkMsg) (message : LinkMsg) (replica : Replica) → IsFed master f true reached (message ∷ up) down replica
      → TellNobody (node_says master f message).master.streams
  late_nobodys reached up down message replica (asks whole there before behind is one two lines none empty no_stream) = whole_not true refl whole
  late_nobodys reached up down message replica (is_told whole there are lines told stream) = whole_not true refl whole
  late_nobodys reached up down message replica (comes_up whole unreached ups is no_stream) = whole_not true refl whole
  late_nobodys reached up down message replica (breaks_early gone unreached ups ends is are less no_stream) = link_nobodys message ups.0
  late_nobodys reached up down message replica (is_parted gone own lines less tag) = own_nobodys message own.0

-- nobody else is told anything
others_untold : (master : Master) (f any : List ℕ) (tag : Tag) (it : MCommand) (made : Option MasterRecord) → f ≢ any → (reply_to master.table (Frontend f) it).entry ≡ made
    → made ≡ None → messages_to any (taken master (Frontend f) tag it).outs ≡ []
unfolding replied change_outs
others_untold master f any tag it (Some change) ne e none = cc
others_untold master f any tag it None ne e none =
    let reply : Reply = reply_to master.table (Frontend f) it in
    settled_messages any (replied master (Frontend f) tag reply) (Frontend f) tag (stream_step it)
    ∙ reply_messages master any (Frontend f) tag reply
    ∙ ap (λ l. l ++ messages_to any (change_outs master.streams master.watchers reply.entry)) (no_answers any (Frontend f) tag reply.answers ne)
    ∙ ap (λ m. messages_to any (change_outs master.streams master.watchers m)) e

bad_untold : (master : Master) (f any : List ℕ) (tag : Tag) → f ≢ any → messages_to any (bad_step master (Frontend f) tag).outs ≡ []
unfolding bad_step bad_reply replied change_outs
bad_untold master f any tag ne =
    reply_messages master any (Frontend f) tag bad_reply
    ∙ ap (λ l. l ++ messages_to any (change_outs master.streams master.watchers bad_reply.entry)) (no_answers any (Frontend f) tag bad_reply.answers ne)

replied_entry : (master : Master) (f : List ℕ) (tag : Tag) (reply : Reply) → (replied master (Frontend f) tag reply).entry ≡ reply.entry
unfolding replied
replied_entry master f tag reply = refl

step_untold : (master : Master) (f any : List ℕ) (next : Planned) → f ≢ any → StepIs master (Frontend f) next → next.entry ≡ None → messages_to any next.outs ≡ []
step_untold master f any _ ne (is_bad tag tagged) none = bad_untold master f any tag ne
step_untold master f any _ ne (is_taken tag it tagged has may) none =
    let reply : Reply = reply_to master.table (Frontend f) it in
    others_untold master f any tag it reply.entry ne refl
    (sym (replied_entry master f tag reply) ∙ sym (settled_entry (replied master (Frontend f) tag reply) f tag (stream_step it)) ∙ none)

line_untold : (master : Master) (f any bytes : List ℕ) → f ≢ any → messages_to any (line_step master (Frontend f) bytes).outs ≡ []
line_untold master f any bytes ne =
    step_untold master f any (line_step master (Frontend f) bytes) ne (step_is master (Frontend f) bytes)
    (none_written master f bytes (line_step master (Frontend f) bytes).entry refl)

pub front_untold : (master : Master) (f any : List ℕ) (message : LinkMsg) → list_any (pointwise nat_eq f) master.backends ≡ false → f ≢ any
    → messages_to any (node_says master f message).outs ≡ []
unfolding node_says
front_untold master f any (Line bytes) none ne =
    subst (λ (b : Bool). messages_to any (line_step master (sender_by b f) bytes).outs ≡ []) (sym none) (line_untold master f any bytes ne)
front_untold master f any End none ne = refl
front_untold master f any Up none ne = refl
front_untold master f any (Ask ask) none ne = refl
front_untold master f any (Answer answer) none ne = refl

module _ (config : Config) (world : World) (master : Master) (nodes : AreNodesOf config world master) (feeds : FeedsHold config world master)
    (f : List ℕ) (front : Front) (at : front_at world f ≡ Some front) (message : LinkMsg) (rest : List LinkMsg)
    (first : on_link world.links f (master_of config) ≡ message ∷ rest) where
  abbrev name : List ℕ
  name = master_of config

  abbrev says : Served
  says = node_says master f message

  abbrev links : Links LinkMsg
  links = without_first world.links f name

  no_backend : list_any (pointwise nat_eq f) master.backends ≡ false
  no_backend = (nodes.fronts f front at).no_backend

  own_feed : (cut : Bool) → is_broken world.broken name f ≡ cut → IsFed master f cut (is_up front.ups name) (message ∷ rest) (on_link world.links name f) front.replica
  own_feed cut is =
      subst (λ b. IsFed master f b (is_up front.ups name) (message ∷ rest) (on_link world.links name f) front.replica) is
      (subst (λ u. IsFed master f (is_broken world.broken name f) (is_up front.ups name) u (on_link world.links name f) front.replica) first (feeds.each f front at).fed)

  untold : (any : List ℕ) → f ≢ any → messages_to any says.outs ≡ []
  untold any ne = front_untold master f any message no_backend ne

  -- others are told nothing
  other_told : (any : List ℕ) (it : Front) → any ≢ f → front_at world any ≡ Some it
      → IsToldSo (home_at world) master says any (is_broken world.broken name any) (is_up it.ups name) (on_link links any name) (on_link world.links name any) it.replica
  other_told any it ne is = record {
    fed = subst (λ u. IsFed says.master any (is_broken world.broken name any) (is_up it.ups name) u (on_link world.links name any ++ messages_to any says.outs) it.replica)
        (sym (taken_else world.links f name any name (inl ne)))
        (others_keep_it master any f (is_broken world.broken name any) (is_up it.ups name) (on_link world.links any name) (on_link world.links name any) message it.replica
        feeds.streams (λ e. ne (sym e)) (feeds.each any it is).fed);
    told = subst (AllByRecursion (TellsBackends (home_at world))) (sym (untold any (λ e. ne (sym e)))) tt;
  }

  kept_then : AreKeptAtBackends (home_at world) says.master.table
  kept_then = subst (AreKeptAtBackends (home_at world)) (sym (front_table master f message no_backend)) feeds.kept

  -- ---- over a link that is whole

  module _ (whole : is_broken world.broken (master_of config) f ≡ false) where
    asked : IsAsked (home_at world) master f message
    asked = is_asked (home_at world) master f no_backend feeds.nobodys feeds.spelled feeds.kept (is_up front.ups name) rest (on_link world.links name f) message
        front.replica (own_feed false whole)

    own_told : IsToldSo (home_at world) master says f (is_broken world.broken name f) (is_up front.ups name) (on_link links f name) (on_link world.links name f) front.replica
    own_told = record {
      fed = subst (λ b. IsFed says.master f b (is_up front.ups name) (on_link links f name) (on_link world.links name f ++ messages_to f says.outs) front.replica) (sym whole)
          (subst (λ u. IsFed says.master f false (is_up front.ups name) u (on_link world.links name f ++ messages_to f says.outs) front.replica)
          (sym (taken_first world.links f name message rest first))
          (takes_keeps_it master f (is_up front.ups name) rest (on_link world.links name f) message front.replica feeds.streams feeds.spelled (own_feed false whole)));
      told = asked.told;
    }

    each_told : (any : List ℕ) (it : Front) → front_at world any ≡ Some it
        → IsToldSo (home_at world) master says any (is_broken world.broken name any) (is_up it.ups name) (on_link links any name) (on_link world.links name any) it.replica
    each_told any it is = ⊎_elim
        (λ (e : any ≡ f).
        (let same : front ≡ it = (let both : Some front ≡ Some it = sym at ∙ ap (front_at world) (sym e) ∙ is in cc) in
        subst (λ n. IsToldSo (home_at world) master says n (is_broken world.broken name n) (is_up it.ups name) (on_link links n name) (on_link world.links name n) it.replica)
        (sym e)
        (subst (λ (i : Front). IsToldSo (home_at world) master says f (is_broken world.broken name f) (is_up i.ups name) (on_link links f name) (on_link world.links name f)
        i.replica) same own_told)))
        (λ (ne : any ≢ f). other_told any it ne is)
        (same_or_other (slice_cmp nat_cmp) names_apart any f)

    pub master_asked_feeds : FeedsHold config (with_master (taken_from_link world f name) name (node_says master f message)) (node_says master f message).master
    master_asked_feeds =
        master_then_feeds config world master nodes feeds links says
        (λ any. taken_else world.links f name name any (inl (λ e. front_apart config world master nodes feeds f front at (sym e)))) each_told
        (says_order master f message feeds.streams) asked.nobodys (says_told master f message feeds.spelled) kept_then

  -- ---- over one that has broken: what it sends the frontend is lost

  module _ (cut : is_broken world.broken (master_of config) f ≡ true) (next : World) (cuts : next.broken ≡ world.broken)
      (fronts : (any : List ℕ) → front_at next any ≡ front_at world any) (homes : (any : List ℕ) → home_at next any ≡ home_at world any)
      (left : (a b : List ℕ) → on_link next.links a b ≡ on_link (without_first world.links f (master_of config)) a b) where
    same_homes : SameBackends (home_at world) (home_at next)
    same_homes server = ap is_some (homes server)

    down : (any : List ℕ) → on_link next.links name any ≡ on_link world.links name any
    down any = left name any ∙ taken_else world.links f name name any (inl (λ e. front_apart config world master nodes feeds f front at (sym e)))

    cut_as : (any : List ℕ) → is_broken next.broken name any ≡ is_broken world.broken name any
    cut_as any = ap (λ (b : Broken). is_broken b name any) cuts

    knows_then : (any : List ℕ) (it : Front) → front_at world any ≡ Some it → KnowsBackends (home_at next) (on_link next.links name any) it.replica
    knows_then any it is =
        subst (λ d. KnowsBackends (home_at next) d it.replica) (sym (down any))
        (knows_still (home_at world) (home_at next) (on_link world.links name any) it.replica same_homes (feeds.each any it is).knows)

    late_own : IsFedAt config next says.master f front
    late_own = record {
      fed = fed_linked says.master f true (is_broken next.broken name f) (is_up front.ups name) (is_up front.ups name) (on_link next.links f name) (on_link next.links name f)
          front.replica front.replica (cut_as f ∙ cut) refl refl
          (fed_moved says.master f true (is_up front.ups name) rest (on_link next.links f name) (on_link world.links name f) (on_link next.links name f) front.replica
          (left f name ∙ taken_first world.links f name message rest first) (down f)
          (late_keeps_it master f (is_up front.ups name) rest (on_link world.links name f) message front.replica feeds.streams (own_feed true cut)));
      knows = knows_then f front at;
    }

    late_other : (any : List ℕ) (it : Front) → any ≢ f → front_at world any ≡ Some it → IsFedAt config next says.master any it
    late_other any it ne is =
        let reached : Bool = is_up it.ups name in
        let sent : List LinkMsg = messages_to any says.outs in
        let none : on_link world.links name any ++ sent ≡ on_link world.links name any =
        ap (λ (m : List LinkMsg). on_link world.links name any ++ m) (untold any (λ e. ne (sym e))) ∙ append-nil (on_link world.links name any) in
        record {
          fed = fed_linked says.master any (is_broken world.broken name any) (is_broken next.broken name any) reached reached (on_link next.links any name)
              (on_link next.links name any) it.replica it.replica (cut_as any) refl refl
              (fed_moved says.master any (is_broken world.broken name any) reached (on_link links any name) (on_link next.links any name)
              (on_link world.links name any ++ sent) (on_link next.links name any) it.replica (left any name) (down any ∙ sym none) (other_told any it ne is).fed);
          knows = knows_then any it is;
        }

    late_each : (any : List ℕ) (it : Front) → front_at next any ≡ Some it → IsFedAt config next says.master any it
    late_each any it there =
        let is : front_at world any ≡ Some it = sym (fronts any) ∙ there in
        ⊎_elim
        (λ (e : any ≡ f).
        (let same : front ≡ it = (let both : Some front ≡ Some it = sym at ∙ ap (front_at world) (sym e) ∙ is in cc) in
        subst (λ n. IsFedAt config next says.master n it) (sym e) (subst (λ (i : Front). IsFedAt config next says.master f i) same late_own)))
        (λ (ne : any ≢ f). late_other any it ne is)
        (same_or_other (slice_cmp nat_cmp) names_apart any f)

    pub late_feeds_of : FeedsHold config next says.master
    late_feeds_of =
        let kept = kept_still (home_at world) (home_at next) says.master.table same_homes kept_then in
        record {
          each = late_each;
          streams = says_order master f message feeds.streams;
          nobodys = late_nobodys (home_at world) master f no_backend feeds.nobodys feeds.spelled feeds.kept (is_up front.ups name) rest (on_link world.links name f) message
              front.replica (own_feed true cut);
          spelled = says_told master f message feeds.spelled;
          backends = each_kept (home_at next) says.master.table kept;
          kept = kept;
        }

-- THE MASTER TAKES A MESSAGE OVER A LINK THAT HAS BROKEN
module _ (config : Config) (world : World) (master : Master) (nodes : AreNodesOf config world master) (feeds : FeedsHold config world master)
    (f : List ℕ) (front : Front) (at : front_at world f ≡ Some front) (message : LinkMsg) (rest : List LinkMsg)
    (cut : is_broken world.broken (master_of config) f ≡ true) (first : on_link world.links f (master_of config) ≡ message ∷ rest) where
  abbrev me : List ℕ
  me = master_of config

  abbrev took : World
  took = taken_from_link world f me

  abbrev put : World
  put = wrote took me (state.Master master) (From f message)

  abbrev left : Links LinkMsg
  left = without_first world.links f me

  abbrev late : Served
  late = record { master = (node_says master f message).master; outs = not_lost world.broken me (node_says master f message).outs }

  late_is : comes took me (From f message) ≡ with_master put me late
  unfolding comes_to node_takes master_takes
  late_is = ap (comes_to took me (From f message)) (master_is (node_at world me) master nodes.is_there)

  real : IsMade put me (state.Master late.master) late.outs (with_master put me late)
  real = is_made put me (state.Master late.master) late.outs

  moved : MasterMoved put me late.master (with_master put me late)
  moved = master_moved put me master late nodes.is_there

  -- nobody is sent anything
  unsent : (other : List ℕ) → messages_to other late.outs ≡ []
  unsent other = by (is_broken world.broken me other) refl
    where
      by : (broken : Bool) → is_broken world.broken me other ≡ broken → messages_to other late.outs ≡ []
      by true e = none_sent world.broken me other e (node_says master f message).outs
      by false e =
          all_sent world.broken me other e (node_says master f message).outs
          ∙ front_untold master f other message (nodes.fronts f front at).no_backend
          (λ same. (let no : true ≡ false = sym cut ∙ ap (is_broken world.broken me) same ∙ e in cc))

  links_are : (a b : List ℕ) → on_link (comes took me (From f message)).links a b ≡ on_link left a b
  links_are a b =
      ap (λ (w : World). on_link w.links a b) late_is ∙ ap (λ (l : Links LinkMsg). on_link l a b) real.links ∙ ⊎_elim
      (λ (e : a ≡ me).
      subst (λ n. on_link (put_all me left late.outs) n b ≡ on_link left n b) (sym e)
      (puts_own me left late.outs b ∙ ap (λ (l : List LinkMsg). on_link left me b ++ l) (unsent b) ∙ append-nil (on_link left me b)))
      (λ (ne : a ≢ me). puts_else me left late.outs a b ne)
      (same_or_other (slice_cmp nat_cmp) names_apart a me)

  pub late_feeds : FeedsHold config (comes (taken_from_link world f (master_of config)) (master_of config) (From f message)) (node_says master f message).master
  late_feeds =
      late_feeds_of config world master nodes feeds f front at message rest first cut (comes took me (From f message))
      (ap (λ (w : World). w.broken) late_is ∙ real.broken) (λ any. ap (λ (w : World). front_at w any) late_is ∙ moved.fronts any)
      (λ any. ap (λ (w : World). home_at w any) late_is ∙ moved.homes any) links_are
