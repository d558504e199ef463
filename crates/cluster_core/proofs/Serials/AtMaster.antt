-- The master takes a RESERVE (RFC 3656, 4.9): its serial stays where it was, or the RESERVE is answered OK, and is the first of its command that is.
use Rattle.std.proofs.Common.{◌≡◌, inl, ℕ, ◌≤◌, Bool, true, false, ◌&&◌, not, cond, is_some, nat_eq, List, ◌∷◌, Option, None, Some, refl, sym, ◌∙◌, ap, subst}
use Rattle.std.proofs.Common.{arith, eqb-true}
use Rattle.std.specs.Cmp.Lexicographic.{pointwise}
use Rattle.std.specs.List.{list_any}
use Rattle.back_links.specs.OneTalk.{HasTalk, link_of}
use Rattle.back_links.specs.Written.{command_message}
use Rattle.back_links.proofs.FirstLine.{its_line, says_reply}
use Rattle.back_links.proofs.Queues.{IsFirst, first_of}
use Rattle.back_links.proofs.Texts.{command_read}
use Rattle.back_node.specs.declared.node.BackNode.{BackNode}
use Rattle.front_core.proofs.OneConnection.Places.{about, about_command, of_connection}
use Rattle.guest_links.proofs.ServedLaw.{changes_are_of_the_table}
use Rattle.guest_links.specs.Happenings.{sends, step_of}
use Rattle.imap_talk.specs.Heard.{Heard}
use Rattle.link_msg.specs.declared.message.LinkMsg.{LinkMsg}
use Rattle.link_msg.specs.declared.message.LinkMsg.TheVariants.{Up, End, Line, Ask, Answer}
use Rattle.link_queue.specs.Links.{on_link, without_first}
use Rattle.many_links.specs.Murder.{Murder}
use Rattle.mark_history.specs.Marked.{Tale}
use Rattle.master_core.specs.declared.master.Master.{Master}
use Rattle.master_core.specs.declared.reply.Reply.{Reply}
use Rattle.master_core.specs.declared.sender.Sender.TheVariants.{Backend, Frontend}
use Rattle.master_core.specs.Linked.{node_says, sender_by, sender_of}
use Rattle.master_core.specs.Outside.{Stepped}
use Rattle.master_core.specs.Refusals.{reserve_refusal}
use Rattle.master_core.specs.Replies.{bad_reply, reply_to, reserve_reply}
use Rattle.master_core.specs.Step.{Planned, bad_step, command_step, line_by, line_step, replied, settled, table_with}
use Rattle.master_core.specs.Streams.{is_stream, may_follow_update, stream_step}
use Rattle.mupdate_codec.specs.Asks.{ask_id_of}
use Rattle.mupdate_codec.specs.declared.command.MCommand.{MCommand}
use Rattle.mupdate_codec.specs.declared.command.MCommand.TheVariants as command
use Rattle.mupdate_codec.specs.declared.tag.Tag.{Tag}
use Rattle.mupdate_codec.specs.Arguments.{exact}
use Rattle.mupdate_codec.specs.Commands.{command_line}
use Rattle.mupdate_codec.specs.Whole.{command_in}
use Rattle.mupdate_codec.proofs.LineAsks.{command_tells}
use Rattle.mupdate_codec.proofs.WholeLaw.{is_line}
use Rattle.mur_base.specs.declared.home.Location.{Location}
use Rattle.mur_base.specs.declared.point.AskId.{AskId}
use Rattle.mur_config.specs.declared.config.Config.{Config}
use Rattle.node_record.specs.declared.master.MasterRecord.{MasterRecord}
use Rattle.node_record.specs.Table.{MailboxTable}
use Rattle.cluster_core.proofs.Commands.InPlace.{IsThere}
use Rattle.cluster_core.proofs.Commands.Knows.Knows.{is_decided, undecided}
use Rattle.cluster_core.proofs.Commands.Place.{Place, at_backend, Place as place}
use Rattle.cluster_core.proofs.Points.Acts.{KnowsOf}
use Rattle.cluster_core.proofs.Points.Found.{IsFoundIn, found_in, in_answer, in_ask, in_line, in_noop, in_ok, in_response}
use Rattle.cluster_core.proofs.Points.ListWaits.{list_barred}
use Rattle.point_links.specs.Commands.{ClientCommand}
use Rattle.imap_types.specs.declared.command.Tag.{Tag as AnswerTag}
use Rattle.cluster_core.proofs.Connections.ConnectionLaw.{IsInPlaceOf}
use Rattle.cluster_core.proofs.Keeps.Numbers.{asked_fit}
use Rattle.cluster_core.proofs.Points.Waits.{TellsPlace, Whose, each_command_waits, first_tells, of_command, of_list, waits_fit}
use Rattle.cluster_core.proofs.Steps.MasterOwn.{line_is_taken}
use Rattle.cluster_core.proofs.Steps.MasterSteps.{HasAnswered, IsInBehind}
use Rattle.cluster_core.proofs.Steps.Murders.{at_own}
use Rattle.cluster_core.proofs.Steps.Outs.{own_it}
use Rattle.cluster_core.proofs.Steps.Worlds.{in_murder, in_world_behind, is_fed_front}
use Rattle.name_commands.specs.MasterSteps.{flow_reply}
use Rattle.name_commands.specs.Moves.{heard_move, is_sent}
use Rattle.name_commands.specs.Places.{IsKnown, IsNumbered, NamePlace, TalkShows, answer_message, downs_at, flows_at, NamePlace as name_at}
use Rattle.name_commands.specs.Replied.{IsReplied, name_activated, name_closed, name_deleted, name_reserved, serials_spent, table_full, was_active}
use Rattle.name_commands.specs.Replied.{was_reserved}
use Rattle.name_commands.specs.Whose.{is_of_connection, is_own_message, own_flow}
use Rattle.name_commands.proofs.AllLaw.{on_only}
use Rattle.name_commands.proofs.MasterLaw.{first as its_first, it_is}
use Rattle.name_commands.proofs.Own.{on_itself, own_here}
use Rattle.name_flows.specs.declared.flow.Flow.{Flow}
use Rattle.name_flows.specs.declared.flow.Stage.TheVariants.{Making, Reserving}
use Rattle.cluster_core.specs.declared.world.World.{World}
use Rattle.cluster_core.specs.Headline.Serials.{asks_reserve, is_reserve}
use Rattle.cluster_core.specs.Numbers.{NumbersFit}
use Rattle.cluster_core.specs.World.{home_at, master_of, taken_from_link}
use Rattle.cluster_core.proofs.Commands.Standing.{Fixed, next_id}
use Rattle.cluster_core.proofs.Connections.KeepsLaw.{IsFrontOf, KeepsLaw, fixed_of, murder_of}
use Rattle.cluster_core.proofs.Nodes.Comes.{master_moved, with_master}
use Rattle.cluster_core.proofs.OneServer.SerialsRise.{settled_entry}
use Rattle.cluster_core.proofs.Routing.Makes.{has_home}
use Rattle.cluster_core.proofs.Serials.Asked.{reserve_is_asked}
use Rattle.cluster_core.proofs.Serials.Awaits.{AwaitsMaster, is_barred_so}
use Rattle.cluster_core.proofs.Serials.GoesOnLines.{up_is_on}
use Rattle.cluster_core.proofs.Serials.InFlow.{its_connection, response_in_place, runs_there}
use Rattle.cluster_core.proofs.Serials.Reserved.{HasReserved, IsAmong, IsReserved, kept_among, making}
use Rattle.cluster_core.proofs.Serials.Reserved.HasReserved.{hears_ok, makes}

-- ---- a RESERVE of another node than a backend is refused

refused_entry : (table : MailboxTable) (node mailbox : List ℕ) (place : Location)
    → (reply_to table (Frontend node) (command.Reserve mailbox place)).entry ≡ None
unfolding reply_to reserve_reply reserve_refusal
refused_entry table node mailbox place = refl

module _ (master : Master) (node : List ℕ) (tag : Tag) (mailbox : List ℕ) (place : Location) where
  abbrev it : MCommand
  it = command.Reserve mailbox place

  abbrev planned : Bool → Planned
  planned bad = cond bad (bad_step master (Frontend node) tag)
      (settled (replied master (Frontend node) tag (reply_to master.table (Frontend node) it)) (Frontend node) tag (stream_step it))

  none_by : (bad : Bool) → (planned bad).entry ≡ None
  unfolding bad_step replied bad_reply
  none_by true = refl
  none_by false =
      settled_entry (replied master (Frontend node) tag (reply_to master.table (Frontend node) it)) (Frontend node) tag (stream_step it)
      ∙ refused_entry master.table node mailbox place

  line_none : (bytes : List ℕ) → command_in bytes ≡ Some (tag, it) → (line_step master (Frontend node) bytes).entry ≡ None
  unfolding line_step line_by command_step
  line_none bytes read =
      ap (λ (found : Option (Tag × MCommand)). (line_by master (Frontend node) bytes found).entry) read
      ∙ none_by (is_stream master (Frontend node) && not (may_follow_update it))

-- the table's serial stays
table_stays : (table : MailboxTable) (entry : Option MasterRecord) → entry ≡ None → (table_with table entry).serial ≤ table.serial
table_stays table entry none = omega (arith, ap (λ (e : Option MasterRecord). (table_with table e).serial) none)

refused_else : (master : Master) (from bytes : List ℕ) (tag : Tag) (mailbox : List ℕ) (place : Location)
    → command_in bytes ≡ Some (tag, command.Reserve mailbox place) → list_any (pointwise nat_eq from) master.backends ≡ false
    → (node_says master from (Line bytes)).master.table.serial ≤ master.table.serial
unfolding step_of
refused_else master from bytes tag mailbox place read other =
    let entry = (line_step master (sender_of master from) bytes).entry in
    subst (λ (t : MailboxTable). t.serial ≤ master.table.serial) (sym (changes_are_of_the_table master (sends from (Line bytes))))
    (table_stays master.table entry
    (ap (λ (b : Bool). (line_step master (sender_by b from) bytes).entry) other ∙ line_none master from tag mailbox place bytes read))

-- ---- the line of a backend

-- what a refusal or any other line leaves of the serial
entry_stays : (table : MailboxTable) (one other : Reply) → one ≡ other → (table_with table other.entry).serial ≤ table.serial
    → (table_with table one.entry).serial ≤ table.serial
entry_stays table one other same stays = subst (λ (r : Reply). (table_with table r.entry).serial ≤ table.serial) (sym same) stays

some_ask : (found : Option AskId) → is_some found ≡ true → (ask : AskId) × (found ≡ Some ask)
some_ask None e = cc
some_ask (Some ask) e = (ask, refl)

module _ (config : Config) (heard : ℕ → Heard) (world : World) (law : KeepsLaw config heard world) (fits : NumbersFit heard) (from : List ℕ)
    (message : LinkMsg) (rest : List LinkMsg) (first : on_link world.links from (master_of config) ≡ message ∷ rest) where
  abbrev fixed : Fixed
  fixed = fixed_of config

  abbrev story : Tale
  story = law.story

  abbrev murder : Murder
  murder = murder_of world law.master

  abbrev name : List ℕ
  name = master_of config

  abbrev table : MailboxTable
  table = law.master.table

  abbrev says : Stepped
  says = node_says law.master from message

  abbrev next : World
  next = with_master (taken_from_link world from name) name says

  -- a RESERVE of this connection's command is answered OK, and none of that command was before
  pub record IsGiven (conn : ℕ) : Type 0 where
    pub fresh : IsReserved name world conn → ⊥
    pub apart : AwaitsMaster name world conn → ⊥
    pub said : story.talk.answers conn ≡ story.told conn
    pub reserved : IsReserved name next conn

  -- what a line does to the serial
  pub data Gives : Type 0 where
    gives_none : says.master.table.serial ≤ table.serial → Gives
    gives_one : (conn : ℕ) → IsGiven conn → Gives

  module _ (node : BackNode) (there : home_at world from ≡ Some node) where
    abbrev down : List LinkMsg
    down = on_link world.links law.master.me from

    talk : HasTalk law.master from node (message ∷ rest) down law.given
    talk =
        subst (λ up. HasTalk law.master from node up down law.given) (ap (on_link world.links from) law.nodes.me ∙ first)
        ((law.many).each from node there).talk

    -- as the backend meant it
    table_then : (sent : IsFirst command_message message rest talk.ups)
        → says.master.table ≡ table_with table (reply_to table (Backend from) (sent.it).1).entry
    unfolding replied
    table_then sent =
        ap (λ (s : Stepped). s.master.table) (says_reply law.master from message sent.it (its_line law.master from node rest down law.given message talk sent))

    -- ---- of a command's flow

    module _ (conn : ℕ) (whose : about message ≡ of_connection conn) where
      abbrev id : AskId
      id = next_id conn (story.told conn)

      tells : TellsPlace fixed conn world story (law.stops conn) (heard conn) from name message
      tells = first_tells fixed conn world story (law.stops conn) (heard conn) from name message rest first whose
          (up_is_on config heard world law from node there message rest conn whose first) (law.connections conn)

      numbered : IsNumbered id
      numbered =
          waits_fit fixed conn tells.node tells.front tells.connection world story (law.stops conn) (heard conn) tells.here (asked_fit config heard world law fits)
          tells.at tells.who

      front_of : IsFrontOf config world law.master tells.node tells.front
      front_of = (law.nodes).fronts tells.node tells.front (tells.at).at

      module _ (me : Location) (mailbox : List ℕ) (flow : Flow) (server : me.server ≡ from)
          (is : tells.here ≡ place.is_at me (name_at.sends mailbox flow)) where
        abbrev sending : Place
        sending = place.is_at me (name_at.sends mailbox flow)

        placed : IsInPlaceOf fixed world tells.node (tells.front).replica id sending
        placed = subst (λ p. IsInPlaceOf fixed world tells.node (tells.front).replica id p) is tells.placed

        shown : TalkShows (is_of_connection conn) node (message ∷ rest) down (name_at.sends mailbox flow)
        shown =
            subst (λ m. TalkShows (is_of_connection conn) node (message ∷ rest) (on_link world.links m from) (name_at.sends mailbox flow)) (sym law.nodes.me)
            (subst (λ up. TalkShows (is_of_connection conn) node up (on_link world.links name from) (name_at.sends mailbox flow)) first
            (subst (λ p. TalkShows (is_of_connection conn) node (on_link world.links from name) (on_link world.links name from) p)
            (at_own me from (name_at.sends mailbox flow) server) (placed.shows from node there)))

        answered : HasAnswered murder from node message rest tells.node (tells.front).replica id mailbox flow
        answered =
            (line_is_taken murder law.given story.course.store from node message tells.node (tells.front).replica id me mailbox flow
            (record {
              holds = law.many;
              nobodys = law.feeds.nobodys;
              first = record { rest = rest; first = ap (on_link world.links from) law.nodes.me ∙ first };
            }) there
            (is_fed_front config world law.master law.nodes law.feeds tells.node tells.front id (tells.at).at numbered) whose
            (up_is_on config heard world law from node there message rest conn whose first) server
            (in_murder fixed world law.master law.nodes.me tells.node (tells.front).replica id sending placed)).1

        abbrev reply : Reply
        reply = flow_reply table from node.flows.me mailbox flow

        reply_is : says.master.table ≡ table_with table reply.entry
        reply_is =
            let own = own_it conn message whose in
            table_then (its_first (is_of_connection conn) law.master from node rest down law.given message mailbox flow talk law.feeds.nobodys own shown)
            ∙ ap (λ (it : Tag × MCommand). table_with table (reply_to table (Backend from) it.1).entry)
            (it_is (is_of_connection conn) law.master from node rest down law.given message mailbox flow talk law.feeds.nobodys own shown)

        stays_with : (other : Reply) → reply ≡ other → (table_with table other.entry).serial ≤ table.serial → Gives
        stays_with other same stays =
            gives_none (subst (λ (t : MailboxTable). t.serial ≤ table.serial) (sym reply_is) (entry_stays table reply other same stays))

        -- its flow in the world behind the step
        hearing : IsInPlaceOf fixed next tells.node (tells.front).replica id (place.is_at node.flows.me (name_at.hears mailbox flow answered.step.it))
        hearing =
            in_world_behind fixed world law.master law.nodes.me (without_first world.links from name) says law.nodes.is_there tells.node
            (tells.front).replica id (place.is_at node.flows.me (name_at.hears mailbox flow answered.step.it))
            (subst (λ m. IsInBehind murder (without_first world.links from m) says tells.node (tells.front).replica id
            (place.is_at node.flows.me (name_at.hears mailbox flow answered.step.it))) law.nodes.me answered.placed)

        -- ---- it is answered OK

        -- a flow that is reserved already is another
        downs_none : (server : List ℕ) (it : LinkMsg) → IsAmong it (downs_at (at_backend server sending)) → ⊥
        downs_none server it = by (pointwise nat_eq me.server server)
          where
            by : (own : Bool) → IsAmong it (downs_at (cond own (name_at.sends mailbox flow) name_at.nowhere)) → ⊥
            by true among = among
            by false among = among

        one_flow : (server its : List ℕ) (other : Flow) → flows_at (at_backend server sending) its ≡ Some other → flow ≡ other
        one_flow server its other e = by (pointwise nat_eq me.server server) e
          where
            by : (own : Bool) → flows_at (cond own (name_at.sends mailbox flow) name_at.nowhere) its ≡ Some other → flow ≡ other
            by true h = (on_only mailbox flow its other h).1
            by false h = cc

        never_both : (down_there : List LinkMsg) (server its : List ℕ) (backend : BackNode) (up_there : List LinkMsg) (other : Flow) → flow.stage ≡ Reserving
            → TalkShows (is_of_connection conn) backend up_there down_there (at_backend server sending)
            → flows_at (at_backend server sending) its ≡ Some other → HasReserved its other down_there → ⊥
        never_both down_there server its backend up_there other stage its_shown e (makes at) =
            let no : Reserving ≡ Making = sym stage ∙ ap (λ (f : Flow). f.stage) (one_flow server its other e) ∙ at in cc
        never_both down_there server its backend up_there other stage its_shown e (hears_ok it among known heard_so) =
            downs_none server (answer_message other it)
            (response_in_place conn server backend up_there down_there sending its_shown its other e it among)

        fresh : flow.stage ≡ Reserving → IsReserved name world conn → ⊥
        fresh stage other =
            let own : is_of_connection conn (other.flow).ask ≡ true = its_connection conn other.flow other.own in
            let its_shown = placed.shows other.server other.node other.there in
            never_both (on_link world.links name other.server) other.server other.name other.node (on_link world.links other.server name) other.flow
            stage its_shown
            (sym ((its_shown.at).running other.name) ∙ ap (own_flow (is_of_connection conn)) other.runs ∙ own_here (is_of_connection conn) other.flow own)
            other.reserved

        -- its frontend doesn't wait for the master
        apart : AwaitsMaster name world conn → ⊥
        apart awaits =
            let barred = is_barred_so config heard world law conn awaits in
            let none = (((barred.placed).shows from node there).at).running mailbox in
            (let no : None ≡ Some flow = sym none ∙ (shown.at).running mailbox ∙ on_itself mailbox flow in cc)

        said_by : (tag : AnswerTag) (c : ClientCommand) → KnowsOf fixed tells.node conn tag c story sending → story.talk.answers conn ≡ story.told conn
        said_by tag c (undecided same was waits_on) = same
        said_by tag c (is_decided turn same session ends_so brings) = absurd brings

        said_of : Whose fixed conn tells.node tells.connection world story (law.stops conn) (heard conn) tells.here → story.talk.answers conn ≡ story.told conn
        said_of (of_command who) =
            let waits = each_command_waits fixed conn tells.node tells.front tells.connection world story (law.stops conn) (heard conn) tells.here tells.at tells.count who in
            said_by waits.tag waits.c (subst (λ p. KnowsOf fixed tells.node conn waits.tag waits.c story p) is waits.knows)
        said_of (of_list who) =
            let barred = list_barred fixed conn tells.node tells.connection world story (law.stops conn) (heard conn) tells.here who in
            absurd (let no : sending ≡ place.is_barred barred.at = sym is ∙ barred.is in cc)

        reserved_then : heard_move mailbox flow answered.step.it ≡ Some (is_sent mailbox (making flow)) → IsReserved name next conn
        reserved_then heard_so =
            let it = answered.step.it in
            let own = is_of_connection conn in
            let there_then : home_at next from ≡ Some node =
            (master_moved (taken_from_link world from name) name law.master says law.nodes.is_there).homes from ∙ there in
            let its_shown = hearing.shows from node there_then in
            let at : at_backend from (place.is_at node.flows.me (name_at.hears mailbox flow it)) ≡ name_at.hears mailbox flow it =
            at_own node.flows.me from (name_at.hears mailbox flow it) ((law.many).each from node there).talk.each.named in
            let runs = runs_there conn from node (on_link next.links from name) (on_link next.links name from)
            (place.is_at node.flows.me (name_at.hears mailbox flow it)) its_shown mailbox flow
            (ap (λ (p : NamePlace). flows_at p mailbox) at ∙ on_itself mailbox flow) in
            record {
              server = from;
              node = node;
              there = there_then;
              name = mailbox;
              flow = flow;
              runs = runs.0;
              own = eqb-true (flow.ask).conn conn runs.1;
              reserved = hears_ok it
                  (kept_among (is_own_message own) (answer_message flow it) (on_link next.links name from)
                  (subst (IsAmong (answer_message flow it)) (sym (its_shown.down_is ∙ ap downs_at at)) (inl refl)))
                  (subst IsKnown at its_shown.known) heard_so;
            }

        by_reply : IsReplied table node.flows.me mailbox flow answered.step.it reply → Gives
        by_reply (name_reserved stage free same heard_so) =
            gives_one conn (record { fresh = fresh stage; apart = apart; said = said_of tells.who; reserved = reserved_then heard_so })
        by_reply (was_active stage active same heard_so) = stays_with _ same (omega arith)
        by_reply (was_reserved stage reserved same heard_so) = stays_with _ same (omega arith)
        by_reply (serials_spent stage free spent same heard_so) = stays_with _ same (omega arith)
        by_reply (name_activated stage room same heard_so) = stays_with _ same (omega arith)
        by_reply (table_full stage full same heard_so) = stays_with _ same (omega arith)
        by_reply (name_closed stage same heard_so) = stays_with _ same (omega arith)
        by_reply (name_deleted stage same heard_so) = stays_with _ same (omega arith)

        line_gives : Gives
        line_gives = by_reply answered.step.replied

      -- ---- it is the line of its flow

      no_front : tells.node ≡ from → ⊥
      no_front e = let no : None ≡ Some node = sym front_of.no_home ∙ ap (home_at world) e ∙ there in cc

      by_found : (here : Place) → tells.here ≡ here → IsFoundIn name tells.node id from name message here → Gives
      by_found _ is (in_noop e1 e2 e3) = absurd (no_front e1)
      by_found _ is (in_ask server ask e1 e2 e3) = absurd (no_front e1)
      by_found _ is (in_answer server answer e1 e2 e3) = absurd (front_of.no_master e2)
      by_found _ is (in_ok known e1 e2 e3) = absurd (front_of.no_master e2)
      by_found _ is (in_response me mailbox flow it e1 e2 e3) =
          let its = subst (λ p. IsThere (home_at world) p) is (tells.placed).there in
          absurd (((law.many).each name its.0 (ap (home_at world) (sym e2) ∙ its.1)).apart (sym law.nodes.me))
      by_found _ is (in_line me mailbox flow e1 e2 e3) = line_gives me mailbox flow e1 is

      own_gives : Gives
      own_gives = by_found tells.here refl (found_in name tells.node id from name message tells.here tells.is_found)

    -- ---- a RESERVE is the line of some flow

    same_line : (it : Tag × MCommand) (bytes : List ℕ) → command_message it ≡ Line bytes → (command_line exact).text it ≡ bytes
    same_line it bytes e = cc

    one_command : {one other : Tag × MCommand} → Some one ≡ Some other → one ≡ other
    one_command e = cc

    reserve_gives : (bytes : List ℕ) (tag : Tag) (mailbox : List ℕ) (place_of : Location) → message ≡ Line bytes
        → command_in bytes ≡ Some (tag, command.Reserve mailbox place_of) → Gives
    reserve_gives bytes tag mailbox place_of line read =
        let it : Tag × MCommand = (tag, command.Reserve mailbox place_of) in
        let sent : IsFirst command_message message rest talk.ups = first_of command_message message rest talk.ups talk.written.up_is in
        let its = its_line law.master from node rest down law.given message talk sent in
        let same : sent.it ≡ it =
        one_command (sym (command_read sent.it its.spelled) ∙ ap (λ (b : List ℕ). command_in b) (same_line sent.it bytes (sym its.is ∙ line)) ∙ read) in
        let asked = reserve_is_asked (link_of law.master node talk.ups talk.downs) tag mailbox place_of sent.more talk.holds.names.is.tied
        (sent.are ∙ ap (λ (i : Tag × MCommand). i ∷ sent.more) same) in
        let ask = some_ask (ask_id_of tag) asked in
        own_gives (ask.0).conn (ap about line ∙ ap about_command (command_tells bytes it (is_line bytes it read) ∙ ask.1))

  -- ---- whoever sends it

  by_sender : (backend : Bool) → list_any (pointwise nat_eq from) law.master.backends ≡ backend → (bytes : List ℕ) (tag : Tag) (mailbox : List ℕ)
      (place_of : Location) → message ≡ Line bytes → command_in bytes ≡ Some (tag, command.Reserve mailbox place_of) → Gives
  by_sender false e bytes tag mailbox place_of line read =
      gives_none (subst (λ (m : LinkMsg). (node_says law.master from m).master.table.serial ≤ table.serial) (sym line)
      (refused_else law.master from bytes tag mailbox place_of read e))
  by_sender true e bytes tag mailbox place_of line read =
      let node = has_home (home_at world from) ((law.nodes).homes from ∙ e) in reserve_gives node.0 node.1 bytes tag mailbox place_of line read

  by_command : (bytes : List ℕ) (found : Option (Tag × MCommand)) → message ≡ Line bytes → command_in bytes ≡ found → is_reserve found ≡ true → Gives
  by_command bytes None line read is = cc
  by_command bytes (Some (tag, command.Reserve mailbox place_of)) line read is =
      by_sender (list_any (pointwise nat_eq from) law.master.backends) refl bytes tag mailbox place_of line read
  by_command bytes (Some (tag, command.Activate mailbox place_of acl)) line read is = cc
  by_command bytes (Some (tag, command.Deactivate mailbox place_of)) line read is = cc
  by_command bytes (Some (tag, command.Delete mailbox)) line read is = cc
  by_command bytes (Some (tag, command.Find mailbox)) line read is = cc
  by_command bytes (Some (tag, command.List prefix)) line read is = cc
  by_command bytes (Some (tag, command.Update)) line read is = cc
  by_command bytes (Some (tag, command.Noop)) line read is = cc
  by_command bytes (Some (tag, command.Logout)) line read is = cc

  by_message : (it : LinkMsg) → message ≡ it → asks_reserve it ≡ true → Gives
  by_message (Line bytes) same is = by_command bytes (command_in bytes) same refl is
  by_message Up same is = cc
  by_message End same is = cc
  by_message (Ask ask) same is = cc
  by_message (Answer answer) same is = cc

  -- THE MASTER TAKES A RESERVE
  pub master_gives : asks_reserve message ≡ true → Gives
  master_gives is = by_message message refl is
