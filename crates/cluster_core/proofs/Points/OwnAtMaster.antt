-- The master takes a message that is about a command: its NOOP, or the line of its flow. The link is whole, and the message isn't of a command that is over.
use Rattle.std.proofs.Common.{◌≡◌, ℕ, ◌+◌, true, false, List, [], ◌∷◌, ◌++◌, length, Option, None, Some, refl, sym, ◌∙◌, ap, subst}
use Rattle.asking_core.specs.declared.waiting.At.{At}
use Rattle.asking_core.specs.declared.waiting.At.TheVariants.{Home}
use Rattle.back_links.specs.MasterEvents.{given_in}
use Rattle.back_node.specs.declared.node.BackNode.{BackNode}
use Rattle.cluster_core.specs.World.{master_of, client_at, front_at, home_at, taken_from_link}
use Rattle.front_core.proofs.OneConnection.Places.{about, is_over, of_connection}
use Rattle.front_core.specs.declared.front.Front.{Front}
use Rattle.imap_talk.specs.Heard.{Heard}
use Rattle.imap_types.specs.declared.request.Request.TheVariants.{Command as a_command}
use Rattle.link_msg.specs.declared.counts.Counts.{Counts}
use Rattle.link_msg.specs.declared.counts.Counts.TheVariants.{IfAnswered}
use Rattle.link_msg.specs.declared.message.LinkMsg.{LinkMsg}
use Rattle.link_queue.specs.Broken.{is_broken}
use Rattle.link_queue.specs.Links.{on_link, without_first}
use Rattle.many_links.specs.Murder.{Murder, after_master, master_takes as murder_takes}
use Rattle.many_links.specs.ManyHold.{ManyHold}
use Rattle.mark_history.specs.Marked.{Tale}
use Rattle.mark_history.specs.declared.mark.Mark.{Mark}
use Rattle.master_core.specs.Linked.{node_says}
use Rattle.master_core.specs.Outside.{Stepped}
use Rattle.mupdate_codec.specs.declared.command.MResponse.{MResponse}
use Rattle.mupdate_codec.specs.Asks.{ask_id_of, tag_of}
use Rattle.mupdate_codec.proofs.AsksLaw.{ask_again}
use Rattle.mupdate_codec.proofs.LineAsks.{own_command}
use Rattle.mur_base.specs.declared.home.Location.{Location}
use Rattle.mur_base.specs.declared.point.AskId.{AskId}
use Rattle.mur_config.specs.declared.config.Config.{Config}
use Rattle.mur_model.specs.declared.store.Store.{Store}
use Rattle.mur_model.specs.History.{numbered}
use Rattle.node_step.specs.declared.node.NodeState.TheVariants as state
use Rattle.name_commands.specs.MasterSteps.{flow_reply}
use Rattle.name_commands.specs.Places.{IsNumbered, TalkShows, flow_message, stage_command, NamePlace as name_at}
use Rattle.name_commands.specs.Whose.{is_command, is_of_connection, is_own, is_own_message}
use Rattle.name_commands.proofs.Own.{is_itself}
use Rattle.name_flows.specs.declared.flow.Flow.{Flow}
use Rattle.name_links.specs.Serials.{Given}
use Rattle.node_record.specs.Table.{MailboxTable}
use Rattle.point_links.specs.Barriers.{NoopComes}
use Rattle.point_links.specs.Commands.{ClientCommand}
use Rattle.point_links.specs.FlowLines.{LineComes}
use Rattle.route_links.specs.Answered.{noop_of}
use Rattle.route_links.specs.Barriers.{Place as barrier}
use Rattle.cluster_core.specs.declared.world.World.{World}
use Rattle.cluster_core.proofs.Commands.InPlace.{IsThere}
use Rattle.cluster_core.proofs.Commands.Knows.{IsFlowOf, Undecided}
use Rattle.cluster_core.proofs.Commands.Place.{Place, at_backend, Place as place}
use Rattle.cluster_core.proofs.Commands.Standing.{Fixed, WaitsAt, next_id}
use Rattle.cluster_core.proofs.Connections.ConnectionLaw.{IsInPlaceOf, IsMarkedAt}
use Rattle.cluster_core.proofs.Connections.KeepsLaw.{KeepsLaw, fixed_of, murder_of}
use Rattle.cluster_core.proofs.Feeds.Many.{master_murder}
use Rattle.cluster_core.proofs.Nodes.Carried.{is_made, marks_made}
use Rattle.cluster_core.proofs.Nodes.Comes.{master_moved, with_master}
use Rattle.cluster_core.proofs.Steps.MasterOwn.{line_is_taken, noop_is_taken}
use Rattle.cluster_core.proofs.Steps.MasterSteps.{HasAnswered, IsFedFront, IsInBehind, MasterTakes}
use Rattle.cluster_core.proofs.Steps.Murders.{IsFront, at_own}
use Rattle.cluster_core.proofs.Steps.Narrow.{narrows}
use Rattle.cluster_core.proofs.Steps.Worlds.{in_murder, in_world_behind, is_fed_front, is_front, master_takes}
use Rattle.cluster_core.proofs.Points.Acts.{home_mark}
use Rattle.cluster_core.proofs.Commands.Moving.{MovesBy}
use Rattle.cluster_core.proofs.Points.AtBarrier.{ClearsIt, IsDecidedSo, cleared_at, is_point as is_its_point, is_seen as is_only_seen, noop_clears}
use Rattle.cluster_core.proofs.Points.AtMaster.{LineGoes, each_line_goes, heard_at, is_point, is_seen, waits_on}
use Rattle.cluster_core.proofs.Points.Found.{IsFoundIn, found_in, in_answer, in_ask, in_line, in_noop, in_ok, in_response}
use Rattle.cluster_core.proofs.Points.ListPoint.{list_is_own}
use Rattle.cluster_core.proofs.Points.ListWaits.{each_list_waits}
use Rattle.cluster_core.proofs.Points.Own.{Leaves, Outcome, OwnStep, made_by, of_carried, of_known, of_seen, own_step}
use Rattle.cluster_core.proofs.Points.Waits.{AskedFit, BringsNothing, CommandWaits, IsOpenAt, TellsPlace, Whose, of_command, of_list}
use Rattle.cluster_core.proofs.Points.Waits.{each_command_waits, first_tells, is_open_there, waits_fit, whom_barred}

-- a message of a flow is its command's
flow_own : (me : Location) (name : List ℕ) (flow : Flow) (id : AskId) → IsNumbered id → flow.ask ≡ id → is_own_message (is_command id) (flow_message me name flow) ≡ true
flow_own me name flow id fit its =
    ap (λ (i : Option AskId). is_own (is_command id) i)
    (own_command flow.ask (stage_command me name flow.stage) ∙ ap (λ (a : AskId). ask_id_of (tag_of a)) its ∙ ask_again id fit.0 fit.1)
    ∙ is_itself id

module _ (config : Config) (heard : ℕ → Heard) (world : World) (law : KeepsLaw config heard world) (conn : ℕ)
    (fits : IsNumbered (next_id conn (law.story.told conn))) where
  abbrev story : Tale
  story = law.story

  abbrev fixed : Fixed
  fixed = fixed_of config

  abbrev id : AskId
  id = next_id conn (story.told conn)

  abbrev murder : Murder
  murder = murder_of world law.master

  abbrev store : Store
  store = story.course.store

  abbrev name : List ℕ
  name = master_of config

  abbrev says : List ℕ → LinkMsg → Stepped
  says from message = node_says law.master from message

  abbrev then : List ℕ → LinkMsg → World
  then from message = with_master (taken_from_link world from name) name (says from message)

  abbrev OwnWith : List ℕ → LinkMsg → Given → Type 0
  OwnWith from message given = OwnStep config conn (law.stops conn) (heard conn) world story (then from message) (says from message).master given

  abbrev OwnAtMaster : List ℕ → LinkMsg → Type 0
  OwnAtMaster from message = (given : Given) × OwnWith from message given

  module _ (fnode : List ℕ) (front : Front) (here : Place) (at : front_at world fnode ≡ Some front)
      (waits : CommandWaits fixed conn fnode front world story (law.stops conn) (heard conn) here) (placed : IsInPlaceOf fixed world fnode front.replica id here) where
    abbrev c : ClientCommand
    c = waits.c

    its_front : IsFront murder fnode
    its_front = is_front config world law.master law.nodes fnode front at

    numbered_c : IsNumbered c.id
    numbered_c = subst IsNumbered (sym waits.its) fits

    abbrev fed : IsFedFront murder fnode front.replica id
    fed = is_fed_front config world law.master law.nodes law.feeds fnode front id at fits

    asked : numbered (story.talk.requests conn) (length (story.told conn) + 1) ≡ Some (a_command waits.tag c.it)
    asked = ap (λ r. numbered r (length (story.told conn) + 1)) (law.requests conn) ∙ waits.asked

    opened_at : BringsNothing here → IsOpenAt fixed fnode conn world.broken world.steps world.marks story waits.tag c here
    opened_at none = is_open_there fixed fnode conn world.broken world.steps world.marks story waits.tag c here law.is_told waits.setting_is waits.its asked waits.knows none

    module _ (from : List ℕ) (message : LinkMsg) (same : client_at (then from message) conn ≡ client_at world conn) where
      leaves : (counts : Option Counts) → marks_made world.steps (says from message).outs ≡ made_by world.steps c.id counts
          → Leaves config conn fnode front world story (law.stops conn) (heard conn) here waits (then from message) counts
      leaves counts marks =
          let made = is_made (taken_from_link world from name) name (state.Master (says from message).master) (says from message).outs in
          record {
            fronts = (master_moved (taken_from_link world from name) name law.master (says from message) law.nodes.is_there).fronts fnode;
            clients = same;
            broken = made.broken;
            steps = made.steps;
            marks = made.marks ∙ ap (λ (m : List Mark). world.marks ++ m) marks;
          }

    many : (from : List ℕ) (message : LinkMsg) (given : Given) (later : Store) → ManyHold (murder_takes murder from message) given later
        → ManyHold (murder_of (then from message) (says from message).master) given later
    many from message given later hold =
        master_murder config world law.master law.given store law.nodes law.many (without_first world.links from name) (says from message) given later
        (subst (λ m. ManyHold (after_master murder (without_first world.links from m) (says from message)) given later) law.nodes.me hold)

    behind : (from : List ℕ) (message : LinkMsg) (there : Place)
        → IsInBehind murder (without_first world.links from law.master.me) (says from message) fnode front.replica id there
        → IsInPlaceOf fixed (then from message) fnode front.replica id there
    behind from message there is =
        in_world_behind fixed world law.master law.nodes.me (without_first world.links from name) (says from message) law.nodes.is_there fnode front.replica id there
        (subst (λ m. IsInBehind murder (without_first world.links from m) (says from message) fnode front.replica id there) law.nodes.me is)

    takes : (from : List ℕ) (message : LinkMsg) (rest : List LinkMsg) → on_link world.links from name ≡ message ∷ rest
        → MasterTakes murder law.given store from message
    takes from message rest first = master_takes config world law.master law.nodes law.feeds law.given store from message rest law.many first

    -- ---- its NOOP

    abbrev table : MailboxTable
    table = law.master.table

    noop_comes : NoopComes murder law.given store fnode c.id
    noop_comes = record { holds = law.many; its_front = (law.nodes.fronts fnode front at).no_backend; numbered = numbered_c }

    -- its step leaves the table as it was
    same_table : {next : Stepped} → node_says murder.master fnode (noop_of c.id) ≡ next → (says fnode (noop_of id)).master.table ≡ next.master.table
    same_table e = ap (λ i. (says fnode (noop_of i)).master.table) (sym waits.its) ∙ ap (λ (s : Stepped). s.master.table) e

    decided_so : IsDecidedSo fixed fnode conn world.broken world.steps world.marks story waits.tag c table
        → Outcome fixed fnode conn world.broken world.steps world.marks story waits.tag c store (Some IfAnswered) (cleared_at table)
    decided_so (is_its_point done) = of_carried fixed fnode conn world.broken world.steps world.marks story waits.tag c (cleared_at table) store IfAnswered done
    decided_so (is_only_seen seen) = of_seen fixed fnode conn world.broken world.steps world.marks story waits.tag c (cleared_at table) seen

    noop_own : (rest : List LinkMsg) → here ≡ place.is_barred barrier.asked → is_broken world.broken name fnode ≡ false
        → on_link world.links fnode name ≡ noop_of id ∷ rest → client_at (then fnode (noop_of id)) conn ≡ client_at world conn
        → MovesBy story.talk.moving world.steps (says fnode (noop_of id)).master.table → OwnWith fnode (noop_of id) law.given
    noop_own rest asks whole first same moves =
        let opened = opened_at (subst BringsNothing (sym asks) tt) in
        let clears : ClearsIt fixed fnode conn world.broken world.steps world.marks story waits.tag c murder law.given =
        noop_clears fixed fnode conn world.broken world.steps world.marks story waits.tag c murder law.given opened.is_open noop_comes in
        own_step config conn fnode front world story (law.stops conn) (heard conn) here waits (then fnode (noop_of id)) (says fnode (noop_of id)).master law.given store
        (Some IfAnswered) (cleared_at table)
        (leaves fnode (noop_of id) same (Some IfAnswered)
        (ap (λ i. marks_made world.steps (node_says law.master fnode (noop_of i)).outs) (sym waits.its)
        ∙ ap (λ (s : Stepped). marks_made world.steps s.outs) clears.step))
        (decided_so clears.decides)
        (many fnode (noop_of id) law.given store (subst (λ i. ManyHold (murder_takes murder fnode (noop_of i)) law.given store) waits.its clears.then_holds))
        (behind fnode (noop_of id) (cleared_at table)
        (noop_is_taken murder law.given store fnode front.replica id (takes fnode (noop_of id) rest first) fed whole
        (in_murder fixed world law.master law.nodes.me fnode front.replica id (place.is_barred barrier.asked)
        (subst (λ p. IsInPlaceOf fixed world fnode front.replica id p) asks placed))))
        (subst (λ i. IsMarkedAt story.talk.moving (world.marks ++ home_mark world.steps c.id IfAnswered ∷ []) i (cleared_at table)) waits.its
        (record { step = world.steps; saw = clears.marked; moves = subst (MovesBy story.talk.moving world.steps) (same_table clears.step) moves })) tt
        (subst (λ p. (a : At) → WaitsAt a p → WaitsAt a (cleared_at table)) (sym asks) (λ a is. whom_barred barrier.asked (barrier.answered table) a is))

    -- ---- the line of its flow

    module _ (from : List ℕ) (message : LinkMsg) (rest : List LinkMsg) (first : on_link world.links from name ≡ message ∷ rest)
        (own : about message ≡ of_connection conn) (on : is_over id.command message ≡ false)
        (same : client_at (then from message) conn ≡ client_at world conn)
        (node : BackNode) (there : home_at world from ≡ Some node) (me : Location) (mailbox : List ℕ) (flow : Flow)
        (its_line : flow_message me mailbox flow ≡ message) (sends : here ≡ place.is_at me (name_at.sends mailbox flow)) (server : me.server ≡ from) where
      opened : IsOpenAt fixed fnode conn world.broken world.steps world.marks story waits.tag c here
      opened = opened_at (subst BringsNothing (sym sends) tt)

      of_flow : IsFlowOf fnode c mailbox flow
      of_flow = subst (λ p. Undecided fixed.master fixed.first fnode c p) sends opened.tells

      of : IsFlowOf fnode c c.name flow
      of = subst (λ n. IsFlowOf fnode c n flow) of_flow.name_is of_flow

      first_at : on_link world.links from law.master.me ≡ message ∷ rest
      first_at = ap (on_link world.links from) law.nodes.me ∙ first

      conn_is : c.id.conn ≡ conn
      conn_is = ap (λ (i : AskId). i.conn) waits.its

      shown : TalkShows (is_of_connection c.id.conn) node (message ∷ rest) (on_link world.links law.master.me from) (name_at.sends c.name flow)
      shown =
          subst (λ k. TalkShows (is_of_connection k) node (message ∷ rest) (on_link world.links law.master.me from) (name_at.sends c.name flow)) (sym conn_is)
          (subst (λ m. TalkShows (is_of_connection conn) node (message ∷ rest) (on_link world.links m from) (name_at.sends c.name flow)) (sym law.nodes.me)
          (subst (λ n. TalkShows (is_of_connection conn) node (message ∷ rest) (on_link world.links name from) (name_at.sends n flow)) of_flow.name_is
          (subst (λ u. TalkShows (is_of_connection conn) node u (on_link world.links name from) (name_at.sends mailbox flow)) first
          (subst (λ p. TalkShows (is_of_connection conn) node (on_link world.links from name) (on_link world.links name from) p)
          (ap (at_backend from) sends ∙ at_own me from (name_at.sends mailbox flow) server) (placed.shows from node there)))))

      comes : LineComes murder law.given store c from node message rest flow
      comes = record {
        holds = law.many;
        streams = law.feeds.nobodys;
        there = there;
        first = first_at;
        own = subst (λ m. is_own_message (is_command c.id) m ≡ true) its_line (flow_own me mailbox flow c.id numbered_c of.its);
        placed = narrows c.id node (message ∷ rest) (on_link world.links law.master.me from) (name_at.sends c.name flow) of.its shown;
      }

      its_placed : (me ≡ node.flows.me) × HasAnswered murder from node message (takes from message rest first).first.rest fnode front.replica id mailbox flow
      its_placed = line_is_taken murder law.given store from node message fnode front.replica id me mailbox flow (takes from message rest first) there fed own on server
          (in_murder fixed world law.master law.nodes.me fnode front.replica id (place.is_at me (name_at.sends mailbox flow))
          (subst (λ p. IsInPlaceOf fixed world fnode front.replica id p) sends placed))

      -- there is one response
      one_it : {one other : MResponse} → one ∷ [] ≡ other ∷ [] → one ≡ other
      one_it e = cc

      placed_then : (it : MResponse) → (flow_reply law.master.table from node.flows.me c.name flow).answers ≡ it ∷ []
          → IsInPlaceOf fixed (then from message) fnode front.replica id (heard_at node c.name flow it)
      placed_then it answer =
          behind from message (heard_at node c.name flow it)
          (subst (λ i. IsInBehind murder (without_first world.links from law.master.me) (says from message) fnode front.replica id (heard_at node c.name flow i))
          (one_it (sym ((its_placed.1).step).answer ∙ ap (λ n. (flow_reply law.master.table from node.flows.me n flow).answers) of_flow.name_is ∙ answer))
          (subst (λ n. IsInBehind murder (without_first world.links from law.master.me) (says from message) fnode front.replica id
          (heard_at node n flow ((its_placed.1).step).it)) of_flow.name_is (its_placed.1).placed))

      whom_then : (it : MResponse) (a : At) → WaitsAt a here → WaitsAt a (heard_at node c.name flow it)
      whom_then it =
          subst (λ p. (a : At) → WaitsAt a p → WaitsAt a (heard_at node c.name flow it)) (sym sends)
          (λ a is. is ∙ ap (λ (l : Location). Home l.server) its_placed.0)

      line_by : LineGoes fixed fnode conn world.broken world.steps world.marks story waits.tag c murder law.given from node message flow → OwnAtMaster from message
      line_by (is_point it) = (
        law.given ++ given_in law.master.table from message,
        own_step config conn fnode front world story (law.stops conn) (heard conn) here waits (then from message) (says from message).master
            (law.given ++ given_in law.master.table from message) it.later (Some it.counts) (heard_at node c.name flow it.it)
            (leaves from message same (Some it.counts) it.responds.marks)
            (of_carried fixed fnode conn world.broken world.steps world.marks story waits.tag c (heard_at node c.name flow it.it) it.later it.counts it.carried)
            (many from message (law.given ++ given_in law.master.table from message) it.later it.then_holds)
            (placed_then it.it it.responds.answer) tt tt (whom_then it.it),
      )
      line_by (is_seen it) = (
        law.given ++ given_in law.master.table from message,
        own_step config conn fnode front world story (law.stops conn) (heard conn) here waits (then from message) (says from message).master
            (law.given ++ given_in law.master.table from message) store (Some IfAnswered) (heard_at node c.name flow it.it)
            (leaves from message same (Some IfAnswered) it.responds.marks)
            (of_seen fixed fnode conn world.broken world.steps world.marks story waits.tag c (heard_at node c.name flow it.it) it.seen)
            (many from message (law.given ++ given_in law.master.table from message) store it.then_holds)
            (placed_then it.it it.responds.answer) tt tt (whom_then it.it),
      )
      line_by (waits_on it) = (
        law.given ++ given_in law.master.table from message,
        own_step config conn fnode front world story (law.stops conn) (heard conn) here waits (then from message) (says from message).master
            (law.given ++ given_in law.master.table from message) store None (heard_at node c.name flow it.it)
            (leaves from message same None it.responds.marks)
            (of_known fixed fnode conn world.broken world.steps world.marks story waits.tag c (heard_at node c.name flow it.it) law.is_told it.knows
            (λ connection same_session. tt))
            (many from message (law.given ++ given_in law.master.table from message) store it.then_holds)
            (placed_then it.it it.responds.answer) tt tt (whom_then it.it),
      )

      line_own : OwnAtMaster from message
      line_own =
          line_by (each_line_goes fixed fnode conn world.broken world.steps world.marks story waits.tag c murder law.given from node message rest flow
          opened.is_open of comes)

    -- ---- which it is

    module _ (from : List ℕ) (message : LinkMsg) (rest : List LinkMsg) (first : on_link world.links from name ≡ message ∷ rest)
        (own : about message ≡ of_connection conn) (on : is_over id.command message ≡ false) (whole : is_broken world.broken name from ≡ false)
        (same : client_at (then from message) conn ≡ client_at world conn)
        (moves : MovesBy story.talk.moving world.steps (says from message).master.table) where
      no_front : fnode ≡ name → ⊥
      no_front e = its_front.no_master (e ∙ sym law.nodes.me)

      no_home : (server : List ℕ) (node : BackNode) → home_at world server ≡ Some node → server ≡ name → ⊥
      no_home server node there e = (law.many.each server node there).apart (e ∙ sym law.nodes.me)

      by_found : (h : Place) → here ≡ h → IsFoundIn name fnode id from name message h → OwnAtMaster from message
      by_found _ is (in_noop e1 e2 e3) =
          subst (λ f. OwnAtMaster f message) e1
          (subst (λ m. OwnAtMaster fnode m) e3 (
            law.given,
            noop_own rest is (ap (λ f. is_broken world.broken name f) e1 ∙ whole) (ap (λ f. on_link world.links f name) e1 ∙ first ∙ ap (λ m. m ∷ rest) (sym e3))
                (ap (λ m. client_at (then fnode m) conn) e3 ∙ ap (λ f. client_at (then f message) conn) e1 ∙ same)
                (subst (MovesBy story.talk.moving world.steps)
                (sym (ap (λ m. (says fnode m).master.table) e3 ∙ ap (λ f. (says f message).master.table) e1)) moves),
          ))
      by_found _ is (in_line me mailbox flow e1 e2 e3) =
          let there = subst (λ p. IsThere (home_at world) p) is placed.there in
          line_own from message rest first own on same there.0 (ap (home_at world) (sym e1) ∙ there.1) me mailbox flow e3 is e1
      by_found _ is (in_ask server ask e1 e2 e3) =
          let there = subst (λ p. IsThere (home_at world) p) is placed.there in absurd (no_home server there.0 there.1 e2)
      by_found _ is (in_answer server answer e1 e2 e3) = absurd (no_front e2)
      by_found _ is (in_response me mailbox flow it e1 e2 e3) =
          let there = subst (λ p. IsThere (home_at world) p) is placed.there in absurd (no_home me.server there.0 there.1 e2)
      by_found _ is (in_ok told e1 e2 e3) = absurd (no_front e2)

-- THE STEP OF THE MASTER THAT TAKES WHAT IS ABOUT A COMMAND, for that command's connection, whose client it gives nothing
abbrev pub MasterStepIsOwn : Type 0
MasterStepIsOwn = (config : Config) (heard : ℕ → Heard) (world : World) (law : KeepsLaw config heard world) (conn : ℕ) (from : List ℕ)
    (message : LinkMsg) (rest : List LinkMsg) → AskedFit world law.story
    → MovesBy law.story.talk.moving world.steps (node_says law.master from message).master.table
    → on_link world.links from (master_of config) ≡ message ∷ rest → about message ≡ of_connection conn
    → is_over (length (law.story.told conn) + 1) message ≡ false → is_broken world.broken (master_of config) from ≡ false
    → client_at (with_master (taken_from_link world from (master_of config)) (master_of config) (node_says law.master from message)) conn
    ≡ client_at world conn
    → (given : Given) × OwnStep config conn (law.stops conn) (heard conn) world law.story
    (with_master (taken_from_link world from (master_of config)) (master_of config) (node_says law.master from message))
    (node_says law.master from message).master given

pub master_step_is_own : MasterStepIsOwn
master_step_is_own config heard world law conn from message rest fit moves first own on whole same = by tells.who
  where
    tells : TellsPlace (fixed_of config) conn world law.story (law.stops conn) (heard conn) from (master_of config) message
    tells = first_tells (fixed_of config) conn world law.story (law.stops conn) (heard conn) from (master_of config) message rest first own on (law.connections conn)

    fits : IsNumbered (next_id conn (law.story.told conn))
    fits = waits_fit (fixed_of config) conn tells.node tells.front tells.connection world law.story (law.stops conn) (heard conn) tells.here fit tells.at tells.who

    by : Whose (fixed_of config) conn tells.node tells.connection world law.story (law.stops conn) (heard conn) tells.here
        → (given : Given) × OwnStep config conn (law.stops conn) (heard conn) world law.story
        (with_master (taken_from_link world from (master_of config)) (master_of config) (node_says law.master from message))
        (node_says law.master from message).master given
    by (of_command who) =
        let waits = each_command_waits (fixed_of config) conn tells.node tells.front tells.connection world law.story (law.stops conn) (heard conn) tells.here tells.at
        tells.count who in
        by_found config heard world law conn fits tells.node tells.front tells.here (tells.at).at waits tells.placed from message rest first own on whole same moves
        tells.here refl (found_in (master_of config) tells.node (next_id conn (law.story.told conn)) from (master_of config) message tells.here tells.is_found)
    by (of_list who) = (
      law.given,
      list_is_own config heard world law conn fits tells.node tells.front tells.here (tells.at).at
          (each_list_waits (fixed_of config) conn tells.node tells.front tells.connection world law.story (law.stops conn) (heard conn) tells.here tells.at tells.count who)
          tells.placed from message rest first whole same moves tells.is_found,
    )
