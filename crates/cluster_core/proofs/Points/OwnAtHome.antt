-- A backend takes a message that is about a command: its ask, or the master's response to the line of its flow.
use Rattle.std.proofs.Common.{◌≡◌, ◌⊎◌, inl, inr, ℕ, ◌+◌, Bool, true, false, cond, List, [], ◌∷◌, ◌++◌, length, map, Option, None, Some, refl, sym, ◌∙◌, ap, subst}
use Rattle.std.specs.Ordering.{nat_cmp}
use Rattle.asking_core.specs.declared.waiting.At.{At}
use Rattle.back_links.specs.BackEvents.{IsFitting, fits_by as fits_of}
use Rattle.back_node.specs.declared.node.BackNode.{BackNode}
use Rattle.back_node.specs.Acted.{BackActed}
use Rattle.back_node.specs.Node.{is_my_master}
use Rattle.back_node.specs.Takes.{UpToEntry, answer_out, ask_by, line_by, line_out, name_ask, name_kind, node_takes, passed_over, taken_up, talks}
use Rattle.back_node.proofs.AtHome.{done_by}
use Rattle.backend_core.specs.declared.backend.Backend.{Backend}
use Rattle.backend_core.specs.declared.plan.Owed.{Owed}
use Rattle.backend_core.specs.HomeLaws.{is_open_here}
use Rattle.backend_core.specs.Plan.{answer_outs as plan_outs, back_plan, owed_outs}
use Rattle.backend_core.specs.HomeStep.{held_at}
use Rattle.cluster_core.specs.World.{master_of, front_at, home_at, taken_from_link}
use Rattle.cluster_core.specs.declared.world.Client.{Client}
use Rattle.front_core.proofs.OneConnection.Places.{about, is_over, of_connection}
use Rattle.front_core.specs.declared.front.Front.{Front}
use Rattle.imap_talk.specs.Heard.{Heard}
use Rattle.imap_types.specs.declared.request.Request.TheVariants.{Command as a_command}
use Rattle.link_msg.specs.declared.answer.AnswerBody.{AnswerBody}
use Rattle.link_msg.specs.declared.answer.BackAnswer.{BackAnswer}
use Rattle.link_msg.specs.declared.ask.FrontAsk.{FrontAsk}
use Rattle.link_msg.specs.declared.counts.Counts.{Counts}
use Rattle.link_msg.specs.declared.counts.Counts.TheVariants.{IfAnswered}
use Rattle.link_msg.specs.declared.message.LinkMsg.{LinkMsg}
use Rattle.link_msg.specs.declared.message.LinkMsg.TheVariants.{Up, End, Line, Ask, Answer}
use Rattle.link_queue.specs.Links.{on_link}
use Rattle.many_links.specs.Murder.{Murder, home_takes}
use Rattle.many_links.specs.ManyHold.{ManyHold}
use Rattle.mark_history.specs.Marked.{Tale}
use Rattle.mark_history.specs.declared.mark.Mark.{Mark}
use Rattle.mupdate_codec.specs.declared.command.MResponse.{MResponse}
use Rattle.mupdate_codec.specs.declared.tag.Tag.{Tag}
use Rattle.mupdate_codec.specs.Whole.{response_in}
use Rattle.mur_base.specs.Map.{value_at}
use Rattle.mur_base.specs.declared.home.Location.{Location}
use Rattle.mur_base.specs.declared.point.AskId.{AskId}
use Rattle.mur_config.specs.declared.config.Config.{Config}
use Rattle.mur_model.specs.declared.store.Store.{Store}
use Rattle.mur_model.specs.History.{numbered}
use Rattle.mur_model.specs.Needed.{Delete, IsOfHome, Make}
use Rattle.node_step.specs.declared.node.NodeState.TheVariants as state
use Rattle.name_commands.specs.Moves.{Move, asked_move, is_answered, is_kept, is_sent}
use Rattle.name_commands.specs.Places.{IsNumbered, NamePlace as name_at}
use Rattle.name_flows.specs.declared.ask.AskKind.{AskKind}
use Rattle.name_flows.specs.declared.ask.AskKind.TheVariants.{Create, Delete as Remove}
use Rattle.name_flows.specs.declared.ask.Told.{Told}
use Rattle.name_flows.specs.declared.flow.Flow.{Flow}
use Rattle.name_flows.specs.Asked.{asked_step}
use Rattle.name_flows.specs.Heard.{heard_step}
use Rattle.name_flows.specs.Link.{end_step}
use Rattle.name_flows.specs.Listing.{up_step}
use Rattle.name_flows.specs.Steps.{FlowStep, handed}
use Rattle.point_links.specs.AtHome.{AskComes, its_ask}
use Rattle.point_links.specs.Commands.{ClientCommand}
use Rattle.point_links.proofs.Works.{who_does}
use Rattle.cluster_core.specs.declared.world.World.{World}
use Rattle.cluster_core.proofs.Commands.Knows.{Undecided, kind_of}
use Rattle.cluster_core.proofs.Commands.Knows.Knows.{is_decided, undecided}
use Rattle.cluster_core.proofs.Commands.Place.{Place, Place as place}
use Rattle.cluster_core.proofs.Commands.Standing.{Fixed, WaitsAt, next_id}
use Rattle.cluster_core.proofs.Connections.ConnectionLaw.{IsDroppedAt, IsInPlaceOf, IsMarkedAt}
use Rattle.cluster_core.proofs.Connections.KeepsLaw.{KeepsLaw, fixed_of, murder_of}
use Rattle.cluster_core.proofs.Feeds.Many.{home_murder}
use Rattle.cluster_core.proofs.Nodes.Carried.{given_all, given_out, is_made, marks_made}
use Rattle.cluster_core.proofs.Nodes.Comes.{home_moved, with_home}
use Rattle.cluster_core.proofs.Steps.HomeOwn.{ask_is_answered, ask_is_moved, response_is_heard}
use Rattle.cluster_core.proofs.Steps.HomeSteps.{HomeTakes, moved_to}
use Rattle.cluster_core.proofs.Steps.Murders.{IsFront, IsIn}
use Rattle.cluster_core.proofs.Steps.Worlds.{in_murder, in_world_then, is_front}
use Rattle.cluster_core.proofs.Points.Acts.{KnowsOf}
use Rattle.cluster_core.proofs.Points.AtBackend.{message_kind, name_ask_fits, name_is_asked, name_kind_is, response_moves}
use Rattle.cluster_core.proofs.Points.AtHome.{answer_outs, answered_at, closed_is_seen, open_is_its_point}
use Rattle.cluster_core.proofs.Points.Found.{IsFoundIn, found_in, in_answer, in_ask, in_line, in_noop, in_ok, in_response}
use Rattle.cluster_core.proofs.Points.ListPoint.{list_not_at_home}
use Rattle.cluster_core.proofs.Points.ListWaits.{each_list_waits}
use Rattle.cluster_core.proofs.Points.Own.{Leaves, Outcome, OwnStep, RestoresAt, made_by, of_carried, of_known, of_seen, own_step}
use Rattle.cluster_core.proofs.Points.Waits.{AskedFit, BringsNothing, CommandWaits, IsOpenAt, TellsPlace, Whose, of_command, of_list}
use Rattle.cluster_core.proofs.Points.Waits.{each_command_waits, first_tells, is_open_there, waits_fit, whom_begun, whom_moved}

-- ---- a backend gives clients nothing

abbrev pub GivesNone : BackActed → Type 0
GivesNone next = (clients : List (ℕ × Client)) → given_all clients next.outs ≡ clients

answers_give : (clients : List (ℕ × Client)) (answers : List Told) → given_all clients (map answer_out answers) ≡ clients
unfolding given_all given_out
answers_give clients [] = refl
answers_give clients (it ∷ answers) = answers_give clients answers

lines_give : (clients : List (ℕ × Client)) (master : List ℕ) (lines : List (List ℕ)) (answers : List Told)
    → given_all clients (map (line_out master) lines ++ map answer_out answers) ≡ clients
unfolding given_all given_out
lines_give clients master [] answers = answers_give clients answers
lines_give clients master (line ∷ lines) answers = lines_give clients master lines answers

none_given : (clients : List (ℕ × Client)) → given_all clients [] ≡ clients
unfolding given_all
none_given clients = refl

answer_given : (clients : List (ℕ × Client)) (front : List ℕ) (id : AskId) (answer : BackAnswer) (counts : Counts)
    → given_all clients (answer_outs front id answer.body counts) ≡ clients
unfolding given_all given_out
answer_given clients front id answer counts = refl

talk_gives : (node : BackNode) (step : FlowStep) → GivesNone (done_by (talks node step))
talk_gives node step clients =
    let it = handed node.home.held step in lines_give clients it.flows.master it.step.lines it.step.answers

owed_gives : (clients : List (ℕ × Client)) (home : Backend) (owed : Option Owed) → given_all clients (owed_outs home owed) ≡ clients
unfolding plan_outs given_all given_out
owed_gives clients home None = refl
owed_gives clients home (Some owed) = refl

module _ (node : BackNode) (from : List ℕ) where
  gives_if : (mine : Bool) (it : UpToEntry) → GivesNone (done_by it) → GivesNone (done_by (cond mine it (passed_over node)))
  gives_if true it none = none
  gives_if false it none = none_given

  line_gives : (read : Option (Tag × MResponse)) → GivesNone (done_by (line_by node read))
  line_gives None = none_given
  line_gives (Some it) = talk_gives node (heard_step node.flows node.home.held it.0 it.1)

  ask_gives : (ask : FrontAsk) (kind : Option AskKind) → GivesNone (done_by (ask_by node from ask kind))
  ask_gives ask (Some kind) = talk_gives node (asked_step node.flows node.home.held (name_ask from ask kind))
  ask_gives ask None = λ clients. owed_gives clients _ (back_plan node.home from ask).owed

  pub gives_none : (message : LinkMsg) → GivesNone (node_takes node from message)
  unfolding taken_up
  gives_none Up = gives_if (is_my_master node from) (talks node (up_step node.flows)) (talk_gives node (up_step node.flows))
  gives_none End = gives_if (is_my_master node from) (talks node (end_step node.flows)) (talk_gives node (end_step node.flows))
  gives_none (Line line) = gives_if (is_my_master node from) (line_by node (response_in line)) (line_gives (response_in line))
  gives_none (Ask ask) = ask_gives ask (name_kind ask.op)
  gives_none (Answer answer) = none_given

-- ---- the law of the world

-- a mark matters only behind the master's OK
pub moved_marked : (moving : ℕ → List ℕ → Bool) (marks : List Mark) (id : AskId) (name : List ℕ) (me : Location) (move : Move)
    → IsMarkedAt moving marks id (moved_to name me move)
moved_marked moving marks id name me (is_answered front ask body) = tt
moved_marked moving marks id name me (is_kept ask) = tt
moved_marked moving marks id name me (is_sent mailbox flow) = tt

-- no backend drops it
pub moved_undropped : (master : List ℕ) (world : World) (front name : List ℕ) (me : Location) (move : Move) → IsDroppedAt master world front (moved_to name me move)
moved_undropped master world front name me (is_answered to ask body) = tt
moved_undropped master world front name me (is_kept ask) = tt
moved_undropped master world front name me (is_sent mailbox flow) = tt

-- nor is it then at the master's OK
pub moved_restores : (conn : ℕ) (c : ClientCommand) (later : Tale) (name : List ℕ) (me : Location) (move : Move) → RestoresAt conn c later (moved_to name me move)
moved_restores conn c later name me (is_answered to ask body) connection was = tt
moved_restores conn c later name me (is_kept ask) connection was = tt
moved_restores conn c later name me (is_sent mailbox flow) connection was = tt

module _ (config : Config) (heard : ℕ → Heard) (world : World) (law : KeepsLaw config heard world) (conn : ℕ)
    (fits : IsNumbered (next_id conn (law.story.told conn))) where
  abbrev story : Tale
  story = law.story

  abbrev fixed : Fixed
  fixed = fixed_of config

  abbrev id : AskId
  id = next_id conn (story.told conn)

  abbrev murder : Murder
  murder = murder_of world law.master

  abbrev store : Store
  store = story.course.store

  -- the next world, and what it is to the connection
  abbrev then : List ℕ → List ℕ → BackNode → LinkMsg → World
  then from to node message = with_home (taken_from_link world from to) to (node_takes node from message)

  abbrev pub OwnAtHome : List ℕ → List ℕ → BackNode → LinkMsg → Type 0
  OwnAtHome from to node message = OwnStep config conn (law.stops conn) (heard conn) world story (then from to node message) law.master law.given

  module _ (fnode : List ℕ) (front : Front) (here : Place) (at : front_at world fnode ≡ Some front)
      (waits : CommandWaits fixed conn fnode front world story (law.stops conn) (heard conn) here) (placed : IsInPlaceOf fixed world fnode front.replica id here) where
    abbrev c : ClientCommand
    c = waits.c

    its_front : IsFront murder fnode
    its_front = is_front config world law.master law.nodes fnode front at

    numbered_c : IsNumbered c.id
    numbered_c = subst IsNumbered (sym waits.its) fits

    asked : numbered (story.talk.requests conn) (length (story.told conn) + 1) ≡ Some (a_command waits.tag c.it)
    asked = ap (λ r. numbered r (length (story.told conn) + 1)) (law.requests conn) ∙ waits.asked

    opened_at : BringsNothing here → IsOpenAt fixed fnode conn world.broken world.steps world.marks story waits.tag c here
    opened_at none = is_open_there fixed fnode conn world.broken world.steps world.marks story waits.tag c here law.is_told waits.setting_is waits.its asked waits.knows none

    named : (to : List ℕ) (node : BackNode) → home_at world to ≡ Some node → (node.flows.me).server ≡ to
    named to node there = (law.many.each to node there).talk.each.named

    module _ (to : List ℕ) (node : BackNode) (there : home_at world to ≡ Some node) (from : List ℕ) (message : LinkMsg) where
      abbrev next : World
      next = then from to node message

      leaves : (counts : Option Counts) → marks_made world.steps (node_takes node from message).outs ≡ made_by world.steps c.id counts
          → given_all world.clients (node_takes node from message).outs ≡ world.clients
          → Leaves config conn fnode front world story (law.stops conn) (heard conn) here waits next counts
      leaves counts marks gives =
          let made = is_made (taken_from_link world from to) to (state.Back (node_takes node from message).state) (node_takes node from message).outs in
          record {
            fronts = (home_moved (taken_from_link world from to) to node (node_takes node from message) there).fronts fnode;
            clients = ap (λ cs. value_at nat_cmp cs conn) (made.clients ∙ gives);
            broken = made.broken;
            steps = made.steps;
            marks = made.marks ∙ ap (λ (m : List Mark). world.marks ++ m) marks;
          }

      many : (later : Store) → ManyHold (home_takes murder to node from message) law.given later → ManyHold (murder_of next law.master) law.given later
      many later hold = home_murder config world law.master law.given store law.nodes law.many from to node (node_takes node from message) later there hold

    -- ---- its ask

    module _ (to : List ℕ) (node : BackNode) (there : home_at world to ≡ Some node) (rest : List LinkMsg)
        (first : on_link world.links fnode to ≡ Ask (its_ask c) ∷ rest) (asks : here ≡ place.is_asked to (its_ask c)) where
      takes : HomeTakes murder law.given store to node fnode (Ask (its_ask c))
      takes = record { holds = law.many; there = there; first = record { rest = rest; first = first } }

      opened : IsOpenAt fixed fnode conn world.broken world.steps world.marks story waits.tag c here
      opened = opened_at (subst BringsNothing (sym asks) tt)

      in_ask_is : IsIn murder fnode front.replica id (place.is_asked to (its_ask c))
      in_ask_is = in_murder fixed world law.master law.nodes.me fnode front.replica id (place.is_asked to (its_ask c))
          (subst (λ p. IsInPlaceOf fixed world fnode front.replica id p) asks placed)

      whom_by : (later : Place) → ((a : At) → WaitsAt a (place.is_asked to (its_ask c)) → WaitsAt a later) → (a : At) → WaitsAt a here → WaitsAt a later
      whom_by later goes = subst (λ p. (a : At) → WaitsAt a p → WaitsAt a later) (sym asks) goes

      -- for messages
      module _ (of : IsOfHome c.work) where
        comes : AskComes murder law.given store c to node fnode
        comes = record { of_home = of; holds = law.many; there = there; other = its_front.no_master }

        answers : (body : AnswerBody) (counts : Counts) (later : Store)
            → (node_takes node fnode (Ask (its_ask c))).outs ≡ answer_outs fnode c.id body counts
            → ManyHold (home_takes murder to node fnode (Ask (its_ask c))) law.given later
            → Outcome fixed fnode conn world.broken world.steps world.marks story waits.tag c later (Some counts) (answered_at to c.id body)
            → OwnAtHome fnode to node (Ask (its_ask c))
        answers body counts later step hold out =
            let answer : BackAnswer = record { id = c.id; body = body } in
            own_step config conn fnode front world story (law.stops conn) (heard conn) here waits (then fnode to node (Ask (its_ask c))) law.master law.given later (Some counts)
            (answered_at to c.id body)
            (leaves to node there fnode (Ask (its_ask c)) (Some counts) (ap (marks_made world.steps) step)
            (ap (given_all world.clients) step ∙ answer_given world.clients fnode c.id answer counts))
            out (many to node there fnode (Ask (its_ask c)) later hold)
            (in_world_then fixed world law.master law.nodes.me to fnode node (node_takes node fnode (Ask (its_ask c))) there fnode front.replica id
            (answered_at to c.id body)
            (ask_is_answered murder law.given store to node fnode front.replica id (its_ask c) answer counts takes its_front (message_kind c of) refl step in_ask_is))
            tt tt (whom_by (answered_at to c.id body) (λ a is. is))

        messages_by : (found : Bool) → is_open_here (held_at node.home c.name) ≡ found → OwnAtHome fnode to node (Ask (its_ask c))
        messages_by true e =
            let it = open_is_its_point fixed fnode conn world.broken world.steps world.marks story waits.tag c murder law.given to node opened.is_open comes e in
            answers it.body it.counts it.later it.step it.then_holds
            (of_carried fixed fnode conn world.broken world.steps world.marks story waits.tag c (answered_at to c.id it.body) it.later it.counts it.carried)
        messages_by false e =
            let it = closed_is_seen fixed fnode conn world.broken world.steps world.marks story waits.tag c murder law.given to node opened.is_open comes e in
            answers it.body IfAnswered store it.step it.then_holds
            (of_seen fixed fnode conn world.broken world.steps world.marks story waits.tag c (answered_at to c.id it.body) it.seen)

      -- of a CREATE or DELETE
      of_name : (kind : AskKind) → kind_of c.work ≡ Some kind → OwnAtHome fnode to node (Ask (its_ask c))
      of_name kind does =
          let it = name_is_asked fixed fnode conn world.broken world.steps world.marks story waits.tag c murder law.given to node kind opened.is_open
          (record { does = does; holds = law.many; there = there; other = its_front.no_master; numbered = numbered_c }) in
          let moves = it.1 in
          let move : Move = asked_move node.flows node.home.held (name_ask fnode (its_ask c) kind) in
          let me : Location = node.flows.me in
          own_step config conn fnode front world story (law.stops conn) (heard conn) here waits (then fnode to node (Ask (its_ask c))) law.master law.given store None
          (moved_to to me move)
          (leaves to node there fnode (Ask (its_ask c)) None moves.marks
          (gives_none node fnode (Ask (its_ask c)) world.clients))
          (of_known fixed fnode conn world.broken world.steps world.marks story waits.tag c (moved_to to me move) law.is_told moves.knows
          (moved_restores conn c story to me move))
          (many to node there fnode (Ask (its_ask c)) store moves.then_holds)
          (in_world_then fixed world law.master law.nodes.me to fnode node (node_takes node fnode (Ask (its_ask c))) there fnode front.replica id
          (moved_to to me move)
          (ask_is_moved murder law.given store to node fnode front.replica id (its_ask c) kind takes its_front (name_ask_fits c kind does numbered_c) waits.its
          (name_kind_is c kind does) in_ask_is).placed)
          (moved_marked _ _ id to me move)
          (moved_undropped fixed.master (then fnode to node (Ask (its_ask c))) fnode to me move)
          (whom_by (moved_to to me move) (λ a is. whom_begun to me (its_ask c) move a (named to node there) is))

      ask_own : OwnAtHome fnode to node (Ask (its_ask c))
      ask_own = by (who_does c.work)
        where
          by : IsOfHome c.work ⊎ ((c.work ≡ Make) ⊎ (c.work ≡ Delete)) → OwnAtHome fnode to node (Ask (its_ask c))
          by (inl of) = messages_by of (is_open_here (held_at node.home c.name)) refl
          by (inr (inl makes)) = of_name Create (ap kind_of makes)
          by (inr (inr deletes)) = of_name Remove (ap kind_of deletes)

    -- ---- the master's response to the line of its flow

    module _ (to : List ℕ) (node : BackNode) (there : home_at world to ≡ Some node) (message : LinkMsg) (rest : List LinkMsg)
        (first : on_link world.links law.master.me to ≡ message ∷ rest) (own : about message ≡ of_connection conn)
        (me : Location) (mailbox : List ℕ) (flow : Flow) (it : MResponse) (hears : here ≡ place.is_at me (name_at.hears mailbox flow it))
        (server : me.server ≡ to) where
      abbrev heard_there : Location → Place
      heard_there at_me = place.is_at at_me (name_at.hears mailbox flow it)

      knows_there : KnowsOf fixed fnode conn waits.tag c story (heard_there me)
      knows_there = subst (λ p. KnowsOf fixed fnode conn waits.tag c story p) hears waits.knows

      front_of : KnowsOf fixed fnode conn waits.tag c story (heard_there me) → flow.front ≡ fnode
      front_of (undecided said was tells) = (tells.0).front_is
      front_of (is_decided turn said session ends brings) = brings.front_is

      response_own : OwnAtHome law.master.me to node message
      response_own =
          let heard_it = response_is_heard murder law.given store to node message fnode front.replica id me mailbox flow it
          (record { holds = law.many; there = there; first = record { rest = rest; first = first } }) its_front own server (front_of knows_there)
          (in_murder fixed world law.master law.nodes.me fnode front.replica id (heard_there me)
          (subst (λ p. IsInPlaceOf fixed world fnode front.replica id p) hears placed)) in
          let move : Move = (heard_it.1).move_is in
          let at_me : Location = node.flows.me in
          let moves = response_moves fixed fnode conn world.steps story waits.tag c murder law.given to node message rest mailbox flow it move
          (record { holds = law.many; there = there; first = first })
          (subst (λ l. KnowsOf fixed fnode conn waits.tag c story (heard_there l)) heard_it.0 knows_there) (heard_it.1).is in
          own_step config conn fnode front world story (law.stops conn) (heard conn) here waits (then law.master.me to node message) law.master law.given store None
          (moved_to to at_me move)
          (leaves to node there law.master.me message None moves.marks (gives_none node law.master.me message world.clients))
          (of_known fixed fnode conn world.broken world.steps world.marks story waits.tag c (moved_to to at_me move) law.is_told moves.knows
          (moved_restores conn c story to at_me move))
          (many to node there law.master.me message store moves.then_holds)
          (in_world_then fixed world law.master law.nodes.me to law.master.me node (node_takes node law.master.me message) there fnode front.replica id
          (moved_to to at_me move) ((heard_it.1).moved).placed)
          (moved_marked _ _ id to at_me move)
          (moved_undropped fixed.master (then law.master.me to node message) fnode to at_me move)
          (subst (λ p. (a : At) → WaitsAt a p → WaitsAt a (moved_to to at_me move)) (sym hears)
          (subst (λ l. (a : At) → WaitsAt a (heard_there l) → WaitsAt a (moved_to to at_me move)) (sym heard_it.0)
          (λ a is. whom_moved to at_me (name_at.hears mailbox flow it) move a (named to node there) is)))

    -- ---- which it is

    module _ (from to : List ℕ) (node : BackNode) (message : LinkMsg) (rest : List LinkMsg) (there : home_at world to ≡ Some node)
        (first : on_link world.links from to ≡ message ∷ rest) (own : about message ≡ of_connection conn) where
      no_front : fnode ≡ to → ⊥
      no_front e = let no : None ≡ Some node = sym its_front.no_home ∙ ap (home_at world) e ∙ there in cc

      no_master : master_of config ≡ to → ⊥
      no_master e = (law.many.each to node there).apart (sym e ∙ sym law.nodes.me)

      by_found : (h : Place) → here ≡ h → IsFoundIn (master_of config) fnode id from to message h → OwnAtHome from to node message
      by_found _ is (in_ask server ask e1 e2 e3) =
          let opened_so = opened_at (subst BringsNothing (sym is) tt) in
          let ask_is : ask ≡ its_ask c = subst (λ p. Undecided fixed.master fixed.first fnode c p) is opened_so.tells in
          let m_is : message ≡ Ask (its_ask c) = sym e3 ∙ ap Ask ask_is in
          subst (λ f. OwnAtHome f to node message) e1
          (subst (λ m. OwnAtHome fnode to node m) (sym m_is)
          (ask_own to node there rest (ap (λ f. on_link world.links f to) e1 ∙ first ∙ ap (λ m. m ∷ rest) m_is)
          (is ∙ ap (λ s. place.is_asked s ask) e2 ∙ ap (place.is_asked to) ask_is)))
      by_found _ is (in_response me mailbox flow it e1 e2 e3) =
          subst (λ m. OwnAtHome m to node message) (law.nodes.me ∙ e1)
          (response_own to node there message rest (ap (λ m. on_link world.links m to) (law.nodes.me ∙ e1) ∙ first) own me mailbox flow it is e2)
      by_found _ is (in_answer server answer e1 e2 e3) = absurd (no_front e2)
      by_found _ is (in_line me name flow e1 e2 e3) = absurd (no_master e2)
      by_found _ is (in_noop e1 e2 e3) = absurd (no_master e2)
      by_found _ is (in_ok table e1 e2 e3) = absurd (no_front e2)

      -- its ask is of a name, and of numbers of 64 bits
      ask_fits : IsFitting (Ask (its_ask c))
      ask_fits = by (who_does c.work)
        where
          by : IsOfHome c.work ⊎ ((c.work ≡ Make) ⊎ (c.work ≡ Delete)) → IsFitting (Ask (its_ask c))
          by (inl of) = subst (λ (kind : Option AskKind). fits_of kind (its_ask c)) (sym (message_kind c of)) tt
          by (inr (inl makes)) = name_ask_fits c Create (ap kind_of makes) numbered_c
          by (inr (inr deletes)) = name_ask_fits c Remove (ap kind_of deletes) numbered_c

      fitting : (h : Place) → here ≡ h → IsFoundIn (master_of config) fnode id from to message h → IsFitting message
      fitting _ is (in_ask server ask e1 e2 e3) =
          let opened_so = opened_at (subst BringsNothing (sym is) tt) in
          let ask_is : ask ≡ its_ask c = subst (λ p. Undecided fixed.master fixed.first fnode c p) is opened_so.tells in
          subst IsFitting e3 (subst (λ a. IsFitting (Ask a)) (sym ask_is) ask_fits)
      fitting _ is (in_response me mailbox flow it e1 e2 e3) = subst IsFitting e3 tt
      fitting _ is (in_answer server answer e1 e2 e3) = subst IsFitting e3 tt
      fitting _ is (in_line me name flow e1 e2 e3) = subst IsFitting e3 tt
      fitting _ is (in_noop e1 e2 e3) = subst IsFitting e3 tt
      fitting _ is (in_ok table e1 e2 e3) = subst IsFitting e3 tt

-- THE STEP OF A BACKEND THAT TAKES WHAT IS ABOUT A COMMAND, for that command's connection
pub record IsOwnAtHome (config : Config) (heard : ℕ → Heard) (world : World) (law : KeepsLaw config heard world) (conn : ℕ) (from to : List ℕ)
    (node : BackNode) (message : LinkMsg) : Type 0 where
  pub fits : IsFitting message
  pub step : OwnStep config conn (law.stops conn) (heard conn) world law.story (with_home (taken_from_link world from to) to (node_takes node from message)) law.master law.given

abbrev pub HomeStepIsOwn : Type 0
HomeStepIsOwn = (config : Config) (heard : ℕ → Heard) (world : World) (law : KeepsLaw config heard world) (conn : ℕ) (from to : List ℕ) (node : BackNode)
    (message : LinkMsg) (rest : List LinkMsg) → AskedFit world law.story → home_at world to ≡ Some node
    → on_link world.links from to ≡ message ∷ rest → about message ≡ of_connection conn → is_over (length (law.story.told conn) + 1) message ≡ false
    → IsOwnAtHome config heard world law conn from to node message

pub home_step_is_own : HomeStepIsOwn
home_step_is_own config heard world law conn from to node message rest fit there first own on = by tells.who
  where
    tells : TellsPlace (fixed_of config) conn world law.story (law.stops conn) (heard conn) from to message
    tells = first_tells (fixed_of config) conn world law.story (law.stops conn) (heard conn) from to message rest first own on (law.connections conn)

    fits : IsNumbered (next_id conn (law.story.told conn))
    fits = waits_fit (fixed_of config) conn tells.node tells.front tells.connection world law.story (law.stops conn) (heard conn) tells.here fit tells.at tells.who

    no_front : tells.node ≡ to → ⊥
    no_front e =
        let no : None ≡ Some node = sym (law.nodes.fronts tells.node tells.front (tells.at).at).no_home ∙ ap (home_at world) e ∙ there in cc

    no_master : master_of config ≡ to → ⊥
    no_master e = (law.many.each to node there).apart (sym e ∙ sym law.nodes.me)

    by : Whose (fixed_of config) conn tells.node tells.connection world law.story (law.stops conn) (heard conn) tells.here
        → IsOwnAtHome config heard world law conn from to node message
    by (of_command who) =
        let waits = each_command_waits (fixed_of config) conn tells.node tells.front tells.connection world law.story (law.stops conn) (heard conn) tells.here tells.at
        tells.count who in
        let found = found_in (master_of config) tells.node (next_id conn (law.story.told conn)) from to message tells.here tells.is_found in
        record {
          fits = fitting config heard world law conn fits tells.node tells.front tells.here (tells.at).at waits tells.placed from to node message rest there
              first own tells.here refl found;
          step = by_found config heard world law conn fits tells.node tells.front tells.here (tells.at).at waits tells.placed from to node message rest there
              first own tells.here refl found;
        }
    by (of_list who) =
        absurd (list_not_at_home config heard world law conn fits tells.node tells.front tells.here (tells.at).at
        (each_list_waits (fixed_of config) conn tells.node tells.front tells.connection world law.story (law.stops conn) (heard conn) tells.here tells.at tells.count who)
        tells.placed from to message no_front no_master tells.is_found)
