-- A backend takes a message: a CREATE of which the master has answered RESERVE stays so, or the one store has replied to it.
use Rattle.std.proofs.Common.{◌≡◌, ◌≢◌, ◌⊎◌, inl, inr, ℕ, ◌+◌, ◌≤◌, Bool, true, false, cond, nat_eq, List, [], ◌∷◌, length, None, Some, refl, sym, ◌∙◌, ap}
use Rattle.std.proofs.Common.{subst, eqb-true}
use Rattle.std.specs.Cmp.Lexicographic.{pointwise}
use Rattle.std.proofs.Math.Logic.{⊎_elim}
use Rattle.std.proofs.lemmas.Bool.{cases_eq}
use Rattle.back_links.specs.BackEvents.{IsFitting}
use Rattle.back_node.specs.declared.node.BackNode.{BackNode}
use Rattle.back_node.specs.Takes.{node_takes}
use Rattle.front_core.proofs.OneConnection.Places.{About, about, first_of, is_about, is_over, nobody_whom, not_about, of_connection, of_nobody, other_whom, over_about, over_or}
use Rattle.imap_talk.specs.Heard.{Heard}
use Rattle.link_msg.specs.declared.message.LinkMsg.{LinkMsg}
use Rattle.link_msg.specs.declared.message.LinkMsg.TheVariants.{Line}
use Rattle.link_queue.proofs.Placed.{Carried}
use Rattle.link_queue.specs.Links.{on_link}
use Rattle.many_links.specs.Murder.{Murder}
use Rattle.mark_history.specs.Marked.{Tale}
use Rattle.mupdate_codec.specs.declared.command.MResponse.{MResponse}
use Rattle.mupdate_codec.specs.declared.tag.Tag.{Tag}
use Rattle.mupdate_codec.specs.Asks.{tag_of}
use Rattle.mupdate_codec.specs.Whole.{response_in}
use Rattle.mur_base.specs.declared.home.Location.{Location}
use Rattle.mur_base.specs.declared.point.AskId.{AskId}
use Rattle.mur_config.specs.declared.config.Config.{Config}
use Rattle.name_commands.specs.Moves.{Move, heard_move, is_sent}
use Rattle.name_commands.specs.Places.{IsKnown, IsResponse, NamePlace, NamePlace as name_at, answer_message, downs_at, flows_at}
use Rattle.name_commands.specs.Whose.{is_of_connection, is_own_message}
use Rattle.name_commands.proofs.Own.{on_itself, own_is}
use Rattle.name_flows.specs.declared.flow.Flow.{Flow}
use Rattle.name_flows.specs.Running.{flow_at}
use Rattle.point_links.specs.Commands.{ClientCommand}
use Rattle.cluster_core.specs.declared.world.World.{World}
use Rattle.cluster_core.specs.Numbers.{NumbersFit}
use Rattle.cluster_core.specs.World.{home_at, master_of, taken_from_link}
use Rattle.cluster_core.proofs.Commands.Knows.Knows.{is_decided, undecided}
use Rattle.cluster_core.proofs.Commands.Place.{Place, at_backend, its_message, Place as place}
use Rattle.cluster_core.proofs.Commands.Standing.{Fixed, next_id}
use Rattle.cluster_core.proofs.Connections.ConnectionLaw.{IsInPlaceOf}
use Rattle.cluster_core.proofs.Connections.KeepsLaw.{KeepsLaw, fixed_of, murder_of}
use Rattle.cluster_core.proofs.Keeps.Numbers.{asked_fit}
use Rattle.cluster_core.proofs.Nodes.Comes.{home_moved, with_home}
use Rattle.cluster_core.proofs.Points.Found.{from_is, to_is}
use Rattle.cluster_core.proofs.Points.HomeStep.{nobody_fits, over_fits}
use Rattle.cluster_core.proofs.Points.OthersAtHome.{StillOrTested, place_of}
use Rattle.cluster_core.proofs.Points.OthersAtHome.StillOrTested.{still, tested}
use Rattle.cluster_core.proofs.Points.OwnAtHome.{home_step_is_own}
use Rattle.cluster_core.proofs.Points.Acts.{KnowsOf}
use Rattle.cluster_core.proofs.Serials.InFlow.{IsInFlow, WaitsInFlow, replied_then, response_in_place, waits_in_flow}
use Rattle.cluster_core.proofs.Serials.InFlow.IsInFlow.{hears_response, sends_line}
use Rattle.cluster_core.proofs.Serials.Reserved.{HasReserved, IsAmong, IsReserved, kept_among, making}
use Rattle.cluster_core.proofs.Serials.Reserved.HasReserved.{hears_ok, makes}
use Rattle.cluster_core.proofs.Steps.HomeOwn.{response_is_heard}
use Rattle.cluster_core.proofs.Steps.HomeLinks.{IsInThen}
use Rattle.cluster_core.proofs.Steps.HomeSteps.{HasHeard, moved_to}
use Rattle.cluster_core.proofs.Steps.Murders.{at_own}
use Rattle.cluster_core.proofs.Steps.Worlds.{in_murder, in_world_then, is_front}

-- a command that waits for the end of a resync has no flow
waits_without : (server name : List ℕ) (flow : Flow) (me : Location) (at : NamePlace) → flows_at at name ≡ None
    → flows_at (at_backend server (place.is_at me at)) name ≡ Some flow → ⊥
waits_without server name flow me at none e = by (pointwise nat_eq me.server server) e
  where
    by : (own : Bool) → flows_at (cond own at name_at.nowhere) name ≡ Some flow → ⊥
    by true e = (let no : None ≡ Some flow = sym none ∙ e in cc)
    by false e = cc

-- one response is read from one text
same_response : (flow : Flow) (one other : MResponse) → IsResponse flow one → IsResponse flow other → answer_message flow one ≡ answer_message flow other
    → one ≡ other
same_response flow one other first second same =
    let text = same_text same in
    let both : Some (tag_of flow.ask, one) ≡ Some (tag_of flow.ask, other) = sym first.read ∙ ap response_in text ∙ second.read in
    second_of both
  where
    same_text : {a b : List ℕ} → Line a ≡ Line b → a ≡ b
    same_text e = cc

    second_of : {p q : Tag × MResponse} → Some p ≡ Some q → p.1 ≡ q.1
    second_of {p} {q} e = (let same : p ≡ q = cc in ap (λ (r : Tag × MResponse). r.1) same)

module _ (config : Config) (heard : ℕ → Heard) (world : World) (law : KeepsLaw config heard world) (fits : NumbersFit heard) (to : List ℕ) (node : BackNode)
    (there : home_at world to ≡ Some node) (conn : ℕ) (name : List ℕ) (flow : Flow) (runs : flow_at node.flows name ≡ Some flow)
    (own : (flow.ask).conn ≡ conn) (reserved : HasReserved name flow (on_link world.links (master_of config) to)) where
  abbrev fixed : Fixed
  fixed = fixed_of config

  abbrev story : Tale
  story = law.story

  abbrev murder : Murder
  murder = murder_of world law.master

  abbrev id : AskId
  id = next_id conn (story.told conn)

  waits : WaitsInFlow fixed conn world story (law.stops conn) (heard conn) to name flow
  waits = waits_in_flow config heard world law to node there name flow runs conn own

  -- the backend's step
  module _ (from : List ℕ) (message : LinkMsg) where
    abbrev next : World
    next = with_home (taken_from_link world from to) to (node_takes node from message)

    abbrev later : BackNode
    later = (node_takes node from message).state

    later_there : home_at next to ≡ Some later
    later_there = (home_moved (taken_from_link world from to) to node (node_takes node from message) there).own

    abbrev Goes : Type 0
    Goes = IsReserved fixed.master next conn ⊎ (length (story.told conn) + 1 ≤ length (story.talk.answers conn))

    -- where the place is told then
    reserved_at : (at : Place) (then : Flow) → IsInPlaceOf fixed next waits.node (waits.front).replica id at → flows_at (at_backend to at) name ≡ Some then
        → HasReserved name then (on_link next.links fixed.master to) → IsReserved fixed.master next conn
    reserved_at at then placed shows has =
        let is = own_is (is_of_connection conn) (flow_at later.flows name) then (((placed.shows to later later_there).at).running name ∙ shows) in
        record {
          server = to;
          node = later;
          there = later_there;
          name = name;
          flow = then;
          runs = is.0;
          own = eqb-true (then.ask).conn conn is.1;
          reserved = has;
        }

  -- a response to it is the one of its place
  its_down : (it : MResponse) → IsAmong (answer_message flow it) (on_link world.links fixed.master to)
      → IsAmong (answer_message flow it) (downs_at (at_backend to waits.here))
  its_down it among =
      response_in_place conn to node (on_link world.links to fixed.master) (on_link world.links fixed.master to) waits.here ((waits.placed).shows to node there)
      name flow waits.shows it among

  -- ---- a message about something else

  module _ (from : List ℕ) (message : LinkMsg) (rest : List LinkMsg) (first : on_link world.links from to ≡ message ∷ rest) where
    stays_reserved : IsInPlaceOf fixed (next from message) waits.node (waits.front).replica id waits.here
        → HasReserved name flow (on_link world.links fixed.master to) → HasReserved name flow (on_link (next from message).links fixed.master to)
    stays_reserved placed (makes stage) = makes stage
    stays_reserved placed (hears_ok it among known heard_so) =
        hears_ok it
        (kept_among (is_own_message (is_of_connection conn)) (answer_message flow it) (on_link (next from message).links fixed.master to)
        (subst (IsAmong (answer_message flow it)) (sym (placed.shows to (later from message) (later_there from message)).down_is) (its_down it among)))
        known heard_so

    other_goes : (other : is_about id.command (of_connection conn) message ≡ false) (fit : IsFitting message)
        → StillOrTested config heard world law conn from to node message rest there first other fit waits.node waits.front waits.here → Goes from message
    other_goes other fit (still placed) = inl (reserved_at from message waits.here flow placed waits.shows (stays_reserved placed reserved))
    other_goes other fit (tested ask flows is up of_master moved) =
        absurd (waits_without to name flow node.flows.me (name_at.waits ask) refl
        (ap (λ (p : Place). flows_at (at_backend to p) name) (sym is) ∙ waits.shows))

    fitting : (whom : About) → about message ≡ whom → IsFitting message
    fitting (of_connection c) whose = ⊎_elim
        (λ (over : is_over (length (story.told c) + 1) message ≡ true). over_fits (length (story.told c) + 1) message over)
        (λ (on : is_over (length (story.told c) + 1) message ≡ false).
        (home_step_is_own config heard world law c from to node message rest (asked_fit config heard world law fits) there first whose on).fits)
        (over_or (length (story.told c) + 1) message)
    fitting of_nobody whose = nobody_fits message whose

    of_other : is_about id.command (of_connection conn) message ≡ false → Goes from message
    of_other other =
        let fit = fitting (about message) refl in
        other_goes other fit
        (place_of config heard world law conn from to node message rest there first other fit waits.node waits.front waits.here waits.at waits.placed)

  -- ---- the response to the line of its flow

  module _ (message : LinkMsg) (rest : List LinkMsg) (first : on_link world.links law.master.me to ≡ message ∷ rest)
      (whose : about message ≡ of_connection conn) (me : Location) (it : MResponse) (server : me.server ≡ to)
      (is : waits.here ≡ place.is_at me (name_at.hears name flow it)) where
    abbrev hearing : Place
    hearing = place.is_at me (name_at.hears name flow it)

    abbrev c : ClientCommand
    c = (waits.waits).c

    knows : KnowsOf fixed waits.node conn (waits.waits).tag c story hearing
    knows = subst (λ p. KnowsOf fixed waits.node conn (waits.waits).tag c story p) is (waits.waits).knows

    front_of : KnowsOf fixed waits.node conn (waits.waits).tag c story hearing → flow.front ≡ waits.node
    front_of (undecided said was tells) = (tells.0).front_is
    front_of (is_decided turn said session ends_so brings) = brings.front_is

    heard_it : (me ≡ node.flows.me) × HasHeard murder to node (node_takes node law.master.me message) waits.node (waits.front).replica id name flow it
    heard_it =
        response_is_heard murder law.given story.course.store to node message waits.node (waits.front).replica id me name flow it
        (record { holds = law.many; there = there; first = record { rest = rest; first = first } })
        (is_front config world law.master law.nodes waits.node waits.front waits.at) whose server (front_of knows)
        (in_murder fixed world law.master law.nodes.me waits.node (waits.front).replica id hearing
        (subst (λ p. IsInPlaceOf fixed world waits.node (waits.front).replica id p) is waits.placed))

    -- it is the one that is on the way
    at_place : (P : NamePlace → Type 0) → P (at_backend to waits.here) → P (name_at.hears name flow it)
    at_place P there_so =
        subst P (at_own me to (name_at.hears name flow it) server) (subst (λ p. P (at_backend to p)) is there_so)

    one_of : (other : MResponse) → IsAmong (answer_message flow other) (answer_message flow it ∷ []) → answer_message flow it ≡ answer_message flow other
    one_of other (inl same) = same
    one_of other (inr none) = absurd none

    the_one : (other : MResponse) → IsAmong (answer_message flow other) (on_link world.links fixed.master to) → IsResponse flow other → it ≡ other
    the_one other among known =
        same_response flow it other (at_place IsKnown ((waits.placed).shows to node there).known) known
        (one_of other (at_place (λ p. IsAmong (answer_message flow other) (downs_at p)) (its_down other among)))

    same_move : {one other : Move} → Some one ≡ Some other → one ≡ other
    same_move e = cc

    sends_on : (other : MResponse) → it ≡ other → heard_move name flow other ≡ Some (is_sent name (making flow))
        → IsReserved fixed.master (next law.master.me message) conn
    sends_on other same heard_so =
        let then : HasHeard murder to node (node_takes node law.master.me message) waits.node (waits.front).replica id name flow it = heard_it.1 in
        let move = same_move (sym then.is ∙ ap (λ (r : MResponse). heard_move name flow r) same ∙ heard_so) in
        let sending : Place = place.is_at node.flows.me (name_at.sends name (making flow)) in
        reserved_at law.master.me message sending (making flow)
        (in_world_then fixed world law.master law.nodes.me to law.master.me node (node_takes node law.master.me message) there waits.node
        (waits.front).replica id sending
        (subst (λ (m : Move). IsInThen murder to law.master.me (node_takes node law.master.me message) waits.node (waits.front).replica id
        (moved_to to node.flows.me m)) move (then.moved).placed))
        (ap (λ (p : NamePlace). flows_at p name)
        (at_own node.flows.me to (name_at.sends name (making flow)) ((law.many).each to node there).talk.each.named)
        ∙ on_itself name (making flow))
        (makes refl)

    heard_goes : HasReserved name flow (on_link world.links fixed.master to) → Goes law.master.me message
    heard_goes (makes stage) =
        inr (replied_then name flow stage fixed.master fixed.first waits.node c (waits.waits).tag (story.told conn) (story.talk.answers conn)
        (story.course.sessions conn) me it knows)
    heard_goes (hears_ok other among known heard_so) = inl (sends_on other (the_one other among known) heard_so)

  -- ---- which it is

  module _ (from : List ℕ) (message : LinkMsg) (rest : List LinkMsg) (first : on_link world.links from to ≡ message ∷ rest) where
    abbrev found : Carried LinkMsg
    found = record { from = from; to = to; message = message }

    own_by : (here : Place) → IsInFlow to name flow here → waits.here ≡ here → about message ≡ of_connection conn
        → its_message fixed.master waits.node id here ≡ Some found → Goes from message
    own_by _ (sends_line me server) is whose e =
        absurd (((law.many).each to node there).apart (sym (to_is e) ∙ sym law.nodes.me))
    own_by _ (hears_response me it server) is whose e =
        let of_master : law.master.me ≡ from = law.nodes.me ∙ from_is e in
        subst (λ f. Goes f message) of_master
        (heard_goes message rest (ap (λ f. on_link world.links f to) of_master ∙ first) whose me it server is reserved)

    of_own : about message ≡ of_connection conn → is_over id.command message ≡ false → Goes from message
    of_own whose on =
        own_by waits.here waits.is refl whose
        (first_of id.command world.links from to message rest (of_connection conn) (its_message fixed.master waits.node id waits.here) first whose on
        (waits.placed).message).0

    -- A BACKEND'S STEP
    pub home_goes : Goes from message
    home_goes = by (same_or_not (about message))
      where
        by : (about message ≡ of_connection conn) ⊎ (about message ≢ of_connection conn) → Goes from message
        by (inl whose) = ⊎_elim
            (λ (over : is_over id.command message ≡ true). of_other from message rest first (over_about id.command (of_connection conn) message over))
            (λ (on : is_over id.command message ≡ false). of_own whose on)
            (over_or id.command message)
        by (inr other) = of_other from message rest first (not_about id.command (of_connection conn) message other)

        same_or_not : (whom : About) → (whom ≡ of_connection conn) ⊎ (whom ≢ of_connection conn)
        same_or_not (of_connection c) = ⊎_elim (λ (e : c ≡ conn). inl (ap of_connection e)) (λ (ne : c ≢ conn). inr (other_whom c conn ne)) (cases_eq c conn)
        same_or_not of_nobody = inr (nobody_whom conn)
