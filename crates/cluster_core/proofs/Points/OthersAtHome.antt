-- A backend takes a message that isn't about a connection, or is left of a command of it that is over: the connection's command stays where it is, or the message
-- ends the resync for which it waits, and it is tested.
use Rattle.std.proofs.Common.{◌≡◌, ◌≢◌, ◌⊎◌, inl, inr, ℕ, ◌+◌, true, false, List, ◌∷◌, length, Option, Some, refl, sym, ◌∙◌, ap, subst, Bool}
use Rattle.std.specs.Ordering.{nat_cmp}
use Rattle.std.specs.Cmp.Lexicographic.{slice_cmp}
use Rattle.asking_core.specs.declared.waiting.At.{At}
use Rattle.back_links.specs.BackEvents.{IsFitting}
use Rattle.back_node.specs.declared.node.BackNode.{BackNode}
use Rattle.back_node.specs.Takes.{node_takes}
use Rattle.feed_core.specs.declared.replica.Replica.{Replica}
use Rattle.front_core.specs.Ending.{EndsOnlyLast}
use Rattle.front_core.proofs.OneConnection.Places.{about, is_about, of_connection}
use Rattle.front_core.proofs.OneConnection.Readings.{inputs_in}
use Rattle.front_core.specs.declared.connection.Connection.{Connection}
use Rattle.front_core.specs.declared.front.Front.{Front}
use Rattle.imap_talk.specs.Heard.{Heard, client}
use Rattle.imap_talk.specs.Transcript.{Stop}
use Rattle.imap_talk.specs.Transcript.Stop.{is_lost, silent}
use Rattle.imap_talk.specs.declared.inputs.Input.{Input}
use Rattle.imap_types.specs.declared.command.Tag.{Tag}
use Rattle.imap_wire.specs.Frames.{begun}
use Rattle.link_msg.specs.declared.message.LinkMsg.{LinkMsg}
use Rattle.link_queue.specs.Links.{on_link}
use Rattle.many_links.specs.Murder.{Murder}
use Rattle.mark_history.specs.Marked.{Tale}
use Rattle.mur_base.proofs.MapLaws.{names_apart, same_or_other}
use Rattle.mur_base.specs.declared.home.Location.{Location}
use Rattle.mur_base.specs.declared.point.AskId.{AskId}
use Rattle.mur_config.specs.declared.config.Config.{Config}
use Rattle.mur_model.specs.declared.store.Store.{Store}
use Rattle.name_commands.specs.Moves.{Move, tested_move}
use Rattle.name_commands.specs.Places.{NamePlace as name_at}
use Rattle.name_flows.specs.declared.ask.NameAsk.{NameAsk}
use Rattle.name_flows.specs.declared.flows.Flows.{Flows}
use Rattle.name_flows.specs.Asked.{refusal}
use Rattle.point_links.specs.Commands.{ClientCommand}
use Rattle.cluster_core.specs.declared.world.World.{World}
use Rattle.cluster_core.specs.World.{client_at, front_at, home_at, taken_from_link}
use Rattle.cluster_core.proofs.Commands.Knows.Knows.{is_decided, undecided}
use Rattle.cluster_core.proofs.Commands.Place.{Place, Place as place}
use Rattle.cluster_core.proofs.Commands.Standing.{Fixed, WaitsAt, next_id}
use Rattle.cluster_core.proofs.Connections.ConnectionLaw.{IsInNoneOf, IsInPlaceOf, IsMarkedAt, IsStanding, MarksStay, client_till, client_with, restores_as}
use Rattle.cluster_core.proofs.Connections.KeepsLaw.{ConnectionIs, IsAt, IsGone, IsUntold, KeepsLaw, fixed_of, murder_of}
use Rattle.cluster_core.proofs.Connections.KeepsLaw.ConnectionIs.{is_nobody, is_elsewhere, is_open, is_cut_off, is_closed}
use Rattle.cluster_core.proofs.Connections.Stays.{dropped_stays, marked_stays}
use Rattle.cluster_core.proofs.Nodes.Comes.{with_home}
use Rattle.cluster_core.proofs.Steps.Heads.{none_on_its_way}
use Rattle.cluster_core.proofs.Steps.HomeHears.{other_lines_stay_none, other_lines_stay_or_test}
use Rattle.cluster_core.proofs.Steps.HomeLinks.{IsInThen, IsNowhereThen}
use Rattle.cluster_core.proofs.Steps.HomeOthers.{others_stay, others_stay_none}
use Rattle.cluster_core.proofs.Steps.HomeSteps.{HomeTakes, StaysOrIsTested, is_tested, moved_to, stays}
use Rattle.cluster_core.proofs.Steps.Murders.{IsFront, IsIn, IsNowhere}
use Rattle.cluster_core.proofs.Steps.Worlds.{in_murder, in_world_then, is_front, law_tells, none_in_murder, none_in_world_then}
use Rattle.cluster_core.proofs.Points.Acts.{KnowsOf}
use Rattle.cluster_core.proofs.Points.AtBackend.{resync_tests}
use Rattle.cluster_core.proofs.Points.OwnAtHome.{moved_marked, moved_restores, moved_undropped}
use Rattle.cluster_core.proofs.Points.ListWaits.{list_barred}
use Rattle.cluster_core.proofs.Points.Waits.{Whose, each_command_waits, of_command, of_list, closed_so, cut_so, ended_is, ended_still, EndedSo, waits_ended, waits_open, whom_moved}

-- what the step leaves of a connection, but for its place
pub record LeavesElse (conn : ℕ) (world next : World) (story later : Tale) : Type 0 where
  pub fronts : (node : List ℕ) → front_at next node ≡ front_at world node
  pub client : client_at next conn ≡ client_at world conn
  pub broken : next.broken ≡ world.broken
  pub marks : MarksStay conn world.marks next.marks
  pub told : later.told conn ≡ story.told conn
  pub said : later.talk.answers conn ≡ story.talk.answers conn
  pub session : later.course.sessions conn ≡ story.course.sessions conn
  pub before : later.before conn ≡ story.before conn
  pub moving : later.talk.moving ≡ story.talk.moving

module _ (fixed : Fixed) (conn : ℕ) (world next : World) (story later : Tale) (same : LeavesElse conn world next story later) where
  abbrev id : AskId
  id = next_id conn (story.told conn)

  marked_then : (here : Place) → IsMarkedAt story.talk.moving world.marks id here → IsMarkedAt later.talk.moving next.marks (next_id conn (later.told conn)) here
  marked_then here marked =
      subst (λ m. IsMarkedAt m next.marks (next_id conn (later.told conn)) here) (sym same.moving)
      (subst (λ t. IsMarkedAt story.talk.moving next.marks (next_id conn t) here) (sym same.told)
      (marked_stays story.talk.moving id world.marks next.marks (same.marks (length (story.told conn) + 1)) here marked))

  placed_then : (node : List ℕ) (replica : Replica) (here : Place) → IsInPlaceOf fixed next node replica id here
      → IsInPlaceOf fixed next node replica (next_id conn (later.told conn)) here
  placed_then node replica here placed = subst (λ t. IsInPlaceOf fixed next node replica (next_id conn t) here) (sym same.told) placed

  pub knows_then : (node : List ℕ) (tag : Tag) (c : ClientCommand) (here : Place) → KnowsOf fixed node conn tag c story here
      → KnowsOf fixed node conn tag c later here
  knows_then node tag c here knows = rw (same.told, same.said, same.session) knows

  -- a connection whose command is where it was
  pub standing_stays : (node : List ℕ) (replica : Replica) (inputs : List Input) (held : Option (List ℕ)) (connection : Connection)
      (standing : IsStanding fixed node replica conn inputs held connection world story) → IsInPlaceOf fixed next node replica id standing.here
      → IsStanding fixed node replica conn inputs held connection next later
  standing_stays node replica inputs held connection standing placed = record {
    count = standing.count ∙ ap length (sym same.told);
    client = same.client ∙ standing.client ∙ ap (λ t. Some (client_with node inputs t)) (sym same.told);
    here = standing.here;
    placed = placed_then node replica standing.here placed;
    marked = marked_then standing.here standing.marked;
    dropped = dropped_stays fixed.master world next node same.broken standing.here standing.dropped;
    restores = restores_as story later conn connection connection standing.here same.said same.told same.before refl standing.restores;
    stands = rw (same.told, same.said, same.session) standing.stands;
  }

  pub gone_stays : (node : List ℕ) (replica : Replica) (inputs : List Input) (stop : Stop) (connection : Connection)
      (gone : IsGone fixed node replica conn inputs stop connection world story) → IsInPlaceOf fixed next node replica id gone.here
      → IsGone fixed node replica conn inputs stop connection next later
  gone_stays node replica inputs stop connection gone placed = record {
    stage_is = gone.stage_is;
    count = gone.count ∙ ap length (sym same.told);
    lasts = subst EndsOnlyLast (sym same.told) gone.lasts;
    client = same.client ∙ gone.client ∙ ap (λ t. Some (client_till stop node inputs t)) (sym same.told);
    here = gone.here;
    placed = placed_then node replica gone.here placed;
    marked = marked_then gone.here gone.marked;
    left = rw (same.told, same.said, same.session) gone.left;
    cut = λ lost none. gone.cut lost (sym same.broken ∙ none);
  }

  pub untold_stays : IsInNoneOf fixed next conn → IsUntold fixed conn world story → IsUntold fixed conn next later
  untold_stays nothing untold = record {
    told = same.told ∙ untold.told;
    said = same.said ∙ untold.said;
    session = same.session ∙ untold.session;
    nothing = nothing;
  }

-- ---- a backend's step

module _ (config : Config) (heard : ℕ → Heard) (world : World) (law : KeepsLaw config heard world) (conn : ℕ) (from to : List ℕ) (node : BackNode)
    (message : LinkMsg) (rest : List LinkMsg) (there : home_at world to ≡ Some node) (first : on_link world.links from to ≡ message ∷ rest)
    (other : is_about (length (law.story.told conn) + 1) (of_connection conn) message ≡ false) (fits : IsFitting message) where
  abbrev story : Tale
  story = law.story

  abbrev fixed : Fixed
  fixed = fixed_of config

  abbrev me : Location
  me = node.flows.me

  abbrev its : AskId
  its = next_id conn (story.told conn)

  abbrev murder : Murder
  murder = murder_of world law.master

  abbrev store : Store
  store = story.course.store

  abbrev next : World
  next = with_home (taken_from_link world from to) to (node_takes node from message)

  takes : HomeTakes murder law.given store to node from message
  takes = record { holds = law.many; there = there; first = record { rest = rest; first = first } }

  abbrev after : NameAsk → Flows → Move
  after ask flows = tested_move ask (refusal flows node.home.held ask.name ask.kind)

  -- the command is where it was, or is tested
  pub data StillOrTested (fnode : List ℕ) (front : Front) (here : Place) : Type 0 where
    still : IsInPlaceOf fixed next fnode front.replica its here → StillOrTested fnode front here
    tested : (ask : NameAsk) (flows : Flows) → here ≡ place.is_at me (name_at.waits ask) → flows.up ≡ node.flows.up → from ≡ law.master.me
        → (ask.front ≡ fnode → ask.id ≡ its → IsInPlaceOf fixed next fnode front.replica its (moved_to to me (after ask flows))) → StillOrTested fnode front here

  in_next : (fnode : List ℕ) (front : Front) (here : Place) → IsInThen murder to from (node_takes node from message) fnode front.replica its here
      → IsInPlaceOf fixed next fnode front.replica its here
  in_next fnode front here is =
      in_world_then fixed world law.master law.nodes.me to from node (node_takes node from message) there fnode front.replica its here is

  abbrev IsMaster : Type 0
  IsMaster = (from ≡ law.master.me) ⊎ (from ≢ law.master.me)

  from_is : IsMaster
  from_is = same_or_other (slice_cmp nat_cmp) names_apart from law.master.me

  -- where it was the master's step
  as_from : (fnode : List ℕ) (front : Front) (here : Place) → from ≡ law.master.me
      → IsInThen murder to law.master.me (node_takes node law.master.me message) fnode front.replica its here
      → IsInPlaceOf fixed next fnode front.replica its here
  as_from fnode front here e is =
      in_next fnode front here (subst (λ f. IsInThen murder to f (node_takes node f message) fnode front.replica its here) (sym e) is)

  of_master : from ≡ law.master.me → HomeTakes murder law.given store to node law.master.me message
  of_master e = subst (λ f. HomeTakes murder law.given store to node f message) e takes

  pub place_of : (fnode : List ℕ) (front : Front) (here : Place) → front_at world fnode ≡ Some front → IsInPlaceOf fixed world fnode front.replica its here
      → StillOrTested fnode front here
  place_of fnode front here at placed = by from_is
    where
      its_front : IsFront murder fnode
      its_front = is_front config world law.master law.nodes fnode front at

      is : IsIn murder fnode front.replica its here
      is = in_murder fixed world law.master law.nodes.me fnode front.replica its here placed

      of : from ≡ law.master.me → StaysOrIsTested murder to node (node_takes node law.master.me message) fnode front.replica its here → StillOrTested fnode front here
      of e (stays at_rest) = still (as_from fnode front here e at_rest.placed)
      of e (is_tested ask flows waits_there none up same moved) =
          tested ask flows waits_there up e (λ its_own its_id. as_from fnode front (moved_to to me (after ask flows)) e (moved its_own its_id).placed)

      by : IsMaster → StillOrTested fnode front here
      by (inl e) =
          of e (other_lines_stay_or_test murder law.given store to node message fnode front.replica its here (of_master e)
          (law_tells config heard world law to node there) its_front other is)
      by (inr ne) =
          still (in_next fnode front here
          (others_stay murder law.given store to node from message fnode front.replica its here takes ne fits its_front other is).placed)

  none_next : IsInNoneOf fixed world conn → IsInNoneOf fixed next conn
  none_next none = none_in_world_then fixed world law.master law.nodes.me to from node (node_takes node from message) there conn (by from_is)
    where
      is : IsNowhere murder conn
      is = none_in_murder fixed world law.master law.nodes.me conn none

      anothers : about message ≢ of_connection conn
      anothers own = none_on_its_way murder conn from to message takes.first own is

      by : IsMaster → IsNowhereThen murder to from (node_takes node from message) conn
      by (inl e) =
          subst (λ f. IsNowhereThen murder to f (node_takes node f message) conn) (sym e)
          (other_lines_stay_none murder law.given store to node message conn (of_master e) (law_tells config heard world law to node there) anothers is).placed
      by (inr ne) = (others_stay_none murder law.given store to node from message conn takes ne fits anothers is).placed

  module _ (later : Tale) (same : LeavesElse conn world next story later) where
    -- it waited for the end of the resync
    tested_goes : (stop : Stop) (h : Heard) (fnode : List ℕ) (front : Front) (connection : Connection) (here : Place) → IsAt world conn fnode front connection
        → connection.answered ≡ length (story.told conn) → Whose fixed conn fnode connection world story stop h here
        → (ask : NameAsk) (flows : Flows) → here ≡ place.is_at me (name_at.waits ask) → flows.up ≡ node.flows.up → from ≡ law.master.me
        → (ask.front ≡ fnode → ask.id ≡ its → IsInPlaceOf fixed next fnode front.replica its (moved_to to me (after ask flows))) → ConnectionIs fixed conn next later stop h
    tested_goes stop h fnode front connection here at count (of_list who) ask flows waits_there up e moved =
        let barred = list_barred fixed conn fnode connection world story stop h here who in
        absurd (let no : place.is_at me (name_at.waits ask) ≡ place.is_barred barred.at = sym waits_there ∙ barred.is in cc)
    tested_goes stop h fnode front connection here at count (of_command who) ask flows waits_there up e moved =
        let waits = each_command_waits fixed conn fnode front connection world story stop h here at count who in
        let knows : KnowsOf fixed fnode conn waits.tag waits.c story (place.is_at me (name_at.waits ask)) =
        subst (λ p. KnowsOf fixed fnode conn waits.tag waits.c story p) waits_there waits.knows in
        let move : Move = after ask flows in
        let moves = resync_tests fixed fnode conn world.steps story waits.tag waits.c murder law.given to node message rest ask flows
        (record { holds = law.many; there = there; first = ap (λ f. on_link world.links f to) (sym e) ∙ first }) knows up in
        waits.goes_on next later (moved_to to me move) (record {
          fronts = same.fronts fnode;
          clients = same.client;
          broken = same.broken;
          told = same.told;
          placed = placed_then fixed conn world next story later same fnode front.replica (moved_to to me move)
              (moved (front_of fnode waits.tag waits.c ask knows) (id_of fnode waits.tag waits.c ask knows ∙ waits.its));
          marked = moved_marked later.talk.moving next.marks (next_id conn (later.told conn)) to me move;
          dropped = moved_undropped fixed.master next fnode to me move;
          restores = moved_restores conn waits.c later to me move;
          whom = subst (λ p. (a : At) → WaitsAt a p → WaitsAt a (moved_to to me move)) (sym waits_there)
              (λ a is. whom_moved to me (name_at.waits ask) move a (law.many.each to node there).talk.each.named is);
          knows = knows_then fixed conn world next story later same fnode waits.tag waits.c (moved_to to me move) moves.knows;
        })
      where
        front_of : (f : List ℕ) (tag : Tag) (c : ClientCommand) (asked : NameAsk) → KnowsOf fixed f conn tag c story (place.is_at me (name_at.waits asked))
            → asked.front ≡ f
        front_of f tag c asked (undecided said was tells) = ap (λ (a : NameAsk). a.front) tells.2
        front_of f tag c asked (is_decided turn said session ends brings) = absurd brings

        id_of : (f : List ℕ) (tag : Tag) (c : ClientCommand) (asked : NameAsk) → KnowsOf fixed f conn tag c story (place.is_at me (name_at.waits asked))
            → asked.id ≡ c.id
        id_of f tag c asked (undecided said was tells) = ap (λ (a : NameAsk). a.id) tells.2
        id_of f tag c asked (is_decided turn said session ends brings) = absurd brings

    somewhere : (here : Place) (ask : NameAsk) → here ≡ place.is_at me (name_at.waits ask) → here ≡ place.nowhere → ⊥
    somewhere here ask e none = let no : place.is_at me (name_at.waits ask) ≡ place.nowhere = sym e ∙ none in cc

    gone_goes : (bytes fnode : List ℕ) (front : Front) (connection : Connection) (stop : Stop) (shut : Bool)
        → EndedSo (inputs_in fixed.setting bytes) (story.told conn) stop shut → IsAt world conn fnode front connection
        → (gone : IsGone fixed fnode front.replica conn (inputs_in fixed.setting bytes) stop connection world story) → StillOrTested fnode front gone.here
        → ConnectionIs fixed conn next later stop (client bytes shut)
    gone_goes bytes fnode front connection stop shut ended at gone (still placed) =
        ended_is fixed conn fnode front connection next later bytes stop shut
        (ended_still (inputs_in fixed.setting bytes) (story.told conn) (later.told conn) stop shut same.told ended)
        (record { at = same.fronts fnode ∙ at.at; has = at.has })
        (gone_stays fixed conn world next story later same fnode front.replica (inputs_in fixed.setting bytes) stop connection gone placed)
    gone_goes bytes fnode front connection stop shut ended at gone (tested ask flows waits_there up e moved) =
        tested_goes stop (client bytes shut) fnode front connection gone.here at gone.count
        (waits_ended fixed conn fnode connection world story bytes gone.here (somewhere gone.here ask waits_there) stop shut ended gone.stage_is gone.lasts gone.client
        gone.cut gone.left) ask flows waits_there up e moved

    others_go : (stop : Stop) (h : Heard) → ConnectionIs fixed conn world story stop h → ConnectionIs fixed conn next later stop h
    others_go _ _ (is_nobody none fronts untold) =
        is_nobody (same.client ∙ none) (λ n f at. fronts n f (sym (same.fronts n) ∙ at))
        (untold_stays fixed conn world next story later same (none_next untold.nothing) untold)
    others_go _ _ (is_elsewhere n given at none untold) =
        is_elsewhere n given (same.client ∙ at) (same.fronts n ∙ none) (untold_stays fixed conn world next story later same (none_next untold.nothing) untold)
    others_go _ _ (is_open bytes fnode front connection at reader standing) = by (place_of fnode front standing.here at.at standing.placed)
      where
        by : StillOrTested fnode front standing.here → ConnectionIs fixed conn next later silent (client bytes false)
        by (still placed) =
            is_open bytes fnode front connection (record { at = same.fronts fnode ∙ at.at; has = at.has }) reader
            (standing_stays fixed conn world next story later same fnode front.replica (inputs_in fixed.setting bytes) (begun bytes) connection standing placed)
        by (tested ask flows waits_there up e moved) =
            tested_goes silent (client bytes false) fnode front connection standing.here at standing.count
            (waits_open fixed conn fnode connection world story bytes standing.here (somewhere standing.here ask waits_there) reader standing.client
            standing.stands) ask flows waits_there up e moved
    others_go _ _ (is_cut_off bytes fnode front connection at gone unanswered) =
        gone_goes bytes fnode front connection is_lost false (cut_so unanswered) at gone (place_of fnode front gone.here at.at gone.placed)
    others_go _ _ (is_closed stop bytes fnode front connection at gone) =
        gone_goes bytes fnode front connection stop true (closed_so stop) at gone (place_of fnode front gone.here at.at gone.placed)

-- THE STEP OF A BACKEND THAT TAKES WHAT ISN'T ABOUT A CONNECTION, for that connection
abbrev pub HomeStepIsOthers : Type 0
HomeStepIsOthers = (config : Config) (heard : ℕ → Heard) (world : World) (law : KeepsLaw config heard world) (conn : ℕ) (from to : List ℕ) (node : BackNode)
    (message : LinkMsg) (rest : List LinkMsg) (later : Tale) → home_at world to ≡ Some node → on_link world.links from to ≡ message ∷ rest
    → is_about (length (law.story.told conn) + 1) (of_connection conn) message ≡ false → IsFitting message
    → LeavesElse conn world (with_home (taken_from_link world from to) to (node_takes node from message)) law.story later
    → ConnectionIs (fixed_of config) conn (with_home (taken_from_link world from to) to (node_takes node from message)) later (law.stops conn) (heard conn)

pub home_step_is_others : HomeStepIsOthers
home_step_is_others config heard world law conn from to node message rest later there first other fits same =
    others_go config heard world law conn from to node message rest there first other fits later same (law.stops conn) (heard conn) (law.connections conn)
