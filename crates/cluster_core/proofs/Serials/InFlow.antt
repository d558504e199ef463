-- Where a backend has a flow of a connection, the connection's command waits there: the line of the flow is on its way to the master, or the response to that
-- is on its way back.
use Rattle.std.proofs.Common.{◌≡◌, ℕ, ◌+◌, ◌≤◌, Bool, true, false, cond, nat_eq, List, [], ◌∷◌, length, Option, None, Some, refl, sym, ◌∙◌, ap, subst, arith}
use Rattle.std.proofs.Common.{length-append}
use Rattle.std.proofs.lemmas.Bool.Decides.{nat_tests}
use Rattle.std.specs.Cmp.Lexicographic.{pointwise}
use Rattle.back_node.specs.declared.node.BackNode.{BackNode}
use Rattle.front_core.specs.declared.connection.Connection.{Connection}
use Rattle.front_core.specs.declared.front.Front.{Front}
use Rattle.home_law.proofs.SameName.{is_the_same}
use Rattle.imap_talk.specs.Heard.{Heard}
use Rattle.imap_talk.specs.Transcript.{Stop}
use Rattle.imap_talk.specs.Transcript.Stop.{is_lost}
use Rattle.mark_history.specs.Marked.{Tale}
use Rattle.mupdate_codec.specs.declared.command.MResponse.{MResponse}
use Rattle.mupdate_codec.specs.declared.command.MResponse.TheVariants as response
use Rattle.mupdate_codec.proofs.AsksLaw.{ask_again}
use Rattle.mupdate_codec.proofs.LineAsks.{own_response}
use Rattle.mur_base.specs.declared.home.Location.{Location}
use Rattle.mur_base.specs.declared.point.AskId.{AskId}
use Rattle.mur_config.specs.declared.config.Config.{Config}
use Rattle.imap_types.specs.declared.command.Tag.{Tag}
use Rattle.imap_types.specs.declared.request.Answer.{Answer}
use Rattle.link_msg.specs.declared.answer.AnswerBody.TheVariants.{NotNow}
use Rattle.link_msg.specs.declared.message.LinkMsg.{LinkMsg}
use Rattle.mur_model.specs.declared.session.Sess.{Sess}
use Rattle.name_commands.specs.Moves.{ends, heard_move_by, is_sent}
use Rattle.name_commands.specs.Places.{HasNumbers, IsNumbered, NamePlace, NamePlace as name_at, TalkShows, answer_message, downs_at, flows_at}
use Rattle.name_commands.specs.Whose.{is_of_connection, is_own, is_own_message, own_flow}
use Rattle.name_commands.proofs.AllLaw.{on_only}
use Rattle.name_commands.proofs.Own.{own_here, own_is}
use Rattle.name_flows.specs.declared.flow.Flow.{Flow}
use Rattle.name_flows.specs.declared.flow.Stage.{Stage}
use Rattle.name_flows.specs.declared.flow.Stage.TheVariants.{Making}
use Rattle.name_flows.specs.Running.{flow_at}
use Rattle.point_links.specs.Commands.{ClientCommand}
use Rattle.route_links.specs.Barriers.{Place as Barrier}
use Rattle.cluster_core.specs.declared.world.World.{World}
use Rattle.cluster_core.specs.World.{front_at, home_at}
use Rattle.cluster_core.proofs.Commands.InPlace.{ShowEach}
use Rattle.cluster_core.proofs.Commands.Knows.{GoesOnAtResponse, Knows}
use Rattle.cluster_core.proofs.Commands.Knows.GoesOnAtResponse.{puts_off, sends_on}
use Rattle.cluster_core.proofs.Commands.Knows.Knows.{is_decided, undecided}
use Rattle.cluster_core.proofs.Commands.Place.{Place, at_backend, Place as place}
use Rattle.cluster_core.proofs.Commands.Standing.{Fixed, next_id}
use Rattle.cluster_core.proofs.Connections.ConnectionLaw.{IsInPlaceOf}
use Rattle.cluster_core.proofs.Connections.KeepsLaw.{ConnectionIs, IsAt, KeepsLaw, fixed_of}
use Rattle.cluster_core.proofs.Connections.KeepsLaw.ConnectionIs.{is_nobody, is_elsewhere, is_open, is_cut_off, is_closed}
use Rattle.cluster_core.proofs.Points.ListWaits.{list_barred}
use Rattle.cluster_core.proofs.Points.Waits.{CommandWaits, Whose, each_command_waits, of_command, of_list, closed_so, cut_so, waits_ended, waits_open}
use Rattle.cluster_core.proofs.Serials.Reserved.{IsAmong, among_kept}
use Rattle.cluster_core.proofs.Steps.Murders.{at_own}

-- a command is in this flow of this backend
pub data IsInFlow (server name : List ℕ) (flow : Flow) : Place → Type 0 where
  sends_line : (me : Location) → me.server ≡ server → IsInFlow server name flow (place.is_at me (name_at.sends name flow))
  hears_response : (me : Location) (it : MResponse) → me.server ≡ server → IsInFlow server name flow (place.is_at me (name_at.hears name flow it))

-- ---- the backend's flow tells the place

module _ (server name : List ℕ) (flow : Flow) where
  sent_there : (me : Location) (its : List ℕ) (f : Flow) → me.server ≡ server → (its ≡ name) × (f ≡ flow)
      → IsInFlow server name flow (place.is_at me (name_at.sends its f))
  sent_there me its f at same = rw (same.0, same.1) (sends_line me at)

  heard_there : (me : Location) (its : List ℕ) (f : Flow) (it : MResponse) → me.server ≡ server → (its ≡ name) × (f ≡ flow)
      → IsInFlow server name flow (place.is_at me (name_at.hears its f it))
  heard_there me its f it at same = rw (same.0, same.1) (hears_response me it at)

  at_name : (me : Location) (at : NamePlace) → me.server ≡ server → flows_at at name ≡ Some flow → IsInFlow server name flow (place.is_at me at)
  at_name me name_at.nowhere its e = cc
  at_name me (name_at.waits ask) its e = cc
  at_name me (name_at.sends n f) its e = sent_there me n f its (on_only n f name flow e)
  at_name me (name_at.hears n f it) its e = heard_there me n f it its (on_only n f name flow e)

  at_server : (me : Location) (at : NamePlace) (same : Bool) → pointwise nat_eq me.server server ≡ same
      → flows_at (cond same at name_at.nowhere) name ≡ Some flow → IsInFlow server name flow (place.is_at me at)
  at_server me at true h e = at_name me at (is_the_same me.server server h) e
  at_server me at false h e = cc

  in_flow : (here : Place) → flows_at (at_backend server here) name ≡ Some flow → IsInFlow server name flow here
  in_flow place.nowhere e = cc
  in_flow (place.is_asked s ask) e = cc
  in_flow (place.is_answered s answer) e = cc
  in_flow (place.is_dropped s) e = cc
  in_flow (place.is_at me at) e = at_server me at (pointwise nat_eq me.server server) refl e
  in_flow (place.is_barred at) e = cc

-- a flow is somewhere, and a LIST has none
module _ (server name : List ℕ) (flow : Flow) (here : Place) (shows : flows_at (at_backend server here) name ≡ Some flow) where
  not_elsewhere : (it : Place) → here ≡ it → flows_at (at_backend server it) name ≡ Some flow
  not_elsewhere it same = ap (λ (p : Place). flows_at (at_backend server p) name) (sym same) ∙ shows

  not_nowhere : here ≡ place.nowhere → ⊥
  not_nowhere none = let no : None ≡ Some flow = not_elsewhere place.nowhere none in cc

  not_barred : (at : Barrier) → here ≡ place.is_barred at → ⊥
  not_barred at barred = let no : None ≡ Some flow = not_elsewhere (place.is_barred at) barred in cc

-- ---- what is on the way about it

module _ (conn : ℕ) (server : List ℕ) (backend : BackNode) (up down : List LinkMsg) (here : Place)
    (shown : TalkShows (is_of_connection conn) backend up down (at_backend server here)) (name : List ℕ) (flow : Flow)
    (shows : flows_at (at_backend server here) name ≡ Some flow) where
  -- its numbers are those of its place
  numbered_in : (at : Place) → IsInFlow server name flow at → HasNumbers (at_backend server at) → IsNumbered flow.ask
  numbered_in _ (sends_line me its) numbers = subst HasNumbers (at_own me server (name_at.sends name flow) its) numbers
  numbered_in _ (hears_response me it its) numbers = subst HasNumbers (at_own me server (name_at.hears name flow it) its) numbers

  pub runs_there : (flow_at backend.flows name ≡ Some flow) × (is_of_connection conn flow.ask ≡ true)
  runs_there = own_is (is_of_connection conn) (flow_at backend.flows name) flow ((shown.at).running name ∙ shows)

  its_own : (it : MResponse) → is_own_message (is_of_connection conn) (answer_message flow it) ≡ true
  its_own it =
      let numbered = numbered_in here (in_flow server name flow here shows) (shown.at).numbered in
      ap (λ (i : Option AskId). is_own (is_of_connection conn) i) (own_response flow.ask it ∙ ask_again flow.ask numbered.0 numbered.1) ∙ runs_there.1

  -- a response to it is the one of its place
  pub response_in_place : (it : MResponse) → IsAmong (answer_message flow it) down → IsAmong (answer_message flow it) (downs_at (at_backend server here))
  response_in_place it among =
      subst (IsAmong (answer_message flow it)) shown.down_is
      (among_kept (is_own_message (is_of_connection conn)) (answer_message flow it) down (its_own it) among)

-- ---- its connection

pub its_connection : (conn : ℕ) (flow : Flow) → (flow.ask).conn ≡ conn → is_of_connection conn flow.ask ≡ true
its_connection conn flow own = grind (arith, nat_tests)

-- the connection's command waits in the flow
pub record WaitsInFlow (fixed : Fixed) (conn : ℕ) (world : World) (story : Tale) (stop : Stop) (was : Heard) (server name : List ℕ) (flow : Flow)
    : Type 0 where
  pub node : List ℕ
  pub front : Front
  pub at : front_at world node ≡ Some front
  pub here : Place
  pub is : IsInFlow server name flow here
  pub shows : flows_at (at_backend server here) name ≡ Some flow
  pub placed : IsInPlaceOf fixed world node front.replica (next_id conn (story.told conn)) here
  pub waits : CommandWaits fixed conn node front world story stop was here

module _ (config : Config) (heard : ℕ → Heard) (world : World) (law : KeepsLaw config heard world) (server : List ℕ) (backend : BackNode)
    (there : home_at world server ≡ Some backend) (name : List ℕ) (flow : Flow) (runs : flow_at backend.flows name ≡ Some flow) (conn : ℕ)
    (own : (flow.ask).conn ≡ conn) where
  abbrev fixed : Fixed
  fixed = fixed_of config

  abbrev story : Tale
  story = law.story

  abbrev Waits : Stop → Heard → Type 0
  Waits stop was = WaitsInFlow fixed conn world story stop was server name flow

  shown : (here : Place) → ShowEach fixed.master (home_at world) world.links conn here → flows_at (at_backend server here) name ≡ Some flow
  shown here shows =
      sym (((shows server backend there).at).running name) ∙ ap (own_flow (is_of_connection conn)) runs
      ∙ own_here (is_of_connection conn) flow (its_connection conn flow own)

  waits_by : (stop : Stop) (was : Heard) (node : List ℕ) (front : Front) (connection : Connection) (here : Place) → flows_at (at_backend server here) name ≡ Some flow
      → IsAt world conn node front connection → connection.answered ≡ length (story.told conn)
      → IsInPlaceOf fixed world node front.replica (next_id conn (story.told conn)) here → Whose fixed conn node connection world story stop was here → Waits stop was
  waits_by stop was node front connection here shows at count placed (of_command who) = record {
    node = node;
    front = front;
    at = at.at;
    here = here;
    is = in_flow server name flow here shows;
    shows = shows;
    placed = placed;
    waits = each_command_waits fixed conn node front connection world story stop was here at count who;
  }
  waits_by stop was node front connection here shows at count placed (of_list who) =
      let barred = list_barred fixed conn node connection world story stop was here who in absurd (not_barred server name flow here shows barred.at barred.is)

  connection_waits : (stop : Stop) (was : Heard) → ConnectionIs fixed conn world story stop was → Waits stop was
  connection_waits stop was (is_nobody none fronts untold) = absurd (not_nowhere server name flow place.nowhere (shown place.nowhere (untold.nothing).shows) refl)
  connection_waits stop was (is_elsewhere node given at none untold) =
      absurd (not_nowhere server name flow place.nowhere (shown place.nowhere (untold.nothing).shows) refl)
  connection_waits stop was (is_open bytes node front connection at reader standing) =
      let here = standing.here in
      let shows = shown here (standing.placed).shows in
      waits_by stop was node front connection here shows at standing.count standing.placed
      (waits_open fixed conn node connection world story bytes here (not_nowhere server name flow here shows) reader standing.client standing.stands)
  connection_waits stop was (is_cut_off bytes node front connection at gone unanswered) =
      let here = gone.here in
      let shows = shown here (gone.placed).shows in
      waits_by stop was node front connection here shows at gone.count gone.placed
      (waits_ended fixed conn node connection world story bytes here (not_nowhere server name flow here shows) is_lost false (cut_so unanswered) gone.stage_is
      gone.lasts gone.client gone.cut gone.left)
  connection_waits stop was (is_closed _ bytes node front connection at gone) =
      let here = gone.here in
      let shows = shown here (gone.placed).shows in
      waits_by stop was node front connection here shows at gone.count gone.placed
      (waits_ended fixed conn node connection world story bytes here (not_nowhere server name flow here shows) _ true (closed_so _) gone.stage_is gone.lasts
      gone.client gone.cut gone.left)

  -- ITS CONNECTION'S COMMAND WAITS IN THE FLOW
  pub waits_in_flow : Waits (law.stops conn) (heard conn)
  waits_in_flow = connection_waits (law.stops conn) (heard conn) (law.connections conn)

-- ---- where the master has answered ACTIVATE, the one store has replied

module _ (name : List ℕ) (flow : Flow) (stage : flow.stage ≡ Making) where
  not_put_off : (it : MResponse) → heard_move_by name flow Making it ≡ Some (ends flow NotNow) → ⊥
  not_put_off (response.Ok text) e = cc
  not_put_off (response.No text) e = cc
  not_put_off (response.Bad text) e = cc
  not_put_off (response.Mailbox n at acl) e = cc
  not_put_off (response.Reserve n at) e = cc
  not_put_off (response.Delete n) e = cc

  not_sent_on : (later : Flow) (it : MResponse) → heard_move_by name flow Making it ≡ Some (is_sent name later) → ⊥
  not_sent_on later (response.Ok text) e = cc
  not_sent_on later (response.No text) e = cc
  not_sent_on later (response.Bad text) e = cc
  not_sent_on later (response.Mailbox n at acl) e = cc
  not_sent_on later (response.Reserve n at) e = cc
  not_sent_on later (response.Delete n) e = cc

  its_end : (it : MResponse) → GoesOnAtResponse name flow it → ⊥
  its_end it (puts_off e) = not_put_off it (ap (λ (s : Stage). heard_move_by name flow s it) (sym stage) ∙ e)
  its_end it (sends_on later e) = not_sent_on later it (ap (λ (s : Stage). heard_move_by name flow s it) (sym stage) ∙ e)

  pub replied_then : (master first front : List ℕ) (c : ClientCommand) (tag : Tag) (told said : List Answer) (session : Sess) (me : Location) (it : MResponse)
      → Knows master first front c tag told said session (place.is_at me (name_at.hears name flow it)) → length told + 1 ≤ length said
  replied_then master first front c tag told said session me it (undecided same was tells) = absurd (its_end it tells.1)
  replied_then master first front c tag told said session me it (is_decided turn same after ends_so brings) =
      omega (arith, ap length same, length-append told (record { tag = tag; reply = turn.reply } ∷ []))
