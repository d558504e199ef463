-- What a step of a backend makes of the command of a connection, and what goes out about it.
use Rattle.std.proofs.Common.{◌≡◌, ◌≢◌, ◌⊎◌, inl, inr, ℕ, ◌+◌, true, false, List, [], ◌∷◌, length, filter, Option, None, Some, refl, sym, ap, subst, ◌∙◌}
use Rattle.std.specs.Ordering.{nat_cmp}
use Rattle.std.specs.Cmp.Lexicographic.{slice_cmp}
use Rattle.std.proofs.Math.Logic.{⊎_elim}
use Rattle.std.proofs.lemmas.Bool.{cases_eq}
use Rattle.back_links.specs.BackEvents.{IsFitting}
use Rattle.back_links.specs.OneTalk.{HasTalk}
use Rattle.back_node.specs.declared.node.BackNode.{BackNode}
use Rattle.back_node.specs.Acted.{BackActed}
use Rattle.back_node.specs.Takes.{name_ask, name_kind, node_takes}
use Rattle.front_core.proofs.OneConnection.Places.{About, about, is_about, is_over, not_about, of_connection, of_nobody, over_about, over_or, own_about}
use Rattle.imap_talk.specs.Heard.{Heard}
use Rattle.link_msg.specs.declared.answer.AnswerBody.{AnswerBody}
use Rattle.link_msg.specs.declared.ask.FrontAsk.{FrontAsk}
use Rattle.link_msg.specs.declared.message.LinkMsg.{LinkMsg}
use Rattle.link_msg.specs.declared.message.LinkMsg.TheVariants.{Ask}
use Rattle.link_queue.specs.Links.{on_link}
use Rattle.mupdate_codec.specs.declared.command.MResponse.{MResponse}
use Rattle.mur_base.proofs.MapLaws.{names_apart, same_or_other}
use Rattle.mur_base.specs.declared.point.AskId.{AskId}
use Rattle.mur_config.specs.declared.config.Config.{Config}
use Rattle.name_commands.specs.BackSteps.{LeavesOrTests, LeavesOrTests as leaves_or}
use Rattle.name_commands.specs.Moves.{LeavesCommand, Move, MovesCommand, asked_move, heard_move, outs_of, place_after, tested_move}
use Rattle.name_commands.specs.Places.{FlowsShow, NamePlace, TalkShows, NamePlace as name_at}
use Rattle.name_commands.specs.Whose.{Whose, is_of_connection, is_own_out}
use Rattle.name_commands.proofs.AnswerSteps.{answer_moves, other_answers_leave}
use Rattle.name_commands.proofs.AskSteps.{ask_moves, messages_leave, other_asks_leave}
use Rattle.name_flows.specs.declared.ask.AskKind.{AskKind}
use Rattle.name_flows.specs.declared.ask.NameAsk.{NameAsk}
use Rattle.name_flows.specs.declared.flow.Flow.{Flow}
use Rattle.name_flows.specs.Asked.{refusal}
use Rattle.cluster_core.specs.declared.world.World.{World}
use Rattle.cluster_core.specs.World.{home_at, master_of}
use Rattle.cluster_core.proofs.Commands.InPlace.{ShowsAt}
use Rattle.cluster_core.proofs.Commands.Place.{Place, at_backend}
use Rattle.cluster_core.proofs.Commands.Standing.{next_id}
use Rattle.cluster_core.proofs.Connections.KeepsLaw.{KeepsLaw, fixed_of}
use Rattle.cluster_core.proofs.Points.Found.{IsFoundIn, found_in, in_answer, in_ask, in_line, in_noop, in_ok, in_response}
use Rattle.cluster_core.proofs.Points.HomeStep.{nobody_fits, over_fits}
use Rattle.cluster_core.proofs.Points.OwnAtHome.{home_step_is_own}
use Rattle.cluster_core.proofs.Points.Waits.{AskedFit, TellsPlace, first_tells}
use Rattle.cluster_core.proofs.Steps.HomeOthers.{asks_other}
use Rattle.cluster_core.proofs.Steps.Murders.{at_own}
use Rattle.cluster_core.proofs.Steps.Outs.{not_about_it, own_it}
use Rattle.cluster_core.proofs.Steps.Worlds.{down_line_on, each_shown, law_tells}

-- it is there then, and this goes out about it
pub record Goes (whose : Whose) (master : List ℕ) (node : BackNode) (next : BackActed) (move : Move) : Type 0 where
  pub at : FlowsShow whose next.state.flows (place_after move)
  pub outs : filter (is_own_out whose) next.outs ≡ outs_of master node.flows.me move

-- The backend takes something else, and leaves it; its ask, for a name or for messages; the response to its line; or the end of the resync for which it waits.
pub data IsDone (whose : Whose) (master : List ℕ) (node : BackNode) (from : List ℕ) (message : LinkMsg) : Type 0 where
  is_left : (at : NamePlace) → FlowsShow whose node.flows at → FlowsShow whose (node_takes node from message).state.flows at
      → filter (is_own_out whose) (node_takes node from message).outs ≡ [] → IsDone whose master node from message
  is_asked : (ask : FrontAsk) (kind : AskKind) → message ≡ Ask ask → name_kind ask.op ≡ Some kind
      → Goes whose master node (node_takes node from message) (asked_move node.flows node.home.held (name_ask from ask kind))
      → IsDone whose master node from message
  is_served : (ask : FrontAsk) → message ≡ Ask ask → name_kind ask.op ≡ None
      → FlowsShow whose (node_takes node from message).state.flows name_at.nowhere → IsDone whose master node from message
  is_heard : (name : List ℕ) (flow : Flow) (it : MResponse) (move : Move) → heard_move name flow it ≡ Some move
      → Goes whose master node (node_takes node from message) move → IsDone whose master node from message
  is_tested : (ask : NameAsk) (body : Option AnswerBody) → FlowsShow whose node.flows (name_at.waits ask)
      → Goes whose master node (node_takes node from message) (tested_move ask body) → IsDone whose master node from message

goes : (whose : Whose) (master : List ℕ) (node : BackNode) (next : BackActed) (up down : List LinkMsg) (move : Move)
    → MovesCommand whose master node next up down move → Goes whose master node next move
goes whose master node next up down move moves = record { at = moves.placed.at; outs = moves.outs }

module _ (config : Config) (heard : ℕ → Heard) (world : World) (law : KeepsLaw config heard world) (fit : AskedFit world law.story) (from to : List ℕ)
    (node : BackNode) (message : LinkMsg) (rest : List LinkMsg) (there : home_at world to ≡ Some node)
    (first : on_link world.links from to ≡ message ∷ rest) where
  abbrev me : List ℕ
  me = law.master.me

  abbrev up : List LinkMsg
  up = on_link world.links to me

  abbrev down : List LinkMsg
  down = on_link world.links me to

  pub talk : HasTalk law.master to node up down law.given
  talk = (law.many.each to node there).talk

  -- whatever it is about
  fits_by : (whom : About) → about message ≡ whom → IsFitting message
  fits_by (of_connection conn) own = ⊎_elim
      (λ (over : is_over (length (law.story.told conn) + 1) message ≡ true). over_fits (length (law.story.told conn) + 1) message over)
      (λ (on : is_over (length (law.story.told conn) + 1) message ≡ false).
      (home_step_is_own config heard world law conn from to node message rest fit there first own on).fits)
      (over_or (length (law.story.told conn) + 1) message)
  fits_by of_nobody own = nobody_fits message own

  pub fits : IsFitting message
  fits = fits_by (about message) refl

  -- what the master has sent it, where the message is the master's
  module _ (mine : from ≡ me) where
    down_is : down ≡ message ∷ rest
    down_is = ap (λ (f : List ℕ). on_link world.links f to) (sym mine) ∙ first

    pub hears : HasTalk law.master to node up (message ∷ rest) law.given
    hears = subst (λ (d : List LinkMsg). HasTalk law.master to node up d law.given) down_is talk

    shown_first : (whose : Whose) (at : NamePlace) → TalkShows whose node up down at → TalkShows whose node up (message ∷ rest) at
    shown_first whose at shows = subst (λ (d : List LinkMsg). TalkShows whose node up d at) down_is shows

  module _ (conn : ℕ) where
    abbrev whose : Whose
    whose = is_of_connection conn

    abbrev Done : List ℕ → Type 0
    Done other = IsDone whose me node other message

    shown_at : (at : NamePlace) → TalkShows whose node (on_link world.links to (master_of config)) (on_link world.links (master_of config) to) at
        → TalkShows whose node up down at
    shown_at at shows =
        subst (λ (m : List ℕ). TalkShows whose node (on_link world.links to m) (on_link world.links m to) at) (sym law.nodes.me) shows

    abbrev first_on : ℕ
    first_on = length (law.story.told conn) + 1

    -- ---- the message is about something else, or is left of a command that is over

    module _ (other : is_about first_on (of_connection conn) message ≡ false) where
      -- which doesn't come of the master
      anothers : from ≡ me → about message ≢ of_connection conn
      anothers mine own =
          let on = down_line_on config heard world law conn to node there message own (record { rest = rest; first = down_is mine }) in
          let no : true ≡ false = sym (own_about first_on (of_connection conn) message own on) ∙ other in cc

      abbrev at : NamePlace
      at = at_backend to (each_shown (fixed_of config) conn world law.story (law.stops conn) (heard conn) (law.connections conn)).0

      shows : TalkShows whose node up down at
      shows = shown_at at ((each_shown (fixed_of config) conn world law.story (law.stops conn) (heard conn) (law.connections conn)).1 to node there)

      by_master : LeavesOrTests whose me node message up rest at → Done me
      by_master (leaves_or.is_left it) = is_left at shows.at it.placed.at it.outs
      by_master (leaves_or.is_tested ask flows waits over same master moves) =
          is_tested ask (refusal flows node.home.held ask.name ask.kind) (subst (λ (p : NamePlace). FlowsShow whose node.flows p) waits shows.at)
          (goes whose me node (node_takes node me message) up rest _ moves)

      left : LeavesCommand whose me (node_takes node from message) up down at → Done from
      left it = is_left at shows.at it.placed.at it.outs

      done_other : Done from
      done_other = ⊎_elim
          (λ (mine : from ≡ me). subst Done (sym mine)
          (by_master (other_answers_leave whose law.master to node up rest law.given message at (hears mine) (law_tells config heard world law to node there)
          (not_about_it conn message (anothers mine)) (shown_first mine whose at shows))))
          (λ (ne : from ≢ me). left (other_asks_leave whose law.master to node up down law.given from message at talk ne fits
          (asks_other first_on conn message other) shows))
          (same_or_other (slice_cmp nat_cmp) names_apart from me)

    -- ---- it is about the command

    module _ (own : about message ≡ of_connection conn) (on : is_over first_on message ≡ false) where
      tells : TellsPlace (fixed_of config) conn world law.story (law.stops conn) (heard conn) from to message
      tells = first_tells (fixed_of config) conn world law.story (law.stops conn) (heard conn) from to message rest first own on (law.connections conn)

      abbrev id : AskId
      id = next_id conn (law.story.told conn)

      no_front : tells.node ≡ to → ⊥
      no_front e =
          let no : None ≡ Some node = sym (law.nodes.fronts tells.node tells.front (tells.at).at).no_home ∙ ap (home_at world) e ∙ there in cc

      no_master : master_of config ≡ to → ⊥
      no_master e = (law.many.each to node there).apart (sym e ∙ sym law.nodes.me)

      not_me : tells.node ≡ from → from ≢ me
      not_me e is = (law.nodes.fronts tells.node tells.front (tells.at).at).no_master (e ∙ is ∙ law.nodes.me)

      abbrev asked_next : FrontAsk → BackActed
      asked_next ask = node_takes node from (Ask ask)

      -- its ask
      module _ (ask : FrontAsk) (is : message ≡ Ask ask) (ne : from ≢ me) (shows : TalkShows whose node up down name_at.nowhere) where
        own_ask : is_of_connection conn ask.id ≡ true
        own_ask = own_it conn (Ask ask) (ap about (sym is) ∙ own)

        for_name : (kind : AskKind) → name_kind ask.op ≡ Some kind → Done from
        for_name kind named =
            is_asked ask kind is named
            (subst (λ (m : LinkMsg). Goes whose me node (node_takes node from m) (asked_move node.flows node.home.held (name_ask from ask kind))) (sym is)
            (goes whose me node (asked_next ask) up down _
            (ask_moves whose law.master to node up down law.given from ask kind talk ne (subst IsFitting is fits) named own_ask shows)))

        for_messages : name_kind ask.op ≡ None → Done from
        for_messages none =
            is_served ask is none
            (subst (λ (m : LinkMsg). FlowsShow whose (node_takes node from m).state.flows name_at.nowhere) (sym is)
            (messages_leave whose law.master to node up down law.given from ask name_at.nowhere talk ne none shows).at)

        by_kind : (kind : Option AskKind) → name_kind ask.op ≡ kind → Done from
        by_kind (Some kind) named = for_name kind named
        by_kind None none = for_messages none

      -- the response to its line
      response : (name : List ℕ) (flow : Flow) (it : MResponse) → from ≡ me → TalkShows whose node up down (name_at.hears name flow it) → Done from
      response name flow it mine shows =
          let heard_it = answer_moves whose law.master to node up rest law.given message name flow it (hears mine) (own_it conn message own)
          (shown_first mine whose (name_at.hears name flow it) shows) in
          subst Done (sym mine) (is_heard name flow it heard_it.move heard_it.is (goes whose me node (node_takes node me message) up rest _ heard_it.moved))

      by_found : (here : Place) → IsFoundIn (master_of config) tells.node id from to message here → ShowsAt (master_of config) world.links conn here to node
          → Done from
      by_found _ (in_ask server ask e1 e2 e3) shows =
          by_kind ask (sym e3) (not_me e1) (shown_at name_at.nowhere shows) (name_kind ask.op) refl
      by_found _ (in_response at name flow it e1 e2 e3) shows =
          response name flow it (sym e1 ∙ sym law.nodes.me)
          (shown_at (name_at.hears name flow it)
          (subst (λ (p : NamePlace). TalkShows whose node (on_link world.links to (master_of config)) (on_link world.links (master_of config) to) p)
          (at_own at to (name_at.hears name flow it) e2) shows))
      by_found _ (in_answer server answer e1 e2 e3) shows = absurd (no_front e2)
      by_found _ (in_line at name flow e1 e2 e3) shows = absurd (no_master e2)
      by_found _ (in_noop e1 e2 e3) shows = absurd (no_master e2)
      by_found _ (in_ok table e1 e2 e3) shows = absurd (no_front e2)

      done_own : Done from
      done_own =
          by_found tells.here (found_in (master_of config) tells.node id from to message tells.here tells.is_found) ((tells.placed).shows to node there)

    is_by : (whom : About) → about message ≡ whom → (whom ≡ of_connection conn) ⊎ (whom ≢ of_connection conn) → Done from
    is_by whom is (inl same) = ⊎_elim
        (λ (over : is_over first_on message ≡ true). done_other (over_about first_on (of_connection conn) message over))
        (λ (on : is_over first_on message ≡ false). done_own (is ∙ same) on)
        (over_or first_on message)
    is_by whom is (inr ne) = done_other (not_about first_on (of_connection conn) message (λ e. ne (sym is ∙ e)))

    -- which of these it is
    whom_is : (whom : About) → (whom ≡ of_connection conn) ⊎ (whom ≢ of_connection conn)
    whom_is (of_connection other) = ⊎_elim
        (λ (e : other ≡ conn). inl (ap of_connection e))
        (λ (ne : other ≢ conn). inr (λ e. ne (let same : other ≡ conn = cc in same)))
        (cases_eq other conn)
    whom_is of_nobody = inr (λ e. cc)

    -- THE STEP OF A BACKEND, for the command of a connection
    pub step_is : Done from
    step_is = is_by (about message) refl (whom_is (about message))
