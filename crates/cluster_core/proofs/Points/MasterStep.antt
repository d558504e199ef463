-- The master takes the first message of a link: what that keeps of the tale, the marks, the one store and each connection.
use Rattle.std.proofs.Common.{◌≡◌, ◌≢◌, ◌⊎◌, inl, inr, ℕ, ◌+◌, ◌≤◌, Bool, true, false, is_some, nat_eq, List, [], ◌∷◌, ◌++◌, length, Option, None, Some, refl, sym, ◌∙◌, ap, subst, arith, append-nil}
use Rattle.std.proofs.Math.Logic.{⊎_elim}
use Rattle.std.proofs.lemmas.Bool.{cases_eq}
use Rattle.std.specs.List.{list_any}
use Rattle.std.specs.Cmp.Lexicographic.{pointwise}
use Rattle.std.specs.Ordering.{nat_cmp}
use Rattle.back_links.specs.MasterEvents.{given_in}
use Rattle.back_node.specs.declared.node.BackNode.{BackNode}
use Rattle.cluster_core.specs.World.{master_of, setting_of, client_at, front_at, home_at, taken_from_link}
use Rattle.cluster_core.specs.declared.world.Client.{Client}
use Rattle.front_core.proofs.OneConnection.Places.{About, about, is_over, of_connection, of_nobody, over_or}
use Rattle.front_core.proofs.OneConnection.Readings.{inputs_in}
use Rattle.front_core.specs.declared.connection.Connection.{Connection}
use Rattle.front_core.specs.declared.front.Front.{Front}
use Rattle.imap_talk.specs.Heard.{Heard}
use Rattle.imap_talk.specs.Transcript.{Stop}
use Rattle.imap_talk.specs.Transcript.Stop.{is_lost}
use Rattle.imap_wire.specs.Frames.{begun}
use Rattle.link_msg.specs.declared.counts.Counts.TheVariants.{IfAnswered}
use Rattle.link_msg.specs.declared.message.LinkMsg.{LinkMsg}
use Rattle.link_queue.specs.Broken.{Broken, is_broken}
use Rattle.link_queue.specs.Links.{on_link, without_first}
use Rattle.many_links.specs.ManyHold.{ManyHold}
use Rattle.many_links.specs.MasterEvents.{IsDoneFor, StoreTakes, created, nothing, removed}
use Rattle.many_links.specs.Murder.{Murder, after_master, master_takes as murder_takes}
use Rattle.many_links.proofs.FrontOuts.{AreItsOuts, front_outs}
use Rattle.many_links.proofs.MasterLaw.{frontends_keep_many}
use Rattle.many_links.proofs.TakesLaw.{takes_keeps_many}
use Rattle.mark_history.specs.Marked.{Tale, last_mark, talk_told}
use Rattle.mark_history.specs.declared.mark.Mark.{Mark}
use Rattle.master_core.specs.Linked.{node_says}
use Rattle.master_core.specs.Outside.{Stepped}
use Rattle.mupdate_codec.specs.declared.command.MCommand.{MCommand}
use Rattle.mupdate_codec.specs.declared.command.MCommand.TheVariants as command
use Rattle.mupdate_codec.specs.Asks.{line_ask}
use Rattle.mupdate_codec.proofs.LineAsks.{command_tells}
use Rattle.mupdate_codec.proofs.WholeLaw.{is_line}
use Rattle.mur_base.specs.Map.{value_at}
use Rattle.mur_base.specs.declared.point.AskId.{AskId}
use Rattle.mur_config.specs.declared.config.Config.{Config}
use Rattle.mur_model.specs.declared.store.Store.{Store}
use Rattle.mur_model.specs.History.{TalkGoesOn}
use Rattle.mur_model.proofs.HistoryGrows.{same_talk}
use Rattle.node_step.specs.declared.node.NodeState.TheVariants as state
use Rattle.name_commands.specs.Whose.{its_command}
use Rattle.name_links.specs.Serials.{Given}
use Rattle.cluster_core.specs.declared.world.World.{World}
use Rattle.cluster_core.proofs.Commands.AllReached.{AreMarkedSo, sees_late}
use Rattle.cluster_core.proofs.Commands.Moving.{MovesBy}
use Rattle.cluster_core.proofs.Commands.Place.{Place}
use Rattle.cluster_core.proofs.Commands.Standing.{Fixed, next_id}
use Rattle.cluster_core.proofs.Connections.ConnectionLaw.{IsInNoneOf, IsInPlaceOf, MarksStay, SaysOn, client_till, client_with, says_on, says_same}
use Rattle.cluster_core.proofs.Connections.KeepsLaw.{ConnectionIs, IsAt, IsFrontOf, IsGone, KeepsLaw, fixed_of, murder_of}
use Rattle.cluster_core.proofs.Connections.KeepsLaw.ConnectionIs.{is_nobody, is_elsewhere, is_open, is_cut_off, is_closed}
use Rattle.cluster_core.proofs.Connections.Tales.{others_marked}
use Rattle.cluster_core.proofs.Feeds.Many.{master_murder}
use Rattle.cluster_core.proofs.Nodes.Carried.{IsMade, is_made}
use Rattle.cluster_core.proofs.Nodes.Comes.{master_moved, with_master}
use Rattle.cluster_core.proofs.Steps.Heads.{none_on_its_way}
use Rattle.cluster_core.proofs.Steps.MasterOthers.{lines_leave, lines_leave_none, over_leaves}
use Rattle.cluster_core.proofs.Steps.MasterSteps.{IsInBehind, IsNowhereBehind, MasterTakes}
use Rattle.cluster_core.proofs.Steps.Worlds.{in_murder, in_world_behind, is_fed_front, is_front, master_takes, none_in_murder, none_in_world_behind, up_line_on}
use Rattle.cluster_core.proofs.Points.Acts.{home_mark}
use Rattle.cluster_core.proofs.Points.LateNoop.{TellsNoop, first_noop, given_none, late_marked, nobody_none, tells_noop, told_of}
use Rattle.cluster_core.proofs.Points.Marks.{nobodys_mark_none}
use Rattle.cluster_core.proofs.Points.OthersAtHome.{LeavesElse, gone_stays, standing_stays, untold_stays}
use Rattle.cluster_core.proofs.Points.Own.{OwnStep}
use Rattle.cluster_core.proofs.Points.OwnAtMaster.{master_step_is_own}
use Rattle.cluster_core.proofs.Points.Untouched.{OpenStays, untouched}
use Rattle.cluster_core.proofs.Points.Waits.{AskedFit, first_tells, its_client, unanswered_still}

-- what the step gives a client: nothing, or it is connected to the master
pub data ClientThen (config : Config) (world next : World) (conn : ℕ) : Type 0 where
  as_before : client_at next conn ≡ client_at world conn → ClientThen config world next conn
  is_given : (was now : List ℕ) → client_at world conn ≡ Some (record { at = master_of config; given = was })
      → client_at next conn ≡ Some (record { at = master_of config; given = now }) → ClientThen config world next conn

pub record MasterKeeps (config : Config) (heard : ℕ → Heard) (world : World) (law : KeepsLaw config heard world) (next : World) (said : Stepped) : Type 0 where
  pub later : Tale
  pub given : Given
  pub requests : later.talk.requests ≡ law.story.talk.requests
  pub told : later.told ≡ law.story.told
  pub more : TalkGoesOn (talk_told law.story) (talk_told later)
  pub grows : SaysOn law.story later
  pub is_told : AreMarkedSo (setting_of config) next.broken next.steps next.marks later
  pub many : ManyHold (murder_of next said.master) given later.course.store
  pub connections : (conn : ℕ) → ConnectionIs (fixed_of config) conn next later (law.stops conn) (heard conn)

-- who sends it: a frontend or a backend
abbrev pub IsOne : World → List ℕ → Type 0
IsOne world node = ((front : Front) × (front_at world node ≡ Some front)) ⊎ ((home : BackNode) × (home_at world node ≡ Some home))

client_front : (one other : Client) → Some one ≡ Some other → one.at ≡ other.at
client_front one other e = (let is : one ≡ other = cc in ap (λ (c : Client). c.at) is)

module _ (config : Config) (heard : ℕ → Heard) (world : World) (law : KeepsLaw config heard world) (from : List ℕ)
    (message : LinkMsg) (rest : List LinkMsg) (fit : AskedFit world law.story)
    (moves : MovesBy law.story.talk.moving world.steps (node_says law.master from message).master.table)
    (first : on_link world.links from (master_of config) ≡ message ∷ rest) (whole : is_broken world.broken (master_of config) from ≡ false) where
  abbrev name : List ℕ
  name = master_of config

  abbrev says : Stepped
  says = node_says law.master from message

  abbrev next : World
  next = with_master (taken_from_link world from name) name says

  abbrev story : Tale
  story = law.story

  abbrev store : Store
  store = story.course.store

  abbrev fixed : Fixed
  fixed = fixed_of config

  abbrev murder : Murder
  murder = murder_of world law.master

  made : IsMade (taken_from_link world from name) name (state.Master says.master) says.outs next
  made = is_made (taken_from_link world from name) name (state.Master says.master) says.outs

  fronts_stay : (any : List ℕ) → front_at next any ≡ front_at world any
  fronts_stay any = (master_moved (taken_from_link world from name) name law.master says law.nodes.is_there).fronts any

  takes : MasterTakes murder law.given store from message
  takes = master_takes config world law.master law.nodes law.feeds law.given store from message rest law.many first

  many_so : (given : Given) (later : Store) → ManyHold (murder_takes murder from message) given later → ManyHold (murder_of next says.master) given later
  many_so given later hold =
      master_murder config world law.master law.given store law.nodes law.many (without_first world.links from name) says given later
      (subst (λ m. ManyHold (after_master murder (without_first world.links from m) says) given later) law.nodes.me hold)

  -- ---- a connection that it isn't about

  module _ (conn : ℕ) (other : about message ≢ of_connection conn) where
    abbrev id : AskId
    id = next_id conn (story.told conn)

    placed_next : (fnode : List ℕ) (front : Front) (here : Place) → front_at world fnode ≡ Some front
        → ((connection : Connection) → IsAt world conn fnode front connection → (its : Client) → client_at world conn ≡ Some its → its.at ≡ fnode
        → IsInPlaceOf fixed world fnode front.replica id here → IsInPlaceOf fixed next fnode front.replica id here)
    placed_next fnode front here at connection is_at its is_its its_node placed =
        in_world_behind fixed world law.master law.nodes.me (without_first world.links from name) says law.nodes.is_there fnode front.replica id here
        (subst (λ m. IsInBehind murder (without_first world.links from m) says fnode front.replica id here) law.nodes.me
        (lines_leave murder law.given store from message fnode front.replica id here takes
        (is_fed_front config world law.master law.nodes law.feeds fnode front id at (fit conn fnode front connection is_at its is_its its_node))
        (λ e. ap (is_broken world.broken name) (sym e) ∙ whole) other
        (in_murder fixed world law.master law.nodes.me fnode front.replica id here placed)).placed)

    none_next : IsInNoneOf fixed world conn → IsInNoneOf fixed next conn
    none_next none =
        none_in_world_behind fixed world law.master law.nodes.me (without_first world.links from name) says law.nodes.is_there conn
        (subst (λ m. IsNowhereBehind murder (without_first world.links from m) says conn) law.nodes.me
        (lines_leave_none murder law.given store from message conn takes other (none_in_murder fixed world law.master law.nodes.me conn none)).placed)

    gone_goes : (later : Tale) → LeavesElse conn world next story later → (bytes fnode : List ℕ) (front : Front) (connection : Connection) (stop : Stop)
        → IsAt world conn fnode front connection → IsGone fixed fnode front.replica conn (inputs_in fixed.setting bytes) stop connection world story
        → IsGone fixed fnode front.replica conn (inputs_in fixed.setting bytes) stop connection next later
    gone_goes later same bytes fnode front connection stop at gone =
        gone_stays fixed conn world next story later same fnode front.replica (inputs_in fixed.setting bytes) stop connection gone
        (placed_next fnode front gone.here at.at connection at (client_till stop fnode (inputs_in fixed.setting bytes) (story.told conn)) gone.client refl gone.placed)

    others_go : (later : Tale) → LeavesElse conn world next story later → (stop : Stop) (h : Heard) → ConnectionIs fixed conn world story stop h
        → ConnectionIs fixed conn next later stop h
    others_go later same _ _ (is_nobody none fronts untold) =
        is_nobody (same.client ∙ none) (λ n f at. fronts n f (sym (same.fronts n) ∙ at))
        (untold_stays fixed conn world next story later same (none_next untold.nothing) untold)
    others_go later same _ _ (is_elsewhere n given at none untold) =
        is_elsewhere n given (same.client ∙ at) (same.fronts n ∙ none) (untold_stays fixed conn world next story later same (none_next untold.nothing) untold)
    others_go later same _ _ (is_open bytes fnode front connection at reader standing) =
        is_open bytes fnode front connection (record { at = same.fronts fnode ∙ at.at; has = at.has }) reader
        (standing_stays fixed conn world next story later same fnode front.replica (inputs_in fixed.setting bytes) (begun bytes) connection standing
        (placed_next fnode front standing.here at.at connection at (client_with fnode (inputs_in fixed.setting bytes) (story.told conn)) standing.client refl
        standing.placed))
    others_go later same _ _ (is_cut_off bytes fnode front connection at gone unanswered) =
        is_cut_off bytes fnode front connection (record { at = same.fronts fnode ∙ at.at; has = at.has }) (gone_goes later same bytes fnode front connection is_lost at gone)
        (unanswered_still (inputs_in fixed.setting bytes) (story.told conn) (later.told conn) same.told unanswered)
    others_go later same _ _ (is_closed stop bytes fnode front connection at gone) =
        is_closed stop bytes fnode front connection (record { at = same.fronts fnode ∙ at.at; has = at.has }) (gone_goes later same bytes fnode front connection stop at gone)

    -- one that is connected to the master
    given_goes : (later : Tale) → later.told conn ≡ story.told conn → later.talk.answers conn ≡ story.talk.answers conn
        → later.course.sessions conn ≡ story.course.sessions conn → (was now : List ℕ)
        → client_at world conn ≡ Some (record { at = name; given = was }) → client_at next conn ≡ Some (record { at = name; given = now })
        → (stop : Stop) (h : Heard) → ConnectionIs fixed conn world story stop h → ConnectionIs fixed conn next later stop h
    given_goes later told said session was now before behind _ _ (is_nobody none fronts untold) =
        absurd (let no : None ≡ Some (record { at = name; given = was }) = sym none ∙ before in cc)
    given_goes later told said session was now before behind _ _ (is_elsewhere n given at none untold) =
        is_elsewhere name now behind
        (fronts_stay name ∙ ap (front_at world) (sym (client_front (record { at = n; given = given }) (record { at = name; given = was }) (sym at ∙ before))) ∙ none)
        (record { told = told ∙ untold.told; said = said ∙ untold.said; session = session ∙ untold.session; nothing = none_next untold.nothing })
    given_goes later told said session was now before behind _ _ (is_open bytes fnode front connection at reader standing) =
        absurd ((law.nodes.fronts fnode front at.at).no_master
        (client_front (client_with fnode (inputs_in fixed.setting bytes) (story.told conn)) (record { at = name; given = was }) (sym standing.client ∙ before)))
    given_goes later told said session was now before behind _ _ (is_cut_off bytes fnode front connection at gone unanswered) =
        absurd ((law.nodes.fronts fnode front at.at).no_master
        (client_front (client_till is_lost fnode (inputs_in fixed.setting bytes) (story.told conn)) (record { at = name; given = was }) (sym gone.client ∙ before)))
    given_goes later told said session was now before behind _ _ (is_closed stop bytes fnode front connection at gone) =
        absurd ((law.nodes.fronts fnode front at.at).no_master
        (client_front (client_till stop fnode (inputs_in fixed.setting bytes) (story.told conn)) (record { at = name; given = was }) (sym gone.client ∙ before)))

  connection_goes : (conn : ℕ) → about message ≢ of_connection conn → ClientThen config world next conn → (later : Tale)
      → MarksStay conn world.marks next.marks → later.told conn ≡ story.told conn → later.talk.answers conn ≡ story.talk.answers conn
      → later.course.sessions conn ≡ story.course.sessions conn → later.before conn ≡ story.before conn → later.talk.moving ≡ story.talk.moving
      → ConnectionIs fixed conn next later (law.stops conn) (heard conn)
  connection_goes conn other (as_before client_is) later marks told said session before moving =
      others_go conn other later
      (record {
        fronts = fronts_stay;
        client = client_is;
        broken = made.broken;
        marks = marks;
        told = told;
        said = said;
        session = session;
        before = before;
        moving = moving;
      }) (law.stops conn) (heard conn) (law.connections conn)
  connection_goes conn other (is_given was now given behind) later marks told said session before moving =
      given_goes conn other later told said session was now given behind (law.stops conn) (heard conn) (law.connections conn)

  -- what the tale is where the step does nothing but mark a command
  still_told : (marks : List Mark) → next.marks ≡ marks → AreMarkedSo (setting_of config) world.broken world.steps marks story
      → AreMarkedSo (setting_of config) next.broken next.steps next.marks story
  still_told marks same are =
      subst (λ (b : Broken). AreMarkedSo (setting_of config) b next.steps next.marks story) (sym made.broken)
      (subst (λ (s : ℕ). AreMarkedSo (setting_of config) world.broken s next.marks story) (sym made.steps)
      (subst (λ (m : List Mark). AreMarkedSo (setting_of config) world.broken world.steps m story) (sym same) are))

  frontends_keep : list_any (pointwise nat_eq from) law.master.backends ≡ false → ManyHold (murder_of next says.master) law.given store
  frontends_keep none = many_so law.given store (frontends_keep_many murder law.given store from message law.many none)

  module _ (clients : (conn : ℕ) → ClientThen config world next conn) where
    -- ---- it is about a command

    own_client : (conn : ℕ) → about message ≡ of_connection conn → is_over (length (story.told conn) + 1) message ≡ false → ClientThen config world next conn
        → client_at next conn ≡ client_at world conn
    own_client conn own on (as_before is) = is
    own_client conn own on (is_given was now before behind) =
        let tells = first_tells fixed conn world story (law.stops conn) (heard conn) from name message rest first own on (law.connections conn) in
        let its = its_client fixed conn tells.node tells.connection world story (law.stops conn) (heard conn) tells.here tells.who in
        absurd ((law.nodes.fronts tells.node tells.front (tells.at).at).no_master
        (sym its.at ∙ client_front its.client (record { at = name; given = was }) (sym its.is ∙ before)))

    -- those of all other connections
    anothers : (conn other : ℕ) → about message ≡ of_connection conn → other ≢ conn → about message ≢ of_connection other
    anothers conn other own ne e =
        let both : of_connection conn ≡ of_connection other = sym own ∙ e in let alike : conn ≡ other = cc in ne (sym alike)

    of_command : (conn : ℕ) → about message ≡ of_connection conn → is_over (length (story.told conn) + 1) message ≡ false
        → MasterKeeps config heard world law next says
    of_command conn own on =
        let it = master_step_is_own config heard world law conn from message rest fit moves first own on whole (own_client conn own on (clients conn)) in
        let step : OwnStep config conn (law.stops conn) (heard conn) world story next says.master it.0 = it.1 in
        record {
          later = step.later;
          given = it.0;
          requests = step.goes_on.requests;
          told = step.told;
          more = step.goes_on.more;
          grows = says_on conn story step.later step.goes_on;
          is_told = step.is_told;
          many = step.many;
          connections = λ other. ⊎_elim
              (λ (e : other ≡ conn). subst (λ k. ConnectionIs fixed k next step.later (law.stops k) (heard k)) (sym e) step.mine)
              (λ (ne : other ≢ conn). connection_goes other (anothers conn other own ne) (clients other) step.later (step.marks other ne)
              (ap (λ t. t other) step.told) (step.goes_on.said other ne) (step.goes_on.sessions other ne) (step.goes_on.before other ne)
              step.goes_on.more.moving)
              (cases_eq other conn);
        }

    -- ---- it is a NOOP of a command of which its client was told

    module _ (front : Front) (at : front_at world from ≡ Some front) (conn : ℕ) (own : about message ≡ of_connection conn)
        (over : is_over (length (story.told conn) + 1) message ≡ true) where
      abbrev open_id : AskId
      open_id = next_id conn (story.told conn)

      its_front : IsFrontOf config world law.master from front
      its_front = law.nodes.fronts from front at

      are_its : AreItsOuts from says.outs
      are_its = front_outs law.master from message its_front.no_backend

      tells : TellsNoop conn world.steps law.master from message
      tells = tells_noop conn world.steps law.master from message (first_noop config world law.master law.feeds from front message rest at first conn own) own

      was_told : tells.id.command ≤ length (story.told conn)
      was_told =
          let few : tells.id.command + 1 ≤ length (story.told conn) + 1 = told_of (length (story.told conn) + 1) message tells.id tells.asked over in omega (arith, few)

      its_mark : next.marks ≡ world.marks ++ home_mark world.steps tells.id IfAnswered ∷ []
      its_mark = made.marks ∙ ap (λ (m : List Mark). world.marks ++ m) tells.marks

      over_stays : OpenStays fixed conn world next story
      over_stays fnode its connection here is_at client given its_at placed =
          in_world_behind fixed world law.master law.nodes.me (without_first world.links from name) says law.nodes.is_there fnode its.replica open_id here
          (subst (λ m. IsInBehind murder (without_first world.links from m) says fnode its.replica open_id here) law.nodes.me
          (over_leaves murder law.given store from message fnode its.replica open_id here takes
          (is_fed_front config world law.master law.nodes law.feeds fnode its open_id is_at.at (fit conn fnode its connection is_at client given its_at))
          (λ e. ap (is_broken world.broken name) (sym e) ∙ whole) (is_front config world law.master law.nodes from front at) are_its over
          (in_murder fixed world law.master law.nodes.me fnode its.replica open_id here placed)))

      own_stays : ConnectionIs fixed conn next story (law.stops conn) (heard conn)
      own_stays =
          untouched fixed conn world next story (law.stops conn) (heard conn)
          (record {
            fronts = fronts_stay;
            client = ap (λ (c : List (ℕ × Client)). value_at nat_cmp c conn) (made.clients ∙ given_none from world.clients says.outs are_its);
            broken = made.broken;
            mark = ap (last_mark open_id) its_mark ∙ late_marked conn (story.told conn) world.steps world.marks tells.id was_told;
            in_place = over_stays;
            in_none = λ is. absurd (none_on_its_way murder conn from law.master.me message takes.first own
                (none_in_murder fixed world law.master law.nodes.me conn is));
          }) (law.connections conn)

      of_over : MasterKeeps config heard world law next says
      of_over = record {
        later = story;
        given = law.given;
        requests = refl;
        told = refl;
        more = same_talk (talk_told story);
        grows = says_same story;
        is_told = still_told (world.marks ++ home_mark world.steps tells.id IfAnswered ∷ []) its_mark
            (sees_late world.steps world.marks story tells.id (subst (λ (k : ℕ). tells.id.command ≤ length (story.told k)) (sym tells.its) was_told) law.is_told);
        many = frontends_keep its_front.no_backend;
        connections = λ other. ⊎_elim
            (λ (e : other ≡ conn). subst (λ k. ConnectionIs fixed k next story (law.stops k) (heard k)) (sym e) own_stays)
            (λ (ne : other ≢ conn). connection_goes other (anothers conn other own ne) (clients other) story
            (subst (MarksStay other world.marks) (sym its_mark)
            (others_marked other world.marks (home_mark world.steps tells.id IfAnswered) (λ e. ne (sym e ∙ tells.its)))) refl refl refl refl refl)
            (cases_eq other conn);
      }

    -- a backend sends none
    of_connection_by : (conn : ℕ) → about message ≡ of_connection conn → IsOne world from
        → (is_over (length (story.told conn) + 1) message ≡ true) ⊎ (is_over (length (story.told conn) + 1) message ≡ false)
        → MasterKeeps config heard world law next says
    of_connection_by conn own sender (inr on) = of_command conn own on
    of_connection_by conn own (inl sender) (inl over) = of_over sender.0 sender.1 conn own over
    of_connection_by conn own (inr sender) (inl over) =
        absurd (let no : true ≡ false = sym over ∙ up_line_on config heard world law conn from sender.0 sender.1 message own takes.first in cc)

    -- ---- it is nobody's

    module _ (own : about message ≡ of_nobody) where
      none_marked : next.marks ≡ world.marks
      none_marked =
          made.marks ∙ ap (λ (m : List Mark). world.marks ++ m)
          (nobodys_mark_none world.steps law.master from message law.feeds.nobodys (nobody_none message own)) ∙ append-nil world.marks

      not_done : (ask : AskId) (it : MCommand) → IsDoneFor ask message it says.outs → ⊥
      not_done ask it is =
          let line : line_ask is.bytes ≡ Some ask = command_tells is.bytes (is.tag, it) (is_line is.bytes (is.tag, it) is.read) ∙ is.asked in
          let no : Some ask ≡ None = sym line ∙ sym (ap its_command is.is) ∙ nobody_none message own in cc

      store_stays : (later : Store) → StoreTakes message says.outs (given_in law.master.table from message) store later → later ≡ store
      store_stays _ (nothing none carries) = refl
      store_stays _ (created ask n at acl serial is none free gives) = absurd (not_done ask (command.Activate n at acl) is)
      store_stays _ (removed ask n box is was gives) = absurd (not_done ask (command.Delete n) is)

      abbrev Keeps : Type 0
      Keeps = (given : Given) × ManyHold (murder_of next says.master) given store

      has_home : (found : Option BackNode) → is_some found ≡ true → (node : BackNode) × (found ≡ Some node)
      has_home None e = cc
      has_home (Some node) e = (node, refl)

      many_by : (backend : Bool) → list_any (pointwise nat_eq from) law.master.backends ≡ backend → Keeps
      many_by false e = (law.given, frontends_keep e)
      many_by true e =
          let node = has_home (home_at world from) (law.nodes.homes from ∙ e) in
          let one = takes_keeps_many murder law.given store from node.0 message rest law.many node.1 (ap (on_link world.links from) law.nodes.me ∙ first) in (
            law.given ++ given_in law.master.table from message,
            many_so (law.given ++ given_in law.master.table from message) store
                (subst (λ s. ManyHold (murder_takes murder from message) (law.given ++ given_in law.master.table from message) s) (store_stays one.later one.does) one.hold),
          )

      of_none : MasterKeeps config heard world law next says
      of_none =
          let keeps = many_by (list_any (pointwise nat_eq from) law.master.backends) refl in
          record {
            later = story;
            given = keeps.0;
            requests = refl;
            told = refl;
            more = same_talk (talk_told story);
            grows = says_same story;
            is_told = still_told world.marks none_marked law.is_told;
            many = keeps.1;
            connections = λ conn. connection_goes conn (λ e. (let no : of_nobody ≡ of_connection conn = sym own ∙ e in cc)) (clients conn) story
                (subst (MarksStay conn world.marks) (sym none_marked) (λ command. refl)) refl refl refl refl refl;
          }

    keeps_by : IsOne world from → (whom : About) → about message ≡ whom → MasterKeeps config heard world law next says
    keeps_by sender (of_connection conn) e = of_connection_by conn e sender (over_or (length (story.told conn) + 1) message)
    keeps_by sender of_nobody e = of_none e

-- THE STEP OF THE MASTER, that takes a message of a link that is whole
abbrev pub MasterStepKeeps : Type 0
MasterStepKeeps = (config : Config) (heard : ℕ → Heard) (world : World) (law : KeepsLaw config heard world) (from : List ℕ) (message : LinkMsg)
    (rest : List LinkMsg) → AskedFit world law.story → MovesBy law.story.talk.moving world.steps (node_says law.master from message).master.table
    → on_link world.links from (master_of config) ≡ message ∷ rest → is_broken world.broken (master_of config) from ≡ false → IsOne world from
    → ((conn : ℕ) → ClientThen config world
    (with_master (taken_from_link world from (master_of config)) (master_of config) (node_says law.master from message)) conn)
    → MasterKeeps config heard world law
    (with_master (taken_from_link world from (master_of config)) (master_of config) (node_says law.master from message)) (node_says law.master from message)

pub master_step_keeps : MasterStepKeeps
master_step_keeps config heard world law from message rest fit moves first whole sender clients =
    keeps_by config heard world law from message rest fit moves first whole clients sender (about message) refl
