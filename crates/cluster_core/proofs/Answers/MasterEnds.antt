-- A frontend is told that its link with the master has ended. Nothing more is on its way from the master then, so each connection that awaits it isn't decided: its
-- client is told that the master isn't reached, one connection after another, and all others stay.
use Rattle.std.proofs.Common.{◌≡◌, ◌≢◌, inr, ℕ, ◌+◌, ◌<◌, ◌^◌, ◌≤◌, Bool, true, false, List, [], ◌∷◌, ◌++◌, length, Option, None, Some, refl, sym, ◌∙◌, ap, subst, append-nil, arith}
use Rattle.std.proofs.Math.Logic.{⊎_elim}
use Rattle.std.proofs.lemmas.Bool.{cases_eq}
use Rattle.std.proofs.lemmas.Option.{same_Some}
use Rattle.std.specs.Map.{keys_of}
use Rattle.std.specs.Ordering.{nat_cmp}
use Rattle.asking_core.specs.declared.waiting.At.{At}
use Rattle.asking_core.specs.declared.waiting.At.TheVariants.{Home, Barrier as at_master}
use Rattle.asking_core.specs.declared.waiting.Waiting.{Waiting as WaitingFor}
use Rattle.feed_core.specs.declared.replica.Replica.{Replica}
use Rattle.feed_links.proofs.FeedLaw.{both, end_keeps_it}
use Rattle.feed_links.specs.Lines.{messages_to}
use Rattle.feed_links.specs.OneFeed.{AreNoops, IsFed, ends_in, ends_of}
use Rattle.feed_links.specs.OneFeed.IsFed.{asks, is_told, comes_up, breaks_early, is_parted}
use Rattle.front_core.proofs.OneConnection.Readings.{inputs_in, reading_of}
use Rattle.front_core.specs.Answered.{end_by, end_comes, ends_at, reading_again, refused_behind}
use Rattle.front_core.specs.Ended.{released}
use Rattle.front_core.specs.Front.{Stepped, all_end, awaited, connection_at, deliver, end_at, end_if, one_ends, still, with_turned, without_up, ways_of}
use Rattle.front_core.specs.Stages.{awaits}
use Rattle.front_core.specs.Taken.{Turned, Ways, list_refused}
use Rattle.front_core.specs.Ups.{going_down, is_up}
use Rattle.front_core.specs.declared.connection.Connection.{Connection}
use Rattle.front_core.specs.declared.connection.Stage.{Stage}
use Rattle.front_core.specs.declared.connection.Stage.TheVariants.{Reading, Waits, Lists as lists_names, Ended}
use Rattle.front_core.specs.declared.front.Front.{Front}
use Rattle.imap_talk.specs.Heard.{Heard, client}
use Rattle.imap_talk.specs.Transcript.{Stop}
use Rattle.imap_talk.specs.Transcript.Stop.{silent}
use Rattle.imap_talk.specs.declared.inputs.Input.{Input}
use Rattle.imap_types.specs.declared.command.Tag.{Tag}
use Rattle.imap_wire.specs.Frames.{begun}
use Rattle.link_msg.specs.declared.message.LinkMsg.{LinkMsg}
use Rattle.link_msg.specs.declared.message.LinkMsg.TheVariants.{Up, End}
use Rattle.link_msg.specs.declared.out.Out.{Out}
use Rattle.link_msg.specs.declared.out.Out.TheVariants.{Client as to_client, Close, Link as to_node, Mark as mark, Told as tell}
use Rattle.link_queue.specs.Broken.{Broken, is_broken}
use Rattle.link_queue.specs.Links.{Links, on_link}
use Rattle.many_links.proofs.Carried.{puts_else, puts_own, taken_else, taken_first}
use Rattle.mark_history.specs.Marked.{talk_told}
use Rattle.master_core.specs.declared.master.Master.{Master}
use Rattle.mur_base.proofs.MapLaws.{numbers_apart, value_at-with_value, value_at-with_value-other}
use Rattle.mur_base.specs.declared.point.What.TheVariants.{Unreached as unreached}
use Rattle.mur_config.specs.declared.config.Config.{Config}
use Rattle.mur_model.proofs.HistoryGrows.{same_talk}
use Rattle.mur_model.specs.declared.setting.Setting.{Setting}
use Rattle.mur_model.specs.declared.store.Store.{Store}
use Rattle.node_step.proofs.NodeKinds.{front_is}
use Rattle.node_step.specs.declared.input.NodeInput.TheVariants.{From}
use Rattle.node_step.specs.declared.node.NodeState.TheVariants as state
use Rattle.session_core.specs.Relocated.{Refused, relocated}
use Rattle.cluster_core.specs.Numbers.{HeardFits, NumbersFit}
use Rattle.cluster_core.specs.World.{carry, carry_all, client_at, front_at, given_more, home_at, master_of, node_at, setting_of, taken_from_link, with_state}
use Rattle.cluster_core.specs.declared.world.Client.{Client}
use Rattle.cluster_core.specs.declared.world.World.{World}
use Rattle.cluster_core.proofs.Answers.EndOrder.{in_order_keeps}
use Rattle.cluster_core.proofs.Answers.Ends.{OwnsClients, front_twice, kept_then}
use Rattle.cluster_core.proofs.Answers.GoesOn.{StandsSo}
use Rattle.cluster_core.proofs.Answers.Keeps.{before_by, frontend_of, numbers_of}
use Rattle.cluster_core.proofs.Answers.MasterRefuses.{refuses_stands}
use Rattle.cluster_core.proofs.Answers.OtherMessages.{moved_keeps}
use Rattle.cluster_core.proofs.Answers.OwnFeed.{fed_as, moved_homes, own_feeds, parted_with}
use Rattle.cluster_core.proofs.Answers.Readers.{end_reader}
use Rattle.cluster_core.proofs.Commands.Released.{begun_released}
use Rattle.cluster_core.proofs.Commands.Standing.{Fixed, HasBegunSo}
use Rattle.cluster_core.proofs.Connections.ConnectionLaw.{IsStanding, PlacesStay}
use Rattle.cluster_core.proofs.Connections.FrameLaw.{ways_for}
use Rattle.cluster_core.proofs.Connections.KeepsData.{standing_released}
use Rattle.cluster_core.proofs.Connections.KeepsFront.{front_keeps, is_at_after, replicas_stay, standing_after, turned_so, with_connection}
use Rattle.cluster_core.proofs.Connections.KeepsLaw.{ConnectionIs, FeedsHold, IsAt, KeepsLaw, KeepsOn, KnowsBackends, fixed_of}
use Rattle.cluster_core.proofs.Connections.KeepsLaw.ConnectionIs.{is_nobody, is_elsewhere, is_open, is_cut_off, is_closed}
use Rattle.cluster_core.proofs.Connections.KeepsStill.{put_kept}
use Rattle.cluster_core.proofs.Connections.Stays.{fixed_places, is_not_closed}
use Rattle.cluster_core.proofs.Feeds.AnsweredNoops.{HasRoomAt}
use Rattle.cluster_core.proofs.Feeds.Apart.{servers_apart}
use Rattle.cluster_core.proofs.Feeds.Backends.{knows_heard, knows_still}
use Rattle.cluster_core.proofs.Feeds.Many.{front_is_one, front_keeps_many, passing_many}
use Rattle.cluster_core.proofs.Feeds.Noops.{AreApart, AreWellSent, IsWellSent, inputs_well, well_sent_noops}
use Rattle.cluster_core.proofs.Keeps.Numbers.{open_has_room}
use Rattle.cluster_core.proofs.Links.Stand.{IsDown, LinksStand}
use Rattle.cluster_core.proofs.Links.Stand.IsDown.{is_ending, has_ended}
use Rattle.cluster_core.proofs.Nodes.AllCome.{all_come, front_all_come}
use Rattle.cluster_core.proofs.Nodes.Carried.{is_made}
use Rattle.cluster_core.proofs.Nodes.Comes.{FrontMoved, front_moved, with_front}
use Rattle.cluster_core.proofs.Nodes.Stay.{same_nodes}
use Rattle.cluster_core.proofs.Places.FrontTakes.{idle_leaves_all}
use Rattle.cluster_core.proofs.Places.FrontWorlds.{kept_stay}
use Rattle.cluster_core.proofs.Places.Stays.{IsFrontend}

-- ---- clients stay where they are

abbrev IsOf : World → List ℕ → ℕ → Type 0
IsOf world node conn = (client : Client) × (client_at world conn ≡ Some client) × (client.at ≡ node)

given_stays : (world : World) (node : List ℕ) (conn : ℕ) (bytes : List ℕ) (found : Option Client) (other : ℕ) → client_at world conn ≡ found
    → IsOf world node other → IsOf (given_more world conn bytes found) node other
unfolding given_more
given_stays world node conn bytes None other e is = is
given_stays world node conn bytes (Some known) other e is = ⊎_elim
    (λ (same : other ≡ conn).
    let its : is.0 ≡ known = same_Some is.0 known (sym is.1 ∙ (ap (client_at world) same ∙ e)) in (
      record known { given = known.given ++ bytes },
      ap (client_at (given_more world conn bytes (Some known))) same
          ∙ value_at-with_value nat_cmp numbers_apart world.clients conn (record known { given = known.given ++ bytes }) known e,
      ap (λ (c : Client). c.at) (sym its) ∙ is.2,
    ))
    (λ (ne : other ≢ conn). (
      is.0,
      value_at-with_value-other nat_cmp numbers_apart world.clients conn other (record known { given = known.given ++ bytes }) ne ∙ is.1,
      is.2,
    ))
    (cases_eq other conn)

carry_stays : (world : World) (at node : List ℕ) (other : ℕ) (out : Out) → IsOf world node other → IsOf (carry at world out) node other
unfolding carry
carry_stays world at node other (to_client conn bytes) is = given_stays world node conn bytes (client_at world conn) other refl is
carry_stays world at node other (Close conn) is = is
carry_stays world at node other (to_node name message) is = is
carry_stays world at node other (mark ask counts) is = is
carry_stays world at node other (tell ask how) is = is

pub carry_all_stays : (world : World) (at node : List ℕ) (other : ℕ) (outs : List Out) → IsOf world node other → IsOf (carry_all at world outs) node other
unfolding carry_all
carry_all_stays world at node other [] is = is
carry_all_stays world at node other (out ∷ outs) is = carry_all_stays (carry at world out) at node other outs (carry_stays world at node other out is)

-- ---- what goes to the master is NOOPs

module _ (setting : Setting) (ways : Ways) (apart : AreApart ways) (conn : ℕ) (fits : conn < 2 ^ 64) where
  refused_well : (connection : Connection) (tag : Tag) (refused : Refused) (node : List ℕ) → connection.answered + 1 + length connection.waiting < 2 ^ 64
      → AreWellSent ways.master (refused_behind setting ways conn connection tag refused node).outs
  refused_well connection tag refused node room = (
    tt,
    (tt, inputs_well setting ways apart conn fits (reading_again (record connection { session = refused.session })) connection.waiting (omega (arith, room))),
  )

  ends_well : (connection : Connection) (tag : Tag) (it : WaitingFor) (at : At) → connection.answered + 1 + length connection.waiting < 2 ^ 64
      → AreWellSent ways.master (ends_at setting ways conn connection tag it at).outs
  ends_well connection tag it (Home server) room = (tt, (tt, tt))
  ends_well connection tag it (at_master cause) room =
      refused_well connection tag (relocated connection.session it.asking.awaited (unreached ways.master)) ways.master room

  end_well_by : (connection : Connection) (stage : Stage) → HasRoomAt connection stage → AreWellSent ways.master (end_by setting ways conn connection stage).outs
  unfolding end_by
  end_well_by connection Reading room = tt
  end_well_by connection (Waits tag it) room = ends_well connection tag it it.at room
  end_well_by connection (lists_names tag it) room = refused_well connection tag (list_refused connection.session) ways.master room
  end_well_by connection Ended room = tt

  end_well : (connection : Connection) → HasRoomAt connection connection.stage → AreWellSent ways.master (end_comes setting ways conn connection).outs
  end_well connection room = end_well_by connection connection.stage room

ends_found : (front : Front) (conn : ℕ) (c : Connection)
    → end_at front conn (Some c) ≡ with_turned front conn (end_comes front.setting (ways_of front) conn c)
unfolding end_at
ends_found front conn c = refl

some_awaits : (master : List ℕ) (c : Connection) (from : List ℕ) → awaited master (Some c) from ≡ true → awaits master c.stage from ≡ true
unfolding awaited
some_awaits master c from e = e

none_awaits : (master from : List ℕ) → awaited master None from ≡ true → ⊥
unfolding awaited
none_awaits master from e = cc

ended_awaits : (master node : List ℕ) (stage : Stage) → stage ≡ Ended → awaits master stage node ≡ true → ⊥
unfolding awaits
ended_awaits master node stage is e = (let no : false ≡ true = sym (ap (λ s. awaits master s node) is) ∙ e in cc)

-- HOW IT STANDS BETWEEN TWO OF THEM: the link has broken, nothing is on its way from the master, and the connections are those of the frontend's clients
record IsBetween (config : Config) (world : World) (to : List ℕ) (front : Front) : Type 0 where
  there : front_at world to ≡ Some front
  owns : OwnsClients world to front
  broken : is_broken world.broken (master_of config) to ≡ true
  cut : world.broken ≢ []
  empty : on_link world.links (master_of config) to ≡ []

module _ (config : Config) (heard : ℕ → Heard) (fits : NumbersFit heard) (to : List ℕ) where
  abbrev fixed : Fixed
  fixed = fixed_of config

  abbrev me : List ℕ
  me = master_of config

  -- a step of the frontend, in which some are refused
  record EndsSome (world : World) (law : KeepsLaw config heard world) (next : Stepped) : Type 0 where
    keeps : KeepsOn config law.story law.stops heard (with_front world to next)
    between : IsBetween config (with_front world to next) to next.front
    well : AreWellSent me next.outs

  module _ (world : World) (law : KeepsLaw config heard world) (front : Front) (between : IsBetween config world to front) where
    master_is : front.master ≡ me
    master_is = ((law.nodes).fronts to front between.there).master_is

    apart : me ≢ to
    apart e = ((law.nodes).fronts to front between.there).no_master (sym e)

    -- whatever it lets out
    between_then : (next : Stepped) → ((conn : ℕ) (connection : Connection) → connection_at next.front conn ≡ Some connection → IsOf world to conn)
        → IsBetween config (with_front world to next) to next.front
    between_then next own =
        let made = is_made world to (state.Front next.front) next.outs in
        record {
          there = (front_moved world to front next between.there).own;
          owns = λ conn connection has.
              (let is = carry_all_stays (with_state world to (state.Front next.front)) to to conn next.outs (own conn connection has) in (is.0, is.1, is.2));
          broken = ap (λ (b : Broken). is_broken b me to) made.broken ∙ between.broken;
          cut = λ none. between.cut (sym made.broken ∙ none);
          empty = ap (λ (l : Links LinkMsg). on_link l me to) made.links ∙ puts_else to world.links next.outs me to apart ∙ between.empty;
        }

    none_ends : EndsSome world law (still front)
    unfolding carry_all
    none_ends = record {
      keeps = put_kept config heard heard world to (state.Front front) (front_is (node_at world to) front between.there) (λ other. refl) law;
      between = between_then (still front) (λ conn connection has. (let own = between.owns conn connection has in (own.0, own.1, own.2)));
      well = tt;
    }

    -- ---- the feeds

    parted_feeds : (next : Stepped) → next.front.replica ≡ front.replica → AreNoops (messages_to me next.outs)
        → FeedsHold config (with_front world to next) law.master
    parted_feeds next same noops =
        let then : World = with_front world to next in
        let made = is_made world to (state.Front next.front) next.outs in
        let moved = front_moved world to front next between.there in
        let was = (law.feeds).each to front between.there in
        let ups : (any : List ℕ) → any ≢ to → on_link then.links any me ≡ on_link world.links any me = λ any ne.
        ap (λ (l : Links LinkMsg). on_link l any me) made.links ∙ puts_else to world.links next.outs any me ne in
        let downs : (any : List ℕ) → on_link then.links me any ≡ on_link world.links me any = λ any.
        ap (λ (l : Links LinkMsg). on_link l me any) made.links ∙ puts_else to world.links next.outs me any apart in
        own_feeds config world then law.master law.nodes law.feeds to next.front moved made.broken ups (λ any ne. downs any)
        (record {
          fed = fed_as law.master to (is_broken world.broken me to) (is_broken then.broken me to) (is_up next.front.ups me) (is_up next.front.ups me)
              (on_link world.links to me ++ messages_to me next.outs) (on_link then.links to me) (on_link world.links me to) (on_link then.links me to)
              front.replica next.front.replica (ap (λ (b : Broken). is_broken b me to) made.broken) refl
              (ap (λ (l : Links LinkMsg). on_link l to me) made.links ∙ puts_own to world.links next.outs me) (downs to) same
              (parted_with law.master to (is_broken world.broken me to) (is_up front.ups me) (is_up next.front.ups me) (on_link world.links to me)
              (on_link world.links me to) (messages_to me next.outs) front.replica between.broken between.empty noops was.fed);
          knows = subst (λ r. KnowsBackends (home_at then) (on_link then.links me to) r) (sym same)
              (subst (λ d. KnowsBackends (home_at then) d front.replica) (sym (downs to))
              (knows_still (home_at world) (home_at then) (on_link world.links me to) front.replica
              (moved_homes config world then law.master law.nodes law.feeds to next.front moved made.broken ups (λ any ne. downs any)) was.knows));
        })

    -- ---- one connection

    module _ (conn : ℕ) (connection : Connection) (has : connection_at front conn ≡ Some connection) (waits : awaits front.master connection.stage me ≡ true) where
      abbrev turned : Turned
      turned = end_comes front.setting (ways_of front) conn connection

      abbrev later : Connection
      later = released turned.connection

      abbrev then : World
      then = with_front world to (with_turned front conn turned)

      own_by : (other : ℕ) (c : Connection) → connection_at (with_turned front conn turned).front other ≡ Some c → IsOf world to other
      own_by other c there = ⊎_elim
          (λ (same : other ≡ conn). (let own = between.owns conn connection has in subst (IsOf world to) (sym same) (own.0, own.1, own.2)))
          (λ (ne : other ≢ conn).
          (let own = between.owns other c (sym (value_at-with_value-other nat_cmp numbers_apart front.connections conn other later ne) ∙ there) in
          (own.0, own.1, own.2)))
          (cases_eq other conn)

      refused_keeps : (bytes : List ℕ) → law.stops conn ≡ silent → heard conn ≡ client bytes false
          → HasBegunSo connection (reading_of (setting_of config) bytes)
          → IsStanding fixed to front.replica conn (inputs_in (setting_of config) bytes) (begun bytes) connection world law.story
          → EndsSome world law (with_turned front conn turned)
      refused_keeps bytes s e reader standing =
          let inputs : List Input = inputs_in (setting_of config) bytes in
          let at : IsAt world conn to front connection = record { at = between.there; has = has } in
          let before = before_by config heard world law conn bytes to false front connection e at (numbers_of config heard world law conn bytes false e fits)
          (record { master_cut = λ down. between.cut; cut = λ server down home. between.cut }) in
          let fixed_so : end_comes fixed.setting (ways_for fixed front.ups front.replica) conn connection ≡ turned =
          ap (λ (set : Setting). end_comes set (ways_for fixed front.ups front.replica) conn connection) (sym before.setting_is)
          ∙ ap (λ ways. end_comes front.setting ways conn connection) (sym before.ways_is) in
          let stands : StandsSo fixed to front.replica conn inputs (begun bytes) world law.story turned =
          subst (λ (t : Turned). StandsSo fixed to front.replica conn inputs (begun bytes) world law.story t) fixed_so
          (refuses_stands fixed world law.story to front conn inputs (begun bytes) connection before standing between.cut between.empty
          (subst (λ m. awaits m connection.stage me ≡ true) master_is waits)) in
          let its_fits : (conn < 2 ^ 64) × (length bytes < 2 ^ 32) = subst (HeardFits conn) e (fits conn) in
          let room : HasRoomAt connection connection.stage =
          open_has_room fixed to conn bytes connection (law.story.told conn) (law.story.talk.answers conn) (law.story.course.sessions conn) standing.here
          standing.count its_fits.1 standing.stands in
          let well : AreWellSent me turned.outs =
          subst (λ m. AreWellSent m turned.outs) master_is
          (end_well front.setting (ways_of front) (servers_apart config world law.master law.nodes to front law.feeds between.there) conn its_fits.0 connection
          room) in
          let now : IsStanding fixed to front.replica conn inputs (begun bytes) later then stands.story =
          standing_after fixed world to front conn later turned.outs inputs (begun bytes) front.replica stands.story between.there ((stands.made).others).nodes
          (standing_released fixed to front.replica conn inputs (begun bytes) turned.connection (carry_all to world turned.outs) stands.story stands.standing) in
          let reads_so : HasBegunSo later (reading_of (setting_of config) bytes) =
          begun_released turned.connection (reading_of (setting_of config) bytes)
          (⊎_elim
          (λ ended. absurd (ended_awaits front.master me connection.stage ended waits))
          (λ is. inr (end_reader front.setting (ways_of front) conn connection ∙ is))
          reader) in
          let mine : ConnectionIs fixed conn then stands.story silent (client bytes false) =
          is_open bytes to (with_connection front conn later) later (is_at_after world to front conn connection later turned.outs between.there has) reads_so now in
          record {
            keeps = front_keeps config heard heard world law world.links conn to front connection later turned.outs law.story stands.story law.stops
                (λ other ne. refl) (λ other ne. record { in_place = λ f r c h i. i; in_none = λ i. i })
                between.there has (same_talk (talk_told law.story)) refl refl refl refl law.requests (λ other ne. refl)
                (λ shut. absurd (is_not_closed (heard conn) bytes e shut)) stands.made
                (front_keeps_many config world law.master law.given law.story.course.store law.nodes law.many to front (turned_so front conn later turned.outs)
                between.there)
                (parted_feeds (with_turned front conn turned) refl (well_sent_noops me turned.outs well))
                (subst (λ t. ConnectionIs fixed conn then stands.story t (heard conn)) (sym s)
                (subst (λ h. ConnectionIs fixed conn then stands.story silent h) (sym e) mine));
            between = between_then (with_turned front conn turned) (λ other c there. own_by other c there);
            well = well;
          }

      -- the frontend and the connection of which the law tells
      record IsThis (node : List ℕ) (its : Front) (c : Connection) : Type 0 where
        node_is : node ≡ to
        front_is : its ≡ front
        connection_is : c ≡ connection

      this_one : (node : List ℕ) (its : Front) (c : Connection) {known : Client} → IsAt world conn node its c → client_at world conn ≡ Some known → known.at ≡ node
          → IsThis node its c
      this_one node its c {known = known} at known_is known_at =
          let own = between.owns conn connection has in
          let e : node ≡ to = sym known_at ∙ ap (λ (x : Client). x.at) (same_Some known own.0 (sym known_is ∙ own.1)) ∙ own.2 in
          let same : its ≡ front = same_Some its front (sym at.at ∙ (ap (front_at world) e ∙ between.there)) in
          record {
            node_is = e;
            front_is = same;
            connection_is = same_Some c connection (sym at.has ∙ (ap (λ (f : Front). connection_at f conn) same ∙ has));
          }

      refused_by : (stop : Stop) (was : Heard) → law.stops conn ≡ stop → heard conn ≡ was → ConnectionIs fixed conn world law.story stop was
          → EndsSome world law (with_turned front conn turned)
      refused_by _ _ s e (is_nobody none fronts untold) =
          absurd (let no : None ≡ Some connection = sym (fronts to front between.there) ∙ has in cc)
      refused_by _ _ s e (is_elsewhere node given at none untold) =
          absurd (let own = between.owns conn connection has in
          let same : node ≡ to = ap (λ (x : Client). x.at) (same_Some (record { at = node; given = given }) own.0 (sym at ∙ own.1)) ∙ own.2 in
          let no : None ≡ Some front = sym none ∙ (ap (front_at world) same ∙ between.there) in cc)
      refused_by _ _ s e (is_open bytes node its c at reader standing) =
          let this = this_one node its c at standing.client refl in
          let inputs : List Input = inputs_in (setting_of config) bytes in
          refused_keeps bytes s e (subst (λ x. HasBegunSo x (reading_of (setting_of config) bytes)) this.connection_is reader)
          (subst (λ x. IsStanding fixed to front.replica conn inputs (begun bytes) x world law.story) this.connection_is
          (subst (λ (f : Front). IsStanding fixed to f.replica conn inputs (begun bytes) c world law.story) this.front_is
          (subst (λ n. IsStanding fixed n its.replica conn inputs (begun bytes) c world law.story) this.node_is standing)))
      refused_by _ _ s e (is_cut_off bytes node its c at gone unanswered) =
          absurd (ended_awaits front.master me connection.stage
          (ap (λ (x : Connection). x.stage) (sym (this_one node its c at gone.client refl).connection_is) ∙ gone.stage_is) waits)
      refused_by _ _ s e (is_closed stop bytes node its c at gone) =
          absurd (ended_awaits front.master me connection.stage
          (ap (λ (x : Connection). x.stage) (sym (this_one node its c at gone.client refl).connection_is) ∙ gone.stage_is) waits)

    module _ (conn : ℕ) where
      found_ends : (found : Option Connection) → connection_at front conn ≡ found → awaited front.master found me ≡ true → EndsSome world law (end_at front conn found)
      found_ends None has e = absurd (none_awaits front.master me e)
      found_ends (Some c) has e =
          subst (λ (next : Stepped). EndsSome world law next) (sym (ends_found front conn c))
          (refused_by conn c has (some_awaits front.master c me e) (law.stops conn) (heard conn) refl refl (law.connections conn))

      if_ends : (test : Bool) → awaited front.master (connection_at front conn) me ≡ test → EndsSome world law (end_if test front conn)
      if_ends true e = found_ends (connection_at front conn) refl e
      if_ends false e = none_ends

      one_ends_so : EndsSome world law (one_ends front me conn)
      one_ends_so = if_ends (awaited front.master (connection_at front conn) me) refl

  -- ---- and all that await the master, one after another

  all_keep : (conns : List ℕ) (world : World) (law : KeepsLaw config heard world) (front : Front) → IsBetween config world to front
      → EndsSome world law (all_end front me conns)
  unfolding all_end
  all_keep [] world law front between = none_ends world law front between
  all_keep (conn ∷ conns) world law front between =
      let one : Stepped = one_ends front me conn in
      let first = one_ends_so world law front between conn in
      let behind : World = with_front world to one in
      let more : Stepped = all_end one.front me conns in
      let rest = all_keep conns behind (first.keeps).law one.front first.between in
      record {
        keeps = subst (λ w. KeepsOn config law.story law.stops heard w) (front_twice world to one more)
            (kept_then config heard law.story law.stops behind (with_front behind to more) first.keeps rest.keeps);
        between = subst (λ w. IsBetween config w to more.front) (front_twice world to one more) rest.between;
        well = both (IsWellSent me) one.outs more.outs first.well rest.well;
      }

-- ---- what is on its way from the master

ends_last : (messages : List LinkMsg) → 1 ≤ ends_of (messages ++ End ∷ [])
unfolding ends_of
ends_last [] = (let one : 1 ≤ 1 + 0 = omega arith in one)
ends_last (message ∷ messages) =
    let more : 1 ≤ ends_of (messages ++ End ∷ []) = ends_last messages in
    let all : 1 ≤ ends_in message + ends_of (messages ++ End ∷ []) = omega (arith, more) in
    all

-- over a broken link no End stands behind its first one
no_more_ends : (master : Master) (node : List ℕ) (broken reached : Bool) (up rest : List LinkMsg) (replica : Replica) → broken ≡ true
    → IsFed master node broken reached up (End ∷ rest) replica → ends_of rest ≤ 0
unfolding ends_of
no_more_ends master node broken reached up rest replica is_so (asks whole here before behind is one two three four empty no_stream) =
    absurd (let no : true ≡ false = sym is_so ∙ whole in cc)
no_more_ends master node broken reached up rest replica is_so (is_told whole here one two three four) =
    absurd (let no : true ≡ false = sym is_so ∙ whole in cc)
no_more_ends master node broken reached up rest replica is_so (comes_up whole here one two three) =
    absurd (let no : true ≡ false = sym is_so ∙ whole in cc)
no_more_ends master node broken reached up rest replica is_so (breaks_early one two three ends is four five six) =
    absurd (let no : End ∷ rest ≡ Up ∷ ends = is in cc)
no_more_ends master node broken reached up rest replica is_so (is_parted one own lines few tag) =
    let less : 1 + ends_of rest ≤ 1 = few in omega (arith, less)

tail_is : {X : Type 0} (x y : X) (one other : List X) → x ∷ one ≡ y ∷ other → one ≡ other
tail_is x y one other e = cc

ends_alone : (rest messages : List LinkMsg) → End ∷ rest ≡ messages ++ End ∷ [] → ends_of rest ≤ 0 → rest ≡ []
ends_alone rest [] e few = tail_is End End rest [] e
ends_alone rest (message ∷ messages) e few =
    let same : rest ≡ messages ++ End ∷ [] = tail_is End message rest (messages ++ End ∷ []) e in
    absurd (omega (arith, few, ap ends_of same, ends_last messages))

alone_by : (rest : List LinkMsg) (up : Bool) → IsDown (End ∷ rest) up → ends_of rest ≤ 0 → rest ≡ []
alone_by rest up (is_ending messages e) few = ends_alone rest messages e few
alone_by rest up (has_ended e down) few = cc

module _ (config : Config) (heard : ℕ → Heard) (world : World) (law : KeepsLaw config heard world) (links : LinksStand config world) (fits : NumbersFit heard)
    (to : List ℕ) (front : Front) (rest : List LinkMsg) (there : front_at world to ≡ Some front) (first : on_link world.links (master_of config) to ≡ End ∷ rest)
    (owns : OwnsClients world to front) (cut : world.broken ≢ []) where
  abbrev name : List ℕ
  name = master_of config

  abbrev base : World
  base = taken_from_link world name to

  abbrev now : Front
  now = without_up front name

  abbrev behind : World
  behind = with_front base to (still now)

  fed : IsFed law.master to (is_broken world.broken name to) (is_up front.ups name) (on_link world.links to name) (End ∷ rest) front.replica
  fed = subst (λ d. IsFed law.master to (is_broken world.broken name to) (is_up front.ups name) (on_link world.links to name) d front.replica) first
      ((law.feeds).each to front there).fed

  ended : (is_broken world.broken name to ≡ true) × IsFed law.master to (is_broken world.broken name to) false (on_link world.links to name) rest front.replica
  ended = end_keeps_it law.master to (is_broken world.broken name to) (is_up front.ups name) (on_link world.links to name) rest front.replica fed

  alone : rest ≡ []
  alone =
      alone_by rest (is_up front.ups name) (subst (λ q. IsDown q (is_up front.ups name)) first (links.down to name front there ended.0))
      (no_more_ends law.master to (is_broken world.broken name to) (is_up front.ups name) (on_link world.links to name) rest front.replica ended.0 fed)

  frontend : IsFrontend name (home_at world) to
  frontend = frontend_of config heard world law to front there

  moved : FrontMoved world to now behind
  moved =
      let step = front_moved base to front (still now) there in
      record { own = step.own; fronts = step.fronts; homes = step.homes; masters = step.masters }

  empty : on_link base.links name to ≡ []
  empty = taken_first world.links name to End rest first ∙ alone

  ups : (any : List ℕ) → on_link base.links any name ≡ on_link world.links any name
  ups any = taken_else world.links name to any name (inr (λ e. frontend.no_master (sym e)))

  downs : (any : List ℕ) → any ≢ to → on_link base.links name any ≡ on_link world.links name any
  downs any ne = taken_else world.links name to name any (inr ne)

  places : (conn : ℕ) → PlacesStay (fixed_of config) conn world behind
  unfolding carry_all
  places conn = kept_stay (fixed_of config) conn world behind moved.homes
      (idle_leaves_all name (home_at world) world.links name to End rest conn frontend first tt)

  feeds_then : FeedsHold config behind law.master
  unfolding carry_all
  feeds_then =
      let was = (law.feeds).each to front there in
      own_feeds config world behind law.master law.nodes law.feeds to now moved refl (λ any ne. ups any) downs
      (record {
        fed = fed_as law.master to (is_broken world.broken name to) (is_broken behind.broken name to) (is_up now.ups name) (is_up now.ups name)
            (on_link world.links to name ++ []) (on_link behind.links to name) rest (on_link behind.links name to) front.replica now.replica
            refl refl (ups to ∙ sym (append-nil (on_link world.links to name))) (taken_first world.links name to End rest first) refl
            (parted_with law.master to (is_broken world.broken name to) false (is_up now.ups name) (on_link world.links to name) rest [] front.replica ended.0
            alone tt ended.1);
        knows = subst (λ d. KnowsBackends (home_at behind) d front.replica) (sym (taken_first world.links name to End rest first))
            (knows_heard (home_at behind) End rest front.replica
            (subst (λ d. KnowsBackends (home_at behind) d front.replica) first
            (knows_still (home_at world) (home_at behind) (on_link world.links name to) front.replica
            (moved_homes config world behind law.master law.nodes law.feeds to now moved refl (λ any ne. ups any) downs) was.knows)));
      })

  first_keeps : KeepsOn config law.story law.stops heard behind
  unfolding carry_all
  first_keeps =
      let store : Store = law.story.course.store in
      moved_keeps config heard world behind law to front front.replica (going_down front.ups name) there moved refl refl refl refl
      (λ conn. fixed_places (fixed_of config) conn world behind (places conn) (replicas_stay world behind to front now there moved refl))
      (λ conn. (places conn).in_none)
      (front_keeps_many config base law.master law.given store (same_nodes config world base law.master refl law.nodes)
      (passing_many config world law.master law.given store law.nodes law.many name to
      (inr (front_is_one config world law.master law.given store law.nodes law.many to front there))) to front (still now) there)
      feeds_then

  between : IsBetween config behind to now
  unfolding carry_all
  between = record { there = moved.own; owns = owns; broken = ended.0; cut = cut; empty = empty }

  abbrev conns : List ℕ
  conns = keys_of front.connections

  rest_ends : EndsSome config heard fits to behind first_keeps.law (all_end now name conns)
  rest_ends = all_keep config heard fits to conns behind first_keeps.law now between

  in_turn : KeepsOn config law.story law.stops heard (with_front base to (all_end now name conns))
  in_turn =
      subst (λ w. KeepsOn config law.story law.stops heard w) (front_twice base to (still now) (all_end now name conns))
      (kept_then config heard law.story law.stops behind (with_front behind to (all_end now name conns)) first_keeps rest_ends.keeps)

  end_keeps : KeepsOn config law.story law.stops heard (all_come base to (From name End))
  unfolding deliver
  end_keeps =
      subst (λ w. KeepsOn config law.story law.stops heard w) (sym (front_all_come base to (From name End) front there))
      (in_order_keeps config base to (all_end now name conns) (λ e. frontend.no_master (sym e)) rest_ends.well heard law.story law.stops in_turn)

-- THE END OF THE LINK WITH THE MASTER KEEPS THE LAW
pub master_end_stands : (config : Config) (heard : ℕ → Heard) (world : World) (law : KeepsLaw config heard world) → LinksStand config world → NumbersFit heard
    → (to : List ℕ) (front : Front) (rest : List LinkMsg) → front_at world to ≡ Some front → on_link world.links (master_of config) to ≡ End ∷ rest
    → OwnsClients world to front → world.broken ≢ []
    → KeepsOn config law.story law.stops heard (all_come (taken_from_link world (master_of config) to) to (From (master_of config) End))
master_end_stands config heard world law links fits to front rest there first owns cut =
    end_keeps config heard world law links fits to front rest there first owns cut
