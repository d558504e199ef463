-- A frontend takes the OK of a command that is over: it changes nothing, and each command is where it was.
use Rattle.std.proofs.Common.{◌≡◌, ◌≢◌, ◌⊎◌, inl, inr, ℕ, ◌+◌, nat_eq, true, false, List, length, Option, None, Some, refl, sym, ◌∙◌, ap, subst, arith}
use Rattle.std.proofs.Math.Logic.{⊎_elim}
use Rattle.std.proofs.lemmas.Bool.Decides.{nat_tests}
use Rattle.std.proofs.lemmas.Cmp.{nat_list_eq_equiv}
use Rattle.std.proofs.lemmas.Option.{same_Some}
use Rattle.std.specs.Cmp.Lexicographic.{pointwise}
use Rattle.std.specs.Ordering.{nat_cmp}
use Rattle.ask_routes.specs.Barrier.{barrier_answered}
use Rattle.feed_core.specs.declared.replica.Replica.{Replica}
use Rattle.front_core.proofs.OneConnection.Places.{is_over}
use Rattle.front_core.proofs.OneConnection.Readings.{inputs_in, reading_of}
use Rattle.front_core.specs.Answered.{ok_by, ok_comes, unchanged}
use Rattle.front_core.specs.Ended.{released}
use Rattle.front_core.specs.Front.{connection_at, deliver, line_by, line_from, ok_at, still, ways_of, with_turned}
use Rattle.front_core.specs.Taken.{Ways}
use Rattle.front_core.specs.declared.connection.Connection.{Connection}
use Rattle.front_core.specs.declared.front.Front.{Front}
use Rattle.imap_talk.specs.Heard.{Heard}
use Rattle.imap_talk.specs.Transcript.{Stop}
use Rattle.imap_talk.specs.Transcript.Stop.{is_lost}
use Rattle.imap_talk.specs.declared.inputs.Input.{Input}
use Rattle.imap_wire.specs.Frames.{begun}
use Rattle.link_msg.specs.declared.message.LinkMsg.TheVariants.{Line}
use Rattle.many_links.specs.ManyHold.{ManyHold}
use Rattle.mark_history.specs.Marked.{talk_told}
use Rattle.mur_base.proofs.MapLaws.{numbers_apart, value_at-with_value, value_at-with_value-other}
use Rattle.mur_base.specs.declared.point.AskId.{AskId}
use Rattle.mur_config.specs.declared.config.Config.{Config}
use Rattle.mur_model.proofs.HistoryGrows.{same_talk}
use Rattle.mur_model.specs.declared.setting.Setting.{Setting}
use Rattle.node_step.specs.declared.input.NodeInput.TheVariants.{From}
use Rattle.cluster_core.specs.World.{carry_all, client_at, front_at, home_at, master_of, setting_of, taken_from_link}
use Rattle.cluster_core.specs.declared.world.Client.{Client}
use Rattle.cluster_core.specs.declared.world.World.{World}
use Rattle.cluster_core.proofs.Answers.ClosedSteps.{ended_released}
use Rattle.cluster_core.proofs.Answers.Ends.{OwnsClients}
use Rattle.cluster_core.proofs.Answers.Keeps.{IsTakenBy, frontend_of, taken_by}
use Rattle.cluster_core.proofs.Commands.Place.{Place}
use Rattle.cluster_core.proofs.Commands.Released.{begun_released, released_count}
use Rattle.cluster_core.proofs.Commands.Standing.{Fixed, HasBegunSo, next_id}
use Rattle.cluster_core.proofs.Connections.ConnectionLaw.{IsInPlaceOf, IsStanding, PlacesStay, says_same}
use Rattle.cluster_core.proofs.Connections.KeepsData.{standing_released}
use Rattle.cluster_core.proofs.Connections.KeepsFront.{fronts_at_other, replicas_stay, with_connection}
use Rattle.cluster_core.proofs.Connections.KeepsLaw.{ConnectionIs, FeedsHold, IsAt, IsGone, KeepsLaw, KeepsOn, fixed_of, murder_of}
use Rattle.cluster_core.proofs.Connections.KeepsLaw.ConnectionIs.{is_nobody, is_elsewhere, is_open, is_cut_off, is_closed}
use Rattle.cluster_core.proofs.Connections.Stays.{dropped_stays, each_stays, fixed_places}
use Rattle.cluster_core.proofs.Nodes.AllCome.{front_all_come}
use Rattle.cluster_core.proofs.Nodes.Comes.{FrontMoved, front_moved, with_front}
use Rattle.cluster_core.proofs.Nodes.Stay.{front_cores}
use Rattle.cluster_core.proofs.Places.FrontFirst.{about_ok, none_comes, ok_on}
use Rattle.cluster_core.proofs.Places.FrontTakes.{late_ok_stays}
use Rattle.cluster_core.proofs.Places.FrontWorlds.{alike_stay, moves_with, ok_stays, stays_on}
use Rattle.cluster_core.proofs.Places.Stays.{IsFrontend, same_name_or}

-- ---- what the frontend does

-- an OK to another command than the next one changes nothing
ok_other : (setting : Setting) (ways : Ways) (conn : ℕ) (connection : Connection) (id : AskId) → id.command ≢ connection.answered + 1
    → ok_comes setting ways conn connection id ≡ unchanged connection
unfolding ok_comes ok_by
ok_other setting ways conn connection id ne =
    let apart : nat_eq id.command (connection.answered + 1) ≡ false = grind (arith, nat_tests) in
    ap (λ own. ok_by setting ways conn connection own connection.stage) apart

hears_ok : (front : Front) (from bytes : List ℕ) (id : AskId) → from ≡ front.master → barrier_answered bytes ≡ Some id
    → deliver front from (Line bytes) ≡ ok_at front id (connection_at front id.conn)
unfolding deliver line_from
hears_ok front from bytes id e ok =
    let same : pointwise nat_eq from front.master ≡ true = ap (pointwise nat_eq from) (sym e) ∙ nat_list_eq_equiv.refl from in
    ap (λ b. line_from b front bytes) same ∙ ap (line_by front bytes) ok

ok_to_none : (front : Front) (id : AskId) (found : Option Connection) → found ≡ None → ok_at front id found ≡ still front
unfolding ok_at
ok_to_none front id found e = ap (ok_at front id) e

ok_to_other : (front : Front) (id : AskId) (found : Option Connection) (connection : Connection) → found ≡ Some connection
    → id.command ≢ connection.answered + 1 → ok_at front id found ≡ still (with_connection front id.conn (released connection))
unfolding ok_at
ok_to_other front id found connection e ne =
    ap (ok_at front id) e ∙ ap (with_turned front id.conn) (ok_other front.setting (ways_of front) id.conn connection id ne)

-- what a frontend has of a connection then: it is as it was, or what it held is let go
record IsAsItWas (now : Option Connection) (was : Connection) : Type 0 where
  own : Connection
  has : now ≡ Some own
  is : (own ≡ was) ⊎ (own ≡ released was)

module _ (config : Config) (heard : ℕ → Heard) (world : World) (law : KeepsLaw config heard world) (to : List ℕ) (front : Front) (bytes : List ℕ)
    (id : AskId) (there : front_at world to ≡ Some front) (taken : IsTakenBy config heard world law (master_of config) (Line bytes) to)
    (reads_so : barrier_answered bytes ≡ Some id) (over : is_over (length (law.story.told id.conn) + 1) (Line bytes) ≡ true) where
  abbrev fixed : Fixed
  fixed = fixed_of config

  abbrev me : List ℕ
  me = master_of config

  abbrev base : World
  base = taken_from_link world me to

  abbrev told_id : AskId
  told_id = next_id id.conn (law.story.told id.conn)

  frontend : IsFrontend me (home_at world) to
  frontend = frontend_of config heard world law to front there

  -- its command isn't the next one
  not_next : (connection : Connection) → connection.answered ≡ length (law.story.told id.conn) → id.command ≢ connection.answered + 1
  not_next connection count e =
      (let no : true ≡ false = sym over ∙ ok_on (length (law.story.told id.conn) + 1) bytes id reads_so (omega (arith, e, count)) in cc)

  -- ---- the world behind it

  module _ (later : Front) (connections_only : later ≡ record front { connections = later.connections })
      (own_world : taken_by config heard world law me (Line bytes) to ≡ with_front base to (still later))
      (others : (other : ℕ) → other ≢ id.conn → connection_at later other ≡ connection_at front other)
      (own : (connection : Connection) → connection_at front id.conn ≡ Some connection → IsAsItWas (connection_at later id.conn) connection) where
    abbrev next : World
    next = with_front base to (still later)

    moved : FrontMoved world to later next
    moved =
        let step = front_moved base to front (still later) there in
        record { own = step.own; fronts = step.fronts; homes = step.homes; masters = step.masters }

    -- its command is where it was
    placed_then : (node : List ℕ) (replica : Replica) (here : Place) → IsInPlaceOf fixed world node replica told_id here
        → IsInPlaceOf fixed next node replica told_id here
    unfolding carry_all
    placed_then node replica here is =
        moves_with fixed base next node replica told_id here moved.homes
        (late_ok_stays me (home_at world) world.links to bytes id taken.rest node replica told_id here frontend taken.first reads_so over is)

    record IsNow (node : List ℕ) (its : Front) (connection : Connection) : Type 0 where
      now : Front
      its_own : Connection
      at : IsAt next id.conn node now its_own
      replica_is : now.replica ≡ its.replica
      is : (its_own ≡ connection) ⊎ (its_own ≡ released connection)

    is_now : (node : List ℕ) (its : Front) (connection : Connection) → IsAt world id.conn node its connection → IsNow node its connection
    is_now node its connection at = ⊎_elim
        (λ (e : node ≡ to).
        let same : its ≡ front = same_Some its front (sym at.at ∙ (ap (front_at world) e ∙ there)) in
        let kept = own connection (ap (λ (f : Front). connection_at f id.conn) (sym same) ∙ at.has) in
        record {
          now = later;
          its_own = kept.own;
          at = record { at = ap (front_at next) e ∙ moved.own; has = kept.has };
          replica_is = ap (λ (f : Front). f.replica) connections_only ∙ ap (λ (f : Front). f.replica) (sym same);
          is = kept.is;
        })
        (λ (ne : node ≢ to). record {
          now = its;
          its_own = connection;
          at = record { at = moved.fronts node ne ∙ at.at; has = at.has };
          replica_is = refl;
          is = inl refl;
        })
        (same_name_or node to)

    gone_then : (node : List ℕ) (its : Front) (connection : Connection) (inputs : List Input) (stop : Stop) → (is : IsNow node its connection)
        → IsGone fixed node its.replica id.conn inputs stop connection world law.story
        → IsGone fixed node is.now.replica id.conn inputs stop is.its_own next law.story
    unfolding carry_all
    gone_then node its connection inputs stop is gone =
        let kept : IsGone fixed node its.replica id.conn inputs stop connection next law.story = record {
          stage_is = gone.stage_is;
          count = gone.count;
          lasts = gone.lasts;
          client = gone.client;
          here = gone.here;
          placed = placed_then node its.replica gone.here gone.placed;
          marked = gone.marked;
          left = gone.left;
          cut = gone.cut;
        } in
        let let_go : IsGone fixed node its.replica id.conn inputs stop (released connection) next law.story = record {
          stage_is = ended_released connection gone.stage_is;
          count = released_count connection ∙ gone.count;
          lasts = gone.lasts;
          client = gone.client;
          here = gone.here;
          placed = kept.placed;
          marked = gone.marked;
          left = gone.left;
          cut = gone.cut;
        } in
        subst (λ r. IsGone fixed node r id.conn inputs stop is.its_own next law.story) (sym is.replica_is)
        (⊎_elim
        (λ (e : is.its_own ≡ connection). subst (λ c. IsGone fixed node its.replica id.conn inputs stop c next law.story) (sym e) kept)
        (λ (e : is.its_own ≡ released connection). subst (λ c. IsGone fixed node its.replica id.conn inputs stop c next law.story) (sym e) let_go)
        is.is)

    open_then : (text node : List ℕ) (its : Front) (connection : Connection) → (is : IsNow node its connection)
        → IsStanding fixed node its.replica id.conn (inputs_in (setting_of config) text) (begun text) connection world law.story
        → IsStanding fixed node is.now.replica id.conn (inputs_in (setting_of config) text) (begun text) is.its_own next law.story
    unfolding carry_all
    open_then text node its connection is standing =
        let inputs : List Input = inputs_in (setting_of config) text in
        let kept : IsStanding fixed node its.replica id.conn inputs (begun text) connection next law.story = record {
          count = standing.count;
          client = standing.client;
          here = standing.here;
          placed = placed_then node its.replica standing.here standing.placed;
          marked = standing.marked;
          dropped = dropped_stays fixed.master world next node refl standing.here standing.dropped;
          restores = standing.restores;
          stands = standing.stands;
        } in
        subst (λ r. IsStanding fixed node r id.conn inputs (begun text) is.its_own next law.story) (sym is.replica_is)
        (⊎_elim
        (λ (e : is.its_own ≡ connection). subst (λ c. IsStanding fixed node its.replica id.conn inputs (begun text) c next law.story) (sym e) kept)
        (λ (e : is.its_own ≡ released connection). subst (λ c. IsStanding fixed node its.replica id.conn inputs (begun text) c next law.story) (sym e)
        (standing_released fixed node its.replica id.conn inputs (begun text) connection next law.story kept))
        is.is)

    connection_then : (stop : Stop) (was : Heard) → ConnectionIs fixed id.conn world law.story stop was → ConnectionIs fixed id.conn next law.story stop was
    connection_then _ _ (is_nobody none fronts untold) =
        absurd (none_comes me (home_at world) world.links me to (Line bytes) taken.rest id.conn taken.first untold.nothing (about_ok bytes id reads_so))
    connection_then _ _ (is_elsewhere node given at none untold) =
        absurd (none_comes me (home_at world) world.links me to (Line bytes) taken.rest id.conn taken.first untold.nothing (about_ok bytes id reads_so))
    connection_then _ _ (is_open text node its connection at reader standing) =
        let is = is_now node its connection at in
        is_open text node is.now is.its_own is.at
        (⊎_elim
        (λ e. subst (λ c. HasBegunSo c (reading_of (setting_of config) text)) (sym e) reader)
        (λ e. subst (λ c. HasBegunSo c (reading_of (setting_of config) text)) (sym e) (begun_released connection (reading_of (setting_of config) text) reader))
        is.is)
        (open_then text node its connection is standing)
    connection_then _ _ (is_cut_off text node its connection at gone unanswered) =
        let is = is_now node its connection at in
        is_cut_off text node is.now is.its_own is.at (gone_then node its connection (inputs_in (setting_of config) text) is_lost is gone) unanswered
    connection_then _ _ (is_closed stop text node its connection at gone) =
        let is = is_now node its connection at in
        is_closed stop text node is.now is.its_own is.at (gone_then node its connection (inputs_in (setting_of config) text) stop is gone)

    stay : (other : ℕ) → other ≢ id.conn → PlacesStay fixed other world next
    unfolding carry_all
    stay other ne =
        stays_on fixed other world base next (ok_stays fixed world to bytes id taken.rest other frontend taken.first reads_so ne)
        (alike_stay fixed other base next moved.homes refl)

    late_keeps_so : KeepsOn config law.story law.stops heard (taken_by config heard world law me (Line bytes) to)
    unfolding carry_all
    late_keeps_so =
        subst (λ w. KeepsOn config law.story law.stops heard w) (sym own_world)
        (record {
          law = record {
            master = law.master;
            nodes = front_cores config world next law.master law.nodes to front later there
                (record {
                  me = ap (λ (f : Front). f.me) connections_only;
                  master = ap (λ (f : Front). f.master) connections_only;
                  first = ap (λ (f : Front). f.first) connections_only;
                  setting = ap (λ (f : Front). f.setting) connections_only;
                }) moved;
            story = law.story;
            stops = law.stops;
            given = law.given;
            many = subst (λ w. ManyHold (murder_of w law.master) law.given law.story.course.store) own_world taken.many;
            feeds = subst (λ w. FeedsHold config w law.master) own_world taken.feeds;
            is_told = law.is_told;
            requests = law.requests;
            connections = each_stays fixed world next law.story law.story law.stops law.stops heard heard id.conn (heard id.conn) law.connections
                (λ other ne. refl) (λ other ne. refl)
                (λ other ne. record {
                  fronts = fronts_at_other world next to front later other there moved (others other ne);
                  client = refl;
                  in_place = fixed_places fixed other world next (stay other ne)
                      (replicas_stay world next to front later there moved (ap (λ (f : Front). f.replica) connections_only));
                  in_none = (stay other ne).in_none;
                  marks = λ command. refl;
                  told = refl;
                  said = refl;
                  session = refl;
                  before = refl;
                  moving = refl;
                  broken = refl;
                })
                refl (connection_then (law.stops id.conn) (heard id.conn) (law.connections id.conn));
          };
          more = same_talk (talk_told law.story);
          grows = says_same law.story;
          closed = λ conn shut. (refl, refl);
        })

  -- ---- by whether the frontend has the connection

  module _ (owns : OwnsClients world to front) where
    its_node : (connection : Connection) → connection_at front id.conn ≡ Some connection → (node : List ℕ) (known : Client)
        → client_at world id.conn ≡ Some known → known.at ≡ node → node ≡ to
    its_node connection has node known at known_at =
        let own = owns id.conn connection has in
        sym known_at ∙ ap (λ (c : Client). c.at) (same_Some known own.0 (sym at ∙ own.1)) ∙ own.2

    its_own : (node : List ℕ) (its : Front) (c connection : Connection) → IsAt world id.conn node its c → connection_at front id.conn ≡ Some connection
        → {known : Client} → client_at world id.conn ≡ Some known → known.at ≡ node → c ≡ connection
    its_own node its c connection at has {known = known} known_is known_at =
        let e : node ≡ to = its_node connection has node known known_is known_at in
        let same : its ≡ front = same_Some its front (sym at.at ∙ (ap (front_at world) e ∙ there)) in
        same_Some c connection (sym at.has ∙ (ap (λ (f : Front). connection_at f id.conn) same ∙ has))

    does : deliver front me (Line bytes) ≡ ok_at front id (connection_at front id.conn)
    does = hears_ok front me bytes id (sym ((law.nodes).fronts to front there).master_is) reads_so

    taken_is : taken_by config heard world law me (Line bytes) to ≡ with_front base to (deliver front me (Line bytes))
    taken_is = front_all_come base to (From me (Line bytes)) front there

    -- what it was told of is what the law says
    its_count : (connection : Connection) → connection_at front id.conn ≡ Some connection → (stop : Stop) (was : Heard)
        → ConnectionIs fixed id.conn world law.story stop was → connection.answered ≡ length (law.story.told id.conn)
    its_count connection has _ _ (is_nobody none fronts untold) = absurd (let no : None ≡ Some connection = sym (fronts to front there) ∙ has in cc)
    its_count connection has _ _ (is_elsewhere node given at none untold) =
        absurd (let no : None ≡ Some front = sym none ∙ (ap (front_at world) (its_node connection has node _ at refl) ∙ there) in cc)
    its_count connection has _ _ (is_open text node its c at reader standing) =
        ap (λ (x : Connection). x.answered) (sym (its_own node its c connection at has standing.client refl)) ∙ standing.count
    its_count connection has _ _ (is_cut_off text node its c at gone unanswered) =
        ap (λ (x : Connection). x.answered) (sym (its_own node its c connection at has gone.client refl)) ∙ gone.count
    its_count connection has _ _ (is_closed stop text node its c at gone) =
        ap (λ (x : Connection). x.answered) (sym (its_own node its c connection at has gone.client refl)) ∙ gone.count

    found_late : (found : Option Connection) → connection_at front id.conn ≡ found
        → KeepsOn config law.story law.stops heard (taken_by config heard world law me (Line bytes) to)
    found_late None e =
        late_keeps_so front refl (taken_is ∙ ap (with_front base to) (does ∙ ok_to_none front id (connection_at front id.conn) e)) (λ other ne. refl)
        (λ connection has. absurd (let no : None ≡ Some connection = sym e ∙ has in cc))
    found_late (Some connection) e =
        let later : Front = with_connection front id.conn (released connection) in
        late_keeps_so later refl
        (taken_is ∙ ap (with_front base to) (does ∙ ok_to_other front id (connection_at front id.conn) connection e
        (not_next connection (its_count connection e (law.stops id.conn) (heard id.conn) (law.connections id.conn)))))
        (λ other ne. value_at-with_value-other nat_cmp numbers_apart front.connections id.conn other (released connection) ne)
        (λ was has. record {
          own = released connection;
          has = value_at-with_value nat_cmp numbers_apart front.connections id.conn (released connection) connection e;
          is = inr (ap released (same_Some connection was (sym e ∙ has)));
        })

-- THE OK OF A COMMAND THAT IS OVER KEEPS THE LAW
pub late_ok_stands : (config : Config) (heard : ℕ → Heard) (world : World) (law : KeepsLaw config heard world) (to : List ℕ) (front : Front) (bytes : List ℕ)
    (id : AskId) → front_at world to ≡ Some front → IsTakenBy config heard world law (master_of config) (Line bytes) to → barrier_answered bytes ≡ Some id
    → is_over (length (law.story.told id.conn) + 1) (Line bytes) ≡ true → OwnsClients world to front
    → KeepsOn config law.story law.stops heard (taken_by config heard world law (master_of config) (Line bytes) to)
late_ok_stands config heard world law to front bytes id there taken reads_so over owns =
    found_late config heard world law to front bytes id there taken reads_so over owns (connection_at front id.conn) refl
