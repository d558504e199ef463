-- THE LAW OF A WORLD OF WHICH MESSAGES ON BROKEN LINKS ARE GONE: the links of the master with backends have all, so the names are as they were; a command that was
-- in an ask or in an answer that is gone is dropped, if it still waits, and nowhere otherwise; one whose NOOP or OK is gone waits for the master's End, and a reply
-- whose OK is gone is taken back, as its client wasn't told of it.
use Rattle.std.proofs.Common.{◌≡◌, ◌⊎◌, inl, inr, ℕ, ◌+◌, Bool, true, false, cond, is_some, List, [], ◌∷◌, ◌++◌, length, Some, filter, take, refl, sym, ◌∙◌, ap, subst, arith, append-nil}
use Rattle.std.proofs.Math.Logic.{⊎_elim}
use Rattle.std.proofs.lemmas.Option.{same_Some}
use Rattle.std.specs.Cmp.Lexicographic.{slice_cmp}
use Rattle.std.specs.Map.{keys_of}
use Rattle.std.specs.Ordering.{is_eq, nat_cmp}
use Rattle.cluster_core.specs.World.{client_at, front_at, home_at, master_of, setting_of}
use Rattle.cluster_core.specs.declared.world.Client.{Client}
use Rattle.cluster_core.specs.declared.world.World.{World}
use Rattle.feed_core.specs.declared.replica.Replica.{Replica}
use Rattle.feed_links.proofs.Parted.{parts_keep_it}
use Rattle.feed_links.proofs.Parts.{part_has}
use Rattle.feed_links.specs.OneFeed.{IsFed}
use Rattle.front_core.proofs.OneConnection.Places.{is_about, of_connection}
use Rattle.front_core.proofs.OneConnection.Readings.{inputs_in, reading_of}
use Rattle.front_core.specs.Front.{awaited}
use Rattle.front_core.specs.Stages.{awaits}
use Rattle.front_core.specs.Ups.{is_up}
use Rattle.front_core.specs.declared.connection.Connection.{Connection}
use Rattle.front_core.specs.declared.front.Front.{Front}
use Rattle.imap_talk.specs.Heard.{Heard, client}
use Rattle.imap_talk.specs.Inputs.{requests_in}
use Rattle.imap_talk.specs.Transcript.{Stop}
use Rattle.imap_talk.specs.Transcript.Stop.{is_lost, silent}
use Rattle.imap_talk.specs.declared.inputs.Input.{Input}
use Rattle.imap_types.specs.declared.request.Answer.{Answer}
use Rattle.imap_types.specs.declared.request.Request.{Request}
use Rattle.imap_wire.specs.Frames.{begun}
use Rattle.link_msg.specs.declared.counts.Counts.TheVariants.{IfAnswered}
use Rattle.link_queue.proofs.Wires.{same_itself}
use Rattle.link_queue.specs.Broken.{Broken, is_broken}
use Rattle.link_queue.specs.Links.{on_link}
use Rattle.many_links.proofs.FrontLaw.{alike_hold}
use Rattle.many_links.specs.ManyHold.{ManyHold}
use Rattle.mark_history.proofs.LastMarks.{last_kind}
use Rattle.mark_history.proofs.TakenBack.{list_at}
use Rattle.mark_history.specs.Marked.{Tale, last_of, taking_back}
use Rattle.mark_history.specs.declared.mark.MarkKind.TheVariants.{Home}
use Rattle.mur_base.proofs.MapLaws.{numbers_apart}
use Rattle.mur_base.specs.Map.{value_at}
use Rattle.mur_base.specs.declared.point.AskId.{AskId}
use Rattle.mur_config.specs.declared.config.Config.{Config}
use Rattle.mur_model.proofs.HistoryGrows.{same_lists}
use Rattle.mur_model.specs.History.{GoesOn}
use Rattle.mur_model.specs.declared.session.Sess.{Sess}
use Rattle.node_record.specs.Table.{MailboxTable}
use Rattle.node_step.specs.NodeStep.{as_front, as_back}
use Rattle.route_links.specs.Answered.{ok_of}
use Rattle.route_links.specs.Barriers.{Place as Barrier, Place as barrier}
use Rattle.cluster_core.proofs.Commands.AllReached.{AreMarkedSo}
use Rattle.cluster_core.proofs.Commands.Moving.{IsSeenBy}
use Rattle.cluster_core.proofs.Commands.Place.{Place, Place as place}
use Rattle.cluster_core.proofs.Commands.Standing.{Fixed, HasBegunSo, IsLeft, Stands, next_id}
use Rattle.cluster_core.proofs.Connections.ConnectionLaw.{CanRestore, IsDroppedAt, IsInPlaceOf, IsMarkedAt, IsStanding, client_with, session_at}
use Rattle.cluster_core.proofs.Connections.KeepsLaw.{ConnectionIs, FeedsHold, IsAt, IsFedAt, IsGone, IsUntold, KeepsBehind, KeepsLaw, KeepsOn, KnowsBackends, SaidOn, TellsBackends}
use Rattle.cluster_core.proofs.Connections.KeepsLaw.{fixed_of, murder_of}
use Rattle.cluster_core.proofs.Connections.KeepsLaw.ConnectionIs.{is_nobody, is_elsewhere, is_open, is_cut_off, is_closed}
use Rattle.cluster_core.proofs.Connections.Stays.{connection_stays, dropped_stays, fixed_places, same_front}
use Rattle.cluster_core.proofs.Feeds.Backends.{knows_still}
use Rattle.cluster_core.proofs.Feeds.Beside.{still_feeds}
use Rattle.cluster_core.proofs.Links.PlacesThin.{BreaksApart, PlaceThen, is_gone, is_still, is_unbarred, none_then, place_then}
use Rattle.cluster_core.proofs.Links.TakenBack.{CanBack, IsOneOf, SameTale, WentBack, all_back}
use Rattle.cluster_core.proofs.Links.Thinned.{IsThinned, parts_of}
use Rattle.cluster_core.proofs.Links.Unbarred.{Unbarred, barred_waits, left_nowhere, no_reply, stands_dropped, taken_back, unbarred}
use Rattle.cluster_core.proofs.Nodes.Stay.{same_nodes}

-- ---- a connection

awaited_so : (master : List ℕ) (connection : Connection) → awaits master connection.stage master ≡ true → awaited master (Some connection) master ≡ true
unfolding awaited
awaited_so master connection is = is

-- a tale that is the same of a connection
pub same_tale_stays : (fixed : Fixed) (conn : ℕ) (world : World) (one later : Tale) (stop : Stop) (heard : Heard) → later.talk.moving ≡ one.talk.moving
    → SameTale one later conn → ConnectionIs fixed conn world one stop heard → ConnectionIs fixed conn world later stop heard
same_tale_stays fixed conn world one later stop heard moving same is =
    connection_stays fixed conn world world one later stop heard
    (record {
      fronts = λ node. same_front conn (front_at world node) (front_at world node) refl;
      client = refl;
      in_place = fixed_places fixed conn world world (record { in_place = λ front replica command here placed. placed; in_none = λ none. none })
          (λ node was now at after. ap (λ (f : Front). f.replica) (same_Some now was (sym after ∙ at)));
      in_none = λ none. none;
      marks = λ command. refl;
      told = same.told;
      said = same.said;
      session = same.session;
      before = same.before;
      moving = moving;
      broken = refl;
    }) is

module _ (fixed : Fixed) (world next : World) (apart : BreaksApart fixed.master (home_at world) world.broken) (thin : IsThinned world next) (story : Tale) where
  fronts : (any : List ℕ) → front_at next any ≡ front_at world any
  fronts any = ap (λ n. as_front (value_at (slice_cmp nat_cmp) n any)) thin.nodes

  clients : (conn : ℕ) → client_at next conn ≡ client_at world conn
  clients conn = ap (λ c. value_at nat_cmp c conn) thin.clients

  marked_then : (id : AskId) (here : Place) → IsMarkedAt story.talk.moving world.marks id here → IsMarkedAt story.talk.moving next.marks id here
  marked_then id here is = subst (λ m. IsMarkedAt story.talk.moving m id here) (sym thin.marks) is

  at_then : (conn : ℕ) (node : List ℕ) (front : Front) (connection : Connection) → IsAt world conn node front connection → IsAt next conn node front connection
  at_then conn node front connection at = record { at = fronts node ∙ at.at; has = at.has }

  untold_then : (conn : ℕ) → IsUntold fixed conn world story → IsUntold fixed conn next story
  untold_then conn untold = record {
    told = untold.told;
    said = untold.said;
    session = untold.session;
    nothing = none_then fixed world next apart thin conn untold.nothing;
  }

  -- ITS REPLY IS TAKEN BACK, as the OK is gone
  pub record IsBack (conn : ℕ) (stop : Stop) (heard : Heard) : Type 0 where
    pub can : CanBack world.marks story conn
    pub node : List ℕ
    pub front : Front
    pub connection : Connection
    pub at : IsAt next conn node front connection
    pub waits : awaited fixed.master (Some connection) fixed.master ≡ true
    pub client : Client
    pub there : client_at world conn ≡ Some client
    -- its OK was on its way, and isn't any more
    pub was : filter (is_about (length (story.told conn) + 1) (of_connection conn)) (on_link world.links fixed.master node)
        ≡ ok_of (next_id conn (story.told conn)) ∷ []
    pub none : filter (is_about (length (story.told conn) + 1) (of_connection conn)) (on_link next.links fixed.master node) ≡ []
    pub is : ConnectionIs fixed conn next (taking_back story conn) stop heard

  pub data ConnectionThen (conn : ℕ) (stop : Stop) (heard : Heard) : Type 0 where
    as_before : ConnectionIs fixed conn next story stop heard → ConnectionThen conn stop heard
    goes_back : IsBack conn stop heard → ConnectionThen conn stop heard

  -- one that is open
  module _ (conn : ℕ) (bytes node : List ℕ) (front : Front) (connection : Connection) (at : IsAt world conn node front connection)
      (reader : HasBegunSo connection (reading_of fixed.setting bytes))
      (standing : IsStanding fixed node front.replica conn (inputs_in fixed.setting bytes) (begun bytes) connection world story) where
    abbrev told : List Answer
    told = story.told conn

    abbrev inputs : List Input
    inputs = inputs_in fixed.setting bytes

    abbrev StandsAt : List Answer → Sess → Place → Type 0
    StandsAt said session here = Stands fixed node conn inputs (begun bytes) connection told said session here

    opened : (here : Place) → IsInPlaceOf fixed next node front.replica (next_id conn told) here → IsMarkedAt story.talk.moving next.marks (next_id conn told) here
        → IsDroppedAt fixed.master next node here → CanRestore story conn connection here
        → StandsAt (story.talk.answers conn) (story.course.sessions conn) here → ConnectionThen conn silent (client bytes false)
    opened here placed marked dropped restores stands =
        as_before (is_open bytes node front connection (at_then conn node front connection at) reader (record {
          count = standing.count;
          client = clients conn ∙ standing.client;
          here = here;
          placed = placed;
          marked = marked;
          dropped = dropped;
          restores = restores;
          stands = stands;
        }))

    -- the session before its reply is that of its frontend
    restored : (answer : Answer) → story.talk.answers conn ≡ told ++ answer ∷ []
        → (story.talk.answers conn ≡ told) ⊎ (story.before conn ≡ connection.session) → story.before conn ≡ connection.session
    restored answer more (inl none) = absurd (no_more told answer (sym none ∙ more))
      where
        no_more : (list : List Answer) (one : Answer) → list ≡ list ++ one ∷ [] → ⊥
        no_more [] one e = cc
        no_more (first ∷ list) one e = no_more list one (let rest : list ≡ list ++ one ∷ [] = cc in rest)
    restored answer more (inr before) = before

    back : (answer : Answer) (table : MailboxTable) (cut : is_broken next.broken fixed.master node ≡ true)
        → IsInPlaceOf fixed next node front.replica (next_id conn told) (place.is_barred barrier.nowhere)
        → (here : Place) → here ≡ place.is_barred (barrier.answered table) → IsInPlaceOf fixed world node front.replica (next_id conn told) here
        → IsMarkedAt story.talk.moving world.marks (next_id conn told) here → CanRestore story conn connection here
        → StandsAt (story.talk.answers conn) (story.course.sessions conn) here → story.talk.answers conn ≡ told ++ answer ∷ []
        → StandsAt told connection.session (place.is_barred barrier.nowhere) → ConnectionThen conn silent (client bytes false)
    back answer table cut placed here e was_placed marked restores stood more stands =
        let own : AskId = next_id conn told in
        let ok_placed : IsInPlaceOf fixed world node front.replica own (place.is_barred (barrier.answered table)) = subst (IsInPlaceOf fixed world node front.replica own) e was_placed in
        let saw : IsSeenBy story.talk.moving world.marks own table = subst (IsMarkedAt story.talk.moving world.marks own) e marked in
        let before : story.before conn ≡ connection.session = restored answer more (subst (CanRestore story conn connection) e restores) in
        goes_back (record {
          can = record { answer = answer; untold = more; seen = last_kind own world.marks (record { step = saw.step; ask = own; kind = Home IfAnswered }) saw.saw };
          node = node;
          front = front;
          connection = connection;
          at = at_then conn node front connection at;
          waits = awaited_so fixed.master connection (barred_waits fixed node conn inputs (begun bytes) connection told (story.talk.answers conn) (story.course.sessions conn) here
              (barrier.answered table) e stood);
          client = client_with node inputs told;
          there = standing.client;
          was = ok_placed.message fixed.master node ∙ ap (λ s. cond s (ok_of own ∷ []) []) (same_itself fixed.master node);
          none = placed.message fixed.master node;
          is = is_open bytes node front connection (at_then conn node front connection at) reader (record {
            count = standing.count;
            client = clients conn ∙ standing.client;
            here = place.is_barred barrier.nowhere;
            placed = placed;
            marked = tt;
            dropped = cut;
            restores = tt;
            stands = subst (λ said. StandsAt said ((taking_back story conn).course.sessions conn) (place.is_barred barrier.nowhere))
                (sym (list_at story.talk.answers conn told))
                (subst (λ session. StandsAt told session (place.is_barred barrier.nowhere))
                (sym (session_at story.course.sessions conn (story.before conn) ∙ before)) stands);
          });
        })

    by_unbarred : (at_barrier : Barrier) → is_broken next.broken fixed.master node ≡ true
        → IsInPlaceOf fixed next node front.replica (next_id conn told) (place.is_barred barrier.nowhere)
        → standing.here ≡ place.is_barred at_barrier
        → Unbarred fixed node conn inputs (begun bytes) connection told (story.talk.answers conn) (story.course.sessions conn) (place.is_barred at_barrier)
        → ConnectionThen conn silent (client bytes false)
    by_unbarred at_barrier cut placed e (no_reply stands) = opened (place.is_barred barrier.nowhere) placed tt cut tt stands
    by_unbarred at_barrier cut placed e (taken_back answer table is more stands) =
        back answer table cut placed standing.here (e ∙ is) standing.placed standing.marked standing.restores standing.stands more stands

    open_then : PlaceThen fixed next node front.replica (next_id conn told) standing.here → ConnectionThen conn silent (client bytes false)
    open_then (is_still placed) =
        opened standing.here placed (marked_then (next_id conn told) standing.here standing.marked)
        (dropped_stays fixed.master world next node thin.broken standing.here standing.dropped) standing.restores standing.stands
    open_then (is_gone server between cut placed nowhere) =
        opened (place.is_dropped server) placed tt cut tt
        (stands_dropped fixed node conn told (story.talk.answers conn) (story.course.sessions conn) server standing.here between inputs (begun bytes) connection
        standing.stands)
    open_then (is_unbarred at_barrier e cut placed nowhere) =
        by_unbarred at_barrier cut placed e
        (unbarred fixed node conn inputs (begun bytes) connection told (story.talk.answers conn) (story.course.sessions conn) at_barrier
        (subst (StandsAt (story.talk.answers conn) (story.course.sessions conn)) e standing.stands))

  -- one that has ended
  gone_by : (front : List ℕ) (replica : Replica) (conn : ℕ) (inputs : List Input) (stop : Stop) (connection : Connection)
      (gone : IsGone fixed front replica conn inputs stop connection world story) (here : Place) → IsInPlaceOf fixed next front replica (next_id conn (story.told conn)) here
      → IsMarkedAt story.talk.moving next.marks (next_id conn (story.told conn)) here
      → (here ≡ gone.here) ⊎ (here ≡ place.nowhere) → IsGone fixed front replica conn inputs stop connection next story
  gone_by front replica conn inputs stop connection gone here placed marked which = record {
    stage_is = gone.stage_is;
    count = gone.count;
    lasts = gone.lasts;
    client = clients conn ∙ gone.client;
    here = here;
    placed = placed;
    marked = marked;
    left = ⊎_elim
        (λ (e : here ≡ gone.here). subst (IsLeft fixed front conn (requests_in inputs) (story.told conn) (story.talk.answers conn) (story.course.sessions conn)) (sym e) gone.left)
        (λ (e : here ≡ place.nowhere). subst (IsLeft fixed front conn (requests_in inputs) (story.told conn) (story.talk.answers conn) (story.course.sessions conn)) (sym e)
        (left_nowhere fixed front conn (requests_in inputs) (story.told conn) (story.talk.answers conn) (story.course.sessions conn) gone.here gone.left))
        which;
    cut = λ e none. gone.cut e (sym thin.broken ∙ none);
  }

  gone_place : (front : List ℕ) (replica : Replica) (conn : ℕ) (inputs : List Input) (stop : Stop) (connection : Connection)
      (gone : IsGone fixed front replica conn inputs stop connection world story)
      → PlaceThen fixed next front replica (next_id conn (story.told conn)) gone.here → IsGone fixed front replica conn inputs stop connection next story
  gone_place front replica conn inputs stop connection gone (is_still placed) =
      gone_by front replica conn inputs stop connection gone gone.here placed (marked_then (next_id conn (story.told conn)) gone.here gone.marked) (inl refl)
  gone_place front replica conn inputs stop connection gone (is_gone server between cut placed nowhere) =
      gone_by front replica conn inputs stop connection gone place.nowhere nowhere tt (inr refl)
  gone_place front replica conn inputs stop connection gone (is_unbarred at_barrier e cut placed nowhere) =
      gone_by front replica conn inputs stop connection gone place.nowhere nowhere tt (inr refl)

  gone_then : (front : List ℕ) (replica : Replica) (conn : ℕ) (inputs : List Input) (stop : Stop) (connection : Connection)
      → IsGone fixed front replica conn inputs stop connection world story → IsGone fixed front replica conn inputs stop connection next story
  gone_then front replica conn inputs stop connection gone =
      gone_place front replica conn inputs stop connection gone
      (place_then fixed world next apart thin front replica (next_id conn (story.told conn)) gone.here gone.placed)

  pub connection_then : (conn : ℕ) (stop : Stop) (heard : Heard) → ConnectionIs fixed conn world story stop heard → ConnectionThen conn stop heard
  connection_then conn stop heard (is_nobody none others untold) =
      as_before (is_nobody (clients conn ∙ none) (λ node front there. others node front (sym (fronts node) ∙ there)) (untold_then conn untold))
  connection_then conn stop heard (is_elsewhere node given at no_front untold) =
      as_before (is_elsewhere node given (clients conn ∙ at) (fronts node ∙ no_front) (untold_then conn untold))
  connection_then conn stop heard (is_open bytes node front connection at reader standing) =
      open_then conn bytes node front connection at reader standing
      (place_then fixed world next apart thin node front.replica (next_id conn (story.told conn)) standing.here standing.placed)
  connection_then conn stop heard (is_cut_off bytes node front connection at gone unanswered) =
      as_before (is_cut_off bytes node front connection (at_then conn node front connection at)
      (gone_then node front.replica conn (inputs_in fixed.setting bytes) is_lost connection gone) unanswered)
  connection_then conn stop heard (is_closed stopped bytes node front connection at gone) =
      as_before (is_closed stopped bytes node front connection (at_then conn node front connection at)
      (gone_then node front.replica conn (inputs_in fixed.setting bytes) stopped connection gone))

-- ---- clients

client_by : (e : ℕ × Client) (es : List (ℕ × Client)) (conn : ℕ) (it : Client) (same : Bool) → is_eq (nat_cmp conn e.0) ≡ same
    → cond same (Some e.1) (value_at nat_cmp es conn) ≡ Some it → (value_at nat_cmp es conn ≡ Some it → IsOneOf (keys_of es) conn) → IsOneOf (keys_of (e ∷ es)) conn
client_by e es conn it true h at later = inl (numbers_apart.exact conn e.0 h)
client_by e es conn it false h at later = inr (later at)

client_among : (es : List (ℕ × Client)) (conn : ℕ) (it : Client) → value_at nat_cmp es conn ≡ Some it → IsOneOf (keys_of es) conn
client_among [] conn it at = cc
client_among (e ∷ es) conn it at = client_by e es conn it (is_eq (nat_cmp conn e.0)) refl at (λ found. client_among es conn it found)

-- ---- the law

module _ (config : Config) (heard : ℕ → Heard) (world next : World) (apart : BreaksApart (master_of config) (home_at world) world.broken) (thin : IsThinned world next)
    (law : KeepsLaw config heard world) where
  abbrev me : List ℕ
  me = master_of config

  homes_same : (any : List ℕ) → home_at next any ≡ home_at world any
  homes_same any = ap (λ n. as_back (value_at (slice_cmp nat_cmp) n any)) thin.nodes

  fronts_same : (any : List ℕ) → front_at next any ≡ front_at world any
  fronts_same any = ap (λ n. as_front (value_at (slice_cmp nat_cmp) n any)) thin.nodes

  many_then : ManyHold (murder_of next law.master) law.given law.story.course.store
  many_then =
      alike_hold (murder_of world law.master) (murder_of next law.master) law.given law.story.course.store
      (record {
        master = refl;
        nodes = homes_same;
        up = λ name node at. subst (λ m. on_link next.links name m ≡ on_link world.links name m) (sym law.nodes.me)
            (thin.whole name me (apart.to_master name (ap is_some at)));
        down = λ name node at. subst (λ m. on_link next.links m name ≡ on_link world.links m name) (sym law.nodes.me)
            (thin.whole me name (apart.from_master name (ap is_some at)));
      }) law.many

  -- ---- feeds

  fed_by : (any : List ℕ) (front : Front) (broken : Bool) → is_broken world.broken me any ≡ broken
      → IsFed law.master any (is_broken world.broken me any) (is_up front.ups me) (on_link world.links any me) (on_link world.links me any) front.replica
      → IsFed law.master any (is_broken world.broken me any) (is_up front.ups me) (on_link next.links any me) (on_link next.links me any) front.replica
  fed_by any front false e fed =
      subst (λ u. IsFed law.master any (is_broken world.broken me any) (is_up front.ups me) u (on_link next.links me any) front.replica)
      (sym (thin.whole any me (apart.both any me ∙ e)))
      (subst (λ d. IsFed law.master any (is_broken world.broken me any) (is_up front.ups me) (on_link world.links any me) d front.replica) (sym (thin.whole me any e)) fed)
  fed_by any front true e fed =
      subst (λ b. IsFed law.master any b (is_up front.ups me) (on_link next.links any me) (on_link next.links me any) front.replica) (sym e)
      (parts_keep_it law.master any (is_up front.ups me) (on_link world.links any me) (on_link world.links me any) (on_link next.links any me) (on_link next.links me any)
      front.replica (parts_of world next thin any me) (parts_of world next thin me any)
      (subst (λ b. IsFed law.master any b (is_up front.ups me) (on_link world.links any me) (on_link world.links me any) front.replica) e fed))

  knows_then : (any : List ℕ) (front : Front) → KnowsBackends (home_at world) (on_link world.links me any) front.replica
      → KnowsBackends (home_at next) (on_link next.links me any) front.replica
  knows_then any front knows =
      let still = knows_still (home_at world) (home_at next) (on_link world.links me any) front.replica (λ server. ap is_some (homes_same server)) knows in
      record { has = still.has; each = still.each; told = part_has (TellsBackends (home_at next)) (parts_of world next thin me any) still.told }

  each_fed : (any : List ℕ) (front : Front) → front_at next any ≡ Some front → IsFedAt config next law.master any front
  each_fed any front there =
      let was = law.feeds.each any front (sym (fronts_same any) ∙ there) in
      record {
        fed = subst (λ (b : Broken). IsFed law.master any (is_broken b me any) (is_up front.ups me) (on_link next.links any me) (on_link next.links me any) front.replica)
            (sym thin.broken) (fed_by any front (is_broken world.broken me any) refl was.fed);
        knows = knows_then any front was.knows;
      }

  feeds_then : FeedsHold config next law.master
  feeds_then = still_feeds config world law.master law.nodes law.feeds next (λ server. ap is_some (homes_same server)) each_fed

  -- ---- connections

  thens : (conn : ℕ) → ConnectionThen (fixed_of config) world next apart thin law.story conn (law.stops conn) (heard conn)
  thens conn = connection_then (fixed_of config) world next apart thin law.story conn (law.stops conn) (heard conn) (law.connections conn)

  told_then : (later : Tale) → AreMarkedSo (setting_of config) world.broken world.steps world.marks later
      → AreMarkedSo (setting_of config) next.broken next.steps next.marks later
  told_then later so =
      subst (λ b. AreMarkedSo (setting_of config) b next.steps next.marks later) (sym thin.broken)
      (subst (λ n. AreMarkedSo (setting_of config) world.broken n next.marks later) (sym thin.steps)
      (subst (λ m. AreMarkedSo (setting_of config) world.broken world.steps m later) (sym thin.marks) so))

  -- NO OK IS GONE
  module _ (oks : (conn first : ℕ) (node : List ℕ) → filter (is_about first (of_connection conn)) (on_link next.links me node)
      ≡ filter (is_about first (of_connection conn)) (on_link world.links me node)) where
    one_as_before : (conn : ℕ) → ConnectionThen (fixed_of config) world next apart thin law.story conn (law.stops conn) (heard conn)
        → ConnectionIs (fixed_of config) conn next law.story (law.stops conn) (heard conn)
    one_as_before conn (as_before is) = is
    one_as_before conn (goes_back back) =
        absurd (let no : ok_of (next_id conn (law.story.told conn)) ∷ [] ≡ [] =
        sym back.was ∙ sym (oks conn (length (law.story.told conn) + 1) back.node) ∙ back.none in cc)

    pub thinned_law : KeepsLaw config heard next
    thinned_law = record {
      master = law.master;
      nodes = same_nodes config world next law.master thin.nodes law.nodes;
      story = law.story;
      stops = law.stops;
      given = law.given;
      many = many_then;
      feeds = feeds_then;
      is_told = told_then law.story law.is_told;
      requests = law.requests;
      connections = λ conn. one_as_before conn (thens conn);
    }

  -- SOME MAY BE

  abbrev is_back : (conn : ℕ) → ConnectionThen (fixed_of config) world next apart thin law.story conn (law.stops conn) (heard conn) → Bool
  is_back conn (as_before is) = false
  is_back conn (goes_back back) = true

  abbrev goes : ℕ → Bool
  goes conn = is_back conn (thens conn)

  can_by : (conn : ℕ) (then : ConnectionThen (fixed_of config) world next apart thin law.story conn (law.stops conn) (heard conn)) → is_back conn then ≡ true
      → CanBack world.marks law.story conn
  can_by conn (as_before is) e = cc
  can_by conn (goes_back back) e = back.can

  went : WentBack (setting_of config) world.broken world.steps world.marks law.story goes (λ conn e. can_by conn (thens conn) e) (keys_of world.clients)
  went = all_back (setting_of config) world.broken world.steps world.marks law.story goes (λ conn e. can_by conn (thens conn) e) law.is_told (keys_of world.clients)

  -- one that goes back went back
  back_there : (conn : ℕ) (then : ConnectionThen (fixed_of config) world next apart thin law.story conn (law.stops conn) (heard conn)) → thens conn ≡ then
      → (back : IsBack (fixed_of config) world next apart thin law.story conn (law.stops conn) (heard conn)) → then ≡ goes_back back
      → SameTale (taking_back law.story conn) went.later conn
  back_there conn then e back is =
      went.all conn (client_among world.clients conn back.client back.there) (ap (is_back conn) (e ∙ is))

  connection_by : (conn : ℕ) (then : ConnectionThen (fixed_of config) world next apart thin law.story conn (law.stops conn) (heard conn)) → thens conn ≡ then
      → ConnectionIs (fixed_of config) conn next went.later (law.stops conn) (heard conn)
  connection_by conn (as_before is) e = ⊎_elim
      (λ same. same_tale_stays (fixed_of config) conn next law.story went.later (law.stops conn) (heard conn) went.moving same is)
      (λ back. absurd (let no : false ≡ true = sym (ap (is_back conn) e) ∙ back.1 in false_true no))
      (went.each conn)
    where
      false_true : false ≡ true → ⊥
      false_true k = cc
  connection_by conn (goes_back back) e =
      same_tale_stays (fixed_of config) conn next (taking_back law.story conn) went.later (law.stops conn) (heard conn) went.moving
      (back_there conn (goes_back back) e back refl) back.is

  pub back_law : KeepsLaw config heard next
  back_law = record {
    master = law.master;
    nodes = same_nodes config world next law.master thin.nodes law.nodes;
    story = went.later;
    stops = law.stops;
    given = law.given;
    many = subst (ManyHold (murder_of next law.master) law.given) (sym went.store) many_then;
    feeds = feeds_then;
    is_told = told_then went.later went.marked;
    requests = λ conn. ap (λ (r : ℕ → List Request). r conn) went.requests ∙ law.requests conn;
    connections = λ conn. connection_by conn (thens conn) refl;
  }

  said_by : (conn : ℕ) (then : ConnectionThen (fixed_of config) world next apart thin law.story conn (law.stops conn) (heard conn)) → thens conn ≡ then
      → SaidOn (fixed_of config) law.story next went.later conn
  said_by conn (as_before is) e = ⊎_elim
      (λ same. SaidOn.on ([], same.serials ∙ sym (append-nil (law.story.talk.serials conn))) (omega (arith, ap length same.said)))
      (λ back. absurd (let no : false ≡ true = sym (ap (is_back conn) e) ∙ back.1 in false_true no))
      (went.each conn)
    where
      false_true : false ≡ true → ⊥
      false_true k = cc
  said_by conn (goes_back back) e =
      let same = back_there conn (goes_back back) e back refl in
      let told_is : went.later.told conn ≡ law.story.told conn = same.told in
      SaidOn.back (record {
        told = told_is;
        said = same.said ∙ list_at law.story.talk.answers conn (law.story.told conn) ∙ sym told_is;
        serials = same.serials ∙ list_at law.story.talk.serials conn _
            ∙ ap (λ (l : List Answer). take (length l) (law.story.talk.serials conn)) (sym told_is);
        seen = ap (last_of (next_id conn (law.story.told conn))) thin.marks ∙ back.can.seen;
        node = back.node;
        front = back.front;
        connection = back.connection;
        at = back.at;
        waits = back.waits;
      })

  pub thinned_behind : KeepsBehind config law.story law.stops heard next
  unfolding back_law
  thinned_behind = record {
    law = back_law;
    requests = subst (GoesOn law.story.talk.requests) (sym went.requests) (same_lists law.story.talk.requests);
    answers = subst (GoesOn law.story.told) (sym went.told) (same_lists law.story.told);
    moving = went.moving;
    said = λ conn. said_by conn (thens conn) refl;
    closed = λ conn shut. (ap (λ (f : ℕ → List Answer). f conn) went.told, refl);
  }

-- A WORLD OF WHICH MESSAGES ON BROKEN LINKS ARE GONE KEEPS THE LAW, where no OK is
pub thinned_keeps : (config : Config) (story : Tale) (stops : ℕ → Stop) (heard : ℕ → Heard) (world next : World)
    → BreaksApart (master_of config) (home_at world) world.broken → IsThinned world next
    → ((conn first : ℕ) (node : List ℕ) → filter (is_about first (of_connection conn)) (on_link next.links (master_of config) node)
    ≡ filter (is_about first (of_connection conn)) (on_link world.links (master_of config) node))
    → KeepsOn config story stops heard world → KeepsOn config story stops heard next
unfolding thinned_law
thinned_keeps config story stops heard world next apart thin oks keeps = record {
  law = thinned_law config heard world next apart thin keeps.law oks;
  more = keeps.more;
  grows = keeps.grows;
  closed = keeps.closed;
}
