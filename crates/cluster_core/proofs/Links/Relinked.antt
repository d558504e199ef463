-- THE LAW STANDS WHERE OTHER LINKS ARE BROKEN, and where more stands on links that is about nobody: each command is where it was.
use Rattle.std.proofs.Common.{◌≡◌, ℕ, true, List, [], Option, Some, refl, sym, ◌∙◌, ap, subst}
use Rattle.std.specs.Cmp.Lexicographic.{slice_cmp}
use Rattle.std.specs.Ordering.{nat_cmp}
use Rattle.asking_core.specs.declared.waiting.At.TheVariants.{Home}
use Rattle.cluster_core.specs.World.{client_at, front_at, home_at, master_of, setting_of}
use Rattle.cluster_core.specs.declared.world.World.{World}
use Rattle.feed_core.specs.declared.replica.Replica.{Replica}
use Rattle.feed_links.proofs.Names.{same_name}
use Rattle.front_core.proofs.OneConnection.Places.{PlacesStay as MessagesStay, of_connection}
use Rattle.front_core.proofs.OneConnection.Readings.{inputs_in}
use Rattle.front_core.specs.Front.{awaited, connection_at}
use Rattle.front_core.specs.Stages.{awaits, waits_at}
use Rattle.front_core.specs.declared.connection.Connection.{Connection}
use Rattle.front_core.specs.declared.front.Front.{Front}
use Rattle.imap_talk.specs.Heard.{Heard}
use Rattle.imap_talk.specs.Transcript.{Stop}
use Rattle.imap_talk.specs.Transcript.Stop.{is_lost}
use Rattle.imap_talk.specs.declared.inputs.Input.{Input}
use Rattle.imap_types.specs.declared.command.Tag.{Tag}
use Rattle.imap_types.specs.declared.request.Answer.{Answer}
use Rattle.imap_wire.specs.Frames.{begun}
use Rattle.link_queue.specs.Broken.{is_broken}
use Rattle.link_queue.specs.Links.{on_link}
use Rattle.many_links.proofs.FrontLaw.{alike_hold}
use Rattle.many_links.specs.ManyHold.{ManyHold}
use Rattle.mark_history.specs.Marked.{talk_told}
use Rattle.mur_base.specs.Map.{value_at}
use Rattle.mur_base.specs.declared.point.AskId.{AskId}
use Rattle.mur_config.specs.declared.config.Config.{Config}
use Rattle.mur_model.proofs.HistoryGrows.{same_talk}
use Rattle.mur_model.specs.declared.commands.list.Listing.{Listing}
use Rattle.mur_model.specs.declared.session.Sess.{Sess}
use Rattle.node_step.specs.NodeStep.{as_back, as_front}
use Rattle.route_links.specs.Barriers.{Place as barrier}
use Rattle.cluster_core.proofs.Commands.AllReached.{AreMarkedSo, relinked}
use Rattle.cluster_core.proofs.Commands.Knows.{KnowsNames}
use Rattle.cluster_core.proofs.Commands.Place.{Place, Place as place}
use Rattle.cluster_core.proofs.Commands.Standing.{Fixed, Stands, WaitsAt, next_id}
use Rattle.cluster_core.proofs.Connections.ConnectionLaw.{IsDroppedAt, IsInNoneOf, IsInPlaceOf, IsMarkedAt, says_same}
use Rattle.cluster_core.proofs.Connections.KeepsLaw.{ConnectionIs, FeedsHold, IsAt, IsGone, IsUntold, KeepsLaw, KeepsOn, fixed_of, murder_of}
use Rattle.cluster_core.proofs.Connections.KeepsLaw.ConnectionIs.{is_nobody, is_elsewhere, is_open, is_cut_off, is_closed}
use Rattle.cluster_core.proofs.Links.Unbarred.{barred_waits}
use Rattle.cluster_core.proofs.Nodes.Stay.{same_nodes}
use Rattle.cluster_core.proofs.Places.FrontWorlds.{in_none_alike, in_place_alike}
use Rattle.cluster_core.proofs.Places.Stays.{BarriersStay, HomesAlike, KeepsPlaces, keeps_by}

-- ---- other links are broken, and more stands on links that is about nobody

pub record Relinks (me : List ℕ) (world next : World) : Type 0 where
  pub nodes : next.nodes ≡ world.nodes
  pub clients : next.clients ≡ world.clients
  pub marks : next.marks ≡ world.marks
  pub steps : next.steps ≡ world.steps
  pub messages : (conn : ℕ) → MessagesStay (of_connection conn) world.links next.links
  pub homes : HomesAlike me (home_at world) world.links next.links
  pub barriers : (conn : ℕ) → BarriersStay me conn world.links next.links
  -- a link that was ever cut
  pub cut : next.broken ≡ [] → world.broken ≡ []
  -- whose command waits for a node over a link that is broken
  pub dropped : (conn : ℕ) (node server : List ℕ) (front : Front) → front_at world node ≡ Some front → awaited me (connection_at front conn) server ≡ true
      → is_broken world.broken server node ≡ true → is_broken next.broken server node ≡ true

no_barred : (tag : Tag) (it : Listing) (was : Sess) (told said : List Answer) (session : Sess) (server : List ℕ) (here : Place) → here ≡ place.is_dropped server
    → KnowsNames tag it was told said session here → ⊥
no_barred tag it was told said session server here e (KnowsNames.not_yet same session_is at) =
    (let no : place.is_dropped server ≡ place.is_barred barrier.asked = sym e ∙ at in cc)
no_barred tag it was told said session server here e (KnowsNames.is_gone same session_is at) =
    (let no : place.is_dropped server ≡ place.is_barred barrier.nowhere = sym e ∙ at in cc)
no_barred tag it was told said session server here e (KnowsNames.is_listed table same session_is at) =
    (let no : place.is_dropped server ≡ place.is_barred (barrier.answered table) = sym e ∙ at in cc)

-- a command that is dropped waits for its server
dropped_waits : (fixed : Fixed) (front : List ℕ) (conn : ℕ) (inputs : List Input) (held : Option (List ℕ)) (connection : Connection) (told said : List Answer)
    (session : Sess) (server : List ℕ) (here : Place) → here ≡ place.is_dropped server → Stands fixed front conn inputs held connection told said session here
    → awaits fixed.master connection.stage server ≡ true
unfolding awaits
dropped_waits fixed front conn inputs held connection told said session server here e (Stands.waits waiting) =
    let home : waiting.c.waiting.at ≡ Home server = subst (WaitsAt waiting.c.waiting.at) e waiting.at in
    ap (λ s. awaits fixed.master s server) waiting.stage ∙ ap (λ a. waits_at fixed.master a server) home ∙ same_name server
dropped_waits fixed front conn inputs held connection told said session server here e (Stands.lists listing) =
    absurd (no_barred listing.tag listing.listing connection.session told said session server here e listing.knows)
dropped_waits fixed front conn inputs held connection told said session server here e (Stands.reads a b c d f g at) =
    (let no : place.is_dropped server ≡ place.nowhere = sym e ∙ at in cc)
dropped_waits fixed front conn inputs held connection told said session server here e (Stands.faulted a b c d f at) =
    (let no : place.is_dropped server ≡ place.nowhere = sym e ∙ at in cc)
dropped_waits fixed front conn inputs held connection told said session server here e (Stands.finished passed more request before last a b c d f g at) =
    (let no : place.is_dropped server ≡ place.nowhere = sym e ∙ at in cc)

awaited_by : (master : List ℕ) (found : Option Connection) (connection : Connection) (node : List ℕ) → found ≡ Some connection
    → awaits master connection.stage node ≡ true → awaited master found node ≡ true
unfolding awaited
awaited_by master found connection node has waits = ap (λ c. awaited master c node) has ∙ waits

module _ (config : Config) (heard : ℕ → Heard) (world next : World) (is : Relinks (master_of config) world next) (law : KeepsLaw config heard world)
    (feeds : FeedsHold config next law.master) where
  abbrev me : List ℕ
  me = master_of config

  abbrev fixed : Fixed
  fixed = fixed_of config

  homes : (any : List ℕ) → home_at next any ≡ home_at world any
  homes any = ap (λ n. as_back (value_at (slice_cmp nat_cmp) n any)) is.nodes

  fronts : (any : List ℕ) → front_at next any ≡ front_at world any
  fronts any = ap (λ n. as_front (value_at (slice_cmp nat_cmp) n any)) is.nodes

  clients : (conn : ℕ) → client_at next conn ≡ client_at world conn
  clients conn = ap (λ c. value_at nat_cmp c conn) is.clients

  keeps : (conn : ℕ) → KeepsPlaces me (home_at world) conn world.links next.links
  keeps conn = keeps_by me (home_at world) conn world.links next.links (is.messages conn) is.homes (is.barriers conn)

  placed_then : (front : List ℕ) (replica : Replica) (conn command : ℕ) (here : Place)
      → IsInPlaceOf fixed world front replica (record { conn = conn; command = command }) here
      → IsInPlaceOf fixed next front replica (record { conn = conn; command = command }) here
  placed_then front replica conn command here placed =
      in_place_alike (home_at world) (home_at next) homes me next.links front replica (record { conn = conn; command = command }) here
      ((keeps conn).in_place front replica command here placed)

  none_then : (conn : ℕ) → IsInNoneOf fixed world conn → IsInNoneOf fixed next conn
  none_then conn none = in_none_alike (home_at world) (home_at next) homes me next.links conn ((keeps conn).in_none none)

  untold_then : (conn : ℕ) → IsUntold fixed conn world law.story → IsUntold fixed conn next law.story
  untold_then conn untold = record { told = untold.told; said = untold.said; session = untold.session; nothing = none_then conn untold.nothing }

  at_then : (conn : ℕ) (node : List ℕ) (front : Front) (connection : Connection) → IsAt world conn node front connection → IsAt next conn node front connection
  at_then conn node front connection at = record { at = fronts node ∙ at.at; has = at.has }

  marked_then : (id : AskId) (here : Place) → IsMarkedAt law.story.talk.moving world.marks id here → IsMarkedAt law.story.talk.moving next.marks id here
  marked_then id here marked = subst (λ m. IsMarkedAt law.story.talk.moving m id here) (sym is.marks) marked

  gone_then : (node : List ℕ) (replica : Replica) (conn : ℕ) (inputs : List Input) (stop : Stop) (connection : Connection)
      → IsGone fixed node replica conn inputs stop connection world law.story → IsGone fixed node replica conn inputs stop connection next law.story
  gone_then node replica conn inputs stop connection gone = record {
    stage_is = gone.stage_is;
    count = gone.count;
    lasts = gone.lasts;
    client = clients conn ∙ gone.client;
    here = gone.here;
    placed = placed_then node replica conn _ gone.here gone.placed;
    marked = marked_then (next_id conn (law.story.told conn)) gone.here gone.marked;
    left = gone.left;
    cut = λ lost none. gone.cut lost (is.cut none);
  }

  dropped_by : (conn : ℕ) (node : List ℕ) (front : Front) (connection : Connection) (inputs : List Input) (held : Option (List ℕ)) (told said : List Answer)
      (session : Sess) (here : Place) → IsAt world conn node front connection → Stands fixed node conn inputs held connection told said session here
      → IsDroppedAt me world node here → IsDroppedAt me next node here
  dropped_by conn node front connection inputs held told said session place.nowhere at stands cut = tt
  dropped_by conn node front connection inputs held told said session (place.is_asked server ask) at stands cut = tt
  dropped_by conn node front connection inputs held told said session (place.is_answered server answer) at stands cut = tt
  dropped_by conn node front connection inputs held told said session (place.is_dropped server) at stands cut =
      is.dropped conn node server front at.at
      (awaited_by me (connection_at front conn) connection server at.has
      (dropped_waits fixed node conn inputs held connection told said session server (place.is_dropped server) refl stands)) cut
  dropped_by conn node front connection inputs held told said session (place.is_at loc name) at stands cut = tt
  dropped_by conn node front connection inputs held told said session (place.is_barred barrier.nowhere) at stands cut =
      is.dropped conn node me front at.at
      (awaited_by me (connection_at front conn) connection me at.has
      (barred_waits fixed node conn inputs held connection told said session (place.is_barred barrier.nowhere) barrier.nowhere refl stands)) cut
  dropped_by conn node front connection inputs held told said session (place.is_barred barrier.asked) at stands cut = tt
  dropped_by conn node front connection inputs held told said session (place.is_barred (barrier.answered table)) at stands cut = tt

  pub connection_then : (conn : ℕ) (stop : Stop) (h : Heard) → ConnectionIs fixed conn world law.story stop h → ConnectionIs fixed conn next law.story stop h
  connection_then conn _ _ (is_nobody none others untold) =
      is_nobody (clients conn ∙ none) (λ node front there. others node front (sym (fronts node) ∙ there)) (untold_then conn untold)
  connection_then conn _ _ (is_elsewhere node given at no_front untold) =
      is_elsewhere node given (clients conn ∙ at) (fronts node ∙ no_front) (untold_then conn untold)
  connection_then conn _ _ (is_open bytes node front connection at reader standing) =
      is_open bytes node front connection (at_then conn node front connection at) reader
      (record {
        count = standing.count;
        client = clients conn ∙ standing.client;
        here = standing.here;
        placed = placed_then node front.replica conn _ standing.here standing.placed;
        marked = marked_then (next_id conn (law.story.told conn)) standing.here standing.marked;
        dropped = dropped_by conn node front connection (inputs_in fixed.setting bytes) (begun bytes) (law.story.told conn) (law.story.talk.answers conn)
            (law.story.course.sessions conn) standing.here at standing.stands standing.dropped;
        restores = standing.restores;
        stands = standing.stands;
      })
  connection_then conn _ _ (is_cut_off bytes node front connection at gone unanswered) =
      is_cut_off bytes node front connection (at_then conn node front connection at)
      (gone_then node front.replica conn (inputs_in fixed.setting bytes) is_lost connection gone) unanswered
  connection_then conn _ _ (is_closed stop bytes node front connection at gone) =
      is_closed stop bytes node front connection (at_then conn node front connection at)
      (gone_then node front.replica conn (inputs_in fixed.setting bytes) stop connection gone)

  pub many_then : ManyHold (murder_of next law.master) law.given law.story.course.store
  many_then =
      alike_hold (murder_of world law.master) (murder_of next law.master) law.given law.story.course.store
      (record {
        master = refl;
        nodes = homes;
        up = λ name node at. subst (λ m. on_link next.links name m ≡ on_link world.links name m) (sym law.nodes.me) (is.homes name node at).0;
        down = λ name node at. subst (λ m. on_link next.links m name ≡ on_link world.links m name) (sym law.nodes.me) (is.homes name node at).1;
      }) law.many

  pub told_then : AreMarkedSo (setting_of config) next.broken next.steps next.marks law.story
  told_then =
      subst (λ n. AreMarkedSo (setting_of config) next.broken n next.marks law.story) (sym is.steps)
      (subst (λ m. AreMarkedSo (setting_of config) next.broken world.steps m law.story) (sym is.marks)
      (relinked (setting_of config) world.broken next.broken world.steps world.marks law.story is.cut law.is_told))

  abbrev pub relinked_law : KeepsLaw config heard next
  relinked_law = record {
    master = law.master;
    nodes = same_nodes config world next law.master is.nodes law.nodes;
    story = law.story;
    stops = law.stops;
    given = law.given;
    many = many_then;
    feeds = feeds;
    is_told = told_then;
    requests = law.requests;
    connections = λ conn. connection_then conn (law.stops conn) (heard conn) (law.connections conn);
  }

  -- THE LAW STANDS WHERE OTHER LINKS ARE BROKEN
  pub relinked_keeps : KeepsOn config law.story law.stops heard next
  relinked_keeps = record {
    law = relinked_law;
    more = same_talk (talk_told law.story);
    grows = says_same law.story;
    closed = λ conn shut. (refl, refl);
  }
