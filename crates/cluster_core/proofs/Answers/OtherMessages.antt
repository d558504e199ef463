-- A frontend takes any other message than an answer or the OK to a command: a line of the master that tells of its table, or one that changes nothing.
use Rattle.std.proofs.Common.{◌≡◌, ◌≢◌, inl, inr, ℕ, nat_eq, Bool, true, false, List, None, Some, refl, sym, ◌∙◌, ap, subst}
use Rattle.std.specs.Cmp.Lexicographic.{pointwise}
use Rattle.std.specs.Ordering.{nat_cmp}
use Rattle.std.proofs.Math.Logic.{⊎_elim}
use Rattle.std.proofs.lemmas.Cmp.{nat_list_eq_equiv}
use Rattle.ask_routes.specs.Barrier.{barrier_answered}
use Rattle.cluster_core.specs.World.{master_of, carry_all, front_at, home_at, setting_of, taken_from_link}
use Rattle.feed_core.specs.declared.replica.Replica.{Replica}
use Rattle.feed_links.proofs.Names.{other_name}
use Rattle.feed_links.specs.Replicas.{hears}
use Rattle.front_core.specs.declared.front.Front.{Front}
use Rattle.front_core.specs.Front.{deliver, hearing, line_by, line_from, still}
use Rattle.front_core.specs.Ups.{Ups, is_up}
use Rattle.imap_talk.specs.Heard.{Heard}
use Rattle.link_msg.specs.declared.message.LinkMsg.{LinkMsg}
use Rattle.link_msg.specs.declared.message.LinkMsg.TheVariants.{Up, End, Line, Ask, Answer}
use Rattle.link_queue.specs.Broken.{Broken}
use Rattle.many_links.specs.ManyHold.{ManyHold}
use Rattle.mark_history.specs.Marked.{talk_told}
use Rattle.mur_base.specs.Map.{value_at}
use Rattle.mur_base.specs.declared.point.AskId.{AskId}
use Rattle.mur_config.specs.declared.config.Config.{Config}
use Rattle.mur_model.proofs.HistoryGrows.{same_talk}
use Rattle.node_step.specs.declared.input.NodeInput.TheVariants.{From}
use Rattle.cluster_core.specs.declared.world.World.{World}
use Rattle.cluster_core.proofs.Commands.AllReached.{AreMarkedSo}
use Rattle.cluster_core.proofs.Commands.Place.{Place}
use Rattle.cluster_core.proofs.Commands.Standing.{Fixed}
use Rattle.cluster_core.proofs.Connections.ConnectionLaw.{IsInNoneOf, IsInPlaceOf, MarksStay, says_same}
use Rattle.cluster_core.proofs.Connections.KeepsFront.{fronts_at_other}
use Rattle.cluster_core.proofs.Connections.KeepsLaw.{AreNodesOf, FeedsHold, KeepsLaw, KeepsOn, fixed_of, murder_of}
use Rattle.cluster_core.proofs.Connections.Stays.{StaysInPlace, connection_stays}
use Rattle.cluster_core.proofs.Nodes.AllCome.{front_all_come}
use Rattle.cluster_core.proofs.Nodes.Comes.{FrontMoved, front_moved, with_front}
use Rattle.cluster_core.proofs.Nodes.Stay.{front_cores, same_nodes}
use Rattle.cluster_core.proofs.Feeds.Beside.{still_fed, still_feeds}
use Rattle.cluster_core.proofs.Feeds.Many.{front_is_one, front_keeps_many, passing_many}
use Rattle.cluster_core.proofs.Connections.StillFed.{feeds_alike, fronts_were}
use Rattle.many_links.proofs.Carried.{taken_else}
use Rattle.mur_model.specs.declared.store.Store.{Store}
use Rattle.cluster_core.proofs.Places.FrontFirst.{IsIdle}
use Rattle.cluster_core.proofs.Places.FrontTakes.{idle_leaves_all, news_leave_others, none_stays, takes_news}
use Rattle.cluster_core.proofs.Places.FrontWorlds.{in_none_alike, moves_with}
use Rattle.cluster_core.proofs.Places.Stays.{same_name_or}
use Rattle.cluster_core.proofs.Answers.Keeps.{IsTakenBy, frontend_of, taken_by}

just_front : {one other : Front} → Some one ≡ Some other → one ≡ other
just_front e = cc

-- A frontend has another replica or other links, and what it let out is no connection's: each is as it was, if its command is where it was.
module _ (config : Config) (heard : ℕ → Heard) (world next : World) (law : KeepsLaw config heard world) (to : List ℕ) (front : Front) (replica : Replica)
    (ups : Ups) (there : front_at world to ≡ Some front) (moved : FrontMoved world to (record front { replica = replica; ups = ups }) next) where
  abbrev moved_front : Front
  moved_front = record front { replica = replica; ups = ups }

  pub moved_keeps : next.clients ≡ world.clients → next.marks ≡ world.marks → next.steps ≡ world.steps → next.broken ≡ world.broken
      → ((conn : ℕ) → StaysInPlace (fixed_of config) conn world next)
      → ((conn : ℕ) → IsInNoneOf (fixed_of config) world conn → IsInNoneOf (fixed_of config) next conn)
      → ManyHold (murder_of next law.master) law.given law.story.course.store → FeedsHold config next law.master
      → KeepsOn config law.story law.stops heard next
  moved_keeps clients marks steps broken stays none many feeds = record {
    law = record {
      master = law.master;
      nodes = front_cores config world next law.master law.nodes to front moved_front there (record { me = refl; master = refl; first = refl; setting = refl }) moved;
      story = law.story;
      stops = law.stops;
      given = law.given;
      many = many;
      feeds = feeds;
      is_told = subst (λ (b : Broken). AreMarkedSo (setting_of config) b next.steps next.marks law.story) (sym broken)
          (subst (λ n. AreMarkedSo (setting_of config) world.broken n next.marks law.story) (sym steps)
          (subst (λ m. AreMarkedSo (setting_of config) world.broken world.steps m law.story) (sym marks) law.is_told));
      requests = law.requests;
      connections = λ conn. connection_stays (fixed_of config) conn world next law.story law.story (law.stops conn) (heard conn)
          (record {
            fronts = fronts_at_other world next to front moved_front conn there moved refl;
            client = ap (λ c. value_at nat_cmp c conn) clients;
            in_place = stays conn;
            in_none = none conn;
            marks = subst (MarksStay conn world.marks) (sym marks) (λ command. refl);
            told = refl;
            said = refl;
            session = refl;
            before = refl;
            moving = refl;
            broken = broken;
          })
          (law.connections conn);
    };
    more = same_talk (talk_told law.story);
    grows = says_same law.story;
    closed = λ conn shut. (refl, refl);
  }

module _ (config : Config) (heard : ℕ → Heard) (world : World) (law : KeepsLaw config heard world) (from to : List ℕ) (front : Front) (message : LinkMsg)
    (there : front_at world to ≡ Some front) (taken : IsTakenBy config heard world law from message to) where
  abbrev fixed : Fixed
  fixed = fixed_of config

  -- the world in which the frontend has another replica and other links, and nothing was let out
  abbrev pub with_replica : Replica → Ups → World
  with_replica replica ups = with_front (taken_from_link world from to) to (still (record front { replica = replica; ups = ups }))

  moved_so : (replica : Replica) (ups : Ups) → FrontMoved world to (record front { replica = replica; ups = ups }) (with_replica replica ups)
  moved_so replica ups =
      let step = front_moved (taken_from_link world from to) to front (still (record front { replica = replica; ups = ups })) there in
      record { own = step.own; fronts = step.fronts; homes = step.homes; masters = step.masters }

  -- each connection is as it was, if its command is where it was
  pub replica_keeps : (replica : Replica) (ups : Ups) → ((conn : ℕ) → StaysInPlace fixed conn world (with_replica replica ups))
      → ManyHold (murder_of (with_replica replica ups) law.master) law.given law.story.course.store → FeedsHold config (with_replica replica ups) law.master
      → KeepsOn config law.story law.stops heard (with_replica replica ups)
  unfolding carry_all
  replica_keeps replica ups stays many feeds =
      moved_keeps config heard world (with_replica replica ups) law to front replica ups there (moved_so replica ups) refl refl refl refl stays
      (λ conn is. in_none_alike (home_at world) (home_at (with_replica replica ups)) (moved_so replica ups).homes fixed.master
      (with_replica replica ups).links conn
      (none_stays fixed.master (home_at world) world.links from to message taken.rest conn (frontend_of config heard world law to front there) taken.first is))
      many feeds

  -- its own connections with the new replica, those of others with theirs
  stays_by : (replica : Replica) (ups : Ups) (conn : ℕ)
      → ((command : ℕ) (here : Place) → IsInPlaceOf fixed world to front.replica (record { conn = conn; command = command }) here
      → IsInPlaceOf fixed (taken_from_link world from to) to replica (record { conn = conn; command = command }) here)
      → ((node : List ℕ) (other : Replica) (command : ℕ) (here : Place) → node ≢ to
      → IsInPlaceOf fixed world node other (record { conn = conn; command = command }) here
      → IsInPlaceOf fixed (taken_from_link world from to) node other (record { conn = conn; command = command }) here)
      → StaysInPlace fixed conn world (with_replica replica ups)
  unfolding carry_all
  stays_by replica ups conn own others node was now before after command here is =
      let next : World = with_replica replica ups in
      let id : AskId = record { conn = conn; command = command } in
      let moved = moved_so replica ups in
      ⊎_elim
      (λ (e : node ≡ to).
      let one : was ≡ front = just_front (sym before ∙ (ap (front_at world) e ∙ there)) in
      let two : record front { replica = replica; ups = ups } ≡ now = just_front (sym moved.own ∙ (ap (front_at next) (sym e) ∙ after)) in
      subst (λ n. IsInPlaceOf fixed next n now.replica id here) (sym e)
      (subst (λ (f : Front). IsInPlaceOf fixed next to f.replica id here) two
      (moves_with fixed (taken_from_link world from to) next to replica id here moved.homes
      (own command here (subst (λ n. IsInPlaceOf fixed world n front.replica id here) e
      (subst (λ (f : Front). IsInPlaceOf fixed world node f.replica id here) one is))))))
      (λ (ne : node ≢ to).
      let same : was ≡ now = just_front (sym before ∙ (sym (moved.fronts node ne) ∙ after)) in
      subst (λ (f : Front). IsInPlaceOf fixed next node f.replica id here) same
      (moves_with fixed (taken_from_link world from to) next node was.replica id here moved.homes (others node was.replica command here ne is)))
      (same_name_or node to)

  -- what the frontend does is that alone
  keeps_by : (replica : Replica) (ups : Ups) → deliver front from message ≡ still (record front { replica = replica; ups = ups })
      → ((conn : ℕ) → StaysInPlace fixed conn world (with_replica replica ups))
      → KeepsOn config law.story law.stops heard (taken_by config heard world law from message to)
  keeps_by replica ups does stays =
      let is : taken_by config heard world law from message to ≡ with_replica replica ups =
      front_all_come (taken_from_link world from to) to (From from message) front there ∙ ap (with_front (taken_from_link world from to) to) does in
      subst (λ w. KeepsOn config law.story law.stops heard w) (sym is)
      (replica_keeps replica ups stays (subst (λ w. ManyHold (murder_of w law.master) law.given law.story.course.store) is taken.many)
      (subst (λ w. FeedsHold config w law.master) is taken.feeds))

-- ---- a line of the master that is no OK

hears_news : (front : Front) (from bytes : List ℕ) → from ≡ front.master → barrier_answered bytes ≡ None
    → deliver front from (Line bytes) ≡ still (hearing front bytes)
unfolding deliver line_from
hears_news front from bytes e none =
    let same : pointwise nat_eq from front.master ≡ true = ap (pointwise nat_eq from) (sym e) ∙ nat_list_eq_equiv.refl from in
    ap (λ b. line_from b front bytes) same ∙ ap (line_by front bytes) none

-- THE MASTER'S NEWS KEEP THE LAW
pub news_stand : (config : Config) (heard : ℕ → Heard) (world : World) (law : KeepsLaw config heard world) (to : List ℕ) (front : Front) (bytes : List ℕ)
    → front_at world to ≡ Some front → IsTakenBy config heard world law (master_of config) (Line bytes) to → barrier_answered bytes ≡ None
    → KeepsOn config law.story law.stops heard (taken_by config heard world law (master_of config) (Line bytes) to)
news_stand config heard world law to front bytes there taken none =
    let me : List ℕ = master_of config in
    let frontend = frontend_of config heard world law to front there in
    let replica : Replica = hears front.replica (Line bytes) in
    keeps_by config heard world law me to front (Line bytes) there taken replica front.ups
    (hears_news front me bytes (sym ((law.nodes).fronts to front there).master_is) none)
    (λ conn. stays_by config heard world law me to front (Line bytes) there taken replica front.ups conn
    (λ command here is. takes_news me (home_at world) world.links to bytes taken.rest front.replica (record { conn = conn; command = command }) here frontend
    taken.first none is)
    (λ node other command here ne is. news_leave_others me (home_at world) world.links to bytes taken.rest node other
    (record { conn = conn; command = command }) here frontend taken.first none ne is))

-- ---- what changes nothing

not_line : (front : Front) (bytes : List ℕ) (same : Bool) → same ≡ false → line_from same front bytes ≡ still front
unfolding line_from
not_line front bytes false e = refl
not_line front bytes true e = cc

-- one that tells of no link
abbrev pub IsIgnored : List ℕ → List ℕ → LinkMsg → Type 0
IsIgnored master from (Ask ask) = Unit {0}
IsIgnored master from (Line bytes) = from ≢ master
IsIgnored master from message = ⊥

ignored_idle : (master from : List ℕ) (message : LinkMsg) → IsIgnored master from message → IsIdle master from message
ignored_idle master from Up is = absurd is
ignored_idle master from End is = absurd is
ignored_idle master from (Ask ask) is = tt
ignored_idle master from (Line bytes) is = is
ignored_idle master from (Answer answer) is = absurd is

pub idles : (front : Front) (from : List ℕ) (message : LinkMsg) → from ≢ front.master → IsIgnored front.master from message → deliver front from message ≡ still front
unfolding deliver
idles front from Up ne idle = absurd idle
idles front from End ne idle = absurd idle
idles front from (Ask ask) ne idle = refl
idles front from (Line bytes) ne idle = not_line front bytes (pointwise nat_eq from front.master) (other_name from front.master ne)
idles front from (Answer answer) ne idle = absurd idle

-- ANY OTHER MESSAGE OF ANOTHER NODE KEEPS THE LAW
pub idle_stands : (config : Config) (heard : ℕ → Heard) (world : World) (law : KeepsLaw config heard world) (from to : List ℕ) (front : Front)
    (message : LinkMsg) → front_at world to ≡ Some front → IsTakenBy config heard world law from message to → from ≢ master_of config
    → IsIgnored (master_of config) from message → KeepsOn config law.story law.stops heard (taken_by config heard world law from message to)
idle_stands config heard world law from to front message there taken ne idle =
    let me : List ℕ = master_of config in
    let frontend = frontend_of config heard world law to front there in
    let master_is : front.master ≡ me = ((law.nodes).fronts to front there).master_is in
    let all = λ (conn : ℕ). idle_leaves_all me (home_at world) world.links from to message taken.rest conn frontend taken.first
    (ignored_idle me from message idle) in
    keeps_by config heard world law from to front message there taken front.replica front.ups
    (idles front from message (λ e. ne (e ∙ master_is)) (subst (λ m. IsIgnored m from message) (sym master_is) idle))
    (λ conn. stays_by config heard world law from to front message there taken front.replica front.ups conn
    (λ command here is. (all conn).in_place to front.replica command here is)
    (λ node other command here apart is. (all conn).in_place node other command here is))

-- ---- what tells of a link

-- A MESSAGE OF ANOTHER NODE THAT CHANGES ALONE TO WHOM THE LINKS ARE UP KEEPS THE LAW
pub relinked_stands : (config : Config) (heard : ℕ → Heard) (world : World) (law : KeepsLaw config heard world) (from to : List ℕ) (front : Front)
    (message : LinkMsg) (there : front_at world to ≡ Some front) (taken : IsTakenBy config heard world law from message to) (ups : Ups)
    → from ≢ master_of config → is_up ups (master_of config) ≡ is_up front.ups (master_of config) → IsIdle (master_of config) from message
    → KeepsOn config law.story law.stops heard (with_replica config heard world law from to front message there taken front.replica ups)
unfolding carry_all
relinked_stands config heard world law from to front message there taken ups ne same idle =
    let me : List ℕ = master_of config in
    let base : World = taken_from_link world from to in
    let later : Front = record front { ups = ups } in
    let next : World = with_front base to (still later) in
    let frontend = frontend_of config heard world law to front there in
    let all = λ (conn : ℕ). idle_leaves_all me (home_at world) world.links from to message taken.rest conn frontend taken.first idle in
    let store : Store = law.story.course.store in
    let nodes : AreNodesOf config base law.master = same_nodes config world base law.master refl law.nodes in
    let many : ManyHold (murder_of base law.master) law.given store =
    passing_many config world law.master law.given store law.nodes law.many from to
    (inr (front_is_one config world law.master law.given store law.nodes law.many to front there)) in
    let feeds : FeedsHold config base law.master =
    still_feeds config world law.master law.nodes law.feeds base (λ server. refl)
    (λ any f at. still_fed config world law.master law.nodes law.feeds base any f at
    (taken_else world.links from to any me (inr (λ e. frontend.no_master (sym e))))
    (taken_else world.links from to me any (inl (λ e. ne (sym e)))) refl (λ server. refl)) in
    let step = front_moved base to front (still later) there in
    replica_keeps config heard world law from to front message there taken front.replica ups
    (λ conn. stays_by config heard world law from to front message there taken front.replica ups conn
    (λ command here is. (all conn).in_place to front.replica command here is)
    (λ node other command here apart is. (all conn).in_place node other command here is))
    (front_keeps_many config base law.master law.given store nodes many to front (still later) there)
    (feeds_alike config base next law.master step.homes refl refl (fronts_were base next to front later there step (ap (λ b. (front.replica, b)) same)) feeds)
