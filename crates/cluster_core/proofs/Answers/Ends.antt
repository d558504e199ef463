-- A frontend is told that its link with a backend came up, or has ended. Nothing is sent to other nodes. Where it has ended, each connection whose command waits
-- for an answer of that backend ends, and its client is told that the server is lost; all others stay.
use Rattle.std.proofs.Common.{◌≡◌, ◌≢◌, ℕ, nat_eq, Bool, true, false, cond, if◌then◌else◌, List, [], ◌∷◌, ◌++◌, Option, None, Some, refl, sym, ◌∙◌, ap, subst, append_assoc, arith}
use Rattle.std.proofs.Math.Logic.{⊎_elim}
use Rattle.std.proofs.lemmas.Bool.{cases_eq}
use Rattle.std.proofs.lemmas.Bool.Decides.{nat_tests}
use Rattle.std.specs.BTreeMap.{is_at}
use Rattle.std.specs.List.{AllByRecursion}
use Rattle.std.specs.Map.{keys_of, set_value}
use Rattle.std.specs.Ordering.{nat_cmp}
use Rattle.std.specs.Cmp.Lexicographic.{pointwise, same_text, slice_cmp}
use Rattle.asking_core.specs.declared.waiting.At.{At}
use Rattle.asking_core.specs.declared.waiting.At.TheVariants.{Home, Barrier as at_master}
use Rattle.asking_core.specs.declared.waiting.Waiting.{Waiting as WaitingFor}
use Rattle.feed_core.specs.declared.replica.Replica.{Replica}
use Rattle.feed_links.proofs.FeedLaw.{both}
use Rattle.feed_links.proofs.Names.{other_name}
use Rattle.front_core.proofs.AskOrder.{AsksNone, none_stay}
use Rattle.front_core.proofs.OneConnection.Readings.{inputs_in}
use Rattle.front_core.proofs.UpsLaws.{others_coming, others_going}
use Rattle.front_core.specs.Answered.{end_by, end_comes, ends_at}
use Rattle.front_core.specs.Ended.{released}
use Rattle.front_core.specs.Front.{Stepped, all_end, awaited, behind_them, connection_at, deliver, end_at, end_if, one_ends, still, up_from, with_turned, with_up, without_up, ways_of}
use Rattle.front_core.specs.Stages.{awaits, waits_at}
use Rattle.front_core.specs.Taken.{Turned, says_bye}
use Rattle.front_core.specs.Ups.{going_down, coming_up}
use Rattle.front_core.specs.declared.connection.Connection.{Connection}
use Rattle.front_core.specs.declared.connection.Stage.{Stage}
use Rattle.front_core.specs.declared.connection.Stage.TheVariants.{Reading, Waits, Lists as lists_names, Ended}
use Rattle.front_core.specs.declared.front.Front.{Front}
use Rattle.imap_reply.specs.ByeLine.{bye_line}
use Rattle.imap_reply.specs.Greeting.{greeting}
use Rattle.imap_talk.specs.Heard.{Heard, client}
use Rattle.imap_talk.specs.Inputs.{requests_in}
use Rattle.imap_talk.specs.Transcript.{Stop, replies_till, replies_to}
use Rattle.imap_talk.specs.Transcript.Stop.{is_lost}
use Rattle.imap_talk.proofs.TranscriptGrows.{lost_told}
use Rattle.imap_talk.specs.declared.inputs.Input.{Input}
use Rattle.imap_types.specs.declared.command.Tag.{Tag}
use Rattle.imap_types.specs.declared.reply.Bye.TheVariants.{Lost}
use Rattle.imap_types.specs.declared.request.Answer.{Answer}
use Rattle.imap_wire.specs.Frames.{begun}
use Rattle.link_msg.specs.declared.message.LinkMsg.TheVariants.{Up, End}
use Rattle.mark_history.specs.Marked.{Tale, talk_told}
use Rattle.mur_base.specs.Map.{with_value}
use Rattle.mur_base.proofs.MapLaws.{numbers_apart, value_at-with_value, value_at-with_value-other}
use Rattle.mur_config.specs.declared.config.Config.{Config}
use Rattle.mur_model.specs.declared.session.Sess.{Sess}
use Rattle.mur_model.proofs.HistoryGrows.{same_talk, talks_follow}
use Rattle.node_step.specs.declared.input.NodeInput.TheVariants.{From}
use Rattle.node_step.specs.declared.node.NodeState.{NodeState}
use Rattle.node_step.specs.declared.node.NodeState.TheVariants as state
use Rattle.node_step.proofs.NodeKinds.{front_is}
use Rattle.cluster_core.specs.declared.world.Client.{Client}
use Rattle.cluster_core.specs.declared.world.World.{World}
use Rattle.cluster_core.specs.World.{carry_all, client_at, front_at, master_of, node_at, setting_of, taken_from_link}
use Rattle.std.proofs.lemmas.Option.{same_Some}
use Rattle.cluster_core.proofs.Commands.Place.{Place, Place as place}
use Rattle.cluster_core.proofs.Commands.Released.{released_count, stands_last}
use Rattle.cluster_core.proofs.Commands.Standing.{Fixed, IsLeft, Stands, Waiting, next_id}
use Rattle.cluster_core.proofs.Commands.Standing.IsLeft.{left_waiting}
use Rattle.cluster_core.proofs.Commands.Standing.Stands.{reads, waits, lists, faulted, finished}
use Rattle.cluster_core.proofs.Connections.ConnectionLaw.{IsInPlaceOf, IsMade, IsMarkedAt, IsStanding, client_with, same_story, says_then}
use Rattle.cluster_core.proofs.Connections.KeepsFront.{carry_all_nodes, front_keeps, gone_then, having_nodes, is_at_after, same_clients, same_links, turned_so, with_connection, world_after}
use Rattle.cluster_core.proofs.Connections.KeepsHang.{left_behind}
use Rattle.cluster_core.proofs.Connections.KeepsLaw.{ConnectionIs, IsAt, IsGone, KeepsLaw, KeepsOn, fixed_of}
use Rattle.cluster_core.proofs.Connections.KeepsLaw.ConnectionIs.{is_nobody, is_elsewhere, is_open, is_cut_off, is_closed}
use Rattle.cluster_core.proofs.Connections.KeepsStill.{put_kept}
use Rattle.cluster_core.proofs.Connections.Said.{carry_all-append, end_carried, given_keeps, given_world}
use Rattle.cluster_core.proofs.Connections.Stays.{is_not_closed}
use Rattle.cluster_core.proofs.Connections.StillFed.{feeds_alike, fronts_were}
use Rattle.cluster_core.proofs.Feeds.Many.{front_keeps_many}
use Rattle.cluster_core.proofs.Nodes.AllCome.{front_all_come}
use Rattle.cluster_core.proofs.Nodes.Carried.{is_made}
use Rattle.cluster_core.proofs.Nodes.Comes.{front_moved, with_front}
use Rattle.cluster_core.proofs.Answers.ClosedSteps.{ended_released, left_by as left_nowhere}
use Rattle.cluster_core.proofs.Answers.Keeps.{IsTakenBy, taken_by}
use Rattle.cluster_core.proofs.Answers.OtherMessages.{relinked_stands}

-- the connections of a frontend are those of clients that are connected there
abbrev pub OwnsClients : World → List ℕ → Front → Type 0
OwnsClients world node front = (conn : ℕ) (connection : Connection) → connection_at front conn ≡ Some connection
    → (client : Client) × (client_at world conn ≡ Some client) × (client.at ≡ node)

-- ---- one world behind another

-- the law is kept by one step and then by another
pub kept_then : (config : Config) (heard : ℕ → Heard) (before : Tale) (stopped : ℕ → Stop) (one two : World) (first : KeepsOn config before stopped heard one)
    → KeepsOn config (first.law).story (first.law).stops heard two → KeepsOn config before stopped heard two
kept_then config heard before stopped one two first second = record {
  law = second.law;
  more = talks_follow (talk_told before) (talk_told (first.law).story) (talk_told (second.law).story) first.more second.more;
  grows = says_then before (first.law).story (second.law).story first.grows second.grows;
  closed = λ conn shut. ((second.closed conn shut).0 ∙ (first.closed conn shut).0, (second.closed conn shut).1 ∙ (first.closed conn shut).1);
}

twice_by : {K X : Type 0} (test : K → Bool) (e : K × X) (es : List (K × X)) (v w : X) (b : Bool) → test e.0 ≡ b
    → set_value test (set_value test es v) w ≡ set_value test es w
    → set_value test (cond b ((e.0, v) ∷ es) (e ∷ set_value test es v)) w ≡ cond b ((e.0, w) ∷ es) (e ∷ set_value test es w)
twice_by test e es v w true h more = rw h refl
twice_by test e es v w false h more = rw h (ap (λ l. e ∷ l) more)

set_twice : {K X : Type 0} (test : K → Bool) (es : List (K × X)) (v w : X) → set_value test (set_value test es v) w ≡ set_value test es w
set_twice test [] v w = refl
set_twice test (e ∷ es) v w = twice_by test e es v w (test e.0) refl (set_twice test es v w)

-- a frontend's two steps are one that lets out what both do
pub front_twice : (world : World) (node : List ℕ) (one two : Stepped)
    → with_front (with_front world node one) node two ≡ with_front world node (behind_them one.outs two)
front_twice world node one two =
    let set : NodeState → List (List ℕ × NodeState) = λ it. with_value (slice_cmp nat_cmp) world.nodes node it in
    let first : World = carry_all node world one.outs in
    let put : with_front world node one ≡ having_nodes first (set (state.Front one.front)) = carry_all_nodes node world (set (state.Front one.front)) one.outs in
    ap (λ w. with_front w node two) put
    ∙ ap (λ n. carry_all node (having_nodes first n) two.outs)
    (set_twice (is_at (slice_cmp nat_cmp node)) world.nodes (state.Front one.front) (state.Front two.front))
    ∙ carry_all_nodes node first (set (state.Front two.front)) two.outs
    ∙ ap (λ w. having_nodes w (set (state.Front two.front))) (sym (carry_all-append node world one.outs two.outs))
    ∙ sym (carry_all_nodes node world (set (state.Front two.front)) (one.outs ++ two.outs))

-- ---- for whom a command waits

record WaitsFrom (stage : Stage) (from : List ℕ) : Type 0 where
  tag : Tag
  it : WaitingFor
  stage_is : stage ≡ Waits tag it
  at : it.at ≡ Home from

not_itself : (master from : List ℕ) → from ≢ master → pointwise nat_eq master from ≡ true → ⊥
not_itself master from ne e = ne (sym (same_text master from (sym e)))

waits_home : (master from : List ℕ) (at : At) → from ≢ master → waits_at master at from ≡ true → at ≡ Home from
waits_home master from (Home server) ne e = ap Home (same_text server from (sym e))
waits_home master from (at_master why) ne e = absurd (not_itself master from ne e)

waits_from : (master from : List ℕ) (stage : Stage) → from ≢ master → awaits master stage from ≡ true → WaitsFrom stage from
unfolding awaits
waits_from master from Reading ne e = cc
waits_from master from (Waits tag it) ne e = record { tag = tag; it = it; stage_is = refl; at = waits_home master from it.at ne e }
waits_from master from (lists_names tag it) ne e = absurd (not_itself master from ne e)
waits_from master from Ended ne e = cc

-- its client is told that the server is lost
says_lost : (front : Front) (conn : ℕ) (connection : Connection) (from : List ℕ) → WaitsFrom connection.stage from
    → end_comes front.setting (ways_of front) conn connection ≡ says_bye conn connection Lost
unfolding end_by
says_lost front conn connection from is =
    ap (end_by front.setting (ways_of front) conn connection) is.stage_is
    ∙ ap (ends_at front.setting (ways_of front) conn connection is.tag is.it) is.at

ends_found : (front : Front) (conn : ℕ) (c : Connection)
    → end_at front conn (Some c) ≡ with_turned front conn (end_comes front.setting (ways_of front) conn c)
unfolding end_at
ends_found front conn c = refl

some_awaits : (master : List ℕ) (c : Connection) (from : List ℕ) → awaited master (Some c) from ≡ awaits master c.stage from
unfolding awaited
some_awaits master c from = refl

none_awaits : (master from : List ℕ) → awaited master None from ≡ true → ⊥
unfolding awaited
none_awaits master from e = cc

-- ---- THE NEWS THAT A LINK CAME UP KEEPS THE LAW

pub up_stands : (config : Config) (heard : ℕ → Heard) (world : World) (law : KeepsLaw config heard world) (from to : List ℕ) (front : Front)
    → front_at world to ≡ Some front → IsTakenBy config heard world law from Up to → from ≢ master_of config
    → KeepsOn config law.story law.stops heard (taken_by config heard world law from Up to)
unfolding deliver up_from
up_stands config heard world law from to front there taken ne =
    let master_is : front.master ≡ master_of config = ((law.nodes).fronts to front there).master_is in
    let other : pointwise nat_eq from front.master ≡ false = other_name from front.master (λ e. ne (e ∙ master_is)) in
    let does : deliver front from Up ≡ still (with_up front from) = ap (λ b. up_from b (with_up front from)) other in
    let is : taken_by config heard world law from Up to ≡ with_front (taken_from_link world from to) to (still (with_up front from)) =
    front_all_come (taken_from_link world from to) to (From from Up) front there ∙ ap (with_front (taken_from_link world from to) to) does in
    subst (λ w. KeepsOn config law.story law.stops heard w) (sym is)
    (relinked_stands config heard world law from to front Up there taken (coming_up front.ups from) ne
    (others_coming front.ups from (master_of config) (λ e. ne (sym e))) tt)

-- ---- one connection ends

-- where what each client is given stops then
abbrev stops_then : (ℕ → Stop) → ℕ → ℕ → Stop
stops_then stops conn other = if nat_eq other conn then is_lost else stops other

stops_here : (stops : ℕ → Stop) (conn : ℕ) → stops_then stops conn conn ≡ is_lost
stops_here stops conn = let same : nat_eq conn conn ≡ true = grind (arith, nat_tests) in rw same refl

stops_else : (stops : ℕ → Stop) (conn other : ℕ) → other ≢ conn → stops_then stops conn other ≡ stops other
stops_else stops conn other ne = let apart : nat_eq other conn ≡ false = grind (arith, nat_tests) in rw apart refl

-- its command waits
its_waiting : (fixed : Fixed) (front : List ℕ) (conn : ℕ) (inputs : List Input) (held : Option (List ℕ)) (connection : Connection)
    (told said : List Answer) (session : Sess) (here : Place) (tag : Tag) (it : WaitingFor) → connection.stage ≡ Waits tag it
    → Stands fixed front conn inputs held connection told said session here → Waiting fixed front conn inputs held connection told said session here
its_waiting fixed front conn inputs held connection told said session here tag it e (reads stage none s lasts answered same at) =
    absurd (let no : Reading ≡ Waits tag it = sym stage ∙ e in cc)
its_waiting fixed front conn inputs held connection told said session here tag it e (waits waiting) = waiting
its_waiting fixed front conn inputs held connection told said session here tag it e (lists waiting) =
    absurd (let no : lists_names waiting.tag waiting.listing ≡ Waits tag it = sym waiting.stage ∙ e in cc)
its_waiting fixed front conn inputs held connection told said session here tag it e (faulted stage none lengths same lasts at) =
    absurd (let no : Ended ≡ Waits tag it = sym stage ∙ e in cc)
its_waiting fixed front conn inputs held connection told said session here tag it e
    (finished passed more request before final stage parts answered is_told is_end same at) =
    absurd (let no : Ended ≡ Waits tag it = sym stage ∙ e in cc)

-- what it leaves, and where: nothing, if it was dropped with the link
record IsLeftAt (fixed : Fixed) (front : List ℕ) (replica : Replica) (conn : ℕ) (inputs : List Input) (world : World) (story : Tale) : Type 0 where
  here : Place
  placed : IsInPlaceOf fixed world front replica (next_id conn (story.told conn)) here
  marked : IsMarkedAt story.talk.moving world.marks (next_id conn (story.told conn)) here
  left : IsLeft fixed front conn (requests_in inputs) (story.told conn) (story.talk.answers conn) (story.course.sessions conn) here

module _ (fixed : Fixed) (front : List ℕ) (replica : Replica) (conn : ℕ) (inputs : List Input) (held : Option (List ℕ)) (connection : Connection)
    (world : World) (story : Tale) where
  abbrev IsWaiting : Place → Type 0
  IsWaiting here = Waiting fixed front conn inputs held connection (story.told conn) (story.talk.answers conn) (story.course.sessions conn) here

  left_there : (here : Place) → IsWaiting here → IsInPlaceOf fixed world front replica (next_id conn (story.told conn)) here
      → IsMarkedAt story.talk.moving world.marks (next_id conn (story.told conn)) here → IsLeftAt fixed front replica conn inputs world story
  left_there here waiting placed marked = record {
    here = here;
    placed = placed;
    marked = marked;
    left = left_waiting (left_behind fixed front conn inputs held connection (story.told conn) (story.talk.answers conn) (story.course.sessions conn) here
        waiting);
  }

  left_at : (here : Place) → IsWaiting here → IsInPlaceOf fixed world front replica (next_id conn (story.told conn)) here
      → IsMarkedAt story.talk.moving world.marks (next_id conn (story.told conn)) here → IsLeftAt fixed front replica conn inputs world story
  left_at (place.is_dropped server) waiting placed marked = record {
    here = place.nowhere;
    placed = record { message = placed.message; shows = placed.shows; barrier = placed.barrier; there = tt };
    marked = tt;
    left = left_nowhere fixed front conn (requests_in inputs) (story.told conn) (story.talk.answers conn) (story.course.sessions conn) waiting.c waiting.tag
        (place.is_dropped server) waiting.knows;
  }
  left_at here waiting placed marked = left_there here waiting placed marked

module _ (config : Config) (heard : ℕ → Heard) (world : World) (law : KeepsLaw config heard world) (from to : List ℕ) (front : Front)
    (there : front_at world to ≡ Some front) (cut : world.broken ≢ []) (conn : ℕ) (connection : Connection)
    (has : connection_at front conn ≡ Some connection) (is : WaitsFrom connection.stage from) where
  abbrev fixed : Fixed
  fixed = fixed_of config

  abbrev turned : Turned
  turned = says_bye conn connection Lost

  abbrev later : Connection
  later = released turned.connection

  abbrev text : List ℕ
  text = bye_line Lost

  abbrev next : World
  next = world_after world to front conn later turned.outs

  bye_keeps : (bytes : List ℕ) → heard conn ≡ client bytes false
      → IsStanding fixed to front.replica conn (inputs_in (setting_of config) bytes) (begun bytes) connection world law.story
      → KeepsOn config law.story law.stops heard (with_front world to (with_turned front conn turned))
  bye_keeps bytes e standing =
      let story = law.story in
      let told : List Answer = story.told conn in
      let inputs : List Input = inputs_in (setting_of config) bytes in
      let was : Client = client_with to inputs told in
      let given : World = given_world world conn was text in
      let carried : carry_all to world turned.outs ≡ given = end_carried to world conn was text standing.client in
      let waiting = its_waiting fixed to conn inputs (begun bytes) connection told (story.talk.answers conn) (story.course.sessions conn) standing.here is.tag is.it
      is.stage_is standing.stands in
      let left = left_at fixed to front.replica conn inputs (begun bytes) connection world story standing.here waiting standing.placed standing.marked in
      let lost : replies_till is_lost inputs told ≡ replies_to inputs told ++ text =
      ap (λ f. replies_till is_lost f told) waiting.parts
      ∙ lost_told waiting.passed told waiting.request connection.waiting waiting.answered
      ∙ ap (λ f. replies_to f told ++ text) (sym waiting.parts) in
      let gone : IsGone fixed to front.replica conn inputs is_lost later (carry_all to world turned.outs) story =
      subst (λ w. IsGone fixed to front.replica conn inputs is_lost later w story) (sym carried)
      (record {
        stage_is = ended_released turned.connection refl;
        count = released_count turned.connection ∙ standing.count;
        lasts = stands_last fixed to conn inputs (begun bytes) connection told (story.talk.answers conn) (story.course.sessions conn) standing.here
            standing.stands;
        client = value_at-with_value nat_cmp numbers_apart world.clients conn (record was { given = was.given ++ text }) was standing.client
            ∙ ap (λ g. Some (record { at = to; given = g })) (append_assoc greeting (replies_to inputs told) text ∙ ap (λ t. greeting ++ t) (sym lost));
        here = left.here;
        placed = left.placed;
        marked = left.marked;
        left = left.left;
        cut = λ is_so. cut;
      }) in
      let made : IsMade fixed conn world story (carry_all to world turned.outs) story =
      subst (λ w. IsMade fixed conn world story w story) (sym carried)
      (record { others = given_keeps fixed world conn was text; goes_on = same_story conn story; store = refl; is_told = law.is_told }) in
      let moved = front_moved world to front (turned_so front conn later turned.outs) there in
      let links : next.links ≡ world.links = same_links world to front conn later turned.outs ∙ ap (λ (w : World). w.links) carried in
      let mine : ConnectionIs fixed conn next story is_lost (client bytes false) =
      is_cut_off bytes to (with_connection front conn later) later (is_at_after world to front conn connection later turned.outs there has)
      (gone_then fixed world to front conn later turned.outs inputs is_lost front.replica story there (ap (λ (w : World). w.nodes) carried) gone)
      (record { passed = waiting.passed; request = waiting.request; more = connection.waiting; parts = waiting.parts; answered = waiting.answered }) in
      front_keeps config heard heard world law world.links conn to front connection later turned.outs story story (stops_then law.stops conn)
      (λ other ne. stops_else law.stops conn other ne) (λ other ne. record { in_place = λ f r c h i. i; in_none = λ i. i })
      there has (same_talk (talk_told story)) refl refl refl refl law.requests (λ other ne. refl) (λ shut. absurd (is_not_closed (heard conn) bytes e shut)) made
      (front_keeps_many config world law.master law.given story.course.store law.nodes law.many to front (turned_so front conn later turned.outs) there)
      (feeds_alike config world next law.master moved.homes links (is_made world to (state.Front (with_connection front conn later)) turned.outs).broken
      (fronts_were world next to front (with_connection front conn later) there moved refl) law.feeds)
      (subst (λ t. ConnectionIs fixed conn next story t (heard conn)) (sym (stops_here law.stops conn))
      (subst (λ h. ConnectionIs fixed conn next story is_lost h) (sym e) mine))

  -- it is that of an open connection
  stage_over : connection.stage ≡ Ended → ⊥
  stage_over ended = (let no : Ended ≡ Waits is.tag is.it = sym ended ∙ is.stage_is in cc)

  module _ (owns : OwnsClients world to front) where
    its_node : (node : List ℕ) (known : Client) → client_at world conn ≡ Some known → known.at ≡ node → node ≡ to
    its_node node known at known_at =
        let own = owns conn connection has in
        let same : known ≡ own.0 = same_Some known own.0 (sym at ∙ own.1) in
        sym known_at ∙ ap (λ (c : Client). c.at) same ∙ own.2

    -- the frontend and the connection of which the law tells
    record IsThis (node : List ℕ) (its : Front) (c : Connection) : Type 0 where
      node_is : node ≡ to
      front_is : its ≡ front
      connection_is : c ≡ connection

    this_one : (node : List ℕ) (its : Front) (c : Connection) → IsAt world conn node its c → node ≡ to → IsThis node its c
    this_one node its c at e =
        let same : its ≡ front = same_Some its front (sym at.at ∙ (ap (front_at world) e ∙ there)) in
        record {
          node_is = e;
          front_is = same;
          connection_is = same_Some c connection (sym at.has ∙ (ap (λ (f : Front). connection_at f conn) same ∙ has));
        }

    open_by : (stop : Stop) (was : Heard) → heard conn ≡ was → ConnectionIs fixed conn world law.story stop was
        → KeepsOn config law.story law.stops heard (with_front world to (with_turned front conn turned))
    open_by stop was e (is_nobody none fronts untold) =
        absurd (let own = owns conn connection has in let no : Some own.0 ≡ None = sym own.1 ∙ none in cc)
    open_by stop was e (is_elsewhere node given at none untold) =
        absurd (let same : node ≡ to = its_node node _ at refl in let no : Some front ≡ None = sym there ∙ (ap (front_at world) (sym same) ∙ none) in cc)
    open_by stop was e (is_open bytes node its c at reader standing) =
        let this = this_one node its c at (its_node node _ standing.client refl) in
        let inputs : List Input = inputs_in (setting_of config) bytes in
        bye_keeps bytes e
        (subst (λ x. IsStanding fixed to front.replica conn inputs (begun bytes) x world law.story) this.connection_is
        (subst (λ (f : Front). IsStanding fixed to f.replica conn inputs (begun bytes) c world law.story) this.front_is
        (subst (λ n. IsStanding fixed n its.replica conn inputs (begun bytes) c world law.story) this.node_is standing)))
    open_by stop was e (is_cut_off bytes node its c at gone next_is) =
        let this = this_one node its c at (its_node node _ gone.client refl) in
        absurd (stage_over (ap (λ (x : Connection). x.stage) (sym this.connection_is) ∙ gone.stage_is))
    open_by stop was e (is_closed shut bytes node its c at gone) =
        let this = this_one node its c at (its_node node _ gone.client refl) in
        absurd (stage_over (ap (λ (x : Connection). x.stage) (sym this.connection_is) ∙ gone.stage_is))

    -- clients are where they were
    abbrev own : (client : Client) × (client_at world conn ≡ Some client) × (client.at ≡ to)
    own = owns conn connection has

    abbrev given : Client
    given = record own.0 { given = (own.0).given ++ text }

    abbrev Owned : ℕ → Type 0
    Owned other = (client : Client) × (client_at next other ≡ Some client) × (client.at ≡ to)

    carried_so : carry_all to world turned.outs ≡ given_world world conn own.0 text
    carried_so = end_carried to world conn own.0 text own.1

    own_here : Owned conn
    own_here = (
      given,
      same_clients world to front conn later turned.outs conn ∙ ap (λ w. client_at w conn) carried_so
          ∙ value_at-with_value nat_cmp numbers_apart world.clients conn given own.0 own.1,
      own.2,
    )

    own_else : (other : ℕ) (c : Connection) → other ≢ conn → connection_at (with_turned front conn turned).front other ≡ Some c → Owned other
    own_else other c apart at =
        let its = owns other c (sym (value_at-with_value-other nat_cmp numbers_apart front.connections conn other later apart) ∙ at) in (
          its.0,
          same_clients world to front conn later turned.outs other ∙ ap (λ w. client_at w other) carried_so
              ∙ value_at-with_value-other nat_cmp numbers_apart world.clients conn other given apart ∙ its.1,
          its.2,
        )

    bye_owns : OwnsClients (with_front world to (with_turned front conn turned)) to (with_turned front conn turned).front
    bye_owns other c at = ⊎_elim
        (λ (same : other ≡ conn). subst Owned (sym same) own_here)
        (λ (apart : other ≢ conn). own_else other c apart at)
        (cases_eq other conn)

-- ---- and all that wait, one after another

module _ (config : Config) (heard : ℕ → Heard) (from to : List ℕ) (ne : from ≢ master_of config) where
  -- a step of the frontend in which some end
  record EndsSome (world : World) (law : KeepsLaw config heard world) (next : Stepped) : Type 0 where
    keeps : KeepsOn config law.story law.stops heard (with_front world to next)
    quiet : AllByRecursion AsksNone next.outs
    master_is : next.front.master ≡ master_of config
    owns : OwnsClients (with_front world to next) to next.front

  module _ (world : World) (law : KeepsLaw config heard world) (front : Front) (there : front_at world to ≡ Some front)
      (master_is : front.master ≡ master_of config) (owns : OwnsClients world to front) where
    none_ends : EndsSome world law (still front)
    unfolding carry_all
    none_ends = record {
      keeps = put_kept config heard heard world to (state.Front front) (front_is (node_at world to) front there) (λ other. refl) law;
      quiet = tt;
      master_is = master_is;
      owns = owns;
    }

    module _ (cut : world.broken ≢ []) (conn : ℕ) where
      bye_some : (c : Connection) → connection_at front conn ≡ Some c → WaitsFrom c.stage from → EndsSome world law (with_turned front conn (says_bye conn c Lost))
      bye_some c has is = record {
        keeps = open_by config heard world law from to front there cut conn c has is owns (law.stops conn) (heard conn) refl (law.connections conn);
        quiet = (refl, (refl, tt));
        master_is = master_is;
        owns = bye_owns config heard world law from to front there cut conn c has is owns;
      }

      waits_ends : (c : Connection) → connection_at front conn ≡ Some c → awaits front.master c.stage from ≡ true
          → EndsSome world law (with_turned front conn (end_comes front.setting (ways_of front) conn c))
      waits_ends c has e =
          let is = waits_from front.master from c.stage (λ same. ne (same ∙ master_is)) e in
          subst (λ (t : Turned). EndsSome world law (with_turned front conn t)) (sym (says_lost front conn c from is)) (bye_some c has is)

      found_ends : (found : Option Connection) → connection_at front conn ≡ found → awaited front.master found from ≡ true
          → EndsSome world law (end_at front conn found)
      found_ends None has e = absurd (none_awaits front.master from e)
      found_ends (Some c) has e =
          subst (λ (s : Stepped). EndsSome world law s) (sym (ends_found front conn c)) (waits_ends c has (sym (some_awaits front.master c from) ∙ e))

      if_ends : (test : Bool) → awaited front.master (connection_at front conn) from ≡ test → EndsSome world law (end_if test front conn)
      if_ends true e = found_ends (connection_at front conn) refl e
      if_ends false e = none_ends

      one_ends_so : EndsSome world law (one_ends front from conn)
      one_ends_so = if_ends (awaited front.master (connection_at front conn) from) refl

  -- behind all of them
  record AllEnded (world : World) (law : KeepsLaw config heard world) (next : Stepped) : Type 0 where
    kept : KeepsOn config law.story law.stops heard (with_front world to next)
    quiet : AllByRecursion AsksNone next.outs

  all_keep : (conns : List ℕ) (world : World) (law : KeepsLaw config heard world) (front : Front) → front_at world to ≡ Some front
      → front.master ≡ master_of config → OwnsClients world to front → world.broken ≢ [] → AllEnded world law (all_end front from conns)
  unfolding all_end
  all_keep [] world law front there master_is owns cut =
      let none = none_ends world law front there master_is owns in record { kept = none.keeps; quiet = none.quiet }
  all_keep (conn ∷ conns) world law front there master_is owns cut =
      let one : Stepped = one_ends front from conn in
      let first = one_ends_so world law front there master_is owns cut conn in
      let behind : World = with_front world to one in
      let rest = all_keep conns behind (first.keeps).law one.front (front_moved world to front one there).own first.master_is first.owns
      (λ none. cut (sym (is_made world to (state.Front one.front) one.outs).broken ∙ none)) in
      record {
        kept = subst (λ w. KeepsOn config law.story law.stops heard w) (front_twice world to one (all_end one.front from conns))
            (kept_then config heard law.story law.stops behind (with_front behind to (all_end one.front from conns)) first.keeps rest.kept);
        quiet = both AsksNone one.outs (all_end one.front from conns).outs first.quiet rest.quiet;
      }

-- THE END OF A LINK WITH A BACKEND KEEPS THE LAW
pub end_stands : (config : Config) (heard : ℕ → Heard) (world : World) (law : KeepsLaw config heard world) (from to : List ℕ) (front : Front)
    → front_at world to ≡ Some front → IsTakenBy config heard world law from End to → from ≢ master_of config
    → OwnsClients world to front → world.broken ≢ []
    → KeepsOn config law.story law.stops heard (taken_by config heard world law from End to)
unfolding deliver carry_all
end_stands config heard world law from to front there taken ne owns cut =
    let base : World = taken_from_link world from to in
    let now : Front = without_up front from in
    let behind : World = with_front base to (still now) in
    let conns : List ℕ = keys_of front.connections in
    let first = relinked_stands config heard world law from to front End there taken (going_down front.ups from) ne
    (others_going front.ups from (master_of config) (λ e. ne (sym e))) tt in
    let rest = all_keep config heard from to ne conns behind first.law now (front_moved base to front (still now) there).own
    ((law.nodes).fronts to front there).master_is owns cut in
    subst (λ w. KeepsOn config law.story law.stops heard w)
    (front_twice base to (still now) (all_end now from conns)
    ∙ ap (λ outs. with_front base to (record { front = (all_end now from conns).front; outs = outs })) (sym (none_stay (all_end now from conns).outs rest.quiet))
    ∙ sym (front_all_come base to (From from End) front there))
    (kept_then config heard law.story law.stops behind (with_front behind to (all_end now from conns)) first rest.kept)
