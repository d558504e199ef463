-- A frontend's step leaves no connection waiting for an OK of the master that is on its way, but one that waited for it before.
use Rattle.std.proofs.Common.{◌≡◌, ◌≢◌, ℕ, ◌+◌, ◌≤◌, Bool, true, false, cond, List, [], ◌∷◌, drop, filter, is_some, length, Option, None, Some, inl, inr, refl, sym, ◌∙◌, ap, subst, arith}
use Rattle.ask_routes.proofs.BarrierLaw.{ok_tells_its_command}
use Rattle.asking_core.specs.declared.waiting.At.{At}
use Rattle.asking_core.specs.declared.waiting.At.TheVariants.{Home, Barrier}
use Rattle.feed_links.proofs.Names.{same_name}
use Rattle.front_core.proofs.OneConnection.Places.{about_command, is_about, line_on, of_connection, own_about}
use Rattle.front_core.proofs.OneConnection.Readings.{inputs_in}
use Rattle.front_core.specs.Front.{connection_at}
use Rattle.front_core.specs.Stages.{awaits, waits_at}
use Rattle.front_core.specs.declared.connection.Connection.{Connection}
use Rattle.front_core.specs.declared.connection.Stage.TheVariants.{Ended}
use Rattle.front_core.specs.declared.front.Front.{Front}
use Rattle.imap_talk.specs.Heard.{Heard}
use Rattle.imap_talk.specs.Transcript.{Stop}
use Rattle.imap_wire.specs.Frames.{begun}
use Rattle.link_msg.specs.declared.message.LinkMsg.{LinkMsg}
use Rattle.link_msg.specs.declared.message.LinkMsg.TheVariants.{Line, Ask, Answer}
use Rattle.link_queue.proofs.Placed.{Carried, on_this}
use Rattle.link_queue.proofs.Wires.{same_itself, same_names}
use Rattle.link_queue.specs.Links.{on_link, same_link}
use Rattle.mupdate_codec.specs.Asks.{line_ask}
use Rattle.mur_base.specs.declared.point.AskId.{AskId}
use Rattle.mur_config.specs.declared.config.Config.{Config}
use Rattle.name_commands.specs.Places.{IsNumbered}
use Rattle.node_record.specs.Table.{MailboxTable}
use Rattle.node_step.proofs.NodeKinds.{a_front}
use Rattle.node_step.specs.NodeStep.{as_front, takes as node_takes}
use Rattle.node_step.specs.declared.input.NodeInput.{NodeInput}
use Rattle.node_step.specs.declared.node.NodeState.{NodeState}
use Rattle.node_step.specs.declared.node.NodeState.TheVariants as state
use Rattle.route_links.proofs.Tags.{ok_is_read}
use Rattle.route_links.specs.Answered.{ok_line, ok_of}
use Rattle.route_links.specs.Barriers.{Place as BarrierPlace, Place as barrier}
use Rattle.schedule_text.specs.declared.event.Event.{Event}
use Rattle.schedule_text.specs.declared.event.Event.TheVariants.{Deliver, Open}
use Rattle.cluster_core.specs.Headline.OneNode.{OnlyWorks, connected, leaves_on, node_of}
use Rattle.cluster_core.specs.Numbers.{NumbersFit}
use Rattle.cluster_core.specs.World.{client_at, front_at, home_at, master_of, node_at}
use Rattle.cluster_core.specs.declared.world.Client.{Client}
use Rattle.cluster_core.specs.declared.world.World.{World}
use Rattle.cluster_core.proofs.Asking.EndedStays.{front_stays}
use Rattle.cluster_core.proofs.Asking.NodeAsks.{back_other, master_other}
use Rattle.cluster_core.proofs.Asking.StepSends.{StepSends}
use Rattle.cluster_core.proofs.Asking.StepSends.StepSends.{is_away, rests, sends}
use Rattle.cluster_core.proofs.Commands.InPlace.{IsThere}
use Rattle.cluster_core.proofs.Commands.Place.{Place, its_message, Place as place}
use Rattle.cluster_core.proofs.Commands.Standing.{Fixed, Stands, WaitsAt, next_id}
use Rattle.cluster_core.proofs.Commands.Standing.Stands.{faulted, finished, lists, reads, waits}
use Rattle.cluster_core.proofs.Connections.ConnectionLaw.{IsInPlaceOf}
use Rattle.cluster_core.proofs.Connections.KeepsLaw.{ConnectionIs, IsAt, KeepsLaw, fixed_of}
use Rattle.cluster_core.proofs.Connections.KeepsLaw.ConnectionIs.{is_closed, is_cut_off, is_elsewhere, is_nobody, is_open}
use Rattle.cluster_core.proofs.Keeps.Numbers.{asked_fit}
use Rattle.cluster_core.proofs.Points.Found.{IsFoundIn, found_in, in_answer, in_ask, in_line, in_noop, in_ok, in_response}
use Rattle.cluster_core.proofs.Serials.Awaits.{AwaitsMaster, IsBarred, ended_awaits, is_barred_so, it_awaits}
use Rattle.cluster_core.proofs.Serials.Reserved.{IsAmong, among_kept, kept_among}

-- ---- what is found on a link

found_is : (a b : List ℕ) (message : LinkMsg) (found : Option (Carried LinkMsg)) → IsAmong message (on_this a b found)
    → found ≡ Some (record { from = a; to = b; message = message })
found_is a b message None among = absurd among
found_is a b message (Some it) among = by (same_link a b it.from it.to) refl among
  where
    by : (same : Bool) → same_link a b it.from it.to ≡ same → IsAmong message (cond same (it.message ∷ []) [])
        → Some it ≡ Some (record { from = a; to = b; message = message })
    by true h (inl is) =
        let at = same_names a b it.from it.to h in
        ap (λ f. Some (record { from = f; to = it.to; message = it.message })) (sym at.0)
        ∙ ap (λ t. Some (record { from = a; to = t; message = it.message })) (sym at.1)
        ∙ ap (λ m. Some (record { from = a; to = b; message = m })) is
    by true h (inr none) = absurd none
    by false h none = absurd none

-- what is left on a link was there
left_among : (event : Event) (one other : List ℕ) (message : LinkMsg) (queue : List LinkMsg) → IsAmong message (leaves_on event one other queue)
    → IsAmong message queue
left_among (Deliver from to) one other message queue among = by (same_link one other from to) queue among
  where
    by : (same : Bool) (queue : List LinkMsg) → IsAmong message (cond same (drop 1 queue) queue) → IsAmong message queue
    by true [] none = none
    by true (first ∷ rest) later = inr later
    by false queue there = there
left_among event one other message queue among = among

ok_told : (id : AskId) → IsNumbered id → line_ask (ok_line id) ≡ Some id
ok_told id numbered = ok_tells_its_command (ok_line id) id (ok_is_read id numbered)

same_line : {one other : List ℕ} → Line one ≡ Line other → one ≡ other
same_line e = cc

same_id : {one other : AskId} → Some one ≡ Some other → one ≡ other
same_id e = cc

none_carried : (it : Carried LinkMsg) → None ≡ Some it → ⊥
none_carried it e = cc

-- ---- the OK of a command that isn't over is on its way to a frontend

-- its connection waits for it, or has ended
data IsOkOf (master : List ℕ) (world : World) (conn : ℕ) : Type 0 where
  awaits_it : AwaitsMaster master world conn → IsOkOf master world conn
  has_gone : (node : List ℕ) (front : Front) (connection : Connection) → IsAt world conn node front connection → node_of (client_at world conn) ≡ Some node
      → connection.stage ≡ Ended → IsOkOf master world conn

module _ (config : Config) (heard : ℕ → Heard) (world : World) (law : KeepsLaw config heard world) (conn : ℕ) (to : List ℕ) (its : Front)
    (at_front : front_at world to ≡ Some its) (id : AskId) (numbered : IsNumbered id) (own : id.conn ≡ conn)
    (late : length (law.story.told conn) + 1 ≤ id.command) (among : IsAmong (ok_of id) (on_link world.links (master_of config) to)) where
  abbrev fixed : Fixed
  fixed = fixed_of config

  abbrev name : List ℕ
  name = master_of config

  abbrev open_id : AskId
  open_id = next_id conn (law.story.told conn)

  open_numbered : IsNumbered open_id
  open_numbered = (omega (arith, own, numbered.0), omega (arith, late, numbered.1))

  -- it is about the connection, from any number up to its own
  is_its : (first : ℕ) → first ≤ id.command → is_about first (of_connection conn) (ok_of id) ≡ true
  is_its first least =
      own_about first (of_connection conn) (ok_of id) (ap about_command (ok_told id numbered) ∙ ap of_connection own)
      (line_on first (ok_line id) id (ok_told id numbered) least)

  found_at : (first : ℕ) (found : Option (Carried LinkMsg)) → first ≤ id.command
      → ((a b : List ℕ) → filter (is_about first (of_connection conn)) (on_link world.links a b) ≡ on_this a b found)
      → found ≡ Some (record { from = name; to = to; message = ok_of id })
  found_at first found least placed =
      found_is name to (ok_of id) found
      (subst (IsAmong (ok_of id)) (placed name to)
      (among_kept (is_about first (of_connection conn)) (ok_of id) (on_link world.links name to) (is_its first least) among))

  none_there : ((a b : List ℕ) → filter (is_about 0 (of_connection conn)) (on_link world.links a b) ≡ []) → ⊥
  none_there placed =
      none_carried (record { from = name; to = to; message = ok_of id }) (found_at 0 None (omega arith) placed)

  -- its place, and its number
  record IsAtOk (here : Place) : Type 0 where
    table : MailboxTable
    is : here ≡ place.is_barred (barrier.answered table)
    same : id ≡ open_id

  module _ (node : List ℕ) (front : Front) (there_front : front_at world node ≡ Some front) where
    by_found : (here : Place) → IsFoundIn name node open_id name to (ok_of id) here → IsThere (home_at world) here → IsAtOk here
    by_found _ (in_ask server ask e1 e2 e3) there = (let no : Ask ask ≡ ok_of id = e3 in cc)
    by_found _ (in_answer server answer e1 e2 e3) there = (let no : Answer answer ≡ ok_of id = e3 in cc)
    by_found _ (in_line me mailbox flow e1 e2 e3) there = absurd ((law.many.each me.server there.0 there.1).apart (e1 ∙ sym law.nodes.me))
    by_found _ (in_response me mailbox flow it e1 e2 e3) there =
        absurd (let no : None ≡ Some there.0 =
        sym ((law.nodes).fronts to its at_front).no_home ∙ ap (home_at world) (sym e2) ∙ there.1 in cc)
    by_found _ (in_noop e1 e2 e3) there = absurd (((law.nodes).fronts node front there_front).no_master e1)
    by_found _ (in_ok table e1 e2 e3) there = record {
      table = table;
      is = refl;
      same = same_id (sym (ok_told id numbered) ∙ ap line_ask (same_line (sym e3)) ∙ ok_told open_id open_numbered);
    }

    at_ok : (here : Place) → IsInPlaceOf fixed world node front.replica open_id here → IsAtOk here
    at_ok here placed =
        by_found here (found_in name node open_id name to (ok_of id) here (found_at open_id.command (its_message name node open_id here) late placed.message))
        placed.there

  abbrev IsOk : Type 0
  IsOk = IsOkOf name world conn × (id.command ≡ length (law.story.told conn) + 1)

  command_is : (here : Place) → IsAtOk here → id.command ≡ length (law.story.told conn) + 1
  command_is here ok = ap (λ (i : AskId). i.command) ok.same

  -- a command that waits there waits for the master
  at_master : (at : At) (b : BarrierPlace) → WaitsAt at (place.is_barred b) → waits_at name at name ≡ true
  at_master (Home server) b is = absurd is
  at_master (Barrier why) b is = same_name name

  not_barred : (here : Place) → IsAtOk here → here ≡ place.nowhere → ⊥
  not_barred here ok none = (let no : place.nowhere ≡ place.is_barred (barrier.answered ok.table) = sym none ∙ ok.is in cc)

  module _ (bytes node : List ℕ) (front : Front) (connection : Connection) (at : IsAt world conn node front connection)
      (client : node_of (client_at world conn) ≡ Some node) (here : Place) (ok : IsAtOk here) where
    waiting_so : awaits name connection.stage name ≡ true → IsOk
    waiting_so is = (
      awaits_it (record { node = node; front = front; connection = connection; at = at; client = client; waits = is }),
      command_is here ok,
    )

    stands_so : Stands fixed node conn (inputs_in fixed.setting bytes) (begun bytes) connection (law.story.told conn) (law.story.talk.answers conn)
        (law.story.course.sessions conn) here → IsOk
    unfolding awaits
    stands_so (reads a b c d e f none) = absurd (not_barred here ok none)
    stands_so (waits waiting) =
        waiting_so (ap (λ s. awaits name s name) waiting.stage
        ∙ at_master waiting.c.waiting.at (barrier.answered ok.table) (subst (WaitsAt waiting.c.waiting.at) ok.is waiting.at))
    stands_so (lists waiting) = waiting_so (ap (λ s. awaits name s name) waiting.stage ∙ same_name name)
    stands_so (faulted a b c d e none) = absurd (not_barred here ok none)
    stands_so (finished passed more asking before last a b c d e f none) = absurd (not_barred here ok none)

  by_connection : (stop : Stop) (was : Heard) → ConnectionIs fixed conn world law.story stop was → IsOk
  by_connection stop was (is_nobody none fronts untold) = absurd (none_there untold.nothing.message)
  by_connection stop was (is_elsewhere node given at none untold) = absurd (none_there untold.nothing.message)
  by_connection stop was (is_open bytes node front connection at reader standing) =
      stands_so bytes node front connection at (ap node_of standing.client) standing.here (at_ok node front at.at standing.here standing.placed) standing.stands
  by_connection stop was (is_cut_off bytes node front connection at gone unanswered) = (
    has_gone node front connection at (ap node_of gone.client) gone.stage_is,
    command_is gone.here (at_ok node front at.at gone.here gone.placed),
  )
  by_connection stop was (is_closed _ bytes node front connection at gone) = (
    has_gone node front connection at (ap node_of gone.client) gone.stage_is,
    command_is gone.here (at_ok node front at.at gone.here gone.placed),
  )

  is_ok : IsOk
  is_ok = by_connection (law.stops conn) (heard conn) (law.connections conn)

-- ---- a frontend's step

some_name : {one other : List ℕ} → Some one ≡ Some other → one ≡ other
some_name e = cc

same_front : {one other : Front} → Some one ≡ Some other → one ≡ other
same_front e = cc

same_connection : {one other : Connection} → Some one ≡ Some other → one ≡ other
same_connection e = cc

client_of : (found : Option Client) (node : List ℕ) → node_of found ≡ Some node → (client : Client) × ((found ≡ Some client) × (client.at ≡ node))
client_of None node is = cc
client_of (Some client) node is = (client, (refl, some_name is))

-- a client stays where it is connected
stays_connected : (event : Event) (conn : ℕ) (node : List ℕ) → connected event conn (Some node) ≡ Some node
stays_connected (Open at opened) conn node = refl
stays_connected event conn node = refl

some_of : (found : Option Front) → is_some found ≡ true → (front : Front) × (found ≡ Some front)
some_of None is = cc
some_of (Some front) is = (front, refl)

module _ (config : Config) (came then : ℕ → Heard) (world next : World) (event : Event) (law : KeepsLaw config came world) (law_next : KeepsLaw config then next)
    (fits : NumbersFit then) (conn : ℕ) (awaiting : AwaitsMaster (master_of config) next conn) (node : List ℕ) (works : OnlyWorks event node world next)
    (sent : StepSends world event node next) (more : length (law.story.told conn) ≤ length (law_next.story.told conn)) where
  abbrev barred : IsBarred (fixed_of config) conn next law_next.story
  barred = is_barred_so config then next law_next conn awaiting

  abbrev ok_id : AskId
  ok_id = next_id conn (law_next.story.told conn)

  ok_numbered : IsNumbered ok_id
  ok_numbered =
      let client = client_of (client_at next conn) barred.node barred.client in
      asked_fit config then next law_next fits conn barred.node barred.front barred.connection barred.at client.0 (client.1).0 (client.1).1

  -- a connection that has ended stays so
  module _ (front : Front) (connection : Connection) (at : IsAt world conn node front connection) (ended : connection.stage ≡ Ended) (same : node ≡ barred.node) where
    now_at : front_at next node ≡ Some barred.front
    now_at = ap (front_at next) same ∙ (barred.at).at

    awaits_there : awaits (master_of config) (barred.connection).stage (master_of config) ≡ true
    awaits_there = it_awaits (master_of config) next conn awaiting barred.node barred.front barred.connection barred.client barred.at

    still : front_at next node ≡ front_at world node → ⊥
    still same_front_at =
        let fronts : barred.front ≡ front = same_front (sym now_at ∙ same_front_at ∙ at.at) in
        let its : barred.connection ≡ connection =
        same_connection (sym (barred.at).has ∙ ap (λ (f : Front). connection_at f conn) fronts ∙ at.has) in
        ended_awaits (master_of config) (barred.connection).stage (ap (λ (c : Connection). c.stage) its ∙ ended) awaits_there

    by_state : (it : NodeState) (input : NodeInput) → node_at world node ≡ Some it → node_at next node ≡ Some (node_takes it input).state → ⊥
    unfolding node_takes
    by_state (state.Front own) input was now =
        let fronts : own ≡ front = same_front (sym (a_front own) ∙ sym (ap as_front was) ∙ at.at) in
        ended_awaits (master_of config) (barred.connection).stage
        (front_stays own conn connection (ap (λ (f : Front). connection_at f conn) fronts ∙ at.has) ended input barred.front (sym (ap as_front now) ∙ now_at)
        barred.connection (barred.at).has)
        awaits_there
    by_state (state.Back home) input was now =
        absurd (let no : None ≡ Some barred.front = sym (ap as_front now ∙ back_other home input) ∙ now_at in cc)
    by_state (state.Master master) input was now =
        absurd (let no : None ≡ Some barred.front = sym (ap as_front now ∙ master_other master input) ∙ now_at in cc)

    gone_by : StepSends world event node next → ⊥
    gone_by (rests none same_node links) = still (ap as_front same_node)
    gone_by (is_away away now links) = still (ap as_front (now ∙ sym away))
    gone_by (sends it input there brought taken then_at links lost) = by_state it input there then_at

    gone_then : ⊥
    gone_then = gone_by sent

  -- ---- the OK is on its way behind the step

  module _ (table : MailboxTable) (answered : barred.here ≡ barrier.answered table) (same : node ≡ barred.node) where
    abbrev me : List ℕ
    me = master_of config

    -- nor is the frontend the master
    no_master : barred.node ≢ me
    no_master = ((law_next.nodes).fronts barred.node barred.front (barred.at).at).no_master

    placed : IsInPlaceOf (fixed_of config) next barred.node (barred.front).replica ok_id (place.is_barred (barrier.answered table))
    placed =
        subst (λ b. IsInPlaceOf (fixed_of config) next barred.node (barred.front).replica ok_id (place.is_barred b)) answered barred.placed

    among_next : IsAmong (ok_of ok_id) (on_link next.links me barred.node)
    among_next =
        kept_among (is_about ok_id.command (of_connection conn)) (ok_of ok_id) (on_link next.links me barred.node)
        (subst (IsAmong (ok_of ok_id)) (sym (placed.message me barred.node))
        (subst (λ b. IsAmong (ok_of ok_id) (cond b (ok_of ok_id ∷ []) [])) (sym (same_itself me barred.node)) (inl refl)))

    among_world : IsAmong (ok_of ok_id) (on_link world.links me barred.node)
    among_world =
        left_among event me barred.node (ok_of ok_id) (on_link world.links me barred.node)
        (subst (IsAmong (ok_of ok_id)) (works.stays me barred.node (λ e. no_master (sym same ∙ sym e))) among_next)

    was_front : (front : Front) × (front_at world barred.node ≡ Some front)
    was_front =
        some_of (front_at world barred.node)
        ((law.nodes).frontends barred.node ∙ sym ((law_next.nodes).frontends barred.node) ∙ ap is_some (barred.at).at)

    found : IsOkOf me world conn × (ok_id.command ≡ length (law.story.told conn) + 1)
    found =
        is_ok config came world law conn barred.node was_front.0 was_front.1 ok_id ok_numbered refl (omega (arith, more)) among_world

    waited_by : IsOkOf me world conn → AwaitsMaster me world conn
    waited_by (awaits_it before) = before
    waited_by (has_gone at_node front connection at client ended) =
        let there : at_node ≡ barred.node =
        some_name (sym (works.clients conn ∙ ap (connected event conn) client ∙ stays_connected event conn at_node) ∙ barred.client) in
        absurd (gone_then front connection (subst (λ n. IsAt world conn n front connection) (there ∙ sym same) at) ended same)

    -- ITS CONNECTION WAITED FOR IT BEFORE
    pub waited : AwaitsMaster me world conn
    waited = waited_by found.0

    pub told_same : length (law_next.story.told conn) ≡ length (law.story.told conn)
    told_same = omega (arith, found.1)
