-- A connection whose command waits for the master's OK at its frontend: its place is a barrier, and no RESERVE of it was answered OK.
use Rattle.std.proofs.Common.{◌≡◌, ◌⊎◌, inl, inr, ℕ, true, false, nat_eq, List, length, None, Some, refl, sym, ◌∙◌, ap, subst}
use Rattle.std.specs.Cmp.Lexicographic.{pointwise, same_text}
use Rattle.asking_core.specs.declared.waiting.At.{At}
use Rattle.asking_core.specs.declared.waiting.At.TheVariants.{Home, Barrier}
use Rattle.back_node.specs.declared.node.BackNode.{BackNode}
use Rattle.front_core.specs.Front.{connection_at}
use Rattle.front_core.specs.Stages.{awaits, waits_at}
use Rattle.front_core.specs.declared.connection.Connection.{Connection}
use Rattle.front_core.specs.declared.connection.Stage.{Stage}
use Rattle.front_core.specs.declared.connection.Stage.TheVariants.{Ended, Reading, Waits}
use Rattle.front_core.specs.declared.front.Front.{Front}
use Rattle.front_core.proofs.OneConnection.Readings.{inputs_in}
use Rattle.imap_talk.specs.Heard.{Heard}
use Rattle.imap_talk.specs.Transcript.{Stop}
use Rattle.imap_types.specs.declared.command.Tag.{Tag}
use Rattle.imap_types.specs.declared.request.Answer.{Answer}
use Rattle.imap_wire.specs.Frames.{begun}
use Rattle.mark_history.specs.Marked.{Tale}
use Rattle.mur_config.specs.declared.config.Config.{Config}
use Rattle.mur_model.specs.declared.commands.list.Listing.{Listing}
use Rattle.mur_model.specs.declared.session.Sess.{Sess}
use Rattle.name_commands.proofs.Own.{own_here}
use Rattle.name_commands.specs.Whose.{is_of_connection, own_flow}
use Rattle.node_record.specs.Table.{MailboxTable}
use Rattle.point_links.specs.Commands.{ClientCommand}
use Rattle.route_links.specs.Barriers.{Place as BarrierPlace, Place as barrier}
use Rattle.cluster_core.specs.Headline.OneNode.{node_of}
use Rattle.cluster_core.specs.World.{Disks, client_at, front_at, home_at, master_of}
use Rattle.cluster_core.specs.declared.world.World.{World}
use Rattle.cluster_core.proofs.Commands.Knows.{Knows, KnowsNames}
use Rattle.cluster_core.proofs.Commands.Knows.Knows.{is_decided, undecided}
use Rattle.cluster_core.proofs.Commands.Knows.KnowsNames.{is_gone, is_listed, not_yet}
use Rattle.cluster_core.proofs.Commands.InPlace.{IsThere}
use Rattle.cluster_core.proofs.Commands.Place.{Place, Place as place}
use Rattle.cluster_core.proofs.Commands.Standing.{Fixed, Stands, WaitsAt, next_id}
use Rattle.cluster_core.proofs.Commands.Standing.Stands.{faulted, finished, lists, reads, waits}
use Rattle.cluster_core.proofs.Connections.ConnectionLaw.{IsInPlaceOf}
use Rattle.cluster_core.proofs.Connections.KeepsLaw.{ConnectionIs, IsAt, KeepsLaw, fixed_of}
use Rattle.cluster_core.proofs.Connections.KeepsLaw.ConnectionIs.{is_closed, is_cut_off, is_elsewhere, is_nobody, is_open}
use Rattle.cluster_core.proofs.Serials.InFlow.{its_connection}
use Rattle.cluster_core.proofs.Serials.Reserved.{IsReserved}

pub record AwaitsMaster (master : List ℕ) (world : World) (conn : ℕ) : Type 0 where
  pub node : List ℕ
  pub front : Front
  pub connection : Connection
  pub at : IsAt world conn node front connection
  pub client : node_of (client_at world conn) ≡ Some node
  pub waits : awaits master connection.stage master ≡ true

-- so it is whatever stands on the disks
pub awaits_so : (master : List ℕ) (world : World) (disks : Disks) (conn : ℕ) → AwaitsMaster master world conn → AwaitsMaster master (record world { disks = disks }) conn
awaits_so master world disks conn is = record {
  node = is.node;
  front = is.front;
  connection = is.connection;
  at = record { at = (is.at).at; has = (is.at).has };
  client = is.client;
  waits = is.waits;
}

some_name : {one other : List ℕ} → Some one ≡ Some other → one ≡ other
some_name e = cc

some_front : {one other : Front} → Some one ≡ Some other → one ≡ other
some_front e = cc

some_connection : {one other : Connection} → Some one ≡ Some other → one ≡ other
some_connection e = cc

-- it is the one at the frontend to which its client is connected
module _ (master : List ℕ) (world : World) (conn : ℕ) (is : AwaitsMaster master world conn) where
  pub same_node : (node : List ℕ) → node_of (client_at world conn) ≡ Some node → node ≡ is.node
  same_node node client = some_name (sym client ∙ is.client)

  pub same_connection : (node : List ℕ) (front : Front) (connection : Connection) → node_of (client_at world conn) ≡ Some node → IsAt world conn node front connection
      → connection ≡ is.connection
  same_connection node front connection client at =
      let fronts : front ≡ is.front = some_front (sym at.at ∙ ap (front_at world) (same_node node client) ∙ (is.at).at) in
      some_connection (sym at.has ∙ ap (λ (f : Front). connection_at f conn) fronts ∙ (is.at).has)

  pub it_awaits : (node : List ℕ) (front : Front) (connection : Connection) → node_of (client_at world conn) ≡ Some node → IsAt world conn node front connection
      → awaits master connection.stage master ≡ true
  it_awaits node front connection client at = ap (λ (c : Connection). awaits master c.stage master) (same_connection node front connection client at) ∙ is.waits

-- one that reads, or has ended, waits for nothing
pub ended_awaits : (master : List ℕ) (stage : Stage) → stage ≡ Ended → awaits master stage master ≡ true → ⊥
unfolding awaits
ended_awaits master stage is waiting = (let no : false ≡ true = sym (ap (λ s. awaits master s master) is) ∙ waiting in cc)

reading_awaits : (master : List ℕ) (stage : Stage) → stage ≡ Reading → awaits master stage master ≡ true → ⊥
unfolding awaits
reading_awaits master stage is waiting = (let no : false ≡ true = sym (ap (λ s. awaits master s master) is) ∙ waiting in cc)

-- ---- its place

-- nothing was replied to its command yet, or the master's OK is on its way
abbrev pub IsUnsaid : List Answer → List Answer → BarrierPlace → Type 0
IsUnsaid told said at = (said ≡ told) ⊎ ((table : MailboxTable) × (at ≡ barrier.answered table))

pub record IsBarred (fixed : Fixed) (conn : ℕ) (world : World) (story : Tale) : Type 0 where
  pub node : List ℕ
  pub front : Front
  pub connection : Connection
  pub at : IsAt world conn node front connection
  pub client : node_of (client_at world conn) ≡ Some node
  pub count : connection.answered ≡ length (story.told conn)
  pub here : BarrierPlace
  pub placed : IsInPlaceOf fixed world node front.replica (next_id conn (story.told conn)) (place.is_barred here)
  pub unsaid : IsUnsaid (story.told conn) (story.talk.answers conn) here

module _ (config : Config) (heard : ℕ → Heard) (world : World) (law : KeepsLaw config heard world) (conn : ℕ) where
  abbrev fixed : Fixed
  fixed = fixed_of config

  abbrev name : List ℕ
  name = master_of config

  abbrev told : List Answer
  told = law.story.told conn

  abbrev said : List Answer
  said = law.story.talk.answers conn

  no_home : (server : List ℕ) (node : BackNode) → home_at world server ≡ Some node → server ≡ name → ⊥
  no_home server node there e = (law.many.each server node there).apart (e ∙ sym law.nodes.me)

  same_at : {one other : List ℕ} → Home one ≡ Home other → one ≡ other
  same_at e = cc

  -- it waits for no backend
  not_home : (asked server : List ℕ) (node : BackNode) → pointwise nat_eq asked name ≡ true → Home asked ≡ Home server → home_at world server ≡ Some node → ⊥
  not_home asked server node its same there = no_home server node there (sym (same_at same) ∙ same_text asked name (sym its))

  at_barrier : (at : At) (here : Place) → waits_at name at name ≡ true → WaitsAt at here → IsThere (home_at world) here → (b : BarrierPlace) × (here ≡ place.is_barred b)
  at_barrier at place.nowhere w is there = absurd is
  at_barrier (Barrier why) (place.is_asked server ask) w is there = cc
  at_barrier (Barrier why) (place.is_answered server answer) w is there = cc
  at_barrier (Barrier why) (place.is_dropped server) w is there = cc
  at_barrier (Barrier why) (place.is_at me at) w is there = cc
  at_barrier (Barrier why) (place.is_barred b) w is there = (b, refl)
  at_barrier (Home asked) (place.is_asked server ask) w is there = absurd (not_home asked server there.0 w is there.1)
  at_barrier (Home asked) (place.is_answered server answer) w is there = absurd (not_home asked server there.0 w is there.1)
  at_barrier (Home asked) (place.is_dropped server) w is there = absurd (not_home asked server there.0 w is there.1)
  at_barrier (Home asked) (place.is_at me at) w is there = absurd (not_home asked me.server there.0 w is there.1)
  at_barrier (Home asked) (place.is_barred b) w is there = absurd is

  said_of : (node : List ℕ) (c : ClientCommand) (tag : Tag) (session : Sess) (b : BarrierPlace)
      → Knows fixed.master fixed.first node c tag told said session (place.is_barred b) → IsUnsaid told said b
  said_of node c tag session b (undecided same was tells) = inl same
  said_of node c tag session barrier.nowhere (is_decided turn same then ends brings) = absurd brings
  said_of node c tag session barrier.asked (is_decided turn same then ends brings) = absurd brings
  said_of node c tag session (barrier.answered table) (is_decided turn same then ends brings) = inr (table, refl)

  -- so it is of a LIST
  names_of : (tag : Tag) (listing : Listing) (was session : Sess) (here : Place) → KnowsNames tag listing was told said session here
      → (b : BarrierPlace) × ((here ≡ place.is_barred b) × IsUnsaid told said b)
  names_of tag listing was session here (not_yet same same_session at) = (barrier.asked, (at, inl same))
  names_of tag listing was session here (is_gone same same_session at) = (barrier.nowhere, (at, inl same))
  names_of tag listing was session here (is_listed table same same_session at) = (barrier.answered table, (at, inr (table, refl)))

  module _ (is : AwaitsMaster name world conn) where
    module _ (node : List ℕ) (front : Front) (connection : Connection) (at : IsAt world conn node front connection)
        (client : node_of (client_at world conn) ≡ Some node) (count : connection.answered ≡ length told) where
      barred_in : (b : BarrierPlace) (here : Place) → here ≡ place.is_barred b → IsUnsaid told said b
          → IsInPlaceOf fixed world node front.replica (next_id conn told) here → IsBarred fixed conn world law.story
      barred_in b here same unsaid placed = record {
        node = node;
        front = front;
        connection = connection;
        at = at;
        client = client;
        count = count;
        here = b;
        placed = subst (IsInPlaceOf fixed world node front.replica (next_id conn told)) same placed;
        unsaid = unsaid;
      }

      its_stage : awaits name connection.stage name ≡ true
      its_stage = it_awaits name world conn is node front connection client at

      at_stage : (tag : Tag) (c : ClientCommand) → connection.stage ≡ Waits tag c.waiting → waits_at name c.waiting.at name ≡ true
      unfolding awaits
      at_stage tag c stage = sym (ap (λ s. awaits name s name) stage) ∙ its_stage

    barred_by : (stop : Stop) (was : Heard) → ConnectionIs fixed conn world law.story stop was → IsBarred fixed conn world law.story
    barred_by stop was (is_nobody none fronts untold) = absurd (let no : None ≡ Some is.node = sym (ap node_of none) ∙ is.client in cc)
    barred_by stop was (is_elsewhere node given at none untold) =
        absurd (let no : None ≡ Some is.front =
        sym none ∙ ap (front_at world) (same_node name world conn is node (ap node_of at)) ∙ (is.at).at in cc)
    barred_by stop was (is_open bytes node front connection at reader standing) = by standing.stands
      where
        by : Stands fixed node conn (inputs_in fixed.setting bytes) (begun bytes) connection told said (law.story.course.sessions conn) standing.here → IsBarred fixed conn world law.story
        by (reads stage a b c d e f) = absurd (reading_awaits name connection.stage stage (its_stage node front connection at (ap node_of standing.client) standing.count))
        by (waits waiting) =
            let b = at_barrier waiting.c.waiting.at standing.here
            (at_stage node front connection at (ap node_of standing.client) standing.count waiting.tag waiting.c waiting.stage) waiting.at (standing.placed).there in
            barred_in node front connection at (ap node_of standing.client) standing.count b.0 standing.here b.1
            (said_of node waiting.c waiting.tag (law.story.course.sessions conn) b.0
            (subst (Knows fixed.master fixed.first node waiting.c waiting.tag told said (law.story.course.sessions conn)) b.1 waiting.knows)) standing.placed
        by (lists waiting) =
            let b = names_of waiting.tag waiting.listing connection.session (law.story.course.sessions conn) standing.here waiting.knows in
            barred_in node front connection at (ap node_of standing.client) standing.count b.0 standing.here (b.1).0 (b.1).1 standing.placed
        by (faulted stage a b c d e) = absurd (ended_awaits name connection.stage stage (its_stage node front connection at (ap node_of standing.client) standing.count))
        by (finished passed more asking before last stage a b c d e f) =
            absurd (ended_awaits name connection.stage stage (its_stage node front connection at (ap node_of standing.client) standing.count))
    barred_by stop was (is_cut_off bytes node front connection at gone unanswered) =
        absurd (ended_awaits name connection.stage gone.stage_is (its_stage node front connection at (ap node_of gone.client) gone.count))
    barred_by stop was (is_closed _ bytes node front connection at gone) =
        absurd (ended_awaits name connection.stage gone.stage_is (its_stage node front connection at (ap node_of gone.client) gone.count))

    -- ITS PLACE IS A BARRIER
    pub is_barred_so : IsBarred fixed conn world law.story
    is_barred_so = barred_by (law.stops conn) (heard conn) (law.connections conn)

  -- no flow of it runs
  pub not_reserved : IsBarred fixed conn world law.story → IsReserved name world conn → ⊥
  not_reserved barred reserved =
      let own = is_of_connection conn in
      let none : own_flow own (Some reserved.flow) ≡ None =
      sym (ap (own_flow own) reserved.runs) ∙ (((barred.placed).shows reserved.server reserved.node reserved.there).at).running reserved.name in
      (let no : Some reserved.flow ≡ None =
      sym (own_here own reserved.flow (its_connection conn reserved.flow reserved.own)) ∙ none in cc)
