-- WHAT COMES TO A FRONTEND KEEPS THE LAW, where a server that an answer names is a backend.
use Rattle.std.proofs.Common.{◌≡◌, ◌≢◌, inl, inr, ℕ, ◌<◌, ◌^◌, Bool, true, false, is_some, nat_eq, List, [], ◌∷◌, length, Option, Some, refl, sym, ◌∙◌, ap, subst}
use Rattle.std.proofs.Math.Logic.{⊎_elim}
use Rattle.std.specs.Cmp.Lexicographic.{pointwise}
use Rattle.std.specs.List.{AllByRecursion}
use Rattle.ask_routes.specs.Barrier.{barrier_answered}
use Rattle.back_node.specs.declared.node.BackNode.{BackNode}
use Rattle.cluster_core.specs.World.{client_at, master_of, front_at, home_at, taken_from_link}
use Rattle.feed_links.proofs.Names.{other_name}
use Rattle.feed_links.specs.Lines.{messages_to}
use Rattle.feed_links.specs.OneFeed.{AreNoops, IsLine}
use Rattle.front_core.specs.declared.connection.Connection.{Connection}
use Rattle.front_core.specs.declared.connection.Stage.TheVariants.{Ended}
use Rattle.front_core.specs.declared.front.Front.{Front}
use Rattle.front_core.specs.Front.{Stepped, connection_at, deliver, end_from, still, up_from, ways_of, with_up, without_up}
use Rattle.imap_talk.specs.Heard.{Heard, client}
use Rattle.imap_talk.specs.Transcript.{Stop}
use Rattle.link_msg.specs.declared.answer.AnswerBody.{AnswerBody}
use Rattle.link_msg.specs.declared.answer.AnswerBody.TheVariants as answer
use Rattle.link_msg.specs.declared.answer.BackAnswer.{BackAnswer}
use Rattle.link_msg.specs.declared.ask.FrontAsk.{FrontAsk}
use Rattle.link_msg.specs.declared.message.LinkMsg.{LinkMsg}
use Rattle.link_msg.specs.declared.message.LinkMsg.TheVariants.{Up, End, Line, Ask, Answer}
use Rattle.link_msg.specs.declared.out.Out.{Out}
use Rattle.link_msg.specs.declared.out.Out.TheVariants.{Client as to_client, Close, Link as to_node, Mark as mark, Told as tell}
use Rattle.link_queue.specs.Links.{on_link}
use Rattle.mur_base.specs.declared.point.AskId.{AskId}
use Rattle.mur_config.specs.declared.config.Config.{Config}
use Rattle.node_step.specs.declared.input.NodeInput.TheVariants.{From}
use Rattle.cluster_core.specs.declared.world.Client.{Client}
use Rattle.cluster_core.specs.declared.world.World.{World}
use Rattle.std.proofs.lemmas.Option.{same_Some}
use Rattle.cluster_core.proofs.Answers.Ends.{OwnsClients}
use Rattle.cluster_core.proofs.Asking.ServerEnds.{IsForClient, server_ends}
use Rattle.cluster_core.proofs.Commands.Standing.{Fixed, next_id}
use Rattle.cluster_core.proofs.Connections.KeepsLaw.{ConnectionIs, IsAt, KeepsLaw, KeepsOn, fixed_of}
use Rattle.cluster_core.proofs.Connections.KeepsLaw.ConnectionIs.{is_nobody, is_elsewhere, is_open, is_cut_off, is_closed}
use Rattle.cluster_core.proofs.Feeds.AnsweredNoops.{HasRoomAt, IsWellAnswer}
use Rattle.cluster_core.proofs.Feeds.Apart.{backend_apart, servers_apart}
use Rattle.cluster_core.proofs.Feeds.DeliveredNoops.{HasNumbers, answer_noops, line_noops}
use Rattle.cluster_core.proofs.Feeds.Kept.{IsKept, front_answered_kept, front_hears_kept}
use Rattle.cluster_core.proofs.Feeds.Noops.{AreApart}
use Rattle.cluster_core.proofs.Links.Stand.{LinksStand}
use Rattle.cluster_core.proofs.Nodes.AllCome.{all_come}
use Rattle.cluster_core.proofs.Places.FrontFirst.{about_ok, answer_tells, none_comes}
use Rattle.cluster_core.proofs.Places.Stays.{same_name_or}
use Rattle.cluster_core.proofs.Answers.AnswerComes.{NamesBackend}
use Rattle.cluster_core.proofs.Answers.FrontTakes.{MessageNamesBackend, TellsOfLink, first_of_master, front_takes_keep}
use Rattle.cluster_core.proofs.Answers.Keeps.{frontend_of}
use Rattle.cluster_core.proofs.Answers.MasterEnds.{master_end_stands}
use Rattle.cluster_core.proofs.Answers.MasterUp.{master_up_stands}
use Rattle.cluster_core.proofs.Answers.OtherMessages.{idles}
use Rattle.cluster_core.proofs.Keeps.Numbers.{open_has_room}
use Rattle.cluster_core.specs.Numbers.{HeardFits, NumbersFit}

-- what the law says of the nodes, the names and the feeds
pub law_kept : (config : Config) (heard : ℕ → Heard) (world : World) (law : KeepsLaw config heard world)
    → IsKept config world law.master law.given law.story.course.store
law_kept config heard world law = record { nodes = law.nodes; many = law.many; feeds = law.feeds }

-- what tells of no link
no_answer : (it : BackAnswer) → TellsOfLink (Answer it) → ⊥
no_answer it tells = ⊎_elim (λ (up : Answer it ≡ Up). cc) (λ (end : Answer it ≡ End). cc) tells

no_line : (bytes : List ℕ) → TellsOfLink (Line bytes) → ⊥
no_line bytes tells = ⊎_elim (λ (up : Line bytes ≡ Up). cc) (λ (end : Line bytes ≡ End). cc) tells

no_ask : (ask : FrontAsk) → TellsOfLink (Ask ask) → ⊥
no_ask ask tells = ⊎_elim (λ (up : Ask ask ≡ Up). cc) (λ (end : Ask ask ≡ End). cc) tells

-- what goes to clients alone
clients_noops : (node : List ℕ) (outs : List Out) → AllByRecursion IsForClient outs → AreNoops (messages_to node outs)
clients_noops node [] all = tt
clients_noops node (to_client conn bytes ∷ outs) all = clients_noops node outs all.1
clients_noops node (Close conn ∷ outs) all = clients_noops node outs all.1
clients_noops node (to_node other message ∷ outs) all = absurd all.0
clients_noops node (mark ask counts ∷ outs) all = absurd all.0
clients_noops node (tell ask how ∷ outs) all = absurd all.0

module _ (config : Config) (heard : ℕ → Heard) (world : World) (law : KeepsLaw config heard world) (from to : List ℕ) (front : Front)
    (rest : List LinkMsg) (there : front_at world to ≡ Some front) (fits : NumbersFit heard) (owns : OwnsClients world to front) where
  abbrev fixed : Fixed
  fixed = fixed_of config

  abbrev me : List ℕ
  me = master_of config

  master_is : front.master ≡ me
  master_is = (law.nodes.fronts to front there).master_is

  apart : AreApart (ways_of front)
  apart = servers_apart config world law.master law.nodes to front law.feeds there

  -- ---- numbers

  its_fits : (conn : ℕ) (bytes : List ℕ) (closed : Bool) → heard conn ≡ client bytes closed → (conn < 2 ^ 64) × (length bytes < 2 ^ 32)
  its_fits conn bytes closed e = subst (HeardFits conn) e (fits conn)

  -- the connection of a message of this frontend
  room_of : (conn : ℕ) (node : List ℕ) (its : Front) (connection : Connection) → node ≡ to → IsAt world conn node its connection
      → HasRoomAt connection connection.stage → (found : Connection) → connection_at front conn ≡ Some found → HasRoomAt found found.stage
  room_of conn node its connection same at room found is =
      let fronts : its ≡ front = same_Some _ _ (sym at.at ∙ (ap (front_at world) same ∙ there)) in
      let both : connection ≡ found = same_Some _ _ (sym at.has ∙ (ap (λ (f : Front). connection_at f conn) fronts ∙ is)) in
      subst (λ (c : Connection). HasRoomAt c c.stage) both room

  -- its client is at this frontend
  its_node : (conn : ℕ) (node : List ℕ) (known : Client) (found : Connection) → connection_at front conn ≡ Some found → client_at world conn ≡ Some known
      → known.at ≡ node → node ≡ to
  its_node conn node known found has known_is known_at =
      let own = owns conn found has in
      sym known_at ∙ ap (λ (c : Client). c.at) (same_Some known own.0 (sym known_is ∙ own.1)) ∙ own.2

  ended_room : (connection : Connection) → connection.stage ≡ Ended → HasRoomAt connection connection.stage
  ended_room connection stage = subst (HasRoomAt connection) (sym stage) tt

  answer_numbers : (it : BackAnswer) (stop : Stop) (was : Heard) → on_link world.links from to ≡ Answer it ∷ rest → heard (it.id).conn ≡ was
      → ConnectionIs fixed (it.id).conn world law.story stop was → HasNumbers front (it.id).conn
  answer_numbers it _ was first e (is_nobody none fronts untold) =
      absurd (none_comes fixed.master (home_at world) world.links from to (Answer it) rest (it.id).conn first untold.nothing refl)
  answer_numbers it _ was first e (is_elsewhere node given at none untold) =
      absurd (none_comes fixed.master (home_at world) world.links from to (Answer it) rest (it.id).conn first untold.nothing refl)
  answer_numbers it _ was first e (is_open bytes node its connection at reader standing) =
      let conn : ℕ = (it.id).conn in
      let tells = answer_tells fixed.master (home_at world) world.links from to it rest node its.replica (next_id conn (law.story.told conn))
      standing.here (frontend_of config heard world law to front there) first refl standing.placed in
      let its_numbers = its_fits conn bytes false e in
      record {
        fits = its_numbers.0;
        room = room_of conn node its connection tells.0 at
            (open_has_room fixed node conn bytes connection (law.story.told conn) (law.story.talk.answers conn) (law.story.course.sessions conn) standing.here
            standing.count its_numbers.1 standing.stands);
      }
  answer_numbers it _ was first e (is_cut_off bytes node its connection at gone unanswered) =
      let conn : ℕ = (it.id).conn in
      let tells = answer_tells fixed.master (home_at world) world.links from to it rest node its.replica (next_id conn (law.story.told conn))
      gone.here (frontend_of config heard world law to front there) first refl gone.placed in
      record {
        fits = (its_fits conn bytes false e).0;
        room = room_of conn node its connection tells.0 at (ended_room connection gone.stage_is);
      }
  answer_numbers it _ was first e (is_closed stop bytes node its connection at gone) =
      let conn : ℕ = (it.id).conn in
      let tells = answer_tells fixed.master (home_at world) world.links from to it rest node its.replica (next_id conn (law.story.told conn))
      gone.here (frontend_of config heard world law to front there) first refl gone.placed in
      record {
        fits = (its_fits conn bytes true e).0;
        room = room_of conn node its connection tells.0 at (ended_room connection gone.stage_is);
      }

  ok_numbers : (bytes : List ℕ) (id : AskId) (stop : Stop) (was : Heard) → on_link world.links me to ≡ Line bytes ∷ rest → barrier_answered bytes ≡ Some id
      → heard id.conn ≡ was → ConnectionIs fixed id.conn world law.story stop was → HasNumbers front id.conn
  ok_numbers bytes id _ was first is e (is_nobody none fronts untold) =
      absurd (none_comes fixed.master (home_at world) world.links me to (Line bytes) rest id.conn first untold.nothing (about_ok bytes id is))
  ok_numbers bytes id _ was first is e (is_elsewhere node given at none untold) =
      absurd (none_comes fixed.master (home_at world) world.links me to (Line bytes) rest id.conn first untold.nothing (about_ok bytes id is))
  ok_numbers bytes id _ was first is e (is_open text node its connection at reader standing) =
      let conn : ℕ = id.conn in
      let its_numbers = its_fits conn text false e in
      record {
        fits = its_numbers.0;
        room = λ found has. room_of conn node its connection (its_node conn node _ found has standing.client refl) at
            (open_has_room fixed node conn text connection (law.story.told conn) (law.story.talk.answers conn) (law.story.course.sessions conn) standing.here
            standing.count its_numbers.1 standing.stands) found has;
      }
  ok_numbers bytes id _ was first is e (is_cut_off text node its connection at gone unanswered) =
      let conn : ℕ = id.conn in
      record {
        fits = (its_fits conn text false e).0;
        room = λ found has. room_of conn node its connection (its_node conn node _ found has gone.client refl) at (ended_room connection gone.stage_is) found has;
      }
  ok_numbers bytes id _ was first is e (is_closed stop text node its connection at gone) =
      let conn : ℕ = id.conn in
      record {
        fits = (its_fits conn text true e).0;
        room = λ found has. room_of conn node its connection (its_node conn node _ found has gone.client refl) at (ended_room connection gone.stage_is) found has;
      }

  -- ---- what goes out of it to the master is NOOPs

  abbrev Noops : LinkMsg → Type 0
  Noops message = AreNoops (messages_to me (deliver front from message).outs)

  well_answer : (body : AnswerBody) → NamesBackend (home_at world) body → IsWellAnswer front.master body
  well_answer (answer.Moved server) names =
      let found = names server refl in
      (λ e. backend_apart config world law.master law.nodes server (ap (λ (n : Option BackNode). is_some n) found.1) (e ∙ master_is))
  well_answer (answer.Done outcome seen) names = tt
  well_answer (answer.Unreached node) names = tt
  well_answer answer.Lost names = tt
  well_answer answer.NotNow names = tt

  still_noops : (message : LinkMsg) → from ≢ me → (e : from ≢ front.master → deliver front from message ≡ still front) → Noops message
  still_noops message ne e = subst (λ (s : Stepped). AreNoops (messages_to me s.outs)) (sym (e (λ same. ne (same ∙ master_is)))) tt

  up_by : (same : Bool) → same ≡ false → AreNoops (messages_to me (up_from same (with_up front from)).outs)
  unfolding up_from
  up_by false e = tt
  up_by true e = cc

  up_noops : from ≢ me → Noops Up
  unfolding deliver
  up_noops ne = up_by (pointwise nat_eq from front.master) (other_name from front.master (λ e. ne (e ∙ master_is)))

  end_noops : from ≢ me → Noops End
  unfolding deliver
  end_noops ne = clients_noops me (end_from (without_up front from) from).outs (server_ends front from (λ e. ne (e ∙ master_is))).outs

  ask_noops : (ask : FrontAsk) → Noops (Ask ask)
  unfolding deliver
  ask_noops ask = tt

  noops_by : (message : LinkMsg) → on_link world.links from to ≡ message ∷ rest → MessageNamesBackend (home_at world) from message
      → (TellsOfLink message → from ≢ me) → Noops message
  noops_by (Answer it) first names others =
      subst (λ m. AreNoops (messages_to m (deliver front from (Answer it)).outs)) master_is
      (answer_noops front apart from it (answer_numbers it (law.stops (it.id).conn) (heard (it.id).conn) first refl (law.connections (it.id).conn)) (well_answer it.body names))
  noops_by (Line bytes) first names others = ⊎_elim
      (λ (e : from ≡ me). subst (λ m. AreNoops (messages_to m (deliver front from (Line bytes)).outs)) master_is
      (line_noops front apart from bytes
      (λ id is. ok_numbers bytes id (law.stops id.conn) (heard id.conn) (ap (λ f. on_link world.links f to) (sym e) ∙ first) is refl (law.connections id.conn))))
      (λ (ne : from ≢ me). still_noops (Line bytes) ne (λ other. idles front from (Line bytes) other other))
      (same_name_or from me)
  noops_by Up first names others = up_noops (others (inl refl))
  noops_by End first names others = end_noops (others (inr refl))
  noops_by (Ask ask) first names others = ask_noops ask

  kept_by : (message : LinkMsg) → on_link world.links from to ≡ message ∷ rest → MessageNamesBackend (home_at world) from message
      → (TellsOfLink message → from ≢ me) → IsKept config (all_come (taken_from_link world from to) to (From from message)) law.master law.given law.story.course.store
  kept_by message first names others =
      let noops = noops_by message first names others in
      ⊎_elim
      (λ (e : from ≡ me).
      let at_master : on_link world.links me to ≡ message ∷ rest = ap (λ f. on_link world.links f to) (sym e) ∙ first in
      let line : IsLine message =
      ⊎_elim (λ is. is) (λ tells. absurd (others tells e)) (first_of_master config heard world law to front message rest there at_master) in
      subst (λ f. IsKept config (all_come (taken_from_link world f to) to (From f message)) law.master law.given law.story.course.store) (sym e)
      (subst (λ m. IsKept config (all_come (taken_from_link world me to) to (From me m)) law.master law.given law.story.course.store) (sym line.1)
      (front_hears_kept config world law.master law.given law.story.course.store (law_kept config heard world law) to front line.0 rest there
      (at_master ∙ ap (λ m. m ∷ rest) line.1)
      (subst (λ m. AreNoops (messages_to me (deliver front me m).outs)) line.1 (subst (λ f. AreNoops (messages_to me (deliver front f message).outs)) e noops)))))
      (λ (ne : from ≢ me).
      front_answered_kept config world law.master law.given law.story.course.store (law_kept config heard world law) from to front message there ne
      noops)
      (same_name_or from me)

  module _ (links : LinksStand config world) where
    -- one that doesn't tell of the link with the master
    other_keeps : (message : LinkMsg) → (TellsOfLink message → from ≢ me) → (message ≡ End → world.broken ≢ []) → on_link world.links from to ≡ message ∷ rest
        → MessageNamesBackend (home_at world) from message
        → KeepsOn config law.story law.stops heard (all_come (taken_from_link world from to) to (From from message))
    other_keeps message others cut first names =
        let kept = kept_by message first names others in
        front_takes_keep config heard world law links from to front message there owns (record { rest = rest; first = first; many = kept.many; feeds = kept.feeds })
        names others cut fits

    keeps_by : (message : LinkMsg) → (message ≡ End → world.broken ≢ []) → on_link world.links from to ≡ message ∷ rest
        → MessageNamesBackend (home_at world) from message
        → KeepsOn config law.story law.stops heard (all_come (taken_from_link world from to) to (From from message))
    keeps_by Up cut first names = ⊎_elim
        (λ (e : from ≡ me). subst (λ f. KeepsOn config law.story law.stops heard (all_come (taken_from_link world f to) to (From f Up))) (sym e)
        (master_up_stands config heard world law to front rest there (ap (λ f. on_link world.links f to) (sym e) ∙ first)))
        (λ (ne : from ≢ me). other_keeps Up (λ tells. ne) cut first names)
        (same_name_or from me)
    keeps_by End cut first names = ⊎_elim
        (λ (e : from ≡ me). subst (λ f. KeepsOn config law.story law.stops heard (all_come (taken_from_link world f to) to (From f End))) (sym e)
        (master_end_stands config heard world law links fits to front rest there (ap (λ f. on_link world.links f to) (sym e) ∙ first) owns (cut refl)))
        (λ (ne : from ≢ me). other_keeps End (λ tells. ne) cut first names)
        (same_name_or from me)
    keeps_by (Answer it) cut first names = other_keeps (Answer it) (λ tells. absurd (no_answer it tells)) cut first names
    keeps_by (Line bytes) cut first names = other_keeps (Line bytes) (λ tells. absurd (no_line bytes tells)) cut first names
    keeps_by (Ask ask) cut first names = other_keeps (Ask ask) (λ tells. absurd (no_ask ask tells)) cut first names

-- A MESSAGE IS DELIVERED TO A FRONTEND
abbrev pub ToFrontKeeps : Type 0
ToFrontKeeps = (config : Config) (heard : ℕ → Heard) (world : World) (law : KeepsLaw config heard world) (from to : List ℕ) (front : Front)
    (message : LinkMsg) (rest : List LinkMsg) → front_at world to ≡ Some front → on_link world.links from to ≡ message ∷ rest
    → LinksStand config world → OwnsClients world to front → (message ≡ End → world.broken ≢ [])
    → MessageNamesBackend (home_at world) from message → NumbersFit heard
    → KeepsOn config law.story law.stops heard (all_come (taken_from_link world from to) to (From from message))

pub to_front_keeps : ToFrontKeeps
to_front_keeps config heard world law from to front message rest there first links owns cut names fits =
    keeps_by config heard world law from to front rest there fits owns links message cut first names
