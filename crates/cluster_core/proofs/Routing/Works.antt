-- A message of a command is taken: the command waits at its client's frontend, and an ask is the one for it, at a backend. Of a LIST that is its NOOP.
use Rattle.std.proofs.Common.{◌≡◌, ◌≢◌, ◌||◌, ℕ, ◌+◌, ◌≤◌, nat_eq, Bool, true, false, is_some, List, [], ◌∷◌, length, Some, refl, sym, ◌∙◌, ap, subst, arith}
use Rattle.std.specs.Prelude.{All}
use Rattle.std.specs.List.{list_any}
use Rattle.std.specs.Cmp.Lexicographic.{pointwise}
use Rattle.std.proofs.lemmas.List.Elements.{All-head, All-tail}
use Rattle.ask_routes.specs.Barrier.{noop_line}
use Rattle.back_node.specs.declared.node.BackNode.{BackNode}
use Rattle.cluster_core.specs.Headline.Backends.{IsBackend}
use Rattle.cluster_core.specs.World.{backends_of, master_of, client_at, front_at, home_at, node_at}
use Rattle.front_core.proofs.OneConnection.Places.{about, about_command, is_over, line_on, of_connection}
use Rattle.front_core.specs.declared.connection.Connection.{Connection}
use Rattle.front_core.specs.declared.front.Front.{Front}
use Rattle.front_core.specs.Front.{connection_at}
use Rattle.imap_talk.proofs.RequestsOf.{requests_of}
use Rattle.imap_talk.specs.Transcript.{Stop}
use Rattle.imap_talk.specs.Heard.{Heard, frames_heard}
use Rattle.imap_types.specs.declared.command.Command.{Command}
use Rattle.imap_types.specs.declared.command.Tag.{Tag}
use Rattle.imap_types.specs.declared.request.Answer.{Answer as Replied}
use Rattle.imap_types.specs.declared.request.Request.{Request}
use Rattle.imap_types.specs.declared.request.Request.TheVariants.{Command as a_command}
use Rattle.asking_core.specs.Answered.{WentOn, answered}
use Rattle.asking_core.specs.declared.waiting.At.TheVariants.{Home}
use Rattle.asking_core.specs.declared.waiting.Waiting.{Waiting}
use Rattle.link_msg.specs.declared.answer.AnswerBody.{AnswerBody}
use Rattle.link_msg.specs.declared.answer.AnswerBody.TheVariants.{Unreached}
use Rattle.link_msg.specs.declared.answer.BackAnswer.{BackAnswer}
use Rattle.link_msg.specs.declared.ask.FrontAsk.{FrontAsk}
use Rattle.link_msg.specs.declared.message.LinkMsg.{LinkMsg}
use Rattle.link_msg.specs.declared.message.LinkMsg.TheVariants.{Line, Ask, Answer}
use Rattle.link_queue.specs.Links.{on_link}
use Rattle.mark_history.specs.Marked.{Tale}
use Rattle.mupdate_codec.specs.Asks.{ask_id_of, line_ask, tag_of}
use Rattle.mupdate_codec.proofs.AsksLaw.{ask_again}
use Rattle.mupdate_codec.proofs.LineAsks.{own_command}
use Rattle.mur_base.specs.declared.point.AskId.{AskId}
use Rattle.mur_config.specs.declared.config.Config.{Config}
use Rattle.mur_config.specs.Nodes.{AreNodes}
use Rattle.mur_model.specs.declared.commands.list.Listing.{Listing}
use Rattle.mur_model.specs.declared.session.Sess.{Sess}
use Rattle.mur_model.specs.History.{numbered}
use Rattle.node_step.proofs.NodeKinds.{front_is}
use Rattle.name_commands.specs.Places.{IsNumbered, flow_message, stage_command, NamePlace as name_at}
use Rattle.name_commands.specs.Whose.{its_command}
use Rattle.name_flows.specs.declared.flow.Flow.{Flow}
use Rattle.point_links.specs.AtHome.{IsElsewhere, its_ask, moved, not_now}
use Rattle.point_links.specs.Commands.{ClientCommand, told_turn}
use Rattle.route_links.proofs.Tags.{noop_tells}
use Rattle.route_links.specs.Answered.{noop_of}
use Rattle.route_links.specs.Barriers.{Place as Barrier, Place as barrier}
use Rattle.mur_base.specs.declared.home.Location.{Location}
use Rattle.cluster_core.specs.declared.world.World.{World}
use Rattle.cluster_core.specs.Headline.OneNode.{node_of}
use Rattle.cluster_core.specs.Numbers.{NumbersFit}
use Rattle.cluster_core.proofs.Commands.InPlace.{IsThere}
use Rattle.cluster_core.proofs.Commands.Knows.{IsFlowOf, KnowsNames, undecided, is_decided, not_yet, is_gone, is_listed, waiting_at}
use Rattle.cluster_core.proofs.Commands.Place.{Place, Place as place}
use Rattle.cluster_core.proofs.Commands.Standing.{Fixed, next_id}
use Rattle.cluster_core.proofs.Connections.KeepsLaw.{IsAt, IsFrontOf, KeepsLaw, fixed_of}
use Rattle.cluster_core.proofs.Keeps.Numbers.{asked_fit}
use Rattle.cluster_core.proofs.OneServer.BackendsLaw.{are_backends}
use Rattle.cluster_core.proofs.OneServer.NamesHeld.{same_bytes}
use Rattle.cluster_core.proofs.Points.Acts.{KnowsOf}
use Rattle.cluster_core.proofs.Points.Found.{IsFoundIn, found_in, in_answer, in_ask, in_line, in_noop, in_ok, in_response}
use Rattle.cluster_core.proofs.Points.Waits.{IsClientOf, TellsPlace, Whose, ended_lists, ended_waits, each_command_waits, first_tells, its_client, of_command, of_list, open_lists, open_waits, waits_fit}
use Rattle.cluster_core.proofs.Routing.Begun.{IsBegun}
use Rattle.cluster_core.proofs.Routing.FrontTells.{begun_at}

-- ---- a backend is one of the configuration

listed_by : (P : List ℕ → Type 0) (name first : List ℕ) (names : List (List ℕ)) (same : Bool) → pointwise nat_eq name first ≡ same
    → list_any (pointwise nat_eq name) (first ∷ names) ≡ true → All P (first ∷ names)
    → (list_any (pointwise nat_eq name) names ≡ true → All P names → P name) → P name
listed_by P name first names true is e all rest = subst P (sym (same_bytes name first is)) (All-head P first names all)
listed_by P name first names false is e all rest =
    rest (sym (ap (λ b. b || list_any (pointwise nat_eq name) names) is) ∙ e) (All-tail P first names all)

listed : (P : List ℕ → Type 0) (name : List ℕ) (names : List (List ℕ)) → list_any (pointwise nat_eq name) names ≡ true → All P names → P name
listed P name [] e all = cc
listed P name (first ∷ names) e all = listed_by P name first names (pointwise nat_eq name first) refl e all (listed P name names)

pub backend_is : (config : Config) (heard : ℕ → Heard) (world : World) → AreNodes config.nodes → KeepsLaw config heard world → (node : List ℕ) (home : BackNode)
    → home_at world node ≡ Some home → IsBackend config node
backend_is config heard world are law node home there =
    listed (IsBackend config) node (backends_of config.nodes)
    (subst (λ (names : List (List ℕ)). list_any (pointwise nat_eq node) names ≡ true) law.nodes.backends (sym (law.nodes.homes node) ∙ ap is_some there))
    (are_backends config are)

-- ---- a command that waits

-- its client asked for it: it needs a mailbox; or it is a LIST, and its NOOP or the master's OK is on its way
data IsAsked (fixed : Fixed) (conn : ℕ) (node : List ℕ) (story : Tale) (requests : List Request) (here : Place) : Type 0 where
  for_mailbox : (tag : Tag) (c : ClientCommand) → c.id ≡ next_id conn (story.told conn)
      → numbered requests (length (story.told conn) + 1) ≡ Some (a_command tag c.it) → KnowsOf fixed node conn tag c story here
      → IsAsked fixed conn node story requests here
  for_names : (at : Barrier) → here ≡ place.is_barred at → IsAsked fixed conn node story requests here

module _ (fixed : Fixed) (conn : ℕ) (node : List ℕ) (connection : Connection) (world : World) (story : Tale) (stop : Stop) (heard : Heard) (here : Place) where
  has_begun : Whose fixed conn node connection world story stop heard here → begun_at connection.stage ≡ 1
  has_begun (of_command (open_waits bytes silently e reader given waiting)) = ap begun_at waiting.stage
  has_begun (of_command (ended_waits bytes shut e ended stage lasts given cut waiting)) = ap begun_at stage
  has_begun (of_list (open_lists bytes silently e reader given waiting)) = ap begun_at waiting.stage
  has_begun (of_list (ended_lists bytes shut e ended stage lasts given cut waiting)) = ap begun_at stage

  barred : {tag : Tag} {it : Listing} {was : Sess} {told said : List Replied} {session : Sess} → KnowsNames tag it was told said session here
      → IsAsked fixed conn node story (requests_of fixed.setting (frames_heard heard)) here
  barred (not_yet said was at) = for_names barrier.asked at
  barred (is_gone said was at) = for_names barrier.nowhere at
  barred (is_listed table said was at) = for_names (barrier.answered table) at

  asked_so : (front : Front) → IsAt world conn node front connection → connection.answered ≡ length (story.told conn)
      → Whose fixed conn node connection world story stop heard here → IsAsked fixed conn node story (requests_of fixed.setting (frames_heard heard)) here
  asked_so front at count (of_command who) =
      let its = each_command_waits fixed conn node front connection world story stop heard here at count who in for_mailbox its.tag its.c its.its its.asked its.knows
  asked_so front at count (of_list (open_lists bytes silently e reader given waiting)) = barred waiting.knows
  asked_so front at count (of_list (ended_lists bytes shut e ended stage lasts given cut waiting)) = barred waiting.knows

-- an answer that tells where else the mailbox is tells nothing of a node that isn't reached
elsewhere_plain : (body : AnswerBody) → IsElsewhere body → (node : List ℕ) → body ≢ Unreached node
elsewhere_plain _ not_now node e = cc
elsewhere_plain _ (moved server) node e = cc

-- what its place tells, where nothing is decided there
module _ (fixed : Fixed) (front : List ℕ) (conn : ℕ) (tag : Tag) (c : ClientCommand) (story : Tale) where
  asked_of : (server : List ℕ) (ask : FrontAsk) → KnowsOf fixed front conn tag c story (place.is_asked server ask) → ask ≡ its_ask c
  asked_of server ask (undecided said was tells) = tells
  asked_of server ask (is_decided turn said session ends brings) = absurd brings

  sent_of : (me : Location) (name : List ℕ) (flow : Flow) → KnowsOf fixed front conn tag c story (place.is_at me (name_at.sends name flow))
      → IsFlowOf front c name flow
  sent_of me name flow (undecided said was tells) = tells
  sent_of me name flow (is_decided turn said session ends brings) = absurd brings

  -- an answer on its way to it
  answer_plain : (server : List ℕ) (answer : BackAnswer) → KnowsOf fixed front conn tag c story (place.is_answered server answer) → (other : List ℕ)
      → answer.body ≢ Unreached other
  unfolding answered
  answer_plain server answer (undecided said was tells) other e = elsewhere_plain answer.body tells.1 other e
  answer_plain server answer (is_decided turn said session ends brings) other e =
      told_plain fixed.master c.id c.was (waiting_at c (Home [])).waiting other
      (sym (ap (λ b. answered fixed.master c.id c.was (waiting_at c (Home [])).waiting b) e) ∙ brings.1 (Home []))
    where
      told_plain : (master : List ℕ) (id : AskId) (was : Sess) (it : Waiting) (node : List ℕ)
          → answered master id was it (Unreached node) ≡ told_turn (waiting_at c (Home [])) turn → ⊥
      told_plain master id was it node same = absurd (let no = ap (λ (w : WentOn). w.then) same in cc)

same_ask : {one other : FrontAsk} → Ask one ≡ Ask other → one ≡ other
same_ask e = cc

same_line : {one other : List ℕ} → Line one ≡ Line other → one ≡ other
same_line e = cc

same_id : {one other : AskId} → Some one ≡ Some other → one ≡ other
same_id e = cc

same_answer : {one other : BackAnswer} → Answer one ≡ Answer other → one ≡ other
same_answer e = cc

no_answer_line : (bytes : List ℕ) (answer : BackAnswer) → Line bytes ≡ Answer answer → ⊥
no_answer_line bytes answer e = cc

no_line : (bytes : List ℕ) (ask : FrontAsk) → Line bytes ≡ Ask ask → ⊥
no_line bytes ask e = cc

-- ---- a message of it is taken

module _ (config : Config) (heard : ℕ → Heard) (world : World) (law : KeepsLaw config heard world) where
  -- the command has begun at its frontend, and is the first of which its client wasn't told
  pub record IsUnderWay (id : AskId) : Type 0 where
    pub begun : IsBegun world id
    pub last : id.command ≡ length (law.story.told id.conn) + 1

  -- its client asked for this under its number
  abbrev pub IsOf : AskId → Tag → Command → Type 0
  IsOf id tag it = numbered (law.story.talk.requests id.conn) id.command ≡ Some (a_command tag it)

  -- the ask of a command of this frontend, at a backend
  pub record AskTells (from to : List ℕ) (ask : FrontAsk) : Type 0 where
    pub tag : Tag
    pub c : ClientCommand
    pub asked : IsOf ask.id tag c.it
    pub ask_is : ask ≡ its_ask c
    pub front : Front
    pub at : front_at world from ≡ Some front
    pub home : BackNode
    pub there : home_at world to ≡ Some home
    pub under_way : IsUnderWay ask.id

  -- a line of a command that needs a mailbox, or the NOOP of a LIST
  pub data IsLineOf (id : AskId) (line : List ℕ) : Type 0 where
    of_mailbox : (tag : Tag) (c : ClientCommand) → IsOf id tag c.it → IsLineOf id line
    of_names : line ≡ noop_line id → IsLineOf id line

  pub record LineTells (id : AskId) (line : List ℕ) : Type 0 where
    pub is_line : IsLineOf id line
    pub under_way : IsUnderWay id

  module _ (from to : List ℕ) (message : LinkMsg) (rest : List LinkMsg) (first : on_link world.links from to ≡ message ∷ rest) (conn : ℕ)
      (own : about message ≡ of_connection conn) (on : is_over (length (law.story.told conn) + 1) message ≡ false) where
    tells : TellsPlace (fixed_of config) conn world law.story (law.stops conn) (heard conn) from to message
    tells = first_tells (fixed_of config) conn world law.story (law.stops conn) (heard conn) from to message rest first own on (law.connections conn)

    abbrev open_id : AskId
    open_id = next_id conn (law.story.told conn)

    found : IsFoundIn (master_of config) tells.node open_id from to message tells.here
    found = found_in (master_of config) tells.node open_id from to message tells.here tells.is_found

    its_front : IsFrontOf config world law.master tells.node tells.front
    its_front = law.nodes.fronts tells.node tells.front (tells.at).at

    abbrev requests : List Request
    requests = requests_of (fixed_of config).setting (frames_heard (heard conn))

    asked : IsAsked (fixed_of config) conn tells.node law.story requests tells.here
    asked = asked_so (fixed_of config) conn tells.node tells.connection world law.story (law.stops conn) (heard conn) tells.here tells.front tells.at tells.count tells.who

    its_client_at : IsClientOf conn tells.node world
    its_client_at = its_client (fixed_of config) conn tells.node tells.connection world law.story (law.stops conn) (heard conn) tells.here tells.who

    begun_so : (id : AskId) → id ≡ open_id → IsUnderWay id
    begun_so id e =
        let same : id.conn ≡ conn = ap (λ (i : AskId). i.conn) e in
        let last : id.command ≡ length (law.story.told conn) + 1 = ap (λ (i : AskId). i.command) e in
        let one : begun_at (tells.connection).stage ≡ 1 =
        has_begun (fixed_of config) conn tells.node tells.connection world law.story (law.stops conn) (heard conn) tells.here tells.who in
        record {
          begun = record {
            node = tells.node;
            front = tells.front;
            at = front_is (node_at world tells.node) tells.front (tells.at).at;
            client = ap (λ k. node_of (client_at world k)) same ∙ ap node_of its_client_at.is ∙ ap (λ n. Some n) its_client_at.at;
            has = record {
              connection = tells.connection;
              at = ap (connection_at tells.front) same ∙ (tells.at).has;
              most = omega (arith, last, tells.count, one);
            };
          };
          last = last ∙ ap (λ k. length (law.story.told k) + 1) (sym same);
        }

    is_of : (id : AskId) (tag : Tag) (it : Command) → id ≡ open_id → numbered requests (length (law.story.told conn) + 1) ≡ Some (a_command tag it)
        → IsOf id tag it
    is_of id tag it e is =
        subst (λ (i : AskId). IsOf i tag it) (sym e)
        (subst (λ (r : List Request). numbered r (length (law.story.told conn) + 1) ≡ Some (a_command tag it)) (sym (law.requests conn)) is)

    -- an ask of it is taken
    ask_by : (ask : FrontAsk) → message ≡ Ask ask → (here : Place) → IsFoundIn (master_of config) tells.node open_id from to message here
        → IsAsked (fixed_of config) conn tells.node law.story requests here → IsThere (home_at world) here → AskTells from to ask
    ask_by ask is _ (in_ask server asking e1 e2 e3) (for_mailbox tag c its request knows) there =
        let same : ask ≡ asking = same_ask (sym is ∙ sym e3) in
        let own : ask ≡ its_ask c = same ∙ asked_of (fixed_of config) tells.node conn tag c law.story server asking knows in
        let number : ask.id ≡ open_id = ap (λ (a : FrontAsk). a.id) own ∙ its in
        record {
          tag = tag;
          c = c;
          asked = is_of ask.id tag c.it number request;
          ask_is = own;
          front = tells.front;
          at = ap (front_at world) (sym e1) ∙ (tells.at).at;
          home = there.0;
          there = ap (home_at world) (sym e2) ∙ there.1;
          under_way = begun_so ask.id number;
        }
    ask_by ask is _ (in_ask server asking e1 e2 e3) (for_names at barred) there = cc
    ask_by ask is _ (in_answer server answer e1 e2 e3) asked there = absurd (let no : Answer answer ≡ Ask ask = e3 ∙ is in cc)
    ask_by ask is _ (in_line me name flow e1 e2 e3) asked there = absurd (no_line _ ask (e3 ∙ is))
    ask_by ask is _ (in_response me name flow it e1 e2 e3) asked there = absurd (no_line _ ask (e3 ∙ is))
    ask_by ask is _ (in_noop e1 e2 e3) asked there = absurd (no_line _ ask (e3 ∙ is))
    ask_by ask is _ (in_ok table e1 e2 e3) asked there = absurd (no_line _ ask (e3 ∙ is))

    ask_so : (ask : FrontAsk) → message ≡ Ask ask → AskTells from to ask
    ask_so ask is = ask_by ask is tells.here found asked (tells.placed).there

    -- an answer to it is taken: it tells of no node that isn't reached
    answer_by : (answer : BackAnswer) → message ≡ Answer answer → (here : Place) → IsFoundIn (master_of config) tells.node open_id from to message here
        → IsAsked (fixed_of config) conn tells.node law.story requests here → (other : List ℕ) → answer.body ≢ Unreached other
    answer_by answer is _ (in_answer server found_there e1 e2 e3) (for_mailbox tag c its request knows) other = λ e.
        answer_plain (fixed_of config) tells.node conn tag c law.story server found_there knows other
        (ap (λ (a : BackAnswer). a.body) (same_answer (e3 ∙ is)) ∙ e)
    answer_by answer is _ (in_answer server found_there e1 e2 e3) (for_names at barred) other = cc
    answer_by answer is _ (in_ask server asking e1 e2 e3) asked other = absurd (let no : Ask asking ≡ Answer answer = e3 ∙ is in cc)
    answer_by answer is _ (in_line me name flow e1 e2 e3) asked other = absurd (no_answer_line _ answer (e3 ∙ is))
    answer_by answer is _ (in_response me name flow it e1 e2 e3) asked other = absurd (no_answer_line _ answer (e3 ∙ is))
    answer_by answer is _ (in_noop e1 e2 e3) asked other = absurd (no_answer_line _ answer (e3 ∙ is))
    answer_by answer is _ (in_ok table e1 e2 e3) asked other = absurd (no_answer_line _ answer (e3 ∙ is))

    answer_so : (answer : BackAnswer) → message ≡ Answer answer → (other : List ℕ) → answer.body ≢ Unreached other
    answer_so answer is = answer_by answer is tells.here found asked

    -- the master takes a line of it
    module _ (line : List ℕ) (id : AskId) (is : message ≡ Line line) (its : line_ask line ≡ Some id) (mine : to ≡ master_of config)
        (numbered_so : IsNumbered open_id) where
      noop_is : noop_of open_id ≡ message → line ≡ noop_line open_id
      noop_is e = same_line (sym is ∙ sym e)

      -- the NOOP of a command
      noop_id : noop_of open_id ≡ message → id ≡ open_id
      noop_id e = same_id (sym its ∙ ap line_ask (noop_is e) ∙ noop_tells open_id numbered_so)

      of_command_so : (tag : Tag) (c : ClientCommand) → numbered requests (length (law.story.told conn) + 1) ≡ Some (a_command tag c.it) → id ≡ open_id
          → LineTells id line
      of_command_so tag c request number = record { is_line = of_mailbox tag c (is_of id tag c.it number request); under_way = begun_so id number }

      line_by : (here : Place) → IsFoundIn (master_of config) tells.node open_id from to message here
          → IsAsked (fixed_of config) conn tells.node law.story requests here → IsThere (home_at world) here → LineTells id line
      line_by _ (in_noop e1 e2 e3) (for_mailbox tag c own request knows) there = of_command_so tag c request (noop_id e3)
      line_by _ (in_noop e1 e2 e3) (for_names at barred) there =
          record { is_line = of_names (noop_is e3 ∙ ap noop_line (sym (noop_id e3))); under_way = begun_so id (noop_id e3) }
      line_by _ (in_line me name flow e1 e2 e3) (for_mailbox tag c own request knows) there =
          let number : flow.ask ≡ open_id = (sent_of (fixed_of config) tells.node conn tag c law.story me name flow knows).its ∙ own in
          let told : its_command (flow_message me name flow) ≡ Some open_id =
          own_command flow.ask (stage_command me name flow.stage) ∙ ap (λ (a : AskId). ask_id_of (tag_of a)) number
          ∙ ask_again open_id numbered_so.0 numbered_so.1 in
          of_command_so tag c request (same_id (sym its ∙ ap its_command (sym is ∙ sym e3) ∙ told))
      line_by _ (in_line me name flow e1 e2 e3) (for_names at barred) there = cc
      line_by _ (in_ask server asking e1 e2 e3) asked there = absurd (let no : Ask asking ≡ Line line = e3 ∙ is in cc)
      line_by _ (in_answer server answer e1 e2 e3) asked there = absurd (let no : Answer answer ≡ Line line = e3 ∙ is in cc)
      line_by _ (in_response me name flow it e1 e2 e3) asked there =
          absurd ((law.many.each me.server there.0 there.1).apart (e2 ∙ mine ∙ sym law.nodes.me))
      line_by _ (in_ok table e1 e2 e3) asked there = absurd (its_front.no_master (e2 ∙ mine))

    line_so : (line : List ℕ) (id : AskId) → message ≡ Line line → line_ask line ≡ Some id → to ≡ master_of config → NumbersFit heard → LineTells id line
    line_so line id is its mine fits =
        let numbered_so : IsNumbered open_id =
        waits_fit (fixed_of config) conn tells.node tells.front tells.connection world law.story (law.stops conn) (heard conn) tells.here
        (asked_fit config heard world law fits) tells.at tells.who in
        line_by line id is its mine numbered_so tells.here found asked (tells.placed).there

  pub ask_tells : (from to : List ℕ) (ask : FrontAsk) (rest : List LinkMsg) → on_link world.links from to ≡ Ask ask ∷ rest → AskTells from to ask
  unfolding is_over
  ask_tells from to ask rest first = ask_so from to (Ask ask) rest first (ask.id).conn refl refl ask refl

  pub answer_is_plain : (from to : List ℕ) (answer : BackAnswer) (rest : List LinkMsg) → on_link world.links from to ≡ Answer answer ∷ rest → (other : List ℕ)
      → answer.body ≢ Unreached other
  unfolding is_over
  answer_is_plain from to answer rest first = answer_so from to (Answer answer) rest first (answer.id).conn refl refl answer refl

  -- of a command that isn't over
  pub line_tells : (from to line : List ℕ) (rest : List LinkMsg) (id : AskId) → on_link world.links from to ≡ Line line ∷ rest → line_ask line ≡ Some id
      → length (law.story.told id.conn) + 1 ≤ id.command → to ≡ master_of config → NumbersFit heard → LineTells id line
  line_tells from to line rest id first its on mine fits =
      line_so from to (Line line) rest first id.conn (ap about_command its) (line_on (length (law.story.told id.conn) + 1) line id its on) line id refl its mine fits
