-- A line about a command that is on its way from a frontend to the master is the NOOP of a command that waited for the master's OK as it was sent, whatever
-- became of the command since.
use Rattle.std.proofs.Common.{◌≡◌, ◌≢◌, ℕ, zero, suc, ◌+◌, Bool, true, false, List, [], ◌∷◌, ◌++◌, length, drop, take, if◌then◌else◌, filter, Option, None, Some}
use Rattle.std.proofs.Common.{refl, sym, ◌∙◌, ap, subst, arith, append-nil, append_assoc}
use Rattle.std.specs.Prelude.{All, is_some}
use Rattle.std.specs.Ordering.{nat_cmp}
use Rattle.std.specs.Cmp.Lexicographic.{slice_cmp}
use Rattle.std.proofs.Math.Logic.{⊎_elim}
use Rattle.std.proofs.lemmas.List.Elements.{All-append, All-cons, All-head, All-nil, All-tail, All-weaker}
use Rattle.ask_routes.specs.Barrier.{noop_line}
use Rattle.feed_core.specs.Stream.{update_line}
use Rattle.front_core.specs.declared.connection.Connection.{Connection}
use Rattle.front_core.specs.declared.connection.Stage.{Stage}
use Rattle.front_core.specs.declared.front.Front.{Front}
use Rattle.front_core.specs.Front.{connection_at}
use Rattle.front_core.proofs.OneConnection.Places.{about_command, is_about, none_over, of_connection, of_no_command, own_about, update_nobodys}
use Rattle.imap_talk.specs.Heard.{Heard}
use Rattle.imap_talk.specs.Transcript.{Stop}
use Rattle.link_msg.specs.declared.message.LinkMsg.{LinkMsg}
use Rattle.link_msg.specs.declared.message.LinkMsg.TheVariants.{Up, End, Line}
use Rattle.link_queue.specs.Links.{Links, on_link, same_link}
use Rattle.mupdate_codec.specs.Asks.{line_ask}
use Rattle.mur_base.specs.declared.point.AskId.{AskId}
use Rattle.mur_base.proofs.MapLaws.{names_apart, same_or_other}
use Rattle.mur_config.specs.declared.config.Config.{Config}
use Rattle.mur_config.specs.Nodes.{AreNodes}
use Rattle.node_step.specs.declared.node.NodeState.TheVariants as state
use Rattle.node_step.proofs.NodeKinds.{front_is}
use Rattle.route_links.specs.Answered.{IsNumbered}
use Rattle.route_links.proofs.Tags.{noop_tells}
use Rattle.schedule_text.specs.declared.event.Event.{Event}
use Rattle.schedule_text.specs.declared.event.Event.TheVariants.{Deliver, Cut, Join}
use Rattle.cluster_core.specs.Flow.{run_steps}
use Rattle.cluster_core.specs.Headline.Asks.{AsksRightly, IsNeeded, IsRightLine, IsRightlySent, taken_by}
use Rattle.cluster_core.specs.Headline.Asks.IsNeeded.{to_list, is_put_off, is_unknown}
use Rattle.cluster_core.specs.Headline.Asks.IsRightLine.{is_noop, is_update}
use Rattle.cluster_core.specs.Headline.OneNode.{ChangesLinks, OnlyWorks, WorksBy, leaves_on, node_of, relinked, relinks, up_on, worker}
use Rattle.cluster_core.specs.Heard.{heard}
use Rattle.cluster_core.specs.Numbers.{NumbersFitAll}
use Rattle.cluster_core.specs.World.{client_at, front_at, master_of, node_at, start}
use Rattle.cluster_core.specs.declared.world.Client.{Client}
use Rattle.cluster_core.specs.declared.world.World.{World}
use Rattle.cluster_core.proofs.Asking.AsksLaw.{know_first, step_rightly}
use Rattle.cluster_core.proofs.Connections.KeepsLaw.{ConnectionIs, IsAt, KeepsLaw, fixed_of}
use Rattle.cluster_core.proofs.Connections.KeepsLaw.ConnectionIs.{is_nobody, is_elsewhere, is_open, is_cut_off, is_closed}
use Rattle.cluster_core.proofs.Keeps.Numbers.{asked_fit}
use Rattle.cluster_core.proofs.Links.StandLaw.{ups_in_order}
use Rattle.cluster_core.proofs.OneServer.EachStep.{LawBehind}
use Rattle.cluster_core.proofs.Routing.Begun.{IsBegun}
use Rattle.cluster_core.proofs.Routing.FrontTells.{begun_at}
use Rattle.cluster_core.proofs.Runs.NeverMoved.{never_moved}
use Rattle.cluster_core.proofs.Runs.OneNodeLaw.{one_more_step, one_node_each}
use Rattle.cluster_core.proofs.Runs.OwnClientsLaw.{run_own, start_own}
use Rattle.cluster_core.proofs.Starts.Begins.{start_quiet}

-- ---- a connection that is at a frontend

same_front : {one other : Front} → Some one ≡ Some other → one ≡ other
same_front e = cc

same_connection : {one other : Connection} → Some one ≡ Some other → one ≡ other
same_connection e = cc

same_client : {one other : Client} → Some one ≡ Some other → one ≡ other
same_client e = cc

module _ (config : Config) (came : ℕ → Heard) (world : World) (law : KeepsLaw config came world) (conn : ℕ) (node : List ℕ) (front : Front)
    (connection : Connection) (at : IsAt world conn node front connection) (client : Client) (is : client_at world conn ≡ Some client)
    (there : client.at ≡ node) where
  -- where its client is connected one frontend has it
  counted_at : (here : List ℕ) (other : Front) (it : Connection) (its : Client) → IsAt world conn here other it → client_at world conn ≡ Some its
      → its.at ≡ here → it.answered ≡ length (law.story.told conn) → connection.answered ≡ length (law.story.told conn)
  counted_at here other it its is_at found its_at count =
      let clients : client ≡ its = same_client (sym is ∙ found) in
      let nodes : node ≡ here = sym there ∙ ap (λ (c : Client). c.at) clients ∙ its_at in
      let fronts : front ≡ other = same_front (sym at.at ∙ ap (front_at world) nodes ∙ is_at.at) in
      let connections : connection ≡ it = same_connection (sym at.has ∙ ap (λ f. connection_at f conn) fronts ∙ is_at.has) in
      ap (λ (c : Connection). c.answered) connections ∙ count

  counted_by : (stop : Stop) (was : Heard) → ConnectionIs (fixed_of config) conn world law.story stop was
      → connection.answered ≡ length (law.story.told conn)
  counted_by _ _ (is_nobody none nowhere untold) = absurd (let no : None ≡ Some client = sym none ∙ is in cc)
  counted_by _ _ (is_elsewhere here bytes found none untold) =
      absurd (let clients : record { at = here; given = bytes } ≡ client = same_client (sym found ∙ is) in
      let nodes : here ≡ node = ap (λ (c : Client). c.at) clients ∙ there in
      let no : None ≡ Some front = sym none ∙ ap (front_at world) nodes ∙ at.at in cc)
  counted_by _ _ (is_open bytes here other it is_at reader standing) = counted_at here other it _ is_at standing.client refl standing.count
  counted_by _ _ (is_cut_off bytes here other it is_at gone unanswered) = counted_at here other it _ is_at gone.client refl gone.count
  counted_by stop _ (is_closed _ bytes here other it is_at gone) = counted_at here other it _ is_at gone.client refl gone.count

  -- so many of its commands were answered as its client was told of
  answered_told : connection.answered ≡ length (law.story.told conn)
  answered_told = counted_by (law.stops conn) (came conn) (law.connections conn)

-- ---- what stands on a link

all_taken : {T : Type 0} (P : T → Type 0) (count : ℕ) (items : List T) → All P items → All P (take count items)
all_taken P zero items all = All-nil P
all_taken P (suc count) [] all = All-nil P
all_taken P (suc count) (item ∷ items) all =
    All-cons P item (take count items) (All-head P item items all) (all_taken P count items (All-tail P item items all))

all_dropped : {T : Type 0} (P : T → Type 0) (items : List T) → All P items → All P (drop 1 items)
all_dropped P [] all = all
all_dropped P (item ∷ items) all = All-tail P item items all

module _ (P : LinkMsg → Type 0) where
  first_left : (same : Bool) (queue : List LinkMsg) → All P queue → All P (if same then drop 1 queue else queue)
  first_left true queue all = all_dropped P queue all
  first_left false queue all = all

  all_left : (event : Event) (from to : List ℕ) (queue : List LinkMsg) → All P queue → All P (leaves_on event from to queue)
  all_left (Deliver name other) from to queue all = first_left (same_link from to name other) queue all
  all_left event from to queue all = all

  -- a link breaks, or comes up
  module _ (ends : P End) (comes_up : P Up) where
    ended : (count : ℕ) (queue : List LinkMsg) → All P queue → All P (take count queue ++ End ∷ [])
    ended count queue all = All-append P (take count queue) (End ∷ []) (all_taken P count queue all) (All-cons P End [] ends (All-nil P))

    cut_by : (one other : Bool) (kept kept_back : ℕ) (queue : List LinkMsg) → All P queue
        → All P (if one then take kept queue ++ End ∷ [] else (if other then take kept_back queue ++ End ∷ [] else queue))
    cut_by true other kept kept_back queue all = ended kept queue all
    cut_by false true kept kept_back queue all = ended kept_back queue all
    cut_by false false kept kept_back queue all = all

    up_by : (same : Bool) → All P (if same then Up ∷ [] else [])
    up_by true = All-cons P Up [] comes_up (All-nil P)
    up_by false = All-nil P

    all_relinked : (event : Event) (from to : List ℕ) (queue : List LinkMsg) → All P queue → All P (relinked event from to queue)
    all_relinked (Cut one other kept kept_back) from to queue all = cut_by (same_link from to one other) (same_link from to other one) kept kept_back queue all
    all_relinked (Join one other) from to queue all =
        All-append P (queue ++ up_on one other from to) (up_on other one from to)
        (All-append P queue (up_on one other from to) all (up_by (same_link from to one other))) (up_by (same_link from to other one))
    all_relinked event from to queue all = all

none_about : (is : LinkMsg → Bool) (queue : List LinkMsg) → filter is queue ≡ [] → All (λ message. is message ≡ false) queue
none_about is [] none = All-nil (λ message. is message ≡ false)
none_about is (message ∷ queue) none = by (is message) refl none (none_about is queue)
  where
    by : (b : Bool) → is message ≡ b → (if b then message ∷ filter is queue else filter is queue) ≡ []
        → (filter is queue ≡ [] → All (λ m. is m ≡ false) queue) → All (λ m. is m ≡ false) (message ∷ queue)
    by true e some rest = cc
    by false e some rest = All-cons (λ m. is m ≡ false) message queue e (rest some)

-- ---- a line about a command was sent in an earlier step

record IsSent (config : Config) (steps : List Event) (from line : List ℕ) : Type 0 where
  before : List Event
  event : Event
  later : List Event
  parts : steps ≡ before ++ event ∷ later
  right : (front : Front) → front_at (run_steps (start config) (before ++ event ∷ [])) from ≡ Some front
      → IsRightLine (taken_by event (run_steps (start config) before)) front line

abbrev IsSentSo : Config → List Event → List ℕ → LinkMsg → Type 0
IsSentSo config steps from message = (line : List ℕ) (id : AskId) → message ≡ Line line → line_ask line ≡ Some id → IsSent config steps from line

abbrev AllSent : Config → List Event → Type 0
AllSent config steps = (from to : List ℕ) → All (IsSentSo config steps from) (on_link (run_steps (start config) steps).links from to)

still_sent : (config : Config) (steps : List Event) (event : Event) (from : List ℕ) (message : LinkMsg) → IsSentSo config steps from message
    → IsSentSo config (steps ++ event ∷ []) from message
still_sent config steps event from message sent = λ line id is its.
    let one = sent line id is its in
    record {
      before = one.before;
      event = one.event;
      later = one.later ++ event ∷ [];
      parts = ap (λ s. s ++ event ∷ []) one.parts ∙ append_assoc one.before (one.event ∷ one.later) (event ∷ []);
      right = one.right;
    }

module _ (config : Config) (are : AreNodes config.nodes) where
  none_first : AllSent config []
  unfolding run_steps
  none_first from to =
      All-weaker (λ (m : LinkMsg). (conn : ℕ) → is_about 0 (of_connection conn) m ≡ false) (IsSentSo config [] from)
      (λ m none line id is its.
      absurd (let own : is_about 0 (of_connection id.conn) (Line line) ≡ true =
      own_about 0 (of_connection id.conn) (Line line) (ap about_command its) (none_over (Line line)) in
      let no : true ≡ false = sym own ∙ ap (is_about 0 (of_connection id.conn)) (sym is) ∙ none id.conn in cc))
      (on_link (start config).links from to)
      (λ k d h conn.
      none_about (is_about 0 (of_connection conn)) (on_link (start config).links from to) ((start_quiet config are).placed conn from to) k d h)

  module _ (before : List Event) (event : Event) (law : LawBehind config before) (all : AllSent config before) where
    abbrev world : World
    world = run_steps (start config) before

    abbrev next : World
    next = run_steps (start config) (before ++ event ∷ [])

    abbrev SentThen : List ℕ → LinkMsg → Type 0
    SentThen from message = IsSentSo config (before ++ event ∷ []) from message

    end_sent : (from : List ℕ) → SentThen from End
    end_sent from = λ line id is its. cc

    up_sent : (from : List ℕ) → SentThen from Up
    up_sent from = λ line id is its. cc

    still : (from to : List ℕ) → All (SentThen from) (on_link world.links from to)
    still from to =
        All-weaker (IsSentSo config before from) (SentThen from) (λ m sent. still_sent config before event from m sent) (on_link world.links from to)
        (all from to)

    rightly : AsksRightly config.nodes event world next
    rightly =
        subst (AsksRightly config.nodes event world) (sym (one_more_step (start config) before event))
        (step_rightly config.nodes (master_of config) world event
        (know_first config world are (λ node front at. ((law.nodes.fronts node front at).first_is, ups_in_order config before are node front at)))
        (never_moved config before are))

    sent_now : (from to : List ℕ) (more : List LinkMsg) → All (IsRightlySent config.nodes (taken_by event world) (front_at next from) to) more
        → All (SentThen from) more
    sent_now from to more rightly =
        All-weaker (IsRightlySent config.nodes (taken_by event world) (front_at next from) to) (SentThen from)
        (λ m right line id is its. record {
          before = before;
          event = event;
          later = [];
          parts = refl;
          right = λ front there. (subst (IsRightlySent config.nodes (taken_by event world) (front_at next from) to) is right front there).1;
        })
        more rightly

    links_change : (changes : Bool) → ChangesLinks changes event world next → (from to : List ℕ) → All (SentThen from) (on_link next.links from to)
    links_change true only from to =
        subst (All (SentThen from)) (sym (only.queues from to))
        (all_relinked (SentThen from) (end_sent from) (up_sent from) event from to (on_link world.links from to) (still from to))
    links_change false same from to =
        subst (λ (l : Links LinkMsg). All (SentThen from) (on_link l from to)) (sym (ap (λ (w : World). w.links) same)) (still from to)

    one_works : (node : List ℕ) → worker world event ≡ Some node → OnlyWorks event node world next → (from to : List ℕ)
        → All (SentThen from) (on_link next.links from to)
    one_works node works only from to = ⊎_elim
        (λ (e : from ≡ node).
        let sends = only.sends to in
        subst (λ (n : List ℕ). All (SentThen n) (on_link next.links n to)) (sym e)
        (subst (All (SentThen node)) (sym sends.behind)
        (All-append (SentThen node) (leaves_on event node to (on_link world.links node to)) sends.more
        (all_left (SentThen node) event node to (on_link world.links node to) (still node to))
        (sent_now node to sends.more (rightly node to sends.more works sends.behind)))))
        (λ (ne : from ≢ node).
        subst (All (SentThen from)) (sym (only.stays from to ne))
        (all_left (SentThen from) event from to (on_link world.links from to) (still from to)))
        (same_or_other (slice_cmp nat_cmp) names_apart from node)

    by_worker : (works : Option (List ℕ)) → worker world event ≡ works → WorksBy event works world next → (from to : List ℕ)
        → All (SentThen from) (on_link next.links from to)
    by_worker None is changes from to = links_change (relinks world event) changes from to
    by_worker (Some node) is only from to = one_works node is only from to

    next_sent : AllSent config (before ++ event ∷ [])
    next_sent from to =
        by_worker (worker world event) refl (one_node_each (start config) (before ++ event ∷ []) before event [] refl).works from to

  module _ (steps : List Event) (laws : (before later : List Event) → steps ≡ before ++ later → LawBehind config before) where
    sent_behind : (before rest later : List Event) → steps ≡ (before ++ rest) ++ later → AllSent config before → AllSent config (before ++ rest)
    sent_behind before [] later parts all = subst (AllSent config) (sym (append-nil before)) all
    sent_behind before (event ∷ rest) later parts all =
        subst (AllSent config) (append_assoc before (event ∷ []) rest)
        (sent_behind (before ++ event ∷ []) rest later (parts ∙ ap (λ s. s ++ later) (sym (append_assoc before (event ∷ []) rest)))
        (next_sent before event (laws before ((event ∷ rest) ++ later) (parts ∙ append_assoc before (event ∷ rest) later)) all))

    all_sent : (before later : List Event) → steps ≡ before ++ later → AllSent config before
    all_sent before later parts = sent_behind [] before later parts none_first

-- ---- it was the NOOP of a command that waited

-- one that waits for the master's OK has begun
needed_begun : (taken : Option LinkMsg) (recs : _) (id : AskId) (stage : Stage) → IsNeeded taken recs id stage → begun_at stage ≡ 1
needed_begun taken recs id stage (to_list tag listing is) = ap begun_at is
needed_begun taken recs id stage (is_unknown tag it is at none other) = ap begun_at is
needed_begun taken recs id stage (is_put_off tag it is at from) = ap begun_at is

just : {one other : AskId} → Some one ≡ Some other → one ≡ other
just e = cc

-- behind these steps, which are the first of a run's, its frontend had sent it
pub record IsBarred (config : Config) (steps : List Event) (laws : (before later : List Event) → steps ≡ before ++ later → LawBehind config before)
    (whole : List Event) (id : AskId) (line : List ℕ) : Type 0 where
  pub before : List Event
  pub later : List Event
  pub parts : steps ≡ before ++ later
  pub rest : List Event
  pub front_of : whole ≡ before ++ rest
  pub line_is : line ≡ noop_line id
  pub begun : IsBegun (run_steps (start config) before) id
  pub number : id.command ≡ length ((laws before later parts).story.told id.conn) + 1

its_client : (world : World) (node : List ℕ) (conn : ℕ) (found : Option Client) → client_at world conn ≡ found → node_of found ≡ Some node
    → (client : Client) × (client_at world conn ≡ Some client) × (client.at ≡ node)
its_client world node conn None at is = cc
its_client world node conn (Some client) at is = (client, at, (let same : client.at ≡ node = cc in same))

still_front : (found : Option Front) → is_some found ≡ true → (front : Front) × (found ≡ Some front)
still_front None some = cc
still_front (Some front) some = (front, refl)

module _ (config : Config) (are : AreNodes config.nodes) (steps : List Event)
    (laws : (before later : List Event) → steps ≡ before ++ later → LawBehind config before) (fit : NumbersFitAll config steps) where
  abbrev at : List Event → World
  at before = run_steps (start config) before

  module _ (whole last : List Event) (whole_parts : steps ≡ whole ++ last) (from line : List ℕ) (id : AskId) (its : line_ask line ≡ Some id)
      (sender : Front) (there : front_at (at whole) from ≡ Some sender) (sent : IsSent config whole from line) where
    abbrev then_steps : List Event
    then_steps = sent.before ++ sent.event ∷ []

    abbrev after : List Event
    after = sent.later ++ last

    whole_is : whole ≡ then_steps ++ sent.later
    whole_is = sent.parts ∙ sym (append_assoc sent.before (sent.event ∷ []) sent.later)

    then_parts : steps ≡ then_steps ++ after
    then_parts = whole_parts ∙ ap (λ s. s ++ last) whole_is ∙ append_assoc then_steps sent.later last

    abbrev law_then : LawBehind config then_steps
    law_then = laws then_steps after then_parts

    front_then : (front : Front) × (front_at (at then_steps) from ≡ Some front)
    front_then =
        still_front (front_at (at then_steps) from)
        (law_then.nodes.frontends from ∙ sym ((laws whole last whole_parts).nodes.frontends from) ∙ ap is_some there)

    is_node : node_at (at then_steps) from ≡ Some (state.Front front_then.0)
    is_node = front_is (node_at (at then_steps) from) front_then.0 front_then.1

    barred_by : IsRightLine (taken_by sent.event (at sent.before)) front_then.0 line → IsBarred config steps laws whole id line
    barred_by (is_update e taken) =
        absurd (let no : None ≡ Some id = sym (of_no_command (line_ask update_line) update_nobodys) ∙ ap line_ask (sym e) ∙ its in cc)
    barred_by (is_noop other e waits) =
        let client = run_own (start config) then_steps (start_own config) from (state.Front front_then.0) is_node other.conn waits.connection waits.there in
        let is = its_client (at then_steps) from other.conn (client_at (at then_steps) other.conn) refl client in
        let is_at : IsAt (at then_steps) other.conn from front_then.0 waits.connection = record { at = front_then.1; has = waits.there } in
        let count : (waits.connection).answered ≡ length (law_then.story.told other.conn) =
        answered_told config (λ conn. heard config conn then_steps) (at then_steps) law_then other.conn from front_then.0 waits.connection is_at is.0 is.1
        is.2 in
        let number : other.command ≡ length (law_then.story.told other.conn) + 1 = waits.number ∙ ap (λ n. n + 1) count in
        let numbered : IsNumbered other =
        subst (λ n. IsNumbered (record { conn = other.conn; command = n })) (sym number)
        (asked_fit config (λ conn. heard config conn then_steps) (at then_steps) law_then (fit then_steps after then_parts) other.conn from front_then.0
        waits.connection is_at is.0 is.1 is.2) in
        let same : id ≡ other = just (sym its ∙ ap line_ask e ∙ noop_tells other numbered) in
        record {
          before = then_steps;
          later = after;
          parts = then_parts;
          rest = sent.later;
          front_of = whole_is;
          line_is = e ∙ ap noop_line (sym same);
          begun = subst (IsBegun (at then_steps)) (sym same)
              (record {
                node = from;
                front = front_then.0;
                at = is_node;
                client = client;
                has = record {
                  connection = waits.connection;
                  at = waits.there;
                  most = omega (arith, waits.number, needed_begun _ _ other (waits.connection).stage waits.needed);
                };
              });
          number = subst (λ (i : AskId). i.command ≡ length (law_then.story.told i.conn) + 1) (sym same) number;
        }

    barred : IsBarred config steps laws whole id line
    barred = barred_by (sent.right front_then.0 front_then.1)

  -- the first message of the link
  pub line_barred : (whole last : List Event) (parts : steps ≡ whole ++ last) (from to line : List ℕ) (rest : List LinkMsg) (id : AskId)
      → on_link (at whole).links from to ≡ Line line ∷ rest → line_ask line ≡ Some id → (sender : Front) → front_at (at whole) from ≡ Some sender
      → IsBarred config steps laws whole id line
  line_barred whole last parts from to line rest id first its sender there =
      barred whole last parts from line id its sender there
      (All-head (IsSentSo config whole from) (Line line) rest
      (subst (All (IsSentSo config whole from)) first (all_sent config are steps laws whole last parts from to)) line id refl its)
