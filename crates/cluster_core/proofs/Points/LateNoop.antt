-- The master takes the first message of a frontend whose link is broken: a NOOP, UPDATE, or where the link goes up or down. What it answers is lost. Where it is the
-- NOOP of the command that waits, the step sees the command, of which nothing is on its way then; the NOOP of a command of which its client was told counts for nothing.
use Rattle.std.proofs.Common.{◌≡◌, ◌≢◌, ◌⊎◌, inl, inr, ℕ, ◌+◌, ◌≤◌, ◌&&◌, Bool, true, false, nat_eq, nat_lt, List, [], ◌∷◌, ◌++◌, filter, length, Option, None, Some, if◌then◌else◌, refl, sym, ◌∙◌, ap, subst, arith, append-nil}
use Rattle.std.proofs.Math.Logic.{⊎_elim}
use Rattle.std.proofs.lemmas.Bool.{cases_eq}
use Rattle.std.proofs.lemmas.Bool.Decides.{nat_tests}
use Rattle.std.proofs.lemmas.List.Elements.{All-head, All-tail}
use Rattle.std.specs.Cmp.Lexicographic.{slice_cmp}
use Rattle.std.specs.Ordering.{nat_cmp}
use Rattle.asking_core.specs.declared.waiting.At.{At}
use Rattle.cluster_core.specs.World.{comes, comes_to, front_at, home_at, master_of, node_at, not_lost, setting_of, taken_from_link}
use Rattle.cluster_core.specs.declared.world.Client.{Client}
use Rattle.cluster_core.specs.declared.world.World.{World}
use Rattle.feed_core.specs.declared.replica.Replica.{Replica}
use Rattle.feed_core.specs.Stream.{update_line}
use Rattle.feed_links.specs.Lines.{messages_to}
use Rattle.feed_links.specs.OneFeed.{AreNoopsOrUps, IsFed, IsFrontsOwn, IsNoop, IsNoopOrUp, IsUpOrEnd}
use Rattle.feed_links.specs.OneFeed.IsFrontsOwn.{its_link, its_noop, its_update}
use Rattle.front_core.proofs.OneConnection.Places.{About, IsPlaced, about, about_command, first_of, is_about, is_below, is_over, none_over, not_about, of_connection, of_nobody, over_about, over_or, own_about, update_nobodys}
use Rattle.front_core.specs.declared.front.Front.{Front}
use Rattle.front_core.specs.Ups.{is_up}
use Rattle.imap_talk.specs.Heard.{Heard}
use Rattle.imap_types.specs.declared.request.Answer.{Answer}
use Rattle.imap_types.specs.declared.request.Request.TheVariants.{Command as a_command}
use Rattle.link_msg.specs.declared.counts.Counts.TheVariants.{IfAnswered}
use Rattle.link_msg.specs.declared.message.LinkMsg.{LinkMsg}
use Rattle.link_msg.specs.declared.message.LinkMsg.TheVariants.{Up, End, Line, Ask, Answer as answer_of}
use Rattle.link_msg.specs.declared.out.Out.{Out}
use Rattle.link_msg.specs.declared.out.Out.TheVariants.{Client as to_client, Close, Link, Mark as mark_out, Told as tell}
use Rattle.link_queue.proofs.Placed.{Carried, another_taken}
use Rattle.link_queue.specs.Broken.{Broken, is_broken}
use Rattle.link_queue.specs.Links.{Links, on_link, without_first}
use Rattle.many_links.specs.ManyHold.{ManyHold}
use Rattle.many_links.specs.Murder.{Murder, master_takes as murder_takes, put_all}
use Rattle.many_links.proofs.Carried.{puts_else, puts_own, taken_else, taken_first}
use Rattle.many_links.proofs.FrontLaw.{alike_hold}
use Rattle.many_links.proofs.FrontOuts.{AreItsOuts, IsItsOut, front_outs, noop_outs, noop_says, others_unsent}
use Rattle.many_links.proofs.MasterLaw.{frontends_keep_many}
use Rattle.mark_history.specs.History.{is_of}
use Rattle.mark_history.specs.Marked.{Tale, last_mark, last_mark_from, talk_told}
use Rattle.mark_history.specs.declared.mark.Mark.{Mark}
use Rattle.master_core.specs.declared.master.Master.{Master}
use Rattle.master_core.specs.Linked.{node_says}
use Rattle.master_core.specs.Outside.{Stepped}
use Rattle.mupdate_codec.specs.declared.command.MCommand.TheVariants as command
use Rattle.mupdate_codec.specs.Asks.{ask_id_of, line_ask}
use Rattle.mupdate_codec.proofs.LineAsks.{command_tells}
use Rattle.mupdate_codec.proofs.WholeLaw.{is_line}
use Rattle.mur_base.proofs.MapLaws.{names_apart, same_or_other}
use Rattle.mur_base.specs.Map.{value_at}
use Rattle.mur_base.specs.declared.point.AskId.{AskId}
use Rattle.mur_config.specs.declared.config.Config.{Config}
use Rattle.mur_model.specs.declared.store.Store.{Store}
use Rattle.mur_model.specs.History.{numbered}
use Rattle.mur_model.proofs.HistoryGrows.{same_talk}
use Rattle.name_commands.specs.Whose.{its_command}
use Rattle.node_step.proofs.NodeKinds.{master_is}
use Rattle.node_step.specs.NodeStep.{master_takes, takes as node_takes}
use Rattle.node_step.specs.declared.input.NodeInput.TheVariants.{From}
use Rattle.node_step.specs.declared.node.NodeState.TheVariants as state
use Rattle.route_links.specs.Answered.{IsNumbered, noop_of}
use Rattle.route_links.specs.Barriers.{AreOfOthers, AsksMaster, HasNoBarrier, IsBarrierAt, IsOfOther, Place as Barrier, Place as barrier}
use Rattle.route_links.proofs.BarrierLaw.{up_taken}
use Rattle.route_links.proofs.Tags.{noop_tells}
use Rattle.cluster_core.proofs.Commands.AllReached.{AreMarkedSo, sees, sees_late}
use Rattle.cluster_core.proofs.Commands.InPlace.{IsThere}
use Rattle.cluster_core.proofs.Commands.Knows.KnowsNames.{is_gone, is_listed, not_yet}
use Rattle.cluster_core.proofs.Commands.Place.{Place, at_barrier, its_message, Place as place}
use Rattle.cluster_core.proofs.Commands.Standing.{Fixed, WaitsAt, next_id}
use Rattle.cluster_core.proofs.Connections.ConnectionLaw.{IsInNoneOf, IsInPlaceOf, says_same}
use Rattle.cluster_core.proofs.Connections.KeepsLaw.{AreNodesOf, ConnectionIs, FeedsHold, KeepsLaw, KeepsOn, fixed_of, murder_of}
use Rattle.cluster_core.proofs.Connections.Tales.{others_marked}
use Rattle.cluster_core.proofs.Feeds.FrontAsks.{late_feeds}
use Rattle.cluster_core.proofs.Nodes.AllCome.{all_come, master_all_come}
use Rattle.cluster_core.proofs.Nodes.Carried.{IsMade, given_all, given_out, is_made, marks_made}
use Rattle.cluster_core.proofs.Nodes.Comes.{MasterMoved, master_moved, with_master, wrote}
use Rattle.cluster_core.proofs.Nodes.Stay.{master_keeps_nodes, same_nodes}
use Rattle.cluster_core.proofs.Nodes.Thins.{all_sent, comes_thinned, none_sent}
use Rattle.cluster_core.proofs.Places.FrontSends.{about_noop, noop_on}
use Rattle.cluster_core.proofs.Places.Stays.{HomesAlike, barrier_alike, home_apart, shows_alike}
use Rattle.cluster_core.proofs.Links.Thinned.{IsThinned}
use Rattle.cluster_core.proofs.Steps.Heads.{here_at}
use Rattle.cluster_core.proofs.Steps.Murders.{in_none_alike, in_place_alike}
use Rattle.cluster_core.proofs.Points.Acts.{home_mark, seen_so}
use Rattle.cluster_core.proofs.Points.Found.{IsFoundIn, found_in, from_is, in_answer, in_ask, in_line, in_noop, in_ok, in_response, message_is, to_is}
use Rattle.cluster_core.proofs.Points.ListWaits.{ListWaits, NamesOf, each_list_waits}
use Rattle.cluster_core.proofs.Points.Marks.{nobodys_mark_none}
use Rattle.cluster_core.proofs.Points.Untouched.{untouched}
use Rattle.cluster_core.proofs.Points.Waits.{AskedFit, BringsNothing, CommandWaits, TellsPlace, Whose, each_command_waits, first_tells, is_open_there, of_command, of_list, waits_fit, whom_barred}

-- ---- the first message of a frontend

-- a line of nobody has no command
none_asked : (found : Option AskId) → about_command found ≡ of_nobody → found ≡ None
none_asked None e = refl
none_asked (Some id) e = cc

pub nobody_none : (message : LinkMsg) → about message ≡ of_nobody → its_command message ≡ None
nobody_none Up e = refl
nobody_none End e = refl
nobody_none (Line bytes) e = none_asked (line_ask bytes) e
nobody_none (Ask ask) e = cc
nobody_none (answer_of answer) e = cc

module _ (conn : ℕ) where
  abbrev Own : LinkMsg → Type 0
  Own message = about message ≡ of_connection conn

  no_update : (message : LinkMsg) → message ≡ Line update_line → Own message → ⊥
  no_update message is own = (let no : of_nobody ≡ of_connection conn = sym update_nobodys ∙ ap about (sym is) ∙ own in cc)

  no_up : (message : LinkMsg) → message ≡ Up → Own message → ⊥
  no_up message is own = (let no : of_nobody ≡ of_connection conn = ap about (sym is) ∙ own in cc)

  no_link : (message : LinkMsg) → IsUpOrEnd message → Own message → ⊥
  no_link message (inl up) own = no_up message up own
  no_link message (inr end) own = (let no : of_nobody ≡ of_connection conn = ap about (sym end) ∙ own in cc)

  by_own : (message : LinkMsg) → IsFrontsOwn message → Own message → IsNoop message
  by_own message (its_noop noop) own = noop
  by_own message (its_update is) own = absurd (no_update message is own)
  by_own message (its_link is) own = absurd (no_link message is own)

  by_either : (message : LinkMsg) → IsNoopOrUp message → Own message → IsNoop message
  by_either message (inl noop) own = noop
  by_either message (inr up) own = absurd (no_up message up own)

  before_update : (message : LinkMsg) (up before behind : List LinkMsg) → message ∷ up ≡ before ++ Line update_line ∷ behind → AreNoopsOrUps before → Own message
      → IsNoop message
  before_update message up [] behind is are own = absurd (no_update message (let same : message ≡ Line update_line = cc in same) own)
  before_update message up (b ∷ before) behind is are own =
      by_either message (let same : b ≡ message = cc in subst IsNoopOrUp same are.0) own

  -- what is about a connection is a NOOP
  asks_noop : (master : Master) (node : List ℕ) (broken reached : Bool) (message : LinkMsg) (up down : List LinkMsg) (replica : Replica)
      → IsFed master node broken reached (message ∷ up) down replica → Own message → IsNoop message
  asks_noop master node broken reached message up down replica (IsFed.asks whole there before behind is one two lines none empty no_stream) own =
      before_update message up before behind is one own
  asks_noop master node broken reached message up down replica (IsFed.is_told whole there are lines told stream) own = are.0
  asks_noop master node broken reached message up down replica (IsFed.comes_up whole there are is no_stream) own = absurd (no_up message are.0 own)
  asks_noop master node broken reached message up down replica (IsFed.breaks_early cut there are ends is all few no_stream) own = absurd (no_link message are.0 own)
  asks_noop master node broken reached message up down replica (IsFed.is_parted cut are lines few tagged) own = by_own message are.0 own

-- in a world
pub first_noop : (config : Config) (world : World) (master : Master) → FeedsHold config world master → (from : List ℕ) (front : Front) (message : LinkMsg)
    (rest : List LinkMsg) → front_at world from ≡ Some front → on_link world.links from (master_of config) ≡ message ∷ rest → (conn : ℕ)
    → about message ≡ of_connection conn → IsNoop message
first_noop config world master feeds from front message rest at first conn own =
    let name : List ℕ = master_of config in
    asks_noop conn master from (is_broken world.broken name from) (is_up front.ups name) message rest (on_link world.links name from) front.replica
    (subst (λ (u : List LinkMsg). IsFed master from (is_broken world.broken name from) (is_up front.ups name) u (on_link world.links name from) front.replica) first
    (feeds.each from front at).fed) own

-- a NOOP tells its command, which the step marks
pub record TellsNoop (conn now : ℕ) (master : Master) (from : List ℕ) (message : LinkMsg) : Type 0 where
  pub id : AskId
  pub its : id.conn ≡ conn
  pub asked : its_command message ≡ Some id
  pub marks : marks_made now (node_says master from message).outs ≡ home_mark now id IfAnswered ∷ []

pub tells_noop : (conn now : ℕ) (master : Master) (from : List ℕ) (message : LinkMsg) → IsNoop message → about message ≡ of_connection conn
    → TellsNoop conn now master from message
tells_noop conn now master from message noop own =
    let tells : line_ask noop.bytes ≡ ask_id_of noop.tag =
    command_tells noop.bytes (noop.tag, command.Noop) (is_line noop.bytes (noop.tag, command.Noop) noop.read) in
    subst (TellsNoop conn now master from) (sym noop.is)
    (by (ask_id_of noop.tag) refl tells (ap about_command (sym tells) ∙ sym (ap about noop.is) ∙ own))
  where
    by : (found : Option AskId) → ask_id_of noop.tag ≡ found → line_ask noop.bytes ≡ ask_id_of noop.tag → about_command (ask_id_of noop.tag) ≡ of_connection conn
        → TellsNoop conn now master from (Line noop.bytes)
    by None e tells about_it = (let no : of_nobody ≡ of_connection conn = ap about_command (sym e) ∙ about_it in cc)
    by (Some id) e tells about_it = record {
      id = id;
      its = (let same : of_connection id.conn ≡ of_connection conn = ap about_command (sym e) ∙ about_it in let conns : id.conn ≡ conn = cc in conns);
      asked = tells ∙ e;
      marks = ap (λ (s : Stepped). marks_made now s.outs) (noop_says master from noop.bytes noop.tag noop.read)
          ∙ ap (λ (i : Option AskId). marks_made now (noop_outs from noop.tag i)) e;
    }

-- one that is over is of a command of which its client was told
pub told_of : (first : ℕ) (message : LinkMsg) (id : AskId) → its_command message ≡ Some id → is_over first message ≡ true → id.command + 1 ≤ first
unfolding is_over
told_of first (Line bytes) id asked over = by (sym (ap (is_below first) asked) ∙ over)
  where
    by : nat_lt id.command first ≡ true → id.command + 1 ≤ first
    by k = grind (arith, nat_tests)
told_of first Up id asked over = cc
told_of first End id asked over = cc
told_of first (Ask ask) id asked over = cc
told_of first (answer_of answer) id asked over = cc

-- it says nothing of a later command of the connection
push_other : (id : AskId) (earlier : Option Mark) (marks : List Mark) (mark : Mark) → is_of id mark ≡ false
    → last_mark_from id earlier (marks ++ mark ∷ []) ≡ last_mark_from id earlier marks
unfolding last_mark_from
push_other id earlier [] mark other = ap (λ b. if b then Some mark else earlier) other
push_other id earlier (m ∷ marks) mark other = push_other id (if is_of id m then Some m else earlier) marks mark other

pub late_marked : (conn : ℕ) (told : List Answer) (now : ℕ) (marks : List Mark) (id : AskId) → id.command ≤ length told
    → last_mark (next_id conn told) (marks ++ home_mark now id IfAnswered ∷ []) ≡ last_mark (next_id conn told) marks
late_marked conn told now marks id late =
    let apart : nat_eq id.command (length told + 1) ≡ false = grind (arith, nat_tests, late) in
    push_other (next_id conn told) None marks (home_mark now id IfAnswered) (by (nat_eq id.conn conn) (nat_eq id.command (length told + 1)) apart)
  where
    by : (same number : Bool) → number ≡ false → (same && number) ≡ false
    by true number e = e
    by false number e = refl

-- ---- behind the step

-- a client is given nothing
pub given_none : (front : List ℕ) (clients : List (ℕ × Client)) (outs : List Out) → AreItsOuts front outs → given_all clients outs ≡ clients
unfolding given_all given_out
given_none front clients [] are = refl
given_none front clients (out ∷ outs) are =
    ap (λ (c : List (ℕ × Client)). given_all c outs) (by out (All-head (IsItsOut front) out outs are))
    ∙ given_none front clients outs (All-tail (IsItsOut front) out outs are)
  where
    by : (one : Out) → IsItsOut front one → given_out clients one ≡ clients
    by (Link to message) its = refl
    by (mark_out id counts) its = refl
    by (to_client conn bytes) its = absurd its
    by (Close conn) its = absurd its
    by (tell id how) its = absurd its

-- its NOOP is taken, and no line of it is on its way
no_barrier : (id : AskId) (up down before behind : List LinkMsg) → IsNumbered id → noop_of id ∷ up ≡ before ++ noop_of id ∷ behind → AreOfOthers id before
    → AreOfOthers id behind → AreOfOthers id down → HasNoBarrier id up down
no_barrier id up down [] behind numbered is one two others =
    record { up_others = (let rest : behind ≡ up = cc in subst (AreOfOthers id) rest two); down_others = others }
no_barrier id up down (b ∷ before) behind numbered is one two others =
    absurd ((let same : b ≡ noop_of id = cc in subst (IsOfOther id) same one.0) (noop_tells id numbered))

module _ (config : Config) (heard : ℕ → Heard) (world : World) (law : KeepsLaw config heard world) (fit : AskedFit world law.story)
    (from : List ℕ) (front : Front) (message : LinkMsg) (rest : List LinkMsg) (at : front_at world from ≡ Some front)
    (cut : is_broken world.broken (master_of config) from ≡ true) (first : on_link world.links from (master_of config) ≡ message ∷ rest) where
  abbrev name : List ℕ
  name = master_of config

  abbrev story : Tale
  story = law.story

  abbrev fixed : Fixed
  fixed = fixed_of config

  abbrev murder : Murder
  murder = murder_of world law.master

  abbrev store : Store
  store = story.course.store

  abbrev says : Stepped
  says = node_says law.master from message

  abbrev took : World
  took = taken_from_link world from name

  abbrev left : Links LinkMsg
  left = without_first world.links from name

  -- the world in which nothing is lost, and the one in which what is for the frontend is
  abbrev put : World
  put = wrote took name (state.Master law.master) (From from message)

  abbrev late : Stepped
  late = record { master = says.master; outs = not_lost world.broken name says.outs }

  abbrev next : World
  next = comes took name (From from message)

  next_is : next ≡ with_master put name late
  unfolding comes_to node_takes master_takes
  next_is = ap (comes_to took name (From from message)) (master_is (node_at world name) law.master law.nodes.is_there)

  full_is : all_come took name (From from message) ≡ with_master put name says
  full_is = master_all_come took name (From from message) law.master law.nodes.is_there

  thin : IsThinned (all_come took name (From from message)) next
  thin = comes_thinned took name (From from message)

  full : IsMade put name (state.Master says.master) says.outs (with_master put name says)
  full = is_made put name (state.Master says.master) says.outs

  real : IsMade put name (state.Master late.master) late.outs (with_master put name late)
  real = is_made put name (state.Master late.master) late.outs

  moved : MasterMoved put name late.master (with_master put name late)
  moved = master_moved put name law.master late law.nodes.is_there

  no_master : from ≢ name
  no_master = (law.nodes.fronts from front at).no_master

  no_home : home_at world from ≡ None
  no_home = (law.nodes.fronts from front at).no_home

  are_its : AreItsOuts from says.outs
  are_its = front_outs law.master from message (law.nodes.fronts from front at).no_backend

  clients_are : next.clients ≡ world.clients
  clients_are = thin.clients ∙ ap (λ (w : World). w.clients) full_is ∙ full.clients ∙ given_none from world.clients says.outs are_its

  marks_are : next.marks ≡ world.marks ++ marks_made world.steps says.outs
  marks_are = thin.marks ∙ ap (λ (w : World). w.marks) full_is ∙ full.marks

  broken_is : next.broken ≡ world.broken
  broken_is = ap (λ (w : World). w.broken) next_is ∙ real.broken

  steps_are : next.steps ≡ world.steps
  steps_are = ap (λ (w : World). w.steps) next_is ∙ real.steps

  fronts_are : (any : List ℕ) → front_at next any ≡ front_at world any
  fronts_are any = ap (λ (w : World). front_at w any) next_is ∙ moved.fronts any

  homes_are : (any : List ℕ) → home_at next any ≡ home_at world any
  homes_are any = ap (λ (w : World). home_at w any) next_is ∙ moved.homes any

  nodes_then : AreNodesOf config next says.master
  nodes_then =
      same_nodes config (with_master put name says) next says.master (thin.nodes ∙ ap (λ (w : World). w.nodes) full_is)
      (master_keeps_nodes config put law.master (From from message) (same_nodes config world put law.master refl law.nodes))

  -- nobody is sent anything
  unsent : (other : List ℕ) → messages_to other late.outs ≡ []
  unsent other = by (is_broken world.broken name other) refl
    where
      by : (broken : Bool) → is_broken world.broken name other ≡ broken → messages_to other late.outs ≡ []
      by true e = none_sent world.broken name other e says.outs
      by false e =
          all_sent world.broken name other e says.outs
          ∙ others_unsent from other says.outs (λ same. (let no : true ≡ false = sym cut ∙ ap (is_broken world.broken name) same ∙ e in cc)) are_its

  links_are : (a b : List ℕ) → on_link next.links a b ≡ on_link left a b
  links_are a b =
      ap (λ (w : World). on_link w.links a b) next_is ∙ ap (λ (l : Links LinkMsg). on_link l a b) real.links ∙ by (same_or_other (slice_cmp nat_cmp) names_apart a name)
    where
      by : (a ≡ name) ⊎ (a ≢ name) → on_link (put_all name left late.outs) a b ≡ on_link left a b
      by (inl same) =
          subst (λ n. on_link (put_all name left late.outs) n b ≡ on_link left n b) (sym same)
          (puts_own name left late.outs b ∙ ap (λ (l : List LinkMsg). on_link left name b ++ l) (unsent b) ∙ append-nil (on_link left name b))
      by (inr ne) = puts_else name left late.outs a b ne

  -- ---- the master, the backends, and the links between them

  homes_alike : HomesAlike name (home_at world) world.links next.links
  homes_alike = λ q its there. (
    links_are q name ∙ taken_else world.links from name q name (inl (home_apart (home_at world) q from its there no_home)),
    links_are name q ∙ taken_else world.links from name name q (inl (λ e. no_master (sym e))),
  )

  -- as if nothing were lost
  abbrev whole : Murder
  whole = murder_takes murder from message

  whole_links : whole.links ≡ put_all name left says.outs
  whole_links = ap (λ m. put_all m (without_first world.links from m) says.outs) law.nodes.me

  up_alike : (q : List ℕ) → q ≢ name → on_link next.links q name ≡ on_link whole.links q name
  up_alike q ne = links_are q name ∙ sym (ap (λ (l : Links LinkMsg). on_link l q name) whole_links ∙ puts_else name left says.outs q name ne)

  down_alike : (q : List ℕ) → from ≢ q → on_link next.links name q ≡ on_link whole.links name q
  down_alike q ne =
      links_are name q
      ∙ sym (ap (λ (l : Links LinkMsg). on_link l name q) whole_links ∙ puts_own name left says.outs q
      ∙ ap (λ (l : List LinkMsg). on_link left name q ++ l) (others_unsent from q says.outs ne are_its) ∙ append-nil (on_link left name q))

  many_then : ManyHold (murder_of next says.master) law.given store
  many_then =
      alike_hold whole (murder_of next says.master) law.given store
      (record {
        master = refl;
        nodes = homes_are;
        up = λ q its there. subst (λ m. on_link next.links q m ≡ on_link whole.links q m) (sym nodes_then.me)
            (up_alike q (λ e. (law.many.each q its there).apart (e ∙ sym law.nodes.me)));
        down = λ q its there. subst (λ m. on_link next.links m q ≡ on_link whole.links m q) (sym nodes_then.me)
            (down_alike q (λ e. home_apart (home_at world) q from its there no_home (sym e)));
      })
      (frontends_keep_many murder law.given store from message law.many (law.nodes.fronts from front at).no_backend)

  -- ---- commands of which it isn't

  placed_by : (number : ℕ) (whom : About) (found : Option (Carried LinkMsg)) → IsPlaced number whom left found → IsPlaced number whom next.links found
  placed_by number whom found is = λ a b. ap (λ (l : List LinkMsg). filter (is_about number whom) l) (links_are a b) ∙ is a b

  down_is : (fnode : List ℕ) → on_link next.links name fnode ≡ on_link world.links name fnode
  down_is fnode = links_are name fnode ∙ taken_else world.links from name name fnode (inl (λ e. no_master (sym e)))

  up_own : on_link next.links from name ≡ rest
  up_own = links_are from name ∙ taken_first world.links from name message rest first

  barrier_left : (fnode : List ℕ) (replica : Replica) (id : AskId) (its : Barrier) → message ≢ noop_of id
      → IsBarrierAt id its (on_link world.links fnode name) (on_link world.links name fnode) replica
      → IsBarrierAt id its (on_link next.links fnode name) (on_link next.links name fnode) replica
  barrier_left fnode replica id its ne is = by (same_or_other (slice_cmp nat_cmp) names_apart fnode from)
    where
      own : IsBarrierAt id its (on_link world.links from name) (on_link world.links name from) replica
          → IsBarrierAt id its (on_link next.links from name) (on_link next.links name from) replica
      own here =
          barrier_alike id its rest (on_link world.links name from) (on_link next.links from name) (on_link next.links name from) replica up_own (down_is from)
          (up_taken id its rest (on_link world.links name from) message replica ne
          (subst (λ (u : List LinkMsg). IsBarrierAt id its u (on_link world.links name from) replica) first here)).1

      by : (fnode ≡ from) ⊎ (fnode ≢ from) → IsBarrierAt id its (on_link next.links fnode name) (on_link next.links name fnode) replica
      by (inl same) =
          subst (λ n. IsBarrierAt id its (on_link next.links n name) (on_link next.links name n) replica) (sym same)
          (own (subst (λ n. IsBarrierAt id its (on_link world.links n name) (on_link world.links name n) replica) same is))
      by (inr other) =
          barrier_alike id its (on_link world.links fnode name) (on_link world.links name fnode) (on_link next.links fnode name) (on_link next.links name fnode) replica
          (links_are fnode name ∙ taken_else world.links from name fnode name (inl other)) (down_is fnode) is

  -- it is the NOOP of no command that it isn't about
  not_noop : (id : AskId) → IsNumbered id → is_about id.command (of_connection id.conn) message ≡ false → message ≢ noop_of id
  not_noop id numbered ne e =
      let own : is_about id.command (of_connection id.conn) (noop_of id) ≡ true =
      own_about id.command (of_connection id.conn) (noop_of id) (about_noop id numbered) (noop_on id numbered) in
      let both : true ≡ false = sym own ∙ ap (is_about id.command (of_connection id.conn)) (sym e) ∙ ne in cc

  place_left : (fnode : List ℕ) (replica : Replica) (id : AskId) (here : Place) → IsNumbered id → is_about id.command (of_connection id.conn) message ≡ false
      → IsInPlaceOf fixed world fnode replica id here → IsInPlaceOf fixed next fnode replica id here
  place_left fnode replica id here numbered ne is =
      in_place_alike name (home_at world) (home_at next) homes_are next.links fnode replica id here
      (record {
        message = placed_by id.command (of_connection id.conn) (its_message name fnode id here)
            (another_taken (is_about id.command (of_connection id.conn)) world.links from name message rest (its_message name fnode id here) first ne is.message);
        shows = shows_alike name (home_at world) id.conn here world.links next.links homes_alike is.shows;
        barrier = barrier_left fnode replica id (at_barrier here) (not_noop id numbered ne) is.barrier;
        there = is.there;
      })

  none_left : (conn : ℕ) → is_about 0 (of_connection conn) message ≡ false → IsInNoneOf fixed world conn → IsInNoneOf fixed next conn
  none_left conn ne is =
      in_none_alike name (home_at world) (home_at next) homes_are next.links conn
      (record {
        message = placed_by 0 (of_connection conn) None (another_taken (is_about 0 (of_connection conn)) world.links from name message rest None first ne is.message);
        shows = shows_alike name (home_at world) conn place.nowhere world.links next.links homes_alike is.shows;
      })

  abbrev IsSo : ℕ → Type 0
  IsSo conn = ConnectionIs fixed conn next story (law.stops conn) (heard conn)

  abbrev MarkStays : ℕ → Type 0
  MarkStays conn = last_mark (next_id conn (story.told conn)) next.marks ≡ last_mark (next_id conn (story.told conn)) world.marks

  goes_on : (conn : ℕ) → is_about (length (story.told conn) + 1) (of_connection conn) message ≡ false
      → (IsInNoneOf fixed world conn → is_about 0 (of_connection conn) message ≡ false) → MarkStays conn → IsSo conn
  goes_on conn ne none mark =
      untouched fixed conn world next story (law.stops conn) (heard conn)
      (record {
        fronts = fronts_are;
        client = ap (λ (c : List (ℕ × Client)). value_at nat_cmp c conn) clients_are;
        broken = broken_is;
        mark = mark;
        in_place = λ node its connection here is_at client given its_at placed.
            place_left node its.replica (next_id conn (story.told conn)) here (fit conn node its connection is_at client given its_at) ne placed;
        in_none = λ is. none_left conn (none is) is;
      }) (law.connections conn)

  -- that of a connection that it isn't about
  other_goes : (conn : ℕ) → about message ≢ of_connection conn → MarkStays conn → IsSo conn
  other_goes conn ne mark =
      goes_on conn (not_about (length (story.told conn) + 1) (of_connection conn) message ne) (λ is. not_about 0 (of_connection conn) message ne) mark

  abbrev AreMarkedThen : List Mark → Type 0
  AreMarkedThen marks = AreMarkedSo (setting_of config) world.broken world.steps marks story

  -- what is shown of the tale and of each connection
  record IsDone : Type 0 where
    is_told : AreMarkedThen next.marks
    connections : (conn : ℕ) → IsSo conn

  -- ---- it is of nobody

  of_none : about message ≡ of_nobody → IsDone
  of_none own =
      let same : next.marks ≡ world.marks =
      marks_are ∙ ap (λ (m : List Mark). world.marks ++ m) (nobodys_mark_none world.steps law.master from message law.feeds.nobodys (nobody_none message own))
      ∙ append-nil world.marks in
      record {
        is_told = subst AreMarkedThen (sym same) law.is_told;
        connections = λ conn. other_goes conn (λ e. (let no : of_nobody ≡ of_connection conn = sym own ∙ e in cc))
            (ap (last_mark (next_id conn (story.told conn))) same);
      }

  -- ---- it is a NOOP

  module _ (conn : ℕ) (own : about message ≡ of_connection conn) where
    abbrev its_id : AskId
    its_id = next_id conn (story.told conn)

    tells : TellsNoop conn world.steps law.master from message
    tells = tells_noop conn world.steps law.master from message (first_noop config world law.master law.feeds from front message rest at first conn own) own

    its_mark : next.marks ≡ world.marks ++ home_mark world.steps tells.id IfAnswered ∷ []
    its_mark = marks_are ∙ ap (λ (m : List Mark). world.marks ++ m) tells.marks

    others_go : (other : ℕ) → other ≢ conn → IsSo other
    others_go other ne =
        other_goes other (λ e. (let both : of_connection conn ≡ of_connection other = sym own ∙ e in let alike : conn ≡ other = cc in ne (sym alike)))
        (ap (last_mark (next_id other (story.told other))) its_mark
        ∙ others_marked other world.marks (home_mark world.steps tells.id IfAnswered) (λ e. ne (sym e ∙ tells.its)) (length (story.told other) + 1))

    done_by : AreMarkedThen next.marks → IsSo conn → IsDone
    done_by is_told mine = record {
      is_told = is_told;
      connections = λ other. ⊎_elim
          (λ (same : other ≡ conn). subst IsSo (sym same) mine)
          (λ (ne : other ≢ conn). others_go other ne)
          (cases_eq other conn);
    }

    -- of a command of which its client was told
    of_over : is_over (length (story.told conn) + 1) message ≡ true → IsDone
    of_over over =
        let few : tells.id.command + 1 ≤ length (story.told conn) + 1 = told_of (length (story.told conn) + 1) message tells.id tells.asked over in
        let was_told : tells.id.command ≤ length (story.told conn) = omega (arith, few) in
        done_by
        (subst AreMarkedThen (sym its_mark)
        (sees_late world.steps world.marks story tells.id (subst (λ (k : ℕ). tells.id.command ≤ length (story.told k)) (sym tells.its) was_told) law.is_told))
        (goes_on conn (over_about (length (story.told conn) + 1) (of_connection conn) message over)
        (λ is. absurd (let no : None ≡ here_at from name message =
        (first_of 0 world.links from name message rest (of_connection conn) None first own (none_over message) is.message).0 in cc))
        (ap (last_mark its_id) its_mark ∙ late_marked conn (story.told conn) world.steps world.marks tells.id was_told))

    -- of the command that waits
    module _ (on : is_over (length (story.told conn) + 1) message ≡ false) where
      found : TellsPlace fixed conn world story (law.stops conn) (heard conn) from name message
      found = first_tells fixed conn world story (law.stops conn) (heard conn) from name message rest first own on (law.connections conn)

      numbered_id : IsNumbered its_id
      numbered_id = waits_fit fixed conn found.node found.front found.connection world story (law.stops conn) (heard conn) found.here fit found.at found.who

      abbrev gone : Place
      gone = place.is_barred barrier.nowhere

      module _ (is : found.here ≡ place.is_barred barrier.asked) where
        carried : here_at found.node name (noop_of its_id) ≡ here_at from name message
        carried = subst (λ (p : Place). its_message name found.node its_id p ≡ here_at from name message) is found.is_found

        node_is : found.node ≡ from
        node_is = from_is carried

        noop_is : noop_of its_id ≡ message
        noop_is = message_is carried

        id_is : tells.id ≡ its_id
        id_is = (let both : Some tells.id ≡ Some its_id = sym tells.asked ∙ ap its_command (sym noop_is) ∙ noop_tells its_id numbered_id in cc)

        mark_is : next.marks ≡ world.marks ++ home_mark world.steps its_id IfAnswered ∷ []
        mark_is = its_mark ∙ ap (λ (i : AskId). world.marks ++ home_mark world.steps i IfAnswered ∷ []) id_is

        was_placed : IsInPlaceOf fixed world found.node found.front.replica its_id (place.is_barred barrier.asked)
        was_placed = subst (λ (p : Place). IsInPlaceOf fixed world found.node found.front.replica its_id p) is found.placed

        was_asked : AsksMaster its_id (noop_of its_id ∷ rest) (on_link world.links name found.node)
        was_asked =
            subst (λ (u : List LinkMsg). AsksMaster its_id u (on_link world.links name found.node))
            (ap (λ n. on_link world.links n name) node_is ∙ first ∙ ap (λ m. m ∷ rest) (sym noop_is)) was_placed.barrier

        gone_barrier : HasNoBarrier its_id (on_link next.links found.node name) (on_link next.links name found.node)
        gone_barrier =
            barrier_alike its_id barrier.nowhere rest (on_link world.links name found.node) (on_link next.links found.node name) (on_link next.links name found.node)
            found.front.replica (ap (λ n. on_link next.links n name) node_is ∙ up_own) (down_is found.node)
            (no_barrier its_id rest (on_link world.links name found.node) was_asked.before was_asked.behind numbered_id was_asked.up_is was_asked.before_others
            was_asked.behind_others was_asked.down_others)

        gone_placed : IsInPlaceOf fixed next found.node found.front.replica its_id gone
        gone_placed =
            in_place_alike name (home_at world) (home_at next) homes_are next.links found.node found.front.replica its_id gone
            (record {
              message = placed_by its_id.command (of_connection conn) None
                  (first_of its_id.command world.links from name message rest (of_connection conn) (its_message name found.node its_id found.here) first own on
                  found.placed.message).1;
              shows = shows_alike name (home_at world) conn gone world.links next.links homes_alike was_placed.shows;
              barrier = gone_barrier;
              there = tt;
            })

        gone_link : is_broken next.broken name found.node ≡ true
        gone_link = ap (λ (b : Broken). is_broken b name found.node) broken_is ∙ ap (is_broken world.broken name) node_is ∙ cut

        -- a command that needs a mailbox
        seen_waits : CommandWaits fixed conn found.node found.front world story (law.stops conn) (heard conn) found.here → IsDone
        seen_waits waits =
            let opened = is_open_there fixed found.node conn world.broken world.steps world.marks story waits.tag waits.c found.here law.is_told waits.setting_is
            waits.its (ap (λ r. numbered r (length (story.told conn) + 1)) (law.requests conn) ∙ waits.asked) waits.knows (subst BringsNothing (sym is) tt) in
            let seen = seen_so fixed found.node conn world.broken world.steps world.marks story waits.tag waits.c opened.is_open gone tt in
            done_by
            (subst AreMarkedThen (sym mark_is)
            (subst (λ (i : AskId). AreMarkedThen (world.marks ++ home_mark world.steps i IfAnswered ∷ [])) waits.its seen.is_told))
            (waits.goes_on next story gone (record {
              fronts = fronts_are found.node;
              clients = ap (λ (c : List (ℕ × Client)). value_at nat_cmp c conn) clients_are;
              broken = broken_is;
              told = refl;
              dropped = gone_link;
              restores = λ connection session_is. tt;
              placed = gone_placed;
              marked = tt;
              whom = subst (λ (p : Place). (a : At) → WaitsAt a p → WaitsAt a gone) (sym is) (λ a waits_so. whom_barred barrier.asked barrier.nowhere a waits_so);
              knows = seen.knows;
            }))

        -- a LIST
        seen_list : (lists : ListWaits fixed conn found.node found.front world story (law.stops conn) (heard conn) found.here)
            → story.talk.answers conn ≡ story.told conn → lists.was ≡ story.course.sessions conn → IsDone
        seen_list lists said was_is =
            done_by
            (subst AreMarkedThen (sym mark_is)
            (sees world.steps world.marks story conn (a_command lists.tag lists.it) said
            (ap (λ r. numbered r (length (story.told conn) + 1)) (law.requests conn) ∙ lists.asked) law.is_told))
            (lists.goes_on next story gone (record {
              fronts = fronts_are found.node;
              clients = ap (λ (c : List (ℕ × Client)). value_at nat_cmp c conn) clients_are;
              broken = broken_is;
              told = refl;
              dropped = gone_link;
              restores = λ connection session_is. tt;
              placed = gone_placed;
              marked = tt;
              knows = is_gone said was_is refl;
            }))

      -- the master takes nothing else of a frontend
      abbrev IsCarried : Place → Type 0
      IsCarried p = its_message name found.node its_id p ≡ here_at from name message

      no_answer : found.node ≡ name → ⊥
      no_answer e = (law.nodes.fronts found.node found.front (found.at).at).no_master e

      of_waits : CommandWaits fixed conn found.node found.front world story (law.stops conn) (heard conn) found.here → IsDone
      of_waits waits = by found.here refl (found_in name found.node its_id from name message found.here found.is_found)
        where
          by : (p : Place) → found.here ≡ p → IsFoundIn name found.node its_id from name message p → IsDone
          by _ is (in_noop e1 e2 e3) = seen_waits is waits
          by _ is (in_line me mailbox flow e1 e2 e3) =
              let there = subst (λ q. IsThere (home_at world) q) is found.placed.there in
              absurd (home_apart (home_at world) me.server from there.0 there.1 no_home e1)
          by _ is (in_ask server ask e1 e2 e3) =
              let there = subst (λ q. IsThere (home_at world) q) is found.placed.there in
              absurd ((law.many.each server there.0 there.1).apart (e2 ∙ sym law.nodes.me))
          by _ is (in_answer server answer e1 e2 e3) = absurd (no_answer e2)
          by _ is (in_response me mailbox flow it e1 e2 e3) =
              let there = subst (λ q. IsThere (home_at world) q) is found.placed.there in
              absurd ((law.many.each me.server there.0 there.1).apart (e2 ∙ sym law.nodes.me))
          by _ is (in_ok told e1 e2 e3) = absurd (no_answer e2)

      of_lists : (lists : ListWaits fixed conn found.node found.front world story (law.stops conn) (heard conn) found.here)
          → NamesOf conn lists.tag lists.listing lists.was story found.here → IsDone
      of_lists lists (not_yet said was_is is) = seen_list is lists said was_is
      of_lists lists (is_gone said was_is is) = (let none : None ≡ here_at from name message = subst IsCarried is found.is_found in cc)
      of_lists lists (is_listed told said was_is is) = absurd (no_answer (to_is (subst IsCarried is found.is_found)))

      of_open : IsDone
      of_open = by found.who
        where
          by : Whose fixed conn found.node found.connection world story (law.stops conn) (heard conn) found.here → IsDone
          by (of_command who) =
              of_waits (each_command_waits fixed conn found.node found.front found.connection world story (law.stops conn) (heard conn) found.here found.at found.count who)
          by (of_list who) =
              let lists = each_list_waits fixed conn found.node found.front found.connection world story (law.stops conn) (heard conn) found.here found.at found.count
              who in of_lists lists lists.knows

    of_noop : IsDone
    of_noop = by (over_or (length (story.told conn) + 1) message)
      where
        by : (is_over (length (story.told conn) + 1) message ≡ true) ⊎ (is_over (length (story.told conn) + 1) message ≡ false) → IsDone
        by (inl over) = of_over over
        by (inr on) = of_open on

  done_with : (whom : About) → about message ≡ whom → IsDone
  done_with (of_connection conn) own = of_noop conn own
  done_with of_nobody own = of_none own

  late_law : KeepsOn config story law.stops heard next
  late_law =
      let is : IsDone = done_with (about message) refl in
      record {
        law = record {
          master = says.master;
          nodes = nodes_then;
          story = story;
          stops = law.stops;
          given = law.given;
          many = many_then;
          feeds = late_feeds config world law.master law.nodes law.feeds from front at message rest cut first;
          is_told = subst (λ (b : Broken). AreMarkedSo (setting_of config) b next.steps next.marks story) (sym broken_is)
              (subst (λ (s : ℕ). AreMarkedSo (setting_of config) world.broken s next.marks story) (sym steps_are) is.is_told);
          requests = law.requests;
          connections = is.connections;
        };
        more = same_talk (talk_told story);
        grows = says_same story;
        closed = λ conn shut. (refl, refl);
      }

-- THE MASTER TAKES THE FIRST MESSAGE OF A FRONTEND WHOSE LINK IS BROKEN
abbrev pub LateKeeps : Type 0
LateKeeps = (config : Config) (heard : ℕ → Heard) (world : World) (law : KeepsLaw config heard world) → AskedFit world law.story
    → (from : List ℕ) (front : Front) (message : LinkMsg) (rest : List LinkMsg) → front_at world from ≡ Some front
    → is_broken world.broken (master_of config) from ≡ true → on_link world.links from (master_of config) ≡ message ∷ rest
    → KeepsOn config law.story law.stops heard (comes (taken_from_link world from (master_of config)) (master_of config) (From from message))

pub late_step_keeps : LateKeeps
late_step_keeps config heard world law fit from front message rest at cut first = late_law config heard world law fit from front message rest at cut first
