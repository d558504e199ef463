-- Of all commands of a connection just one is in its place; so each command of it is there, or nowhere.
use Rattle.std.proofs.Common.{◌≡◌, ℕ, ◌≤◌, Bool, true, false, cond, nat_eq, List, [], ◌∷◌, filter, Option, None, Some, refl, sym, ap, subst, ◌∙◌}
use Rattle.std.specs.Ordering.{nat_cmp, is_eq}
use Rattle.std.specs.Cmp.Lexicographic.{slice_cmp}
use Rattle.front_core.proofs.OneConnection.Places.{is_over, line_from, line_on}
use Rattle.grammar.proofs.Conditions.{and_left}
use Rattle.link_msg.specs.declared.message.LinkMsg.{LinkMsg}
use Rattle.mupdate_codec.specs.declared.command.MResponse.{MResponse}
use Rattle.mupdate_codec.specs.Asks.{ask_id_of}
use Rattle.mupdate_codec.proofs.AsksLaw.{ask_again}
use Rattle.mupdate_codec.proofs.LineAsks.{own_command, own_response}
use Rattle.mur_base.specs.declared.home.Location.{Location}
use Rattle.mur_base.specs.declared.point.AskId.{AskId}
use Rattle.name_flows.specs.declared.ask.NameAsk.{NameAsk}
use Rattle.name_flows.specs.declared.flow.Flow.{Flow}
use Rattle.name_flows.specs.declared.flows.Flows.{Flows}
use Rattle.name_flows.specs.declared.sent.SentLine.{SentLine}
use Rattle.name_flows.specs.Link.{waiting_in}
use Rattle.name_flows.specs.Running.{flow_at}
use Rattle.back_node.specs.declared.node.BackNode.{BackNode}
use Rattle.name_commands.specs.Places.{NamePlace, nowhere, waits, sends, hears, FlowsShow, FlowsTell, HasNumbers, IsNumbered, TalkShows, answer_message, asks_at, flow_line, flow_message, flows_at, lines_at, on_name, stage_command, stage_line}
use Rattle.name_commands.specs.Whose.{Whose, is_command, is_of_connection, is_own, is_own_ask, is_own_line, is_own_message, own_flow}
use Rattle.name_commands.proofs.Own.{asked_own, is_itself, kept, not_here, own_here, passed}
use Rattle.cluster_core.proofs.Steps.Outs.{within}

-- the command of a place, if it is one, is this
abbrev pub IsOfCommand : AskId → NamePlace → Type 0
IsOfCommand id nowhere = Unit {0}
IsOfCommand id (waits ask) = ask.id ≡ id
IsOfCommand id (sends name flow) = flow.ask ≡ id
IsOfCommand id (hears name flow it) = flow.ask ≡ id

-- what is at a place, if it is of this command
abbrev if_own : Bool → NamePlace → NamePlace
if_own own place = cond own place nowhere

abbrev pub narrowed : AskId → NamePlace → NamePlace
narrowed id nowhere = nowhere
narrowed id (waits ask) = if_own (is_command id ask.id) (waits ask)
narrowed id (sends name flow) = if_own (is_command id flow.ask) (sends name flow)
narrowed id (hears name flow it) = if_own (is_command id flow.ask) (hears name flow it)

abbrev pub NarrowsTo : Type 0
NarrowsTo = (id : AskId) (node : BackNode) (up down : List LinkMsg) (place : NamePlace)
    → TalkShows (is_of_connection id.conn) node up down place → TalkShows (is_command id) node up down (narrowed id place)

abbrev pub Narrows : Type 0
Narrows = (id : AskId) (node : BackNode) (up down : List LinkMsg) (place : NamePlace) → IsOfCommand id place
    → TalkShows (is_of_connection id.conn) node up down place → TalkShows (is_command id) node up down place

-- so where the commands of each connection are in a place, each command is
abbrev pub ConnectionsTell : Type 0
ConnectionsTell = (flows : Flows) → ((conn : ℕ) → (place : NamePlace) × FlowsShow (is_of_connection conn) flows place) → FlowsTell flows

module _ (id : AskId) where
  abbrev all : Whose
  all = is_of_connection id.conn

  abbrev one : Whose
  one = is_command id

  its : (other : AskId) → one other ≡ true → all other ≡ true
  its other e = and_left (nat_eq other.conn id.conn) (nat_eq other.command id.command) e

  its_by : (other : Option AskId) → is_own one other ≡ true → is_own all other ≡ true
  its_by None e = cc
  its_by (Some other) e = its other e

  asks_in : (asks : List NameAsk) → filter (is_own_ask one) (filter (is_own_ask all) asks) ≡ filter (is_own_ask one) asks
  asks_in asks = within (is_own_ask one) (is_own_ask all) (λ ask e. its ask.id e) asks

  lines_in : (lines : List SentLine) → filter (is_own_line one) (filter (is_own_line all) lines) ≡ filter (is_own_line one) lines
  lines_in lines = within (is_own_line one) (is_own_line all) (λ line e. its_by (ask_id_of line.tag) e) lines

  messages_in : (messages : List LinkMsg) → filter (is_own_message one) (filter (is_own_message all) messages) ≡ filter (is_own_message one) messages
  messages_in messages = within (is_own_message one) (is_own_message all) (λ m e. its_by _ e) messages

  flow_in : (found : Option Flow) → own_flow one (own_flow all found) ≡ own_flow one found
  flow_in None = refl
  flow_in (Some flow) = by (one flow.ask) (all flow.ask) refl refl
    where
      by : (a b : Bool) → one flow.ask ≡ a → all flow.ask ≡ b → own_flow one (cond b (Some flow) None) ≡ own_flow one (Some flow)
      by a true e f = refl
      by true false e f = absurd (let no : true ≡ false = sym (its flow.ask e) ∙ f in cc)
      by false false e f = sym (not_here one flow e)

  -- ---- of all of a list that is the connection's, by whether it is of the command

  asks_by : (ask : NameAsk) (own : Bool) → one ask.id ≡ own → filter (is_own_ask one) (ask ∷ []) ≡ asks_at (if_own own (waits ask))
  asks_by ask true e = kept (is_own_ask one) ask [] e
  asks_by ask false e = passed (is_own_ask one) ask [] e

  line_by : (name : List ℕ) (flow : Flow) (own : Bool) → IsNumbered flow.ask → one flow.ask ≡ own
      → filter (is_own_line one) (flow_line name flow ∷ []) ≡ cond own (flow_line name flow ∷ []) []
  line_by name flow true fit e = kept (is_own_line one) (flow_line name flow) [] (asked_own one flow.ask (stage_line flow.stage name) fit ∙ e)
  line_by name flow false fit e = passed (is_own_line one) (flow_line name flow) [] (asked_own one flow.ask (stage_line flow.stage name) fit ∙ e)

  on_by : (name : List ℕ) (flow : Flow) (other : List ℕ) (own : Bool) → one flow.ask ≡ own → own_flow one (on_name name flow other)
      ≡ cond own (on_name name flow other) None
  on_by name flow other own e = by (is_eq (slice_cmp nat_cmp name other)) own e
    where
      by : (here own : Bool) → one flow.ask ≡ own → own_flow one (cond here (Some flow) None) ≡ cond own (cond here (Some flow) None) None
      by true true e = own_here one flow e
      by true false e = not_here one flow e
      by false true e = refl
      by false false e = refl

  module _ (flows : Flows) where
    waits_by : (xs : List NameAsk) → filter (is_own_ask all) (waiting_in flows.resync) ≡ xs
        → filter (is_own_ask one) (waiting_in flows.resync) ≡ filter (is_own_ask one) xs
    waits_by xs e = sym (asks_in (waiting_in flows.resync)) ∙ ap (λ l. filter (is_own_ask one) l) e

    sent_by : (xs : List SentLine) → filter (is_own_line all) flows.sent ≡ xs → filter (is_own_line one) flows.sent ≡ filter (is_own_line one) xs
    sent_by xs e = sym (lines_in flows.sent) ∙ ap (λ l. filter (is_own_line one) l) e

    runs_by : (name : List ℕ) (found : Option Flow) → own_flow all (flow_at flows name) ≡ found → own_flow one (flow_at flows name) ≡ own_flow one found
    runs_by name found e = sym (flow_in (flow_at flows name)) ∙ ap (λ f. own_flow one f) e

    flow_shows : (name : List ℕ) (flow : Flow) (place : NamePlace) (own : Bool) → one flow.ask ≡ own → asks_at place ≡ [] → lines_at place ≡ flow_line name flow ∷ []
        → ((other : List ℕ) → flows_at place other ≡ on_name name flow other) → HasNumbers place → IsNumbered flow.ask
        → FlowsShow all flows place → FlowsShow one flows (if_own own place)
    flow_shows name flow place true e none line on numbers fit at = record {
      waiting = waits_by [] (at.waiting ∙ none) ∙ sym none;
      running = λ other. runs_by other (on_name name flow other) (at.running other ∙ on other) ∙ on_by name flow other true e ∙ sym (on other);
      sent = sent_by (flow_line name flow ∷ []) (at.sent ∙ line) ∙ line_by name flow true fit e ∙ sym line;
      numbered = numbers;
    }
    flow_shows name flow place false e none line on numbers fit at = record {
      waiting = waits_by [] (at.waiting ∙ none);
      running = λ other. runs_by other (on_name name flow other) (at.running other ∙ on other) ∙ on_by name flow other false e;
      sent = sent_by (flow_line name flow ∷ []) (at.sent ∙ line) ∙ line_by name flow false fit e;
      numbered = tt;
    }

    waits_show : (ask : NameAsk) (own : Bool) → one ask.id ≡ own → FlowsShow all flows (waits ask) → FlowsShow one flows (if_own own (waits ask))
    waits_show ask true e at = record {
      waiting = waits_by (ask ∷ []) at.waiting ∙ asks_by ask true e;
      running = λ other. runs_by other None (at.running other);
      sent = sent_by [] at.sent;
      numbered = at.numbered;
    }
    waits_show ask false e at = record {
      waiting = waits_by (ask ∷ []) at.waiting ∙ asks_by ask false e;
      running = λ other. runs_by other None (at.running other);
      sent = sent_by [] at.sent;
      numbered = tt;
    }

    pub flows_narrow : (place : NamePlace) → FlowsShow all flows place → FlowsShow one flows (narrowed id place)
    flows_narrow nowhere at = record {
      waiting = waits_by [] at.waiting;
      running = λ other. runs_by other None (at.running other);
      sent = sent_by [] at.sent;
      numbered = tt;
    }
    flows_narrow (waits ask) at = waits_show ask (one ask.id) refl at
    flows_narrow (sends name flow) at =
        flow_shows name flow (sends name flow) (one flow.ask) refl refl refl (λ other. refl) at.numbered at.numbered at
    flows_narrow (hears name flow it) at =
        flow_shows name flow (hears name flow it) (one flow.ask) refl refl refl (λ other. refl) at.numbered at.numbered at

pub connections_tell : ConnectionsTell
connections_tell flows shows id = (narrowed id (shows id.conn).0, flows_narrow id flows (shows id.conn).0 (shows id.conn).1)

-- ---- with the messages

-- a line of a flow, and the response to it, are of the command of the flow
pub line_own : (whose : Whose) (me : Location) (name : List ℕ) (flow : Flow) → IsNumbered flow.ask
    → is_own_message whose (flow_message me name flow) ≡ whose flow.ask
line_own whose me name flow fit =
    ap (λ (i : Option AskId). is_own whose i) (own_command flow.ask (stage_command me name flow.stage) ∙ ask_again flow.ask fit.0 fit.1)

pub response_own : (whose : Whose) (flow : Flow) (it : MResponse) → IsNumbered flow.ask → is_own_message whose (answer_message flow it) ≡ whose flow.ask
response_own whose flow it fit = ap (λ (i : Option AskId). is_own whose i) (own_response flow.ask it ∙ ask_again flow.ask fit.0 fit.1)

-- so a line of a flow of the command of this number, or a later one, isn't over
pub flow_on : (first : ℕ) (me : Location) (name : List ℕ) (flow : Flow) → IsNumbered flow.ask → first ≤ (flow.ask).command
    → is_over first (flow_message me name flow) ≡ false
flow_on first me name flow fit le =
    line_on first _ flow.ask (own_command flow.ask (stage_command me name flow.stage) ∙ ask_again flow.ask fit.0 fit.1) le

-- and a response that isn't over is to one
pub answer_from : (first : ℕ) (flow : Flow) (it : MResponse) → IsNumbered flow.ask → is_over first (answer_message flow it) ≡ false
    → first ≤ (flow.ask).command
answer_from first flow it fit on = line_from first _ flow.ask (own_response flow.ask it ∙ ask_again flow.ask fit.0 fit.1) on

if_one : {X : Type 0} (p : X → Bool) (x : X) (own : Bool) → p x ≡ own → filter p (x ∷ []) ≡ cond own (x ∷ []) []
if_one p x true e = kept p x [] e
if_one p x false e = passed p x [] e

module _ (id : AskId) (node : BackNode) (up down : List LinkMsg) where
  abbrev me : Location
  me = node.flows.me

  abbrev whose : Whose
  whose = is_command id

  messages_by : (xs ys : List LinkMsg) → filter (is_own_message (is_of_connection id.conn)) xs ≡ ys
      → filter (is_own_message whose) xs ≡ filter (is_own_message whose) ys
  messages_by xs ys e = sym (messages_in id xs) ∙ ap (λ l. filter (is_own_message whose) l) e

  sends_by : (name : List ℕ) (flow : Flow) (own : Bool) → whose flow.ask ≡ own → TalkShows (is_of_connection id.conn) node up down (sends name flow)
      → FlowsShow whose node.flows (if_own own (sends name flow)) → TalkShows whose node up down (if_own own (sends name flow))
  sends_by name flow true e shows at = record {
    at = at;
    up_is = messages_by up (flow_message me name flow ∷ []) shows.up_is
        ∙ if_one (is_own_message whose) (flow_message me name flow) true (line_own whose me name flow shows.at.numbered ∙ e);
    down_is = messages_by down [] shows.down_is;
    known = tt;
  }
  sends_by name flow false e shows at = record {
    at = at;
    up_is = messages_by up (flow_message me name flow ∷ []) shows.up_is
        ∙ if_one (is_own_message whose) (flow_message me name flow) false (line_own whose me name flow shows.at.numbered ∙ e);
    down_is = messages_by down [] shows.down_is;
    known = tt;
  }

  hears_by : (name : List ℕ) (flow : Flow) (it : MResponse) (own : Bool) → whose flow.ask ≡ own
      → TalkShows (is_of_connection id.conn) node up down (hears name flow it)
      → FlowsShow whose node.flows (if_own own (hears name flow it)) → TalkShows whose node up down (if_own own (hears name flow it))
  hears_by name flow it true e shows at = record {
    at = at;
    up_is = messages_by up [] shows.up_is;
    down_is = messages_by down (answer_message flow it ∷ []) shows.down_is
        ∙ if_one (is_own_message whose) (answer_message flow it) true (response_own whose flow it shows.at.numbered ∙ e);
    known = shows.known;
  }
  hears_by name flow it false e shows at = record {
    at = at;
    up_is = messages_by up [] shows.up_is;
    down_is = messages_by down (answer_message flow it ∷ []) shows.down_is
        ∙ if_one (is_own_message whose) (answer_message flow it) false (response_own whose flow it shows.at.numbered ∙ e);
    known = tt;
  }

  waits_by_it : (ask : NameAsk) (own : Bool) → TalkShows (is_of_connection id.conn) node up down (waits ask)
      → FlowsShow whose node.flows (if_own own (waits ask)) → TalkShows whose node up down (if_own own (waits ask))
  waits_by_it ask true shows at =
      record { at = at; up_is = messages_by up [] shows.up_is; down_is = messages_by down [] shows.down_is; known = tt }
  waits_by_it ask false shows at =
      record { at = at; up_is = messages_by up [] shows.up_is; down_is = messages_by down [] shows.down_is; known = tt }

  narrows_by : (place : NamePlace) → TalkShows (is_of_connection id.conn) node up down place → FlowsShow whose node.flows (narrowed id place)
      → TalkShows whose node up down (narrowed id place)
  narrows_by nowhere shows at =
      record { at = at; up_is = messages_by up [] shows.up_is; down_is = messages_by down [] shows.down_is; known = tt }
  narrows_by (waits ask) shows at = waits_by_it ask (whose ask.id) shows at
  narrows_by (sends name flow) shows at = sends_by name flow (whose flow.ask) refl shows at
  narrows_by (hears name flow it) shows at = hears_by name flow it (whose flow.ask) refl shows at

pub narrows_to : NarrowsTo
narrows_to id node up down place shows = narrows_by id node up down place shows (flows_narrow id node.flows place shows.at)

-- it is the command's own
own_command_is : (id other : AskId) → other ≡ id → is_command id other ≡ true
own_command_is id other e = subst (λ (i : AskId). is_command id i ≡ true) (sym e) (is_itself id)

pub narrowed_own : (id : AskId) (place : NamePlace) → IsOfCommand id place → narrowed id place ≡ place
narrowed_own id nowhere own = refl
narrowed_own id (waits ask) own = ap (λ b. if_own b (waits ask)) (own_command_is id ask.id own)
narrowed_own id (sends name flow) own = ap (λ b. if_own b (sends name flow)) (own_command_is id flow.ask own)
narrowed_own id (hears name flow it) own = ap (λ b. if_own b (hears name flow it)) (own_command_is id flow.ask own)

pub narrows : Narrows
narrows id node up down place own shows =
    subst (λ (p : NamePlace). TalkShows (is_command id) node up down p) (narrowed_own id place own) (narrows_to id node up down place shows)
