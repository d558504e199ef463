-- Each command is in one place, at first and after each step.
use Rattle.std.proofs.Common.{◌≡◌, ◌≢◌, ◌⊎◌, inl, inr, ℕ, Bool, true, false, cond, codes, List, [], ◌∷◌, ◌++◌, filter, Option, None, Some, refl, sym, ap, subst, ◌∙◌, append-nil}
use Rattle.std.specs.List.Sorted.{IsStrictlySortedBy}
use Rattle.std.specs.Ordering.{is_eq, nat_cmp}
use Rattle.std.specs.Cmp.Lexicographic.{slice_cmp}
use Rattle.link_msg.specs.declared.ask.FrontAsk.{FrontAsk}
use Rattle.link_msg.specs.declared.message.LinkMsg.{LinkMsg}
use Rattle.link_msg.specs.declared.message.LinkMsg.TheVariants.{Up, End, Line, Ask, Answer}
use Rattle.link_msg.specs.declared.out.Out.TheVariants.{Link}
use Rattle.master_core.specs.declared.master.Master.{Master}
use Rattle.master_core.specs.Linked.{node_says}
use Rattle.master_core.specs.Whose.{TellNobody}
use Rattle.mupdate_codec.specs.declared.tag.Tag.TheVariants.{Text}
use Rattle.mupdate_codec.specs.Asks.{ask_id_of, first_word, line_ask, split_dash}
use Rattle.mupdate_codec.specs.Tags.{mupdate_tag_text}
use Rattle.mupdate_codec.proofs.LineAsks.{command_under}
use Rattle.mur_base.specs.declared.point.AskId.{AskId}
use Rattle.mur_base.proofs.MapLaws.{names_apart}
use Rattle.name_flows.specs.declared.ask.AskKind.{AskKind}
use Rattle.name_flows.specs.declared.flow.Flow.{Flow}
use Rattle.name_flows.specs.declared.flows.Flows.{Flows}
use Rattle.name_flows.specs.declared.sent.SentLine.{SentLine}
use Rattle.name_flows.specs.Lines.{command_of, line_text}
use Rattle.name_flows.specs.Listing.{resync_line, up_step}
use Rattle.name_flows.specs.Running.{flow_at}
use Rattle.back_node.specs.declared.node.BackNode.{BackNode}
use Rattle.back_node.specs.Acted.{BackActed}
use Rattle.back_node.specs.Node.{new_node}
use Rattle.back_node.specs.Takes.{name_kind, node_takes, passed_over, talks, taken_up}
use Rattle.back_node.proofs.AtHome.{done_by}
use Rattle.feed_links.specs.Lines.{messages_to}
use Rattle.feed_links.proofs.FeedLaw.{says_nothing_to}
use Rattle.feed_links.proofs.Names.{same_name}
use Rattle.name_links.specs.Serials.{Given}
use Rattle.back_links.specs.BackEvents.{IsFitting}
use Rattle.back_links.specs.OneTalk.{HasTalk}
use Rattle.name_commands.specs.AllCommands.{AnswersTell, ClientsTell, OthersTell, UpsTell, AreOneToOne, AsksTell, HasItsFlow, IsNew, LinesTell, new_by, TellsFirst, TellsOneToOne}
use Rattle.name_commands.specs.BackSteps.{LeavesOrTests, is_left, is_tested, NoneBegins}
use Rattle.name_commands.specs.Moves.{LeavesCommand}
use Rattle.name_commands.specs.Places.{NamePlace, nowhere, waits, sends, hears, FlowsTell, FlowsShow, TalkShows, TalkTells, flow_line, on_name}
use Rattle.name_commands.specs.Whose.{Whose, asks_for, is_command, is_own, is_own_line, is_own_message, is_own_out, own_flow}
use Rattle.name_commands.proofs.AnswerLaw.{as_sent}
use Rattle.name_commands.proofs.AnswerSteps.{answer_moves, other_answers_leave}
use Rattle.name_commands.proofs.AskSteps.{ask_moves, messages_leave, none_at_first, other_asks_leave}
use Rattle.name_commands.proofs.Marks.{none_sent}
use Rattle.name_commands.proofs.MasterLaw.{clients_pass, line_taken, other_lines_pass}
use Rattle.name_commands.proofs.OtherLaw.{up_leaves}
use Rattle.name_commands.proofs.Own.{is_itself, is_only, kept, on_itself, own_here, own_is, passed}
use Rattle.name_commands.proofs.Steps.{left_at}

-- ---- flows and lines

pub on_only : (name : List ℕ) (flow : Flow) (other : List ℕ) (its : Flow) → on_name name flow other ≡ Some its → (name ≡ other) × (flow ≡ its)
on_only name flow other its e = by (is_eq (slice_cmp nat_cmp name other)) refl e
  where
    by : (same : Bool) → is_eq (slice_cmp nat_cmp name other) ≡ same → cond same (Some flow) None ≡ Some its → (name ≡ other) × (flow ≡ its)
    by true h f = let is : flow ≡ its = cc in (names_apart.exact name other h, is)
    by false h f = cc

-- a flow that runs is where its command is
module _ (whose : Whose) (flows : Flows) (name : List ℕ) (flow : Flow) (own : whose flow.ask ≡ true) (runs : flow_at flows name ≡ Some flow) where
  found : own_flow whose (flow_at flows name) ≡ Some flow
  found = ap (λ (f : Option Flow). own_flow whose f) runs ∙ own_here whose flow own

  sent_at : (n : List ℕ) (f : Flow) → FlowsShow whose flows (sends n f) → FlowsShow whose flows (sends name flow)
  sent_at n f at =
      let same = on_only n f name flow (sym (at.running name) ∙ found) in
      subst (λ (m : List ℕ). FlowsShow whose flows (sends m flow)) same.0 (subst (λ (x : Flow). FlowsShow whose flows (sends n x)) same.1 at)

  runs_there : (place : NamePlace) → FlowsShow whose flows place → FlowsShow whose flows (sends name flow)
  runs_there nowhere at = absurd (let no : None ≡ Some flow = sym (at.running name) ∙ found in cc)
  runs_there (waits ask) at = absurd (let no : None ≡ Some flow = sym (at.running name) ∙ found in cc)
  runs_there (sends n f) at = sent_at n f at
  runs_there (hears n f it) at = sent_at n f (as_sent whose flows n f it at)

module _ (flows : Flows) (tells : FlowsTell flows) where
  at_flow : (name : List ℕ) (flow : Flow) → flow_at flows name ≡ Some flow → FlowsShow (is_command flow.ask) flows (sends name flow)
  at_flow name flow runs = runs_there (is_command flow.ask) flows name flow (is_itself flow.ask) runs (tells flow.ask).0 (tells flow.ask).1

  line_flow : (id : AskId) (line : SentLine) (lines : List SentLine) → filter (is_own_line (is_command id)) flows.sent ≡ line ∷ lines
      → (place : NamePlace) → FlowsShow (is_command id) flows place → HasItsFlow flows id line
  line_flow id line lines e nowhere at = absurd (let no : line ∷ lines ≡ [] = sym e ∙ at.sent in cc)
  line_flow id line lines e (waits ask) at = absurd (let no : line ∷ lines ≡ [] = sym e ∙ at.sent in cc)
  line_flow id line lines e (sends name flow) at =
      let there = own_is (is_command id) (flow_at flows name) flow (at.running name ∙ on_itself name flow) in
      let same : line ∷ lines ≡ flow_line name flow ∷ [] = sym e ∙ at.sent in
      record { name = name; flow = flow; runs = there.0; its = is_only id flow.ask there.1; is = cc }
  line_flow id line lines e (hears name flow it) at =
      let there = own_is (is_command id) (flow_at flows name) flow (at.running name ∙ on_itself name flow) in
      let same : line ∷ lines ≡ flow_line name flow ∷ [] = sym e ∙ at.sent in
      record { name = name; flow = flow; runs = there.0; its = is_only id flow.ask there.1; is = cc }

  two_names : (name other : List ℕ) (flow its : Flow) → flow_at flows name ≡ Some flow → flow_at flows other ≡ Some its → its.ask ≡ flow.ask → other ≡ name
  two_names name other flow its runs runs_too same =
      let own : is_command flow.ask its.ask ≡ true = ap (λ (i : AskId). is_command flow.ask i) same ∙ is_itself flow.ask in
      let here : own_flow (is_command flow.ask) (flow_at flows other) ≡ Some its =
      ap (λ (f : Option Flow). own_flow (is_command flow.ask) f) runs_too ∙ own_here (is_command flow.ask) its own in
      sym (on_only name flow other its (sym ((at_flow name flow runs).running other) ∙ here)).0

  one_to_one : AreOneToOne flows
  one_to_one = record {
    lines = λ name flow runs. (at_flow name flow runs).sent;
    asks = λ name flow runs. (at_flow name flow runs).waiting;
    flows_are = λ id line lines e. line_flow id line lines e (tells id).0 (tells id).1;
    names = two_names;
  }

pub tells_one_to_one : TellsOneToOne
tells_one_to_one flows tells = one_to_one flows tells

-- ---- the link comes up first

resync_tells : line_ask (mupdate_tag_text (Text (codes "l"))) ≡ None
unfolding line_ask mupdate_tag_text first_word ask_id_of split_dash
resync_tells = refl

pub none_begins : NoneBegins
unfolding taken_up IsStrictlySortedBy
none_begins whose place me =
    let node : BackNode = new_node place me in
    let step = up_step node.flows in
    let next : Bool → BackActed = λ mine. done_by (cond mine (talks node step) (passed_over node)) in
    let none : filter (is_own_out whose) (next true).outs ≡ [] =
    passed (is_own_out whose) (Link me (Line (line_text place [] resync_line))) []
    (ap (λ (i : Option AskId). is_own whose i) (command_under (Text (codes "l")) (command_of place [] resync_line.what) ∙ resync_tells)) in
    subst (λ (mine : Bool). LeavesCommand whose me (next mine) [] [] nowhere) (sym (same_name me))
    (record {
      placed = record {
        at = left_at whose node.flows [] step nowhere (up_leaves whose node.flows [] tt) (none_at_first whose place me);
        up_is = none_sent whose me (next true).outs none;
        down_is = refl;
        known = tt;
      };
      outs = none;
    })

pub tells_first : TellsFirst
tells_first place me id = (nowhere, (none_begins (is_command id) place me).placed)

-- ---- each step

tested : (t : Bool) → (t ≡ true) ⊎ (t ≡ false)
tested true = inl refl
tested false = inr refl

flows_tell : (node : BackNode) (up down : List LinkMsg) → TalkTells node up down → FlowsTell node.flows
flows_tell node up down tells id = ((tells id).0, ((tells id).1).at)

module _ (master : Master) (name : List ℕ) (node : BackNode) (up down : List LinkMsg) (given : Given) (from : List ℕ)
    (talk : HasTalk master name node up down given)
    (ne : from ≢ master.me) (tells : TalkTells node up down) (id : AskId) where
  abbrev NextHas : LinkMsg → Type 0
  NextHas message =
      (place : NamePlace) × TalkShows (is_command id) (node_takes node from message).state (up ++ messages_to master.me (node_takes node from message).outs)
      down place

  others_stay : (message : LinkMsg) → IsFitting message → asks_for (is_command id) message ≡ false → NextHas message
  others_stay message fits other =
      ((tells id).0, (other_asks_leave (is_command id) master name node up down given from message (tells id).0 talk ne fits other (tells id).1).placed)

  own_asked : (ask : FrontAsk) (kind : Option AskKind) → name_kind ask.op ≡ kind → IsFitting (Ask ask) → new_by kind ask node up down
      → is_command id ask.id ≡ true → NextHas (Ask ask)
  own_asked ask (Some kind) is fits new own =
      let here : TalkShows (is_command id) node up down nowhere =
      subst (λ (i : AskId). TalkShows (is_command i) node up down nowhere) (is_only id ask.id own) new in
      (_, (ask_moves (is_command id) master name node up down given from ask kind talk ne fits is own here).placed)
  own_asked ask None is fits new own =
      ((tells id).0, messages_leave (is_command id) master name node up down given from ask (tells id).0 talk ne is (tells id).1)

  asked : (ask : FrontAsk) → IsFitting (Ask ask) → IsNew (Ask ask) node up down → (is_command id ask.id ≡ true) ⊎ (is_command id ask.id ≡ false)
      → NextHas (Ask ask)
  asked ask fits new (inl own) = own_asked ask (name_kind ask.op) refl fits new own
  asked ask fits new (inr other) = others_stay (Ask ask) fits other

  comes : (message : LinkMsg) → IsFitting message → IsNew message node up down → NextHas message
  comes Up fits new = others_stay Up fits refl
  comes End fits new = others_stay End fits refl
  comes (Line bytes) fits new = others_stay (Line bytes) fits refl
  comes (Ask ask) fits new = asked ask fits new (tested (is_command id ask.id))
  comes (Answer answer) fits new = others_stay (Answer answer) fits refl

pub asks_tell : AsksTell
asks_tell master name node up down given from message talk ne fits new tells id = comes master name node up down given from talk ne tells id message fits new

-- ---- the master's

-- a message that is theirs is in their place
not_empty : (message : LinkMsg) (rest : List LinkMsg) → message ∷ rest ≡ [] → ⊥
not_empty message rest e = cc

module _ (master : Master) (name : List ℕ) (node : BackNode) (up down : List LinkMsg) (given : Given) (message : LinkMsg)
    (talk : HasTalk master name node up (message ∷ down) given) (tells : TalkTells node up (message ∷ down)) (id : AskId) where
  abbrev HeardHas : Type 0
  HeardHas =
      (place : NamePlace)
      × TalkShows (is_command id) (node_takes node master.me message).state (up ++ messages_to master.me (node_takes node master.me message).outs) down place

  own_heard : is_own_message (is_command id) message ≡ true → (place : NamePlace) → TalkShows (is_command id) node up (message ∷ down) place → HeardHas
  own_heard own nowhere placed = absurd (not_empty message _ (sym (kept (is_own_message (is_command id)) message down own) ∙ placed.down_is))
  own_heard own (waits ask) placed = absurd (not_empty message _ (sym (kept (is_own_message (is_command id)) message down own) ∙ placed.down_is))
  own_heard own (sends n f) placed = absurd (not_empty message _ (sym (kept (is_own_message (is_command id)) message down own) ∙ placed.down_is))
  own_heard own (hears n f it) placed = (_, (answer_moves (is_command id) master name node up down given message n f it talk own placed).moved.placed)

  by_answer : LeavesOrTests (is_command id) master.me node message up down (tells id).0 → HeardHas
  by_answer (is_left left) = ((tells id).0, left.placed)
  by_answer (is_tested ask flows is over same_up same_master moved) = (_, moved.placed)

  heard_by : (is_own_message (is_command id) message ≡ true) ⊎ (is_own_message (is_command id) message ≡ false) → HeardHas
  heard_by (inl own) = own_heard own (tells id).0 (tells id).1
  heard_by (inr other) =
      by_answer
      (other_answers_leave (is_command id) master name node up down given message (tells id).0 talk
      (flows_tell node up (message ∷ down) tells) other (tells id).1)

pub answers_tell : AnswersTell
answers_tell master name node up down given message talk tells id =
    heard_by master name node up down given message talk tells id (tested (is_own_message (is_command id) message))

module _ (master : Master) (name : List ℕ) (node : BackNode) (up down : List LinkMsg) (given : Given) (message : LinkMsg)
    (talk : HasTalk master name node (message ∷ up) down given) (nobody : TellNobody master.streams) (tells : TalkTells node (message ∷ up) down)
    (id : AskId) where
  abbrev TakenHas : Type 0
  TakenHas = (place : NamePlace) × TalkShows (is_command id) node up (down ++ messages_to name (node_says master name message).outs) place

  own_taken : is_own_message (is_command id) message ≡ true → (place : NamePlace) → TalkShows (is_command id) node (message ∷ up) down place → TakenHas
  own_taken own nowhere placed = absurd (not_empty message _ (sym (kept (is_own_message (is_command id)) message up own) ∙ placed.up_is))
  own_taken own (waits ask) placed = absurd (not_empty message _ (sym (kept (is_own_message (is_command id)) message up own) ∙ placed.up_is))
  own_taken own (sends n f) placed = (_, (line_taken (is_command id) master name node up down given message n f talk nobody own placed).placed)
  own_taken own (hears n f it) placed = absurd (not_empty message _ (sym (kept (is_own_message (is_command id)) message up own) ∙ placed.up_is))

  taken_by : (is_own_message (is_command id) message ≡ true) ⊎ (is_own_message (is_command id) message ≡ false) → TakenHas
  taken_by (inl own) = own_taken own (tells id).0 (tells id).1
  taken_by (inr other) = ((tells id).0, (other_lines_pass (is_command id) master name node up down message (tells id).0 nobody other (tells id).1).placed)

pub lines_tell : LinesTell
lines_tell master name node up down given message talk nobody tells id =
    taken_by master name node up down given message talk nobody tells id (tested (is_own_message (is_command id) message))

-- ---- what of the master is nothing to it

nothing_more : (node : BackNode) (up down sent : List LinkMsg) → sent ≡ [] → TalkTells node up down → TalkTells node up (down ++ sent)
nothing_more node up down sent none tells =
    subst (λ (d : List LinkMsg). TalkTells node up d) (sym (ap (λ (l : List LinkMsg). down ++ l) none ∙ append-nil down)) tells

pub others_tell : OthersTell
others_tell master name other node up down given message ne talk tells =
    nothing_more node up down (messages_to name (node_says master other message).outs)
    ((says_nothing_to master name other message ne).nothing talk.each.no_stream) tells

pub ups_tell : UpsTell
unfolding node_says
ups_tell master name other node up down tells = nothing_more node up down [] refl tells

pub clients_tell : ClientsTell
clients_tell master name node up down conn tells = (
  λ id. ((tells id).0, (clients_pass (is_command id) master name node up down (tells id).0 conn (tells id).1).0.placed),
  λ bytes id. ((tells id).0, ((clients_pass (is_command id) master name node up down (tells id).0 conn (tells id).1).1 bytes).placed),
)
