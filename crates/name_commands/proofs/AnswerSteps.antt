-- The backend takes what the master sent.
use Rattle.std.proofs.Common.{◌≡◌, ◌≢◌, ℕ, Bool, true, false, cond, nat_eq, is_some, List, [], ◌∷◌, filter, Option, None, Some, refl, sym, ap, subst, ◌∙◌}
use Rattle.std.specs.List.{AllByRecursion}
use Rattle.std.specs.Cmp.Lexicographic.{pointwise}
use Rattle.link_msg.specs.declared.message.LinkMsg.{LinkMsg}
use Rattle.link_msg.specs.declared.message.LinkMsg.TheVariants.{Line}
use Rattle.master_core.specs.declared.master.Master.{Master}
use Rattle.master_core.specs.Changes.{text_of}
use Rattle.mupdate_codec.specs.declared.command.MResponse.{MResponse}
use Rattle.mupdate_codec.specs.declared.command.MResponse.TheVariants as response
use Rattle.mupdate_codec.specs.declared.tag.Tag.{Tag}
use Rattle.mupdate_codec.specs.Asks.{ask_id_of, line_ask, tag_of}
use Rattle.mupdate_codec.specs.Whole.{response_in}
use Rattle.mupdate_codec.specs.declared.command.MCommand.TheVariants as command
use Rattle.mupdate_codec.specs.Arguments.{exact}
use Rattle.mupdate_codec.specs.Commands.{command_line}
use Rattle.mupdate_codec.specs.Tags.{mupdate_tag_text}
use Rattle.mupdate_codec.proofs.LineAsks.{command_tells, command_under, response_under}
use Rattle.mur_base.specs.declared.point.AskId.{AskId}
use Rattle.name_flows.specs.declared.flow.Flow.{Flow}
use Rattle.name_flows.specs.declared.flow.Stage.{Stage}
use Rattle.name_flows.specs.declared.flow.Stage.TheVariants.{Reserving, Making, Deactivating, Deleting}
use Rattle.name_flows.specs.declared.ask.NameAsk.{NameAsk}
use Rattle.name_flows.specs.declared.sent.Sent.{Sent}
use Rattle.name_flows.specs.declared.sent.Sent.TheVariants.{List as List_line, Reserve, Make, Again, Deactivate, Delete, Wipe, Find}
use Rattle.name_flows.specs.declared.sent.SentLine.{SentLine}
use Rattle.name_flows.specs.Asked.{refusal}
use Rattle.name_flows.specs.Heard.{heard_step, is_same_tag}
use Rattle.name_flows.specs.Running.{flow_at}
use Rattle.name_flows.specs.Steps.{FlowStep}
use Rattle.back_node.specs.declared.node.BackNode.{BackNode}
use Rattle.back_node.specs.Acted.{BackActed}
use Rattle.back_node.specs.Node.{is_my_master}
use Rattle.back_node.specs.Takes.{line_by, node_takes, passed_over, talks, taken_up}
use Rattle.back_node.proofs.AtHome.{done_by}
use Rattle.back_node.proofs.Owed.{AnswersOnly, heard_answers}
use Rattle.feed_links.proofs.Names.{same_name}
use Rattle.name_links.specs.LinkIs.{AreAnswers, is_tagged_as, IsTagged, tagged_by}
use Rattle.name_links.specs.OneLink.{OneLink}
use Rattle.name_links.specs.Serials.{Given}
use Rattle.name_links.proofs.HearEvents.{none_answers, same}
use Rattle.name_links.proofs.Messages.{same_tag_itself}
use Rattle.name_links.proofs.Sends.{is_list_end}
use Rattle.back_links.specs.OneTalk.{HasTalk, link_of}
use Rattle.back_links.specs.Spelled.{HasResponseTexts, IsTextTag}
use Rattle.back_links.specs.Written.{response_message}
use Rattle.back_links.proofs.Queues.{first_of, IsFirst}
use Rattle.back_links.proofs.StepsSaid.{StepSaid, heard_said}
use Rattle.back_links.proofs.Texts.{command_is, response_read}
use Rattle.name_commands.specs.BackSteps.{AnswerMoves, IsHeard, LeavesOrTests, is_left, is_tested, OtherAnswersLeave}
use Rattle.name_commands.specs.Moves.{Move, heard_move, heard_move_by, tested_move, LeavesCommand, MovesCommand}
use Rattle.name_commands.specs.Places.{NamePlace, nowhere, waits, sends, hears, FlowsTell, FlowsShow, TalkShows, answer_message, asks_at, downs_at, may_come, stage_line, ups_at}
use Rattle.name_commands.specs.Whose.{Whose, is_command, is_own, is_own_line, is_own_message, own_flow}
use Rattle.name_commands.proofs.AnswerLaw.{as_sent, first_is_its, heard_makes, FirstIsIts, some_first}
use Rattle.name_commands.proofs.OtherLaw.{as_many, heard_leaves, IsFree}
use Rattle.name_commands.proofs.Own.{is_itself, is_only, kept, not_here, on_itself, own_is, passed, same_tag}
use Rattle.name_commands.proofs.ResyncLaw.{EndsResync, IsTested, list_ends}
use Rattle.name_commands.proofs.Sends.{is_left as left_so, is_moved, leaves_it}
use Rattle.name_commands.proofs.Steps.{Leaves, Makes}

-- ---- a response that may come does something

move_is : (name : List ℕ) (flow : Flow) (stage : Stage) (it : MResponse) → may_come stage it ≡ true
    → (move : Move) × (heard_move_by name flow stage it ≡ Some move)
move_is name flow Reserving (response.Ok text) e = (_, refl)
move_is name flow Reserving (response.No text) e = (_, refl)
move_is name flow Reserving (response.Bad text) e = (_, refl)
move_is name flow Making (response.Ok text) e = (_, refl)
move_is name flow Making (response.No text) e = (_, refl)
move_is name flow Making (response.Bad text) e = (_, refl)
move_is name flow Deactivating (response.Ok text) e = (_, refl)
move_is name flow Deleting (response.Ok text) e = (_, refl)
move_is name flow Reserving (response.Mailbox n p a) e = cc
move_is name flow Reserving (response.Reserve n p) e = cc
move_is name flow Reserving (response.Delete n) e = cc
move_is name flow Making (response.Mailbox n p a) e = cc
move_is name flow Making (response.Reserve n p) e = cc
move_is name flow Making (response.Delete n) e = cc
move_is name flow Deactivating (response.No text) e = cc
move_is name flow Deactivating (response.Bad text) e = cc
move_is name flow Deactivating (response.Mailbox n p a) e = cc
move_is name flow Deactivating (response.Reserve n p) e = cc
move_is name flow Deactivating (response.Delete n) e = cc
move_is name flow Deleting (response.No text) e = cc
move_is name flow Deleting (response.Bad text) e = cc
move_is name flow Deleting (response.Mailbox n p a) e = cc
move_is name flow Deleting (response.Reserve n p) e = cc
move_is name flow Deleting (response.Delete n) e = cc

just : (one other : Tag × MResponse) → Some one ≡ Some other → one ≡ other
just one other e = cc

-- ---- which response ends a resync

list_end : (what : Sent) (it : MResponse) → is_list_end (Some what) it ≡ true → (what ≡ List_line) × (text : List ℕ) × (it ≡ response.Ok text)
list_end List_line (response.Ok text) e = (refl, text, refl)
list_end what it e = cc

-- ---- the first line, and the response to it

-- the tag tells its command
tag_told : (tag : Tag) → IsTextTag tag → line_ask (mupdate_tag_text tag) ≡ ask_id_of tag
tag_told tag spelled =
    sym (command_under tag command.Noop)
    ∙ command_tells ((command_line exact).text (tag, command.Noop)) (tag, command.Noop) (command_is (tag, command.Noop) (spelled, tt))

pub record IsAnswered (node : BackNode) (message : LinkMsg) : Type 0 where
  pub tag : Tag
  pub it : MResponse
  pub is : message ≡ response_message (tag, it)
  pub spelled : HasResponseTexts (tag, it)
  pub line : SentLine
  pub lines : List SentLine
  pub first : node.flows.sent ≡ line ∷ lines
  pub under : line.tag ≡ tag

hears_is : (node : BackNode) (from : List ℕ) (it : Tag × MResponse) → is_my_master node from ≡ true → response_in (text_of it.0 it.1) ≡ Some it
    → node_takes node from (Line (text_of it.0 it.1)) ≡ done_by (talks node (heard_step node.flows node.home.held it.0 it.1))
unfolding taken_up
hears_is node from it mine read =
    ap (λ (t : Bool). done_by (cond t (line_by node (response_in (text_of it.0 it.1))) (passed_over node))) mine
    ∙ ap (λ (r : Option (Tag × MResponse)). done_by (line_by node r)) read

module _ (master : Master) (name : List ℕ) (node : BackNode) (up down : List LinkMsg) (given : Given) (message : LinkMsg)
    (talk : HasTalk master name node up (message ∷ down) given) where
  abbrev link : OneLink
  link = link_of master node talk.ups talk.downs

  first_response : IsFirst response_message message down talk.downs
  first_response = first_of response_message message down talk.downs talk.written.down_is

  answered_by : (sent : List SentLine) → node.flows.sent ≡ sent → IsAnswered node message
  answered_by [] first =
      absurd (none_answers first_response.it first_response.more talk.holds.names.is.tied.left
      (subst (λ ds. AreAnswers [] ds talk.holds.names.is.tied.left) first_response.are
      (subst (λ (ls : List SentLine). AreAnswers (tagged_by node.flows.found ls) talk.downs talk.holds.names.is.tied.left) first
      talk.holds.names.is.tied.answers)))
  answered_by (line ∷ lines) first =
      let spelled : AllByRecursion HasResponseTexts (first_response.it ∷ first_response.more) =
      subst (AllByRecursion HasResponseTexts) first_response.are talk.written.responses in
      record {
        tag = (first_response.it).0;
        it = (first_response.it).1;
        is = first_response.is;
        spelled = spelled.0;
        line = line;
        lines = lines;
        first = first;
        under =
            same_tag line.tag (first_response.it).0
            (same link first_response.it first_response.more talk.holds.names.ready talk.holds.names.is first_response.are line lines first);
      }

  pub answered : IsAnswered node message
  answered = answered_by node.flows.sent refl

  abbrev step : FlowStep
  step = heard_step node.flows node.home.held answered.tag answered.it

  same_under : is_same_tag answered.line.tag answered.tag ≡ true
  same_under = subst (λ (t : Tag). is_same_tag t answered.tag ≡ true) (sym answered.under) (same_tag_itself answered.tag)

  pub takes_is : node_takes node master.me message ≡ done_by (talks node step)
  takes_is =
      ap (λ (m : LinkMsg). node_takes node master.me m) answered.is
      ∙ hears_is node master.me (answered.tag, answered.it)
      (ap (λ (m : List ℕ). pointwise nat_eq master.me m) talk.each.its_master ∙ same_name master.me)
      (response_read (answered.tag, answered.it) answered.spelled)

  step_said : StepSaid node.flows.me node.home.held step
  step_said = heard_said node.flows node.home.held talk.said answered.tag answered.it answered.spelled.1

  step_answers : AnswersOnly (λ front. front ≢ master.me) node.flows step
  step_answers = heard_answers (λ front. front ≢ master.me) node.flows node.home.held answered.tag answered.it talk.each.owes

  -- the message is of the command whose line it answers
  message_whose : (whose : Whose) → is_own_message whose message ≡ is_own_line whose answered.line
  message_whose whose =
      ap (λ (m : LinkMsg). is_own_message whose m) answered.is
      ∙ ap (λ (i : Option AskId). is_own whose i)
      (response_under answered.tag answered.it ∙ tag_told answered.tag answered.spelled.0 ∙ ap (λ (t : Tag). ask_id_of t) (sym answered.under))

  module _ (whose : Whose) where
    -- ---- the response to its line

    module _ (mailbox : List ℕ) (flow : Flow) (it : MResponse) (own : is_own_message whose message ≡ true)
        (placed : TalkShows whose node up (message ∷ down) (hears mailbox flow it)) where
      own_line : is_own_line whose answered.line ≡ true
      own_line = sym (message_whose whose) ∙ own

      both_are : message ∷ filter (is_own_message whose) down ≡ answer_message flow it ∷ []
      both_are = sym (kept (is_own_message whose) message down own) ∙ placed.down_is

      text_is : text_of answered.tag answered.it ≡ text_of (tag_of flow.ask) it
      text_is =
          let is : message ≡ answer_message flow it = cc in
          let texts : response_message (answered.tag, answered.it) ≡ answer_message flow it = sym answered.is ∙ is in cc

      none_left : filter (is_own_message whose) down ≡ []
      none_left = let e = both_are in cc

      response_is : answered.it ≡ it
      response_is =
          ap (λ (x : Tag × MResponse). x.1) (just (answered.tag, answered.it) (tag_of flow.ask, it)
          (sym (response_read (answered.tag, answered.it) answered.spelled) ∙ ap (λ (b : List ℕ). response_in b) text_is ∙ (placed.known).read))

      its_line : FirstIsIts whose node.flows answered.line answered.lines mailbox flow
      its_line =
          first_is_its whose node.flows answered.line answered.lines answered.first own_line mailbox flow (as_sent whose node.flows mailbox flow it placed.at)

      move_of : (move : Move) × (heard_move mailbox flow it ≡ Some move)
      move_of = move_is mailbox flow flow.stage it (placed.known).fits

      step_makes : Makes whose node.home.held step move_of.0
      step_makes =
          heard_makes whose node.flows node.home.held talk.holds.names.ready.running answered.line answered.lines answered.first mailbox flow its_line
          answered.tag same_under answered.it move_of.0 (ap (λ (r : MResponse). heard_move mailbox flow r) response_is ∙ move_of.1)

      heard : IsHeard whose master.me node message up down mailbox flow it
      heard = record {
        move = move_of.0;
        is = move_of.1;
        moved = subst (λ (next : BackActed). MovesCommand whose master.me node next up down move_of.0) (sym takes_is)
            (is_moved whose master name node step talk.each talk.said step_said step_answers up down move_of.0 step_makes placed.up_is none_left);
      }

    -- ---- any other

    module _ (place : NamePlace) (tells : FlowsTell node.flows) (other : is_own_message whose message ≡ false)
        (placed : TalkShows whose node up (message ∷ down) place) where
      other_line : is_own_line whose answered.line ≡ false
      other_line = sym (message_whose whose) ∙ other

      down_rest : filter (is_own_message whose) down ≡ downs_at place
      down_rest = sym (passed (is_own_message whose) message down other) ∙ placed.down_is

      tagged : IsTagged answered.line
      tagged = let all : AllByRecursion IsTagged (answered.line ∷ answered.lines) =
          subst (λ (ls : List SentLine). AllByRecursion IsTagged ls) answered.first talk.holds.names.is.tied.tagged in all.0

      -- the flow whose line it is is another's
      free_stage : (name : List ℕ) (stage : Stage) → own_flow whose (flow_at node.flows name) ≡ None → IsFree whose node.flows (stage_line stage name)
      free_stage name Reserving free = free
      free_stage name Making free = free
      free_stage name Deactivating free = free
      free_stage name Deleting free = free

      free_of : (id : AskId) → ask_id_of answered.line.tag ≡ Some id → IsFree whose node.flows answered.line.what
      free_of id is =
          let others : whose id ≡ false = ap (λ (i : Option AskId). is_own whose i) (sym is) ∙ other_line in
          let its : is_own_line (is_command id) answered.line ≡ true = ap (λ (i : Option AskId). is_own (is_command id) i) is ∙ is_itself id in
          let found = some_first (is_command id) node.flows answered.line answered.lines answered.first its (tells id).0 (tells id).1 in
          let there = own_is (is_command id) (flow_at node.flows found.0) found.1 ((found.2.at).running found.0 ∙ on_itself found.0 found.1) in
          let ask_is : found.1.ask ≡ id = is_only id found.1.ask there.1 in
          let not_own : whose found.1.ask ≡ false = ap (λ (i : AskId). whose i) ask_is ∙ others in
          subst (λ (l : SentLine). IsFree whose node.flows l.what) (sym found.2.line_is)
          (free_stage found.0 found.1.stage (ap (λ (f : Option Flow). own_flow whose f) there.0 ∙ not_here whose found.1 not_own))

      untagged : (what : Sent) → is_tagged_as false what → IsFree whose node.flows what
      untagged List_line t = tt
      untagged (Reserve m) t = cc
      untagged (Make m) t = cc
      untagged (Again m) t = tt
      untagged (Deactivate m) t = cc
      untagged (Delete m) t = cc
      untagged (Wipe m) t = tt
      untagged (Find m) t = tt

      free_by : (id : Option AskId) → ask_id_of answered.line.tag ≡ id → IsFree whose node.flows answered.line.what
      free_by (Some id) is = free_of id is
      free_by None is = untagged answered.line.what (subst (λ (i : Option AskId). is_tagged_as (is_some i) answered.line.what) is tagged)

      left_as : Leaves whose node.flows step → LeavesOrTests whose master.me node message up down place
      left_as leaves =
          is_left (subst (λ (next : BackActed). LeavesCommand whose master.me next up down place) (sym takes_is)
          (leaves_it whose master name node step talk.each talk.said step_said step_answers up down place leaves placed.at placed.up_is down_rest placed.known))

      plain : is_list_end (Some answered.line.what) answered.it ≡ false → LeavesOrTests whose master.me node message up down place
      plain e =
          left_as
          (heard_leaves whose node.flows node.home.held talk.holds.names.ready.running answered.tag answered.line answered.lines answered.first same_under
          other_line (free_by (ask_id_of answered.line.tag) refl) answered.it e)

      -- LIST's OK

      ends_so : (text : List ℕ) → answered.line.what ≡ List_line → answered.it ≡ response.Ok text → EndsResync whose node.flows node.home.held step
      ends_so text what ok =
          subst (λ (r : MResponse). EndsResync whose node.flows node.home.held (heard_step node.flows node.home.held answered.tag r)) (sym ok)
          (list_ends whose node.flows node.home.held talk.holds.names.ready.held answered.tag answered.line answered.lines answered.first same_under other_line
          (as_many whose node.flows node.home.held talk.holds.names.ready.running answered.tag answered.line answered.lines answered.first same_under other_line
          (free_by (ask_id_of answered.line.tag) refl))
          text what talk.holds.names.ready.waiting)

      ended_left : EndsResync whose node.flows node.home.held step → asks_at place ≡ [] → LeavesOrTests whose master.me node message up down place
      ended_left ended none =
          let nothing = ended.silent (placed.at.waiting ∙ none) in
          is_left (subst (λ (next : BackActed). LeavesCommand whose master.me next up down place) (sym takes_is)
          (left_so whose master name node step talk.each talk.said step_said step_answers up down place (ended.left place none placed.at) nothing.0 nothing.1
          placed.up_is down_rest placed.known))

      ended_tested : (ask : NameAsk) → place ≡ waits ask → IsTested whose node.flows node.home.held step ask
          → LeavesOrTests whose master.me node message up down place
      ended_tested ask is tested =
          let move : Move = tested_move ask (refusal tested.then node.home.held ask.name ask.kind) in
          is_tested ask tested.then is (ap (λ (next : BackActed). next.state.flows.resync) takes_is ∙ tested.over) tested.up tested.master
          (subst (λ (next : BackActed). MovesCommand whose master.me node next up down move) (sym takes_is)
          (is_moved whose master name node step talk.each talk.said step_said step_answers up down move tested.makes
          (placed.up_is ∙ ap (λ (p : NamePlace). ups_at node.flows.me p) is) (down_rest ∙ ap (λ (p : NamePlace). downs_at p) is)))

      ended_by : EndsResync whose node.flows node.home.held step → (p : NamePlace) → place ≡ p → LeavesOrTests whose master.me node message up down place
      ended_by ended nowhere is = ended_left ended (ap (λ (p : NamePlace). asks_at p) is)
      ended_by ended (waits ask) is = ended_tested ask is (ended.tested ask (subst (λ (p : NamePlace). FlowsShow whose node.flows p) is placed.at))
      ended_by ended (sends n f) is = ended_left ended (ap (λ (p : NamePlace). asks_at p) is)
      ended_by ended (hears n f r) is = ended_left ended (ap (λ (p : NamePlace). asks_at p) is)

      by_end : (end : Bool) → is_list_end (Some answered.line.what) answered.it ≡ end → LeavesOrTests whose master.me node message up down place
      by_end false e = plain e
      by_end true e = let parts = list_end answered.line.what answered.it e in ended_by (ends_so parts.1 parts.0 parts.2) place refl

      heard_other : LeavesOrTests whose master.me node message up down place
      heard_other = by_end (is_list_end (Some answered.line.what) answered.it) refl

pub answer_moves : AnswerMoves
answer_moves whose master name node up down given message mailbox flow it talk own placed =
    heard master name node up down given message talk whose mailbox flow it own placed

pub other_answers_leave : OtherAnswersLeave
other_answers_leave whose master name node up down given message place talk tells other placed =
    heard_other master name node up down given message talk whose place tells other placed
