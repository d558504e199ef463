-- Each line with which a backend begins something is under the tag of a client's command.
use Rattle.std.proofs.Common.{◌≡◌, ◌≢◌, ℕ, Bool, true, false, cond, is_some, List, [], ◌∷◌, ◌++◌, map, Option, None, Some, refl, sym, ap, subst, ◌∙◌}
use Rattle.std.specs.List.{AllByRecursion}
use Rattle.back_links.specs.BackEvents.{IsFitting, fits_by}
use Rattle.back_links.specs.OneTalk.{HasTalk}
use Rattle.back_links.specs.Spelled.{HasCommandTexts, HaveTexts}
use Rattle.back_links.proofs.BackLaw.{asks_keep_talk, hears_keeps_talk}
use Rattle.back_links.proofs.StepsSaid.{StepSaid, asked_said, heard_said, sends_spelled}
use Rattle.back_links.proofs.Texts.{ask_spelled, command_is, command_read}
use Rattle.back_node.specs.declared.node.BackNode.{BackNode}
use Rattle.back_node.specs.Acted.{BackActed}
use Rattle.back_node.specs.Node.{is_my_master}
use Rattle.back_node.specs.Takes.{UpToEntry, answer_out, ask_by, line_by, line_out, name_ask, name_kind, node_takes, passed_over, serves, talks, taken_up}
use Rattle.back_node.proofs.AtHome.{done_by}
use Rattle.backend_core.specs.declared.backend.Backend.{Backend}
use Rattle.backend_core.specs.declared.plan.Owed.{Owed}
use Rattle.backend_core.specs.Plan.{answer_outs, back_plan, owed_outs}
use Rattle.feed_links.specs.Lines.{messages_to}
use Rattle.feed_links.proofs.Names.{other_name}
use Rattle.imap_types.specs.declared.op.Op.{Op}
use Rattle.link_msg.specs.declared.ask.FrontAsk.{FrontAsk}
use Rattle.link_msg.specs.declared.message.LinkMsg.{LinkMsg}
use Rattle.link_msg.specs.declared.message.LinkMsg.TheVariants.{Up, End, Line, Ask, Answer}
use Rattle.link_msg.specs.declared.out.Out.{Out}
use Rattle.link_msg.specs.declared.out.Out.TheVariants.{Client, Close, Link, Mark, Told as tell}
use Rattle.master_core.specs.declared.master.Master.{Master}
use Rattle.mupdate_codec.specs.declared.tag.Tag.{Tag}
use Rattle.mupdate_codec.specs.Asks.{ask_id_of, line_ask}
use Rattle.mupdate_codec.specs.Whole.{command_in, response_in}
use Rattle.mupdate_codec.proofs.LineAsks.{command_tells}
use Rattle.mur_base.specs.declared.home.Location.{Location}
use Rattle.mur_base.specs.declared.point.AskId.{AskId}
use Rattle.name_commands.proofs.AnswerSteps.{answered, takes_is}
use Rattle.name_flows.specs.declared.ask.AskKind.{AskKind}
use Rattle.name_flows.specs.declared.ask.Told.{Told}
use Rattle.name_flows.specs.declared.sent.Sent.{Sent}
use Rattle.name_flows.specs.declared.sent.Sent.TheVariants.{List as list, Reserve, Make, Again, Deactivate, Delete, Wipe, Find}
use Rattle.name_flows.specs.declared.sent.SentLine.{SentLine}
use Rattle.name_flows.specs.Asked.{asked_step}
use Rattle.name_flows.specs.Heard.{heard_step}
use Rattle.name_flows.specs.Lines.{command_of, line_text}
use Rattle.name_flows.specs.Link.{end_step}
use Rattle.name_flows.specs.Listing.{up_step}
use Rattle.name_flows.specs.Steps.{FlowStep}
use Rattle.name_links.specs.LinkIs.{IsTagged, is_tagged_as}
use Rattle.name_links.specs.Lines.{is_asked}
use Rattle.name_links.specs.OneLink.{message_of}
use Rattle.name_links.specs.Serials.{Given}
use Rattle.name_links.proofs.OnWay.{all_append}
use Rattle.node_record.specs.Held.{Names}
use Rattle.cluster_core.specs.Headline.Lines.{begun_by}

-- a line that begins something has the tag of a command
abbrev pub IsUnderItsTag : List ℕ → Type 0
IsUnderItsTag bytes = (op : Op) → begun_by (command_in bytes) ≡ Some op → (id : AskId) × (line_ask bytes ≡ Some id)

abbrev pub IsToldSo : LinkMsg → Type 0
IsToldSo (Line bytes) = IsUnderItsTag bytes
IsToldSo message = Unit {0}

abbrev IsOutSo : Out → Type 0
IsOutSo (Link to message) = IsToldSo message
IsOutSo out = Unit {0}

abbrev AreOutSo : List Out → Type 0
AreOutSo outs = AllByRecursion IsOutSo outs

-- ---- a line

id_of : (tag : Tag) (found : Option AskId) → ask_id_of tag ≡ found → is_some found ≡ true → (id : AskId) × (ask_id_of tag ≡ Some id)
id_of tag (Some id) e some = (id, e)
id_of tag None e some = cc

module _ (me : Location) (held : Names) where
  asked_by_what : (tag : Tag) (what : Sent) (op : Op) → is_tagged_as (is_asked tag) what → begun_by (Some (tag, command_of me held what)) ≡ Some op
      → is_asked tag ≡ true
  asked_by_what tag (Reserve name) op tagged e = tagged
  asked_by_what tag (Deactivate name) op tagged e = tagged
  asked_by_what tag list op tagged e = cc
  asked_by_what tag (Make name) op tagged e = cc
  asked_by_what tag (Again name) op tagged e = cc
  asked_by_what tag (Delete name) op tagged e = cc
  asked_by_what tag (Wipe name) op tagged e = cc
  asked_by_what tag (Find name) op tagged e = cc

  line_so : (line : SentLine) → HasCommandTexts (message_of me held line) → IsTagged line → IsUnderItsTag (line_text me held line)
  line_so line spelled tagged op begins =
      let asked : is_asked line.tag ≡ true =
      asked_by_what line.tag line.what op tagged (sym (ap begun_by (command_read (message_of me held line) spelled)) ∙ begins) in
      let its = id_of line.tag (ask_id_of line.tag) refl asked in
      (its.0, command_tells (line_text me held line) (message_of me held line) (command_is (message_of me held line) spelled) ∙ its.1)

  lines_so : (to : List ℕ) (lines : List SentLine) → AllByRecursion HasCommandTexts (map (message_of me held) lines) → AllByRecursion IsTagged lines
      → AreOutSo (map (line_out to) (map (line_text me held) lines))
  lines_so to [] spelled tagged = tt
  lines_so to (line ∷ lines) spelled tagged = (line_so line spelled.0 tagged.0, lines_so to lines spelled.1 tagged.1)

answers_so : (answers : List Told) → AreOutSo (map answer_out answers)
answers_so [] = tt
answers_so (told ∷ answers) = (tt, answers_so answers)

-- ---- a step of a backend

pub behind : {X : Type 0} (P : X → Type 0) (xs ys : List X) → AllByRecursion P (xs ++ ys) → AllByRecursion P ys
behind P [] ys all = all
behind P (x ∷ xs) ys all = behind P xs ys all.1

-- where each line whose last answer hasn't come has the right tag
abbrev HasTags : BackActed → Type 0
HasTags next = AllByRecursion IsTagged next.state.flows.sent

talk_so : (node : BackNode) (step : FlowStep) → HaveTexts node.home.held → StepSaid node.flows.me node.home.held step → HasTags (done_by (talks node step))
    → AreOutSo (done_by (talks node step)).outs
talk_so node step texts so tags =
    all_append IsOutSo _ _
    (lines_so step.flows.me node.home.held step.flows.master step.sends (sends_spelled step.flows.me node.home.held step.sends so.can.place texts so.sends)
    (behind IsTagged step.flows.sent step.sends tags))
    (answers_so step.answers)

owed_so : (home : Backend) (owed : Option Owed) → AreOutSo (owed_outs home owed)
unfolding answer_outs
owed_so home None = tt
owed_so home (Some owed) = (tt, (tt, tt))

module _ (master : Master) (name : List ℕ) (node : BackNode) (up down : List LinkMsg) (given : Given) where
  -- the master's message
  pub master_so : (message : LinkMsg) → HasTalk master name node up (message ∷ down) given → AreOutSo (node_takes node master.me message).outs
  master_so message talk =
      let its = answered master name node up down given message talk in
      let is = takes_is master name node up down given message talk in
      let then = hears_keeps_talk master name node up down given message talk in
      subst (λ (next : BackActed). AreOutSo next.outs) (sym is)
      (talk_so node (heard_step node.flows node.home.held its.tag its.it) talk.said.mailboxes
      (heard_said node.flows node.home.held talk.said its.tag its.it its.spelled.1)
      (subst HasTags is then.holds.names.is.tied.tagged))

  -- another's
  module _ (from : List ℕ) (talk : HasTalk master name node up down given) (ne : from ≢ master.me) where
    passed : (it : UpToEntry) → AreOutSo (done_by (cond (is_my_master node from) it (passed_over node))).outs
    passed it =
        subst (λ (mine : Bool). AreOutSo (done_by (cond mine it (passed_over node))).outs)
        (sym (other_name from node.flows.master (λ e. ne (e ∙ talk.each.its_master)))) tt

    ask_so : (ask : FrontAsk) (kind : Option AskKind) → fits_by kind ask → HasTags (done_by (ask_by node from ask kind))
        → AreOutSo (done_by (ask_by node from ask kind)).outs
    ask_so ask None fits tags = owed_so (done_by (serves node (back_plan node.home from ask))).state.home (back_plan node.home from ask).owed
    ask_so ask (Some kind) fits tags =
        talk_so node (asked_step node.flows node.home.held (name_ask from ask kind)) talk.said.mailboxes
        (asked_said node.flows node.home.held talk.said (name_ask from ask kind) (ask_spelled (name_ask from ask kind) fits.0 fits.1 fits.2)) tags

    by_message : (message : LinkMsg) → IsFitting message → HasTags (node_takes node from message) → AreOutSo (node_takes node from message).outs
    unfolding taken_up
    by_message Up fits tags = passed (talks node (up_step node.flows))
    by_message End fits tags = passed (talks node (end_step node.flows))
    by_message (Line line) fits tags = passed (line_by node (response_in line))
    by_message (Ask ask) fits tags = ask_so ask (name_kind ask.op) fits tags
    by_message (Answer answer) fits tags = tt

    pub other_so : (message : LinkMsg) → IsFitting message → AreOutSo (node_takes node from message).outs
    other_so message fits =
        by_message message fits (asks_keep_talk master name node up down given from message ne fits talk).holds.names.is.tied.tagged

-- ---- what goes to one node

if_to : (here : Bool) (message : LinkMsg) (rest : List LinkMsg) → IsToldSo message → AllByRecursion IsToldSo rest
    → AllByRecursion IsToldSo (cond here (message ∷ []) [] ++ rest)
if_to true message rest is more = (is, more)
if_to false message rest is more = more

pub told_so : (to : List ℕ) (outs : List Out) → AreOutSo outs → AllByRecursion IsToldSo (messages_to to outs)
told_so to [] all = tt
told_so to (Client conn bytes ∷ outs) all = told_so to outs all.1
told_so to (Close conn ∷ outs) all = told_so to outs all.1
told_so to (Link other message ∷ outs) all = if_to _ message (messages_to to outs) all.0 (told_so to outs all.1)
told_so to (Mark id counts ∷ outs) all = told_so to outs all.1
told_so to (tell id how ∷ outs) all = told_so to outs all.1
