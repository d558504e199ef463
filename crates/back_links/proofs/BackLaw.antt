-- A talk begins when the link comes up first, and goes on in each step of the backend.
use Rattle.std.proofs.Common.{◌≡◌, ◌≢◌, ℕ, Bool, true, false, cond, nat_eq, List, [], ◌∷◌, ◌++◌, map, Option, None, Some, refl, sym, ap, subst, ◌∙◌, append-nil}
use Rattle.std.specs.List.{AllByRecursion}
use Rattle.std.specs.List.Sorted.{IsStrictlySortedBy}
use Rattle.std.specs.Cmp.Lexicographic.{pointwise}
use Rattle.backend_core.specs.declared.plan.BackPlan.{BackPlan}
use Rattle.backend_core.specs.AskPlan.{ask_plan}
use Rattle.backend_core.specs.Plan.{back_plan, owed_outs, owes}
use Rattle.link_msg.specs.declared.ask.FrontAsk.{FrontAsk}
use Rattle.link_msg.specs.declared.message.LinkMsg.{LinkMsg}
use Rattle.link_msg.specs.declared.message.LinkMsg.TheVariants.{Up, End, Line, Ask, Answer}
use Rattle.master_core.specs.declared.master.Master.{Master}
use Rattle.master_core.specs.Boot.{booted}
use Rattle.master_core.specs.Changes.{text_of}
use Rattle.mupdate_codec.specs.declared.command.MCommand.{MCommand}
use Rattle.mupdate_codec.specs.declared.command.MResponse.{MResponse}
use Rattle.mupdate_codec.specs.declared.tag.Tag.{Tag}
use Rattle.mupdate_codec.specs.Whole.{response_in}
use Rattle.mur_base.specs.declared.home.Location.{Location}
use Rattle.node_record.specs.declared.backend.BackendRecord.{BackendRecord}
use Rattle.node_record.specs.Held.{Names}
use Rattle.node_record.specs.Table.{empty_table}
use Rattle.name_flows.specs.declared.ask.AskKind.{AskKind}
use Rattle.name_flows.specs.declared.ask.NameAsk.{NameAsk}
use Rattle.name_flows.specs.declared.sent.Sent.{Sent}
use Rattle.name_flows.specs.declared.sent.Sent.TheVariants.{List as List_line, Reserve, Make, Again, Deactivate, Delete, Wipe, Find}
use Rattle.name_flows.specs.declared.sent.SentLine.{SentLine}
use Rattle.name_flows.specs.Asked.{asked_step}
use Rattle.name_flows.specs.Heard.{heard_step}
use Rattle.name_flows.specs.Lines.{command_of}
use Rattle.name_flows.specs.Link.{end_step}
use Rattle.name_flows.specs.Listing.{up_step}
use Rattle.name_flows.specs.Steps.{FlowStep, held_with}
use Rattle.back_node.specs.declared.node.BackNode.{BackNode}
use Rattle.back_node.specs.Acted.{BackActed, home_with}
use Rattle.back_node.specs.Node.{is_my_master, new_node}
use Rattle.back_node.specs.Takes.{UpToEntry, ask_by, line_by, name_ask, name_kind, node_takes, only_entry, passed_over, serves, taken_up, talks}
use Rattle.back_node.proofs.AtHome.{done_by}
use Rattle.back_node.proofs.Courses.{with_one}
use Rattle.back_node.proofs.OpenHere.{no_kind, open_is_carried_out}
use Rattle.back_node.proofs.Owed.{AnswersOnly, ask_answers, heard_answers, none_owed, up_answers}
use Rattle.feed_links.specs.Lines.{messages_to}
use Rattle.feed_links.specs.Spelled.{CanBeTold}
use Rattle.feed_links.proofs.Names.{same_name, other_name}
use Rattle.name_links.specs.OneLink.{OneLink, does, message_of}
use Rattle.name_links.specs.Serials.{Given}
use Rattle.name_links.proofs.BoxLaw.{first_boxes, asks_boxes, hears_boxes, serves_boxes}
use Rattle.name_links.proofs.ContentLaw.{first_content, asks_content, hears_content}
use Rattle.name_links.proofs.LinkLaw.{first_law, asks_law, hears_law}
use Rattle.name_links.proofs.OnWay.{all_append}
use Rattle.name_links.proofs.SerialTurn.{first_serials}
use Rattle.name_links.proofs.ServedLaw.{serves_content, serves_law}
use Rattle.back_links.specs.BackEvents.{TalkAfterNode, TalkBegins, fits_by, IsFitting, AsksKeepTalk, HearsKeepsTalk, MessagesAreServed}
use Rattle.back_links.specs.OneTalk.{AreOfPlace, HaveEachOther, link_of, HoldsOfEachName, HasTalk, NamesOnly}
use Rattle.back_links.specs.Spelled.{CanTellMaster, HasCommandTexts, HasResponseTexts}
use Rattle.back_links.specs.Written.{AreWritten, command_message, response_message}
use Rattle.back_links.proofs.Mailboxes.{served_spelled}
use Rattle.back_links.proofs.MessageSteps.{IsStepIf, message_steps}
use Rattle.back_links.proofs.Queues.{owed_sends, step_sends, written_then, IsFirst, first_of}
use Rattle.back_links.proofs.StepsSaid.{StepSaid, asked_said, heard_said, new_said, up_said, handed_said, sends_spelled}
use Rattle.back_links.proofs.Texts.{ask_spelled, place_no_bang, response_read}

-- the frontends that are owed answers aren't the master
abbrev IsNot : List ℕ → List ℕ → Type 0
IsNot master front = front ≢ master

-- a line that the backend sends names its own place, if it names one

own_by : (me : Location) (held : Names) (what : Sent) → NamesOnly me (command_of me held what)
own_by me held List_line = tt
own_by me held (Reserve name) = refl
own_by me held (Make name) = refl
own_by me held (Again name) = refl
own_by me held (Deactivate name) = refl
own_by me held (Delete name) = tt
own_by me held (Wipe name) = tt
own_by me held (Find name) = tt

sends_own : (me : Location) (held : Names) (sends : List SentLine) → AreOfPlace me (map (message_of me held) sends)
sends_own me held [] = tt
sends_own me held (line ∷ sends) = (own_by me held line.what, sends_own me held sends)

-- ---- a step of the backend's talk

module _ (master : Master) (name : List ℕ) (node : BackNode) (up down : List LinkMsg) (ups : List (Tag × MCommand)) (downs : List (Tag × MResponse))
    (given : Given) (step : FlowStep) where
  abbrev then : BackActed
  then = done_by (talks node step)

  held_is : held_with node.home.held step.entry ≡ then.state.home.held
  held_is = sym (with_one node.home step.entry)

  then_each : HaveEachOther master name node → StepSaid node.flows.me node.home.held step → AnswersOnly (IsNot master.me) node.flows step
      → HaveEachOther master name then.state
  then_each each so only = record {
    named = ap (λ (me : Location). me.server) so.me_is ∙ each.named;
    backend = each.backend;
    no_stream = each.no_stream;
    its_master = only.master ∙ each.its_master;
    owes = record { running = only.owes.running; waiting = only.owes.waiting };
  }

  then_written : HaveEachOther master name node → CanTellMaster node.flows node.home.held → AreWritten up down ups downs
      → StepSaid node.flows.me node.home.held step → AnswersOnly (IsNot master.me) node.flows step
      → AreWritten (up ++ messages_to master.me then.outs) down (ups ++ map (message_of step.flows.me node.home.held) step.sends) downs
  then_written each said written so only = record {
    up_is = written_then command_message up (messages_to master.me then.outs) ups (map (message_of step.flows.me node.home.held) step.sends) written.up_is
        (step_sends master.me node.home.held step (only.master ∙ each.its_master) only.answers);
    down_is = written.down_is;
    commands = all_append HasCommandTexts ups (map (message_of step.flows.me node.home.held) step.sends) written.commands
        (sends_spelled step.flows.me node.home.held step.sends so.can.place said.mailboxes so.sends);
    responses = written.responses;
  }

  then_own : AreOfPlace node.flows.me ups → StepSaid node.flows.me node.home.held step
      → AreOfPlace step.flows.me (ups ++ map (message_of step.flows.me node.home.held) step.sends)
  then_own own so =
      all_append (λ (it : Tag × MCommand). NamesOnly step.flows.me it.1) ups (map (message_of step.flows.me node.home.held) step.sends)
      (subst (λ (me : Location). AreOfPlace me ups) (sym so.me_is) own) (sends_own step.flows.me node.home.held step.sends)

  goes_on : HaveEachOther master name node → CanBeTold master.table → CanTellMaster node.flows node.home.held → AreWritten up down ups downs
      → AreOfPlace node.flows.me ups → StepSaid node.flows.me node.home.held step → AnswersOnly (IsNot master.me) node.flows step
      → HoldsOfEachName (does (link_of master node ups downs) downs step) given → TalkAfterNode master name then up down given
  goes_on each told said written own so only holds = record {
    ups = ups ++ map (message_of step.flows.me node.home.held) step.sends;
    downs = downs;
    written = then_written each said written so only;
    own_place = then_own own so;
    each = then_each each so only;
    told = told;
    said = subst (λ (held : Names). CanTellMaster then.state.flows held) held_is (handed_said node.flows.me node.home.held step so);
    holds = subst (λ (held : Names). HoldsOfEachName (record {
      table = master.table;
      flows = then.state.flows;
      held = held;
      ups = ups ++ map (message_of step.flows.me node.home.held) step.sends;
      downs = downs;
    }) given) held_is holds;
  }

-- ---- the link comes up first

none_told : CanBeTold empty_table
unfolding IsStrictlySortedBy
none_told = record { order = tt; spelled = tt }

pub talk_begins : TalkBegins
unfolding taken_up booted
talk_begins place me backends spelled backend =
    let node : BackNode = new_node place me in
    let next : Bool → BackActed = λ mine. done_by (cond mine (talks node (up_step node.flows)) (passed_over node)) in
    subst (λ (mine : Bool). TalkAfterNode (booted me backends empty_table) place.server (next mine) [] [] [])
    (sym (same_name me))
    (goes_on (booted me backends empty_table) place.server node [] [] [] [] [] (up_step node.flows)
    (record { named = refl; backend = backend; no_stream = refl; its_master = refl; owes = none_owed (IsNot me) place me })
    none_told (new_said place me spelled) (record { up_is = refl; down_is = refl; commands = tt; responses = tt }) tt
    (up_said node.flows [] (new_said place me spelled)) (up_answers (IsNot me) node.flows (none_owed (IsNot me) place me))
    (record {
      names = first_law place me (place_no_bang place spelled);
      contents = first_content place me;
      boxes = first_boxes place me;
      serials = first_serials;
    }))

-- ---- the backend takes what the master sent

hears_is : (node : BackNode) (from : List ℕ) (it : Tag × MResponse) → is_my_master node from ≡ true → response_in (text_of it.0 it.1) ≡ Some it
    → node_takes node from (Line (text_of it.0 it.1)) ≡ done_by (talks node (heard_step node.flows node.home.held it.0 it.1))
unfolding taken_up
hears_is node from it mine read =
    ap (λ (t : Bool). done_by (cond t (line_by node (response_in (text_of it.0 it.1))) (passed_over node))) mine
    ∙ ap (λ (r : Option (Tag × MResponse)). done_by (line_by node r)) read

is_its_master : (node : BackNode) (from : List ℕ) → node.flows.master ≡ from → is_my_master node from ≡ true
is_its_master node from e = ap (λ (m : List ℕ). pointwise nat_eq from m) e ∙ same_name from

module _ (master : Master) (name : List ℕ) (node : BackNode) (up down : List LinkMsg) (given : Given) (message : LinkMsg)
    (talk : HasTalk master name node up (message ∷ down) given) (first : IsFirst response_message message down talk.downs) where
  abbrev link : OneLink
  link = link_of master node talk.ups talk.downs

  spelled : AllByRecursion HasResponseTexts (first.it ∷ first.more)
  spelled = subst (AllByRecursion HasResponseTexts) first.are talk.written.responses

  heard : TalkAfterNode master name (done_by (talks node (heard_step node.flows node.home.held (first.it).0 (first.it).1))) up down given
  heard =
      goes_on master name node up down talk.ups first.more given (heard_step node.flows node.home.held (first.it).0 (first.it).1) talk.each talk.told talk.said
      (record { up_is = talk.written.up_is; down_is = first.rest; commands = talk.written.commands; responses = spelled.1 }) talk.own_place
      (heard_said node.flows node.home.held talk.said (first.it).0 (first.it).1 spelled.0.1)
      (heard_answers (IsNot master.me) node.flows node.home.held (first.it).0 (first.it).1 talk.each.owes)
      (record {
        names = hears_law link first.it first.more talk.holds.names first.are;
        contents = hears_content link first.it first.more talk.holds.names talk.holds.contents first.are;
        boxes = hears_boxes link given first.it first.more talk.holds.names talk.holds.contents talk.holds.serials talk.holds.boxes first.are;
        serials = talk.holds.serials;
      })

  hears_first : TalkAfterNode master name (node_takes node master.me message) up down given
  hears_first =
      subst (λ (m : LinkMsg). TalkAfterNode master name (node_takes node master.me m) up down given) (sym first.is)
      (subst (λ (next : BackActed). TalkAfterNode master name next up down given)
      (sym (hears_is node master.me first.it (is_its_master node master.me talk.each.its_master) (response_read first.it spelled.0))) heard)

pub hears_keeps_talk : HearsKeepsTalk
hears_keeps_talk master name node up down given message talk =
    hears_first master name node up down given message talk (first_of response_message message down talk.downs talk.written.down_is)

-- ---- it takes anything else

module _ (master : Master) (name : List ℕ) (node : BackNode) (up down : List LinkMsg) (given : Given) (from : List ℕ) (ne : from ≢ master.me)
    (talk : HasTalk master name node up down given) where
  -- nothing comes of it
  nothing_comes : TalkAfterNode master name (done_by (passed_over node)) up down given
  nothing_comes = subst (λ (u : List LinkMsg). HasTalk master name node u down given) (sym (append-nil up)) talk

  not_its_master : is_my_master node from ≡ false
  not_its_master = other_name from node.flows.master (λ e. ne (e ∙ talk.each.its_master))

  -- what the master alone may send
  passed : (it : UpToEntry) → TalkAfterNode master name (done_by (cond (is_my_master node from) it (passed_over node))) up down given
  passed it = subst (λ (mine : Bool). TalkAfterNode master name (done_by (cond mine it (passed_over node))) up down given) (sym not_its_master) nothing_comes

  -- CREATE and DELETE
  named_comes : (ask : FrontAsk) (kind : AskKind) → fits_by (Some kind) ask
      → TalkAfterNode master name (done_by (talks node (asked_step node.flows node.home.held (name_ask from ask kind)))) up down given
  named_comes ask kind fits =
      let it : NameAsk = name_ask from ask kind in
      let link : OneLink = link_of master node talk.ups talk.downs in
      goes_on master name node up down talk.ups talk.downs given (asked_step node.flows node.home.held it) talk.each talk.told talk.said
      talk.written talk.own_place
      (asked_said node.flows node.home.held talk.said it (ask_spelled it fits.0 fits.1 fits.2))
      (ask_answers (IsNot master.me) node.flows node.home.held it ne talk.each.owes)
      (record {
        names = asks_law link it talk.holds.names fits.0 fits.1;
        contents = asks_content link it talk.holds.names talk.holds.contents fits.0 fits.1;
        boxes = asks_boxes link given it talk.holds.boxes;
        serials = talk.holds.serials;
      })

  -- an entry of an ask for messages
  entry_made : (made : Option BackendRecord) → IsStepIf node.home.held made
      → HasTalk master name (record node { home = home_with node.home made }) up down given
  entry_made None step = talk
  entry_made (Some it) step =
      let link : OneLink = link_of master node talk.ups talk.downs in
      record {
        ups = talk.ups;
        downs = talk.downs;
        written = talk.written;
        own_place = talk.own_place;
        each = record {
          named = talk.each.named;
          backend = talk.each.backend;
          no_stream = talk.each.no_stream;
          its_master = talk.each.its_master;
          owes = talk.each.owes;
        };
        told = talk.told;
        said = record {
          place = talk.said.place;
          mailboxes = served_spelled node.home.held it step talk.said.mailboxes;
          sent = talk.said.sent;
          waiting = talk.said.waiting;
        };
        holds = record {
          names = serves_law link it talk.holds.names step;
          contents = serves_content link it talk.holds.contents step;
          boxes = serves_boxes link given it talk.holds.boxes step;
          serials = talk.holds.serials;
        };
      }

  messages_come : (ask : FrontAsk) → name_kind ask.op ≡ None
      → TalkAfterNode master name (done_by (serves node (back_plan node.home from ask))) up down given
  messages_come ask none =
      let plan : BackPlan = owes from ask.id (ask_plan node.home ask) in
      let made : Option BackendRecord = only_entry plan.entries in
      let then : BackNode = record node { home = home_with node.home made } in
      let silent : messages_to master.me (owed_outs (home_with node.home made) plan.owed) ≡ [] =
      owed_sends master.me from ask.id (home_with node.home made) (ask_plan node.home ask) ne in
      subst (λ (u : List LinkMsg). HasTalk master name then u down given) (sym (ap (λ (l : List LinkMsg). up ++ l) silent ∙ append-nil up))
      (entry_made made (message_steps node.home from ask none))

  asked_comes : (ask : FrontAsk) (kind : Option AskKind) → name_kind ask.op ≡ kind → fits_by kind ask
      → TalkAfterNode master name (done_by (ask_by node from ask kind)) up down given
  asked_comes ask (Some kind) is fits = named_comes ask kind fits
  asked_comes ask None is fits = messages_come ask is

  comes : (message : LinkMsg) → IsFitting message → TalkAfterNode master name (node_takes node from message) up down given
  unfolding taken_up
  comes Up fits = passed (talks node (up_step node.flows))
  comes End fits = passed (talks node (end_step node.flows))
  comes (Line line) fits = passed (line_by node (response_in line))
  comes (Ask ask) fits = asked_comes ask (name_kind ask.op) refl fits
  comes (Answer answer) fits = nothing_comes

pub asks_keep_talk : AsksKeepTalk
asks_keep_talk master name node up down given from message ne fits talk = comes master name node up down given from ne talk message fits

pub messages_are_served : MessagesAreServed
messages_are_served master name node up down given from ask ne of opened rising talk =
    let fits : IsFitting (Ask ask) = subst (λ (kind : Option AskKind). fits_by kind ask) (sym (no_kind ask.op of)) tt in
    record {
      done = open_is_carried_out node from ask of opened rising;
      goes_on = asks_keep_talk master name node up down given from (Ask ask) ne fits talk;
    }
