-- The line of a CREATE's or DELETE's flow comes to the master: what that makes of it, and which command it is.
use Rattle.std.proofs.Common.{◌≡◌, ℕ, Bool, true, false, cond, is_some, List, [], ◌∷◌, ◌++◌, filter, Option, None, Some, refl}
use Rattle.std.proofs.Common.{sym, ◌∙◌, ap, subst}
use Rattle.std.specs.List.{AllByRecursion}
use Rattle.std.proofs.lemmas.List.Concat.{flat_map-cons}
use Rattle.back_links.specs.MasterEvents.{given_in}
use Rattle.back_links.specs.OneTalk.{HasTalk}
use Rattle.back_links.specs.Spelled.{HasCommandTexts, HasLineTexts}
use Rattle.back_links.proofs.StepsSaid.{sends_spelled}
use Rattle.back_links.proofs.Texts.{command_read}
use Rattle.back_node.specs.declared.node.BackNode.{BackNode}
use Rattle.link_msg.specs.declared.counts.Counts.{Counts}
use Rattle.link_msg.specs.declared.counts.Counts.TheVariants.{Always, IfAnswered}
use Rattle.link_msg.specs.declared.message.LinkMsg.{LinkMsg}
use Rattle.link_msg.specs.declared.message.LinkMsg.TheVariants.{Line}
use Rattle.link_msg.specs.declared.out.Out.{Out}
use Rattle.link_msg.specs.declared.out.Out.TheVariants.{Client, Close, Link, Mark, Told as tell}
use Rattle.link_queue.specs.Links.{on_link}
use Rattle.mail_message.specs.Boxes.{Content}
use Rattle.mail_message.specs.declared.message.Snapshot.{Snapshot}
use Rattle.master_core.specs.declared.reply.Reply.{Reply}
use Rattle.master_core.specs.Linked.{node_says}
use Rattle.master_core.specs.Step.{mark_of}
use Rattle.mupdate_codec.specs.declared.command.MCommand.{MCommand}
use Rattle.mupdate_codec.specs.declared.command.MCommand.TheVariants as command
use Rattle.mupdate_codec.specs.declared.tag.Tag.{Tag}
use Rattle.mupdate_codec.specs.Arguments.{exact}
use Rattle.mupdate_codec.specs.Asks.{tag_of}
use Rattle.mupdate_codec.specs.Commands.{command_line}
use Rattle.mupdate_codec.specs.Whole.{command_in}
use Rattle.mur_base.specs.declared.home.Location.{Location}
use Rattle.mur_base.specs.declared.point.AskId.{AskId}
use Rattle.mur_model.specs.declared.store.Store.{Store}
use Rattle.name_commands.specs.MasterSteps.{IsTaken, flow_reply}
use Rattle.name_commands.specs.Places.{answer_message, flow_line, flow_message, stage_command}
use Rattle.name_commands.specs.Whose.{Whose, is_command, is_own_line, is_own_message, is_own_out}
use Rattle.name_commands.proofs.MasterLaw.{line_taken}
use Rattle.name_commands.proofs.Own.{is_only, kept as kept_first, of_one, on_itself, own_is}
use Rattle.name_commands.proofs.Sends.{stage_same}
use Rattle.name_flows.specs.declared.flow.Flow.{Flow}
use Rattle.name_flows.specs.declared.flow.Stage.{Stage}
use Rattle.name_flows.specs.declared.flow.Stage.TheVariants.{Reserving, Making, Deactivating, Deleting}
use Rattle.name_flows.specs.Running.{flow_at}
use Rattle.name_links.specs.Serials.{Given}
use Rattle.node_record.specs.Table.{MailboxTable}
use Rattle.serve_law.proofs.ServedAlike.{apart}
use Rattle.many_links.specs.Murder.{Murder, master_takes}
use Rattle.many_links.specs.ManyHold.{ManyHold}
use Rattle.many_links.specs.Marks.{CarryNoneOut, IsOnlyTold, mark_in, marks_in}
use Rattle.many_links.specs.MasterEvents.{IsOneCommand, StoreTakes, nothing, created, removed}
use Rattle.many_links.proofs.TakesLaw.{takes_keeps_many}
use Rattle.point_links.specs.Commands.{ClientCommand}
use Rattle.point_links.specs.FlowLines.{LineComes}

-- ---- a step that carries none out has no mark that counts always, and one that carries a command out has no other mark

abbrev MarksAre : (AskId × Counts → Type 0) → Out → Type 0
MarksAre P out = AllByRecursion P (mark_in out)

each_out : (P : AskId × Counts → Type 0) (outs : List Out) → AllByRecursion P (marks_in outs) → AllByRecursion (MarksAre P) outs
each_out P [] all = tt
each_out P (Mark ask counts ∷ outs) all =
    let split = subst (AllByRecursion P) (flat_map-cons mark_in (Mark ask counts) outs) all in ((split.0, tt), each_out P outs split.1)
each_out P (Client conn bytes ∷ outs) all = (tt, each_out P outs all)
each_out P (Close conn ∷ outs) all = (tt, each_out P outs all)
each_out P (Link to message ∷ outs) all = (tt, each_out P outs all)
each_out P (tell ask how ∷ outs) all = (tt, each_out P outs all)

module _ {X : Type 0} (p : X → Bool) (P : X → Type 0) where
  filtered : (xs : List X) → AllByRecursion P xs → AllByRecursion P (filter p xs)
  filtered [] all = tt
  filtered (x ∷ xs) all = by (p x) (filtered xs all.1)
    where
      by : (here : Bool) → AllByRecursion P (filter p xs) → AllByRecursion P (cond here (x ∷ filter p xs) (filter p xs))
      by true more = (all.0, more)
      by false more = more

pub none_always : (p : Out → Bool) (outs : List Out) (first : Out) (ask : AskId) → CarryNoneOut outs
    → filter p outs ≡ first ∷ Mark ask Always ∷ [] → ⊥
none_always p outs first ask none e =
    let all = subst (AllByRecursion (MarksAre IsOnlyTold)) e (filtered p (MarksAre IsOnlyTold) outs (each_out IsOnlyTold outs none)) in
    apart ((all.1).0).0

abbrev CountsAlways : AskId × Counts → Type 0
CountsAlways mark = mark.1 ≡ Always

pub none_if_answered : (p : Out → Bool) (outs : List Out) (first : Out) (ask other : AskId) → marks_in outs ≡ (other, Always) ∷ []
    → filter p outs ≡ first ∷ Mark ask IfAnswered ∷ [] → ⊥
none_if_answered p outs first ask other carries e =
    let always = subst (AllByRecursion CountsAlways) (sym carries) (refl, tt) in
    let all = subst (AllByRecursion (MarksAre CountsAlways)) e (filtered p (MarksAre CountsAlways) outs (each_out CountsAlways outs always)) in
    apart (sym ((all.1).0).0)

-- ---- which commands the lines are

read_as : (one other : Tag × MCommand) → Some one ≡ Some other → one.1 ≡ other.1
read_as one other e = (let same : one ≡ other = cc in ap (λ (x : Tag × MCommand). x.1) same)

same_bytes : (one other : List ℕ) → Line one ≡ Line other → one ≡ other
same_bytes one other e = cc

-- its answer tells nothing of the mailbox
abbrev pub nothing_seen : Snapshot
nothing_seen = record { serial = 0; next = 0; size = 0; rows = [] }

-- RESERVE and DEACTIVATE do nothing to the store
abbrev pub IsNoEnd : Stage → Type 0
IsNoEnd Reserving = Unit {0}
IsNoEnd Deactivating = Unit {0}
IsNoEnd stage = ⊥

-- ---- its line is the first

module _ (murder : Murder) (given : Given) (store : Store) (c : ClientCommand) (name : List ℕ) (node : BackNode) (message : LinkMsg) (rest : List LinkMsg)
    (flow : Flow) (comes : LineComes murder given store c name node message rest flow) where
  abbrev pub whose : Whose
  whose = is_command c.id

  abbrev pub me : Location
  me = node.flows.me

  abbrev pub table : MailboxTable
  table = murder.master.table

  abbrev pub down : List LinkMsg
  down = on_link murder.links murder.master.me name

  abbrev pub says : List Out
  says = (node_says murder.master name message).outs

  abbrev it_is : Tag × MCommand
  it_is = (tag_of flow.ask, stage_command me c.name flow.stage)

  talk : HasTalk murder.master name node (message ∷ rest) down given
  talk = subst (λ (u : List LinkMsg). HasTalk murder.master name node u down given) comes.first (comes.holds.each name node comes.there).talk

  pub taken : IsTaken whose murder.master name node message rest down c.name flow
  taken = line_taken whose murder.master name node rest down given message c.name flow talk comes.streams comes.own comes.placed

  pub one : IsOneCommand murder given store name message
  one = takes_keeps_many murder given store name node message rest comes.holds comes.there comes.first

  pub its_id : flow.ask ≡ c.id
  its_id = is_only c.id flow.ask (own_is whose (flow_at node.flows c.name) flow (comes.placed.at.running c.name ∙ on_itself c.name flow)).1

  both_are : message ∷ filter (is_own_message whose) rest ≡ flow_message me c.name flow ∷ []
  both_are = sym (kept_first (is_own_message whose) message rest comes.own) ∙ comes.placed.up_is

  message_is : message ≡ flow_message me c.name flow
  message_is = let e = both_are in cc

  -- it is read so, since it is among the lines that were sent
  line_spelled : HasLineTexts (flow_line c.name flow)
  line_spelled = of_one (is_own_line whose) HasLineTexts node.flows.sent (flow_line c.name flow) talk.said.sent comes.placed.at.sent

  spelled : HasCommandTexts it_is
  spelled =
      subst (λ (m : MCommand). HasCommandTexts (tag_of flow.ask, m)) (stage_same whose me node.home.held flow.stage c.name)
      (sends_spelled me node.home.held (flow_line c.name flow ∷ []) talk.said.place talk.said.mailboxes (line_spelled, tt)).0

  pub is_read : (bytes : List ℕ) (tag : Tag) (m : MCommand) → message ≡ Line bytes → command_in bytes ≡ Some (tag, m) → m ≡ stage_command me c.name flow.stage
  is_read bytes tag m is read =
      let text : bytes ≡ (command_line exact).text it_is = same_bytes bytes ((command_line exact).text it_is) (sym is ∙ message_is) in
      read_as (tag, m) it_is (sym read ∙ ap (λ (b : List ℕ). command_in b) text ∙ command_read it_is spelled)

  abbrev pub its_reply : Reply
  its_reply = flow_reply murder.master.table name me c.name flow

  -- the outputs about it, by the mark of the reply
  pub outs_are : (counts : Option Counts) → its_reply.counts ≡ counts
      → filter (is_own_out whose) says ≡ Link name (answer_message flow taken.it) ∷ mark_of (Some c.id) counts
  outs_are counts e =
      taken.outs ∙ ap (λ (k : Option Counts). Link name (answer_message flow taken.it) ∷ mark_of (Some flow.ask) k) e
      ∙ ap (λ (i : AskId). Link name (answer_message flow taken.it) ∷ mark_of (Some i) counts) its_id

  -- ---- what the store does
  abbrev pub more : Given
  more = given_in table name message

  abbrev pub HoldsThen : Store → Type 0
  HoldsThen later = ManyHold (master_takes murder name message) (given ++ more) later

  pub does_nothing : (stage : Stage) → flow.stage ≡ stage → IsNoEnd stage → (later : Store) → StoreTakes message says more store later → HoldsThen later
      → HoldsThen store
  does_nothing stage at no_end _ (nothing given none) holds = holds
  does_nothing Reserving at no_end _ (removed ask n box is there given) holds =
      absurd (let no : command.Delete n ≡ command.Reserve c.name me =
      is_read is.bytes is.tag _ is.is is.read ∙ ap (λ (z : Stage). stage_command me c.name z) at in cc)
  does_nothing Deactivating at no_end _ (removed ask n box is there given) holds =
      absurd (let no : command.Delete n ≡ command.Deactivate c.name me =
      is_read is.bytes is.tag _ is.is is.read ∙ ap (λ (z : Stage). stage_command me c.name z) at in cc)
  does_nothing Reserving at no_end _ (created ask n place acl serial is none free given) holds =
      absurd (let no : command.Activate n place acl ≡ command.Reserve c.name me =
      is_read is.bytes is.tag _ is.is is.read ∙ ap (λ (z : Stage). stage_command me c.name z) at in cc)
  does_nothing Deactivating at no_end _ (created ask n place acl serial is none free given) holds =
      absurd (let no : command.Activate n place acl ≡ command.Deactivate c.name me =
      is_read is.bytes is.tag _ is.is is.read ∙ ap (λ (z : Stage). stage_command me c.name z) at in cc)
  does_nothing Making at no_end _ takes holds = absurd no_end
  does_nothing Deleting at no_end _ takes holds = absurd no_end

-- all of it
pub record LineIs (murder : Murder) (given : Given) (store : Store) (c : ClientCommand) (name : List ℕ) (node : BackNode) (message : LinkMsg)
    (rest : List LinkMsg) (flow : Flow) : Type 0 where
  pub taken : IsTaken (is_command c.id) murder.master name node message rest (on_link murder.links murder.master.me name) c.name flow
  pub one : IsOneCommand murder given store name message
  pub read : (bytes : List ℕ) (tag : Tag) (m : MCommand) → message ≡ Line bytes → command_in bytes ≡ Some (tag, m)
      → m ≡ stage_command node.flows.me c.name flow.stage
  pub outs : (counts : Option Counts) → (flow_reply murder.master.table name node.flows.me c.name flow).counts ≡ counts
      → filter (is_own_out (is_command c.id)) (node_says murder.master name message).outs
      ≡ Link name (answer_message flow taken.it) ∷ mark_of (Some c.id) counts
  pub nothing_done : (stage : Stage) → flow.stage ≡ stage → IsNoEnd stage
      → ManyHold (master_takes murder name message) (given ++ given_in murder.master.table name message) store

pub line_is : (murder : Murder) (given : Given) (store : Store) (c : ClientCommand) (name : List ℕ) (node : BackNode) (message : LinkMsg)
    (rest : List LinkMsg) (flow : Flow) → LineComes murder given store c name node message rest flow
    → LineIs murder given store c name node message rest flow
line_is murder given store c name node message rest flow comes =
    let one_does = one murder given store c name node message rest flow comes in
    record {
      taken = taken murder given store c name node message rest flow comes;
      one = one_does;
      read = is_read murder given store c name node message rest flow comes;
      outs = outs_are murder given store c name node message rest flow comes;
      nothing_done = λ stage at no_end. does_nothing murder given store c name node message rest flow comes stage at no_end one_does.later one_does.does one_does.hold;
    }

-- ---- a mailbox that is there

pub has_box : (found : Option Content) → is_some found ≡ true → (box : Content) × (found ≡ Some box)
has_box None e = cc
has_box (Some box) e = (box, refl)
