-- A backend takes the ask of a CREATE or DELETE, the master's response to the line of its flow, or anything else of the master: what its place tells then. No such step
-- makes a mark, and the store does nothing.
use Rattle.std.proofs.Common.{◌≡◌, ◌≢◌, ℕ, ◌&&◌, Bool, true, false, List, [], ◌∷◌, Option, None, Some, refl, sym, ◌∙◌, ap, subst}
use Rattle.back_links.specs.BackEvents.{IsFitting, fits_by}
use Rattle.back_links.specs.Written.{response_message}
use Rattle.back_links.proofs.Queues.{first_of}
use Rattle.back_node.specs.declared.node.BackNode.{BackNode}
use Rattle.back_node.specs.NodeLaws.{is_of_messages}
use Rattle.back_node.specs.Takes.{name_ask, name_kind, node_takes}
use Rattle.back_node.proofs.OpenHere.{no_kind}
use Rattle.backend_core.specs.HomeLaws.{is_open_here}
use Rattle.backend_core.specs.HomeStep.{held_at}
use Rattle.imap_types.specs.declared.command.Tag.{Tag}
use Rattle.imap_types.specs.declared.op.Op.{Op}
use Rattle.link_msg.specs.declared.message.LinkMsg.{LinkMsg}
use Rattle.link_msg.specs.declared.message.LinkMsg.TheVariants.{Ask}
use Rattle.link_queue.specs.Broken.{Broken}
use Rattle.link_queue.specs.Links.{on_link}
use Rattle.many_links.specs.Murder.{Murder, home_takes}
use Rattle.many_links.specs.ManyHold.{ManyHold}
use Rattle.many_links.proofs.HomeLaw.{asks_keep_many, hears_keeps_many}
use Rattle.mark_history.specs.Marked.{Tale}
use Rattle.mark_history.specs.declared.mark.Mark.{Mark}
use Rattle.mupdate_codec.specs.declared.command.MResponse.{MResponse}
use Rattle.mur_model.specs.declared.need.Asking.{Asking}
use Rattle.mur_model.specs.declared.store.Store.{Store}
use Rattle.mur_model.specs.Asking.{asked_for}
use Rattle.mur_base.specs.Names.{mail_name_fault}
use Rattle.mur_model.specs.Needed.{Append, Delete as Remove, IsOfHome, Mailbox, Make, Select, Status, Viewed, Work}
use Rattle.mur_model.proofs.MadeNames.{deleted_is_named, made_is_named}
use Rattle.name_commands.specs.Moves.{Move, asked_move, heard_move, tested_move}
use Rattle.name_commands.specs.Places.{IsNumbered, NamePlace as name_at}
use Rattle.name_flows.specs.declared.ask.AskKind.{AskKind}
use Rattle.name_flows.specs.declared.ask.NameAsk.{NameAsk}
use Rattle.name_flows.specs.declared.flow.Flow.{Flow}
use Rattle.name_flows.specs.declared.flows.Flows.{Flows}
use Rattle.name_flows.specs.Asked.{refusal}
use Rattle.name_links.specs.Serials.{Given}
use Rattle.point_links.specs.AtHome.{its_ask}
use Rattle.point_links.specs.Commands.{ClientCommand}
use Rattle.point_links.proofs.Works.{of_messages}
use Rattle.cluster_core.proofs.Commands.Knows.{kind_ask, kind_of}
use Rattle.cluster_core.proofs.Commands.Place.{Place as place}
use Rattle.cluster_core.proofs.Commands.Standing.{Fixed}
use Rattle.cluster_core.proofs.Nodes.Carried.{marks_made}
use Rattle.cluster_core.proofs.Points.Acts.{IsOpen, KnowsOf, known_so}
use Rattle.cluster_core.proofs.Points.Marks.{asks_messages, asks_messages_by, backend_marks_none}
use Rattle.cluster_core.proofs.Points.Moves.{AnswersFront, asks_so, hears_on, tests_on}
use Rattle.cluster_core.proofs.Points.Reached.{each_has_reached}
use Rattle.cluster_core.proofs.Steps.HomeSteps.{moved_to}

-- the step does so for the command, and its place tells the like then
pub record MovesOn (fixed : Fixed) (front : List ℕ) (conn now : ℕ) (story : Tale) (tag : Tag) (c : ClientCommand) (murder : Murder) (given : Given)
    (name : List ℕ) (node : BackNode) (from : List ℕ) (message : LinkMsg) (move : Move) : Type 0 where
  pub marks : marks_made now (node_takes node from message).outs ≡ []
  pub then_holds : ManyHold (home_takes murder name node from message) given story.course.store
  pub to : AnswersFront front move
  pub knows : KnowsOf fixed front conn tag c story (moved_to name node.flows.me move)

-- ---- its ask comes

pub record NameAskComes (murder : Murder) (given : Given) (store : Store) (c : ClientCommand) (kind : AskKind) (name : List ℕ) (node : BackNode)
    (from : List ℕ) : Type 0 where
  pub does : kind_of c.work ≡ Some kind
  pub holds : ManyHold murder given store
  pub there : murder.nodes name ≡ Some node
  pub other : from ≢ murder.master.me
  pub numbered : IsNumbered c.id

-- the ask for its name
abbrev pub its_name_ask : List ℕ → ClientCommand → AskKind → NameAsk
its_name_ask front c kind = name_ask front (its_ask c) kind

abbrev pub NameIsAsked : Type 0
NameIsAsked = (fixed : Fixed) (front : List ℕ) (conn : ℕ) (broken : Broken) (now : ℕ) (marks : List Mark) (story : Tale) (tag : Tag) (c : ClientCommand)
    (murder : Murder) (given : Given) (name : List ℕ) (node : BackNode) (kind : AskKind) → IsOpen fixed conn broken now marks story tag c
    → NameAskComes murder given story.course.store c kind name node front
    → (name_kind (its_ask c).op ≡ Some kind)
    × MovesOn fixed front conn now story tag c murder given name node front (Ask (its_ask c))
    (asked_move node.flows node.home.held (its_name_ask front c kind))

op_is : (c : ClientCommand) → c.waiting.asking.op ≡ (asked_for c.name c.work).op
op_is c = ap (λ (a : Asking). a.op) c.asking_is

kind_by : (name : List ℕ) (work : Work) (kind : AskKind) → kind_of work ≡ Some kind → name_kind (asked_for name work).op ≡ Some kind
unfolding asked_for
kind_by name Make kind is = is
kind_by name Remove kind is = is
kind_by name (Append message) kind is = cc
kind_by name (Status shown items) kind is = cc
kind_by name (Select it) kind is = cc
kind_by name (Viewed view it) kind is = cc

pub name_kind_is : (c : ClientCommand) (kind : AskKind) → kind_of c.work ≡ Some kind → name_kind (its_ask c).op ≡ Some kind
name_kind_is c kind does = ap name_kind (op_is c) ∙ kind_by c.name c.work kind does

named_by : (c : ClientCommand) (kind : AskKind) (work : Work) → c.work ≡ work → kind_of work ≡ Some kind → mail_name_fault c.name ≡ None
named_by c kind Make makes is = made_is_named c.setting c.was c.it c.name (c.need ∙ ap (λ (w : Work). Mailbox c.name w) makes)
named_by c kind Remove deletes is = deleted_is_named c.setting c.was c.it c.name (c.need ∙ ap (λ (w : Work). Mailbox c.name w) deletes)
named_by c kind (Append message) work is = cc
named_by c kind (Status shown items) work is = cc
named_by c kind (Select it) work is = cc
named_by c kind (Viewed view it) work is = cc

-- its name is one, and its numbers are of 64 bits
pub name_ask_fits : (c : ClientCommand) (kind : AskKind) → kind_of c.work ≡ Some kind → IsNumbered c.id → IsFitting (Ask (its_ask c))
name_ask_fits c kind does numbered =
    subst (λ (k : Option AskKind). fits_by k (its_ask c)) (sym (name_kind_is c kind does))
    (numbered.0, numbered.1, ap (λ (n : List ℕ). mail_name_fault n) c.name_is ∙ named_by c kind c.work refl does)

-- an ask for messages is of no kind of names
pub message_kind : (c : ClientCommand) → IsOfHome c.work → name_kind (its_ask c).op ≡ None
message_kind c of =
    no_kind (its_ask c).op (ap (λ (a : Asking). is_of_messages a.op) c.asking_is ∙ of_messages c.name c.work of)

not_messages : (it : Op) (here : Bool) (kind : AskKind) → name_kind it ≡ Some kind → (is_of_messages it && here) ≡ false
not_messages it here kind e = by (is_of_messages it) refl
  where
    by : (messages : Bool) → is_of_messages it ≡ messages → (messages && here) ≡ false
    by false is = refl
    by true is = absurd (let no : Some kind ≡ None = sym e ∙ no_kind it is in cc)

pub name_is_asked : NameIsAsked
name_is_asked fixed front conn broken now marks story tag c murder given name node kind is_open comes =
    let of : name_kind (its_ask c).op ≡ Some kind = name_kind_is c kind comes.does in
    let ask_is : its_name_ask front c kind ≡ kind_ask front c kind =
    ap (λ (n : List ℕ). record { front = front; id = c.id; name = n; kind = kind }) c.name_is in
    let goes = asks_so fixed.master fixed.first front c tag (story.told conn) (story.talk.answers conn) (story.course.sessions conn) name node.flows.me
    node.flows node.home.held (its_name_ask front c kind) (kind, comes.does, ask_is) (each_has_reached murder given story.course.store name node comes.holds comes.there) in (
      of,
      record {
        marks = backend_marks_none now node front (Ask (its_ask c)) (ap asks_messages_by of);
        then_holds = asks_keep_many murder given story.course.store name node front (Ask (its_ask c)) comes.holds comes.there comes.other
            (name_ask_fits c kind comes.does comes.numbered)
            (not_messages c.waiting.asking.op (is_open_here (held_at node.home c.waiting.name)) kind of);
        to = goes.1;
        knows = known_so fixed front conn broken now marks story tag c is_open (moved_to name node.flows.me _) goes.0;
      },
    )

-- ---- the master's message

pub record MasterTells (murder : Murder) (given : Given) (store : Store) (name : List ℕ) (node : BackNode) (message : LinkMsg) (rest : List LinkMsg)
    : Type 0 where
  pub holds : ManyHold murder given store
  pub there : murder.nodes name ≡ Some node
  pub first : on_link murder.links murder.master.me name ≡ message ∷ rest

-- whatever it is, it makes no mark
pub record IsTold (now : ℕ) (murder : Murder) (given : Given) (store : Store) (name : List ℕ) (node : BackNode) (message : LinkMsg) : Type 0 where
  pub marks : marks_made now (node_takes node murder.master.me message).outs ≡ []
  pub then_holds : ManyHold (home_takes murder name node murder.master.me message) given store

abbrev pub MasterMarksNone : Type 0
MasterMarksNone = (now : ℕ) (murder : Murder) (given : Given) (store : Store) (name : List ℕ) (node : BackNode) (message : LinkMsg) (rest : List LinkMsg)
    → MasterTells murder given store name node message rest → IsTold now murder given store name node message

pub master_marks_none : MasterMarksNone
master_marks_none now murder given store name node message rest tells =
    let talk = (tells.holds.each name node tells.there).talk in
    let line = first_of response_message message rest talk.downs (sym tells.first ∙ talk.written.down_is) in
    record {
      marks = backend_marks_none now node murder.master.me message (ap (λ (m : LinkMsg). asks_messages m) line.is);
      then_holds = hears_keeps_many murder given store name node message rest tells.holds tells.there tells.first;
    }

-- the response to the line of its flow: it is put off, it goes on, or its client will be told
abbrev pub ResponseMoves : Type 0
ResponseMoves = (fixed : Fixed) (front : List ℕ) (conn now : ℕ) (story : Tale) (tag : Tag) (c : ClientCommand) (murder : Murder) (given : Given)
    (name : List ℕ) (node : BackNode) (message : LinkMsg) (rest : List LinkMsg) (mailbox : List ℕ) (flow : Flow) (it : MResponse) (move : Move)
    → MasterTells murder given story.course.store name node message rest
    → KnowsOf fixed front conn tag c story (place.is_at node.flows.me (name_at.hears mailbox flow it)) → heard_move mailbox flow it ≡ Some move
    → MovesOn fixed front conn now story tag c murder given name node murder.master.me message move

pub response_moves : ResponseMoves
response_moves fixed front conn now story tag c murder given name node message rest mailbox flow it move tells knows is =
    let told = master_marks_none now murder given story.course.store name node message rest tells in
    let goes = hears_on fixed.master fixed.first front c tag (story.told conn) (story.talk.answers conn) (story.course.sessions conn) name node.flows.me
    mailbox flow it move knows is in
    record { marks = told.marks; then_holds = told.then_holds; to = goes.1; knows = goes.0 }

-- the end of the resync for which it waits
abbrev pub ResyncTests : Type 0
ResyncTests = (fixed : Fixed) (front : List ℕ) (conn now : ℕ) (story : Tale) (tag : Tag) (c : ClientCommand) (murder : Murder) (given : Given)
    (name : List ℕ) (node : BackNode) (message : LinkMsg) (rest : List LinkMsg) (ask : NameAsk) (flows : Flows)
    → MasterTells murder given story.course.store name node message rest
    → KnowsOf fixed front conn tag c story (place.is_at node.flows.me (name_at.waits ask)) → flows.up ≡ node.flows.up
    → MovesOn fixed front conn now story tag c murder given name node murder.master.me message
    (tested_move ask (refusal flows node.home.held ask.name ask.kind))

pub resync_tests : ResyncTests
resync_tests fixed front conn now story tag c murder given name node message rest ask flows tells knows same =
    let told = master_marks_none now murder given story.course.store name node message rest tells in
    let goes = tests_on fixed.master fixed.first front c tag (story.told conn) (story.talk.answers conn) (story.course.sessions conn) name node.flows.me
    flows node.home.held ask knows (same ∙ each_has_reached murder given story.course.store name node tells.holds tells.there) in
    record { marks = told.marks; then_holds = told.then_holds; to = goes.1; knows = goes.0 }
