-- No node of a run answers that a mailbox has moved.
use Rattle.std.proofs.Common.{◌≡◌, ◌≢◌, ℕ, Bool, true, false, cond, List, [], ◌∷◌, map, Option, None, Some, refl, sym, ◌∙◌, subst}
use Rattle.std.specs.Prelude.{⊤, All}
use Rattle.std.specs.Option.{IfSome}
use Rattle.std.specs.List.{AllByRecursion}
use Rattle.std.specs.BTreeMap.{is_at as has_key}
use Rattle.std.specs.Ordering.{nat_cmp}
use Rattle.std.specs.Cmp.Lexicographic.{slice_cmp}
use Rattle.std.proofs.lemmas.List.Elements.{All-append, All-nil}
use Rattle.std.proofs.lemmas.Map.Views.{IfSome-lookup_from_All}
use Rattle.back_node.specs.declared.node.BackNode.{BackNode}
use Rattle.back_node.specs.Acted.{BackActed, acted, home_with}
use Rattle.back_node.specs.Node.{is_my_master}
use Rattle.back_node.specs.NodeLaws.{AsksAs}
use Rattle.back_node.specs.Takes.{UpToEntry, answer_out, ask_by, line_by, line_out, name_ask, name_kind, node_takes, only_entry, passed_over, serves, talks, taken_up}
use Rattle.back_node.proofs.OnlyEntry.{IsOfOpen, message_entries}
use Rattle.back_node.proofs.Said.{step_says}
use Rattle.backend_core.specs.declared.backend.Backend.{Backend}
use Rattle.backend_core.specs.declared.op_plan.OpPlan.{OpPlan}
use Rattle.backend_core.specs.declared.op_plan.Telling.{Telling}
use Rattle.backend_core.specs.declared.op_plan.Telling.TheVariants as telling
use Rattle.backend_core.specs.declared.response.Response.{Response}
use Rattle.backend_core.specs.Append.{adds_within_limits, append_plan}
use Rattle.backend_core.specs.AskPlan.{ask_plan, op_plan}
use Rattle.backend_core.specs.Expunge.{expunge_plan}
use Rattle.backend_core.specs.Flags.{flags_plan, relabels_unless}
use Rattle.backend_core.specs.Look.{look_plan}
use Rattle.backend_core.specs.OpPlan.{looked, plans, plans_unless, told_after}
use Rattle.backend_core.specs.Plan.{answer_outs, back_plan, owed_outs, owes}
use Rattle.backend_core.specs.Read.{read_plan}
use Rattle.backend_core.specs.Refusal.{is_other, refusal, refusal_in}
use Rattle.backend_core.specs.Summaries.{summaries_plan}
use Rattle.feed_links.proofs.Names.{other_name}
use Rattle.front_core.specs.declared.front.Front.{Front}
use Rattle.front_core.specs.Front.{ways_of}
use Rattle.front_core.proofs.OwnOuts.{AreLetOut, HasConnections, MayAsk, MovesBy, both_let, bytes_own, connect_own, message_own}
use Rattle.imap_types.specs.declared.op.Op.{Op}
use Rattle.imap_types.specs.declared.op.Op.TheVariants as op
use Rattle.link_msg.specs.declared.ask.FrontAsk.{FrontAsk}
use Rattle.link_msg.specs.declared.message.LinkMsg.{LinkMsg}
use Rattle.link_msg.specs.declared.message.LinkMsg.TheVariants.{Up, End, Line, Ask, Answer}
use Rattle.link_msg.specs.declared.out.Out.{Out}
use Rattle.mail_message.specs.Boxes.{Content}
use Rattle.mail_store.specs.Store.{has_too_many_flags, rows_stored}
use Rattle.mail_store.specs.Append.{append_fault}
use Rattle.mail_message.specs.declared.message.Message.{Message}
use Rattle.master_core.specs.declared.master.Master.{Master}
use Rattle.mupdate_codec.specs.declared.command.MResponse.{MResponse}
use Rattle.mupdate_codec.specs.declared.tag.Tag.{Tag}
use Rattle.mupdate_codec.specs.Whole.{response_in}
use Rattle.mur_base.specs.declared.home.Phase.{Phase}
use Rattle.mur_base.specs.declared.home.Phase.TheVariants.{Creating, Open, Closing, Receiving, Ready, Pointer}
use Rattle.mur_base.specs.declared.point.AskId.{AskId}
use Rattle.node_step.specs.declared.input.NodeInput.{NodeInput}
use Rattle.node_step.specs.declared.input.NodeInput.TheVariants.{Opened, Piece, Hung, From}
use Rattle.node_step.specs.declared.node.NodeState.{NodeState}
use Rattle.node_step.specs.declared.node.NodeState.TheVariants as state
use Rattle.node_step.specs.NodeStep.{back_takes, front_takes, master_takes, takes as node_step}
use Rattle.node_step.proofs.MasterOuts.{SaysFrom, TellsOwn, bytes_let, connect_let, says_let}
use Rattle.node_step.proofs.OwnOuts.{MayMark}
use Rattle.name_flows.specs.declared.ask.AskKind.{AskKind}
use Rattle.name_flows.specs.declared.ask.Told.{Told}
use Rattle.name_flows.specs.Listing.{up_step}
use Rattle.name_flows.specs.Steps.{FlowStep, handed, held_with}
use Rattle.node_record.specs.Held.{Names, held_at}
use Rattle.node_record.specs.declared.backend.BackendRecord.{BackendRecord}
use Rattle.node_record.specs.declared.backend.BackendRecord.TheVariants as entry
use Rattle.node_record.specs.declared.held.Held.{Held}
use Rattle.cluster_core.proofs.Runs.QuietFlows.{AreHere, IsHeldHere, IsHere, IsNotMoved, IsQuietStep, IsQuietTalk, LooksForNone, MovesNone, MovesNoneIf, TellsNoServer, after_here, asked_quiet, heard_quiet, up_quiet}

-- ---- messages

-- no answer tells of a server to which a mailbox has moved; and no node tells that a link goes up or down
abbrev pub IsQuiet : LinkMsg → Type 0
IsQuiet Up = ⊥
IsQuiet End = ⊥
IsQuiet (Line bytes) = Unit {0}
IsQuiet (Ask ask) = Unit {0}
IsQuiet (Answer answer) = TellsNoServer answer.body

-- a link that doesn't join the master with a backend, by which nodes are backends
pub record NotMasters (master : List ℕ) (homes : List ℕ → Bool) (from to : List ℕ) : Type 0 where
  pub from_apart : homes to ≡ true → from ≢ master
  pub to_apart : homes from ≡ true → to ≢ master

-- so is what is on its way from one node to another; but any link may go up or down that doesn't join the master with a backend
abbrev pub IsQuietOn : List ℕ → (List ℕ → Bool) → List ℕ → List ℕ → LinkMsg → Type 0
IsQuietOn master homes from to Up = NotMasters master homes from to
IsQuietOn master homes from to End = NotMasters master homes from to
IsQuietOn master homes from to (Line bytes) = Unit {0}
IsQuietOn master homes from to (Ask ask) = Unit {0}
IsQuietOn master homes from to (Answer answer) = TellsNoServer answer.body

-- what a node says may be on its way anywhere
pub quiet_on : (master : List ℕ) (homes : List ℕ → Bool) (from to : List ℕ) (message : LinkMsg) → IsQuiet message → IsQuietOn master homes from to message
quiet_on master homes from to Up is = absurd is
quiet_on master homes from to End is = absurd is
quiet_on master homes from to (Line bytes) is = tt
quiet_on master homes from to (Ask ask) is = tt
quiet_on master homes from to (Answer answer) is = is

-- where the same nodes are backends
pub same_quiet : (master : List ℕ) (homes others : List ℕ → Bool) → ((name : List ℕ) → others name ≡ homes name) → (from to : List ℕ) (message : LinkMsg)
    → IsQuietOn master homes from to message → IsQuietOn master others from to message
same_quiet master homes others same from to Up is =
    record { from_apart = λ at. is.from_apart (sym (same to) ∙ at); to_apart = λ at. is.to_apart (sym (same from) ∙ at) }
same_quiet master homes others same from to End is =
    record { from_apart = λ at. is.from_apart (sym (same to) ∙ at); to_apart = λ at. is.to_apart (sym (same from) ∙ at) }
same_quiet master homes others same from to (Line bytes) is = tt
same_quiet master homes others same from to (Ask ask) is = tt
same_quiet master homes others same from to (Answer answer) is = is

abbrev pub AnyClient : ℕ → Type 0
AnyClient conn = ⊤

abbrev AnyNode : List ℕ → Type 0
AnyNode node = ⊤

anyone_asks : (from : List ℕ) (message : LinkMsg) → AsksAs AnyNode from message
anyone_asks from Up = tt
anyone_asks from End = tt
anyone_asks from (Line bytes) = tt
anyone_asks from (Ask ask) = tt
anyone_asks from (Answer answer) = tt

abbrev pub QuietTo : List ℕ → LinkMsg → Type 0
QuietTo node message = IsQuiet message

abbrev pub AreQuietOuts : Type 0 → List Out → Type 0
AreQuietOuts marks outs = AreLetOut AnyClient QuietTo marks outs

-- ---- a backend's talk with the master

pub record BackIsQuiet (it : BackActed) : Type 0 where
  pub talk : IsQuietTalk it.state.home.held it.state.flows
  pub outs : AreQuietOuts ⊤ it.outs

abbrev done_by : UpToEntry → BackActed
done_by it = acted it.node it.rest

same_held : (home : Backend) (change : Option BackendRecord) → (home_with home change).held ≡ held_with home.held change
same_held home None = refl
same_held home (Some it) = refl

here_with : (held : Names) (change : Option BackendRecord) → MovesNoneIf change → AreHere held → AreHere (held_with held change)
here_with held None moves here = here
here_with held (Some it) moves here = after_here held it moves here

lines_quiet : (master : List ℕ) (lines : List (List ℕ)) → AreQuietOuts ⊤ (map (line_out master) lines)
lines_quiet master [] = tt
lines_quiet master (line ∷ lines) = (tt, lines_quiet master lines)

answers_quiet : (answers : List Told) → AllByRecursion IsNotMoved answers → AreQuietOuts ⊤ (map answer_out answers)
answers_quiet [] all = tt
answers_quiet (told ∷ answers) all = (all.0, answers_quiet answers all.1)

talk_quiet : (node : BackNode) (step : FlowStep) → IsQuietTalk node.home.held node.flows → IsQuietStep node.home.held step
    → BackIsQuiet (done_by (talks node step))
talk_quiet node step quiet is = record {
  talk = record {
    here = subst AreHere (sym (same_held node.home step.entry)) (here_with node.home.held step.entry is.moves quiet.here);
    lines = All-append LooksForNone step.flows.sent step.sends is.kept is.sends;
    resyncs = λ it e. (let was = is.resyncs it e in (same_held node.home step.entry ∙ was.0, was.1));
  };
  outs = both_let AnyClient QuietTo ⊤ _ _ (lines_quiet step.flows.master (handed node.home.held step).step.lines) (answers_quiet step.answers is.answers);
}

passed_quiet : (node : BackNode) → IsQuietTalk node.home.held node.flows → BackIsQuiet (done_by (passed_over node))
passed_quiet node quiet = record { talk = record { here = quiet.here; lines = quiet.lines; resyncs = quiet.resyncs }; outs = tt }

-- ---- an ask for messages

abbrev TellingQuiet : Telling → Type 0
TellingQuiet (telling.Now response) = TellsNoServer response.body
TellingQuiet (telling.Look name outcome) = Unit {0}

told_quiet : (home : Backend) (it : Telling) → TellingQuiet it → TellsNoServer (told_after home it).body
unfolding told_after looked
told_quiet home (telling.Now response) is = is
told_quiet home (telling.Look name outcome) is = by_found (held_at home.held name)
  where
    by_found : (found : Option Held) → TellsNoServer (looked outcome found).body
    by_found None = tt
    by_found (Some held) = tt

RefusalQuiet : Option Response → Type 0
RefusalQuiet None = Unit {0}
RefusalQuiet (Some response) = TellsNoServer response.body

phase_quiet : (phase : Phase) (other : Bool) → IsHere phase → RefusalQuiet (refusal_in phase other)
unfolding refusal_in RefusalQuiet
phase_quiet Open true is = tt
phase_quiet Open false is = tt
phase_quiet (Pointer server) other is = absurd is
phase_quiet Creating other is = tt
phase_quiet Closing other is = tt
phase_quiet Receiving other is = tt
phase_quiet Ready other is = tt

unless_quiet : (plan : OpPlan) (response : Option Response) → RefusalQuiet response → TellingQuiet plan.telling
    → TellingQuiet (plans_unless plan response).telling
unfolding plans_unless RefusalQuiet
unless_quiet plan None is tells = tells
unless_quiet plan (Some response) is tells = is

plans_quiet : (selected : Option ℕ) (plan : Content → OpPlan) (found : Option Held) → IfSome found IsHeldHere
    → ((content : Content) → TellingQuiet (plan content).telling) → TellingQuiet (plans selected plan found).telling
unfolding plans refusal
plans_quiet selected plan None is tells = tt
plans_quiet selected plan (Some held) is tells =
    unless_quiet (plan held.content) (refusal_in held.phase (is_other selected held.content)) (phase_quiet held.phase (is_other selected held.content) is)
    (tells held.content)

adds_quiet : (name : List ℕ) (content : Content) (messages : List Message) (fault : _) → TellingQuiet (adds_within_limits name content messages fault).telling
unfolding adds_within_limits
adds_quiet name content messages (Some fault) = tt
adds_quiet name content messages None = tt

relabels_quiet : (name : List ℕ) (content : Content) (uids : List ℕ) (mode : _) (flags : _) (many : Bool)
    → TellingQuiet (relabels_unless name content uids mode flags many).telling
unfolding relabels_unless
relabels_quiet name content uids mode flags true = tt
relabels_quiet name content uids mode flags false = tt

PlanQuiet : Option OpPlan → Type 0
PlanQuiet None = Unit {0}
PlanQuiet (Some plan) = TellingQuiet plan.telling

op_quiet : (home : Backend) (ask : FrontAsk) (it : Op) → name_kind it ≡ None → IfSome (held_at home.held ask.name) IsHeldHere → PlanQuiet (op_plan home ask it)
unfolding op_plan append_plan look_plan read_plan summaries_plan flags_plan expunge_plan PlanQuiet
op_quiet home ask (op.Append messages) none here =
    plans_quiet ask.selected _ (held_at home.held ask.name) here (λ content. adds_quiet ask.name content messages (append_fault content messages))
op_quiet home ask (op.Read uids sees) none here = plans_quiet ask.selected _ (held_at home.held ask.name) here (λ content. tt)
op_quiet home ask (op.Flags uids mode flags) none here =
    plans_quiet ask.selected _ (held_at home.held ask.name) here
    (λ content. relabels_quiet ask.name content uids mode flags (has_too_many_flags (rows_stored content uids mode flags)))
op_quiet home ask (op.Expunge only) none here = plans_quiet ask.selected _ (held_at home.held ask.name) here (λ content. tt)
op_quiet home ask op.Look none here = plans_quiet ask.selected _ (held_at home.held ask.name) here (λ content. tt)
op_quiet home ask (op.Summaries uids) none here = plans_quiet ask.selected _ (held_at home.held ask.name) here (λ content. tt)
op_quiet home ask op.Create none here = cc
op_quiet home ask op.Delete none here = cc
op_quiet home ask (op.Xfer server partition) none here = tt

answer_quiet : (from : List ℕ) (id : AskId) (response : Response) → TellsNoServer response.body
    → AreQuietOuts ⊤ (answer_outs from id response.counts (Some response.body))
unfolding answer_outs
answer_quiet from id response is = (is, (tt, tt))

owed_quiet : (home : Backend) (from : List ℕ) (id : AskId) (plan : Option OpPlan) → PlanQuiet plan → AreQuietOuts ⊤ (owed_outs home (owes from id plan).owed)
unfolding PlanQuiet
owed_quiet home from id None is = tt
owed_quiet home from id (Some plan) is = answer_quiet from id (told_after home plan.telling) (told_quiet home plan.telling is)

moves_none : (held : Names) (it : BackendRecord) → IsOfOpen held it → MovesNone it
moves_none held (entry.Added name messages) is = tt
moves_none held (entry.Flagged name rows) is = tt
moves_none held (entry.Gone name uids) is = tt
moves_none held (entry.Make name serial acl) is = absurd is
moves_none held (entry.Opened name) is = absurd is
moves_none held (entry.Closing name) is = absurd is
moves_none held (entry.Forget names) is = absurd is
moves_none held (entry.Begun name giver serial acl) is = absurd is
moves_none held (entry.Took name changes) is = absurd is
moves_none held (entry.Ready name count) is = absurd is
moves_none held (entry.Pointer name server) is = absurd is

not_in_none : (it : BackendRecord) → IsOfOpen [] it → ⊥
not_in_none (entry.Added name messages) is = absurd is
not_in_none (entry.Flagged name rows) is = absurd is
not_in_none (entry.Gone name uids) is = absurd is
not_in_none (entry.Make name serial acl) is = absurd is
not_in_none (entry.Opened name) is = absurd is
not_in_none (entry.Closing name) is = absurd is
not_in_none (entry.Forget names) is = absurd is
not_in_none (entry.Begun name giver serial acl) is = absurd is
not_in_none (entry.Took name changes) is = absurd is
not_in_none (entry.Ready name count) is = absurd is
not_in_none (entry.Pointer name server) is = absurd is

only_moves : (held : Names) (entries : List BackendRecord) → AllByRecursion (IsOfOpen held) entries → MovesNoneIf (only_entry entries)
only_moves held [] all = tt
only_moves held (it ∷ entries) all = moves_none held it all.0

only_none : (held : Names) (entries : List BackendRecord) → held ≡ [] → AllByRecursion (IsOfOpen held) entries → held_with held (only_entry entries) ≡ []
only_none held [] none all = none
only_none held (it ∷ entries) none all = absurd (not_in_none it (subst (λ h. IsOfOpen h it) none all.0))

serves_quiet : (node : BackNode) (from : List ℕ) (ask : FrontAsk) → name_kind ask.op ≡ None → IsQuietTalk node.home.held node.flows
    → BackIsQuiet (done_by (serves node (back_plan node.home from ask)))
unfolding ask_plan
serves_quiet node from ask none quiet =
    let plan = op_plan node.home ask ask.op in
    let change = only_entry (owes from ask.id plan).entries in
    let opened = (message_entries node.home from ask none).opened in
    record {
      talk = record {
        here = subst AreHere (sym (same_held node.home change))
            (here_with node.home.held change (only_moves node.home.held (owes from ask.id plan).entries opened) quiet.here);
        lines = quiet.lines;
        resyncs = λ it e. (let was = quiet.resyncs it e in
            (same_held node.home change ∙ only_none node.home.held (owes from ask.id plan).entries was.0 opened, was.1));
      };
      outs = owed_quiet (home_with node.home change) from ask.id plan
          (op_quiet node.home ask ask.op none (IfSome-lookup_from_All IsHeldHere (has_key (slice_cmp nat_cmp ask.name)) node.home.held quiet.here));
    }

-- ---- whatever comes to a backend

asks_quiet : (node : BackNode) (from : List ℕ) (ask : FrontAsk) (kind : Option AskKind) → name_kind ask.op ≡ kind → IsQuietTalk node.home.held node.flows
    → BackIsQuiet (done_by (ask_by node from ask kind))
asks_quiet node from ask (Some kind) is quiet = talk_quiet node _ quiet (asked_quiet node.home.held node.flows (name_ask from ask kind) quiet)
asks_quiet node from ask None is quiet = serves_quiet node from ask is quiet

line_quiet : (node : BackNode) (read : Option (Tag × MResponse)) → IsQuietTalk node.home.held node.flows → BackIsQuiet (done_by (line_by node read))
line_quiet node None quiet = passed_quiet node quiet
line_quiet node (Some it) quiet = talk_quiet node _ quiet (heard_quiet node.home.held node.flows quiet it.0 it.1)

either_quiet : (test : Bool) (one other : UpToEntry) → BackIsQuiet (done_by one) → BackIsQuiet (done_by other) → BackIsQuiet (done_by (cond test one other))
either_quiet true one other a c = a
either_quiet false one other a c = c

-- what comes of a link that isn't the master's is passed over
other_quiet : (node : BackNode) (from : List ℕ) (it : UpToEntry) → from ≢ node.flows.master → IsQuietTalk node.home.held node.flows
    → BackIsQuiet (done_by (cond (is_my_master node from) it (passed_over node)))
other_quiet node from it ne quiet =
    subst (λ test. BackIsQuiet (done_by (cond test it (passed_over node)))) (sym (other_name from node.flows.master ne)) (passed_quiet node quiet)

-- no link of the master goes up or down
abbrev TellsOfOthers : List ℕ → List ℕ → LinkMsg → Type 0
TellsOfOthers master from Up = from ≢ master
TellsOfOthers master from End = from ≢ master
TellsOfOthers master from message = Unit {0}

home_quiet : (node : BackNode) (from : List ℕ) (message : LinkMsg) → TellsOfOthers node.flows.master from message
    → IsQuietTalk node.home.held node.flows → BackIsQuiet (node_takes node from message)
unfolding taken_up
home_quiet node from Up is quiet = other_quiet node from (talks node (up_step node.flows)) is quiet
home_quiet node from End is quiet = other_quiet node from _ is quiet
home_quiet node from (Line line) is quiet =
    either_quiet (is_my_master node from) (line_by node (response_in line)) (passed_over node) (line_quiet node (response_in line) quiet)
    (passed_quiet node quiet)
home_quiet node from (Ask ask) is quiet = asks_quiet node from ask (name_kind ask.op) refl quiet
home_quiet node from (Answer answer) is quiet = passed_quiet node quiet

-- ---- whatever comes to a node

pub record HomeIsQuiet (master node : List ℕ) (home : BackNode) : Type 0 where
  pub apart : node ≢ master
  pub master_is : home.flows.master ≡ master
  pub talk : IsQuietTalk home.home.held home.flows

-- a frontend and a backend aren't the master
abbrev pub NodeIsQuiet : List ℕ → List ℕ → NodeState → Type 0
NodeIsQuiet master node (state.Front front) = node ≢ master
NodeIsQuiet master node (state.Back home) = HomeIsQuiet master node home
NodeIsQuiet master node (state.Master it) = Unit {0}

abbrev pub InputIsQuiet : List ℕ → (List ℕ → Bool) → List ℕ → NodeInput → Type 0
InputIsQuiet master homes node (From name message) = IsQuietOn master homes name node message
InputIsQuiet master homes node input = Unit {0}

-- to a backend no link of the master goes up or down
tells_others : (master : List ℕ) (homes : List ℕ → Bool) (from node : List ℕ) (message : LinkMsg) → homes node ≡ true → IsQuietOn master homes from node message
    → TellsOfOthers master from message
tells_others master homes from node Up home is = is.from_apart home
tells_others master homes from node End home is = is.from_apart home
tells_others master homes from node (Line bytes) home is = tt
tells_others master homes from node (Ask ask) home is = tt
tells_others master homes from node (Answer answer) home is = tt

-- a backend is among them
abbrev pub IsAmongHomes : (List ℕ → Bool) → List ℕ → NodeState → Type 0
IsAmongHomes homes node (state.Front front) = Unit {0}
IsAmongHomes homes node (state.Back home) = homes node ≡ true
IsAmongHomes homes node (state.Master it) = Unit {0}

asks_any : (front : Front) → MayAsk QuietTo (ways_of front)
asks_any front = record { master = λ bytes. tt; named = λ ask server e. tt; made = λ ask e. tt }

moves_any : (message : LinkMsg) → MovesBy QuietTo message
moves_any (Answer answer) = λ server e ask. tt
moves_any Up = tt
moves_any End = tt
moves_any (Line line) = tt
moves_any (Ask ask) = tt

pub any_connections : (front : Front) → HasConnections AnyClient front
any_connections front conn connection at = tt

front_quiet : (front : Front) (input : NodeInput) → AreQuietOuts ⊥ (front_takes front input).outs
unfolding front_takes
front_quiet front (Opened conn) = (connect_own AnyClient QuietTo front (any_connections front) conn tt).outs
front_quiet front (Piece conn bytes) = (bytes_own AnyClient QuietTo front (any_connections front) (asks_any front) conn bytes).outs
front_quiet front (Hung conn) = tt
front_quiet front (From name message) =
    (message_own AnyClient QuietTo front (any_connections front) (asks_any front) name message (moves_any message)).outs

pub any_watchers : (watchers : List (ℕ × Tag)) → AllByRecursion (λ (e : ℕ × Tag). AnyClient e.0) watchers
any_watchers [] = tt
any_watchers (e ∷ watchers) = (tt, any_watchers watchers)

any_streams : (streams : List (List ℕ × Tag)) → AllByRecursion (λ (e : List ℕ × Tag). (bytes : List ℕ) → QuietTo e.0 (Line bytes)) streams
any_streams [] = tt
any_streams (e ∷ streams) = (λ bytes. tt, any_streams streams)

tells_any : (master : Master) → TellsOwn AnyClient QuietTo master
tells_any master = record { watchers = any_watchers master.watchers; streams = any_streams master.streams }

says_any : (name : List ℕ) (message : LinkMsg) → SaysFrom QuietTo name message
says_any name (Line line) = λ bytes. tt
says_any name Up = tt
says_any name End = tt
says_any name (Ask ask) = tt
says_any name (Answer answer) = tt

master_quiet : (master : Master) (input : NodeInput) → AreQuietOuts ⊤ (master_takes master input).outs
unfolding master_takes
master_quiet master (Opened conn) = (connect_let AnyClient QuietTo master (tells_any master) conn tt).outs
master_quiet master (Piece conn bytes) = (bytes_let AnyClient QuietTo master (tells_any master) conn bytes tt).outs
master_quiet master (Hung conn) = tt
master_quiet master (From name message) = (says_let AnyClient QuietTo master (tells_any master) name message (says_any name message)).outs

-- a backend's master stays its master
its_master : (home : BackNode) (from : List ℕ) (message : LinkMsg) → (node_takes home from message).state.flows.master ≡ home.flows.master
its_master home from message =
    (step_says AnyNode home from message (record { running = λ k d h. tt; waiting = λ k d h. tt }) (anyone_asks from message)).master

module _ (master : List ℕ) (homes : List ℕ → Bool) (node : List ℕ) where
  home_so : (home : BackNode) (from : List ℕ) (message : LinkMsg) → HomeIsQuiet master node home → homes node ≡ true
      → IsQuietOn master homes from node message → BackIsQuiet (node_takes home from message)
  home_so home from message quiet among is =
      home_quiet home from message (subst (λ m. TellsOfOthers m from message) (sym quiet.master_is) (tells_others master homes from node message among is)) quiet.talk

  pub outs_quiet : (it : NodeState) (input : NodeInput) → NodeIsQuiet master node it → IsAmongHomes homes node it → InputIsQuiet master homes node input
      → AreQuietOuts (MayMark it) (node_step it input).outs
  unfolding node_step back_takes
  outs_quiet (state.Front front) input quiet among is = front_quiet front input
  outs_quiet (state.Back home) (Opened conn) quiet among is = tt
  outs_quiet (state.Back home) (Piece conn bytes) quiet among is = tt
  outs_quiet (state.Back home) (Hung conn) quiet among is = tt
  outs_quiet (state.Back home) (From name message) quiet among is = (home_so home name message quiet among is).outs
  outs_quiet (state.Master it) input quiet among is = master_quiet it input

  pub stays_quiet : (it : NodeState) (input : NodeInput) → NodeIsQuiet master node it → IsAmongHomes homes node it → InputIsQuiet master homes node input
      → NodeIsQuiet master node (node_step it input).state
  unfolding node_step front_takes back_takes master_takes
  stays_quiet (state.Front front) (Opened conn) quiet among is = quiet
  stays_quiet (state.Front front) (Piece conn bytes) quiet among is = quiet
  stays_quiet (state.Front front) (Hung conn) quiet among is = quiet
  stays_quiet (state.Front front) (From name message) quiet among is = quiet
  stays_quiet (state.Back home) (Opened conn) quiet among is = quiet
  stays_quiet (state.Back home) (Piece conn bytes) quiet among is = quiet
  stays_quiet (state.Back home) (Hung conn) quiet among is = quiet
  stays_quiet (state.Back home) (From name message) quiet among is = record {
    apart = quiet.apart;
    master_is = its_master home name message ∙ quiet.master_is;
    talk = (home_so home name message quiet among is).talk;
  }
  stays_quiet (state.Master it) (Opened conn) quiet among is = tt
  stays_quiet (state.Master it) (Piece conn bytes) quiet among is = tt
  stays_quiet (state.Master it) (Hung conn) quiet among is = tt
  stays_quiet (state.Master it) (From name message) quiet among is = tt

-- ---- a node that is told that a link to it is up, before anything else came to it

-- nothing is there, and nothing is under way
pub record HomeIsFresh (master node : List ℕ) (home : BackNode) : Type 0 where
  pub apart : node ≢ master
  pub master_is : home.flows.master ≡ master
  pub empty : home.home.held ≡ []
  pub idle : home.flows.running ≡ []
  pub lines : All LooksForNone home.flows.sent

abbrev pub NodeIsFresh : List ℕ → List ℕ → NodeState → Type 0
NodeIsFresh master node (state.Front front) = node ≢ master
NodeIsFresh master node (state.Back home) = HomeIsFresh master node home
NodeIsFresh master node (state.Master it) = Unit {0}

none_here : (held : Names) → held ≡ [] → AreHere held
none_here held none = subst AreHere (sym none) (All-nil IsHeldHere)

module _ (master node : List ℕ) where
  fresh_talk : (home : BackNode) → HomeIsFresh master node home → IsQuietTalk home.home.held home.flows
  fresh_talk home fresh =
      record { here = none_here home.home.held fresh.empty; lines = fresh.lines; resyncs = λ it e. (fresh.empty, fresh.idle) }

  pub fresh_is_quiet : (it : NodeState) → NodeIsFresh master node it → NodeIsQuiet master node it
  fresh_is_quiet (state.Front front) fresh = fresh
  fresh_is_quiet (state.Back home) fresh = record { apart = fresh.apart; master_is = fresh.master_is; talk = fresh_talk home fresh }
  fresh_is_quiet (state.Master it) fresh = tt

  up_by_quiet : (home : BackNode) (test : Bool) → HomeIsFresh master node home
      → BackIsQuiet (done_by (cond test (talks home (up_step home.flows)) (passed_over home)))
  up_by_quiet home true fresh =
      let quiet = fresh_talk home fresh in talk_quiet home _ quiet (up_quiet home.home.held home.flows quiet fresh.empty fresh.idle)
  up_by_quiet home false fresh = passed_quiet home (fresh_talk home fresh)

  up_by_fresh : (home : BackNode) (test : Bool) → HomeIsFresh master node home
      → HomeIsFresh master node (done_by (cond test (talks home (up_step home.flows)) (passed_over home))).state
  up_by_fresh home true fresh = record {
    apart = fresh.apart;
    master_is = fresh.master_is;
    empty = fresh.empty;
    idle = fresh.idle;
    lines = (up_by_quiet home true fresh).talk.lines;
  }
  up_by_fresh home false fresh = fresh

  pub ups_outs : (it : NodeState) (from : List ℕ) → NodeIsFresh master node it → AreQuietOuts (MayMark it) (node_step it (From from Up)).outs
  unfolding node_step back_takes taken_up
  ups_outs (state.Front front) from fresh = front_quiet front (From from Up)
  ups_outs (state.Back home) from fresh = (up_by_quiet home (is_my_master home from) fresh).outs
  ups_outs (state.Master it) from fresh = master_quiet it (From from Up)

  pub ups_fresh : (it : NodeState) (from : List ℕ) → NodeIsFresh master node it → NodeIsFresh master node (node_step it (From from Up)).state
  unfolding node_step front_takes back_takes master_takes taken_up
  ups_fresh (state.Front front) from fresh = fresh
  ups_fresh (state.Back home) from fresh = up_by_fresh home (is_my_master home from) fresh
  ups_fresh (state.Master it) from fresh = tt
