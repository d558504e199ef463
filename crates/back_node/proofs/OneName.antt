-- A step is, to each name, the step of the protocol of one name.
use Rattle.std.proofs.Common.{◌≡◌, ℕ, Bool, true, cond, List, Option, None, Some, sym, ap, ◌∙◌}
use Rattle.std.specs.List.{flat_map, fold}
use Rattle.link_msg.specs.declared.ask.FrontAsk.{FrontAsk}
use Rattle.link_msg.specs.declared.message.LinkMsg.TheVariants.{Up, End, Line, Ask}
use Rattle.mupdate_codec.specs.declared.command.MResponse.{MResponse}
use Rattle.mupdate_codec.specs.declared.tag.Tag.{Tag}
use Rattle.mupdate_codec.specs.Whole.{response_in}
use Rattle.node_record.specs.Held.{Names, held_after}
use Rattle.backend_core.specs.declared.backend.Backend.{Backend}
use Rattle.backend_core.specs.Plan.{back_plan, plan_of}
use Rattle.home_law.specs.Items.{Ctl, Mine, HomePhase, backend_up, backend_end}
use Rattle.home_law.specs.ManyNames.{downs_of}
use Rattle.home_law.specs.Steps.{hear}
use Rattle.name_flows.specs.declared.ask.AskKind.{AskKind}
use Rattle.name_flows.specs.declared.flows.Flows.{Flows}
use Rattle.name_flows.specs.Asked.{asked_step}
use Rattle.name_flows.specs.Heard.{heard_step}
use Rattle.name_flows.specs.Link.{end_step}
use Rattle.name_flows.specs.Listing.{up_step}
use Rattle.name_flows.specs.OneName.{CanHear, asked_as, ctl_of, flow_in, heard_as, line_items, open_lines, progress_in, seen_by, told_by}
use Rattle.name_flows.specs.Running.{flow_at}
use Rattle.name_flows.specs.Steps.{FlowStep}
use Rattle.name_flows.proofs.AskedLaw.{asked_as_one}
use Rattle.name_flows.proofs.HeardLaw.{heard_as_one}
use Rattle.back_node.specs.declared.node.BackNode.{BackNode}
use Rattle.back_node.specs.Acted.{BackActed}
use Rattle.back_node.specs.Node.{is_my_master}
use Rattle.back_node.specs.NodeLaws.{step_to}
use Rattle.back_node.specs.Takes.{line_by, name_ask, name_kind, node_takes, passed_over, taken_up, talks}
use Rattle.back_node.proofs.AtHome.{done_by}
use Rattle.back_node.proofs.Courses.{with_one}
use Rattle.back_node.proofs.NameAsks.{name_step}
use Rattle.back_node.proofs.OnlyEntry.{message_entries}
use Rattle.back_node.proofs.AtHome.{ask_is_at_home}
use Rattle.back_node.specs.NodeLaws.{IsAtHome}

-- a step of the talk is to a name what name_flows says
talked_to : (node : BackNode) (step : FlowStep) (name : List ℕ) (linked : Bool)
    → seen_by name linked node.home.held step ≡ step_to name linked (done_by (talks node step)) step.sends
talked_to node step name linked =
    ap (λ (held : Names). record { ctl = ctl_of linked held step.flows name; says = flat_map (line_items name) step.sends }) (sym (with_one node.home step.entry))

-- the step for a message of the master
abbrev by_master : BackNode → FlowStep → Bool → BackActed
by_master node step test = done_by (cond test (talks node step) (passed_over node))

by_test : (node : BackNode) (from : List ℕ) (step : FlowStep) (name : List ℕ) (linked : Bool) → is_my_master node from ≡ true
    → seen_by name linked node.home.held step ≡ step_to name linked (by_master node step (is_my_master node from)) step.sends
by_test node from step name linked master =
    talked_to node step name linked ∙ ap (λ test. step_to name linked (by_master node step test) step.sends) (sym master)

pub up_to_name : (node : BackNode) (from name : List ℕ) (linked : Bool) → is_my_master node from ≡ true
    → hear (ctl_of linked node.home.held node.flows name) backend_up ≡ step_to name linked (node_takes node from Up) (up_step node.flows).sends
unfolding taken_up hear
up_to_name node from name linked master = by_test node from (up_step node.flows) name linked master

pub end_to_name : (node : BackNode) (from name : List ℕ) (linked : Bool) → is_my_master node from ≡ true
    → hear (ctl_of linked node.home.held node.flows name) backend_end ≡ step_to name linked (node_takes node from End) (end_step node.flows).sends
unfolding taken_up hear
end_to_name node from name linked master = by_test node from (end_step node.flows) name linked master

pub ask_to_name : (node : BackNode) (from : List ℕ) (ask : FrontAsk) (kind : AskKind) (name : List ℕ) (linked : Bool) → name_kind ask.op ≡ Some kind
    → asked_as name (name_ask from ask kind) (ctl_of linked node.home.held node.flows name)
    ≡ step_to name linked (node_takes node from (Ask ask)) (asked_step node.flows node.home.held (name_ask from ask kind)).sends
ask_to_name node from ask kind name linked named =
    let step = asked_step node.flows node.home.held (name_ask from ask kind) in
    asked_as_one linked name node.flows node.home.held (name_ask from ask kind)
    ∙ talked_to node step name linked
    ∙ ap (λ (it : BackActed). step_to name linked it step.sends) (sym (name_step node from ask kind named))

heard_line : (node : BackNode) (from line : List ℕ) (tag : Tag) (it : MResponse) → is_my_master node from ≡ true → response_in line ≡ Some (tag, it)
    → node_takes node from (Line line) ≡ done_by (talks node (heard_step node.flows node.home.held tag it))
unfolding taken_up
heard_line node from line tag it master read =
    ap (λ test. done_by (cond test (line_by node (response_in line)) (passed_over node))) master
    ∙ ap (λ (r : Option (Tag × MResponse)). done_by (line_by node r)) read

pub line_to_name : (node : BackNode) (from line : List ℕ) (tag : Tag) (it : MResponse) (m : Mine) (name : List ℕ) (linked : Bool)
    → is_my_master node from ≡ true → response_in line ≡ Some (tag, it) → CanHear m linked name node.flows node.home.held tag it
    → heard_as (downs_of name (open_lines node.flows) (told_by it)) (ctl_of linked node.home.held node.flows name)
    ≡ step_to name linked (node_takes node from (Line line)) (heard_step node.flows node.home.held tag it).sends
line_to_name node from line tag it m name linked master read can =
    let step = heard_step node.flows node.home.held tag it in
    heard_as_one linked name node.flows node.home.held tag it m can
    ∙ talked_to node step name linked
    ∙ ap (λ (acted : BackActed). step_to name linked acted step.sends) (sym (heard_line node from line tag it master read))

-- an ask for messages is nothing to any name

with_phase_of : Bool → Flows → List ℕ → HomePhase → Ctl
with_phase_of linked flows name phase = record {
  phase = phase;
  flow = flow_in (flow_at flows name);
  resync = progress_in name flows.resync;
  hears = flows.up;
  linked = linked;
}

pub messages_to_name : (node : BackNode) (from : List ℕ) (ask : FrontAsk) (name : List ℕ) (linked : Bool) → name_kind ask.op ≡ None
    → ctl_of linked (node_takes node from (Ask ask)).state.home.held (node_takes node from (Ask ask)).state.flows name
    ≡ ctl_of linked node.home.held node.flows name
unfolding plan_of with_phase_of
messages_to_name node from ask name linked none =
    let there : IsAtHome node from ask = ask_is_at_home node from ask none in
    let plan = back_plan node.home from ask in
    ap (λ (home : Backend). ctl_of linked home.held (node_takes node from (Ask ask)).state.flows name) there.home
    ∙ ap (λ (flows : Flows). ctl_of linked (fold held_after node.home.held plan.entries) flows name) there.flows
    ∙ ap (with_phase_of linked node.flows name) ((message_entries node.home from ask none).phases node.home.held name)
