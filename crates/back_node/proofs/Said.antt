-- Lines go to the master, and answers to those who asked.
use Rattle.std.proofs.Common.{◌≡◌, ℕ, List, [], ◌∷◌, map, Option, None, Some, refl, subst}
use Rattle.std.specs.Prelude.{All}
use Rattle.std.proofs.lemmas.List.Elements.{All-nil, All-cons, All-append, All-map}
use Rattle.mur_base.specs.declared.home.Location.{Location}
use Rattle.mur_base.specs.declared.point.AskId.{AskId}
use Rattle.link_msg.specs.declared.answer.AnswerBody.{AnswerBody}
use Rattle.link_msg.specs.declared.ask.FrontAsk.{FrontAsk}
use Rattle.link_msg.specs.declared.counts.Counts.{Counts}
use Rattle.link_msg.specs.declared.message.LinkMsg.{LinkMsg}
use Rattle.link_msg.specs.declared.message.LinkMsg.TheVariants.{Answer, Ask}
use Rattle.link_msg.specs.declared.out.Out.TheVariants.{Link, Mark}
use Rattle.backend_core.specs.declared.backend.Backend.{Backend}
use Rattle.backend_core.specs.declared.op_plan.OpPlan.{OpPlan}
use Rattle.backend_core.specs.AskPlan.{ask_plan}
use Rattle.backend_core.specs.OpPlan.{told_after}
use Rattle.backend_core.specs.Plan.{answer_outs, back_plan, owed_outs, owes}
use Rattle.name_flows.specs.declared.ask.Told.{Told}
use Rattle.name_flows.specs.Steps.{FlowStep, handed}
use Rattle.back_node.specs.declared.node.BackNode.{BackNode}
use Rattle.back_node.specs.Node.{new_node}
use Rattle.back_node.specs.NodeLaws.{AsksAs, IsSaid, OwesOnly, SaysOnly}
use Rattle.back_node.specs.Takes.{UpToEntry, answer_out, line_out, node_takes, passed_over, serves, talks}
use Rattle.back_node.proofs.AtHome.{done_by}
use Rattle.back_node.proofs.Owed.{AnswersOnly, IsToOne, ask_answers, end_answers, heard_answers, none_owed, up_answers}
use Rattle.back_node.proofs.Rows.{each_row}

module _ (may : List ℕ → Type 0) where
  all_lines : (master to : List ℕ) (lines : List (List ℕ)) → to ≡ master → All (IsSaid master may) (map (line_out to) lines)
  all_lines master to [] is = All-nil (IsSaid master may)
  all_lines master to (line ∷ lines) is = All-cons (IsSaid master may) _ _ is (all_lines master to lines is)

  all_answers : (master : List ℕ) (answers : List Told) → All (IsToOne may) answers → All (IsSaid master may) (map answer_out answers)
  all_answers master answers all = All-map (IsSaid master may) answer_out answers all

  talk_says : (node : BackNode) (step : FlowStep) → AnswersOnly may node.flows step → SaysOnly may node (done_by (talks node step))
  talk_says node step so = record {
    outs = All-append (IsSaid node.flows.master may) _ _
        (all_lines node.flows.master step.flows.master (handed node.home.held step).step.lines so.master)
        (all_answers node.flows.master step.answers so.answers);
    owes = record { running = so.owes.running; waiting = so.owes.waiting };
    master = so.master;
  }

  nothing_says : (node : BackNode) → OwesOnly may node.flows → SaysOnly may node (done_by (passed_over node))
  nothing_says node owes = record { outs = All-nil (IsSaid node.flows.master may); owes = owes; master = refl }

  answer_is_said : (master from : List ℕ) (id : AskId) (counts : Counts) (body : AnswerBody) → may from
      → All (IsSaid master may) (answer_outs from id counts (Some body))
  unfolding answer_outs
  answer_is_said master from id counts body own =
      All-cons (IsSaid master may) (Link from (Answer (record { id = id; body = body }))) (Mark id counts ∷ []) own
      (All-cons (IsSaid master may) (Mark id counts) [] (tt {0}) (All-nil (IsSaid master may)))

  owed_is_said : (master from : List ℕ) (id : AskId) (home : Backend) (plan : Option OpPlan) → may from
      → All (IsSaid master may) (owed_outs home (owes from id plan).owed)
  owed_is_said master from id home None own = All-nil (IsSaid master may)
  owed_is_said master from id home (Some plan) own =
      answer_is_said master from id (told_after home plan.telling).counts (told_after home plan.telling).body own

  serves_says : (node : BackNode) (from : List ℕ) (ask : FrontAsk) → may from → OwesOnly may node.flows
      → SaysOnly may node (done_by (serves node (back_plan node.home from ask)))
  serves_says node from ask own owes = record {
    outs = owed_is_said node.flows.master from ask.id (done_by (serves node (back_plan node.home from ask))).state.home (ask_plan node.home ask) own;
    owes = owes;
    master = refl;
  }

  asks_own : (from : List ℕ) (message : LinkMsg) (ask : FrontAsk) → message ≡ Ask ask → AsksAs may from message → may from
  asks_own from message ask is own = subst (AsksAs may from) is own

  pub step_says : (node : BackNode) (from : List ℕ) (message : LinkMsg) → OwesOnly may node.flows → AsksAs may from message
      → SaysOnly may node (node_takes node from message)
  step_says node from message owes own = each_row (λ (it : UpToEntry). SaysOnly may node (done_by it)) node from message (record {
    nothing = nothing_says node owes;
    up = talk_says node _ (up_answers may node.flows owes);
    ended = talk_says node _ (end_answers may node.flows owes);
    heard = λ tag it. talk_says node _ (heard_answers may node.flows node.home.held tag it owes);
    named = λ ask kind is named. talk_says node _ (ask_answers may node.flows node.home.held _ (asks_own from message ask is own) owes);
    served = λ ask is none. serves_says node from ask (asks_own from message ask is own) owes;
  })

  pub none_owed_at_start : (me : Location) (master : List ℕ) → OwesOnly may (new_node me master).flows
  none_owed_at_start me master = none_owed may me master
