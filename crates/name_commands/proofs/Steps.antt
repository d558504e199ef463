-- A step of the talk, as it is to the commands that are meant: what it makes of one, or that it leaves them.
use Rattle.std.proofs.Common.{◌≡◌, ℕ, List, [], filter, ◌∙◌}
use Rattle.node_record.specs.Held.{Names}
use Rattle.name_flows.specs.declared.flows.Flows.{Flows}
use Rattle.name_flows.specs.Link.{waiting_in}
use Rattle.name_flows.specs.Running.{flow_at}
use Rattle.name_flows.specs.Steps.{FlowStep, handed}
use Rattle.name_commands.specs.Moves.{Move, answers_of, lines_of, place_after}
use Rattle.name_commands.specs.Places.{NamePlace, FlowsShow}
use Rattle.name_commands.specs.Whose.{Whose, is_own_ask, is_own_line, is_own_told, own_flow}
use Rattle.name_commands.proofs.Own.{none_behind}

pub record Makes (whose : Whose) (held : Names) (step : FlowStep) (move : Move) : Type 0 where
  pub at : FlowsShow whose (handed held step).flows (place_after move)
  pub lines : filter (is_own_line whose) step.sends ≡ lines_of move
  pub answers : filter (is_own_told whose) step.answers ≡ answers_of move

pub record Leaves (whose : Whose) (flows : Flows) (step : FlowStep) : Type 0 where
  pub waiting : filter (is_own_ask whose) (waiting_in step.flows.resync) ≡ filter (is_own_ask whose) (waiting_in flows.resync)
  pub running : (name : List ℕ) → own_flow whose (flow_at step.flows name) ≡ own_flow whose (flow_at flows name)
  pub sent : filter (is_own_line whose) step.flows.sent ≡ filter (is_own_line whose) flows.sent
  pub lines : filter (is_own_line whose) step.sends ≡ []
  pub answers : filter (is_own_told whose) step.answers ≡ []

-- what is left stays where it is
pub left_at : (whose : Whose) (flows : Flows) (held : Names) (step : FlowStep) (place : NamePlace) → Leaves whose flows step → FlowsShow whose flows place
    → FlowsShow whose (handed held step).flows place
left_at whose flows held step place leaves at = record {
  waiting = leaves.waiting ∙ at.waiting;
  running = λ name. leaves.running name ∙ at.running name;
  sent = none_behind (is_own_line whose) step.flows.sent step.sends leaves.lines ∙ leaves.sent ∙ at.sent;
  numbered = at.numbered;
}
