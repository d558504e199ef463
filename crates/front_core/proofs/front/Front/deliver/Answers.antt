use Rattle.std.proofs.Common.{◌≡◌, IfOk, subst}
use Rattle.front_core.specs.Front.{Stepped}
use Rattle.front_core.proofs.StrangerLaw.{answer_noted, ask_noted, end_noted, line_noted, up_noted}
use Rattle.front_core.proofs.front.Front.deliver.Goals as goal

pub returns-in-Answer-clause-stranger : goal.returns-in-Answer-clause-stranger
returns-in-Answer-clause-stranger c none no_master =
    subst (λ (step : Stepped). IfOk c.answer_from.result (λ outs. record { front = c.answer_from.new.self; outs = outs } ≡ step))
    (answer_noted c.args.self.now c.args.from.now c.args.message c.in-Answer.answer c.in-Answer.is none no_master) c.answer_from.ensures

pub returns-in-Up-clause-stranger : goal.returns-in-Up-clause-stranger
returns-in-Up-clause-stranger c none no_master =
    subst (λ (step : Stepped). IfOk c.comes_up.result (λ outs. record { front = c.comes_up.new.self; outs = outs } ≡ step))
    (up_noted c.args.self.now c.args.from.now c.args.message c.in-Up.is none no_master) c.comes_up.ensures

pub returns-in-End-clause-stranger : goal.returns-in-End-clause-stranger
returns-in-End-clause-stranger c none no_master =
    subst (λ (step : Stepped). IfOk c.goes_down.result (λ outs. record { front = c.goes_down.new.self; outs = outs } ≡ step))
    (end_noted c.args.self.now c.args.from.now c.args.message c.in-End.is none no_master) c.goes_down.ensures

pub returns-in-Line-clause-stranger : goal.returns-in-Line-clause-stranger
returns-in-Line-clause-stranger c none no_master =
    subst (λ (step : Stepped). IfOk c.line_from.result (λ outs. record { front = c.line_from.new.self; outs = outs } ≡ step))
    (line_noted c.args.self.now c.args.from.now c.args.message c.in-Line.line c.in-Line.is none no_master) c.line_from.ensures

pub returns-clause-stranger : goal.returns-clause-stranger
returns-clause-stranger c none no_master = ask_noted c.args.self.now c.args.from.now c.args.message c.in-Ask.field-0 c.new.result c.in-Ask.is c.new.ensures
