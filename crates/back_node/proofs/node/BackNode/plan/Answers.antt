use Rattle.mupdate_codec.specs.Whole.{response_in}
use Rattle.back_node.specs.Takes.{ask_by, line_by, name_kind}
use Rattle.back_node.proofs.RestNext.{next_ask, next_line, next_rest}
use Rattle.back_node.proofs.node.BackNode.plan.Goals as goal

pub returns-in-Line-clause-next : goal.returns-in-Line-clause-next
returns-in-Line-clause-next c =
    let node = c.args.self.now in
    let response = response_in c.in-Line.line in
    next_rest c.line_comes.result c.line_comes.new.self (line_by node response) c.line_comes.ensures (next_line node response)

pub returns-in-Ask-clause-next : goal.returns-in-Ask-clause-next
returns-in-Ask-clause-next c =
    let node = c.args.self.now in
    let ask = c.in-Ask.ask in
    let kind = name_kind ask.op in
    next_rest c.ask_comes.result c.ask_comes.new.self (ask_by node c.args.from ask kind) c.ask_comes.ensures (next_ask node c.args.from ask kind)
