use Rattle.std.proofs.Common.{sym, ◌∙◌}
use Rattle.master_core.proofs.StepLaw.{command_done, planned_of}
use Rattle.master_core.proofs.master.Master.command_comes.Goals as goal

pub returns : goal.returns
returns c =
    command_done c.args.self.now c.args.from.now c.args.tag c.args.command c.args.outs.now c.in_ok-reply.reply c.stream_step-step.result
    (planned_of c.give.new.self c.in_ok-entry.entry c.give.new.outs) (planned_of c.settle_sender.new.self c.in_ok-entry.entry c.settle_sender.new.outs)
    (sym c.is_barred.ensures ∙ c.if-is_barred.false) c.in_ok-reply.ensures c.stream_step-step.ensures c.in_ok-entry.ensures
    (c.in_ok-settle_sender.ensures c.in_ok-entry.entry)
