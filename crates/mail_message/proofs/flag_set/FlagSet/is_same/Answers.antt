use Rattle.std.specs.Bool.{one_answer}
use Rattle.mail_message.proofs.FlagLaw.{same_flags_decide}
use Rattle.mail_message.specs.SameFlags.{is_same_flags}
use Rattle.mail_message.proofs.flag_set.FlagSet.is_same.Goals as goal

pub returns : goal.returns
returns c =
    one_answer c.are_same.result (is_same_flags c.args.self.now c.args.others.now) c.are_same.ensures
    (same_flags_decide c.args.self.now c.args.others.now)
