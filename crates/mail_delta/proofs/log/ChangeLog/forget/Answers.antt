use Rattle.std.proofs.Common.{◌+◌, subst, sym}
use Rattle.mail_delta.specs.Spans.{AreFalling}
use Rattle.mail_delta.proofs.HandingLaws.{falling-removed, forgotten-some, forgotten-none}
use Rattle.mail_delta.proofs.log.ChangeLog.forget.Goals as goal

pub invariant_of-self : goal.invariant_of-self
invariant_of-self c =
    let bound = c.self.inside.given + 1 in
    subst (AreFalling bound) (sym c.take_out.ensures.marks) (falling-removed bound c.in-Some.place c.self.inside.spans.items c.self.invariant)

pub returns-in-Some : goal.returns-in-Some
returns-in-Some c =
    rw (← c.self.view_is) (forgotten-some c.take_out.result (record { given = c.self.inside.given; spans = c.self.inside.spans.items }) c.args.mark c.in-Some.place
    c.take_out.new.spans.items c.in-Some.ensures c.take_out.ensures.spans)

pub returns-in-None : goal.returns-in-None
returns-in-None c =
    rw (← c.self.view_is) (forgotten-none (record { given = c.self.inside.given; spans = c.self.inside.spans.items }) c.args.mark c.in-None.ensures)
