use Rattle.std.proofs.Common.{sym, subst, ◌∙◌}
use Rattle.mupdate_codec.specs.Cut.{EndsLine}
use Rattle.mupdate_codec.specs.Waits.{HasBegunLine}
use Rattle.mupdate_codec.proofs.BegunLaw.{holds_nothing}
use Rattle.mupdate_codec.proofs.CutSteps.{ended_goes_on, ended_ends}
use Rattle.mupdate_codec.proofs.cutter.Begun.end_line.Goals as goal

pub returns-then-more-clause-holds : goal.returns-then-more-clause-holds
returns-then-more-clause-holds c =
    let begun = rw c.as_slice.ensures at (c.in_ok-more.ensures.more c.if-more.true) in
    ended_goes_on c.args.self.now.bytes c.octets_left-self.result c.requires.ended begun (rw c.as_slice-then-more.ensures at c.octets_left-self.ensures)

pub returns-clause-line : goal.returns-clause-line
returns-clause-line c =
    let none = rw c.as_slice.ensures at (c.in_ok-more.ensures.ends c.if-more.false) in (
      c.replace.ensures.value,
      subst EndsLine (sym c.replace.ensures.value) (ended_ends c.args.self.now.bytes c.requires.ended none),
      c.replace.ensures.after ∙ c.new-next.ensures,
    )

pub returns-clause-holds : goal.returns-clause-holds
returns-clause-holds c = subst (λ bytes. HasBegunLine bytes 0) (sym (c.replace.ensures.after ∙ c.new-next.ensures)) holds_nothing
