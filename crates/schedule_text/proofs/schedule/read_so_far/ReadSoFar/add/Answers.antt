use Rattle.std.proofs.Common.{ℕ, List, is_some, sym, ap, ◌∙◌}
use Rattle.std.specs.Ordering.{nat_cmp}
use Rattle.mur_base.specs.Map.{value_at}
use Rattle.schedule_text.specs.declared.event.Event.{Event}
use Rattle.schedule_text.specs.ScheduleOpened.{is_opened}
use Rattle.schedule_text.proofs.OpenedLaws.{knows_after}
use Rattle.schedule_text.proofs.schedule.read_so_far.ReadSoFar.add.Goals as goal

pub returns-clause-opened : goal.returns-clause-opened
returns-clause-opened c = λ q.
    ap (λ (opened : List (ℕ × Unit {0})). is_some (value_at nat_cmp opened q)) c.in_ok-note.ensures
    ∙ (knows_after c.args.self.now.opened c.args.self.now.events c.args.event c.requires q
    ∙ sym (ap (λ (events : List Event). is_opened events q) c.in_ok-push.ensures.ok))
