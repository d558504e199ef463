use Rattle.std.proofs.Common.{◌≡◌, ◌∙◌, length, sym, subst}
use Rattle.mail_message.specs.RowOrder.{AreRising}
use Rattle.mail_delta.proofs.Keyed.{same_number}
use Rattle.mail_delta.proofs.AwayLaws.{none-away, away-set, rising-away}
use Rattle.mail_delta.proofs.mirror.take_away.Goals as goal

pub returns-then-is_empty-clause-value : goal.returns-then-is_empty-clause-value
returns-then-is_empty-clause-value c =
    let none : length c.args.gone.now ≡ 0 = same_number (length c.args.gone.now) 0 (sym c.is_empty.ensures ∙ c.if-is_empty.true) in
    sym (none-away c.args.rows.now.items c.args.gone.now none)

pub returns-clause-rising : goal.returns-clause-rising
returns-clause-rising c =
    let is = c.keep_others.ensures ∙ away-set c.args.rows.now.items c.args.gone.now c.in_ok-set.set c.in_ok-set.ensures in
    subst AreRising (sym is) (rising-away c.args.rows.now.items c.args.gone.now c.requires)

pub returns-clause-value : goal.returns-clause-value
returns-clause-value c = c.keep_others.ensures ∙ away-set c.args.rows.now.items c.args.gone.now c.in_ok-set.set c.in_ok-set.ensures
