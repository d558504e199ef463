use Rattle.std.proofs.Common.{sym, ap, ◌∙◌}
use Rattle.std.specs.Option.{option_copied}
use Rattle.feed_core.specs.Routes.{home_by}
use Rattle.feed_core.proofs.RoutesLaw.{only_above}
use Rattle.feed_core.proofs.replica.Replica.home_for.Goals as goal

pub returns-in-Some : goal.returns-in-Some
returns-in-Some c =
    ap (λ r. (r).server) c.place.ensures
    ∙ ap (home_by c.args.first.now) (sym (ap option_copied c.in-Some.is)
    ∙ only_above c.args.self.now.records c.args.name.now (option_copied c.in_ok-rec.field-0) (c.in_ok-rec.ensures {u = tt}))

pub returns-in-None : goal.returns-in-None
returns-in-None c =
    ap (home_by c.args.first.now) (sym (ap option_copied c.in-None.is)
    ∙ only_above c.args.self.now.records c.args.name.now (option_copied c.in_ok-rec.field-0) (c.in_ok-rec.ensures {u = tt}))
