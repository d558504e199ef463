use Rattle.std.proofs.Common.{◌≡◌, ◌∙◌, Some, rules, codes}
use Rattle.drill_gen.proofs.ClusterLaw.{dated}
use Rattle.drill_gen.proofs.cluster.drill_date.Goals as goal

pub unwrap-requires : goal.unwrap-requires
unwrap-requires c =
    let there : c.date.result ≡ Some (codes "17-Jul-1996 02:44:25 -0700") = c.date.ensures ∙ dated in
    rw there (search rules)

pub returns : goal.returns
returns c =
    let there : c.date.result ≡ Some (codes "17-Jul-1996 02:44:25 -0700") = c.date.ensures ∙ dated in
    let is = c.unwrap.ensures in
    cc
