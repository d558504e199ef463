use Rattle.std.proofs.Common.{rules, ◌≡◌, true, arith}
use Rattle.std.proofs.lemmas.Grind.{common_steps}
use Rattle.mur_config.specs.Config.{has_node_names}
use Rattle.mur_config.proofs.ValuesLaw.{has_short_name}
use Rattle.mur_config.proofs.values.node_of.Goals as goal

pub node_at-requires : goal.node_at-requires
node_at-requires c =
    let named : has_node_names c.args.draft.now c.in-Some.kind ≡ true = first_of (search rules, grind (arith, common_steps)) in
    has_short_name c.args.draft.now c.in-Some.kind named
