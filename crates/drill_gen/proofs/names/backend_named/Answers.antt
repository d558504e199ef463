use Rattle.std.proofs.Common.{◌≡◌, ◌∷◌, refl, rules}
use Rattle.std.specs.Prelude.{decimal}
use Rattle.mur_base.specs.Names.{is_short_name_byte}
use Rattle.drill_gen.proofs.NamesLaw.{letter_and_digit}
use Rattle.drill_gen.proofs.names.backend_named.Goals as goal

pub node_named-requires : goal.node_named-requires
unfolding is_short_name_byte
node_named-requires c =
    let text : c.as_slice.result.now ≡ 98 ∷ decimal c.args.backend = search rules in
    rw text (letter_and_digit 98 c.args.backend refl c.requires)
