use Rattle.std.proofs.Common.{◌≡◌, ◌∷◌, refl, rules}
use Rattle.std.specs.Prelude.{decimal}
use Rattle.mur_base.specs.Names.{is_short_name_byte}
use Rattle.drill_gen.proofs.NamesLaw.{letter_and_digit}
use Rattle.drill_gen.proofs.names.user_numbered.Goals as goal

pub user_named-requires : goal.user_named-requires
unfolding is_short_name_byte
user_named-requires c =
    let text : c.as_slice.result.now ≡ 117 ∷ decimal c.args.number = search rules in
    rw text (letter_and_digit 117 c.args.number refl c.requires)
