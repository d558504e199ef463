use Rattle.std.proofs.Common.{codes}
use Rattle.std.specs.Prelude.{decimal}
use Rattle.drill_gen.specs.Commands.{create_text}
use Rattle.drill_gen.proofs.PutLaw.{three}
use Rattle.drill_gen.proofs.commands.put_create.Goals as goal

pub returns : goal.returns
unfolding create_text
returns c =
    three _ _ _ _ (codes "a CREATE user.u") (decimal c.args.user) (codes "\r\n") c.in_ok-extend_from_slice.ensures.ok c.in_ok-put_number.ensures.ok
    c.in_ok-extend_from_slice-2.ensures.ok
