use Rattle.std.proofs.Common.{refl}
use Rattle.drill_gen.proofs.ValuesLaw.{stepped}
use Rattle.drill_gen.proofs.values.next_state.Goals as goal

pub returns : goal.returns
returns c = stepped c.args.state _ refl
