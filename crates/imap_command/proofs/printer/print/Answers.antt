use Rattle.std.proofs.Common.{◌≡◌, sym, subst, arith}
use Rattle.std.proofs.lemmas.Grind.{common_steps}
use Rattle.imap_command.specs.Print.{printed}
use Rattle.imap_command.specs.Spells.{Spells}
use Rattle.imap_command.proofs.PrintLaw.{spell_printed}
use Rattle.imap_command.proofs.printer.print.Goals as goal

pub returns-clause-spells : goal.returns-clause-spells
unfolding printed
returns-clause-spells c =
    let text : c.put_command.new.out ≡ printed c.args.tag.now c.args.command.now = grind (arith, common_steps) in
    subst (λ frame. Spells frame (c.args.tag.now, c.args.command.now)) (sym text)
    (spell_printed c.args.tag.now c.args.command.now c.requires)
