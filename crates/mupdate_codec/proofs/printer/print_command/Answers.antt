use Rattle.std.proofs.Common.{◌≡◌, sym, subst, arith}
use Rattle.std.proofs.lemmas.Grind.{common_steps}
use Rattle.mupdate_codec.specs.Arguments.{exact}
use Rattle.mupdate_codec.specs.Commands.{command_line, IsCommandLine}
use Rattle.mupdate_codec.proofs.LinesLaw.{law_command_line}
use Rattle.mupdate_codec.proofs.printer.print_command.Goals as goal

pub returns-clause-line : goal.returns-clause-line
returns-clause-line c = λ spelled.
    let text : c.put_command.new.out ≡ (command_line exact).text (c.args.tag.now, c.args.command.now) = grind (arith, common_steps) in
    subst (λ line. IsCommandLine line (c.args.tag.now, c.args.command.now)) (sym text)
    (law_command_line.prints spelled.0 (c.args.tag.now, c.args.command.now) spelled.1)
