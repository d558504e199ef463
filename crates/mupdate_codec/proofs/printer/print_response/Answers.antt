use Rattle.std.proofs.Common.{◌≡◌, sym, subst, arith}
use Rattle.std.proofs.lemmas.Grind.{common_steps}
use Rattle.mupdate_codec.specs.Arguments.{exact}
use Rattle.mupdate_codec.specs.Responses.{response_line, IsResponseLine}
use Rattle.mupdate_codec.proofs.LinesLaw.{law_response_line}
use Rattle.mupdate_codec.proofs.printer.print_response.Goals as goal

pub returns-clause-line : goal.returns-clause-line
returns-clause-line c = λ spelled.
    let text : c.put_response.new.out ≡ (response_line exact).text (c.args.tag.now, c.args.response.now) = grind (arith, common_steps) in
    subst (λ line. IsResponseLine line (c.args.tag.now, c.args.response.now)) (sym text)
    (law_response_line.prints spelled.0 (c.args.tag.now, c.args.response.now) spelled.1)
