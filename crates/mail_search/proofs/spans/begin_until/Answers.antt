use Rattle.std.proofs.Common.{◌-◌, ap, arith}
use Rattle.std.proofs.lemmas.Bool.{leb-true}
use Rattle.mail_search.specs.declared.spans.Span.{Span}
use Rattle.mail_search.proofs.spans.begin_until.Goals as goal

pub returns-in-Some : goal.returns-in-Some
returns-in-Some c until k d from below =
    let found = c.in-Some.ensures.lookup.3 in
    let first = ap (λ (span : Span). span.first) (found.1 d) in
    let rising = c.requires k (c.args.place - 1) d (omega (arith, below)) found.0 in
    omega (arith, first, rising, leb-true _ _ until)
