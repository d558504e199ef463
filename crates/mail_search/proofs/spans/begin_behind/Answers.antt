use Rattle.std.proofs.Common.{ap, arith}
use Rattle.std.proofs.lemmas.Bool.{ltb-true}
use Rattle.mail_search.specs.declared.spans.Span.{Span}
use Rattle.mail_search.proofs.spans.begin_behind.Goals as goal

pub returns-in-Some-clause-behind : goal.returns-in-Some-clause-behind
returns-in-Some-clause-behind c behind k d from within =
    let found = ap (λ (span : Span). span.first) (c.in-Some.ensures.lookup.3.1 d) in
    let rising = c.requires c.args.place k d from within in
    omega (arith, found, rising, ltb-true _ _ behind)
