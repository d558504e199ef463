use Rattle.std.proofs.Common.{arith}
use Rattle.std.proofs.lemmas.Result.{err_from_is_err_and}
use Rattle.node_record.proofs.KeywordSteps.{keyword_stops, keyword_goes, size_some, size_short, next_read, named_read}
use Rattle.node_record.proofs.keyword.keyword_of.Goals as goal

pub returns-in_err-size-clause-reads : goal.returns-in_err-size-clause-reads
returns-in_err-size-clause-reads c =
    let p = err_from_is_err_and c.from_residual.result c.from_residual.ensures.1 in
    rw (p.1, p.2) (keyword_stops c.args.before.now c.args.above c.args.bytes.now c.in_err-size.field-0.0.left c.in_err-size.ensures.reads)

pub invariant_of-wanted : goal.invariant_of-wanted
invariant_of-wanted c = record {
  few = c.requires;
  short = omega (arith, c.from.ensures, size_short c.args.before.now c.args.above c.in_ok-size.size c.in_ok-size.ensures.passes);
}

pub invariant_of-word_of : goal.invariant_of-word_of
invariant_of-word_of c = record { some = rw c.from.ensures (size_some c.args.before.now c.args.above c.in_ok-size.size c.in_ok-size.ensures.passes) }

pub returns-clause-reads : goal.returns-clause-reads
returns-clause-reads c =
    rw (
      keyword_goes c.args.before.now c.args.above c.args.bytes.now c.in_ok-size.rest.now c.in_ok-size.size c.in_ok-size.ensures.reads c.in_ok-size.ensures.passes,
      ← c.from.ensures,
    )
    c.word_of.ensures.reads

pub returns-clause-next : goal.returns-clause-next
returns-clause-next c = next_read c.args.before.now c.args.above (λ x. x.0.now) c.from.result c.word_of.result c.word_of.ensures.whole

pub returns-clause-named : goal.returns-clause-named
returns-clause-named c =
    named_read c.args.before.now c.args.above (λ x. x.0.now) c.from.result (rw c.from.ensures c.in_ok-size.ensures.passes) c.word_of.result c.word_of.ensures.whole
