use Rattle.std.proofs.Common.{◌+◌, Some, take, sym, ap, ◌∙◌, eq-eqb, ne_eqb}
use Rattle.mupdate_codec.specs.Asks.{ask_in}
use Rattle.mupdate_codec.proofs.AsksLaw.{split_here, split_on, rest_is}
use Rattle.mupdate_codec.proofs.asks.ask_in_text.Goals as goal

pub returns-then-byte-eq45 : goal.returns-then-byte-eq45
returns-then-byte-eq45 c =
    c.ask_in.ensures
    ∙ ap (λ rest. ask_in (Some (take c.loop-i.i c.args.text.now, rest))) (rest_is c.args.text.now (c.loop-i.i + 1))
    ∙ ap ask_in (sym (split_here c.args.text.now c.loop-i.i c.loop-i-test.true (eq-eqb _ 45 c.if-byte-eq45.true)) ∙ c.loop-i.invariant)

pub loop-i-preserved : goal.loop-i-preserved
loop-i-preserved c =
    sym (split_on c.args.text.now c.loop-i.i c.loop-i-test.true (ne_eqb _ 45 c.if-byte-eq45.false)) ∙ c.loop-i.invariant
