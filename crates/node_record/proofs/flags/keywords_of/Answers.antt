use Rattle.std.proofs.Common.{◌≡◌, ◌-◌, ℕ, suc, [], ◌∷◌, refl, sym, ap, ◌∙◌, arith, length-append}
use Rattle.std.proofs.lemmas.Result.{err_from_is_err_and}
use Rattle.mail_message.specs.FlagSets.{Flags}
use Rattle.node_record.specs.Flags.{rising}
use Rattle.node_record.proofs.FlagSteps.{next_less, below_next, below_more, rising_more, rising_stops, rising_ends, keywords_stop, keywords_end, stopped_as}
use Rattle.node_record.proofs.flags.keywords_of.Goals as goal

pub returns-in_err-text : goal.returns-in_err-text
returns-in_err-text c =
    let p = err_from_is_err_and c.from_residual-in_err-text.result c.from_residual-in_err-text.ensures.1 in
    let some : suc (c.loop-left.left - 1) ≡ c.loop-left.left = omega (arith, c.loop-left-test.true) in
    let stops = rising_stops c.loop-left.before.now (c.loop-left.left - 1) c.in_err-text.field-0.0.left c.loop-left.made.keywords c.loop-left.rest.now
    c.in_err-text.ensures.reads in
    rw p.1
    (stopped_as _ c.in_err-text.field-0.0 _ p.2
    (keywords_stop c.args.system c.args.bytes.now c.in_ok-count.after.now c.in_ok-count.count c.in_ok-count.ensures.reads c.in_ok-count.ensures.passes
    c.in_err-text.field-0.0.left
    (sym c.loop-left.invariant.reads
    ∙ sym (ap (λ (n : ℕ). (rising n c.loop-left.before.now c.loop-left.made.keywords).at c.loop-left.rest.now) some)
    ∙ stops)))

pub put_highest-requires-clause-above : goal.put_highest-requires-clause-above
put_highest-requires-clause-above c =
    below_next c.loop-left.before.now c.in_ok-text.text.now c.loop-left.made.keywords
    (next_less c.loop-left.before.now (c.loop-left.left - 1) c.in_ok-text.text.now c.in_ok-text.ensures.next)
    c.loop-left.invariant.below

pub loop-left-preserved : goal.loop-left-preserved
loop-left-preserved c =
    let some : suc (c.loop-left.left - 1) ≡ c.loop-left.left = omega (arith, c.loop-left-test.true) in
    let less = next_less c.loop-left.before.now (c.loop-left.left - 1) c.in_ok-text.text.now c.in_ok-text.ensures.next in
    rw c.in_ok-put_highest.ensures
    (record {
      few = omega (arith, c.loop-left.invariant.few, c.loop-left-test.true, length-append c.loop-left.made.keywords (c.in_ok-text.text.now ∷ []));
      system = c.loop-left.invariant.system;
      below = below_more c.loop-left.before.now c.in_ok-text.text.now c.loop-left.made.keywords less c.loop-left.invariant.below;
      reads =
          rising_more c.loop-left.before.now (c.loop-left.left - 1) c.loop-left.made.keywords c.loop-left.rest.now c.in_ok-text.text.now c.in_ok-text.behind.now
          c.in_ok-text.ensures.reads c.in_ok-text.ensures.next c.in_ok-text.ensures.named
          ∙ ap (λ (n : ℕ). (rising n c.loop-left.before.now c.loop-left.made.keywords).at c.loop-left.rest.now) some
          ∙ c.loop-left.invariant.reads;
    })

pub returns : goal.returns
returns c =
    let none : c.loop-left.left ≡ 0 = omega (arith, c.loop-left-test.false) in
    keywords_end c.args.system c.args.bytes.now c.in_ok-count.after.now c.in_ok-count.count c.in_ok-count.ensures.reads c.in_ok-count.ensures.passes
    c.loop-left.made c.loop-left.rest.now
    (sym c.loop-left.invariant.reads
    ∙ ap (λ (n : ℕ). (rising n c.loop-left.before.now c.loop-left.made.keywords).at c.loop-left.rest.now) none
    ∙ rising_ends c.loop-left.before.now c.loop-left.made.keywords c.loop-left.rest.now)
    (c.loop-left.invariant.system ∙ ap (λ (flags : Flags). flags.system) c.reserve.ensures)
