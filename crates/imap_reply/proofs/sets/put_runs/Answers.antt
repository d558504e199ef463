use Rattle.std.proofs.Common.{◌≡◌, ◌≢◌, suc, get_or, refl, ◌∙◌}
use Rattle.std.proofs.lemmas.Result.{on_ok_weaker}
use Rattle.imap_reply.specs.Sets.{runs_of, set_text}
use Rattle.imap_reply.proofs.SetLaws.{next_ends, next_goes_on, numbers_end}
use Rattle.imap_reply.proofs.sets.put_runs.Goals as goal
use Rattle.imap_reply.proofs.sets.put_runs.Goals.{then-not-goes_on+in_ok-put_run+in_ok-push, else-not-goes_on}

pub loop-next-preserved : goal.loop-next-preserved
loop-next-preserved c =
    elim c.if-not-goes_on.branch [
      | then-not-goes_on+in_ok-put_run+in_ok-push w ↦
          let apart : suc c.loop-next.last ≢ get_or c.args.more.now c.loop-next.next-index 0 = λ e. let is = w.if-not-goes_on.ensures.1 e in cc in
          rw (w.out-is, w.first-is, w.last-is, w.in_ok-push.ensures.ok, w.in_ok-put_run.ensures)
          (next_ends c.loop-next.out _ c.loop-next.first c.loop-next.last c.args.more.now c.loop-next.next-index
          c.loop-next-test.true c.loop-next.invariant apart)
      | else-not-goes_on w ↦
          let together : suc c.loop-next.last ≡ get_or c.args.more.now c.loop-next.next-index 0 = w.if-not-goes_on.ensures.0 refl in
          rw (w.out-is, w.first-is, w.last-is)
          (next_goes_on c.loop-next.out _ c.loop-next.first c.loop-next.last c.args.more.now c.loop-next.next-index
          c.loop-next-test.true c.loop-next.invariant together)
    ]

pub returns : goal.returns
unfolding runs_of set_text
returns c =
    on_ok_weaker c.put_run-2.result
    (λ last. last ∙ numbers_end c.loop-next.out _ c.loop-next.first c.loop-next.last c.args.more.now c.loop-next.next-index
    c.loop-next-test.false c.loop-next.invariant)
    c.put_run-2.ensures
