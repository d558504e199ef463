use Rattle.std.proofs.Common.{◌≡◌, ◌+◌, ◌-◌, ℕ, List, length, take, drop, sym, ◌∙◌, arith}
use Rattle.std.proofs.lemmas.Grind.{common_steps}
use Rattle.imap_reply.specs.AccessLines.{is_tab}
use Rattle.imap_reply.proofs.AccessLaws.{split_none, split_some}
use Rattle.imap_reply.proofs.access.cut.Goals as goal

to_the_end : (text : List ℕ) (at : ℕ) → take (length text - at) (drop at text) ≡ drop at text
to_the_end text at = grind (arith, common_steps)

pub returns-in_err-at-clause-none : goal.returns-in_err-at-clause-none
returns-in_err-at-clause-none c = rw c.from_residual.ensures (split_none is_tab c.args.text.now (sym c.tab_in.ensures.place ∙ c.in_err-at.was))

pub returns-clause-some : goal.returns-clause-some
returns-clause-some c =
    rw (to_the_end c.args.text.now (c.in_ok-at.at + 1)) (split_some is_tab c.args.text.now c.in_ok-at.at (sym c.tab_in.ensures.place ∙ c.in_ok-at.was))
