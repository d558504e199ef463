use Rattle.std.proofs.Common.{ℕ, List, ◌++◌, ap, ◌∙◌, append_assoc}
use Rattle.top_call.specs.Output.{unreached_text}
use Rattle.top_call.proofs.output.lines.put_unreached.Goals as goal

pub returns : goal.returns
unfolding unreached_text
returns c =
    c.in_ok-extend_from_slice-2.ensures.ok
    ∙ (ap (λ (x : List ℕ). x ++ c.as_bytes.result.now) c.in_ok-extend_from_slice.ensures.ok
    ∙ (append_assoc c.args.out.now _ c.as_bytes.result.now
    ∙ ap (λ (node : List ℕ). c.args.out.now ++ unreached_text node) c.as_bytes.ensures))
