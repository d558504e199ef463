use Rattle.std.proofs.lemmas.Result.{on_ok_weaker}
use Rattle.imap_reply.specs.OkLines.{permanent_line}
use Rattle.imap_reply.proofs.Joined.{joined_three}
use Rattle.imap_reply.proofs.ok_lines.put_permanent.Goals as goal

pub returns : goal.returns
unfolding permanent_line
returns c =
    on_ok_weaker c.extend_from_slice-2.result
    (λ last. joined_three c.args.out.now _ _ _ _ _ _ c.in_ok-extend_from_slice.ensures.ok c.in_ok-put_permanent_flags.ensures last)
    c.extend_from_slice-2.ensures.ok
