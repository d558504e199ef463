use Rattle.std.proofs.lemmas.Result.{on_ok_weaker}
use Rattle.imap_reply.specs.SearchLine.{search_line}
use Rattle.imap_reply.proofs.Joined.{joined_six}
use Rattle.imap_reply.proofs.search.put_search.Goals as goal

pub returns : goal.returns
unfolding search_line
returns c =
    on_ok_weaker c.extend_from_slice-4.result
    (λ last. joined_six c.args.out.now _ _ _ _ _ _ _ _ _ _ _ _ c.in_ok-extend_from_slice.ensures.ok c.in_ok-put_tag.ensures
    c.in_ok-extend_from_slice-2.ensures.ok (rw c.uid_text.ensures at c.in_ok-extend_from_slice-3.ensures.ok) c.in_ok-put_all.ensures last)
    c.extend_from_slice-4.ensures.ok
