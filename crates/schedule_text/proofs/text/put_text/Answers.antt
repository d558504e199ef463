use Rattle.std.proofs.Common.{◌++◌, ◌∙◌, ap, append_assoc}
use Rattle.schedule_text.proofs.PutLaws.{text_split}
use Rattle.schedule_text.proofs.TextLaws.{bytes_of_text}
use Rattle.schedule_text.proofs.text.put_text.Goals as goal

pub returns-in_err-put_block-clause-read_back : goal.returns-in_err-put_block-clause-read_back
returns-in_err-put_block-clause-read_back c = bytes_of_text _ c.type_inv.bytes

pub loop-rest-preserved : goal.loop-rest-preserved
loop-rest-preserved c =
    rw (c.in_ok-put_block.ensures, c.split_at.ensures.front, c.split_at.ensures.back)
    (append_assoc c.loop-rest.out _ _ ∙ ap (λ text. c.loop-rest.out ++ text) (text_split c.loop-rest.rest.now c.min.result) ∙ c.loop-rest.invariant)

pub returns-clause-read_back : goal.returns-clause-read_back
returns-clause-read_back c = bytes_of_text _ c.type_inv.bytes
