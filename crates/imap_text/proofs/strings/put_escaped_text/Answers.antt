use Rattle.std.proofs.Common.{◌++◌, ◌+◌, drop, get_or, sym, ap, ◌∙◌, append_assoc}
use Rattle.imap_text.specs.Strings.{escaped, escaped_text}
use Rattle.imap_text.proofs.StringsPrinted.{escaped_step}
use Rattle.imap_text.proofs.strings.put_escaped_text.Goals as goal

pub loop-byte-preserved : goal.loop-byte-preserved
loop-byte-preserved c =
    let text = c.args.text.now in
    let i = c.loop-byte.byte-index in
    let left = escaped_text (drop (i + 1) text) in
    ap (λ s. s ++ left) c.in_ok-put_escaped.ensures
    ∙ append_assoc c.loop-byte.out (escaped (get_or text i 0)) left
    ∙ ap (λ s. c.loop-byte.out ++ s) (sym (escaped_step text i c.loop-byte-test.true))
    ∙ c.loop-byte.invariant
