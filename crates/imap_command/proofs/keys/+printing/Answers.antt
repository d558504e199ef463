use Rattle.std.proofs.Common.{◌≡◌, ◌∷◌, ◌++◌, [], ◌∙◌, ap, arith}
use Rattle.std.proofs.lemmas.Grind.{common_steps}
use Rattle.grammar.specs.Forms.{list_text}
use Rattle.imap_command.specs.Keys.{key_text}
use Rattle.imap_command.proofs.KeySteps.{group_text, put_step, put_end}
use Rattle.imap_command.proofs.keys.+printing.Goals as goal

pub put_key-returns-in_ok-put_keys-in-Group : goal.put_key-returns-in_ok-put_keys-in-Group
put_key-returns-in_ok-put_keys-in-Group t c =
    let text : key_text c.args.key.now ≡ 40 ∷ (list_text 32 key_text c.in-Group.keys ++ 41 ∷ []) =
    ap key_text c.in-Group.is ∙ group_text c.in-Group.keys in
    grind (arith, common_steps)

pub put_keys-loop-i-preserved : goal.put_keys-loop-i-preserved
put_keys-loop-i-preserved t c =
    put_step c.loop-i.out c.args.out.now c.loop-i.i c.args.keys.now c.loop-i.invariant c.put_separator.new.out c.put_key.new.out c.index-keys-i.result
    c.in_ok-put_separator.ensures c.in_ok-put_key.ensures c.loop-i-test.true c.index-keys-i.is

pub put_keys-returns : goal.put_keys-returns
put_keys-returns t c = put_end c.loop-i.out c.args.out.now c.loop-i.i c.args.keys.now c.loop-i.invariant c.loop-i-test.false
