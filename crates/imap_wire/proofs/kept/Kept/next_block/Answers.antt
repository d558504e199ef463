-- The last block becomes one of the full ones.
use Rattle.std.proofs.Common.{◌∙◌, ◌∷◌, ◌++◌, List, [], length, ap, arith}
use Rattle.imap_wire.specs.declared.block.Block.{Block}
use Rattle.imap_wire.proofs.BlockLaws.{joined-next, halves-next}
use Rattle.imap_wire.proofs.kept.Kept.next_block.Goals as goal

pub returns-clause-bytes : goal.returns-clause-bytes
returns-clause-bytes c =
    joined-next c.args.self.now.full.items c.push_reserved.new.self.items c.args.self.now.last c.replace-before.new.dest c.replace-before.result
    (c.push_reserved.ensures.items ∙ ap (λ (l : List Block). l ++ c.replace-before.result ∷ []) c.in_ok-reserve.ensures.items)
    c.replace-before.ensures.value (ap (λ (b : Block). b.bytes.items) c.replace-before.ensures.after ∙ c.in_ok-new.ensures.bytes)

pub invariant_of-self-2-clause-twice : goal.invariant_of-self-2-clause-twice
invariant_of-self-2-clause-twice c =
    let same =
    joined-next c.args.self.now.full.items c.push_reserved.new.self.items c.args.self.now.last c.replace-before.new.dest c.replace-before.result
    (c.push_reserved.ensures.items ∙ ap (λ (l : List Block). l ++ c.replace-before.result ∷ []) c.in_ok-reserve.ensures.items)
    c.replace-before.ensures.value (ap (λ (b : Block). b.bytes.items) c.replace-before.ensures.after ∙ c.in_ok-new.ensures.bytes) in
    omega (arith, ap length same, c.args.self.now.twice)

pub invariant_of-self-2-clause-halves : goal.invariant_of-self-2-clause-halves
invariant_of-self-2-clause-halves c =
    let moved = c.replace-before.ensures.value in
    halves-next c.args.self.now.full.items c.push_reserved.new.self.items c.replace-before.result
    (c.push_reserved.ensures.items ∙ ap (λ (l : List Block). l ++ c.replace-before.result ∷ []) c.in_ok-reserve.ensures.items)
    c.args.self.now.halves (rw moved c.requires.half)
