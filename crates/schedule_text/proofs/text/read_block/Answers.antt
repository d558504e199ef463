use Rattle.std.proofs.Common.{◌≡◌, arith}
use Rattle.std.proofs.lemmas.Grind.{common_steps}
use Rattle.schedule_text.specs.declared.text.Spelling.TheVariants.{Between}
use Rattle.schedule_text.proofs.TextLaws.{plain_read}
use Rattle.schedule_text.proofs.text.read_block.Goals as goal
use Rattle.schedule_text.proofs.text.read_block.Goals.{in-Between, in_default}

pub returns-then-are_plain-clause-reads : goal.returns-then-are_plain-clause-reads
returns-then-are_plain-clause-reads c more =
    let from_between : c.args.from ≡ Between = elim c.match-matches.branch [
      | in-Between w ↦ grind (arith, common_steps)
      | in_default w ↦ grind (arith, common_steps)
    ] in
    rw (c.in_ok-extend_from_slice.ensures.ok, from_between)
    (plain_read c.args.bytes.now c.args.block.now more c.type_inv.block (c.are_plain.ensures c.if-are_plain.true))
