-- What stood in the first block of the line stands before the new one.
use Rattle.std.proofs.Common.{◌≡◌, ◌-◌, ◌<◌, true, nat_lt, length, drop, ap, arith, length-append, length-drop}
use Rattle.std.proofs.lemmas.Bool.Decides.{nat_tests}
use Rattle.imap_wire.specs.Begun.{IsRoomy}
use Rattle.imap_wire.proofs.FirstLaws.{unsplit, rest-plain, rest-first, front-grown}
use Rattle.imap_wire.proofs.begun.Begun.make_line_room.Goals as goal

pub invariant_of-self-else-front_len-eq0-clause-front_is : goal.invariant_of-self-else-front_len-eq0-clause-front_is
invariant_of-self-else-front_len-eq0-clause-front_is c =
    let it = c.args.self.now in
    let rough : ¬ IsRoomy it = λ roomy. (let yes = c.is_roomy.ensures.1 roomy in cc) in
    let some : 0 < c.len.result - it.line_at = omega (arith, c.if-front_len-eq0.false) in
    let first = rest-first it rough (omega (arith, c.len.ensures)) in
    rw (front-grown (c.len.result - it.line_at) it.line_at it.kept.full.items c.next_block.new.self.full.items it.kept.last some first
    c.in_ok-next_block.ensures.full)
    (omega (arith, c.len.ensures, length-drop it.line_at it.kept.last.bytes.items))

pub invariant_of-self-else-front_len-eq0-clause-front_plain : goal.invariant_of-self-else-front_len-eq0-clause-front_plain
invariant_of-self-else-front_len-eq0-clause-front_plain c =
    let it = c.args.self.now in
    let rough : ¬ IsRoomy it = λ roomy. (let yes = c.is_roomy.ensures.1 roomy in cc) in
    let some : 0 < c.len.result - it.line_at = omega (arith, c.if-front_len-eq0.false) in
    let first = rest-first it rough (omega (arith, c.len.ensures)) in
    rw (front-grown (c.len.result - it.line_at) it.line_at it.kept.full.items c.next_block.new.self.full.items it.kept.last some first
    c.in_ok-next_block.ensures.full)
    (rest-plain it rough)

pub invariant_of-self-else-front_len-eq0-clause-line_short : goal.invariant_of-self-else-front_len-eq0-clause-line_short
invariant_of-self-else-front_len-eq0-clause-line_short c =
    let it = c.args.self.now in
    let rough : ¬ IsRoomy it = λ roomy. (let yes = c.is_roomy.ensures.1 roomy in cc) in
    let whole = unsplit it rough in
    let short = rw whole at it.line_short in
    let some : 0 < c.len.result - it.line_at = omega (arith, c.if-front_len-eq0.false) in
    let test : nat_lt 0 (c.len.result - it.line_at) ≡ true = grind (arith, nat_tests) in
    rw test (omega (arith, short, c.len.ensures, ap length c.in_ok-next_block.ensures.last))
