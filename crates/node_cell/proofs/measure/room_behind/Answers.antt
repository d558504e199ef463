use Rattle.std.proofs.Common.{◌≡◌, ℕ, ◌+◌, length, decimal, ap, sym, subst, arith, ◌∙◌}
use Rattle.node_cell.specs.Lines.{line_length}
use Rattle.node_cell.specs.Rest.{IsRest}
use Rattle.node_cell.proofs.LineLaws.{from-length, hung-length}
use Rattle.node_cell.proofs.measure.room_behind.Goals as goal

pub returns-in-Hung : goal.returns-in-Hung
returns-in-Hung c =
    let same : 6 + c.digits-in-Hung.result ≡ 6 + length (decimal c.in-Hung.conn) = omega (arith, c.digits-in-Hung.ensures.length) in
    subst (λ (taken : ℕ). IsRest c.args.room taken c.behind-in-Hung.result)
    (same ∙ sym (ap (line_length c.args.name.now) c.in-Hung.is ∙ hung-length c.args.name.now c.in-Hung.conn)) c.behind-in-Hung.ensures

pub returns-in-From : goal.returns-in-From
returns-in-From c =
    let same : 10 + c.name_size-in-From.result + c.name_size-in-From-2.result ≡ 10 + length c.in-From.sender + length c.args.name.now =
    omega (arith, c.name_size-in-From.ensures.size, c.name_size-in-From-2.ensures.size) in
    subst (λ (taken : ℕ). IsRest c.args.room taken c.behind-in-From.result)
    (same ∙ sym (ap (line_length c.args.name.now) c.in-From.is ∙ from-length c.args.name.now c.in-From.sender c.in-From.field-1))
    c.behind-in-From.ensures
