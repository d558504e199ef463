use Rattle.std.proofs.Common.{◌∙◌, ap, ◌<◌, ◌≡◌, ◌+◌, ◌^◌, ℕ, arith}
use Rattle.node_cell.specs.Stamps.{next_stamp}
use Rattle.node_cell.proofs.LogLaws.{full_by_line, next_by}
use Rattle.node_cell.proofs.cell.Cell.behind.Goals as goal

pub returns-in_default-room_behind-clause-full : goal.returns-in_default-room_behind-clause-full
returns-in_default-room_behind-clause-full g c =
    full_by_line c.args.self.now.name c.args.self.now.log c.args.self.now.stamp c.args.heard c.args.self.now.room c.args.input.now c.args.self.now.limited
    c.in_default-room_behind.ensures

pub returns-clause-room : goal.returns-clause-room
returns-clause-room g c =
    let is : c.in-Some.stamp ≡ next_stamp c.args.self.now.stamp c.args.heard = c.in-Some.ensures.1 ∙ ap (λ (n : ℕ). n + 1) c.max.ensures in
    let fits : c.in-Some.stamp < 2 ^ 64 = omega (arith, c.in-Some.ensures.0, c.in-Some.ensures.1) in
    next_by c.args.self.now.name c.args.self.now.log c.args.self.now.stamp c.args.heard c.args.self.now.room c.in-Some.stamp c.in-Some-room_behind.room
    c.args.input.now c.args.self.now.limited is fits c.in-Some-room_behind.ensures
