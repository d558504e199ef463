use Rattle.std.proofs.Common.{◌≡◌, ℕ, ◌+◌, ◌<◌, ◌≤◌, ◌^◌, ◌∙◌, ap, arith}
use Rattle.node_cell.specs.Stamps.{next_stamp}
use Rattle.node_cell.proofs.BatchLaws.{line_passes, measured_all, measured_on, stamp_passes}
use Rattle.node_cell.proofs.measure_all.behind_all.Goals as goal

pub returns-in_default-checked_add-clause-none : goal.returns-in_default-checked_add-clause-none
returns-in_default-checked_add-clause-none c =
    let great : 2 ^ 64 ≤ next_stamp c.loop-first.stamp c.in-Some.first.now.0 = omega (arith, c.max.ensures, c.in_default-checked_add.ensures) in
    stamp_passes c.args.name.now c.args.last c.args.left c.args.inputs.now c.loop-first.stamp c.loop-first.room c.loop-first.rest.now c.in-Some.behind.now
    c.in-Some.first.now c.loop-first.invariant c.in-Some.ensures.cases.0 great

pub returns-in_default-room_behind-clause-none : goal.returns-in_default-room_behind-clause-none
returns-in_default-room_behind-clause-none c =
    line_passes c.args.name.now c.args.last c.args.left c.args.inputs.now c.loop-first.stamp c.loop-first.room c.loop-first.rest.now c.in-Some.behind.now
    c.in-Some.first.now c.loop-first.invariant c.in-Some.ensures.cases.0 c.in_default-room_behind.ensures

pub loop-first-preserved : goal.loop-first-preserved
loop-first-preserved c =
    let is : c.in-Some-checked_add.next ≡ next_stamp c.loop-first.stamp c.in-Some.first.now.0 =
    c.in-Some-checked_add.ensures.1 ∙ ap (λ (n : ℕ). n + 1) c.max.ensures in
    let fits : c.in-Some-checked_add.next < 2 ^ 64 = omega (arith, c.in-Some-checked_add.ensures.0, c.in-Some-checked_add.ensures.1) in
    measured_on c.args.name.now c.args.last c.args.left c.args.inputs.now c.loop-first.stamp c.loop-first.room c.in-Some-checked_add.next
    c.in-Some-room_behind.less c.loop-first.rest.now c.in-Some.behind.now c.in-Some.first.now c.loop-first.invariant c.in-Some.ensures.cases.0 is fits
    c.in-Some-room_behind.ensures

pub returns-clause-stamp : goal.returns-clause-stamp
returns-clause-stamp c = (
  (measured_all c.args.name.now c.args.last c.args.left c.args.inputs.now c.loop-first.stamp c.loop-first.room c.loop-first.rest.now
      c.loop-first.invariant c.in_default.ensures.cases).0,
  c.loop-first.invariant.fits,
)

pub returns-clause-room : goal.returns-clause-room
returns-clause-room c =
    (measured_all c.args.name.now c.args.last c.args.left c.args.inputs.now c.loop-first.stamp c.loop-first.room c.loop-first.rest.now
    c.loop-first.invariant c.in_default.ensures.cases).1
