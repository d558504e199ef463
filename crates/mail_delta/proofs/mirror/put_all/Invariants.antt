use Rattle.std.proofs.Common.{◌≡◌, drop}
use Rattle.std.specs.List.{fold}
use Rattle.mail_message.specs.RowOrder.{AreRising}
use Rattle.mail_delta.specs.Deltas.{with_row}
use Rattle.mail_delta.proofs.mirror.put_all.Given as goal

abbrev pub invariant-loop-row : goal.invariant-loop-row
invariant-loop-row l = record {
  rows : fold with_row l.rows.items (drop l.row-index l.changed) ≡ fold with_row l.initial.rows.items l.changed;
  rising : AreRising l.rows.items;
}
