use Rattle.std.proofs.Common.{◌≡◌, ◌++◌, false}
use Rattle.mail_message.specs.RowOrder.{HaveNext}
use Rattle.mail_store.specs.Store.{stored_rows, has_too_many_flags}
use Rattle.mail_store.proofs.store.rows_after.Given as goal

abbrev pub invariant-loop-uid : goal.invariant-loop-uid
invariant-loop-uid l = record {
  rows : l.rows ++ stored_rows l.from.messages l.mode l.flags l.uid-iterator ≡ stored_rows l.from.messages l.mode l.flags l.named.keys;
  few : has_too_many_flags l.rows ≡ false;
  next : HaveNext l.rows;
}
