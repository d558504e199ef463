use Rattle.std.proofs.Common.{◌≡◌, ◌+◌, ◌++◌, length}
use Rattle.std.specs.Vec.Iter.{into_iter_items}
use Rattle.mail_store.specs.Append.{uids_from, puts_from}
use Rattle.mail_store.proofs.append.puts.Given as goal

abbrev pub invariant-loop-message : goal.invariant-loop-message
invariant-loop-message l = record {
  uids : l.uids ++ uids_from l.uid (into_iter_items l.message-iterator) ≡ uids_from l.first l.fn.list;
  changes : l.changes ++ puts_from l.uid (into_iter_items l.message-iterator) ≡ puts_from l.first l.fn.list;
  count : l.uid + length (into_iter_items l.message-iterator) ≡ l.first + length l.fn.list;
}
