use Rattle.std.proofs.Common.{◌≡◌, ◌+◌, ◌++◌, length}
use Rattle.std.specs.Vec.Iter.{into_iter_items}
use Rattle.mail_store.specs.Append.{uids_from}
use Rattle.backend_core.specs.Append.{with_uids}
use Rattle.backend_core.proofs.append.numbered.Given as goal

-- the UIDs and the messages so far
abbrev pub invariant-loop-message : goal.invariant-loop-message
invariant-loop-message l = record {
  uids : l.uids ++ uids_from l.uid (into_iter_items l.message-iterator) ≡ uids_from l.first l.fn.messages;
  made : l.made ++ with_uids l.uid (into_iter_items l.message-iterator) ≡ with_uids l.first l.fn.messages;
  count : l.uid + length (into_iter_items l.message-iterator) ≡ l.first + length l.fn.messages;
}
