use Rattle.std.proofs.Common.{◌≡◌, ◌++◌, map}
use Rattle.std.specs.Vec.Iter.{into_iter_items}
use Rattle.mail_message.specs.declared.change.Change.TheVariants.{Put}
use Rattle.node_record.proofs.HeldLaw.{uid_of, last_of}
use Rattle.node_record.proofs.held.puts.Given as goal

-- the changes so far, and the last UID
abbrev pub invariant-loop-message : goal.invariant-loop-message
invariant-loop-message l = record {
  changes : l.changes ++ map Put (into_iter_items l.message-iterator) ≡ map Put l.fn.messages;
  last : last_of l.last (into_iter_items l.message-iterator) ≡ uid_of l.fn.messages;
}
