use Rattle.std.proofs.Common.{◌≡◌, ◌++◌}
use Rattle.mail_store.specs.Expunge.{deleted_among}
use Rattle.mail_store.proofs.expunging.deleted_among.Given as goal

abbrev pub invariant-loop-uid : goal.invariant-loop-uid
invariant-loop-uid l = l.uids ++ deleted_among l.from.messages l.uid-iterator ≡ deleted_among l.from.messages l.named.keys
