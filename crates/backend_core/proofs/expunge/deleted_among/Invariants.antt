use Rattle.std.proofs.Common.{◌≡◌, ◌++◌}
use Rattle.mail_store.specs.Expunge.{deleted_among}
use Rattle.backend_core.proofs.expunge.deleted_among.Given as goal

-- the UIDs so far
abbrev pub invariant-loop-uid : goal.invariant-loop-uid
invariant-loop-uid l = l.uids ++ deleted_among l.content.messages l.uid-iterator ≡ deleted_among l.content.messages l.named.keys
