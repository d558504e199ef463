use Rattle.std.proofs.Common.{◌≡◌, drop}
use Rattle.std.specs.List.{fold}
use Rattle.std.specs.Ordering.{nat_cmp}
use Rattle.std.specs.BTreeSet.{insert_key}
use Rattle.mail_store.specs.Named.{set_of}
use Rattle.mail_store.proofs.named.set_of.Given as goal

abbrev pub invariant-loop-uid : goal.invariant-loop-uid
invariant-loop-uid l = fold (insert_key nat_cmp) l.set.keys (drop l.uid-index l.uids) ≡ set_of l.uids
