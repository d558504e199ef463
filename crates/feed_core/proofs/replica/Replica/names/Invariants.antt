use Rattle.std.proofs.Common.{◌≡◌, ◌++◌, filter, map}
use Rattle.feed_core.specs.Listing.{name_in, is_mailbox_in, mailbox_names}
use Rattle.feed_core.proofs.replica.Replica.names.Given as goal

-- the names so far, and those of the records to come
abbrev pub invariant-loop-name : goal.invariant-loop-name
invariant-loop-name l = l.names ++ map name_in (filter is_mailbox_in l.name-iterator) ≡ mailbox_names l.self.records
