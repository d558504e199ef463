-- The mailboxes of a replica.
use Rattle.std.specs.Prelude.{ℕ, Bool, List, map, filter}
use Rattle.feed_core.specs.declared.rec.Rec.{Rec}
use Rattle.feed_core.specs.Feed.{Recs, is_mailbox}

abbrev pub name_in : List ℕ × Rec → List ℕ
name_in entry = entry.0

abbrev pub is_mailbox_in : List ℕ × Rec → Bool
is_mailbox_in entry = is_mailbox entry.1

-- the names of the mailboxes
abbrev pub mailbox_names : Recs → List (List ℕ)
mailbox_names recs = map name_in (filter is_mailbox_in recs)
