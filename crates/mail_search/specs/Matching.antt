-- What a search key matches (RFC 9051, 6.4.4).
use Rattle.std.specs.Prelude.{ℕ, Bool, true, not, ◌||◌, nat_lt, List}
use Rattle.std.specs.List.{list_all}
use Rattle.mail_message.specs.declared.key.Key.{Key}
use Rattle.mail_message.specs.declared.key.Key.TheOpen.{Key-F}
use Rattle.mail_message.specs.declared.key.Key.TheFolds.{fold-Key}
use Rattle.mail_message.specs.declared.message.Summary.{Summary}
use Rattle.mail_message.specs.FlagSets.{has_flag}
use Rattle.mail_message.specs.Days.{day_of, is_before, is_same_day}
use Rattle.mail_message.specs.Sets.{set_holds}

-- a test of a message that has a sequence number
abbrev pub Test : Type 0
Test = Summary → ℕ → Bool

-- what a key matches, where the tests of the keys in it stand in their places
abbrev pub matches_by : Key-F Test → Test
-- all messages
matches_by Key-F.All message number = true
-- messages with the flag set
matches_by Key-F.Answered message number = message.flags.system.answered
matches_by Key-F.Deleted message number = message.flags.system.deleted
matches_by Key-F.Draft message number = message.flags.system.draft
matches_by Key-F.Flagged message number = message.flags.system.flagged
matches_by Key-F.Seen message number = message.flags.system.seen
-- messages that don't have the flag set
matches_by Key-F.Unanswered message number = not message.flags.system.answered
matches_by Key-F.Undeleted message number = not message.flags.system.deleted
matches_by Key-F.Undraft message number = not message.flags.system.draft
matches_by Key-F.Unflagged message number = not message.flags.system.flagged
matches_by Key-F.Unseen message number = not message.flags.system.seen
-- messages with the keyword set, and those that don't have it set
matches_by (Key-F.Keyword flag) message number = has_flag message.flags flag
matches_by (Key-F.Unkeyword flag) message number = not (has_flag message.flags flag)
-- messages with a size larger than the number of octets, and smaller than it
matches_by (Key-F.Larger size) message number = nat_lt size message.size
matches_by (Key-F.Smaller size) message number = nat_lt message.size size
-- messages whose internal date, disregarding time and timezone, is earlier than the date, within it, and within or later than it
matches_by (Key-F.Before day) message number = is_before (day_of message.date) day
matches_by (Key-F.On day) message number = is_same_day (day_of message.date) day
matches_by (Key-F.Since day) message number = not (is_before (day_of message.date) day)
-- messages whose unique identifier is in the set, and those whose sequence number is in it
matches_by (Key-F.Uid set) message number = set_holds set message.uid
matches_by (Key-F.Numbers set) message number = set_holds set number
-- messages that don't match the key
matches_by (Key-F.Not test) message number = not (test message number)
-- messages that match either key
matches_by (Key-F.Or one other) message number = one message number || other message number
-- messages that match all of the keys
matches_by (Key-F.Group tests) message number = list_all (λ (test : Test). test message number) tests

-- what a key matches
abbrev pub key_matches : Key → Test
key_matches = fold-Key Test matches_by

-- several keys mean all of them
abbrev pub all_match : List Key → Test
all_match keys message number = list_all (λ key. key_matches key message number) keys
