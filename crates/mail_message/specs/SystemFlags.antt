-- The system flags of a message (RFC 9051, 2.3.2).
use Rattle.std.specs.Prelude.{Bool, false, ◌&&◌, ◌||◌, not}
use Rattle.mail_message.specs.declared.system_flags.SystemFlag.{SystemFlag}
use Rattle.mail_message.specs.declared.system_flags.SystemFlag.TheVariants.{Answered, Flagged, Deleted, Seen, Draft}
use Rattle.mail_message.specs.declared.system_flags.SystemFlags.{SystemFlags}

abbrev pub no_system_flags : SystemFlags
no_system_flags = record { answered = false; flagged = false; deleted = false; seen = false; draft = false }

abbrev pub system_flag_in : SystemFlags → SystemFlag → Bool
system_flag_in flags Answered = flags.answered
system_flag_in flags Flagged = flags.flagged
system_flag_in flags Deleted = flags.deleted
system_flag_in flags Seen = flags.seen
system_flag_in flags Draft = flags.draft

-- one of the flags set or taken away
abbrev pub with_system_flag : SystemFlags → SystemFlag → Bool → SystemFlags
with_system_flag flags Answered is_set = record flags { answered = is_set }
with_system_flag flags Flagged is_set = record flags { flagged = is_set }
with_system_flag flags Deleted is_set = record flags { deleted = is_set }
with_system_flag flags Seen is_set = record flags { seen = is_set }
with_system_flag flags Draft is_set = record flags { draft = is_set }

-- the flags of either
abbrev pub system_flags_or : SystemFlags → SystemFlags → SystemFlags
system_flags_or a b = record {
  answered = a.answered || b.answered;
  flagged = a.flagged || b.flagged;
  deleted = a.deleted || b.deleted;
  seen = a.seen || b.seen;
  draft = a.draft || b.draft;
}

-- the flags of the first that the second lacks
abbrev pub system_flags_but : SystemFlags → SystemFlags → SystemFlags
system_flags_but a b = record {
  answered = a.answered && not b.answered;
  flagged = a.flagged && not b.flagged;
  deleted = a.deleted && not b.deleted;
  seen = a.seen && not b.seen;
  draft = a.draft && not b.draft;
}
