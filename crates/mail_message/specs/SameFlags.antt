-- Whether two messages have the same flags (RFC 9051, 2.3.2).
use Rattle.std.specs.Prelude.{Bool, ◌&&◌, bytes_eq}
use Rattle.std.specs.Bool.{beq}
use Rattle.std.specs.Cmp.Lexicographic.{pointwise}
use Rattle.mail_message.specs.declared.system_flags.SystemFlags.{SystemFlags}
use Rattle.mail_message.specs.FlagSets.{Flags}

abbrev pub is_same_system : SystemFlags → SystemFlags → Bool
is_same_system one other =
    beq one.answered other.answered && (beq one.flagged other.flagged
    && (beq one.deleted other.deleted && (beq one.seen other.seen && beq one.draft other.draft)))

-- the same system flags, and the same keywords, byte by byte
unfoldable pub is_same_flags : Flags → Flags → Bool
is_same_flags one other = is_same_system one.system other.system && pointwise bytes_eq one.keywords other.keywords
