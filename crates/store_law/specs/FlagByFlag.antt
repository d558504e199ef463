-- What a STORE makes of a message's flags, flag by flag (RFC 9051, 2.3.2 and 6.4.6).
use Rattle.std.specs.Prelude.{◌≡◌, ◌⊎◌, ◌↔◌, true}
use Rattle.std.specs.List.{Contains}
use Rattle.mail_message.specs.FlagSets.{Flags}
use Rattle.mail_message.specs.declared.flag_name.FlagName.{FlagName}
use Rattle.mail_message.specs.declared.flag_name.FlagName.TheVariants.{System, Keyword}
use Rattle.mail_message.specs.declared.mode.Mode.{Mode}
use Rattle.mail_message.specs.declared.mode.Mode.TheVariants.{Replace, Add, Remove}
use Rattle.mail_message.specs.declared.system_flags.SystemFlag.TheVariants.{Answered, Flagged, Deleted, Seen, Draft}

-- a flag is one of these: a system flag that is set, or a keyword that stands among the keywords, byte by byte
abbrev pub HasFlag : Flags → FlagName → Type 0
HasFlag flags (System Answered) = flags.system.answered ≡ true
HasFlag flags (System Flagged) = flags.system.flagged ≡ true
HasFlag flags (System Deleted) = flags.system.deleted ≡ true
HasFlag flags (System Seen) = flags.system.seen ≡ true
HasFlag flags (System Draft) = flags.system.draft ≡ true
HasFlag flags (Keyword keyword) = Contains flags.keywords keyword

-- Whether a message has a flag after a STORE, by whether it had it and whether the STORE lists it. FLAGS: those that are listed, and no others; +FLAGS:
-- these too; -FLAGS: these no longer.
abbrev pub IsByMode : Mode → Type 0 → Type 0 → Type 0 → Type 0
IsByMode Replace had listed has = has ↔ listed
IsByMode Add had listed has = has ↔ (had ⊎ listed)
IsByMode Remove had listed has = has ↔ (had × (listed → ⊥))

-- each flag
abbrev pub AreStored : Mode → Flags → Flags → Flags → Type 0
AreStored mode listed old new = (flag : FlagName) → IsByMode mode (HasFlag old flag) (HasFlag listed flag) (HasFlag new flag)
