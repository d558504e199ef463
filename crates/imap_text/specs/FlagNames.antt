-- The names of flags (RFC 9051, 9: flag).
use Rattle.std.specs.Prelude.{ℕ, List, ◌∷◌, codes}
use Rattle.mur_base.specs.Ascii.{backslash}
use Rattle.mail_message.specs.declared.flag_name.FlagName.{FlagName}
use Rattle.mail_message.specs.declared.flag_name.FlagName.TheVariants.{System, Keyword}
use Rattle.mail_message.specs.declared.system_flags.SystemFlag.{SystemFlag}
use Rattle.mail_message.specs.declared.system_flags.SystemFlag.TheVariants.{Answered, Flagged, Deleted, Seen, Draft}

-- behind the backslash
unfoldable pub system_text : SystemFlag → List ℕ
system_text Answered = codes "Answered"
system_text Flagged = codes "Flagged"
system_text Deleted = codes "Deleted"
system_text Seen = codes "Seen"
system_text Draft = codes "Draft"

abbrev pub flag_text : FlagName → List ℕ
flag_text (System flag) = backslash ∷ system_text flag
flag_text (Keyword keyword) = keyword
