-- The flags of a message (RFC 9051, 2.3.2), and what STORE makes of them (RFC 9051, 6.4.6).
use Rattle.std.specs.Prelude.{◌≡◌, ◌⊎◌, ◌<◌, ℕ, Bool, true, false, nat_lt, if◌then◌else◌, List, [], length, None, Result, Ok, Err, MatchResult, All}
use Rattle.mur_base.specs.declared.limits.TheConstants.{MESSAGE_KEYWORD_LIMIT}
use Rattle.mail_message.specs.declared.system_flags.SystemFlags.{SystemFlags}
use Rattle.mail_message.specs.declared.flag_name.FlagName.{FlagName}
use Rattle.mail_message.specs.declared.flag_name.FlagName.TheVariants.{System, Keyword}
use Rattle.mail_message.specs.declared.flag_name.FlagFault.{FlagFault}
use Rattle.mail_message.specs.declared.flag_name.FlagFault.TheVariants.{TooMany, Memory}
use Rattle.mail_message.specs.declared.mode.Mode.{Mode}
use Rattle.mail_message.specs.declared.mode.Mode.TheVariants.{Replace, Add, Remove}
use Rattle.mail_message.specs.SystemFlags.{no_system_flags, system_flag_in, with_system_flag, system_flags_or, system_flags_but}
use Rattle.mail_message.specs.Keywords.{keyword_fault, keyword_in, with_keyword, without_keyword, with_keywords, without_keywords}

-- the flags of a message: its keywords stand in byte order
pub record Flags : Type 0 where
  pub system : SystemFlags
  pub keywords : List (List ℕ)

-- each keyword meets the rule of keywords
abbrev pub HasRuledKeywords : Flags → Type 0
HasRuledKeywords flags = All (λ keyword. keyword_fault keyword ≡ None) flags.keywords

abbrev pub no_flags : Flags
no_flags = record { system = no_system_flags; keywords = [] }

abbrev pub has_flag : Flags → FlagName → Bool
has_flag flags (System flag) = system_flag_in flags.system flag
has_flag flags (Keyword keyword) = keyword_in flags.keywords keyword

abbrev pub with_flag : Flags → FlagName → Flags
with_flag flags (System flag) = record flags { system = with_system_flag flags.system flag true }
with_flag flags (Keyword keyword) = record flags { keywords = with_keyword flags.keywords keyword }

abbrev pub without_flag : Flags → FlagName → Flags
without_flag flags (System flag) = record flags { system = with_system_flag flags.system flag false }
without_flag flags (Keyword keyword) = record flags { keywords = without_keyword flags.keywords keyword }

-- what a STORE of some flags makes of a message's (RFC 9051, 6.4.6)
abbrev pub flags_after : Mode → Flags → Flags → Flags
flags_after Replace old flags = flags
flags_after Add old flags = record { system = system_flags_or old.system flags.system; keywords = with_keywords old.keywords flags.keywords }
flags_after Remove old flags = record { system = system_flags_but old.system flags.system; keywords = without_keywords old.keywords flags.keywords }

-- more keywords than a message may have
abbrev pub has_too_many : Flags → Bool
has_too_many flags = nat_lt MESSAGE_KEYWORD_LIMIT (length flags.keywords)

-- the flags, unless they are too many
abbrev pub limited : Flags → Result Flags FlagFault
limited flags = if has_too_many flags then Err TooMany else Ok flags

abbrev pub IsMadeBy : Bool → Flags → Result Flags FlagFault → Type 0
IsMadeBy true flags result = (result ≡ Err TooMany) ⊎ (result ≡ Err Memory)
IsMadeBy false flags result = MatchResult result (λ made. made ≡ flags) (λ fault. fault ≡ Memory)

-- the result is these flags: refused where they are too many, and where memory is wanting
abbrev pub IsMade : Flags → Result Flags FlagFault → Type 0
IsMade flags result = IsMadeBy (has_too_many flags) flags result

-- what was done to flags, as a result that holds them as they are now
abbrev pub now_holding : {A E : Type 0} → Flags → Result A E → Result Flags E
now_holding flags (Ok done) = Ok flags
now_holding flags (Err fault) = Err fault

-- why these keywords weren't made: memory is wanting, or they are too many
abbrev pub IsNoRoom : List (List ℕ) → FlagFault → Type 0
IsNoRoom keywords fault = (fault ≡ Memory) ⊎ ((fault ≡ TooMany) × (MESSAGE_KEYWORD_LIMIT < length keywords))
