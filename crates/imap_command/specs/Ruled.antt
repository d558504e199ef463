-- What each command keeps that a frame spells: its flags have keywords by their rule (RFC 9051, 9: flag-keyword), its date is one (date-time), and
-- its message is a part of the frame.
use Rattle.std.specs.Prelude.{◌≡◌, ℕ, ◌<◌, ⊤, true, List, length, IfSome}
use Rattle.mail_message.specs.Date.{is_date}
use Rattle.mail_message.specs.FlagSets.{HasRuledKeywords}
use Rattle.imap_types.specs.declared.command.Command.{Command}
use Rattle.imap_types.specs.declared.command.Command.TheVariants.{Append, Store}

abbrev pub IsDate : List ℕ → Type 0
IsDate date = is_date date ≡ true

-- of a frame of fewer bytes than the limit
abbrev pub IsRuled : ℕ → Command → Type 0
IsRuled limit (Append mailbox flags date message) = HasRuledKeywords flags × (IfSome date IsDate × (length message < limit))
IsRuled limit (Store by_uid set mode is_silent flags) = HasRuledKeywords flags
IsRuled limit it = ⊤
