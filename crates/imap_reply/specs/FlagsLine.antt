-- The flags of a mailbox (RFC 9051, 7.3.5), each in the place where it is given (RFC 9051, 9: flag-list).
use Rattle.std.specs.Prelude.{ℕ, List, ◌++◌, codes, map}
use Rattle.mail_message.specs.declared.flag_name.FlagName.{FlagName}
use Rattle.imap_text.specs.FlagNames.{flag_text}
use Rattle.imap_reply.specs.Spaced.{spaced_text}

-- flags with a space between each two
unfoldable pub flag_names_text : List FlagName → List ℕ
flag_names_text flags = spaced_text (map flag_text flags)

unfoldable pub flags_line : List FlagName → List ℕ
flags_line flags = codes "* FLAGS (" ++ flag_names_text flags ++ codes ")\r\n"
