-- Untagged lines OK with the response codes of a mailbox that is selected (RFC 9051, 7.1 and 7.1.1).
use Rattle.std.specs.Prelude.{ℕ, Bool, true, false, List, [], ◌∷◌, ◌++◌, codes, decimal, map}
use Rattle.mail_message.specs.declared.flag_name.FlagName.{FlagName}
use Rattle.imap_reply.specs.Spaced.{spaced_text}
use Rattle.imap_text.specs.FlagNames.{flag_text}

unfoldable pub closed_line : List ℕ
closed_line = codes "* OK [CLOSED] closed\r\n"

-- the client can make keywords
abbrev pub new_keywords : List ℕ
new_keywords = codes "\\*"

-- the flags that the client can change, and whether it can make keywords
unfoldable pub permanent_texts : List FlagName → Bool → List (List ℕ)
permanent_texts flags true = map flag_text flags ++ new_keywords ∷ []
permanent_texts flags false = map flag_text flags

unfoldable pub permanent_line : List FlagName → Bool → List ℕ
permanent_line flags new = codes "* OK [PERMANENTFLAGS (" ++ spaced_text (permanent_texts flags new) ++ codes ")] flags\r\n"

unfoldable pub uid_next_line : ℕ → List ℕ
uid_next_line uid = codes "* OK [UIDNEXT " ++ decimal uid ++ codes "] next\r\n"

unfoldable pub uid_validity_line : ℕ → List ℕ
uid_validity_line serial = codes "* OK [UIDVALIDITY " ++ decimal serial ++ codes "] validity\r\n"
