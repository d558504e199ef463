-- What a SEARCH found (RFC 9051, 7.3.4): the tag of its command, whether the numbers are UIDs, and the numbers, if there are any.
use Rattle.std.specs.Prelude.{ℕ, Bool, true, false, List, [], ◌∷◌, ◌++◌, codes}
use Rattle.imap_types.specs.declared.command.Tag.{Tag}
use Rattle.imap_reply.specs.Sets.{set_text}
use Rattle.imap_text.specs.Tags.{tag_text}

unfoldable pub uid_word : Bool → List ℕ
uid_word true = codes " UID"
uid_word false = []

unfoldable pub all_text : List ℕ → List ℕ
all_text [] = []
all_text (number ∷ numbers) = codes " ALL " ++ set_text (number ∷ numbers)

unfoldable pub search_line : Tag → Bool → List ℕ → List ℕ
search_line tag by_uid numbers =
    codes "* ESEARCH (TAG \"" ++ tag_text tag ++ codes "\")" ++ uid_word by_uid ++ all_text numbers ++ codes "\r\n"
