-- What there is of a message, by its number (RFC 9051, 7.5.2): each part is an item and its value.
use Rattle.std.specs.Prelude.{ℕ, List, ◌++◌, codes, decimal}
use Rattle.imap_reply.specs.Spaced.{spaced_text}

unfoldable pub fetch_line : ℕ → List (List ℕ) → List ℕ
fetch_line number parts = codes "* " ++ decimal number ++ codes " FETCH (" ++ spaced_text parts ++ codes ")\r\n"
