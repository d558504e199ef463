-- The number of messages in the mailbox (RFC 9051, 7.4.1).
use Rattle.std.specs.Prelude.{ℕ, List, ◌++◌, codes, decimal}

unfoldable pub exists_line : ℕ → List ℕ
exists_line count = codes "* " ++ decimal count ++ codes " EXISTS\r\n"
