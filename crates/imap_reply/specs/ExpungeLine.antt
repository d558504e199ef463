-- The number of a message that is no more (RFC 9051, 7.5.1).
use Rattle.std.specs.Prelude.{ℕ, List, ◌++◌, codes, decimal}

unfoldable pub expunge_line : ℕ → List ℕ
expunge_line number = codes "* " ++ decimal number ++ codes " EXPUNGE\r\n"
