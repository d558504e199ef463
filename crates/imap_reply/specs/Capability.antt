-- What the server can do (RFC 9051, 7.2.2).
use Rattle.std.specs.Prelude.{ℕ, List, codes}

unfoldable pub capability_line : List ℕ
capability_line = codes "* CAPABILITY IMAP4rev2 AUTH=PLAIN\r\n"
