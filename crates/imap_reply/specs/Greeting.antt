-- What a connection is given first (RFC 9051, 7.1.1).
use Rattle.std.specs.Prelude.{ℕ, List, codes}

unfoldable pub greeting : List ℕ
greeting = codes "* OK [CAPABILITY IMAP4rev2 AUTH=PLAIN] murder ready\r\n"
